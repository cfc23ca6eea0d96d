-- The search step by step: a turn is kept where it lowers the class of the row by one.
use Rattle.std.proofs.Common.{◌≡◌, ℕ, suc, ◌+◌, ◌<◌, ◌≤◌, Bool, ◌≢◌, sym, ap, ◌∙◌, subst, inl, inr, arith}
use Rattle.std.proofs.lemmas.Bool.{cases_lt}
use Rattle.galois.specs.Model.{FieldModel, FieldLaws, units}
use Rattle.galois.specs.Rows.{power_sum, Few}
use Rattle.galois.proofs.Distances.{apart, same_or_other, Turns, turn_nearer, turn_farther}
use Rattle.decoding.proofs.Within.{Within}
use Rattle.decoding.proofs.Shown.{class_at, class_is_apart, class_past, class_bound, clean-code, code_clean}
use Rattle.decoding.proofs.Tracks.{Track, Found, NoneWithin, track_start, track-leave, track-turn, track_within, track_found, track_none}

-- what the search knows before position p: the class k of the row as it stands, and that there is room for k more turns
pub record Steps (F : FieldModel) (t : ℕ) (c x : ℕ → Bool) (p count k : ℕ) : Type 0 where
  pub track : Track F t c x p count
  pub class : k ≡ class_at F t x
  pub room : k ≤ 3 → count + k ≤ t

module _ (F : FieldModel) (l : FieldLaws F) (t : ℕ) (few : Few t) where
  module _ (x y d : ℕ → Bool) (p : ℕ) (W : Within F t x d) (lt : p < units F) (turn : Turns x y p) where
    -- the class falls by one where x differs from the code row near it
    pub falls-there : x p ≢ d p → suc (class_at F t y) ≡ class_at F t x
    falls-there other =
        let w = turn_nearer x y d p (units F) turn lt other in
        let z = W.close in
        let e = class_is_apart F l t few x d W in
        let u = class_is_apart F l t few y d (record { code = W.code; close = omega arith }) in
        omega arith

    -- and nowhere else
    pub falls-only : suc (class_at F t y) ≡ class_at F t x → x p ≢ d p
    falls-only fall same =
        let w = turn_farther x y d p (units F) turn lt same in
        let z = W.close in
        let e = class_is_apart F l t few x d W in
        elim (cases_lt (apart x d (units F)) t) [
          | inl less ↦ let u = class_is_apart F l t few y d (record { code = W.code; close = omega arith }) in omega arith
          | inr full ↦ class_past F l t few y d W.code (omega arith) (omega arith)
        ]

  -- a class past t shows that no code row is within t
  pub beyond_none : (c : ℕ → Bool) (k : ℕ) → k ≡ class_at F t c → t < k → NoneWithin F t c
  beyond_none c k e past d W = let z = class_is_apart F l t few c d W in let w = W.close in omega arith

  pub steps_start : (c : ℕ → Bool) (k : ℕ) → k ≡ class_at F t c → Steps F t c c 0 0 k
  steps_start c k e = record {
    track = track_start F t c;
    class = e;
    room = λ h.
        let z = class_bound F t (power_sum F 1 c (units F)) (power_sum F 3 c (units F)) (power_sum F 5 c (units F)) few (subst (λ n. n ≤ 3) e h) in
        omega arith;
  }

  module _ (c x y : ℕ → Bool) (p count k k' : ℕ) (K : Steps F t c x p count k) (lt : p < units F) (turn : Turns x y p)
      (class : k' ≡ class_at F t y) where
    pub steps_turn : suc k' ≡ k → k ≤ 3 → Steps F t c y (p + 1) (count + 1) k'
    steps_turn fall told = record {
      track =
          track-turn F t c x y p count K.track lt turn
          (λ d W. falls-only x y d p (track_within F t c x d p count K.track W) lt turn (ap suc (sym class) ∙ fall ∙ K.class));
      class = class;
      room = λ h. let z = K.room told in omega arith;
    }

    -- a class that falls by one has room for the turn
    pub steps_room : suc k' ≡ k → k ≤ 3 → count + 1 ≤ t
    steps_room fall told = let z = K.room told in omega arith

    pub steps_leave : (suc k' ≡ k → k ≤ 3 → ⊥) → Steps F t c x (p + 1) count k
    steps_leave stays = record { track = track-leave F t c x p count K.track agrees; class = K.class; room = K.room }
      where
        agrees : (d : ℕ → Bool) → Within F t c d → x p ≡ d p
        agrees d W =
            elim (same_or_other (x p) (d p)) [
              | inl e ↦ e
              | inr other ↦
                  let V = track_within F t c x d p count K.track W in
                  let close = V.close in
                  let e = class_is_apart F l t few x d V in
                  let now = K.class in
                  absurd (stays (ap suc class ∙ falls-there x y d p V lt turn other ∙ sym K.class) (omega arith))
            ]

  -- once no error is shown the row is found, wherever the search is
  pub steps_found : (c x : ℕ → Bool) (p count k : ℕ) → Steps F t c x p count k → k ≡ 0 → Found F t c x count
  steps_found c x p count k K none =
      track_found F t c x p count K.track (clean-code F l t few x (sym K.class ∙ none)) (let z = K.room (omega arith) in omega arith)

  pub steps_none : (c x : ℕ → Bool) (p count k : ℕ) → p ≡ units F → Steps F t c x p count k → k ≢ 0 → NoneWithin F t c
  steps_none c x p count k e K some = track_none F t c x p count e K.track (λ code. some (K.class ∙ code_clean F l t few x code))
