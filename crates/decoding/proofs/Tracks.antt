-- A search that goes through the positions of a row once, turns some of them, and follows every code row near the row that it began with.
-- Rows are functions of the position: c is the row that the search began with, x the row as it stands.
use Rattle.std.proofs.Common.{◌≡◌, ℕ, suc, ◌+◌, ◌<◌, ◌≤◌, Bool, ◌≢◌, List, sym, refl, ◌∙◌, subst, inl, inr, arith}
use Rattle.std.proofs.lemmas.Bool.{cases_eq, cases_lt}
use Rattle.galois.specs.Model.{FieldModel, FieldLaws, units}
use Rattle.galois.specs.Lists.{tabulate}
use Rattle.galois.specs.Rows.{cell_of, distance, Near}
use Rattle.galois.proofs.PowerSums.{power_sum-cong}
use Rattle.galois.proofs.Distances.{apart, apart-self, apart-sym, apart-cong, apart-zero, apart-between, apart-triangle, Turns, other_is_not, turn_farther}
use Rattle.galois.proofs.Least.{Code, code_apart}
use Rattle.decoding.proofs.Within.{Within, distance-tabulate, near_tabulate, tabulate-near}

-- x is c from position p on, and every code row near c below p; it is count positions away from c
pub record Track (F : FieldModel) (t : ℕ) (c x : ℕ → Bool) (p count : ℕ) : Type 0 where
  pub later : (j : ℕ) → p ≤ j → x j ≡ c j
  pub follows : (d : ℕ → Bool) → Within F t c d → (j : ℕ) → j < p → x j ≡ d j
  pub counted : count ≡ apart x c (units F)

-- x is a code row within t positions of c, count positions away
pub record Found (F : FieldModel) (t : ℕ) (c x : ℕ → Bool) (count : ℕ) : Type 0 where
  pub within : Within F t c x
  pub counted : count ≡ apart c x (units F)

-- no code row is within t positions of c
abbrev pub NoneWithin : FieldModel → ℕ → (ℕ → Bool) → Type 0
NoneWithin F t c = (d : ℕ → Bool) → Within F t c d → ⊥

-- code rows are code rows by their first n cells
pub code_cong : (F : FieldModel) (t : ℕ) (c d : ℕ → Bool) → ((j : ℕ) → j < units F → c j ≡ d j) → Code F t d → Code F t c
code_cong F t c d same code i lt = power_sum-cong F (suc (i + i)) c d (units F) same ∙ code i lt

module _ (F : FieldModel) (t : ℕ) where
  pub track_start : (c : ℕ → Bool) → Track F t c c 0 0
  track_start c = record { later = λ j h. refl; follows = λ d W j h. absurd (omega arith); counted = sym (apart-self c (units F)) }

  -- position p stays where the code rows near c have the cell of x
  pub track-leave : (c x : ℕ → Bool) (p count : ℕ) → Track F t c x p count → ((d : ℕ → Bool) → Within F t c d → x p ≡ d p)
      → Track F t c x (p + 1) count
  track-leave c x p count T agrees = record {
    later = λ j h. T.later j (omega arith);
    follows = λ d W j h. elim (cases_eq j p) [
      | inl e ↦ subst (λ q. x q ≡ d q) (sym e) (agrees d W)
      | inr n ↦ T.follows d W j (omega arith)
    ];
    counted = T.counted;
  }

  -- and is turned where they have the other cell
  pub track-turn : (c x y : ℕ → Bool) (p count : ℕ) → Track F t c x p count → p < units F → Turns x y p
      → ((d : ℕ → Bool) → Within F t c d → x p ≢ d p) → Track F t c y (p + 1) (count + 1)
  track-turn c x y p count T lt turn differs = record {
    later = λ j h. turn.there j (omega arith) ∙ T.later j (omega arith);
    follows = λ d W j h. elim (cases_eq j p) [
      | inl e ↦
          subst (λ q. y q ≡ d q) (sym e) (turn.here ∙ sym (other_is_not (d p) (x p) (λ q. differs d W (sym q))))
      | inr n ↦ turn.there j n ∙ T.follows d W j (omega arith)
    ];
    counted = let z = T.counted in let w = turn_farther x y c p (units F) turn lt (T.later p (omega arith)) in omega arith;
  }

  -- a code row near the first row is near every row on the way
  pub track_within : (c x d : ℕ → Bool) (p count : ℕ) → Track F t c x p count → Within F t c d → Within F t x d
  track_within c x d p count T W = record {
    code = W.code;
    close =
        let z = W.close in
        let w = apart-between c x d (units F)
        (λ j h. elim (cases_lt j p) [ inl below ↦ inl (T.follows d W j below) | inr above ↦ inr (T.later j above) ]) in
        omega arith;
  }

  -- a search that is at a code row, after at most t turns, has found it
  pub track_found : (c x : ℕ → Bool) (p count : ℕ) → Track F t c x p count → Code F t x → count ≤ t → Found F t c x count
  track_found c x p count T code few =
      let n = T.counted ∙ apart-sym x c (units F) in
      record { within = record { code = code; close = omega arith }; counted = n }

  -- where it comes to its end at none, or took more turns, there is none
  pub track_none : (c x : ℕ → Bool) (p count : ℕ) → p ≡ units F → Track F t c x p count → (Code F t x → ⊥) → NoneWithin F t c
  track_none c x p count e T fails d W = fails (code_cong F t x d (λ j h. T.follows d W j (omega arith)) W.code)

  pub track_many : (c x : ℕ → Bool) (p count : ℕ) → p ≡ units F → Track F t c x p count → t < count → NoneWithin F t c
  track_many c x p count e T many d W =
      let z = T.counted in
      let w = W.close in
      let same = apart-cong x d c (units F) (λ j h. T.follows d W j (omega arith)) ∙ apart-sym d c (units F) in
      omega arith

  -- a row that is a code row is found at once
  pub found_at_once : (c : ℕ → Bool) → Code F t c → Found F t c c 0
  found_at_once c code = track_found c c 0 0 (track_start c) code (omega arith)

  -- ---- what was found, for rows as lists
  pub found-near : (c x : ℕ → Bool) (count : ℕ) → Found F t c x count
      → Near F t (tabulate c (units F)) (tabulate x (units F)) × (count ≡ distance (tabulate c (units F)) (tabulate x (units F)))
  found-near c x count R = (near_tabulate F t c x R.within, R.counted ∙ sym (distance-tabulate c x (units F)))

  pub none_near : (c : ℕ → Bool) → NoneWithin F t c → (d : List Bool) → Near F t (tabulate c (units F)) d → ⊥
  none_near c none d N = none (cell_of d) (tabulate-near F t c d N)

-- there is no other to be found
pub found_only : (F : FieldModel) → FieldLaws F → (t : ℕ) (c x d : ℕ → Bool) (count : ℕ) → Found F t c x count → Within F t c d
    → (j : ℕ) → j < units F → x j ≡ d j
found_only F l t c x d count R W =
    apart-zero x d (units F)
    (code_apart F l t x d R.within.code W.code
    (let a = R.within.close in let b = W.close in let w = apart-triangle c x d (units F) in omega arith))
