-- The search by roots: a position is turned where its element is a root of the locator of the row that the search began with.
use Rattle.std.proofs.Common.{◌≡◌, ℕ, ◌+◌, ◌<◌, ◌≤◌, Bool, ◌≢◌, sym, ◌∙◌, inl, inr, arith}
use Rattle.std.proofs.lemmas.Bool.{cases_eq}
use Rattle.galois.specs.Model.{FieldModel, FieldLaws, size, units, power}
use Rattle.galois.specs.Rows.{power_sum, Few}
use Rattle.galois.proofs.Distances.{apart, apart-zero, same_or_other, Turns}
use Rattle.galois.proofs.Least.{Code}
use Rattle.galois.specs.Ring.{numbers}
use Rattle.decoding.specs.Locators.{cubic, Locates}
use Rattle.decoding.proofs.Within.{Within}
use Rattle.decoding.proofs.Tracks.{Track, track-leave, track-turn, code_cong}
use Rattle.decoding.proofs.Located.{root_differs, differs_root}

module _ (F : FieldModel) (l : FieldLaws F) (t : ℕ) (few : Few t) (c : ℕ → Bool) (errors : Code F t c → ⊥) (r2 r3 : ℕ) (lt2 : r2 < size F)
    (lt3 : r3 < size F) (h : Locates (numbers F) t (power_sum F 1 c (units F)) (power_sum F 3 c (units F)) (power_sum F 5 c (units F)) r2 r3) where
  -- a row that is no code row has errors
  some : (d : ℕ → Bool) → Within F t c d → 1 ≤ apart c d (units F)
  some d W =
      elim (cases_eq (apart c d (units F)) 0) [
        | inl z ↦ absurd (errors (code_cong F t c d (apart-zero c d (units F) z) W.code))
        | inr n ↦ omega arith
      ]

  module _ (x : ℕ → Bool) (p count v : ℕ) (T : Track F t c x p count) (lt : p < units F)
      (value : v ≡ cubic (numbers F) (power_sum F 1 c (units F)) r2 r3 (power F p)) where
    same_here : x p ≡ c p
    same_here = T.later p (omega arith)

    pub root_turn : (y : ℕ → Bool) → Turns x y p → v ≡ 0 → Track F t c y (p + 1) (count + 1)
    root_turn y turn z =
        track-turn F t c x y p count T lt turn
        (λ d W e. root_differs F l t few c d W (some d W) r2 r3 lt2 lt3 h p lt (sym value ∙ z) (sym same_here ∙ e))

    pub root_leave : v ≢ 0 → Track F t c x (p + 1) count
    root_leave nz = track-leave F t c x p count T agrees
      where
        agrees : (d : ℕ → Bool) → Within F t c d → x p ≡ d p
        agrees d W =
            elim (same_or_other (x p) (d p)) [
              | inl e ↦ e
              | inr other ↦ absurd (nz (value ∙ differs_root F l t few c d W (some d W) r2 r3 lt2 lt3 h p lt (λ e. other (same_here ∙ e))))
            ]
