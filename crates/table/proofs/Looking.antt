-- An angle looked up, over plain values: n is the number of entries, i and j are where the angle lies and the next, f is the fraction.
use Rattle.std.proofs.Common.{◌≡◌, ℕ, ◌*◌, ◌/◌, ◌%◌, ℤ, Ok, sym, ap, ◌∙◌, subst, ap₂, arith}
use Rattle.book.specs.Model.{BookModel}
use Rattle.entry.specs.Rounding.{Rounds}
use Rattle.entry.specs.Interpolation.{next_index, blended}
use Rattle.table.specs.Model.{entries_of}
use Rattle.table.specs.Calls.{EntryRead, EntryGot, angle_index, angle_fraction, LookedUp}

module _ (b : BookModel) (E a n i : ℕ) (all : n ≡ entries_of b E) (index : i ≡ a * n / 65536) (j : ℕ) (next : j ≡ next_index i n) (x : ℤ) (first : EntryGot b E i (Ok x)) where
  at_angle : i ≡ angle_index a (entries_of b E)
  at_angle = index ∙ ap (angle_index a) all

  at_next : j ≡ next_index (angle_index a (entries_of b E)) (entries_of b E)
  at_next = next ∙ ap₂ next_index at_angle all

  pub looked-up : (f : ℕ) (y s x' y' s' : ℤ) → f ≡ a * n % 65536 → EntryGot b E j (Ok y) → x' ≡ x → y' ≡ y → s' ≡ s → Rounds (blended x' y' f) 65536 s
      → LookedUp b (entries_of b E) a (Ok s')
  looked-up f y s x' y' s' fraction second ex ey es law =
      let one = subst (λ (m : ℕ). Rounds (blended x' y' m) 65536 s) (fraction ∙ ap (angle_fraction a) all) law in
      let two = subst (λ (p : ℤ). Rounds (blended p y' (angle_fraction a (entries_of b E))) 65536 s) ex one in
      let three = subst (λ (p : ℤ). Rounds (blended x p (angle_fraction a (entries_of b E))) 65536 s) ey two in (
        omega (arith, first.0),
        (
          x,
          y,
          subst (λ (m : ℕ). EntryRead b m (Ok x)) at_angle first.1,
          subst (λ (m : ℕ). EntryRead b m (Ok y)) at_next second.1,
          subst (λ (p : ℤ). Rounds (blended x y (angle_fraction a (entries_of b E))) 65536 p) (sym es) three,
        ),
      )
