-- A sum that is taken from the left is the total.
use Rattle.std.proofs.Common.{◌≡◌, ℕ, ◌<◌, List, [], ◌∷◌, fold, sym, ap, ◌∙◌, mod-eq_of_lt, pow_pos}
use Rattle.galois.specs.Model.{FieldModel, FieldLaws, elem, size, sum_of}
use Rattle.galois.proofs.Laws.{elem-lt}
use Rattle.field.specs.Totals.{total}

module _ (F : FieldModel) (l : FieldLaws F) where
  total-lt : (xs : List ℕ) → total F xs < size F
  total-lt [] = pow_pos F.m
  total-lt (x ∷ xs) = l.ring.add_lt (elem F x) (total F xs) (elem-lt F l x) (total-lt xs)

  from : (all : ℕ) (xs : List ℕ) → all < size F → fold (sum_of F) all xs ≡ F.add all (total F xs)
  from all [] h = sym (l.ring.add_zero all h)
  from all (x ∷ xs) h =
      from (sum_of F all x) xs (l.ring.add_lt (elem F all) (elem F x) (elem-lt F l all) (elem-lt F l x))
      ∙ ap (λ z. F.add (F.add z (elem F x)) (total F xs)) (mod-eq_of_lt h)
      ∙ l.ring.add_assoc all (elem F x) (total F xs) h (elem-lt F l x) (total-lt xs)

  pub total-fold : (xs : List ℕ) → fold (sum_of F) 0 xs ≡ total F xs
  total-fold xs = from 0 xs (pow_pos F.m) ∙ l.ring.add_comm 0 (total F xs) (pow_pos F.m) (total-lt xs) ∙ l.ring.add_zero (total F xs) (total-lt xs)
