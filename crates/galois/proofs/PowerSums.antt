-- Power sums, at numbers and as values of a polynomial over the elements.
use Rattle.std.proofs.Common.{◌≡◌, ℕ, zero, suc, ◌*◌, ◌<◌, Bool, true, false, cond, refl, ap₂, arith, pow_pos}
use Rattle.galois.specs.Model.{FieldModel, FieldLaws, size, power}
use Rattle.galois.specs.Rows.{power_sum}
use Rattle.galois.proofs.Laws.{power-lt}

pub power_sum-cong : (F : FieldModel) (i : ℕ) (c d : ℕ → Bool) (n : ℕ) → ((p : ℕ) → p < n → c p ≡ d p) → power_sum F i c n ≡ power_sum F i d n
unfolding power_sum
power_sum-cong F i c d zero h = refl
power_sum-cong F i c d (suc n) h =
    ap₂ (λ s b. F.add s (cond b (power F (i * n)) 0)) (power_sum-cong F i c d n (λ p lt. h p (omega arith))) (h n (omega arith))

module _ (F : FieldModel) (l : FieldLaws F) where
  cond-lt : (b : Bool) (x : ℕ) → x < size F → cond b x 0 < size F
  cond-lt true x h = h
  cond-lt false x h = pow_pos F.m

  pub power_sum-lt : (i : ℕ) (c : ℕ → Bool) (n : ℕ) → power_sum F i c n < size F
  unfolding power_sum
  power_sum-lt i c zero = pow_pos F.m
  power_sum-lt i c (suc n) = l.ring.add_lt _ _ (power_sum-lt i c n) (cond-lt (c n) _ (power-lt F l (i * n)))
