-- The tests of the figures in plain words.
use Rattle.std.proofs.Common.{◌≡◌, ℕ, ◌*◌, ◌%◌, ◌≤◌, refl, ap, ◌∙◌, arith}
use Rattle.std.proofs.Math.Nat.{mul-mod_left}
use Rattle.std.proofs.lemmas.Nat.{mul-le}
use Rattle.std.proofs.lemmas.Bool.{cond_both}
use Rattle.std.proofs.lemmas.Bool.Decides.{nat_tests}
use Rattle.layers.specs.Layers.{InterleaverFits, interleaver_test, interleaver_size}
use Rattle.layers.specs.Crossing.{interleaver_fits}

-- one or more whole groups leave no rest
pub no_rest : (d w n : ℕ) → InterleaverFits d w n → (1 ≤ n) × (n % (d * w) ≡ 0)
no_rest d w n f =
    let q = f.4.0 in (
      omega (arith, mul-le 1 1 q (d * w) f.4.1 (mul-le 1 1 d w f.0 f.2)),
      ap (λ y. y % (d * w)) f.4.2 ∙ mul-mod_left q (d * w),
    )

-- where the figures fit, the interleaver has all cells below,
pub all_shown : (d w n : ℕ) → InterleaverFits d w n → interleaver_size d w n ≡ n
all_shown d w n f = let r = no_rest d w n f in grind (arith, nat_tests)

-- and else none
pub none_shown : (d w n : ℕ) → (InterleaverFits d w n → ⊥) → interleaver_size d w n ≡ 0
none_shown d w n no-fit = cond_both (interleaver_test d w n) n 0 (λ s. s ≡ 0) (λ e. absurd (no-fit (interleaver_fits d w n e))) (λ e. refl)
