-- The syndromes of one position more.
use Rattle.std.proofs.Common.{◌≡◌, ℕ, ◌+◌, ◌*◌, ◌/◌, ◌%◌, ◌<◌, Bool, true, false, cond, List, get_or, sym, refl, ap, ◌∙◌, ap₂, add-one, arith}
use Rattle.bits.specs.Bits.{bit_of, bit_at}
use Rattle.galois.specs.Model.{FieldModel, FieldLaws, power, sum_of, product-of}
use Rattle.galois.specs.Rows.{power_sum}
use Rattle.galois.proofs.Laws.{power-lt}
use Rattle.galois.proofs.PowerSums.{power_sum-lt}
use Rattle.galois.proofs.Powers.{sum_is, cube_is, fifth_is}
use Rattle.field.specs.declared.syndromes.Syndromes.{Syndromes}
use Rattle.field.specs.Syndromes.{syndromes_of, with_turn}

pub three : {a b c x y z : ℕ} → a ≡ x → b ≡ y → c ≡ z → ◌≡◌ {A = Syndromes} (record { s1 = a; s3 = b; s5 = c }) (record { s1 = x; s3 = y; s5 = z })
three p q r = cc

abbrev pub none : Syndromes
none = record { s1 = 0; s3 = 0; s5 = 0 }

pub sums_none : (F : FieldModel) (c : ℕ → Bool) → none ≡ syndromes_of F c 0
unfolding power_sum
sums_none F c = refl

module _ (F : FieldModel) (l : FieldLaws F) (c : ℕ → Bool) (p : ℕ) where
  next : (i s z : ℕ) → s ≡ power_sum F i c p → z ≡ power F (i * p) → c p ≡ true → sum_of F s z ≡ power_sum F i c (p + 1)
  unfolding power_sum
  next i s z es ez set =
      sum_is F l s z (sum_of F s z) (power_sum F i c p, power_sum-lt F l i c p) (power F (i * p), power-lt F l (i * p)) es ez refl
      ∙ ap (λ b. F.add (power_sum F i c p) (cond b (power F (i * p)) 0)) (sym set) ∙ ap (power_sum F i c) (sym (add-one p))

  pub sums_set : (s : Syndromes) (x : ℕ) → c p ≡ true → s ≡ syndromes_of F c p → x ≡ power F p → with_turn F s x ≡ syndromes_of F c (p + 1)
  sums_set s x set es ex =
      let one : p ≡ 1 * p = omega arith in
      let q = product-of F x x in
      three (next 1 s.s1 x (ap (λ (v : Syndromes). v.s1) es) (ex ∙ ap (power F) one) set)
      (next 3 s.s3 (product-of F q x) (ap (λ (v : Syndromes). v.s3) es) (cube_is F l x q (product-of F q x) p ex refl refl) set)
      (next 5 s.s5 (product-of F (product-of F q x) q) (ap (λ (v : Syndromes). v.s5) es) (fifth_is F l x q (product-of F q x) p ex refl refl _ refl) set)

  same : (i : ℕ) → c p ≡ false → power_sum F i c p ≡ power_sum F i c (p + 1)
  unfolding power_sum
  same i clear =
      sym (l.ring.add_zero (power_sum F i c p) (power_sum-lt F l i c p))
      ∙ ap (λ b. F.add (power_sum F i c p) (cond b (power F (i * p)) 0)) (sym clear) ∙ ap (power_sum F i c) (sym (add-one p))

  pub sums_clear : c p ≡ false → syndromes_of F c p ≡ syndromes_of F c (p + 1)
  sums_clear clear = three (same 1 clear) (same 3 clear) (same 5 clear)

-- bit i of byte q
pub bit_of-byte : (row : List ℕ) (q i : ℕ) → i < 8 → bit_at 8 row (8 * q + i) ≡ bit_of (get_or row q 0) i
bit_of-byte row q i h =
    let a : (8 * q + i) / 8 ≡ q = omega arith in
    let b : (8 * q + i) % 8 ≡ i = omega arith in
    ap₂ (λ q i. bit_of (get_or row q 0) i) a b
