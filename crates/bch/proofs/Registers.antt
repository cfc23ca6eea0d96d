-- The shift register by its values at the roots of the generator.
use Rattle.std.proofs.Common.{◌≡◌, ℕ, zero, suc, ◌+◌, ◌-◌, ◌*◌, ◌/◌, ◌%◌, ◌^◌, ◌<◌, Bool, true, false, cond, eqb, [], ◌∷◌, sym, ap, ◌∙◌, ap₂, arith}
use Rattle.std.proofs.lemmas.Nat.{field_of, mod-pow-add, shr-shr}
use Rattle.bits.specs.Bits.{xor, bit_of}
use Rattle.bits.proofs.Turning.{bit_of-xor, bit_of-zero}
use Rattle.galois.specs.Model.{FieldModel, FieldLaws}
use Rattle.galois.specs.Polynomials.{value, before}
use Rattle.galois.specs.Ring.{pow}
use Rattle.galois.proofs.Solve.{var, O, ◌⊕◌, ◌⊗◌, solve, mul_zero, zero_mul, one_mul}
use Rattle.galois.proofs.Polynomials.{value-cong, value_none, value-add, value-scale, value-first}
use Rattle.galois.proofs.Lift.{Element, ops, ring2}
use Rattle.bch.specs.Steps.{turned, register}
use Rattle.bch.proofs.Cells.{bit_k, bit_k_xor}

mod-even : (y j : ℕ) → y % 2 ^ suc j % 2 ≡ y % 2
mod-even y j =
    let z : suc j ≡ j + 1 = omega arith in
    let w : y % 2 ^ (j + 1) ≡ (y / 2 % 2 ^ j) * 2 + y % 2 = mod-pow-add y j 1 in
    ap (λ k. y % 2 ^ k % 2) z ∙ ap (λ v. v % 2) w ∙ omega arith

-- a bit below r is kept modulo 2 ^ r
pub bit_of-low : (x r i : ℕ) → i < r → bit_of (x % 2 ^ r) i ≡ bit_of x i
bit_of-low x r i h =
    let z : suc (r - suc i) + i ≡ r = omega arith in
    ap (λ k. bit_of (x % 2 ^ k) i) (sym z)
    ∙ ap (λ y. eqb y 1) (ap (λ y. y % 2) (field_of x (suc (r - suc i)) i) ∙ mod-even (x / 2 ^ i) (r - suc i))

bit_of-double : (x i : ℕ) → bit_of (x * 2) (suc i) ≡ bit_of x i
bit_of-double x i =
    let z : suc i ≡ 1 + i = omega arith in
    let h : x * 2 / 2 ≡ x = omega arith in
    ap (λ k. eqb (x * 2 / 2 ^ k % 2) 1) z ∙ ap (λ y. eqb (y % 2) 1) (sym (shr-shr (x * 2) 1 i) ∙ ap (λ y. y / 2 ^ i) h)

bit_of-double_first : (x : ℕ) → bit_of (x * 2) 0 ≡ false
bit_of-double_first x = let z : x * 2 / 2 ^ 0 % 2 ≡ 0 = omega arith in ap (λ y. eqb y 1) z

module _ (F : FieldModel) (l : FieldLaws F) where
  -- the bits of a number as elements
  abbrev pub bits_k : ℕ → ℕ → Element F
  bits_k x i = bit_k F l (bit_of x i)

  cond-bits : (b : Bool) (y i : ℕ) → bits_k (cond b y 0) i ≡ (ops F l).mul (bit_k F l b) (bits_k y i)
  cond-bits true y i = sym (one_mul (ring2 F l) (bits_k y i))
  cond-bits false y i = ap (bit_k F l) (bit_of-zero i) ∙ sym (zero_mul (ring2 F l) (bits_k y i))

  double_bits : (x r i : ℕ) → i < r → bits_k ((x * 2) % 2 ^ r) i ≡ before (ops F l) (bits_k x) i
  double_bits x r zero h = ap (bit_k F l) (bit_of-low (x * 2) r zero h ∙ bit_of-double_first x)
  double_bits x r (suc i) h = ap (bit_k F l) (bit_of-low (x * 2) r (suc i) h ∙ bit_of-double x i)

  turned-bits : (g r x : ℕ) (d : Bool) (i : ℕ) → i < r
      → bits_k (turned g r x d) i ≡ (ops F l).add (before (ops F l) (bits_k x) i) ((ops F l).mul (bit_k F l (xor (bit_of x (r - 1)) d)) (bits_k g i))
  turned-bits g r x d i h =
      let feed = xor (bit_of x (r - 1)) d in
      let a = (x * 2) % 2 ^ r in
      let b = cond feed (g % 2 ^ r) 0 in
      ap (bit_k F l) (bit_of-xor a b i) ∙ bit_k_xor F l (bit_of a i) (bit_of b i)
      ∙ ap₂ (ops F l).add (double_bits x r i h)
      (cond-bits feed (g % 2 ^ r) i ∙ ap (λ y. (ops F l).mul (bit_k F l feed) (bit_k F l y)) (bit_of-low g r i h))

  value_before : (c : ℕ → Element F) (r : ℕ) (x : Element F)
      → value (ops F l) (before (ops F l) c) (suc r) x
      ≡ (ops F l).add ((ops F l).mul x (value (ops F l) c (suc r) x)) ((ops F l).mul (c r) (pow (ops F l) x (suc r)))
  unfolding value
  value_before c r x =
      value-first (ring2 F l) (before (ops F l) c) r x
      ∙ solve (ring2 F l) (x ∷ value (ops F l) c r x ∷ c r ∷ pow (ops F l) x r ∷ []) (O ⊕ var 0 ⊗ var 1)
      (var 0 ⊗ (var 1 ⊕ var 2 ⊗ var 3) ⊕ var 2 ⊗ (var 0 ⊗ var 3)) tt

  turned-value : (g r x : ℕ) (d : Bool) (b : Element F) → value (ops F l) (bits_k g) (suc r) b ≡ pow (ops F l) b (suc r)
      → value (ops F l) (bits_k (turned g (suc r) x d)) (suc r) b
      ≡ (ops F l).add ((ops F l).mul b (value (ops F l) (bits_k x) (suc r) b)) ((ops F l).mul (bit_k F l d) (pow (ops F l) b (suc r)))
  turned-value g r x d b hg =
      let R = ring2 F l in
      let z : suc r - 1 ≡ r = omega arith in
      let feed = bit_k F l (xor (bit_of x (suc r - 1)) d) in
      let p = pow (ops F l) b (suc r) in
      let v = value (ops F l) (bits_k x) (suc r) b in
      value-cong R (bits_k (turned g (suc r) x d)) (λ i. (ops F l).add (before (ops F l) (bits_k x) i) ((ops F l).mul feed (bits_k g i))) (suc r) b (λ i h. turned-bits g (suc r) x d i h)
      ∙ value-add R (before (ops F l) (bits_k x)) (λ i. (ops F l).mul feed (bits_k g i)) (suc r) b
      ∙ ap₂ (ops F l).add (value_before (bits_k x) r b) (value-scale R feed (bits_k g) (suc r) b ∙ ap ((ops F l).mul feed) hg)
      ∙ ap (λ y. (ops F l).add ((ops F l).add ((ops F l).mul b v) ((ops F l).mul (bits_k x r) p)) ((ops F l).mul y p))
      (ap (λ k. bit_k F l (xor (bit_of x k) d)) z ∙ bit_k_xor F l (bit_of x r) d)
      ∙ solve R (b ∷ v ∷ bits_k x r ∷ p ∷ bit_k F l d ∷ []) (var 0 ⊗ var 1 ⊕ var 2 ⊗ var 3 ⊕ (var 2 ⊕ var 4) ⊗ var 3) (var 0 ⊗ var 1 ⊕ var 4 ⊗ var 3) tt

  -- at a root b of the generator the register has the value of the bits so far, times b ^ r
  pub register-value : (g r : ℕ) (c : ℕ → Bool) (b : Element F) → value (ops F l) (bits_k g) (suc r) b ≡ pow (ops F l) b (suc r)
      → (q s : ℕ) → value (ops F l) (bits_k (register g (suc r) c s q)) (suc r) b
      ≡ (ops F l).mul (pow (ops F l) b (suc r)) (value (ops F l) (λ i. bit_k F l (c (s + i))) q b)
  unfolding register
  register-value g r c b hg zero s =
      value_none (ring2 F l) (bits_k 0) (suc r) b (λ i h. ap (bit_k F l) (bit_of-zero i))
      ∙ sym (ap ((ops F l).mul (pow (ops F l) b (suc r))) (value_none (ring2 F l) (λ i. bit_k F l (c (s + i))) 0 b (λ i h. absurd (omega arith))) ∙ mul_zero (ring2 F l) _)
  register-value g r c b hg (suc q) s =
      let R = ring2 F l in
      let p = pow (ops F l) b (suc r) in
      let w = value (ops F l) (λ i. bit_k F l (c (suc s + i))) q b in
      let z : s + 0 ≡ s = omega arith in
      turned-value g r (register g (suc r) c (suc s) q) (c s) b hg
      ∙ ap (λ y. (ops F l).add ((ops F l).mul b y) ((ops F l).mul (bit_k F l (c s)) p)) (register-value g r c b hg q (suc s))
      ∙ solve R (b ∷ p ∷ w ∷ bit_k F l (c s) ∷ []) (var 0 ⊗ (var 1 ⊗ var 2) ⊕ var 3 ⊗ var 1) (var 1 ⊗ (var 3 ⊕ var 0 ⊗ var 2)) tt
      ∙ sym (ap ((ops F l).mul p)
      (value-first R (λ i. bit_k F l (c (s + i))) q b
      ∙ ap₂ (λ y v. (ops F l).add y ((ops F l).mul b v)) (ap (λ k. bit_k F l (c k)) z)
      (value-cong R (λ i. bit_k F l (c (s + suc i))) (λ i. bit_k F l (c (suc s + i))) q b (λ i h. ap (λ k. bit_k F l (c k)) (omega arith)))))
