-- Determinants, locators and power sums as they are computed: each step by the sum or the product of what two numbers are read as.
use Rattle.std.proofs.Common.{◌≡◌, ℕ, zero, suc, ◌*◌, ◌<◌, Bool, ◌≢◌, ◌⊎◌, [], ◌∷◌, sym, refl, ap, ◌∙◌, ap₂, inl, inr, mod-eq_of_lt, arith}
use Rattle.galois.specs.Model.{FieldModel, FieldLaws, IsInverse, size, units, power, elem, sum_of, product-of}
use Rattle.galois.specs.Sums.{D2, D3}
use Rattle.galois.specs.Rows.{power_sum, Few}
use Rattle.galois.proofs.Solve.{var, ◌⊕◌, ◌⊗◌, solve}
use Rattle.galois.proofs.Determinants.{pow_e}
use Rattle.galois.proofs.Laws.{mul_zero, power-lt}
use Rattle.galois.proofs.Lift.{Element, same, ops, ring2, number}
use Rattle.galois.proofs.Powers.{sum_is, product_is, below}
use Rattle.galois.proofs.PowerSums.{power_sum-lt}
use Rattle.galois.proofs.Distances.{Turns}
use Rattle.galois.proofs.Differ.{turn-sum}
use Rattle.galois.specs.Ring.{numbers}
use Rattle.decoding.specs.Locators.{cubic, Locates}

module _ (F : FieldModel) (l : FieldLaws F) where
  -- ---- power sums
  -- the power sum of a row once a position is turned
  pub turned-sum : (c y : ℕ → Bool) (p i s z r : ℕ) → Turns c y p → p < units F → s ≡ power_sum F i c (units F) → z ≡ power F (i * p)
      → r ≡ sum_of F s z → r ≡ power_sum F i y (units F)
  turned-sum c y p i s z r turn lt es ez er =
      sum_is F l s z r (power_sum F i c (units F), power_sum-lt F l i c (units F)) (power F (i * p), power-lt F l (i * p)) es ez er
      ∙ sym (turn-sum F l c y i p (units F) lt turn)

  -- ---- determinants
  module _ (s1 s3 q u d2 : ℕ) (h1 : s1 < size F) (h3 : s3 < size F) (eq : q ≡ product-of F s1 s1) (eu : u ≡ product-of F q s1)
      (e2 : d2 ≡ sum_of F u s3) where
    abbrev A : Element F
    A = (s1, h1)

    abbrev B : Element F
    B = (s3, h3)

    abbrev Q : Element F
    Q = (ops F l).mul A A

    abbrev U : Element F
    U = (ops F l).mul Q A

    abbrev V : Element F
    V = (ops F l).add U B

    square : q ≡ Q.0
    square = product_is F l s1 s1 q A A refl refl eq

    cube : u ≡ U.0
    cube = product_is F l q s1 u Q A square refl eu

    second : d2 ≡ V.0
    second = sum_is F l u s3 d2 U B cube refl e2

    pub second_lt : d2 < size F
    second_lt = below F l d2 V second

    pub second_is : d2 ≡ D2 (numbers F) s1 s3
    second_is = second ∙ number F l (solve (ring2 F l) (A ∷ B ∷ []) (var 0 ⊗ var 0 ⊗ var 0 ⊕ var 1) (pow_e (var 0) 3 ⊕ var 1) tt)

    module _ (s5 : ℕ) (h5 : s5 < size F) where
      abbrev C : Element F
      C = (s5, h5)

      -- u * d2 + s1 * s5 + s3 ^ 2
      pub third-is : (a b w z d3 : ℕ) → a ≡ product-of F u d2 → b ≡ product-of F s1 s5 → w ≡ sum_of F a b → z ≡ product-of F s3 s3
          → d3 ≡ sum_of F w z → d3 ≡ D3 (numbers F) s1 s3 s5
      third-is a b w z d3 ea eb ew ez e3 =
          let UV = (ops F l).mul U V in
          let Ac = (ops F l).mul A C in
          sum_is F l w z d3 ((ops F l).add UV Ac) ((ops F l).mul B B)
          (sum_is F l a b w UV Ac (product_is F l u d2 a U V cube second ea) (product_is F l s1 s5 b A C refl refl eb) ew)
          (product_is F l s3 s3 z B B refl refl ez) e3
          ∙ number F l
          (solve (ring2 F l) (A ∷ B ∷ C ∷ []) ((var 0 ⊗ var 0 ⊗ var 0) ⊗ (var 0 ⊗ var 0 ⊗ var 0 ⊕ var 1) ⊕ var 0 ⊗ var 2 ⊕ var 1 ⊗ var 1)
          (pow_e (var 0) 6 ⊕ pow_e (var 0) 3 ⊗ var 1 ⊕ var 0 ⊗ var 2 ⊕ pow_e (var 1) 2) tt)

      -- ---- the coefficients of the locator
      abbrev Located : ℕ → ℕ → ℕ → Type 0
      Located t r2 r3 = Locates (numbers F) t s1 s3 s5 r2 r3

      -- for one error
      pub locates_one : (t : ℕ) → Few t → (t ≡ 1) ⊎ (d2 ≡ 0) → Located t 0 0
      locates_one zero few one = absurd (omega arith)
      locates_one (suc zero) few one = (refl, refl)
      locates_one (suc (suc zero)) few (inl e) = absurd (omega arith)
      locates_one (suc (suc zero)) few (inr z) = (λ _. mul_zero F l s1 h1 ∙ sym z ∙ second_is, refl)
      locates_one (suc (suc (suc t))) few (inl e) = absurd (omega arith)
      locates_one (suc (suc (suc t))) few (inr z) = (λ _. (refl, refl), λ n. absurd (n (sym second_is ∙ z)))

      -- a * (b / a) is b
      divided : (a b r v : ℕ) (a' b' : Element F) → a ≡ a'.0 → b ≡ b'.0 → a ≢ 0 → IsInverse F (elem F a) r → v ≡ product-of F b r
          → (v < size F) × (F.mul a v ≡ b)
      divided a b r v a' b' ea eb nz inv ev =
          let r' : Element F = (r, inv.below) in
          let z : elem F a ≡ a = ap (elem F) ea ∙ mod-eq_of_lt a'.1 ∙ sym ea in
          let pos : 0 < elem F a = omega arith in
          let one : (ops F l).mul a' r' ≡ (ops F l).e = same F _ (ops F l).e (ap (λ y. F.mul y r) (sym (z ∙ ea)) ∙ inv.at_unit pos) in
          let v-is = product_is F l b r v b' r' eb refl ev in (
            below F l v ((ops F l).mul b' r') v-is,
            ap₂ F.mul ea v-is
                ∙ number F l
                (solve (ring2 F l) (a' ∷ b' ∷ r' ∷ []) (var 0 ⊗ (var 1 ⊗ var 2)) (var 1 ⊗ (var 0 ⊗ var 2)) tt
                ∙ ap ((ops F l).mul b') one ∙ (ring2 F l).mul_one b')
                ∙ sym eb,
          )

      -- for two where t is 2: D2 / S_1
      pub locates_two : (r r2 : ℕ) → IsInverse F (elem F s1) r → r2 ≡ product-of F d2 r → (r2 < size F) × Located 2 r2 0
      locates_two r r2 inv e = (
        below F l r2 ((ops F l).mul V (r, inv.below)) (product_is F l d2 r r2 V (r, inv.below) second refl e),
        (λ nz. (divided s1 d2 r r2 A V refl second nz inv e).1 ∙ second_is, refl),
      )

      -- and for two or three where t is 3: (S_1 ^ 2 * S_3 + S_5) / D2 and D2 + S_1 * r2
      pub locates-three : (a b r r2 w r3 : ℕ) → d2 ≢ 0 → a ≡ product-of F q s3 → b ≡ sum_of F a s5 → IsInverse F (elem F d2) r
          → r2 ≡ product-of F b r → w ≡ product-of F s1 r2 → r3 ≡ sum_of F d2 w → (r2 < size F) × (r3 < size F) × Located 3 r2 r3
      locates-three a b r r2 w r3 nz ea eb inv e ew er =
          let QB = (ops F l).mul Q B in
          let b-is = sum_is F l a s5 b QB C (product_is F l q s3 a Q B square refl ea) refl eb in
          let d = divided d2 b r r2 V ((ops F l).add QB C) second b-is nz inv e in
          let R : Element F = (r2, d.0) in
          let r3-is = sum_is F l d2 w r3 V ((ops F l).mul A R) second (product_is F l s1 r2 w A R refl refl ew) er in (
            d.0,
            below F l r3 ((ops F l).add V ((ops F l).mul A R)) r3-is,
            (
              λ z. absurd (nz (second_is ∙ z)),
              λ _. (
                ap (λ y. F.mul y r2) (sym second_is) ∙ d.1 ∙ b-is
                    ∙ number F l (solve (ring2 F l) (A ∷ B ∷ C ∷ []) (var 0 ⊗ var 0 ⊗ var 1 ⊕ var 2) (pow_e (var 0) 2 ⊗ var 1 ⊕ var 2) tt),
                r3-is ∙ ap (λ y. F.add y (F.mul s1 r2)) (sym second ∙ second_is),
              ),
            ),
          )

  -- ---- the value of the locator
  pub cubic-is : (r1 r2 r3 x a b u v w : ℕ) → r1 < size F → r2 < size F → r3 < size F → x < size F → a ≡ sum_of F x r1 → b ≡ product-of F a x
      → u ≡ sum_of F b r2 → v ≡ product-of F u x → w ≡ sum_of F v r3 → w ≡ cubic (numbers F) r1 r2 r3 x
  cubic-is r1 r2 r3 x a b u v w h1 h2 h3 hx ea eb eu ev ew =
      let R1 : Element F = (r1, h1) in
      let R2 : Element F = (r2, h2) in
      let R3 : Element F = (r3, h3) in
      let Y : Element F = (x, hx) in
      let AY = (ops F l).add Y R1 in
      let BY = (ops F l).mul AY Y in
      let UY = (ops F l).add BY R2 in
      sum_is F l v r3 w ((ops F l).mul UY Y) R3
      (product_is F l u x v UY Y (sum_is F l b r2 u BY R2 (product_is F l a x b AY Y (sum_is F l x r1 a Y R1 refl refl ea) refl eb) refl eu) refl ev) refl ew
