-- Sums, products and powers as they are computed: each step by the sum or the product of what two numbers are read as.
use Rattle.std.proofs.Common.{◌≡◌, ℕ, suc, ◌+◌, ◌*◌, ◌<◌, sym, ap, ◌∙◌, subst, ap₂, mod-eq_of_lt, arith}
use Rattle.galois.specs.Model.{FieldModel, FieldLaws, size, power, sum_of, product-of}
use Rattle.galois.proofs.Laws.{power-lt, power-add}
use Rattle.galois.proofs.Lift.{Element, ops}

module _ (F : FieldModel) (l : FieldLaws F) where
  -- r is the sum, the product of two elements
  pub sum_is : (x y r : ℕ) (a b : Element F) → x ≡ a.0 → y ≡ b.0 → r ≡ sum_of F x y → r ≡ ((ops F l).add a b).0
  sum_is x y r a b ex ey er = er ∙ ap₂ (sum_of F) ex ey ∙ ap₂ F.add (mod-eq_of_lt a.1) (mod-eq_of_lt b.1)

  pub product_is : (x y r : ℕ) (a b : Element F) → x ≡ a.0 → y ≡ b.0 → r ≡ product-of F x y → r ≡ ((ops F l).mul a b).0
  product_is x y r a b ex ey er = er ∙ ap₂ (product-of F) ex ey ∙ ap₂ F.mul (mod-eq_of_lt a.1) (mod-eq_of_lt b.1)

  pub below : (r : ℕ) (a : Element F) → r ≡ a.0 → r < size F
  below r a e = subst (λ n. n < size F) (sym e) a.1

  -- ---- powers of alpha
  pub power-product : (x y r p q : ℕ) → x ≡ power F p → y ≡ power F q → r ≡ product-of F x y → r ≡ power F (p + q)
  power-product x y r p q ex ey er = product_is x y r (power F p, power-lt F l p) (power F q, power-lt F l q) ex ey er ∙ sym (power-add F l p q)

  pub next_power : (a x r p : ℕ) → a ≡ F.alpha → x ≡ power F p → r ≡ product-of F a x → r ≡ power F (p + 1)
  unfolding power
  next_power a x r p ea ex er =
      let z : suc p ≡ p + 1 = omega arith in
      product_is a x r (F.alpha, l.powers.alpha_lt) (power F p, power-lt F l p) ea ex er ∙ ap (power F) z

  -- x, x ^ 3 and x ^ 5 of the element x of a position
  module _ (x q u p : ℕ) (ex : x ≡ power F p) (eq : q ≡ product-of F x x) (eu : u ≡ product-of F q x) where
    pub cube_is : u ≡ power F (3 * p)
    cube_is =
        let z : p + p + p ≡ 3 * p = omega arith in
        power-product q x u (p + p) p (power-product x x q p p ex ex eq) ex eu ∙ ap (power F) z

    pub fifth_is : (v : ℕ) → v ≡ product-of F u q → v ≡ power F (5 * p)
    fifth_is v ev =
        let z : 3 * p + (p + p) ≡ 5 * p = omega arith in
        power-product u q v (3 * p) (p + p) cube_is (power-product x x q p p ex ex eq) ev ∙ ap (power F) z
