-- A decision procedure for identities in commutative rings of characteristic 2: `solve ring (a ∷ b ∷ []) left right tt` shows that two
-- expressions over a and b are equal, where the checker computes that every coefficient of their sum is 0.
-- A polynomial in n + 1 variables is the list of its coefficients by powers of the first one, polynomials in the other n; one in no variable is a bit.
use Rattle.std.proofs.Common.{◌≡◌, ℕ, zero, suc, Bool, true, false, T, List, [], ◌∷◌, length, get_or, sym, refl, ap, ◌∙◌, ap₂}
use Rattle.bits.specs.Bits.{xor}
use Rattle.galois.specs.Ring.{Ops, Ring2}

infixl 50 ◌⊕◌
infixl 60 ◌⊗◌
pub data Expr : Type 0 where
  var : ℕ → Expr
  O I : Expr
  ◌⊕◌ ◌⊗◌ : Expr → Expr → Expr

-- The operations on lists of coefficients, from those on the coefficients
abbrev pub add_l : {A : Type 0} (plus : A → A → A) → List A → List A → List A
add_l plus [] q = q
add_l plus (a ∷ p) [] = a ∷ p
add_l plus (a ∷ p) (b ∷ q) = plus a b ∷ add_l plus p q

abbrev pub scale : {A : Type 0} (times : A → A → A) → A → List A → List A
scale times a [] = []
scale times a (b ∷ q) = times a b ∷ scale times a q

abbrev pub mul_l : {A : Type 0} (plus times : A → A → A) (z : A) → List A → List A → List A
mul_l plus times z [] q = []
mul_l plus times z (a ∷ p) q = add_l plus (scale times a q) (z ∷ mul_l plus times z p q)

abbrev pub and : Bool → Bool → Bool
and true b = b
and false b = false

abbrev pub off_l : {A : Type 0} → (A → Bool) → List A → Bool
off_l f [] = true
off_l f (a ∷ p) = and (f a) (off_l f p)

abbrev pub Poly : ℕ → Type 0
Poly zero = Bool
Poly (suc n) = List (Poly n)

abbrev pub nil : (n : ℕ) → Poly n
nil zero = false
nil (suc n) = []

abbrev pub unit : (n : ℕ) → Poly n
unit zero = true
unit (suc n) = unit n ∷ []

abbrev pub plus : (n : ℕ) → Poly n → Poly n → Poly n
plus zero = xor
plus (suc n) = add_l (plus n)

abbrev pub times : (n : ℕ) → Poly n → Poly n → Poly n
times zero = and
times (suc n) = mul_l (plus n) (times n) (nil n)

abbrev pub at : (n : ℕ) → ℕ → Poly n
at zero i = false
at (suc n) zero = nil n ∷ unit n ∷ []
at (suc n) (suc i) = at n i ∷ []

abbrev pub off : (n : ℕ) → Poly n → Bool
off zero true = false
off zero false = true
off (suc n) p = off_l (off n) p

abbrev pub normal : (n : ℕ) → Expr → Poly n
normal n (var i) = at n i
normal n O = nil n
normal n I = unit n
normal n (a ⊕ b) = plus n (normal n a) (normal n b)
normal n (a ⊗ b) = times n (normal n a) (normal n b)

T_and : (a b : Bool) → T (and a b) → T a × T b
T_and true b t = (tt, t)
T_and false b t = absurd t

module _ {K : Type 0} {P : Ops K} (R : Ring2 P) where
  open P use {o, e, add, mul}
  open R use {add_assoc, add_comm, add_zero, add_self, mul_assoc, mul_comm, mul_one, distrib}

  pub zero_add : (a : K) → add o a ≡ a
  zero_add a = add_comm o a ∙ add_zero a

  pub one_mul : (a : K) → mul e a ≡ a
  one_mul a = mul_comm e a ∙ mul_one a

  pub distrib_right : (a b c : K) → mul (add a b) c ≡ add (mul a c) (mul b c)
  distrib_right a b c = mul_comm (add a b) c ∙ distrib c a b ∙ ap₂ add (mul_comm c a) (mul_comm c b)

  pub add_left_comm : (a b c : K) → add a (add b c) ≡ add b (add a c)
  add_left_comm a b c = sym (add_assoc a b c) ∙ ap (λ x. add x c) (add_comm a b) ∙ add_assoc b a c

  pub mul_left_comm : (a b c : K) → mul a (mul b c) ≡ mul b (mul a c)
  mul_left_comm a b c = sym (mul_assoc a b c) ∙ ap (λ x. mul x c) (mul_comm a b) ∙ mul_assoc b a c

  -- a sum that is 0 says that its parts are equal
  pub equal_of_sum : (a b : K) → add a b ≡ o → a ≡ b
  equal_of_sum a b h =
      sym (add_zero a) ∙ ap (add a) (sym (add_self b)) ∙ sym (add_assoc a b b) ∙ ap (λ x. add x b) h ∙ zero_add b

  pub mul_zero : (a : K) → mul a o ≡ o
  mul_zero a =
      ap (mul a) (sym (add_self o)) ∙ distrib a o o ∙ add_self (mul a o)

  pub zero_mul : (a : K) → mul o a ≡ o
  zero_mul a = mul_comm o a ∙ mul_zero a

  abbrev pub value : List K → Expr → K
  value ρ (var i) = get_or ρ i o
  value ρ O = o
  value ρ I = e
  value ρ (a ⊕ b) = add (value ρ a) (value ρ b)
  value ρ (a ⊗ b) = mul (value ρ a) (value ρ b)

  abbrev pub horner : {A : Type 0} → (A → K) → K → List A → K
  horner v x [] = o
  horner v x (a ∷ p) = add (v a) (mul x (horner v x p))

  module _ {A : Type 0} (v : A → K) (x : K) where
    module _ (plus : A → A → A) (hp : (a b : A) → v (plus a b) ≡ add (v a) (v b)) where
      add_l-sound : (p q : List A) → horner v x (add_l plus p q) ≡ add (horner v x p) (horner v x q)
      add_l-sound [] q = sym (zero_add _)
      add_l-sound (a ∷ p) [] = sym (add_zero _)
      add_l-sound (a ∷ p) (b ∷ q) = simp (hp, add_l-sound p q, distrib, add_assoc, add_left_comm)

    module _ (times : A → A → A) (ht : (a b : A) → v (times a b) ≡ mul (v a) (v b)) where
      scale-sound : (a : A) (q : List A) → horner v x (scale times a q) ≡ mul (v a) (horner v x q)
      scale-sound a [] = sym (mul_zero _)
      scale-sound a (b ∷ q) = simp (ht, scale-sound a q, distrib, mul_left_comm)

    module _ (plus times : A → A → A) (z : A) (hp : (a b : A) → v (plus a b) ≡ add (v a) (v b))
        (ht : (a b : A) → v (times a b) ≡ mul (v a) (v b)) (hz : v z ≡ o) where
      mul_l-sound : (p q : List A) → horner v x (mul_l plus times z p q) ≡ mul (horner v x p) (horner v x q)
      mul_l-sound [] q = sym (zero_mul _)
      mul_l-sound (a ∷ p) q =
          add_l-sound plus hp (scale times a q) (z ∷ mul_l plus times z p q)
          ∙ ap₂ add (scale-sound times ht a q) (ap₂ add hz (ap (mul x) (mul_l-sound p q)) ∙ zero_add _ ∙ sym (mul_assoc _ _ _))
          ∙ sym (distrib_right _ _ _)

    off-horner : (f : A → Bool) (h : (a : A) → T (f a) → v a ≡ o) (p : List A) → T (off_l f p) → horner v x p ≡ o
    off-horner f h [] t = refl
    off-horner f h (a ∷ p) t =
        let u = T_and (f a) (off_l f p) t in
        ap₂ add (h a u.0) (ap (mul x) (off-horner f h p u.1) ∙ mul_zero x) ∙ add_zero o

  bit : Bool → K
  bit true = e
  bit false = o

  val : (ρ : List K) → Poly (length ρ) → K
  val [] b = bit b
  val (x ∷ ρ) p = horner (val ρ) x p

  nil-sound : (ρ : List K) → val ρ (nil (length ρ)) ≡ o
  unfolding val bit
  nil-sound [] = refl
  nil-sound (x ∷ ρ) = refl

  unit-sound : (ρ : List K) → val ρ (unit (length ρ)) ≡ e
  unfolding val bit
  unit-sound [] = refl
  unit-sound (x ∷ ρ) = simp (unit-sound ρ, mul_zero, add_zero)

  plus-sound : (ρ : List K) (p q : Poly (length ρ)) → val ρ (plus (length ρ) p q) ≡ add (val ρ p) (val ρ q)
  unfolding val bit
  plus-sound [] true true = sym (add_self e)
  plus-sound [] true false = sym (add_zero e)
  plus-sound [] false q = sym (zero_add _)
  plus-sound (x ∷ ρ) p q =
      add_l-sound (val ρ) x (plus (length ρ)) (plus-sound ρ) p q

  times-sound : (ρ : List K) (p q : Poly (length ρ)) → val ρ (times (length ρ) p q) ≡ mul (val ρ p) (val ρ q)
  unfolding val bit
  times-sound [] true q = sym (one_mul _)
  times-sound [] false q = sym (zero_mul _)
  times-sound (x ∷ ρ) p q =
      mul_l-sound (val ρ) x (plus (length ρ)) (times (length ρ)) (nil (length ρ)) (plus-sound ρ) (times-sound ρ) (nil-sound ρ) p q

  at-sound : (ρ : List K) (i : ℕ) → val ρ (at (length ρ) i) ≡ get_or ρ i o
  unfolding val bit
  at-sound [] i = refl
  at-sound (x ∷ ρ) zero = simp (nil-sound ρ, unit-sound ρ, mul_zero, add_zero, zero_add, mul_one)
  at-sound (x ∷ ρ) (suc i) = simp (at-sound ρ i, mul_zero, add_zero)

  normal-sound : (ρ : List K) (a : Expr) → val ρ (normal (length ρ) a) ≡ value ρ a
  normal-sound ρ (var i) = at-sound ρ i
  normal-sound ρ O = nil-sound ρ
  normal-sound ρ I = unit-sound ρ
  normal-sound ρ (a ⊕ b) = plus-sound ρ _ _ ∙ ap₂ add (normal-sound ρ a) (normal-sound ρ b)
  normal-sound ρ (a ⊗ b) = times-sound ρ _ _ ∙ ap₂ mul (normal-sound ρ a) (normal-sound ρ b)

  off-sound : (ρ : List K) (p : Poly (length ρ)) → T (off (length ρ) p) → val ρ p ≡ o
  unfolding val bit
  off-sound [] true t = absurd t
  off-sound [] false t = refl
  off-sound (x ∷ ρ) p t = off-horner (val ρ) x (off (length ρ)) (off-sound ρ) p t

  -- two expressions whose sum has every bit off are equal, whatever the variables are
  pub solve : (ρ : List K) (a b : Expr) → T (off (length ρ) (normal (length ρ) (a ⊕ b))) → value ρ a ≡ value ρ b
  solve ρ a b t = equal_of_sum _ _ (sym (normal-sound ρ (a ⊕ b)) ∙ off-sound ρ _ t)
