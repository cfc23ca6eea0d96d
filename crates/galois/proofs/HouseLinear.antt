-- The house product is linear in its second factor, and commutes with every linear map that commutes with the shift.
use Rattle.std.proofs.Common.{◌≡◌, ℕ, zero, suc, ◌-◌, ◌*◌, ◌/◌, ◌%◌, ◌^◌, ◌<◌, sym, refl, ap, ◌∙◌, ap₂, add-zero, arith, lit<}
use lib.Bits.{bit_xor, xor_zero_r, xor_self, xor_comm, xor_assoc, xor_block, xor_mod, xor_shr}
use Rattle.galois.specs.House.{pick, reducer, shift, product}

pick-bits : (b c p : ℕ) → b < 2 → c < 2 → pick (bit_xor b c) p ≡ bit_xor (pick b p) (pick c p)
pick-bits zero c p hb hc = refl
pick-bits (suc zero) zero p hb hc = sym (xor_zero_r p)
pick-bits (suc zero) (suc zero) p hb hc = sym (xor_self p)
pick-bits (suc zero) (suc (suc c)) p hb hc = absurd (omega arith)
pick-bits (suc (suc b)) c p hb hc = absurd (omega arith)

pick-xor : (b p q : ℕ) → pick b (bit_xor p q) ≡ bit_xor (pick b p) (pick b q)
pick-xor zero p q = refl
pick-xor (suc b) p q = refl

pub swap : (a b c d : ℕ) → bit_xor (bit_xor a b) (bit_xor c d) ≡ bit_xor (bit_xor a c) (bit_xor b d)
swap a b c d =
    xor_assoc a b (bit_xor c d)
    ∙ ap (bit_xor a) (sym (xor_assoc b c d) ∙ ap (λ x. bit_xor x d) (xor_comm b c) ∙ xor_assoc c b d)
    ∙ sym (xor_assoc a c (bit_xor b d))

double_xor : (x y : ℕ) → bit_xor x y * 2 ≡ bit_xor (x * 2) (y * 2)
double_xor x y =
    sym (add-zero (bit_xor x y * 2)) ∙ sym (xor_block 1 x y 0 0 (lit< tt) (lit< tt))
    ∙ ap₂ bit_xor (add-zero (x * 2)) (add-zero (y * 2))

xor-bit : (k x y : ℕ) → bit_xor x y / 2 ^ k % 2 ≡ bit_xor (x / 2 ^ k % 2) (y / 2 ^ k % 2)
xor-bit k x y = ap (λ z. z % 2) (xor_shr x y k) ∙ xor_mod (x / 2 ^ k) (y / 2 ^ k) 1

pub shift-xor : (m x y : ℕ) → shift m (bit_xor x y) ≡ bit_xor (shift m x) (shift m y)
unfolding shift
shift-xor m x y =
    ap₂ bit_xor (ap (λ z. z % 2 ^ m) (double_xor x y) ∙ xor_mod (x * 2) (y * 2) m)
    (ap (λ b. pick b (reducer m % 2 ^ m)) (xor-bit (m - 1) x y)
    ∙ pick-bits (x / 2 ^ (m - 1) % 2) (y / 2 ^ (m - 1) % 2) (reducer m % 2 ^ m) (omega arith) (omega arith))
    ∙ swap ((x * 2) % 2 ^ m) ((y * 2) % 2 ^ m) (pick (x / 2 ^ (m - 1) % 2) (reducer m % 2 ^ m)) (pick (y / 2 ^ (m - 1) % 2) (reducer m % 2 ^ m))

pub product-xor : (m k a x y : ℕ) → product m k a (bit_xor x y) ≡ bit_xor (product m k a x) (product m k a y)
unfolding product
product-xor m zero a x y = refl
product-xor m (suc k) a x y =
    ap₂ bit_xor (pick-xor (a % 2) x y) (ap (product m k (a / 2)) (shift-xor m x y) ∙ product-xor m k (a / 2) (shift m x) (shift m y))
    ∙ swap (pick (a % 2) x) (pick (a % 2) y) (product m k (a / 2) (shift m x)) (product m k (a / 2) (shift m y))

-- f is linear and goes through the shift: it goes through each product
module _ (m : ℕ) (f : ℕ → ℕ) (f-xor : (x y : ℕ) → f (bit_xor x y) ≡ bit_xor (f x) (f y)) where
  pub f_zero : f 0 ≡ 0
  f_zero = f-xor 0 0 ∙ xor_self (f 0)

  f_pick : (b x : ℕ) → f (pick b x) ≡ pick b (f x)
  f_pick zero x = f_zero
  f_pick (suc b) x = refl

  pub through : ((x : ℕ) → f (shift m x) ≡ shift m (f x)) → (k b x : ℕ) → f (product m k b x) ≡ product m k b (f x)
  unfolding product
  through f-shift zero b x = f_zero
  through f-shift (suc k) b x =
      f-xor (pick (b % 2) x) (product m k (b / 2) (shift m x))
      ∙ ap₂ bit_xor (f_pick (b % 2) x) (through f-shift k (b / 2) (shift m x) ∙ ap (product m k (b / 2)) (f-shift x))

pub product-shift : (m k a x : ℕ) → product m k a (shift m x) ≡ shift m (product m k a x)
product-shift m k a x = sym (through m (shift m) (shift-xor m) (λ _. refl) k a x)

-- one factor after the other, in either order
pub product-product : (m a b c : ℕ) → product m m a (product m m b c) ≡ product m m b (product m m a c)
product-product m a b c = through m (product m m a) (product-xor m m a) (product-shift m m a) m b c
