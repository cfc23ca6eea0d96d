-- One turn of the shift register, as the code makes it.
use Rattle.std.proofs.Common.{◌≡◌, ℕ, suc, ◌-◌, ◌*◌, ◌%◌, ◌^◌, ◌<◌, ◌≤◌, Bool, true, false, cond, not, sym, refl, ap, ◌∙◌, subst, ap₂, arith}
use mathlib.Core.Bool.{beq}
use lib.Bits.{bit_xor, bit_and, xor_zero_r, xor_lt, and_mask}
use Rattle.std.proofs.lemmas.Nat.{one_shl, mod_below, pow_pos}
use Rattle.bits.specs.Bits.{xor, bit_of}
use Rattle.bch.specs.Steps.{turned, register}

abbrev mask : ℕ → ℕ
mask r = (1 * 2 ^ r) % 4294967296 - 1

masked : (r x : ℕ) → r ≤ 24 → bit_and x (mask r) ≡ x % 2 ^ r
masked r x h = ap (λ z. bit_and x (z - 1)) (one_shl r 32 (omega arith)) ∙ and_mask x r

doubled : (r x : ℕ) → r ≤ 24 → bit_and (2 * x) (mask r) ≡ (x * 2) % 2 ^ r
doubled r x h = let z : 2 * x ≡ x * 2 = omega arith in masked r (2 * x) h ∙ ap (λ y. y % 2 ^ r) z

cond-lt : (b : Bool) (y s : ℕ) → y < s → cond b y 0 < s
cond-lt true y s h = h
cond-lt false y s h = omega arith

turned_lt : (g r x : ℕ) (d : Bool) → turned g r x d < 2 ^ r
turned_lt g r x d =
    xor_lt r ((x * 2) % 2 ^ r) (cond (xor (bit_of x (r - 1)) d) (g % 2 ^ r) 0) (mod_below (x * 2) (2 ^ r) (pow_pos r))
    (cond-lt (xor (bit_of x (r - 1)) d) (g % 2 ^ r) (2 ^ r) (mod_below g (2 ^ r) (pow_pos r)))

-- two bits that differ have the sum 1
unequal : (a b : Bool) → not (beq a b) ≡ xor a b
unequal true true = refl
unequal true false = refl
unequal false true = refl
unequal false false = refl

turned_set : (g r x : ℕ) (d : Bool) → r ≤ 24 → xor (bit_of x (r - 1)) d ≡ true → bit_xor (bit_and (2 * x) (mask r)) (bit_and g (mask r)) ≡ turned g r x d
turned_set g r x d h e =
    ap₂ bit_xor (doubled r x h) (masked r g h) ∙ sym (ap (λ b. bit_xor ((x * 2) % 2 ^ r) (cond b (g % 2 ^ r) 0)) e)

turned_clear : (g r x : ℕ) (d : Bool) → r ≤ 24 → xor (bit_of x (r - 1)) d ≡ false → bit_and (2 * x) (mask r) ≡ turned g r x d
turned_clear g r x d h e =
    doubled r x h ∙ sym (ap (λ b. bit_xor ((x * 2) % 2 ^ r) (cond b (g % 2 ^ r) 0)) e ∙ xor_zero_r ((x * 2) % 2 ^ r))

abbrev Next : (g r : ℕ) (c : ℕ → Bool) (s k y : ℕ) → Type 0
Next g r c s k y = (s - 1 ≤ k) × (y < 2 ^ r) × (y ≡ register g r c (s - 1) (k - (s - 1)))

module _ (g r : ℕ) (c : ℕ → Bool) (s k x : ℕ) (few : r ≤ 24) (pos : 0 < s) (le : s ≤ k) (ex : x ≡ register g r c s (k - s)) where
  next : (y : ℕ) → y ≡ turned g r x (c (s - 1)) → Next g r c s k y
  unfolding register
  next y ey =
      let z : suc (k - s) ≡ k - (s - 1) = omega arith in
      let w : s ≡ suc (s - 1) = omega arith in (
        omega arith,
        subst (λ z. z < 2 ^ r) (sym ey) (turned_lt g r x (c (s - 1))),
        ey ∙ ap (λ y. turned g r y (c (s - 1))) (ex ∙ ap (λ n. register g r c n (k - s)) w) ∙ ap (register g r c (s - 1)) z,
      )

  pub register-set : not (beq (bit_of x (r - 1)) (c (s - 1))) ≡ true → Next g r c s k (bit_xor (bit_and (2 * x) (mask r)) (bit_and g (mask r)))
  register-set e = next _ (turned_set g r x (c (s - 1)) few (sym (unequal (bit_of x (r - 1)) (c (s - 1))) ∙ e))

  pub register-clear : not (beq (bit_of x (r - 1)) (c (s - 1))) ≡ false → Next g r c s k (bit_and (2 * x) (mask r))
  register-clear e = next _ (turned_clear g r x (c (s - 1)) few (sym (unequal (bit_of x (r - 1)) (c (s - 1))) ∙ e))

pub register-none : (g r : ℕ) (c : ℕ → Bool) (k : ℕ) → ◌≡◌ {A = ℕ} 0 (register g r c k (k - k))
unfolding register
register-none g r c k = let z : 0 ≡ k - k = omega arith in ap (register g r c k) z
