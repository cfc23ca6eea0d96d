-- Numbers made bit by bit, the highest first.
use Rattle.std.proofs.Common.{◌≡◌, ℕ, zero, suc, ◌+◌, ◌-◌, ◌*◌, ◌/◌, ◌%◌, ◌^◌, ◌<◌, ◌≤◌, eqb, List, [], ◌∷◌, length, get_or, sym, refl, ap, ◌∙◌, subst, arith}
use Rattle.std.proofs.lemmas.Nat.{shr-shr}
use Rattle.std.specs.List.{push}
use Rattle.std.proofs.lemmas.List.{length_push, get_or_push, get_or_append_left}
use Rattle.bits.specs.Bits.{bit_of}

push_first : (x b : ℕ) → b < 2 → bit_of (2 * x + b) 0 ≡ eqb b 1
push_first x b h = let z : (2 * x + b) / 2 ^ 0 % 2 ≡ b = omega arith in ap (λ y. eqb y 1) z

push_more : (x b i : ℕ) → b < 2 → bit_of (2 * x + b) (suc i) ≡ bit_of x i
push_more x b i h =
    let z : suc i ≡ 1 + i = omega arith in
    let w : (2 * x + b) / 2 ≡ x = omega arith in
    ap (λ k. eqb ((2 * x + b) / 2 ^ k % 2) 1) z ∙ ap (λ y. eqb (y % 2) 1) (sym (shr-shr (2 * x + b) 1 i) ∙ ap (λ y. y / 2 ^ i) w)

-- bits from i on, with one more below
pub push_bits : (f : ℕ → ℕ) (count i x : ℕ) → f i < 2
    → ((j : ℕ) → (i + 1) + j < count → bit_of x j ≡ eqb (f ((i + 1) + j)) 1)
    → (j : ℕ) → i + j < count → bit_of (2 * x + f i) j ≡ eqb (f (i + j)) 1
push_bits f count i x hb h zero lt = let z : i ≡ i + 0 = omega arith in push_first x (f i) hb ∙ ap (λ k. eqb (f k) 1) z
push_bits f count i x hb h (suc j) lt =
    let z : (i + 1) + j ≡ i + suc j = omega arith in
    push_more x (f i) j hb ∙ h j (omega arith) ∙ ap (λ k. eqb (f k) 1) z

pub push_lt : (count i x b : ℕ) → i < count → b < 2 → x < 2 ^ (count - (i + 1)) → 2 * x + b < 2 ^ (count - i)
push_lt count i x b lt hb hx =
    let z : suc (count - (i + 1)) ≡ count - i = omega arith in
    let w : 2 * x + b < 2 ^ suc (count - (i + 1)) = omega arith in
    subst (λ k. 2 * x + b < 2 ^ k) z w

-- `rest` are the first numbers of `xs`, and the others are the bits of x
abbrev pub Packed : (xs rest : List ℕ) → ℕ → Type 0
Packed xs rest x =
    (length rest ≤ length xs)
    × ((j : ℕ) → j < length rest → get_or rest j 0 ≡ get_or xs j 0)
    × (x < 2 ^ (length xs - length rest))
    × ((j : ℕ) → length rest + j < length xs → bit_of x j ≡ eqb (get_or xs (length rest + j) 0) 1)

-- the last of the rest put below the bits
pub pack_last : (xs rest : List ℕ) (b x : ℕ) → ((i : ℕ) → i < length xs → get_or xs i 0 < 2) → Packed xs (push rest b) x → Packed xs rest (2 * x + b)
pack_last xs rest b x bits p =
    let i = length rest in
    let more : length (push rest b) ≡ i + 1 = length_push rest b in
    let lt : i < length xs = omega (arith, p.0) in
    let last : b ≡ get_or xs i 0 = sym (get_or_push rest b 0 i refl) ∙ p.1 i (omega arith) in
    let hb : b < 2 = subst (λ z. z < 2) (sym last) (bits i lt) in (
      omega arith,
      (λ j h. sym (get_or_append_left rest (b ∷ []) 0 j h) ∙ p.1 j (omega arith)),
      push_lt (length xs) i x b lt hb (subst (λ k. x < 2 ^ (length xs - k)) more p.2),
      subst (λ z. (j : ℕ) → i + j < length xs → bit_of (2 * x + z) j ≡ eqb (get_or xs (i + j) 0) 1) (sym last)
          (push_bits (λ k. get_or xs k 0) (length xs) i x (bits i lt)
          (subst (λ k. (j : ℕ) → k + j < length xs → bit_of x j ≡ eqb (get_or xs (k + j) 0) 1) more p.3)),
    )
