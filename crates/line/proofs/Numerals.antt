-- Numerals: two digits that are read one by one, and the digits that a decimal number is printed in.
use Rattle.std.proofs.Common.{◌≡◌, ℕ, ◌+◌, ◌-◌, ◌*◌, ◌/◌, ◌%◌, ◌^◌, ◌<◌, List, [], ◌∷◌, length, get_or, sym, ap, ◌∙◌, arith, lit<}
use Rattle.std.specs.Fmt as W
use Rattle.std.specs.List.{AllByRecursion}
use Rattle.std.proofs.lemmas.Fmt.{decimal_by_steps, length-decimal-le, decimal_nonempty}
use Rattle.std.proofs.ByRecursion.{All-push, All-weaker}
use Rattle.std.proofs.lemmas.List.Sums.{fold_push}
use Rattle.line.specs.Digits.{hex_digit}
use Rattle.line.specs.Lines.{Lacks}
use Rattle.line.specs.Spelling.{Digit, HexDigit, HexNumeral, Numeral, value}

pub two_digits : (t : List ℕ) (x y : ℕ) → length t ≡ 2 → HexDigit (get_or t 0 0) x → HexDigit (get_or t 1 0) y → HexNumeral t (x * 16 + y)
two_digits [] x y n h l = absurd (omega arith)
two_digits (a ∷ []) x y n h l = absurd (omega arith)
two_digits (a ∷ b ∷ c ∷ t) x y n h l = absurd (omega arith)
two_digits (a ∷ b ∷ []) x y n h l =
    let high : x ≡ (x * 16 + y) / 16 = omega arith in
    let low : y ≡ (x * 16 + y) % 16 = omega arith in
    let p : a ≡ hex_digit ((x * 16 + y) / 16) = h.1 ∙ ap hex_digit high in
    let q : b ≡ hex_digit ((x * 16 + y) % 16) = l.1 ∙ ap hex_digit low in
    (omega arith, λ i. p i ∷ q i ∷ [])

-- No digit is a space.
pub no_space : (t : List ℕ) (n : ℕ) → Numeral t n → Lacks 32 t
no_space t n h = All-weaker Digit (λ c. c ≡ 32 → ⊥) (λ c d e. omega arith) t h.2

-- What is printed of a number is digits that write it.
abbrev Writes : ℕ → List ℕ → Type 0
Writes n t = AllByRecursion Digit t × (value t ≡ n)

writes : (n : ℕ) → n < 2 ^ 64 → Writes n (W.decimal n)
writes = decimal_by_steps Writes
    (λ m l. (((omega arith, omega arith), tt), omega arith))
    (λ m t l w. (All-push Digit t (48 + m % 10) w.0 (omega arith, omega arith), fold_push (λ a x. a * 10 + (x - 48)) 0 t (48 + m % 10) ∙ omega (arith, w.1)))

pub printed : (n : ℕ) → n < 100000 → Numeral (W.decimal n) n
printed n h =
    let k : n < 2 ^ 64 = omega arith in
    let w = writes n k in
    (decimal_nonempty n k, length-decimal-le 5 n (lit< tt) h k, w.0, sym w.1)
