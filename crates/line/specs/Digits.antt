-- The digits in which a byte is typed and printed.
use Rattle.std.specs.Prelude.{ℕ, ◌+◌, ◌-◌, ◌/◌, ◌%◌, cond, List, [], ◌∷◌, nat_lt}

-- The digit of a number below 16: 0 to 9 (48 is the code of 0), then A to F (65 is the code of A).
abbrev pub hex_digit : ℕ → ℕ
hex_digit x = cond (nat_lt x 10) (48 + x) (65 + (x - 10))

-- The two digits of a byte, the high one first.
abbrev pub hex_byte : ℕ → List ℕ
hex_byte b = hex_digit (b / 16) ∷ hex_digit (b % 16) ∷ []
