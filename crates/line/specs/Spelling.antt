-- Which lines spell a command. A line is the list of its bytes, without its newline.
use Rattle.std.specs.Prelude.{◌≡◌, ℕ, ◌+◌, ◌-◌, ◌*◌, ◌<◌, ◌≤◌, List, ◌++◌, length, Ok, Err, codes, fold, Result, ◌≢◌}
use Rattle.std.specs.Borrow.{Bor}
use Rattle.std.specs.List.{AllByRecursion}
use Rattle.refusal.specs.declared.Refusal.{Refusal}
use Rattle.refusal.specs.declared.Refusal.TheVariants.{Line}
use Rattle.line.specs.declared.command.Command.{Command}
use Rattle.line.specs.declared.command.Command.TheVariants.{Write, Read, Knock, Mend, Sweep}
use Rattle.line.specs.Digits.{hex_digit, hex_byte}

-- c is a decimal digit; 48 is the code of 0.
abbrev pub Digit : ℕ → Type 0
Digit c = (48 ≤ c) × (c ≤ 57)

-- The number that decimal digits write.
abbrev pub value : List ℕ → ℕ
value t = fold (λ n c. n * 10 + (c - 48)) 0 t

-- t writes n: one to five decimal digits, leading zeros among them.
abbrev pub Numeral : List ℕ → ℕ → Type 0
Numeral t n = (1 ≤ length t) × (length t ≤ 5) × AllByRecursion Digit t × (n ≡ value t)

-- c is the digit of x.
abbrev pub HexDigit : ℕ → ℕ → Type 0
HexDigit c x = (x < 16) × (c ≡ hex_digit x)

-- t is the two digits of the byte b.
abbrev pub HexNumeral : List ℕ → ℕ → Type 0
HexNumeral t b = (b < 256) × (t ≡ hex_byte b)

-- The line s spells the command: its letter, and each of its fields after a single space.
abbrev pub Spells : List ℕ → Command → Type 0
Spells s (Write row byte) = (t : List ℕ) × (u : List ℕ) × Numeral t row × HexNumeral u byte × (s ≡ codes "W " ++ (t ++ (codes " " ++ u)))
Spells s (Read row) = (t : List ℕ) × Numeral t row × (s ≡ codes "R " ++ t)
Spells s (Knock from len) = (t : List ℕ) × (u : List ℕ) × Numeral t from × Numeral u len × (s ≡ codes "K " ++ (t ++ (codes " " ++ u)))
Spells s (Mend row) = (t : List ℕ) × Numeral t row × (s ≡ codes "M " ++ t)
Spells s Sweep = s ≡ codes "S"

-- The numbers of the command have at most five digits, and its byte fits: then it has a spelling.
abbrev pub Typable : Command → Type 0
Typable (Write row byte) = (row < 100000) × (byte < 256)
Typable (Read row) = row < 100000
Typable (Knock from len) = (from < 100000) × (len < 100000)
Typable (Mend row) = row < 100000
Typable Sweep = Unit {0}

-- What reading answers: some x of which P holds; or the refusal 1, and then P holds of none.
abbrev pub Reads : {X : Type 0} → (X → Type 0) → Result X Refusal → Type 0
Reads {X} P (Ok x) = P x
Reads {X} P (Err e) = (e ≡ Line) × ((x : X) → P x → ⊥)

-- The same of a number at the front of s, and what follows it after a space.
abbrev pub Leads : List ℕ → Result (ℕ × Bor (List ℕ)) Refusal → Type 0
Leads s (Ok p) = (t : List ℕ) × Numeral t p.0 × (s ≡ t ++ (codes " " ++ p.1.now))
Leads s (Err e) = (e ≡ Line) × ((t u : List ℕ) (n : ℕ) → Numeral t n → s ≢ t ++ (codes " " ++ u))
