-- What a line spells: nothing but what its letter says, at most one command, never more than 32 bytes, and each command by some line.
use Rattle.std.proofs.Common.{◌≡◌, ℕ, ◌+◌, ◌-◌, ◌*◌, ◌/◌, ◌%◌, ◌<◌, ◌≤◌, cond, eqb, leb, List, [], ◌∷◌, ◌++◌, length, get_or, drop, Ok, Err, decimal, Result, sym, refl, ap, ◌∙◌, subst, arith}
use Rattle.std.proofs.lemmas.List.{length-append}
use Rattle.refusal.specs.declared.Refusal.{Refusal}
use Rattle.refusal.specs.declared.Refusal.TheVariants.{Line}
use Rattle.line.specs.declared.command.Command.{Command}
use Rattle.line.specs.declared.command.Command.TheVariants.{Write, Read, Knock, Mend, Sweep}
use Rattle.line.specs.Digits.{hex_digit, hex_byte}
use Rattle.line.specs.Spelling.{Numeral, HexNumeral, Reads, Spells, Typable, value}
use Rattle.line.proofs.Cuts.{front, behind, front-is, behind-is}
use Rattle.line.proofs.Numerals.{no_space, printed}

-- ---- a line spells nothing unless its fields are those of its letter

pub none_after : (s : List ℕ) → (get_or s 0 0 ≡ 87 → (t u : List ℕ) (row byte : ℕ) → Numeral t row → HexNumeral u byte → drop 2 s ≡ t ++ (32 ∷ u) → ⊥) → (get_or s 0 0 ≡ 82 → (row : ℕ) → Numeral (drop 2 s) row → ⊥) → (get_or s 0 0 ≡ 75 → (t u : List ℕ) (from len : ℕ) → Numeral t from → Numeral u len → drop 2 s ≡ t ++ (32 ∷ u) → ⊥) → (get_or s 0 0 ≡ 77 → (row : ℕ) → Numeral (drop 2 s) row → ⊥) → (s ≡ 83 ∷ [] → ⊥) → (c : Command) → Spells s c → ⊥
none_after s w r n m o (Write row byte) h = w (ap (λ (l : List ℕ). get_or l 0 0) h.4) h.0 h.1 row byte h.2 h.3 (ap (drop 2) h.4)
none_after s w r n m o (Read row) h = r (ap (λ (l : List ℕ). get_or l 0 0) h.2) row (subst (λ (x : List ℕ). Numeral x row) (sym (ap (drop 2) h.2)) h.1)
none_after s w r n m o (Knock from len) h = n (ap (λ (l : List ℕ). get_or l 0 0) h.4) h.0 h.1 from len h.2 h.3 (ap (drop 2) h.4)
none_after s w r n m o (Mend row) h = m (ap (λ (l : List ℕ). get_or l 0 0) h.2) row (subst (λ (x : List ℕ). Numeral x row) (sym (ap (drop 2) h.2)) h.1)
none_after s w r n m o Sweep h = o h

-- ---- no line spells two commands: the one that it spells is read off its letter and its fields

unhex : ℕ → ℕ
unhex c = cond (leb c 57) (c - 48) (c - 55)

unhex_is : (x : ℕ) → x < 16 → unhex (hex_digit x) ≡ x
unfolding unhex
unhex_is x h = grind arith

decode : ℕ → List ℕ → Command
decode k s = cond (eqb k 87) (Write (value (front 32 s)) (unhex (get_or (behind 32 s) 0 0) * 16 + unhex (get_or (behind 32 s) 1 0))) (cond (eqb k 82) (Read (value s)) (cond (eqb k 75) (Knock (value (front 32 s)) (value (behind 32 s))) (cond (eqb k 77) (Mend (value s)) Sweep)))

decoded : (s : List ℕ) (c : Command) → Spells s c → c ≡ decode (get_or s 0 0) (drop 2 s)
unfolding decode
decoded s (Write row byte) h =
    let a = front-is 32 h.0 h.1 (no_space h.0 row h.2) in
    let b = behind-is 32 h.0 h.1 (no_space h.0 row h.2) ∙ h.3.1 in
    let high = unhex_is (byte / 16) (omega (arith, h.3.0)) in
    let low = unhex_is (byte % 16) (omega arith) in
    let p : byte ≡ byte / 16 * 16 + byte % 16 = omega arith in
    rw (h.4, a, b) (λ i. Write (h.2.3 i) ((p ∙ (λ j. sym high j * 16 + sym low j)) i))
decoded s (Read row) h = rw h.2 (ap Read h.1.3)
decoded s (Knock from len) h =
    let a = front-is 32 h.0 h.1 (no_space h.0 from h.2) in
    let b = behind-is 32 h.0 h.1 (no_space h.0 from h.2) in
    rw (h.4, a, b) (λ i. Knock (h.2.3 i) (h.3.3 i))
decoded s (Mend row) h = rw h.2 (ap Mend h.1.3)
decoded s Sweep h = rw h

pub only : (s : List ℕ) (c d : Command) → Spells s c → Spells s d → c ≡ d
only s c d h k = decoded s c h ∙ sym (decoded s d k)

-- What stands behind a numeral and a space is settled too.
pub second_field : (s t u v x : List ℕ) (m n : ℕ) → Numeral t m → Numeral v n → s ≡ t ++ (32 ∷ u) → s ≡ v ++ (32 ∷ x) → u ≡ x
second_field s t u v x m n a b p q = sym (behind-is 32 t u (no_space t m a)) ∙ ap (behind 32) (sym p ∙ q) ∙ behind-is 32 v x (no_space v n b)

-- ---- no spelling is long

short : (s : List ℕ) (c : Command) → Spells s c → length s ≤ 32
short s (Write row byte) h = let e = ap length h.4 in omega (arith, length-append h.0 (32 ∷ h.1), ap length h.3.1)
short s (Read row) h = let e = ap length h.2 in omega arith
short s (Knock from len) h = let e = ap length h.4 in omega (arith, length-append h.0 (32 ∷ h.1))
short s (Mend row) h = let e = ap length h.2 in omega arith
short s Sweep h = let e = ap length h in omega arith

pub long : (s : List ℕ) (r : Result Command Refusal) → Reads (Spells s) r → 32 < length s → r ≡ Err Line
long s (Ok c) a l = absurd (omega (arith, short s c a))
long s (Err e) a l = ap Err a.0

-- ---- every command that can be typed has a spelling

pub typed : (c : Command) → Typable c → (s : List ℕ) × Spells s c
typed (Write row byte) h = (_, (decimal row, hex_byte byte, printed row h.0, (h.1, refl), refl))
typed (Read row) h = (_, (decimal row, printed row h, refl))
typed (Knock from len) h = (_, (decimal from, decimal len, printed from h.0, printed len h.1, refl))
typed (Mend row) h = (_, (decimal row, printed row h, refl))
typed Sweep h = (_, refl)
