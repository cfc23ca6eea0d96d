-- What is printed for a line is letters, digits and spaces.
use Rattle.std.proofs.Common.{◌≡◌, ℕ, zero, suc, ◌/◌, ◌%◌, Bool, true, false, cond, eqb, List, [], ◌∷◌, ◌++◌, Ok, Err, Result, arith}
use Rattle.std.specs.Fmt as W
use Rattle.std.proofs.ByRecursion.{All-append}
use Rattle.refusal.specs.declared.Refusal.{Refusal}
use Rattle.refusal.specs.Numbers.{number_of}
use Rattle.answer.specs.Text.{text_of}
use Rattle.line.specs.Digits.{hex_digit}
use Rattle.line.specs.Lines.{Lacks}
use Rattle.answer.specs.declared.Answer.{Answer}
use Rattle.answer.specs.declared.Answer.TheVariants.{Done, Read, Count, Swept}
use Rattle.answer.proofs.Reply.text.Goals as goal

digit : (n : ℕ) → W.digit_glyph false (n % 10) ≡ 10 → ⊥
digit n e = grind arith

either : (b : Bool) (s t : List ℕ) → Lacks 10 s → Lacks 10 t → Lacks 10 (cond b s t)
either true s t p q = p
either false s t p q = q

spelled : (k n : ℕ) (s : List ℕ) → Lacks 10 s → Lacks 10 (W.digits_onto k 10 false n s)
spelled zero n s a = a
spelled (suc k) n s a = either (eqb (n / 10) 0) _ _ (digit n, a) (spelled k (n / 10) (W.digit_glyph false (n % 10) ∷ s) (digit n, a))

decimal : (n : ℕ) → Lacks 10 (W.decimal n)
unfolding W.digits
decimal n = spelled 64 n [] tt

hex : (x : ℕ) → hex_digit x ≡ 10 → ⊥
hex x e = grind arith

space : (s t : List ℕ) → Lacks 10 s → Lacks 10 t → Lacks 10 (s ++ (32 ∷ t))
space s t a b = All-append (λ c. c ≡ 10 → ⊥) s (32 ∷ t) a ((λ e. omega arith), b)

one_line : (a : Result Answer Refusal) → Lacks 10 (text_of a)
one_line (Ok Done) = ((λ e. omega arith), ((λ e. omega arith), tt))
one_line (Ok (Read byte count)) = (hex (byte / 16), (hex (byte % 16), ((λ e. omega arith), decimal count)))
one_line (Ok (Count count)) = decimal count
one_line (Ok (Swept accepted refused turned)) = space _ _ (decimal accepted) (space _ _ (decimal refused) (decimal turned))
one_line (Err refusal) = ((λ e. omega arith), ((λ e. omega arith), ((λ e. omega arith), decimal (number_of refusal))))

pub returns-clause-line : goal.returns-clause-line
returns-clause-line c = one_line c.args.self.now.0
