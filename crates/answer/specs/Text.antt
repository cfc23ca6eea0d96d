-- What is printed for each line, without the newline.
use Rattle.std.specs.Prelude.{ℕ, List, ◌++◌, Ok, Err, Result, codes, decimal}
use Rattle.refusal.specs.declared.Refusal.{Refusal}
use Rattle.refusal.specs.Numbers.{number_of}
use Rattle.answer.specs.declared.Answer.{Answer}
use Rattle.answer.specs.declared.Answer.TheVariants.{Done, Read, Count, Swept}
use Rattle.line.specs.Digits.{hex_byte}

-- Numbers are decimal without leading zeros, and the byte of a row has two digits.
abbrev pub answer_text : Answer → List ℕ
answer_text Done = codes "ok"
answer_text (Read byte count) = hex_byte byte ++ (codes " " ++ decimal count)
answer_text (Count count) = decimal count
answer_text (Swept accepted refused turned) = decimal accepted ++ (codes " " ++ (decimal refused ++ (codes " " ++ decimal turned)))

-- The text of what a line came to: its answer, or a refusal, which goes by its number.
abbrev pub text_of : Result Answer Refusal → List ℕ
text_of (Ok answer) = answer_text answer
text_of (Err refusal) = codes "no " ++ decimal (number_of refusal)
