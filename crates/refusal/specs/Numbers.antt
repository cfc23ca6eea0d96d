-- The refusals, each with its number and the words that are printed for it.
use Rattle.std.specs.Prelude.{ℕ, List, codes}
use Rattle.refusal.specs.declared.Refusal.{Refusal}
use Rattle.refusal.specs.declared.Refusal.TheVariants.{Line, Layer, Figures, Entry, Value, Row, Length, UnusedBit, Cell, NoCodeRow}

abbrev pub number_of : Refusal → ℕ
number_of Line = 1
number_of Layer = 2
number_of Figures = 3
number_of Entry = 4
number_of Value = 5
number_of Row = 6
number_of Length = 7
number_of UnusedBit = 8
number_of Cell = 9
number_of NoCodeRow = 10

abbrev pub reason_of : Refusal → List ℕ
reason_of Line = codes "the line has none of the five forms"
reason_of Layer = codes "the layer's figures do not fit"
reason_of Figures = codes "the figures do not fit"
reason_of Entry = codes "no such entry"
reason_of Value = codes "the value is outside -500 to 500"
reason_of Row = codes "no such row"
reason_of Length = codes "the buffer has the wrong length"
reason_of UnusedBit = codes "an unused bit is set"
reason_of Cell = codes "no such cell or run of places"
reason_of NoCodeRow = codes "no code row is near enough"
