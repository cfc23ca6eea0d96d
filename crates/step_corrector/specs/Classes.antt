-- The class of a row by t, by whether its first t syndromes are zero, and by which determinants vanish.
use Rattle.std.specs.Prelude.{ℕ, zero, suc, ◌+◌, Bool, true, false, ◌&&◌, ◌==◌, nat_lt}
use Rattle.galois.specs.Model.{FieldModel}
use Rattle.galois.specs.Ring.{numbers}
use Rattle.galois.specs.Sums.{D2, D3}
use Rattle.field.specs.declared.syndromes.Syndromes.{Syndromes}
use Rattle.corrector.specs.Searched.{clean}
use Rattle.step_corrector.specs.declared.class.Class.{Class}
use Rattle.step_corrector.specs.declared.class.Class.TheVariants.{Clean, One, Two, Three, Beyond}

-- how many errors each class shows; 4 stands for more than can be told
abbrev pub number : Class → ℕ
number Clean = 0
number One = 1
number Two = 2
number Three = 3
number Beyond = 4

-- the cases: t, whether the first t syndromes are zero, and whether D1, D2 and D3 are
abbrev pub class_by : ℕ → (clean d1 d2 d3 : Bool) → Class
class_by t true d1 d2 d3 = Clean
class_by zero false d1 d2 d3 = Beyond
class_by (suc zero) false d1 d2 d3 = One
class_by (suc (suc zero)) false true d2 d3 = Beyond
class_by (suc (suc zero)) false false true d3 = One
class_by (suc (suc zero)) false false false d3 = Two
class_by (suc (suc (suc zero))) false true d2 true = Beyond
class_by (suc (suc (suc zero))) false false true true = One
class_by (suc (suc (suc zero))) false false false true = Two
class_by (suc (suc (suc zero))) false d1 true false = Beyond
class_by (suc (suc (suc zero))) false d1 false false = Three
class_by (suc (suc (suc (suc t)))) false d1 d2 d3 = Beyond

-- the class of syndromes: D1 is S_1, D2 and D3 are the determinants of them
abbrev pub class_for : FieldModel → ℕ → Syndromes → Class
class_for F t s =
    class_by t (clean t s) (s.s1 == 0) (D2 (numbers F) s.s1 s.s3 == 0) (D3 (numbers F) s.s1 s.s3 s.s5 == 0)

-- the class falls by exactly one, and not from beyond
abbrev pub falls : Class → Class → Bool
falls a b = (number b + 1 == number a) && nat_lt (number a) 4
