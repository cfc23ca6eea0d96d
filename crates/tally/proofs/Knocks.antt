-- What a knock does to the distance of two rows.
use Rattle.std.proofs.Common.{◌≡◌, ℕ, suc, ◌+◌, ◌≤◌, Bool, true, false, cond, List, [], ◌∷◌, length, refl, ap, arith}
use Rattle.memory.specs.Mem.{turned}
use Rattle.galois.specs.Rows.{unlike, distance}
use Rattle.tally.specs.Rows.{turned_by, hits}

unlike-self : (x : Bool) → unlike x x ≡ 0
unlike-self true = refl
unlike-self false = refl

pub distance_self : (xs : List Bool) → distance xs xs ≡ 0
distance_self [] = refl
distance_self (x ∷ xs) = omega (arith, unlike-self x, distance_self xs)

pub length-turned : (hit : ℕ → Bool) (xs : List Bool) → length (turned_by hit xs) ≡ length xs
length-turned hit [] = refl
length-turned hit (x ∷ xs) = ap suc (length-turned (λ j. hit (suc j)) xs)

one : (h x y : Bool) → unlike (turned h x) y ≤ cond h 1 0 + unlike x y
one true true true = omega arith
one true true false = omega arith
one true false true = omega arith
one true false false = omega arith
one false x y = omega arith

pub distance-turned : (hit : ℕ → Bool) (xs ys : List Bool) → distance (turned_by hit xs) ys ≤ hits hit (length xs) + distance xs ys
distance-turned hit [] [] = omega arith
distance-turned hit [] (y ∷ ys) = omega arith
distance-turned hit (x ∷ xs) [] = omega (arith, distance-turned (λ j. hit (suc j)) xs [])
distance-turned hit (x ∷ xs) (y ∷ ys) = omega (arith, one (hit 0) x y, distance-turned (λ j. hit (suc j)) xs ys)
