-- The syndromes of a row given by its positions, and what turning one position does to them.
use Rattle.std.specs.Prelude.{ℕ, Bool, bit_xor}
use Rattle.galois.specs.Model.{FieldModel, sum_of, product-of}
use Rattle.galois.specs.Rows.{power_sum}
use Rattle.field.specs.declared.syndromes.Syndromes.{Syndromes}

-- S_1, S_3 and S_5 of the first n positions
abbrev pub syndromes_of : FieldModel → (ℕ → Bool) → ℕ → Syndromes
syndromes_of F c n = record { s1 = power_sum F 1 c n; s3 = power_sum F 3 c n; s5 = power_sum F 5 c n }

-- x, x ^ 3 and x ^ 5 added to them
abbrev pub with_turn : FieldModel → Syndromes → ℕ → Syndromes
with_turn F s x = record {
  s1 = sum_of F s.s1 x;
  s3 = sum_of F s.s3 (product-of F (product-of F x x) x);
  s5 = sum_of F s.s5 (product-of F (product-of F (product-of F x x) x) (product-of F x x));
}

-- the sums of two, bit by bit
abbrev pub plus : Syndromes → Syndromes → Syndromes
plus a b = record { s1 = bit_xor a.s1 b.s1; s3 = bit_xor a.s3 b.s3; s5 = bit_xor a.s5 b.s5 }
