-- The coefficients of the error locator, and its value as it is computed.
use Rattle.std.specs.Prelude.{ℕ, ◌<◌}
use Rattle.galois.specs.Model.{FieldModel, size, sum_of, product-of}
use Rattle.galois.specs.Ring.{numbers}
use Rattle.galois.specs.Rows.{Few}
use Rattle.decoding.specs.Locators.{Locates}
use Rattle.field.specs.declared.syndromes.Syndromes.{Syndromes}
use Rattle.corrector.specs.Searched.{Elements}
use Rattle.direct_corrector.specs.declared.locator.Coefficients.{Coefficients}

-- they are elements, and those of the locator for these syndromes
abbrev pub Located : FieldModel → ℕ → Syndromes → Coefficients → Type 0
Located F t s r =
    Few t → Elements F s
    → (r.second < size F) × (r.third < size F) × Locates (numbers F) t s.s1 s.s3 s.s5 r.second r.third

-- ((x + r1) * x + r2) * x + r3
abbrev pub value_at : FieldModel → ℕ → ℕ → ℕ → ℕ → ℕ
value_at F r1 r2 r3 x = sum_of F (product-of F (sum_of F (product-of F (sum_of F x r1) x) r2) x) r3
