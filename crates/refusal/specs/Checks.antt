-- What a check call answers: accepted exactly where the figures fit, else refused with e.
use Rattle.std.specs.Prelude.{◌≡◌, Ok, Err, Result}
use Rattle.refusal.specs.declared.Refusal.{Refusal}

abbrev pub Checked : {U : Type 0} → Type 0 → Refusal → Result U Refusal → Type 0
Checked Fits e (Ok u) = Fits
Checked Fits e (Err r) = (r ≡ e) × (Fits → ⊥)
