-- The order of refusals: a call that declines gives the first that applies, and it applies where what it asks for is not so.
use Rattle.std.specs.Prelude.{◌≡◌, ◌⊎◌}
use Rattle.refusal.specs.declared.Refusal.{Refusal}

-- refused with e unless P holds, and then as the later ones say
abbrev pub Unless : Type 0 → Refusal → (Refusal → Type 0) → Refusal → Type 0
Unless P e later r = ((P → ⊥) × (r ≡ e)) ⊎ (P × later r)

-- no further refusal applies
abbrev pub Never : Refusal → Type 0
Never r = ⊥
