-- Either answer is `entry_of` of the value, and so has its law and its way back.
use Rattle.std.proofs.Common.{Ok, sym, ap, ◌∙◌, subst, w16, SFits, rules}
use lib.Ieee.{Float, binary64, le, mul, to_signed}
use Rattle.std.proofs.lemmas.Float.{T_from_true}
use Rattle.std.proofs.lemmas.Int.{to_z-of_z}
use Rattle.std.specs.Float.{round_with}
use Rattle.entry.specs.Rounding.{rounded}
use Rattle.entry.specs.Values.{Represents}
use Rattle.entry.proofs.Exact.{represents, way_back}
use Rattle.entry.proofs.Scaled.{accepts, refuses, sixty_four, five_hundred}
use Rattle.entry.proofs.value.entry_of.Goals as goal

pub returns-then-abs : goal.returns-then-abs
returns-then-abs c =
    let r = c.saturating_f64_to_i16 in
    let v = c.args.value in
    let f : SFits w16 r.result = search rules in
    let a =
    ap Ok (to_z-of_z w16 r.result f ∙ r.ensures ∙ ap (to_signed 15) (c.nearest_float.ensures ∙ ap (λ (y : Float). round_with rounded rounded binary64 (mul binary64 v y)) sixty_four))
    ∙ accepts v (T_from_true _ c.well_formed.0.1) (sym (λ i. le (c.abs.ensures.value i) (five_hundred i)) ∙ c.if-abs.true) in
    record { answer = a; law = subst (Represents v) (sym a) (represents v); back = λ z h k. a ∙ way_back v z h k }

pub returns-else-abs : goal.returns-else-abs
returns-else-abs c =
    let v = c.args.value in
    let a = refuses v (sym (λ i. le (c.abs.ensures.value i) (five_hundred i)) ∙ c.if-abs.false) in
    record { answer = a; law = subst (Represents v) (sym a) (represents v); back = λ z h k. a ∙ way_back v z h k }
