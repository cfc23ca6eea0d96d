-- An entry is a float exactly, and so is its quotient by 64.
use Rattle.std.proofs.Common.{◌≤◌, nat_abs, sym, ◌∙◌, subst, arith, w16}
use lib.Ieee.{Float, binary64, div, of_int}
use Rattle.std.proofs.lemmas.Int.{to_z-of_z, ints}
use Rattle.entry.specs.Values.{SixtyFourths}
use Rattle.entry.proofs.Exact.{entry_value, way_back, past-limit}
use Rattle.entry.proofs.Scaled.{sixty_four}
use Rattle.entry.proofs.value.arcseconds.Goals as goal

pub returns : goal.returns
returns c =
    let z = c.args.entry in
    let h : nat_abs z ≤ 32768 = omega (arith, ints) in
    let q = c.from.ensures ∙ (λ i. of_int binary64 (to_z-of_z w16 z c.ranges.entry i)) in
    let v = subst (λ (y : Float). SixtyFourths y z) (sym (λ i. div binary64 (q i) (sixty_four i))) (entry_value z h) in
    record { value = v; back = λ k. way_back _ z k v; beyond = λ k. past-limit _ z k v }
