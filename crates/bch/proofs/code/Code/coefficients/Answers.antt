use Rattle.std.proofs.Common.{◌≡◌, ◌+◌, ◌*◌, ◌%◌, ◌<◌, sym, refl, ap, ◌∙◌, subst, ap₂, rules}
use Rattle.galois.specs.Model.{size, units, power, product-of}
use Rattle.galois.proofs.Laws.{power-lt}
use Rattle.galois.specs.Cosets.{walk}
use Rattle.bch.proofs.Factors.{no-factors, more-factors, here_byte, first-lt, coefficient-lt, walk-wraps, walk-goes, power-once, power-twice, power-two-more}
use Rattle.bch.proofs.Counts.{units-pos}
use Rattle.bch.proofs.code.Code.coefficients.Goals as goal
use Rattle.bch.proofs.code.Code.coefficients.Goals.{then-here-first, else-here-first}

pub loop-init : goal.loop-init
unfolding walk
loop-init g c =
    let F = g.F.Field.model c.args.self.now.field.now in
    let laws = g.F.Field.lawful c.args.self.now.field.now in
    let one = power-once F laws c.alpha-lead.result c.alpha-lead.ensures in
    (refl, refl, one, one, no-factors F laws)

pub times_factor-g-requires : goal.times_factor-g-requires
times_factor-g-requires g c =
    let F = g.F.Field.model c.args.self.now.field.now in
    let laws = g.F.Field.lawful c.args.self.now.field.now in
    record {
      elements = λ i h. subst (λ z. z < size F) (sym (c.loop.invariant.4 i h)) (coefficient-lt F laws c.loop.counter i);
      element = subst (λ z. z < size F) (sym c.loop.invariant.3) (power-lt F laws c.loop.here);
    }

pub overflow_mul-here : goal.overflow_mul-here
overflow_mul-here g c =
    let F = g.F.Field.model c.args.self.now.field.now in
    let laws = g.F.Field.lawful c.args.self.now.field.now in
    let l = c.loop in
    let h = here_byte F laws c.args.self.now.t l.counter c.check_cells-end.result l.here c.args.self.now.few c.check_cells-end.ensures.value c.loop-test.true l.invariant.1 in
    search rules

pub nonzero_rem-here : goal.nonzero_rem-here
nonzero_rem-here g c =
    subst (λ z. 0 < z) (sym (c.from-n.ensures ∙ c.row_cells.ensures)) (units-pos (g.F.Field.model c.args.self.now.field.now) (g.F.Field.lawful c.args.self.now.field.now))

pub overflow_add-first : goal.overflow_add-first
overflow_add-first g c =
    let F = g.F.Field.model c.args.self.now.field.now in
    let laws = g.F.Field.lawful c.args.self.now.field.now in
    let l = c.loop in
    let h = first-lt F laws c.args.self.now.t l.counter c.check_cells-end.result l.first c.args.self.now.few c.check_cells-end.ensures.value c.loop-test.true l.invariant.0 in
    search rules

pub loop-preserved : goal.loop-preserved
loop-preserved g c =
    let F = g.F.Field.model c.args.self.now.field.now in
    let laws = g.F.Field.lawful c.args.self.now.field.now in
    let l = c.loop in
    let j = c.if-here-first in
    let n = units F in
    let i = l.invariant in
    let twice : (2 * l.here) % c.from-n.result ≡ (2 * (walk n l.counter).here) % n = ap₂ (λ h k. (2 * h) % k) i.1 (c.from-n.ensures ∙ c.row_cells.ensures) in
    let squared = c.mul-square.ensures ∙ ap₂ (product-of F) c.alpha.ensures c.alpha-2.ensures in
    let all : (j.first ≡ (walk n (l.counter + 1)).first) × (j.here ≡ (walk n (l.counter + 1)).here) × (j.lead ≡ power F j.first) × (j.root ≡ power F j.here) =
    elim c.if-here-first.branch [
      | then-here-first w ↦
          let e = walk-wraps n l.counter (sym twice ∙ w.if-here-first.true ∙ i.0) in
          let p = power-two-more F laws l.first l.lead c.mul-square.result w.mul-lead.result i.2 squared w.mul-lead.ensures in (
            w.first-is ∙ ap (λ y. y + 2) i.0 ∙ e.0,
            w.here-is ∙ ap (λ y. y + 2) i.0 ∙ e.1,
            w.lead-is ∙ p ∙ ap (power F) (sym w.first-is),
            w.root-is ∙ p ∙ ap (power F) (sym w.here-is),
          )
      | else-here-first w ↦
          let e = walk-goes n l.counter (λ q. w.if-here-first.false (twice ∙ q ∙ sym i.0)) in
          let p = power-twice F laws l.here l.root c.mul-root.result c.from-n.result (c.from-n.ensures ∙ c.row_cells.ensures) i.3 c.mul-root.ensures in (
            w.first-is ∙ i.0 ∙ e.0,
            w.here-is ∙ twice ∙ e.1,
            w.lead-is ∙ i.2 ∙ ap (power F) (sym w.first-is),
            w.root-is ∙ p ∙ ap (power F) (sym w.here-is),
          )
    ] in (
      all.0,
      all.1,
      all.2,
      all.3,
      more-factors F laws l.counter l.root l.g c.times_factor-g.result (i.3 ∙ ap (power F) i.1) i.4 c.times_factor-g.ensures,
    )
