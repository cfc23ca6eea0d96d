use Rattle.std.proofs.Common.{length, take, Err, sym, ap, ◌∙◌}
use Rattle.std.proofs.Math.Seq.{take-append_seam}
use Rattle.std.proofs.lemmas.Result.{err_from_is_err_and}
use Rattle.corrector.specs.Searched.{clean}
use Rattle.corrector.proofs.Framing.{already, corrected, refused}
use Rattle.corrector.proofs.frame.correct_row.Goals as goal

pub returns-then-is_clean : goal.returns-then-is_clean
returns-then-is_clean g c =
    let s = c.args.s.now in
    already (g.S.Field.model s) (g.S.Field.lawful s) (g.S.Search.strength s) c.args.row.now c.row_cells.result c.row_cells.ensures
    c.in_ok-check_buffer.ensures c.syndromes-sums.result (g.S.Search.few s) c.syndromes-sums.ensures
    (ap (λ t. clean t c.syndromes-sums.result) (sym c.most.ensures) ∙ sym c.if-is_clean.ensures)

pub returns-in_err-count : goal.returns-in_err-count
returns-in_err-count g c =
    let s = c.args.s.now in
    let p = err_from_is_err_and c.from_residual-in_err-count.result c.from_residual-in_err-count.ensures.1 in
    refused (g.S.Field.model s) (g.S.Field.lawful s) (g.S.Search.strength s) c.args.row.now c.row_cells.result c.row_cells.ensures
    c.in_ok-check_buffer.ensures c.syndromes-sums.result c.syndromes-sums.ensures _ c.search.new.row
    (ap (take (length c.args.row.now)) c.padded-copy.ensures ∙ take-append_seam c.args.row.now _) c.search.result c.search.ensures
    c.from_residual-in_err-count.result c.in_err-count.field-0.0 (p.1 ∙ ap Err p.2) (sym c.ok_or.ensures.value ∙ c.in_err-count.was)

pub returns : goal.returns
returns g c =
    let s = c.args.s.now in
    corrected (g.S.Field.model s) (g.S.Field.lawful s) (g.S.Search.strength s) c.args.row.now c.row_cells.result c.row_cells.ensures
    c.in_ok-check_buffer.ensures c.syndromes-sums.result c.syndromes-sums.ensures _ c.search.new.row
    (ap (take (length c.args.row.now)) c.padded-copy.ensures ∙ take-append_seam c.args.row.now _) c.search.result c.search.ensures
    c.copy_from_slice.new.self c.in_ok-count.count (sym c.ok_or.ensures.value ∙ c.in_ok-count.was) c.copy_from_slice.ensures.after
    c.copy_from_slice.ensures.len
