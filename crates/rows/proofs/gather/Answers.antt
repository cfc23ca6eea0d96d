use Rattle.std.proofs.Common.{◌≡◌, arith}
use Rattle.bits.specs.Bits.{Sized}
use Rattle.rows.proofs.Moving.{filled_all}
use Rattle.rows.proofs.gather.Goals as goal

pub returns : goal.returns
returns g c =
    let fits = c.in_ok-check_run.ensures in
    let sized : Sized c.args.n c.loop-j.row = omega (arith, fits.1) in
    let e : c.loop-j.j ≡ c.args.n = omega arith in
    let all = filled_all (g.M.Memory.means c.args.memory.now) c.args.first c.args.n c.loop-j.row sized (rw e at c.loop-j.invariant) in
    (fits.0, fits.1, all.0, all.1)
