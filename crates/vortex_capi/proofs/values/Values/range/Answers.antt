use Rattle.std.proofs.Common.{None, Some}
use Rattle.vortex_capi.proofs.ExtentLemmas.{none_read, plain_read}
use Rattle.vortex_capi.proofs.values.Values.range.Goals as goal

pub loop-row-init : goal.loop-row-init
loop-row-init g c = λ n.
    let v = c.args.self.now in
    let number = g.N.Number.pvalue in
    let t = g.N.Number.PTYPE in
    rw c.requires.none
    (plain_read number t n v.values.now v.start v.ends.now 0 None c.number_at.result (Some c.new-range.result) (none_read number t n v.values.now v.start v.ends.now) c.number_at.ensures.read c.number_at.ensures.fits c.new-range.ensures)

pub loop-row-preserved : goal.loop-row-preserved
loop-row-preserved g c = λ n.
    let v = c.args.self.now in
    let l = c.loop-row in
    let before = rw c.requires.none at l.invariant n in
    rw c.requires.none
    (plain_read g.N.Number.pvalue g.N.Number.PTYPE n v.values.now v.start v.ends.now l.row (Some l.range) c.number_at-in-loop-row.result (Some c.then-range.result) before c.number_at-in-loop-row.ensures.read c.number_at-in-loop-row.ensures.fits
    c.then-range.ensures)
