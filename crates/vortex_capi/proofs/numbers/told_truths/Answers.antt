use Rattle.vortex_base.specs.declared.scalar_value.ScalarValue.TheVariants as value
use Rattle.vortex_capi.specs.MapCells.{seen}
use Rattle.vortex_capi.proofs.NumberLemmas.{told_on}
use Rattle.vortex_capi.proofs.numbers.told_truths.Goals as goal

pub loop-place-preserved : goal.loop-place-preserved
loop-place-preserved g c =
    let l = c.loop-place in
    let number = seen g.N.Number.pvalue c.in_ok-number.number in
    told_on value.Bool c.args.aggregate c.args.source.now c.args.rows.now c.args.from l.place l.truths c.push.new.self c.told_truth-truth.result number c.in-Ok.ensures.pushed c.in_ok-number.ensures.read c.told_truth-truth.ensures l.invariant
