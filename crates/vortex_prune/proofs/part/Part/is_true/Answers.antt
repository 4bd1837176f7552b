use Rattle.vortex_prune.proofs.Honesty.MeasuredParts.{truth_goes_on, truth_stops}
use Rattle.vortex_prune.proofs.part.Part.is_true.Goals as goal

pub returns-then-not-is_true_of : goal.returns-then-not-is_true_of
returns-then-not-is_true_of c =
    truth_stops c.args.self.now.chunk.columns c.args.self.now.stats c.loop-i.i c.column.result.now c.stats.result.now _ _ (rw c.chunk-in-loop-i.ensures.value at c.column.ensures) c.stats.ensures.value c.is_true_of.ensures
    c.if-not-is_true_of.true c.loop-i.invariant

pub loop-i-preserved : goal.loop-i-preserved
loop-i-preserved c =
    truth_goes_on c.args.self.now.chunk.columns c.args.self.now.stats c.loop-i.i c.column.result.now c.stats.result.now _ _ (rw c.chunk-in-loop-i.ensures.value at c.column.ensures) c.stats.ensures.value c.is_true_of.ensures
    c.if-not-is_true_of.false c.loop-i.invariant
