use Rattle.std.proofs.Common.{refl, ◌∙◌, false}
use Rattle.std.specs.Prelude.{slice_index_or}
use Rattle.vortex_prune.proofs.ZoneMaps.ZoneMarks.{marked_all, marked_more}
use Rattle.vortex_prune.proofs.scan.columns.keep_set.Goals as goal

pub loop-k-preserved : goal.loop-k-preserved
loop-k-preserved c = marked_more (λ i. slice_index_or c.args.validity.now i false) c.args.from c.loop-k.k c.args.marks.now c.loop-k.marks _ c.loop-k.invariant c.loop-k-test.true (refl)

pub returns : goal.returns
returns c = c.loop-k.invariant ∙ marked_all (λ i. slice_index_or c.args.validity.now i false) c.args.from c.loop-k.k c.args.marks.now c.loop-k-test.false
