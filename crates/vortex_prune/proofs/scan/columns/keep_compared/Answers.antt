use Rattle.std.proofs.Common.{ap, get_or, map, ◌∙◌, false}
use Rattle.std.specs.Prelude.{◌&&◌, option_map}
use Rattle.vortex_base.specs.Data.PrimitiveArray.{optionals}
use Rattle.vortex_prune.specs.Scanning.Leaves.{compares_at}
use Rattle.vortex_prune.proofs.ZoneMaps.ZoneMarks.{marked_all, marked_more}
use Rattle.vortex_prune.proofs.scan.columns.keep_compared.Goals as goal

pub loop-k-preserved : goal.loop-k-preserved
loop-k-preserved g c = marked_more (compares_at g.C.Comparison.operator (g.T.Native.scalar c.args.number) (map (option_map g.T.Native.scalar) (optionals c.args.values.now c.args.validity.now))) c.args.from c.loop-k.k c.args.marks.now c.loop-k.marks _ c.loop-k.invariant c.loop-k-test.true (ap (λ b. get_or c.loop-k.marks c.loop-k.k false && b) c.is_so.ensures)

pub returns : goal.returns
returns g c = c.loop-k.invariant ∙ marked_all (compares_at g.C.Comparison.operator (g.T.Native.scalar c.args.number) (map (option_map g.T.Native.scalar) (optionals c.args.values.now c.args.validity.now))) c.args.from c.loop-k.k c.args.marks.now c.loop-k-test.false
