use Rattle.std.proofs.Common.{ap, subst, ◌∙◌}
use Rattle.vortex_prune.proofs.ZoneMaps.ZoneMarks.{marked-between}
use Rattle.vortex_prune.specs.Scanning.Leaves.{IsComparison, passes_at}
use Rattle.vortex_prune.specs.Scanning.Marks.{marked}
use Rattle.vortex_prune.proofs.scan.marks.keep_between.Goals as goal

pub returns-in-Some-Some : goal.returns-in-Some-Some
returns-in-Some-Some c =
    let k = c.in-Some-Some in
    let a = k.above.column.now in
    let b = k.below.column.now in
    let last = passes_at k.below.test b.values in
    c.keep_passing-in-Some-Some.ensures
    ∙ ap (marked last c.args.from) (c.keep_passing.ensures ∙ ap (marked (passes_at k.above.test a.values) c.args.from) (c.keep_within.ensures.same c.if-keep_within.false))
    ∙ marked-between c.args.table.chunk.now.columns c.args.table.counts c.args.e.now c.args.x.now c.args.lower.now c.args.upper.now c.args.options a b k.above.test k.below.test c.args.from c.args.marks.now
    c.requires.between
    (subst (λ o. IsComparison c.args.table.chunk.now.columns o c.args.lower.now c.args.x.now a k.above.test) c.to_operator-low.ensures k.ensures)
    (subst (λ o. IsComparison c.args.table.chunk.now.columns o c.args.x.now c.args.upper.now b k.below.test) c.to_operator-high.ensures k.ensures')
