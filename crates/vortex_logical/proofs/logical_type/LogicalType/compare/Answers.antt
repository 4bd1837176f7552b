use Rattle.std.proofs.Common.{sym, ◌∙◌, ap, subst}
use Rattle.vortex_logical.specs.declared.cell_range.CellRange.{CellRange}
use Rattle.vortex_logical.specs.Meaning.{holds}
use Rattle.vortex_logical.specs.Lowering.{IsIn}
use Rattle.vortex_logical.proofs.logical_type.LogicalType.compare.Goals as goal

pub returns-clause-same : goal.returns-clause-same
returns-clause-same c = λ n h.
    let R : CellRange → Type 0 = λ r. IsIn r n in
    ap (holds c.args.comparison) (c.locate.ensures n h) ∙ c.with_point.ensures.same n (subst R (sym c.range.ensures) h)
