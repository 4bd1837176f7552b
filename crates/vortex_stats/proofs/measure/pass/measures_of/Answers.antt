use Rattle.std.proofs.Common.{◌≡◌, ◌∙◌, ap, refl, sym}
use Rattle.vortex_stats.specs.declared.measure.pass.Family.TheVariants.{Nulls}
use Rattle.vortex_stats.specs.Measuring.Keys.{family_of}
use Rattle.vortex_stats.proofs.Measuring.Passes.{no_sum, nothing_of_nulls}
use Rattle.vortex_stats.proofs.measure.pass.measures_of.Goals as goal

pub returns-in-Nulls-clause-measures : goal.returns-in-Nulls-clause-measures
returns-in-Nulls-clause-measures c =
    let column = c.args.column.now in
    let t = column.dtype in
    let none : family_of t ≡ Nulls = ap family_of (sym c.dtype.ensures.value) ∙ sym c.family_of.ensures ∙ c.in-Nulls.is in
    c.nulls.ensures t column.values (sym c.len.ensures.value) (nothing_of_nulls t column.values c.dtype.ensures.is_column none) (no_sum t _ (rw none refl))
