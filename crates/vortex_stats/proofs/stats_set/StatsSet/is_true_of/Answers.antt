use Rattle.vortex_stats.proofs.Measuring.CheckLemmas.{checked_as}
use Rattle.std.proofs.Common.{◌≡◌, ◌∙◌, true, sym, subst}
use Rattle.vortex_base.specs.declared.dtype.DType.{DType}
use Rattle.vortex_stats.specs.Sets.Entries.{entries_fit}
use Rattle.vortex_stats.proofs.stats_set.StatsSet.is_true_of.Goals as goal

pub returns : goal.returns
returns c =
    let set = c.args.self.now in
    let column = c.args.column.now in
    let fits : entries_fit set column.dtype ≡ true = subst (λ (t : DType). entries_fit set t ≡ true) c.dtype.ensures.value (sym c.fits.ensures ∙ c.if-not-fits.false) in
    checked_as set column fits c.allows_each.ensures.distinct c.allows_each.result (sym c.allows_each.ensures.value)
