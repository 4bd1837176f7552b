use Rattle.std.proofs.Common.{sym}
use Rattle.vortex_stats.proofs.Sets.Fitting.{found_is_value}
use Rattle.vortex_stats.proofs.typed.get_typed.Goals as goal

pub scalar_of_found-requires : goal.scalar_of_found-requires
scalar_of_found-requires c =
    found_is_value (λ v. v.now) c.args.stat c.args.dtype.now c.in-Some.expected c.args.values.now c.find.result c.requires c.find.ensures (sym c.in-Some.ensures)
