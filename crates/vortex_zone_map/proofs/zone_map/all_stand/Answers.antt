use Rattle.std.proofs.Common.{◌∙◌}
use Rattle.vortex_base.proofs.Data.MapLemmas.{list_all-pairs}
use Rattle.vortex_zone_map.specs.GivenTables.{stands_under}
use Rattle.vortex_zone_map.proofs.zone_map.all_stand.Goals as goal

pub returns-then-heads-columns : goal.returns-then-heads-columns
returns-then-heads-columns c = c.pairs_stand.ensures ∙ list_all-pairs (stands_under c.args.zones) c.args.heads.now c.args.columns.now c.if-heads-columns.true
