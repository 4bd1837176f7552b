use Rattle.vortex_prune.proofs.ZoneMaps.TrueRows.{zones_have_true_rows}
use Rattle.vortex_prune.proofs.laws.zones_have_true_rows.Goals as goal

pub returns : goal.returns
returns c = zones_have_true_rows
