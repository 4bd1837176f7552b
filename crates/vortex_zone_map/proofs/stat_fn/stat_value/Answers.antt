use Rattle.std.proofs.Common.{◌≡◌, Some}
use Rattle.vortex_zone_map.proofs.ReadStats.{stat_value-reads}
use Rattle.vortex_zone_map.specs.StatValues.{read_stat}
use Rattle.vortex_zone_map.proofs.stat_fn.stat_value.Goals as goal

pub returns-in_ok-get-in-Some : goal.returns-in_ok-get-in-Some
returns-in_ok-get-in-Some c =
    let reads = c.reads.ensures in
    let is = c.in-Some.is in
    let is_read : read_stat c.args.aggregate ≡ Some c.in-Some.stat = cc in
    let told = c.told.ensures in
    let value = c.in_ok-get-in-Some.ensures.value in
    let same = stat_value-reads c.args.stats.now c.args.rows c.args.aggregate c.in-Some.stat is_read in
    cc
