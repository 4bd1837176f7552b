use Rattle.vortex_prune.proofs.Scanning.WholeScan.{parts_by_recursion}
use Rattle.vortex_prune.proofs.Honesty.StatisticsBinders.{statistics_faithful, statistics_honest, statistics_quiet, by_statistics}
use Rattle.vortex_prune.proofs.laws.statistics_binders_are_honest.Goals as goal

pub returns-clause-faithful : goal.returns-clause-faithful
returns-clause-faithful c = statistics_faithful

pub returns-clause-statistics : goal.returns-clause-statistics
returns-clause-statistics c = by_statistics

pub returns-clause-honest : goal.returns-clause-honest
returns-clause-honest c = λ parts are. statistics_honest parts (parts_by_recursion parts are)

pub returns-clause-quiet : goal.returns-clause-quiet
returns-clause-quiet c = statistics_quiet
