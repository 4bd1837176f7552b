-- What a view that writes shows of its set.
use Rattle.std.specs.Prelude.{◌≡◌, Result}
use Rattle.std.specs.Borrow.{RestsIfErr, Fml}
use Rattle.vortex_stats.specs.contracts.stats_set.StatsSet.{the_row}
use Rattle.vortex_stats.specs.declared.typed.MutTypedStatsSetRef.{MutTypedStatsSetRef}
use Rattle.vortex_stats.specs.Sets.TypedStats.{TypedStats}

-- the entries of the set, and the type of its column
abbrev pub typed_stats : MutTypedStatsSetRef → TypedStats
typed_stats v = record { values = v.values.now; dtype = v.dtype }

-- the view that is answered borrows the same set, and after a refusal the set is as it was
abbrev pub rests_if_refused : {E : Type 0} → MutTypedStatsSetRef → Result MutTypedStatsSetRef E → Fml
rests_if_refused v r = RestsIfErr the_row v.values (λ w. w.values.ghost_name) r (λ n. n ≡ v.values.now)
