use Rattle.std.proofs.Common.{rules}
use Rattle.std.proofs.lemmas.List.Sorted.{IsPartitionPoint-from_clause}
use Rattle.vortex_normal.specs.Intervals.{cut_of}
use Rattle.vortex_normal.proofs.Places.{begins_by, begins_partitioned}
use Rattle.vortex_normal.proofs.ranges.beginning_by.Goals as goal

pub returns-clause-place : goal.returns-clause-place
returns-clause-place c =
    let cut = cut_of c.args.cut in
    let set = c.args.set.now in
    IsPartitionPoint-from_clause (begins_by cut) set c.partition_point.result c.partition_point.ensures.partitioned (begins_partitioned cut set c.requires) (λ a r f k. search rules)
