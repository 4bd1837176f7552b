use Rattle.std.proofs.Common.{rules}
use Rattle.std.proofs.lemmas.Bool.{not-true, not-false}
use Rattle.std.proofs.lemmas.List.Sorted.{IsPartitionPoint-from_clause}
use Rattle.vortex_normal.specs.Intervals.{cut_of}
use Rattle.vortex_normal.proofs.Places.{ends_below, ends_partitioned}
use Rattle.vortex_normal.proofs.ranges.ending_below.Goals as goal

pub returns-clause-place : goal.returns-clause-place
returns-clause-place c =
    let cut = cut_of c.args.cut in
    let set = c.args.set.now in
    let point = IsPartitionPoint-from_clause (ends_below cut) set c.partition_point.result c.partition_point.ensures.partitioned (ends_partitioned cut set c.requires) (λ a r f k. search rules) in
    (λ k d l h. not-true _ (point.0 k d l h), λ k d l h. not-false _ (point.1 k d l h))
