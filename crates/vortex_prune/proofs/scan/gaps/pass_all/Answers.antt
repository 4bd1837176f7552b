use Rattle.std.proofs.Common.{◌∙◌, ap, arith, option_map, rules}
use Rattle.std.proofs.lemmas.List.Sorted.{IsPartitionPoint-from_clause}
use Rattle.vortex_base.specs.Data.ArrayData.{value_of}
use Rattle.vortex_prune.specs.Scanning.Gaps.{gap_passes, is_past}
use Rattle.vortex_prune.specs.declared.scan.gaps.Gap.{Gap}
use Rattle.vortex_prune.proofs.Scanning.GapOrder.{all_before, by_first, partitioned}
use Rattle.vortex_prune.proofs.scan.gaps.pass_all.Goals as goal

pub returns-in-Some : goal.returns-in-Some
returns-in-Some c =
    let gs = c.args.gaps.now in
    let x = option_map value_of c.args.x in
    let y = option_map value_of c.args.y in
    let z = option_map value_of c.args.z in
    let order = c.requires.order c.if-not-in_order.false in
    let place = c.partition_point-place.result in
    let d = c.in-Some.gap.now in
    let point = IsPartitionPoint-from_clause (λ (g : Gap). is_past g x) gs place c.partition_point-place.ensures.partitioned (partitioned gs x order) (λ a r f k. search rules) in
    let l = c.in-Some.ensures.lookup in
    by_first gs x y z order c.requires.sure place (λ k e m n. point.0 k e (omega arith) m) c.passes_gap.result d l.3.0 (point.1 place d (omega arith) l.3.0)
    (c.passes_gap.ensures ∙ ap (λ (g : Gap). gap_passes g x y z) (l.3.1 d))

pub returns-in-None : goal.returns-in-None
returns-in-None c =
    let gs = c.args.gaps.now in
    let x = option_map value_of c.args.x in
    let y = option_map value_of c.args.y in
    let z = option_map value_of c.args.z in
    let order = c.requires.order c.if-not-in_order.false in
    let place = c.partition_point-place.result in
    let point = IsPartitionPoint-from_clause (λ (g : Gap). is_past g x) gs place c.partition_point-place.ensures.partitioned (partitioned gs x order) (λ a r f k. search rules) in
    all_before gs x y z order c.requires.sure place (λ k e m n. point.0 k e (omega arith) m) c.in-None.ensures.lookup.3
