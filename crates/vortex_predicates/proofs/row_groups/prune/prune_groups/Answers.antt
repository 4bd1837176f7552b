use Rattle.std.proofs.Common.{map}
use Rattle.std.proofs.lemmas.Result.{IfOk-weaker, err_from_is_err_and}
use Rattle.vortex_predicates.proofs.RowGroups.Sound.{no_map, pruning_refused, prunes_soundly}
use Rattle.vortex_predicates.specs.RowGroups.Pruning.{zone_data}
use Rattle.vortex_predicates.proofs.row_groups.prune.prune_groups.Goals as goal

pub returns-clause-sound : goal.returns-clause-sound
returns-clause-sound g c = IfOk-weaker c.prune.result _ _ (λ pruned s. prunes_soundly c.groups_are_parts.ensures c.args.predicate.now c.args.scope c.args.leaves.now c.args.groups.now c.in_ok-map.map pruned.skipped.items pruned.whole.items c.in_ok-map.ensures.made c.in_ok-map.ensures.is_map s) c.prune.ensures.sound

pub returns-clause-refused : goal.returns-clause-refused
returns-clause-refused g c = pruning_refused _ c.args.predicate.now c.args.scope (map zone_data c.args.groups.now) c.in_ok-map.map c.prune.result c.in_ok-map.ensures.made c.prune.ensures.not_predicate c.prune.ensures.at_most

pub returns-in_err-map-clause-refused : goal.returns-in_err-map-clause-refused
returns-in_err-map-clause-refused g c =
    let p = err_from_is_err_and c.from_residual.result c.from_residual.ensures.1 in
    rw (p.1, p.2) (no_map _ c.args.predicate.now c.args.scope (map zone_data c.args.groups.now) c.in_err-map.field-0.0 c.in_err-map.ensures.refused)
