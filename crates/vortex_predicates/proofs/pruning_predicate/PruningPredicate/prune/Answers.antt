use Rattle.std.proofs.Common.{◌≡◌, Option, ap, false, subst, subst₂, ◌∙◌}
use Rattle.std.specs.Prelude.{IfErr, IfOk, List, [], option_copied}
use Rattle.std.proofs.lemmas.Result.{IfErr-weaker, IfOk-weaker}
use Rattle.vortex_expr.specs.Trees.Tree.{Place, Tree}
use Rattle.vortex_normal.proofs.Joined.{joinings_are_apart, one_column_is_apart}
use Rattle.vortex_predicates.proofs.Decided.{decided_complete}
use Rattle.vortex_predicates.proofs.Found.{found_right, given_complete, memory_left, no_fewer_skipped, no_fewer_whole, normal_complete, skip_closed, whole_closed}
use Rattle.vortex_predicates.proofs.NullFound.{finds_certain, skips_impossible}
use Rattle.vortex_predicates.specs.Pruning.{IsRight, skipped_places}
use Rattle.vortex_prune.proofs.Scanning.WholeScan.{of_two}
use Rattle.vortex_prune.proofs.ZoneMaps.ZonePruned.{of_three}
use Rattle.vortex_zone_map.specs.Zone.{ZoneData}
use Rattle.vortex_prune.specs.Scanning.ZoneScans.{IsShutIfVerdict, is_left_open, kept_zones, open_causes, zone_verdicts}
use Rattle.vortex_zone_map.specs.ZoneMaps.{IsMapOf}
use Rattle.vortex_rewrite.specs.Causes.{IsRefusal, either_causes}
use Rattle.vortex_rewrite.specs.Rewriting.Proof.{is_open}
use Rattle.vortex_predicates.proofs.pruning_predicate.PruningPredicate.prune.Goals as goal

falsifier_is : (c : goal.After-prune_by) → option_copied c.as_ref.result ≡ c.args.self.now.falsifier
falsifier_is c = c.as_ref.ensures.value ∙ ap (λ x. x.falsifier) c.self.view_is

satisfier_is : (c : goal.After-prune_by) → option_copied c.as_ref-2.result ≡ c.args.self.now.satisfier
satisfier_is c = c.as_ref-2.ensures.value ∙ ap (λ x. x.satisfier) c.self.view_is

right : (c : goal.After-prune_by) → IsRight c.args.self.now
right c = subst IsRight c.self.view_is c.self.invariant

closed : (c : goal.After-prune_by) → IfOk c.prune_by.result (λ _. is_left_open c.args.self.now.falsifier c.args.map.now.rows ≡ false)
closed c = subst (λ (o : Option (Tree Place)). IfOk c.prune_by.result (λ _. is_left_open o c.args.map.now.rows ≡ false)) (falsifier_is c) c.prune_by.ensures.closed

kept_closed : (c : goal.After-prune_by) → IfOk c.prune_by.result (λ vs. IsShutIfVerdict c.args.self.now.satisfier vs.items)
kept_closed c = subst (λ (o : Option (Tree Place)). IfOk c.prune_by.result (λ vs. IsShutIfVerdict o vs.items)) (satisfier_is c) c.prune_by.ensures.kept_closed

pub returns-clause-verdicts : goal.returns-clause-verdicts
returns-clause-verdicts c =
    subst₂ (λ (f s : Option (Tree Place)). IfOk c.prune_by.result (λ vs. (zones : List ZoneData) → IsMapOf zones c.args.map.now → vs.items ≡ zone_verdicts f s c.args.map.now.scope zones))
    (falsifier_is c) (satisfier_is c) c.prune_by.ensures.verdicts

pub returns-clause-refusal : goal.returns-clause-refusal
returns-clause-refusal c =
    subst₂
    (λ (f s : Option (Tree Place)). IfErr c.prune_by.result (λ e. (zones : List ZoneData) → IsMapOf zones c.args.map.now
    → IsRefusal (either_causes (open_causes f c.args.map.now.rows) (open_causes s (kept_zones f c.args.map.now.scope zones))) e))
    (falsifier_is c) (satisfier_is c) c.prune_by.ensures.refusal

pub returns-clause-sound : goal.returns-clause-sound
returns-clause-sound c =
    let x = c.args.self.now in
    let m = c.args.map.now in
    let r = right c in
    IfOk-weaker c.prune_by.result _ _ (λ vs told zones of. found_right x.falsifier x.satisfier m.scope zones vs.items (told zones of) x.predicate r.predicate r.plain c.requires r.falsifies r.satisfies)
    (returns-clause-verdicts c)

pub returns-clause-no_fewer_skipped : goal.returns-clause-no_fewer_skipped
returns-clause-no_fewer_skipped c =
    let x = c.args.self.now in
    let m = c.args.map.now in
    of_two c.prune_by.result _ _ _ (λ vs told shut zones own levels of made. no_fewer_skipped x.falsifier x.satisfier m.scope zones vs.items (told zones of) m of shut own levels x.predicate made.falsifier)
    (returns-clause-verdicts c) (closed c)

pub returns-clause-no_fewer_whole : goal.returns-clause-no_fewer_whole
returns-clause-no_fewer_whole c =
    let x = c.args.self.now in
    let m = c.args.map.now in
    of_three c.prune_by.result _ _ _ _
    (λ vs told shut also zones own levels of made. no_fewer_whole x.falsifier x.satisfier m.scope zones vs.items (told zones of) m of shut own levels x.predicate made.falsifier made.satisfier also)
    (returns-clause-verdicts c) (closed c) (kept_closed c)

pub returns-clause-complete : goal.returns-clause-complete
returns-clause-complete c =
    let x = c.args.self.now in
    let m = c.args.map.now in
    let r = right c in
    of_two c.prune_by.result _ _ _
    (λ vs told shut zones of levels made within apart.
    normal_complete x.falsifier x.satisfier m.scope zones vs.items (told zones of) m of shut levels x.predicate made.falsifier within c.requires r.plain r.form of.are_zones apart)
    (returns-clause-verdicts c) (closed c)

pub returns-clause-as_given : goal.returns-clause-as_given
returns-clause-as_given c =
    let x = c.args.self.now in
    let m = c.args.map.now in
    let r = right c in
    of_two c.prune_by.result _ _ _
    (λ vs told shut zones of levels made within apart.
    given_complete x.falsifier x.satisfier m.scope zones vs.items (told zones of) m of shut levels x.predicate made.falsifier within c.requires r.plain r.form of.are_zones apart)
    (returns-clause-verdicts c) (closed c)

pub returns-clause-one_column : goal.returns-clause-one_column
returns-clause-one_column c =
    let r = right c in
    IfOk-weaker c.prune_by.result _ _
    (λ vs found zones of levels made within place over seen selective. found zones of levels made within (one_column_is_apart place c.args.self.now.predicate r.predicate over seen selective)) (returns-clause-as_given c)

pub returns-clause-joining : goal.returns-clause-joining
returns-clause-joining c =
    let r = right c in
    IfOk-weaker c.prune_by.result _ _ (λ vs found zones of levels made within joining. found zones of levels made within (joinings_are_apart c.args.self.now.predicate r.predicate r.plain joining)) (returns-clause-as_given c)

pub returns-clause-complete_for : goal.returns-clause-complete_for
returns-clause-complete_for c =
    let x = c.args.self.now in
    let m = c.args.map.now in
    let r = right c in
    of_two c.prune_by.result _ _ _
    (λ vs given no_fewer zones of levels made decided.
    decided_complete levels x.predicate m.scope zones (skipped_places vs.items) (no_fewer zones [] levels of made) r.predicate c.requires of.are_zones (given zones of levels made) decided)
    (returns-clause-as_given c) (returns-clause-no_fewer_skipped c)

pub returns-clause-complete_with_nulls : goal.returns-clause-complete_with_nulls
returns-clause-complete_with_nulls c =
    let x = c.args.self.now in
    let m = c.args.map.now in
    let r = right c in
    IfOk-weaker c.prune_by.result _ _
    (λ vs told zones of levels made forms decided. skips_impossible x.falsifier x.satisfier m.scope zones vs.items (told zones of) levels x.predicate c.requires r.plain of.are_zones forms made.falsifier decided)
    (returns-clause-verdicts c)

pub returns-clause-complete_whole : goal.returns-clause-complete_whole
returns-clause-complete_whole c =
    let x = c.args.self.now in
    let m = c.args.map.now in
    let r = right c in
    IfOk-weaker c.prune_by.result _ _
    (λ vs told zones of levels made forms decided. finds_certain x.falsifier x.satisfier m.scope zones vs.items (told zones of) levels x.predicate c.requires r.plain of.are_zones forms made.satisfier decided)
    (returns-clause-verdicts c)

pub returns-clause-memory : goal.returns-clause-memory
returns-clause-memory c =
    let x = c.args.self.now in
    let m = c.args.map.now in
    IfErr-weaker c.prune_by.result _ _
    (λ e refused zones of levels made.
    memory_left x.falsifier x.satisfier m.rows (kept_zones x.falsifier m.scope zones) e (ap is_open made.falsifier ∙ skip_closed levels x.predicate) (ap is_open made.satisfier ∙ whole_closed levels x.predicate) (refused zones of))
    (returns-clause-refusal c)
