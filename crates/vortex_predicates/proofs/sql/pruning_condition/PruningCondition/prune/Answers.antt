use Rattle.std.proofs.Common.{◌≡◌, Option, false, ap, subst, subst₂, ◌∙◌}
use Rattle.std.proofs.lemmas.Result.{IfErr-weaker, IfOk-weaker}
use Rattle.std.specs.Prelude.{IfErr, IfOk, List, option_copied}
use Rattle.vortex_base.specs.Data.Scopes.{Named}
use Rattle.vortex_expr.specs.Trees.Tree.{Place, Tree}
use Rattle.vortex_predicates.proofs.Found.{memory_left}
use Rattle.vortex_zone_map.specs.Zone.{ZoneData}
use Rattle.vortex_prune.specs.Scanning.ZoneScans.{AreRowVerdicts, is_left_open, open_causes, zone_verdicts}
use Rattle.vortex_zone_map.specs.ZoneMaps.{IsMapOf}
use Rattle.vortex_rewrite.specs.Causes.{IsRefusal, either_causes}
use Rattle.vortex_predicates.proofs.Conditions.Pruned.{sound_for}
use Rattle.vortex_predicates.specs.Conditions.Conditions.{AreProofsOf, schema_of}
use Rattle.vortex_predicates.proofs.sql.pruning_condition.PruningCondition.prune.Goals as goal

falsifier_is : (c : goal.After-prune_by) → option_copied c.falsifier.result ≡ c.args.self.now.falsifier
falsifier_is c = c.falsifier.ensures ∙ ap (λ x. x.falsifier) c.self.view_is

satisfier_is : (c : goal.After-prune_by) → option_copied c.satisfier.result ≡ c.args.self.now.satisfier
satisfier_is c = c.satisfier.ensures ∙ ap (λ x. x.satisfier) c.self.view_is

proofs : (c : goal.After-prune_by) → AreProofsOf c.args.self.now
proofs c = subst AreProofsOf c.self.view_is c.self.invariant.0

pub returns-clause-rows : goal.returns-clause-rows
returns-clause-rows c =
    subst₂ (λ (f s : Option (Tree Place)). IfOk c.prune_by.result (λ vs. AreRowVerdicts f s c.args.map.now vs.items)) (falsifier_is c) (satisfier_is c) c.prune_by.ensures.rows

pub returns-clause-verdicts : goal.returns-clause-verdicts
returns-clause-verdicts c =
    subst₂ (λ (f s : Option (Tree Place)). IfOk c.prune_by.result (λ vs. (zones : List ZoneData) → IsMapOf zones c.args.map.now → vs.items ≡ zone_verdicts f s c.args.map.now.scope zones))
    (falsifier_is c) (satisfier_is c) c.prune_by.ensures.verdicts

pub returns-clause-sound : goal.returns-clause-sound
returns-clause-sound c =
    let x = c.args.self.now in
    IfOk-weaker c.prune_by.result _ _
    (λ vs told zones of. sound_for (schema_of x) x.condition x.falsifier x.satisfier (proofs c).refutes (proofs c).confirms zones vs.items (told zones of ∙ ap (λ (ns : List Named). zone_verdicts x.falsifier x.satisfier ns zones) c.requires))
    (returns-clause-verdicts c)

pub returns-clause-memory : goal.returns-clause-memory
returns-clause-memory c = λ shut also.
    let x = c.args.self.now in
    let rows = c.args.map.now.rows in
    IfErr-weaker c.prune_by.result _ _ (λ e refused. memory_left x.falsifier x.satisfier rows rows e shut also refused)
    (subst₂ (λ (f s : Option (Tree Place)). IfErr c.prune_by.result (IsRefusal (either_causes (open_causes f rows) (open_causes s rows)))) (falsifier_is c) (satisfier_is c) c.prune_by.ensures.at_most)

pub returns-clause-refused : goal.returns-clause-refused
returns-clause-refused c =
    let rows = c.args.map.now.rows in
    subst₂ (λ (f s : Option (Tree Place)). IfErr c.prune_by.result (IsRefusal (either_causes (open_causes f rows) (open_causes s rows)))) (falsifier_is c) (satisfier_is c) c.prune_by.ensures.at_most

pub returns-clause-shut : goal.returns-clause-shut
returns-clause-shut c =
    subst (λ (f : Option (Tree Place)). IfOk c.prune_by.result (λ vs. is_left_open f c.args.map.now.rows ≡ false)) (falsifier_is c) c.prune_by.ensures.closed
