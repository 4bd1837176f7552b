use Rattle.std.proofs.Common.{[], ap, ◌∙◌}
use Rattle.std.proofs.lemmas.Result.{IfOk-weaker}
use Rattle.std.specs.Prelude.{Some}
use Rattle.vortex_predicates.specs.Pruning.{skip_proof, whole_proof}
use Rattle.vortex_capi.specs.Prunes.{zones_asked}
use Rattle.vortex_capi.specs.Scopes.{max_depth}
use Rattle.vortex_capi.proofs.PruneLemmas.{by_proofs, made_right, well_zones}
use Rattle.vortex_capi.proofs.prune.predicate_answers.Goals as goal

pub returns-clause-read : goal.returns-clause-read
returns-clause-read c = λ given.
    let p = c.args.predicate.now in
    let x = c.in_ok-proofs.proofs in
    let k = c.in_ok-proofs.ensures in
    by_proofs (λ v. v.items) c.answers_by_proofs.result c.args.scope.now c.args.rows.now c.args.stats.now given p x.falsifier x.satisfier
    (k.made.falsifier ∙ ap (skip_proof [] (Some max_depth)) k.predicate) (k.made.satisfier ∙ ap (whole_proof [] (Some max_depth)) k.predicate) c.answers_by_proofs.ensures.read

pub returns-clause-well : goal.returns-clause-well
returns-clause-well c = λ given is.
    let scope = c.args.scope.now in
    let p = c.args.predicate.now in
    let k = c.in_ok-proofs.ensures in
    let right = made_right c.in_ok-proofs.proofs p k.predicate k.made k.right in
    IfOk-weaker c.answers_by_proofs.result _ _ (λ v fit. well_zones scope given p is c.requires.plain c.requires.fits (zones_asked scope c.args.rows.now c.args.stats.now) right fit) c.answers_by_proofs.ensures.zones
