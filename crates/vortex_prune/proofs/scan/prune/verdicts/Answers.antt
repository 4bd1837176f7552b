use Rattle.std.proofs.Common.{Option, subst, sym, ◌∙◌}
use Rattle.std.proofs.lemmas.Result.{IfErr-weaker}
use Rattle.std.specs.Prelude.{option_copied}
use Rattle.vortex_prune.proofs.ZoneMaps.ZoneScan.{refused_kept, rows_found, verdicts_found}
use Rattle.vortex_prune.proofs.ZoneMaps.ZoneRefusals.{open_satisfier_refuses}
use Rattle.vortex_expr.specs.Trees.Tree.{Place, Tree}
use Rattle.vortex_prune.specs.Scanning.ZoneScans.{TellsAs, is_proved_zone}
use Rattle.vortex_rewrite.specs.Rewriting.Falsifiers.{falsifier, satisfier}
use Rattle.vortex_rewrite.specs.Rewriting.Own.{own_rules}
use Rattle.vortex_prune.proofs.scan.prune.verdicts.Goals as goal

pub returns-clause-rows : goal.returns-clause-rows
returns-clause-rows g c =
    let p = c.args.predicate.now in
    let own = own_rules (λ b. (g.dyn-1.0.entry b.vtable).1) c.args.rules.now.own.items in
    rows_found (λ vs. vs.items) c.in_ok-bound.bound (option_copied c.as_ref-2.result) (option_copied c.as_ref.result) (falsifier own p) (option_copied c.as_ref-3.result) (satisfier own p) c.args.map.now c.verdicts_by.result
    c.as_ref-2.ensures.value (c.as_ref.ensures.value ∙ c.in_ok-falsifier.ensures.answer) (c.as_ref-3.ensures.value ∙ c.in_ok-satisfier.ensures.answer) c.in_ok-bound.ensures.tells c.verdicts_by.ensures.told

pub returns-clause-verdicts : goal.returns-clause-verdicts
returns-clause-verdicts g c =
    let p = c.args.predicate.now in
    let own = own_rules (λ b. (g.dyn-1.0.entry b.vtable).1) c.args.rules.now.own.items in
    verdicts_found (λ vs. vs.items) (falsifier own p) (satisfier own p) c.args.map.now c.verdicts_by.result (returns-clause-rows g c) c.verdicts_by.ensures.long

pub returns-clause-refusal : goal.returns-clause-refusal
returns-clause-refusal g c = λ predicate.
    let p = c.args.predicate.now in
    let m = c.args.map.now in
    let own = own_rules (λ b. (g.dyn-1.0.entry b.vtable).1) c.args.rules.now.own.items in
    let tells : TellsAs (option_copied c.as_ref-2.result) (falsifier own p) m =
    subst (λ (o : Option (Tree Place)). TellsAs o (falsifier own p) m) (sym c.as_ref-2.ensures.value)
    (subst (λ (o : Option (Tree Place)). TellsAs c.in_ok-bound.bound o m) (c.as_ref.ensures.value ∙ c.in_ok-falsifier.ensures.answer) c.in_ok-bound.ensures.tells) in
    IfErr-weaker c.verdicts_by.result _ _
    (λ e refused zones of.
    open_satisfier_refuses (is_proved_zone m.scope) own p zones (option_copied c.as_ref-3.result) e (c.as_ref-3.ensures.value ∙ c.in_ok-satisfier.ensures.answer)
    (refused_kept (option_copied c.as_ref-2.result) (option_copied c.as_ref-3.result) (falsifier own p) m zones e tells of refused))
    c.verdicts_by.ensures.refusal
