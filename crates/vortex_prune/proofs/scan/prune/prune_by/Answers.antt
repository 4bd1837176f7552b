use Rattle.std.proofs.Common.{Option, ap, refl, subst, sym, ◌∙◌}
use Rattle.std.specs.Prelude.{option_copied}
use Rattle.std.proofs.lemmas.Result.{IfErr-weaker, IfOk-weaker, err_from_is_err_and}
use Rattle.vortex_expr.specs.Trees.Tree.{Place, Tree}
use Rattle.vortex_prune.proofs.ZoneMaps.ZonePruned.{pruning_is_complete, pruning_is_sound, skipped_listed, whole_listed}
use Rattle.vortex_prune.proofs.Scanning.WholeScan.{of_two}
use Rattle.vortex_prune.proofs.ZoneMaps.TrueRows.{are_row_verdicts, skipped_rows_sound, whole_rows_sound}
use Rattle.vortex_prune.proofs.ZoneMaps.ZoneScan.{refused_kept, refused_somewhere, rows_found, verdicts_found}
use Rattle.vortex_prune.specs.Scanning.Selection.{is_skipped, is_whole, places_where}
use Rattle.vortex_prune.specs.Scanning.ZoneScans.{TellsAs, kept_zones, open_causes, skipped_zones, whole_zones}
use Rattle.vortex_rewrite.proofs.Rewriting.CauseLemmas.{either-left, either-right}
use Rattle.vortex_rewrite.specs.Rewriting.Falsifiers.{falsifier}
use Rattle.vortex_prune.proofs.scan.prune.prune_by.Goals as goal

pub returns-in_err-bound-clause-refusal : goal.returns-in_err-bound-clause-refusal
returns-in_err-bound-clause-refusal c =
    let q = err_from_is_err_and c.from_residual.result c.from_residual.ensures.1 in
    let f = option_copied c.args.falsifier in
    let m = c.args.map.now in
    rw (q.1, q.2) (λ zones of. either-left (open_causes f m.rows) (open_causes (option_copied c.args.satisfier) (kept_zones f m.scope zones)) _ c.in_err-bound.ensures.refusal)

pub returns-clause-rows : goal.returns-clause-rows
returns-clause-rows c =
    let f = option_copied c.args.falsifier in
    let s = option_copied c.args.satisfier in
    rows_found (λ vs. vs.items) c.in_ok-bound.bound (option_copied c.as_ref.result) f f s s c.args.map.now c.verdicts_by.result c.as_ref.ensures.value refl refl c.in_ok-bound.ensures.tells c.verdicts_by.ensures.told

pub returns-clause-verdicts : goal.returns-clause-verdicts
returns-clause-verdicts c =
    verdicts_found (λ vs. vs.items) (option_copied c.args.falsifier) (option_copied c.args.satisfier) c.args.map.now c.verdicts_by.result (returns-clause-rows c) c.verdicts_by.ensures.long

pub returns-clause-sound : goal.returns-clause-sound
returns-clause-sound c =
    let f = option_copied c.args.falsifier in
    let s = option_copied c.args.satisfier in
    let scope = c.args.map.now.scope in
    IfOk-weaker c.verdicts_by.result _ _
    (λ vs is zones own p of predicate plain fits one other.
    let told = is zones of in
    pruning_is_sound own p scope zones (places_where is_skipped vs.items) (places_where is_whole vs.items) predicate plain fits
    (ap (places_where is_skipped) told ∙ skipped_listed f s scope zones ∙ ap (λ (o : Option (Tree Place)). skipped_zones o scope zones) one)
    (ap (places_where is_whole) told ∙ whole_listed f s scope zones ∙ ap (λ (o : Option (Tree Place)). whole_zones o s scope zones) one ∙ ap (λ (o : Option (Tree Place)). whole_zones (falsifier own p) o scope zones) other))
    (returns-clause-verdicts c)

pub returns-clause-complete : goal.returns-clause-complete
returns-clause-complete c =
    let f = option_copied c.args.falsifier in
    let s = option_copied c.args.satisfier in
    let scope = c.args.map.now.scope in
    IfOk-weaker c.verdicts_by.result _ _
    (λ vs is zones p of predicate fits one once.
    pruning_is_complete p scope zones (places_where is_skipped vs.items) predicate fits of.are_zones once
    (ap (places_where is_skipped) (is zones of) ∙ skipped_listed f s scope zones ∙ ap (λ (o : Option (Tree Place)). skipped_zones o scope zones) one))
    (returns-clause-verdicts c)

pub returns-clause-refusal : goal.returns-clause-refusal
returns-clause-refusal c =
    let f = option_copied c.args.falsifier in
    let s = option_copied c.args.satisfier in
    let m = c.args.map.now in
    let tells : TellsAs (option_copied c.as_ref.result) f m = subst (λ (o : Option (Tree Place)). TellsAs o f m) (sym c.as_ref.ensures.value) c.in_ok-bound.ensures.tells in
    IfErr-weaker c.verdicts_by.result _ _
    (λ e refused zones of.
    either-right (open_causes f m.rows) (open_causes s (kept_zones f m.scope zones)) e (refused_kept (option_copied c.as_ref.result) s f m zones e tells of refused))
    c.verdicts_by.ensures.refusal

pub returns-clause-skipped_sound : goal.returns-clause-skipped_sound
returns-clause-skipped_sound c =
    let f = option_copied c.args.falsifier in
    let s = option_copied c.args.satisfier in
    let m = c.args.map.now in
    of_two c.verdicts_by.result _ _ _
    (λ vs told long own p predicate plain fits same.
    skipped_rows_sound own p m c.has_table.ensures predicate plain fits f s (places_where is_skipped vs.items) (ap (places_where is_skipped) (are_row_verdicts f s m vs.items told long)) same)
    (returns-clause-rows c) c.verdicts_by.ensures.long

pub returns-clause-whole_sound : goal.returns-clause-whole_sound
returns-clause-whole_sound c =
    let f = option_copied c.args.falsifier in
    let s = option_copied c.args.satisfier in
    let m = c.args.map.now in
    of_two c.verdicts_by.result _ _ _
    (λ vs told long own p predicate plain fits same.
    whole_rows_sound own p m c.has_table.ensures predicate plain fits f s (places_where is_whole vs.items) (ap (places_where is_whole) (are_row_verdicts f s m vs.items told long)) same)
    (returns-clause-rows c) c.verdicts_by.ensures.long

pub returns-in_err-bound-clause-at_most : goal.returns-in_err-bound-clause-at_most
returns-in_err-bound-clause-at_most c =
    let q = err_from_is_err_and c.from_residual.result c.from_residual.ensures.1 in
    let rows = c.args.map.now.rows in
    rw (q.1, q.2) (either-left (open_causes (option_copied c.args.falsifier) rows) (open_causes (option_copied c.args.satisfier) rows) _ c.in_err-bound.ensures.refusal)

pub returns-clause-at_most : goal.returns-clause-at_most
returns-clause-at_most c =
    let f = option_copied c.args.falsifier in
    let s = option_copied c.args.satisfier in
    let m = c.args.map.now in
    IfErr-weaker c.verdicts_by.result _ _
    (λ e refused. either-right (open_causes f m.rows) (open_causes s m.rows) e (refused_somewhere (option_copied c.as_ref.result) s m e refused))
    c.verdicts_by.ensures.refusal
