use Rattle.std.proofs.Common.{sym, ◌∙◌}
use Rattle.std.specs.Prelude.{option_copied}
use Rattle.std.proofs.lemmas.Result.{IfErr-weaker, IfOk-weaker}
use Rattle.vortex_prune.proofs.ZoneMaps.ZoneVerdicts.{none_unset, open_somewhere, some_unset}
use Rattle.vortex_prune.proofs.scan.prune.bound_rest.Goals as goal

pub returns-clause-tells : goal.returns-clause-tells
returns-clause-tells c = IfOk-weaker c.bound_once.result _ _ (λ b h unset. h) c.bound_once.ensures.tells

pub returns-clause-shut : goal.returns-clause-shut
returns-clause-shut c = IfOk-weaker c.bound_once.result _ _ (λ b h unset. open_somewhere (option_copied c.args.satisfier) c.args.map.now.rows c.args.skipped.now c.requires h unset) c.bound_once.ensures.shut

pub returns-clause-refusal : goal.returns-clause-refusal
returns-clause-refusal c = IfErr-weaker c.bound_once.result _ _ (λ e h. (some_unset c.args.skipped.now (sym c.are_all.ensures ∙ c.if-are_all.false), h)) c.bound_once.ensures.refusal

pub returns-then-are_all-clause-tells : goal.returns-then-are_all-clause-tells
returns-then-are_all-clause-tells c = λ unset. absurd (none_unset c.args.skipped.now (sym c.are_all.ensures ∙ c.if-are_all.true) unset)

pub returns-then-are_all-clause-shut : goal.returns-then-are_all-clause-shut
returns-then-are_all-clause-shut c = λ unset. absurd (none_unset c.args.skipped.now (sym c.are_all.ensures ∙ c.if-are_all.true) unset)
