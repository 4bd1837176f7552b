use Rattle.std.proofs.Common.{ap, ◌∙◌}
use Rattle.vortex_rewrite.proofs.rewrite.user_rules.id_of.Goals as goal

pub returns : goal.returns
returns g c = c.scalar_fn_id.ensures ∙ ap (λ z. (goal.StatsRewriteRule-dyn g z).id z.1) c.deref_box-1.ensures.1
