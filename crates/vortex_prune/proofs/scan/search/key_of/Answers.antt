use Rattle.std.proofs.Common.{rules, sym, ◌∙◌}
use denote.Enum.Bare.{same_true}
use Rattle.vortex_expr.specs.contracts.scalar_fn.Operator.{the_type}
use Rattle.vortex_prune.proofs.Scanning.KeyLemmas.{own_key_if, same_truth}
use Rattle.vortex_prune.proofs.scan.search.key_of.Goals as goal

pub returns-then-is_some-at_null : goal.returns-then-is_some-at_null
returns-then-is_some-at_null g c =
    own_key_if g.T.Native.scalar c.args.gap.now c.args.operator c.args.at_null c.of_lent.result
    (sym c.past_operator.ensures ∙ same_true the_type (search rules) _ _ (sym c.eq.ensures ∙ c.if-eq.true))
    (sym c.is_some.ensures ∙ same_truth _ _ c.if-is_some-at_null.true) c.of_lent.ensures
