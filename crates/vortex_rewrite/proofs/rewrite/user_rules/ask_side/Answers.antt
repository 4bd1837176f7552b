use Rattle.std.proofs.Common.{◌≡◌, MatchResult, subst}
use Rattle.vortex_rewrite.specs.HookFaults.{IsHookFault}
use Rattle.vortex_rewrite.proofs.rewrite.user_rules.ask_side.Goals as goal

pub returns-in-Falsify : goal.returns-in-Falsify
returns-in-Falsify g c =
    rw c.in-Falsify.is
    (subst
    (λ z. MatchResult c.falsify.result (λ o. o ≡ (goal.StatsRewriteRule-dyn g z).falsifier z.1 c.args.e.now) (IsHookFault ((goal.StatsRewriteRule-dyn g z).can_fault z.1)))
    c.deref_box-1.ensures.1
    c.falsify.ensures)

pub returns-in-Satisfy : goal.returns-in-Satisfy
returns-in-Satisfy g c =
    rw c.in-Satisfy.is
    (subst
    (λ z. MatchResult c.satisfy.result (λ o. o ≡ (goal.StatsRewriteRule-dyn g z).satisfier z.1 c.args.e.now) (IsHookFault ((goal.StatsRewriteRule-dyn g z).can_fault z.1)))
    c.deref_box-in-Satisfy.ensures.1
    c.satisfy.ensures)
