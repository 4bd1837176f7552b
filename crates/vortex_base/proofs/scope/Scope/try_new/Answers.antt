use Rattle.std.proofs.Common.{sym}
use Rattle.vortex_base.proofs.Data.ScopeLemmas.{faultless_scope, state_fault}
use Rattle.vortex_base.proofs.scope.Scope.try_new.Goals as goal

pub returns-then-has_state : goal.returns-then-has_state
returns-then-has_state c =
    state_fault c.args.columns.items _ _ _ (rw c.deref.ensures.value at c.is_empty.ensures) c.has_duplicate.ensures (rw c.deref-2.ensures.value at c.has_state.ensures) c.if-is_empty.false c.if-has_duplicate.false c.if-has_state.true

pub invariant_of-result : goal.invariant_of-result
invariant_of-result c =
    (faultless_scope c.args.columns.items _ _ _ (rw c.deref.ensures.value at c.is_empty.ensures) c.has_duplicate.ensures (rw c.deref-2.ensures.value at c.has_state.ensures) c.if-is_empty.false c.if-has_duplicate.false c.if-has_state.false).1

pub returns : goal.returns
returns c =
    sym (faultless_scope c.args.columns.items _ _ _ (rw c.deref.ensures.value at c.is_empty.ensures) c.has_duplicate.ensures (rw c.deref-2.ensures.value at c.has_state.ensures) c.if-is_empty.false c.if-has_duplicate.false c.if-has_state.false).0
