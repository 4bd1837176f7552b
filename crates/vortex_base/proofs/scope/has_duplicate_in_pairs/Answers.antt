use Rattle.std.proofs.Common.{◌∙◌}
use Rattle.vortex_base.proofs.Data.ScopeLemmas.{duplicate_here, duplicate_later}
use Rattle.vortex_base.proofs.scope.has_duplicate_in_pairs.Goals as goal

pub returns-then-contains : goal.returns-then-contains
returns-then-contains c =
    duplicate_here c.columns.rest.now c.in-Some.first.now c.in-Some.later.now c.contains.result c.in-Some.ensures.cases.0 (rw c.as_str.ensures.value at c.contains.ensures) c.if-contains.true ∙ c.columns.invariant

pub columns-preserved : goal.columns-preserved
columns-preserved c =
    duplicate_later c.columns.rest.now c.in-Some.first.now c.in-Some.later.now c.contains.result c.in-Some.ensures.cases.0 (rw c.as_str.ensures.value at c.contains.ensures) c.if-contains.false ∙ c.columns.invariant
