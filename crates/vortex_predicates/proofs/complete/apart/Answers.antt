use Rattle.std.proofs.Common.{◌∙◌, ◌&&◌, ap, subst, sym}
use Rattle.vortex_base.specs.Data.Exact.{both_hold}
use Rattle.vortex_predicates.proofs.Indexes.{has_both, sets_apart, sets_share}
use Rattle.vortex_predicates.specs.Complete.{AreIndexesIf}
use Rattle.vortex_rewrite.specs.Rewriting.ReadOnce.{are_apart}
use Rattle.vortex_predicates.proofs.complete.apart.Goals as goal
use mathlib.Core.Bool.{true≢false}

pub returns-in_ok-joined : goal.returns-in_ok-joined
returns-in_ok-joined c d e cs ds left right =
    let s = c.in-Some.left in
    let t = c.in-Some-right.right in
    let a = subst (AreIndexesIf d cs) c.in-Some.is left in
    let b = subst (AreIndexesIf e ds) c.in-Some-right.is right in
    (both_hold (are_apart cs ds) (d && e) (sets_apart cs ds s t a.1 b.1 (c.is_disjoint.ensures.0 c.if-is_disjoint.true)) (both_hold d e a.0 b.0), has_both cs ds s t c.in_ok-joined.field-0 a.1 b.1 c.in_ok-joined.ensures)

pub returns-else-is_disjoint : goal.returns-else-is_disjoint
returns-else-is_disjoint c d e cs ds left right =
    let s = c.in-Some.left in
    let t = c.in-Some-right.right in
    let a = subst (AreIndexesIf d cs) c.in-Some.is left in
    let b = subst (AreIndexesIf e ds) c.in-Some-right.is right in
    ap (λ b. b && (d && e)) (sets_share cs ds s t a.1 b.1 (λ disjoint. true≢false (sym (c.is_disjoint.ensures.1 disjoint) ∙ c.if-is_disjoint.false)))
