use Rattle.std.proofs.Common.{Bool, subst, sym, ◌++◌}
use Rattle.std.proofs.lemmas.Result.{IfOk-weaker}
use Rattle.vortex_predicates.proofs.Indexes.{operands_apart}
use Rattle.vortex_predicates.specs.Complete.{AreIndexesIf}
use Rattle.vortex_rewrite.specs.Rewriting.ReadOnce.{columns_of}
use Rattle.vortex_predicates.proofs.complete.compared.Goals as goal

pub returns : goal.returns
returns c =
    let l = c.args.left.now in
    let r = c.args.right.now in
    IfOk-weaker c.apart.result _ _ (λ found f. subst (λ (b : Bool). AreIndexesIf b (columns_of l ++ columns_of r) found) (sym (operands_apart l r)) (f _ _ _ _ c.in_ok-left.ensures c.in_ok-right.ensures)) c.apart.ensures
