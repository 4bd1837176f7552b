use Rattle.std.proofs.Common.{subst, sym}
use Rattle.std.specs.Prelude.{IsTrue}
use Rattle.vortex_expr.specs.Trees.Tree.{binary}
use Rattle.vortex_rewrite.proofs.Rewriting.ProofTypes.{fits_or_memory, binary_is_predicate, made_is}
use Rattle.vortex_rewrite.specs.Rewriting.Predicates.{is_predicate}
use Rattle.vortex_rewrite.proofs.predicate.Predicate.binary.Goals as goal

pub expect_memory_only-requires : goal.expect_memory_only-requires
expect_memory_only-requires c = fits_or_memory (binary c.args.operator c.args.left c.args.right) _ c.requires c.binary.ensures

pub invariant_of-result : goal.invariant_of-result
invariant_of-result c =
    subst (λ e. IsTrue (is_predicate e)) (sym (made_is (binary c.args.operator c.args.left c.args.right) _ _ c.requires c.binary.ensures c.in_ok-expression.ensures))
    (binary_is_predicate c.args.operator c.args.left c.args.right c.requires)
