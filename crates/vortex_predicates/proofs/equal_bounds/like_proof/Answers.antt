use Rattle.vortex_expr.specs.Trees.Tree.{like}
use Rattle.vortex_predicates.proofs.EqualBounds.{typed_as}
use Rattle.vortex_predicates.proofs.equal_bounds.like_proof.Goals as goal

pub value_proof-requires : goal.value_proof-requires
value_proof-requires g c = typed_as c.args.e.now (like c.args.options c.args.text.now c.args.pattern.now) c.requires.like c.requires.truth
