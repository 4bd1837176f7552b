use Rattle.std.proofs.Common.{refl}
use Rattle.vortex_expr.specs.declared.scalar_fn.Operator.TheVariants.{Eq}
use Rattle.vortex_normal.proofs.Steps.{text_compares}
use Rattle.vortex_normal.proofs.likes.same_text.Goals as goal

pub comparison-requires : goal.comparison-requires
comparison-requires c = text_compares c.args.wanted Eq _ c.args.text.now c.in_ok-other.other refl c.operator_as.ensures c.requires c.in_ok-other.ensures.text
