use Rattle.std.proofs.Common.{refl}
use Rattle.vortex_base.specs.Data.Scalars.{null_of}
use Rattle.vortex_base.specs.Data.Types.{as_nullable}
use Rattle.vortex_expr.specs.Trees.Tree.{literal}
use Rattle.vortex_prune.specs.Binding.PartFaithful.{literal_is_answer}
use Rattle.vortex_rewrite.specs.StateTypes.{as_nullable-again}
use Rattle.vortex_prune.proofs.laws.literals_are_answers.Goals as goal

pub returns-clause-literals : goal.returns-clause-literals
returns-clause-literals c = λ k t row same. literal_is_answer k t row (literal k) refl same

pub returns-clause-nulls : goal.returns-clause-nulls
returns-clause-nulls c = λ t row n. (literal_is_answer (null_of (as_nullable t)) t row (literal (null_of (as_nullable t))) refl (as_nullable-again t), refl)
