use Rattle.vortex_expr.specs.Meanings.Typing.{type_of}
use Rattle.vortex_rewrite.specs.StateTypes.{stat_again}
use Rattle.vortex_rewrite.proofs.laws.placeholders_are_nullable.Goals as goal

pub returns : goal.returns
returns c = λ f x t. stat_again f (type_of x) t
