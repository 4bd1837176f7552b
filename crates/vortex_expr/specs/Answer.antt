-- What a call that makes a typed expression answers.
use Rattle.std.specs.Prelude.{Result}
use Rattle.vortex_base.specs.declared.error.BaseError.{BaseError}
use Rattle.vortex_base.specs.Answer.{Answers}
use Rattle.vortex_expr.specs.Trees.Tree.{Tree, Place}
use Rattle.vortex_expr.specs.Meanings.Typing.{type_of}

-- this typed tree, if the typing table gives it a type, and else its fault
abbrev pub Builds : Tree Place → Result (Tree Place) BaseError → Type 0
Builds e r = Answers (type_of e) e r
