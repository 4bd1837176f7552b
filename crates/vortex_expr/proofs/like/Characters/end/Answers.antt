use Rattle.std.proofs.Common.{◌≡◌, Bool, true, false, [], ap, refl, ◌∙◌}
use Rattle.std.proofs.lemmas.Str.{chars-nil}
use Rattle.vortex_expr.specs.Patterns.Like.{folded}
use Rattle.vortex_expr.proofs.like.Characters.end.Goals as goal

folded-nil : (b : Bool) → folded b [] ≡ []
folded-nil true = refl
folded-nil false = refl

pub returns : goal.returns
returns c = ap (folded c.args.self.ignore_case) chars-nil ∙ folded-nil c.args.self.ignore_case
