-- What is left after one character is what follows its bytes.
use Rattle.std.proofs.lemmas.Str.{chars_past_char}
use Rattle.vortex_expr.proofs.like.split_char.Goals as goal

pub returns : goal.returns
returns c = chars_past_char _ _ _ c.utf8.text (let step = c.in_ok-first.ensures.steps in cc)
