-- What is left before the last character is what its bytes follow.
use Rattle.std.proofs.Common.{arith}
use Rattle.vortex_expr.proofs.Patterns.PatternLemmas.{chars_last, no_chars}
use Rattle.vortex_normal.proofs.likes.split_last_char.Goals as goal

pub returns-in-Some-clause-split : goal.returns-in-Some-clause-split
returns-in-Some-clause-split c = chars_last _ _ _ c.utf8.text c.as_str.utf8 (let step = c.in-Some.ensures.steps in cc)

pub returns-in-None-clause-split : goal.returns-in-None-clause-split
returns-in-None-clause-split c = no_chars _ (let step = c.in-None.ensures.steps in grind arith)
