use Rattle.std.proofs.Common.{◌<◌, length, arith}
use Rattle.vortex_syntax.proofs.WordLemmas.{some_words}
use Rattle.vortex_syntax.specs.Words.{words}
use Rattle.vortex_syntax.proofs.word.skip_word.Goals as goal

pub returns-in-Err-Bad-clause-one : goal.returns-in-Err-Bad-clause-one
returns-in-Err-Bad-clause-one c =
    let some : 0 < length (words c.args.line.now) = some_words c.args.line.now c.requires.some c.requires.at_word in
    omega (arith, c.in-Err-Bad.ensures.broken (rw c.in-Err-Bad.field-0-is tt))
