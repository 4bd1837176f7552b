use Rattle.vortex_syntax.proofs.Spelling.{lines_are_words, read_back}
use Rattle.vortex_syntax.proofs.laws.words_are_read_back.Goals as goal

pub returns : goal.returns
returns c = record { read_back = read_back; written = lines_are_words }
