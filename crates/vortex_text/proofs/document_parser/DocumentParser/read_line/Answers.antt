use Rattle.vortex_syntax.specs.Words.{words}
use Rattle.vortex_text.proofs.Fitting.LineFits.{left_fits}
use Rattle.vortex_text.specs.Drafts.{reading_of}
use Rattle.vortex_text.proofs.document_parser.DocumentParser.read_line.Goals as goal

pub returns-clause-fits : goal.returns-clause-fits
returns-clause-fits c =
    left_fits (reading_of c.args.self.now) (reading_of c.read_words.new.self) (words c.args.line.now) c.read_words.result c.requires c.read_words.ensures.read
