use Rattle.std.specs.Str.Lines.{lines}
use Rattle.vortex_text.proofs.OpenLineLemmas.{goes_on, stops_kept}
use Rattle.vortex_text.specs.Drafts.{reading_of}
use Rattle.vortex_text.proofs.open_line.read_block.Goals as goal

pub returns-in-Ok-clause-read : goal.returns-in-Ok-clause-read
returns-in-Ok-clause-read c =
    goes_on c.args.first c.in-Ok.number (reading_of c.args.draft.now) (reading_of c.read_lines.new.draft) (lines c.args.text.now) c.in-Ok.ensures.read

pub returns-in-Err-clause-read : goal.returns-in-Err-clause-read
returns-in-Err-clause-read c =
    stops_kept c.args.first (reading_of c.args.draft.now) (reading_of c.read_lines.new.draft) (lines c.args.text.now) c.in-Err.error c.kept_error.result c.in-Err.ensures.read c.kept_error.ensures
