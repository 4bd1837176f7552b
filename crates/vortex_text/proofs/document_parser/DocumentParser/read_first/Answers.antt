use Rattle.std.proofs.Common.{ap, ◌∙◌}
use Rattle.std.specs.Prelude.{not}
use Rattle.vortex_text.proofs.FirstReads.{none_there, row_text}
use Rattle.vortex_text.specs.Drafts.{reading_of}
use Rattle.vortex_text.proofs.document_parser.DocumentParser.read_first.Goals as goal

pub returns-in-Some-clause-read : goal.returns-in-Some-clause-read
returns-in-Some-clause-read c =
    let open_yet = c.is_none.ensures ∙ ap not c.if-is_none.true in
    rw (row_text (reading_of c.args.self.now) c.args.text.now c.in-Some.values.now (none_there c.args.self.now.predicate open_yet) c.in-Some.ensures.row c.in-Some.ensures.ends)
    c.read_first_row.ensures.read
