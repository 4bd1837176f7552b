use Rattle.std.proofs.Common.{◌≡◌, ◌==◌, List, String, false, ap, length, sym, ◌∙◌}
use Rattle.std.specs.declared.alloc.Global.{Global}
use Rattle.vortex_base.specs.declared.dtype.DType.{DType}
use Rattle.vortex_base.specs.Data.Scopes.{is_empty, named_columns}
use Rattle.vortex_syntax.specs.Words.{words}
use Rattle.vortex_text.proofs.DraftSteps.{not_empty, part_begun}
use Rattle.vortex_text.proofs.document_parser.DocumentParser.read_part.Goals as goal

pub returns-in-Some-clause-read : goal.returns-in-Some-clause-read
returns-in-Some-clause-read c =
    let d = c.args.self.now in
    let some : is_empty (named_columns d.columns) ≡ false = not_empty d.columns (sym (c.is_empty.ensures ∙ ap (λ (cs : List (String Global × DType)). length cs == 0) c.as_slice.ensures) ∙ c.if-is_empty.false) in
    part_begun (named_columns d.columns) d.predicate d.store c.in-Some.store c.begin_part.new.self (words c.args.line.now) c.in-Some.is c.requires c.in_ok-no_word.ensures.word some c.in_ok-begin_part.ensures
