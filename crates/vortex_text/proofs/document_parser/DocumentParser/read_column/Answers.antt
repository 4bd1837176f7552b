use Rattle.std.proofs.Common.{◌≡◌, sym, string_bytes, ◌∙◌}
use Rattle.vortex_base.specs.Data.Scopes.{named_columns}
use Rattle.vortex_text.proofs.DraftLemmas.{new_has_no_place}
use Rattle.vortex_syntax.proofs.Fitting.ScopeFits.{new_is_text}
use Rattle.vortex_text.proofs.document_parser.DocumentParser.read_column.Goals as goal

pub push-requires : goal.push-requires
push-requires c =
    let same : string_bytes c.in_ok-column.column ≡ c.in_ok-name.name.now = c.in_ok-column.ensures.ok ∙ c.in-Ok.ensures.cases.0 in
    rw same (new_has_no_place (named_columns c.args.self.now.columns) c.in_ok-name.name.now (sym c.if-not-is_new.ensures))

pub unreachable-requires : goal.unreachable-requires
unreachable-requires c =
    c.in_default-from_utf8.ensures.cases.0 (new_is_text (named_columns c.args.self.now.columns) c.in_ok-name.name.now (sym c.if-not-is_new.ensures))
