-- What lines say, as it is held.
use Rattle.vortex_base.specs.Data.Scopes.{named_columns}
use Rattle.vortex_text.specs.Lines.{Reading}
use Rattle.vortex_text.specs.Stores.{current_of, ended_of}
use Rattle.vortex_text.specs.declared.document_parser.DocumentParser.{DocumentParser}

-- what the lines so far say
abbrev pub reading_of : DocumentParser → Reading
reading_of d = record {
  scope = named_columns d.columns;
  ended = ended_of d.store;
  current = current_of d.store;
  predicate = d.predicate;
}
