use Rattle.vortex_base.specs.Data.Scopes.{named_columns}
use Rattle.vortex_text.proofs.StoreSteps.{first_neighbours}
use Rattle.vortex_text.proofs.document_parser.ended_parts.Goals as goal

pub into_parts-requires-in-None : goal.into_parts-requires-in-None
into_parts-requires-in-None c = first_neighbours (named_columns c.args.columns.now) c.in_ok-new-in-None.field-0 c.requires.scope c.in_ok-new-in-None.ensures
