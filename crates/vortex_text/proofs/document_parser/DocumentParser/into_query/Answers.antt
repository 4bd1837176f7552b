use Rattle.std.proofs.Common.{List, ap, subst, sym, ◌∙◌}
use Rattle.vortex_base.specs.Data.Scopes.{Named, named_columns}
use Rattle.vortex_prune.specs.Part.{PartData}
use Rattle.vortex_text.proofs.DraftSteps.{store_neighbours}
use Rattle.vortex_text.proofs.Fitting.LineFits.{ended_fit}
use Rattle.vortex_text.proofs.Fitting.NamedFits.{ended_query}
use Rattle.vortex_text.specs.Drafts.{reading_of}
use Rattle.vortex_text.specs.Fitting.{IsQueryOver}
use Rattle.vortex_text.specs.Stores.{ended_of}
use Rattle.vortex_text.proofs.document_parser.DocumentParser.into_query.Goals as goal

pub ended_parts-requires-clause-parts : goal.ended_parts-requires-clause-parts
ended_parts-requires-clause-parts c =
    let d = c.end_part.new.self in
    store_neighbours (named_columns d.columns) d.predicate d.store (ended_fit (reading_of c.args.self) (reading_of d) c.requires c.in_ok-end_part.ensures.ended)

pub returns-in_ok-parts-in-Some-clause-fits : goal.returns-in_ok-parts-in-Some-clause-fits
returns-in_ok-parts-in-Some-clause-fits c =
    let d = c.end_part.new.self in
    let P : List Named → Type 0 = λ scope. IsQueryOver scope (ended_of d.store) c.in-Some.predicate in
    let Q : List PartData → Type 0 = λ parts. IsQueryOver c.new_unchecked.result parts c.in-Some.predicate in
    let scope = c.new_unchecked.ensures ∙ ap named_columns c.into_vec.ensures in
    subst Q (sym c.in_ok-parts-in-Some.ensures)
    (subst P (sym scope) (ended_query (reading_of d) c.in-Some.predicate (ended_fit (reading_of c.args.self) (reading_of d) c.requires c.in_ok-end_part.ensures.ended) c.in-Some.is))
