-- What a whole text names fits together.
use Rattle.std.proofs.Common.{◌≡◌, ℕ, List, [], ◌∷◌, Option, None, Some, IfSome, Ok, refl, subst}
use Rattle.std.proofs.lemmas.List.Elements.{All-nil}
use Rattle.std.specs.Str.Lines.{lines}
use Rattle.vortex_expr.specs.Trees.Tree.{Tree, Place}
use Rattle.vortex_prune.specs.Part.{PartData}
use Rattle.vortex_text.proofs.Fitting.LineFits.{line_fits, parts_fit}
use Rattle.vortex_text.proofs.NamedLines.{query_named}
use Rattle.vortex_text.proofs.Fitting.PartFits.{scope_made}
use Rattle.vortex_text.specs.Fitting.{FitsTogether, IsPartOf, IsPredicateOver, IsQuery, IsQueryOver}
use Rattle.vortex_text.specs.Lines.{Reading, nothing_read, parts_of}
use Rattle.vortex_text.specs.Naming.{NamesQuery, Reads, named}

-- before the first line
pub nothing_fits : FitsTogether nothing_read
nothing_fits = record { distinct = refl; storable = refl; ended = All-nil (IsPartOf []); current = tt; predicate = tt }

lines_fit : (r s : Reading) (ls : List (List ℕ)) → FitsTogether r → Reads r ls s → FitsTogether s
lines_fit r s [] h same = let P : Reading → Type 0 = FitsTogether in subst P same h
lines_fit r s (line ∷ more) h (next, read, reads) = lines_fit next s more (line_fits r next line h read) reads

-- a predicate, where there is one
predicate_is : (r : Reading) (e : Tree Place) (o : Option (Tree Place)) → o ≡ Some e → IfSome o (IsPredicateOver r.scope) → IsPredicateOver r.scope e
predicate_is r e None same h = cc
predicate_is r e (Some d) same h = let is : d ≡ e = cc in let P : Tree Place → Type 0 = IsPredicateOver r.scope in subst P is h

-- a query of lines that fit together
pub query_fits : (r : Reading) (e : Tree Place) → FitsTogether r → r.predicate ≡ Some e → IsQueryOver r.scope (parts_of r) e
query_fits r e h is =
    let over = predicate_is r e r.predicate is h.predicate in
    record { is_scope = scope_made r.scope h.distinct h.storable over.scoped; are_parts = parts_fit r h; is_predicate = over }

-- the same of the parts that take no more rows
pub ended_query : (r : Reading) (e : Tree Place) → FitsTogether r → r.predicate ≡ Some e → IsQueryOver r.scope r.ended e
ended_query r e h is =
    let over = predicate_is r e r.predicate is h.predicate in
    record { is_scope = scope_made r.scope h.distinct h.storable over.scoped; are_parts = h.ended; is_predicate = over }

names_query : (text : List ℕ) (parts : List PartData) (e : Tree Place) → NamesQuery text parts e → IsQuery parts e
names_query text parts e (r, reads, are, is) =
    let P : List PartData → Type 0 = λ ps. IsQuery ps e in
    subst P are (r.scope, query_fits r e (lines_fit nothing_read r (lines text) nothing_fits reads) is)

pub named_fits : (text : List ℕ) (parts : List PartData) (e : Tree Place) → named text ≡ Ok (parts, e) → IsQuery parts e
named_fits text parts e h = names_query text parts e (query_named text parts e h)
