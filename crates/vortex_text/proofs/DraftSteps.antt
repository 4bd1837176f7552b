-- What lines say where the parts stand in a store.
use Rattle.std.proofs.Common.{◌≡◌, ◌==◌, String, length, List, [], ◌∷◌, Option, None, Some, All, IfSome, false, refl, ap, sym, ◌∙◌, subst}
use Rattle.vortex_base.specs.Data.Scopes.{Named, is_empty, named_columns}
use Rattle.std.specs.declared.alloc.Global.{Global}
use Rattle.vortex_base.specs.declared.dtype.DType.{DType}
use Rattle.vortex_expr.specs.Trees.Tree.{Tree, Place}
use Rattle.vortex_prune.specs.Part.{PartData}
use Rattle.vortex_syntax.specs.Words.{Token, no_word}
use Rattle.vortex_text.proofs.Fitting.LineFits.{parts_fit}
use Rattle.vortex_text.specs.Fitting.{AreNeighbours, FitsTogether, IsPartOf}
use Rattle.vortex_text.specs.Lines.{Reading, parts_of, read_part}
use Rattle.vortex_text.specs.Rows.{empty_part}
use Rattle.vortex_text.specs.Stores.{StoreData, all_parts, current_of, ended_of}

-- what lines say whose parts stand in a store
abbrev pub stored : List Named → Option (Tree Place) → Option StoreData → Reading
stored scope p o = record { scope = scope; ended = ended_of o; current = current_of o; predicate = p }

-- ---- a part begins

pub not_empty : (columns : List (String Global × DType)) → (length columns == 0) ≡ false → is_empty (named_columns columns) ≡ false
not_empty [] some = cc
not_empty (c ∷ columns) some = refl

pub part_begun : (scope : List Named) (p : Option (Tree Place)) (o : Option StoreData) (s new : StoreData) (ws : List Token) → o ≡ Some s → FitsTogether (stored scope p o)
    → no_word ws ≡ Some tt → is_empty scope ≡ false
    → ((names : List Named) → All (IsPartOf names) (all_parts s) → new ≡ record { ended = all_parts s; current = Some (empty_part names) })
    → read_part (stored scope p o) ws ≡ Some (stored scope p (Some new))
part_begun scope p o s new ws is fits none some begins =
    let same : parts_of (stored scope p o) ≡ all_parts s = ap (λ x. parts_of (stored scope p x)) is in
    let begun = begins scope (subst (All (IsPartOf scope)) same (parts_fit (stored scope p o) fits)) in
    rw (none, some) (ap (λ (ps : List PartData). let r : Reading = record { scope = scope; ended = ps; current = Some (empty_part scope); predicate = p } in Some r) same
    ∙ ap (λ x. Some (stored scope p (Some x))) (sym begun))

-- ---- all has been read

pub store_neighbours : (scope : List Named) (p : Option (Tree Place)) (o : Option StoreData) → FitsTogether (stored scope p o) → IfSome o (λ s. AreNeighbours (all_parts s))
store_neighbours scope p None fits = tt
store_neighbours scope p (Some s) fits = (scope, parts_fit (stored scope p (Some s)) fits)
