-- What the lines of a text say fits together: parts of one scope, and a predicate over it.
use Rattle.std.specs.Prelude.{◌≡◌, ◌==◌, Bool, false, List, All, IfSome, IsTrue}
use Rattle.std.specs.List.{list_all, list_any}
use Rattle.vortex_base.specs.Data.Columns.{ColumnData}
use Rattle.vortex_expr.specs.Meanings.Fitting.{fits_scope}
use Rattle.vortex_base.specs.Data.Scopes.{IsScope, Named, has_duplicate, is_empty, is_state_column}
use Rattle.vortex_expr.specs.Trees.Tree.{Tree, Place, is_plain}
use Rattle.vortex_prune.specs.Part.{IsPart, PartData}
use Rattle.vortex_text.specs.Lines.{Reading}

-- no column has a declared size
abbrev pub is_unsized : List ColumnData → Bool
is_unsized cs = list_all (λ c. c.size == 0) cs

-- a part of this scope, without declared sizes
pub record IsPartOf (scope : List Named) (part : PartData) : Type 0 where
  pub same_scope : part.chunk.scope ≡ scope
  pub is_part : IsPart part
  pub unsized : IsTrue (is_unsized part.chunk.columns)

-- parts of one scope
abbrev pub AreNeighbours : List PartData → Type 0
AreNeighbours parts = (scope : List Named) × All (IsPartOf scope) parts

-- a predicate over this scope, which has a column: its columns are the scope's, and it holds no placeholder and no row count
pub record IsPredicateOver (scope : List Named) (e : Tree Place) : Type 0 where
  pub plain : IsTrue (is_plain e)
  pub fits : IsTrue (fits_scope e scope)
  pub scoped : is_empty scope ≡ false

-- What lines say fits together: the names are distinct and the types those of columns, the parts are parts of the scope, and the predicate is one over it.
pub record FitsTogether (r : Reading) : Type 0 where
  pub distinct : has_duplicate r.scope ≡ false
  pub storable : list_any is_state_column r.scope ≡ false
  pub ended : All (IsPartOf r.scope) r.ended
  pub current : IfSome r.current (IsPartOf r.scope)
  pub predicate : IfSome r.predicate (IsPredicateOver r.scope)

-- parts of this scope, and a predicate over it
pub record IsQueryOver (scope : List Named) (parts : List PartData) (predicate : Tree Place) : Type 0 where
  pub is_scope : IsScope scope
  pub are_parts : All (IsPartOf scope) parts
  pub is_predicate : IsPredicateOver scope predicate

-- parts of one scope, and a predicate over it
abbrev pub IsQuery : List PartData → Tree Place → Type 0
IsQuery parts predicate = (scope : List Named) × IsQueryOver scope parts predicate
