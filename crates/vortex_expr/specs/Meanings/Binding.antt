-- Binding: the columns of an expression, given by their names, are looked up in a scope.
use Rattle.std.specs.Prelude.{ℕ, Option, Some, None, List, Result, Ok, Err, slice_get}
use Rattle.vortex_base.specs.declared.dtype.DType.{DType}
use Rattle.vortex_base.specs.declared.dtype.DType.TheVariants as dtype
use Rattle.vortex_base.specs.declared.error.BaseError.{BaseError}
use Rattle.vortex_base.specs.declared.error.BaseError.TheVariants.{UnknownColumn}
use Rattle.vortex_base.specs.Data.Scopes.{Named, place_of}
use Rattle.vortex_expr.specs.Trees.Tree.{Tree, Place, map_columns}
use Rattle.vortex_expr.specs.Meanings.Typing.{type_by, with_type}

-- a column's name, as its bytes
abbrev pub Name : Type 0
Name = List ℕ

-- the place of this number with the type that stands there
abbrev pub place_at : ℕ → Option Named → Option Place
place_at i None = None
place_at i (Some c) = Some (record { index = i; dtype = c.1 })

abbrev pub found : List Named → Option ℕ → Option Place
found scope None = None
found scope (Some i) = place_at i (slice_get scope i)

-- the place of the column of this name, if the scope has it
abbrev pub find_column : List Named → Name → Option Place
find_column scope name = found scope (place_of name scope)

abbrev pub type_at : Option Place → Result DType BaseError
type_at None = Err UnknownColumn
type_at (Some p) = Ok p.dtype

-- the type of an expression under a scope, or the first fault: children before their parent, from the left
abbrev pub type_in : List Named → Tree Name → Result DType BaseError
type_in scope e = type_by (λ name. type_at (find_column scope name)) e

-- a place for a column that a scope has; one that it lacks is a fault, so any place serves for it
abbrev pub place_or_any : Option Place → Place
place_or_any None = record { index = 0; dtype = dtype.Null }
place_or_any (Some p) = p

-- the expression with its columns' places in the scope for their names
abbrev pub placed_in : List Named → Tree Name → Tree Place
placed_in scope e = map_columns (λ name. place_or_any (find_column scope name)) e

-- the typed expression that an expression is bound to, or the first fault
abbrev pub bound_in : List Named → Tree Name → Result (Tree Place) BaseError
bound_in scope e = with_type (λ t. Ok (placed_in scope e)) (type_in scope e)
