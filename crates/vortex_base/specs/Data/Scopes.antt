-- Scopes: named columns, each with its type.
use Rattle.std.specs.Prelude.{ℕ, Bool, true, false, ◌||◌, ◌&&◌, not, List, [], ◌∷◌, Result, Ok, Err, if◌then◌else◌, Option, position, map, string_bytes, IsTrue, String, bytes_eq}
use Rattle.std.specs.declared.alloc.Global.{Global}
use Rattle.std.specs.List.{list_any}
use Rattle.std.proofs.Common.{ap, refl, rules}
use lib.Pointwise.{pointwise, pointwise_decides}
use Rattle.vortex_base.specs.Data.Exact.{IsExact, both_true}
use Rattle.vortex_base.specs.Data.Types.{dtype_eq, dtype_eq_is_exact}
use Rattle.vortex_base.specs.declared.dtype.DType.{DType}
use Rattle.vortex_base.specs.declared.dtype.DType.TheVariants as dtype
use Rattle.vortex_base.specs.declared.error.BaseError.{BaseError}
use Rattle.vortex_base.specs.declared.error.BaseError.TheVariants.{EmptyScope, DuplicateColumn, TypeFault}

-- a column's name, as its bytes, and its type
abbrev pub Named : Type 0
Named = List ℕ × DType

abbrev pub named : String Global × DType → Named
named c = (string_bytes c.0, c.1)

-- the columns as they are seen, of those that a scope is made of
abbrev pub named_columns : List (String Global × DType) → List Named
named_columns cs = map named cs

abbrev pub is_named : List ℕ → Named → Bool
is_named name c = bytes_eq c.0 name

-- the type is that of a pair of a least and a greatest value, which no column has
abbrev pub is_state_column : Named → Bool
is_state_column (n, dtype.MinMaxState e m) = true
is_state_column c = false

-- some name stands twice
abbrev pub has_duplicate : List Named → Bool
has_duplicate [] = false
has_duplicate (c ∷ cs) = list_any (is_named c.0) cs || has_duplicate cs

abbrev pub is_empty : List Named → Bool
is_empty [] = true
is_empty (c ∷ cs) = false

-- the columns make a scope: there is one, the names are distinct, and each type is one that a column may have
abbrev pub is_scope : List Named → Bool
is_scope cs = not (is_empty cs) && (not (has_duplicate cs) && not (list_any is_state_column cs))

abbrev pub IsScope : List Named → Type 0
IsScope cs = IsTrue (is_scope cs)

-- the columns as a scope, or the first of the three faults that they have
abbrev pub scope_of : List Named → Result (List Named) BaseError
scope_of cs =
    if is_empty cs then Err EmptyScope
    else (if has_duplicate cs then Err DuplicateColumn
    else (if list_any is_state_column cs then Err TypeFault else Ok cs))

-- the place of the column of this name
abbrev pub place_of : List ℕ → List Named → Option ℕ
place_of name cs = position (is_named name) cs

pub bytes_eq_is_exact : IsExact bytes_eq
bytes_eq_is_exact a b = search rules

abbrev pub named_eq : Named → Named → Bool
named_eq c d = bytes_eq c.0 d.0 && dtype_eq c.1 d.1

abbrev pub scope_eq : List Named → List Named → Bool
scope_eq = pointwise named_eq

pub named_eq_is_exact : IsExact named_eq
named_eq_is_exact c d = (
  λ e.
      let both = both_true _ _ e in
      λ i. ((bytes_eq_is_exact c.0 d.0).0 both.0 i, (dtype_eq_is_exact c.1 d.1).0 both.1 i),
  λ e. rw ((bytes_eq_is_exact c.0 d.0).1 (ap (λ (x : Named). x.0) e), (dtype_eq_is_exact c.1 d.1).1 (ap (λ (x : Named). x.1) e)) refl,
)

pub scope_eq_is_exact : IsExact scope_eq
scope_eq_is_exact = pointwise_decides named_eq_is_exact
