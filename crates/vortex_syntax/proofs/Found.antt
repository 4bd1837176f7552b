-- The column of a name, among columns as they are held.
use Rattle.std.proofs.Common.{◌≡◌, ℕ, List, Option, None, Some, String, slice_get, refl, ap, sym, ◌∙◌}
use Rattle.std.specs.declared.alloc.Global.{Global}
use Rattle.vortex_expr.specs.Meanings.Binding.{find_column, found}
use Rattle.vortex_base.specs.Data.Scopes.{named, named_columns, place_of}
use Rattle.vortex_base.specs.declared.dtype.DType.{DType}

pub found_none : (cs : List (String Global × DType)) (name : List ℕ) (o : Option ℕ) → o ≡ place_of name (named_columns cs) → o ≡ None
    → find_column (named_columns cs) name ≡ None
found_none cs name o h none = ap (found (named_columns cs)) (sym h ∙ none)

pub found_some : (cs : List (String Global × DType)) (name : List ℕ) (o : Option ℕ) (i : ℕ) (c : String Global × DType) → o ≡ place_of name (named_columns cs) → o ≡ Some i
    → slice_get (named_columns cs) i ≡ Some (named c) → find_column (named_columns cs) name ≡ Some (record { index = i; dtype = c.1 })
found_some cs name o i c h some at = ap (found (named_columns cs)) (sym h ∙ some) ∙ rw at refl
