-- The places of columns, by their names.
use Rattle.std.specs.Prelude.{◌≡◌, ℕ, List, Option, Some, String, Vec, slice_get, string_bytes}
use Rattle.std.specs.BTreeMap.{BTreeMap, get_by}
use Rattle.std.specs.Cmp.Lexicographic.{slice_cmp}
use Rattle.std.specs.Ordering.{nat_cmp}
use Rattle.std.specs.declared.alloc.Global.{Global}
use Rattle.vortex_base.specs.Data.Scopes.{named_columns, place_of}
use Rattle.vortex_base.specs.declared.dtype.DType.{DType}

-- the place that the map has at a name
abbrev pub place_at : List ℕ → BTreeMap (Vec ℕ Global) ℕ → Option ℕ
place_at name places = get_by (λ k. slice_cmp nat_cmp name k.items) places

-- at each name the map has the place of that column, if there is one
abbrev pub IsIndexOf : List (String Global × DType) → BTreeMap (Vec ℕ Global) ℕ → Type 0
IsIndexOf cs places = (name : List ℕ) → place_at name places ≡ place_of name (named_columns cs)

-- each column has the first place of its name
abbrev pub AreDistinct : List (String Global × DType) → Type 0
AreDistinct cs = (i : ℕ) (c : String Global × DType) → slice_get cs i ≡ Some c → place_of (string_bytes c.0) (named_columns cs) ≡ Some i

-- what is kept of columns with the map of their places
pub record IsKept (cs : List (String Global × DType)) (places : BTreeMap (Vec ℕ Global) ℕ) : Type 0 where
  pub index : IsIndexOf cs places
  pub distinct : AreDistinct cs
