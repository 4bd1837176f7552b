-- What makes a node, and how deep it is.
use Rattle.std.specs.Prelude.{◌≡◌, ℕ, List, [], ◌∷◌, Option, Some, None, Result, Ok, Err, max, ⊤}
use Rattle.vortex_expr.specs.Trees.Tree.{Tree, Place, binary, is_null, is_not_null, not, like}
use Rattle.vortex_normal.specs.Balanced.{depth}
use Rattle.vortex_capi.specs.declared.nested.error.NestedError.{NestedError}
use Rattle.vortex_capi.specs.declared.nested.error.NestedError.TheVariants as errors
use Rattle.vortex_capi.specs.declared.nested.nested.Unary.{Unary}
use Rattle.vortex_capi.specs.declared.nested.nested.Unary.TheVariants as unary
use Rattle.vortex_capi.specs.declared.nested.nested.Pair.{Pair}
use Rattle.vortex_capi.specs.declared.nested.nested.Pair.TheVariants as pair

abbrev pub unary_of : Unary → Tree Place → Tree Place
unary_of unary.Not x = not x
unary_of unary.IsNull x = is_null x
unary_of unary.IsNotNull x = is_not_null x

abbrev pub pair_of : Pair → Tree Place → Tree Place → Tree Place
pair_of (pair.Binary o) l r = binary o l r
pair_of (pair.Like o) l r = like o l r

-- a node that was made is the one that the typing table has a type for; of one that it has no type for none is made
abbrev pub Builds : Option (Tree Place) → Result (Tree Place) NestedError → Type 0
Builds wanted (Ok e) = wanted ≡ Some e
Builds wanted (Err errors.Memory) = ⊤
Builds wanted (Err errors.Bad) = wanted ≡ None
Builds wanted (Err errors.TooDeep) = ⊥

-- the depth of the deepest
abbrev pub deepest : List (Tree Place) → ℕ
deepest [] = 0
deepest (e ∷ es) = max (depth e) (deepest es)

-- memory was refused, or it is too deep, where this holds; no text is bad any more
abbrev pub IsDeep : (deep : Type 0) → NestedError → Type 0
IsDeep deep errors.Memory = ⊤
IsDeep deep errors.Bad = ⊥
IsDeep deep errors.TooDeep = deep

-- what was joined has this property, unless memory was refused or it is too deep
abbrev pub Joins : {X : Type 0} → (X → Type 0) → (deep : Type 0) → Result X NestedError → Type 0
Joins P deep (Ok x) = P x
Joins P deep (Err e) = IsDeep deep e
