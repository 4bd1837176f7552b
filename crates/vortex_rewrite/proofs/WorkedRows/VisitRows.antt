-- Worked rows, found by computation alone: at which nodes rules are asked, and which expressions are of a scope.
use Rattle.std.specs.Prelude.{◌≡◌, ℕ, true, false, List, [], ◌∷◌, Some, pos, codes, refl}
use Rattle.vortex_base.specs.declared.aggregate.AggregateFnRef.TheVariants.{Max}
use Rattle.vortex_expr.specs.declared.scalar_fn.BetweenOptions.{BetweenOptions}
use Rattle.vortex_expr.specs.declared.scalar_fn.StrictComparison.TheVariants.{Strict, NonStrict}
use Rattle.vortex_base.specs.declared.dtype.DType.{DType}
use Rattle.vortex_base.specs.declared.dtype.DType.TheVariants as dtype
use Rattle.vortex_base.specs.declared.types.Nullability.TheVariants.{Nullable, NonNullable}
use Rattle.vortex_expr.specs.declared.scalar_fn.Operator.TheVariants.{Gt, Lt, Lte, And, Or}
use Rattle.vortex_base.specs.declared.types.PType.TheVariants as ptype
use Rattle.vortex_base.specs.declared.pvalue.PValue.TheVariants as number
use Rattle.vortex_base.specs.declared.scalar_value.ScalarValue.TheVariants as value
use Rattle.vortex_base.specs.Data.Scopes.{Named}
use Rattle.vortex_expr.specs.Trees.Tree.{Tree, Place, column, literal, binary, between, is_null, not, stat}
use Rattle.vortex_rewrite.specs.Rewriting.Lawful.{is_of_scope}
use Rattle.vortex_rewrite.specs.Rewriting.Visited.{visited}

abbrev i32_type : DType
i32_type = dtype.Primitive ptype.I32 Nullable

abbrev a : Tree Place
a = column (record { index = 0; dtype = i32_type })

abbrev num : ℕ → Tree Place
num n = literal (record { dtype = dtype.Primitive ptype.I32 NonNullable; value = Some (value.Primitive (number.I32 (pos n))) })

abbrev closed_ends : BetweenOptions
closed_ends = record { lower_strict = NonStrict; upper_strict = NonStrict }

abbrev open_ends : BetweenOptions
open_ends = record { lower_strict = Strict; upper_strict = Strict }

abbrev above : Tree Place
above = binary Gt a (num 10)

abbrev below : Tree Place
below = not (binary Lt a (num 5))

-- ---- nodes

both_sides : visited (binary And above below) ≡ above ∷ below ∷ binary And above below ∷ []
both_sides = refl

either_side : visited (binary Or below above) ≡ below ∷ above ∷ binary Or below above ∷ []
either_side = refl

comparison_alone : visited above ≡ above ∷ []
comparison_alone = refl

null_test_alone : visited (is_null (binary And above below)) ≡ is_null (binary And above below) ∷ []
null_test_alone = refl

moved_ends : visited (between open_ends a (num 3) (num 9)) ≡
    binary Lte (num 4) a ∷ binary Lte a (num 8) ∷ binary And (binary Lte (num 4) a) (binary Lte a (num 8)) ∷ between open_ends a (num 3) (num 9) ∷ []
moved_ends = refl

no_ends : visited (between closed_ends a (num 9) (num 3)) ≡ between closed_ends a (num 9) (num 3) ∷ []
no_ends = refl

-- ---- expressions of a scope

abbrev scope : List Named
scope = (codes "a", i32_type) ∷ []

very_type : is_of_scope (is_null a) scope ≡ true
very_type = refl

other_nullability : is_of_scope (is_null (column (record { index = 0; dtype = dtype.Primitive ptype.I32 NonNullable }))) scope ≡ false
other_nullability = refl

past_the_end : is_of_scope (is_null (column (record { index = 1; dtype = i32_type }))) scope ≡ false
past_the_end = refl

with_placeholder : is_of_scope (is_null (stat Max a)) scope ≡ false
with_placeholder = refl
