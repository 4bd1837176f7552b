-- Worked rows of predicates that bounds decide, found by computation alone.
use Rattle.std.specs.Prelude.{◌≡◌, ◌==◌, ◌↔◌, ℕ, zero, suc, Bool, true, false, Contains, IsTrue, List, if◌then◌else◌, [], ◌∷◌, Some, None, pos, codes, refl, slice_get}
use Rattle.std.proofs.Common.{arith, subst}
use Rattle.std.proofs.lemmas.Option.{same_Some}
use Rattle.vortex_expr.specs.declared.scalar_fn.BetweenOptions.{BetweenOptions}
use Rattle.vortex_expr.specs.declared.scalar_fn.StrictComparison.TheVariants.{Strict, NonStrict}
use Rattle.vortex_base.specs.declared.dtype.DType.{DType}
use Rattle.vortex_base.specs.declared.dtype.DType.TheVariants as dtype
use Rattle.vortex_base.specs.declared.types.Nullability.TheVariants.{Nullable, NonNullable}
use Rattle.vortex_expr.specs.declared.scalar_fn.Operator.TheVariants.{Eq, NotEq, Gt, Lt, Lte, And, Or}
use Rattle.vortex_base.specs.declared.types.PType.TheVariants as ptype
use Rattle.vortex_base.specs.declared.pvalue.PValue.TheVariants as number
use Rattle.vortex_base.specs.declared.scalar_value.ScalarValue.{ScalarValue}
use Rattle.vortex_base.specs.declared.scalar_value.ScalarValue.TheVariants as value
use Rattle.vortex_base.specs.Data.Scalars.{Constant}
use Rattle.vortex_expr.specs.Trees.Tree.{Tree, Place, column, literal, binary, between, is_null, not}
use Rattle.vortex_expr.specs.Meanings.Typing.{truth_type}
use Rattle.vortex_prune.proofs.Scanning.Boxes.{skipping_is_complete}
use Rattle.vortex_rewrite.specs.Rewriting.ReadOnce.{Box, IsInOrder, IsSatisfiable, is_read_once}
use Rattle.vortex_prune.specs.Part.{IsPart, PartData, zone_of}
use Rattle.vortex_zone_map.specs.Zone.{Entries, IsZone, ZoneData}
use Rattle.vortex_prune.specs.Binding.PartAnswers.{part_values, told_values}
use Rattle.vortex_rewrite.specs.Rewriting.Falsifiers.{bool_literal, falsifier, reduce_balanced, node}
use Rattle.vortex_prune.specs.Scanning.Complete.{IsBoxIn, SkipsExactly}
use Rattle.vortex_prune.specs.Scanning.Selection.{is_proved, proves_of}
use Rattle.vortex_prune.specs.Zones.{zones_of}
use Rattle.vortex_stats.specs.declared.precision.Precision.TheVariants.{Exact, Inexact}
use Rattle.vortex_stats.specs.declared.stat.Stat.TheVariants.{Max, Min}

abbrev i64_type : DType
i64_type = dtype.Primitive ptype.I64 Nullable

abbrev num : ℕ → ScalarValue
num n = value.Primitive (number.I64 (pos n))

abbrev a : Tree Place
a = column (record { index = 0; dtype = i64_type })

abbrev b : Tree Place
b = column (record { index = 1; dtype = i64_type })

abbrev lit : ℕ → Tree Place
lit n = literal (record { dtype = dtype.Primitive ptype.I64 NonNullable; value = Some (num n) })

abbrev closed_ends : BetweenOptions
closed_ends = record { lower_strict = NonStrict; upper_strict = NonStrict }

-- the bounds of a column, of which one is exact
abbrev bounds : (low high : ℕ) → Entries
bounds l h = (Max, Inexact (num h)) ∷ (Min, Exact (num l)) ∷ []

-- a part of one row, of which the bounds alone are known
abbrev part : (as' bs : Entries) → PartData
part as' bs = record {
  chunk = record {
    scope = (codes "a", i64_type) ∷ (codes "b", i64_type) ∷ [];
    columns = record { dtype = i64_type; values = None ∷ []; size = 8 } ∷ record { dtype = i64_type; values = None ∷ []; size = 8 } ∷ [];
  };
  stats = as' ∷ bs ∷ [];
}

-- the part is skipped under its own statistics
abbrev skips : Tree Place → (as' bs : Entries) → Bool
skips p as' bs = is_proved (falsifier [] p) (part as' bs) (part_values (part as' bs))

some_part : IsPart (part (bounds 5 9) (bounds 1 5))
some_part = (refl, refl)

some_zone : IsZone (part (bounds 5 9) (bounds 1 5)).chunk.scope (zone_of (part (bounds 5 9) (bounds 1 5)))
some_zone = refl

-- ---- two columns

abbrev less : Tree Place
less = binary Lt a b

less_read_once : is_read_once less ≡ true
less_read_once = refl

less_skipped : skips less (bounds 5 9) (bounds 1 5) ≡ true
unfolding node reduce_balanced
less_skipped = refl

abbrev at_most : Tree Place
at_most = binary Lte a b

at_most_read_once : is_read_once at_most ≡ true
at_most_read_once = refl

at_most_kept : skips at_most (bounds 5 9) (bounds 1 5) ≡ false
unfolding node reduce_balanced
at_most_kept = refl

abbrev unequal : Tree Place
unequal = binary NotEq a b

unequal_read_once : is_read_once unequal ≡ true
unequal_read_once = refl

one_value_skipped : skips unequal (bounds 5 5) (bounds 5 5) ≡ true
unfolding node reduce_balanced
one_value_skipped = refl

two_values_kept : skips unequal (bounds 5 5) (bounds 5 6) ≡ false
unfolding node reduce_balanced
two_values_kept = refl

-- ---- AND and OR

abbrev both_needed : Tree Place
both_needed = binary And (binary Eq a (lit 3)) (binary Or (binary Gt b (lit 7)) (bool_literal false))

both_read_once : is_read_once both_needed ≡ true
both_read_once = refl

one_side_skipped : skips both_needed (bounds 0 9) (bounds 0 7) ≡ true
unfolding node reduce_balanced
one_side_skipped = refl

both_sides_kept : skips both_needed (bounds 0 9) (bounds 0 8) ≡ false
unfolding node reduce_balanced
both_sides_kept = refl

abbrev either_enough : Tree Place
either_enough = binary Or (binary Eq a (lit 3)) (binary Gt b (lit 7))

either_read_once : is_read_once either_enough ≡ true
either_read_once = refl

one_side_kept : skips either_enough (bounds 0 9) (bounds 0 7) ≡ false
unfolding node reduce_balanced
one_side_kept = refl

neither_side_skipped : skips either_enough (bounds 4 9) (bounds 0 7) ≡ true
unfolding node reduce_balanced
neither_side_skipped = refl

-- ---- ranges

abbrev range : Tree Place
range = between closed_ends a (lit 10) (lit 50)

range_read_once : is_read_once range ≡ true
range_read_once = refl

range_skipped : skips range (bounds 51 60) [] ≡ true
unfolding node reduce_balanced
range_skipped = refl

range_kept : skips range (bounds 50 60) [] ≡ false
unfolding node reduce_balanced
range_kept = refl

-- ---- strict and crossed ends

abbrev open_ends : BetweenOptions
open_ends = record { lower_strict = Strict; upper_strict = Strict }

abbrev neighbours : Tree Place
neighbours = between open_ends a (lit 3) (lit 4)

neighbours_read_once : is_read_once neighbours ≡ true
neighbours_read_once = refl

neighbours_skipped : skips neighbours (bounds 0 9) [] ≡ true
unfolding node reduce_balanced
neighbours_skipped = refl

abbrev crossed : Tree Place
crossed = between closed_ends a (lit 50) (lit 10)

crossed_read_once : is_read_once crossed ≡ true
crossed_read_once = refl

crossed_skipped : skips crossed (bounds 0 60) [] ≡ true
unfolding node reduce_balanced
crossed_skipped = refl

abbrev one_number : Tree Place
one_number = between open_ends a (lit 3) (lit 5)

one_number_read_once : is_read_once one_number ≡ true
one_number_read_once = refl

one_number_kept : skips one_number (bounds 4 4) [] ≡ false
unfolding node reduce_balanced
one_number_kept = refl

one_number_skipped : skips one_number (bounds 5 9) [] ≡ true
unfolding node reduce_balanced
one_number_skipped = refl

-- ---- a high value that a comparison just misses

abbrev above_ten : Tree Place
above_ten = binary Gt a (lit 10)

above_high_skipped : skips above_ten (bounds 1 10) [] ≡ true
unfolding node reduce_balanced
above_high_skipped = refl

below_high_kept : skips above_ten (bounds 1 11) [] ≡ false
unfolding node reduce_balanced
below_high_kept = refl

-- ---- predicates that are not read-once

repeated_column : is_read_once (binary And (binary Gt a (lit 10)) (binary Lt a (lit 5))) ≡ false
repeated_column = refl

column_with_itself : is_read_once (binary Lt a a) ≡ false
column_with_itself = refl

null_operand : is_read_once (binary Eq a (literal (record { dtype = i64_type; value = None }))) ≡ false
null_operand = refl

truths_between : is_read_once (between open_ends (column (record { index = 0; dtype = dtype.Bool NonNullable })) (bool_literal false) (bool_literal true)) ≡ false
truths_between = refl

null_between : is_read_once (between closed_ends a (lit 50) (literal (record { dtype = i64_type; value = None }))) ≡ false
null_between = refl

negation : is_read_once (not less) ≡ false
negation = refl

null_test : is_read_once (is_null a) ≡ false
null_test = refl

nested_operand : is_read_once (binary Eq (binary Lt a b) (bool_literal true)) ≡ false
nested_operand = refl

-- ---- the law at two rows: its premises can be met, and say what they should

abbrev first_box : Box
first_box = record { low = λ i. if i == 0 then num 5 else num 1; high = λ i. if i == 0 then num 9 else num 5 }

-- no values from 5 to 9 and from 1 to 5 ascend
none_ascend : ¬ IsSatisfiable less first_box 1
unfolding node reduce_balanced
none_ascend = (skipping_is_complete less (truth_type true) (part (bounds 5 9) (bounds 1 5)).chunk.scope (zone_of (part (bounds 5 9) (bounds 1 5))) first_box refl refl some_zone refl refl ((refl, refl), ((refl, refl), tt)) (refl, (refl, tt))).0 refl

-- 5 and 5 are in order
abbrev cell : ScalarValue → Constant
cell v = record { dtype = i64_type; value = Some v }

fives : IsSatisfiable at_most first_box 1
fives = (
  cell (num 5) ∷ cell (num 5) ∷ [],
  (
    record { chosen = num 5; cell = refl; of_type = refl; above_low = refl; below_high = refl },
    (record { chosen = num 5; cell = refl; of_type = refl; above_low = refl; below_high = refl }, tt),
  ),
  refl,
)

-- ---- a box whose low is its high

abbrev fives_box : Box
fives_box = record { low = λ i. num 5; high = λ i. num 5 }

one_value_zone : IsZone (part (bounds 5 5) (bounds 5 5)).chunk.scope (zone_of (part (bounds 5 5) (bounds 5 5)))
one_value_zone = refl

-- two columns of one value, the same, don't differ
none_differ : ¬ IsSatisfiable unequal fives_box 1
unfolding node reduce_balanced
none_differ = (skipping_is_complete unequal (truth_type true) (part (bounds 5 5) (bounds 5 5)).chunk.scope (zone_of (part (bounds 5 5) (bounds 5 5))) fives_box refl refl one_value_zone refl refl ((refl, refl), ((refl, refl), tt)) (refl, (refl, tt))).0 refl

-- and are in order
one_choice : IsSatisfiable at_most fives_box 1
one_choice = (
  cell (num 5) ∷ cell (num 5) ∷ [],
  (
    record { chosen = num 5; cell = refl; of_type = refl; above_low = refl; below_high = refl },
    (record { chosen = num 5; cell = refl; of_type = refl; above_low = refl; below_high = refl }, tt),
  ),
  refl,
)

-- ---- the skipped places are those and no others

abbrev one : PartData
one = part (bounds 5 9) (bounds 1 5)

abbrev one_part : List PartData
one_part = one ∷ []

-- what no values satisfy has to be skipped
less_not_listed : SkipsExactly less one_part [] → ⊥
less_not_listed h = absurd (omega (arith, ((h 0 (zone_of one) first_box refl ((refl, refl), ((refl, refl), tt)) (refl, (refl, tt))).1 none_ascend).1))

-- and what some do may not be
at_most_listed : SkipsExactly at_most one_part (0 ∷ []) → ⊥
at_most_listed h = (h 0 (zone_of one) first_box refl ((refl, refl), ((refl, refl), tt)) (refl, (refl, tt))).0 (0, omega arith, refl) fives

skips_less : (i : ℕ) (z : ZoneData) (box : Box) → slice_get (zones_of one_part) i ≡ Some z → IsBoxIn z.stats less box → IsInOrder less box → Contains (0 ∷ []) i ↔ ¬ IsSatisfiable less box z.rows
unfolding node reduce_balanced
skips_less zero z box there known order =
    let own : zone_of one ≡ z = same_Some (zone_of one) z there in
    let complete : IsTrue (proves_of (falsifier [] less) z.rows (told_values one.chunk.scope z)) ↔ ¬ IsSatisfiable less box z.rows =
    subst (λ (q : ZoneData). IsBoxIn q.stats less box → IsTrue (proves_of (falsifier [] less) q.rows (told_values one.chunk.scope q)) ↔ ¬ IsSatisfiable less box q.rows) own
    (λ k. skipping_is_complete less (truth_type true) one.chunk.scope (zone_of one) box refl refl some_zone refl refl k order) known in (
      λ c. complete.0 (subst (λ (q : ZoneData). proves_of (falsifier [] less) q.rows (told_values one.chunk.scope q) ≡ true) own refl),
      λ n. (0, omega arith, refl),
    )
skips_less (suc i) z box there known order = absurd cc

exactly : SkipsExactly less one_part (0 ∷ [])
exactly = skips_less
