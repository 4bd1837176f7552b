-- Worked predicates and zones whose null counts are known.
use Rattle.std.specs.Prelude.{◌≡◌, ◌==◌, ℕ, zero, suc, Bool, false, true, List, [], ◌∷◌, None, Some, codes, if◌then◌else◌}
use Rattle.vortex_base.specs.Data.Scopes.{Named}
use Rattle.vortex_base.specs.declared.pvalue.PValue.TheVariants as number
use Rattle.vortex_base.specs.declared.scalar_value.ScalarValue.{ScalarValue}
use Rattle.vortex_base.specs.declared.scalar_value.ScalarValue.TheVariants as value
use Rattle.vortex_expr.specs.Trees.Tree.{Tree, Place, binary, is_not_null, is_null, not}
use Rattle.vortex_expr.specs.declared.scalar_fn.Operator.TheVariants.{Eq, Gt, Gte, Lt, Lte, NotEq}
use Rattle.vortex_normal.specs.Worked.{a, all, any, b, byte, byte_literal, compare, like_of, open_range, range}
use Rattle.vortex_predicates.specs.NullBoxes.{NullBox, goes_far, is_null_decided}
use Rattle.vortex_predicates.specs.Pruning.{skip_proof, whole_proof}
use Rattle.vortex_prune.specs.Binding.PartAnswers.{told_values}
use Rattle.vortex_zone_map.specs.Zone.{Entries, ZoneData}
use Rattle.vortex_prune.specs.Scanning.Selection.{proves_of}
use Rattle.vortex_stats.specs.Sets.Claims.{count_value}
use Rattle.vortex_stats.specs.declared.precision.Precision.TheVariants.{Exact}
use Rattle.vortex_stats.specs.declared.stat.Stat.TheVariants.{Max, Min, NullCount}

-- ---- which predicates

-- pruning skips all that it could, and finds whole or skips all that it could
abbrev pub skips_all : Tree Place → Bool
skips_all p = is_null_decided None true false p

abbrev pub finds_all : Tree Place → Bool
finds_all p = is_null_decided None false true p

abbrev pub above : Tree Place
above = compare Gt a 5

abbrev pub b_above : Tree Place
b_above = compare Gt b 3

pub record NullExamples : Type 0 where
  pub comparison : skips_all above ≡ true
  pub or_null : skips_all (any above (is_null a)) ≡ true
  pub or_value : skips_all (any above (is_not_null a)) ≡ true
  pub null_and_other : skips_all (all (is_null a) b_above) ≡ true
  pub negated : skips_all (not above) ≡ true
  pub null_of_comparison : skips_all (is_null above) ≡ true
  pub of_columns : skips_all (binary Lt a b) ≡ true
  pub ranged : skips_all (all (compare Gt a 3) (compare Lt a 9)) ≡ true
  pub pattern : skips_all (like_of true (codes "a_b")) ≡ false
  pub shared : skips_all (all (any above b_above) (any (compare Lt a 2) (is_null b))) ≡ false
  pub too_deep : is_null_decided (Some 0) true false (all above b_above) ≡ false
  pub whole_comparison : finds_all above ≡ true
  pub whole_or_null : finds_all (any above (is_null a)) ≡ true
  pub whole_and : finds_all (all above b_above) ≡ true
  pub whole_or : finds_all (any above b_above) ≡ true
  pub whole_of_columns : finds_all (binary Lt a b) ≡ true
  pub whole_pattern : finds_all (like_of true (codes "a_b")) ≡ false

-- ---- which zones

abbrev pub byte_value : ℕ → ScalarValue
byte_value n = value.Primitive (number.U8 n)

abbrev pub with_bounds : (least greatest nulls : ℕ) → Entries
with_bounds least greatest nulls = (Max, Exact (byte_value greatest)) ∷ (Min, Exact (byte_value least)) ∷ (NullCount, Exact (count_value nulls)) ∷ []

abbrev pub nulls_alone : ℕ → Entries
nulls_alone nulls = (NullCount, Exact (count_value nulls)) ∷ []

abbrev pub two_columns : List Named
two_columns = (codes "a", byte) ∷ (codes "b", byte) ∷ []

-- three rows of two columns
abbrev pub three_rows : (of_a of_b : Entries) → ZoneData
three_rows x y = record { rows = 3; stats = x ∷ y ∷ [] }

abbrev pub skips : Tree Place → ZoneData → Bool
skips p zone = proves_of (skip_proof [] None p) zone.rows (told_values two_columns zone)

abbrev pub is_all : Tree Place → ZoneData → Bool
is_all p zone = proves_of (whole_proof [] None p) zone.rows (told_values two_columns zone)

abbrev pub other : Entries
other = with_bounds 0 9 0

pub record NullZoneExamples : Type 0 where
  -- a comparison over nulls alone, and over values beside a null
  pub all_null : skips above (three_rows (nulls_alone 3) other) ≡ true
  pub some_null : skips above (three_rows (with_bounds 2 5 1) other) ≡ true
  pub some_above : skips above (three_rows (with_bounds 2 6 1) other) ≡ false
  -- a null satisfies a null test
  pub no_null : skips (any above (is_null a)) (three_rows (with_bounds 2 5 0) other) ≡ true
  pub one_null : skips (any above (is_null a)) (three_rows (with_bounds 2 5 1) other) ≡ false
  pub null_and_low : skips (all (is_null a) b_above) (three_rows (with_bounds 2 5 1) (with_bounds 0 3 0)) ≡ true
  pub none_null_and_high : skips (all (is_null a) b_above) (three_rows (with_bounds 2 5 0) other) ≡ true
  pub null_and_high : skips (all (is_null a) b_above) (three_rows (with_bounds 2 5 1) other) ≡ false
  -- NOT of a comparison isn't satisfied by null
  pub not_above : skips (not above) (three_rows (with_bounds 6 9 1) other) ≡ true
  pub not_above_null : skips (not above) (three_rows (nulls_alone 3) other) ≡ true
  -- a null keeps a zone from being whole
  pub whole : is_all (compare Gte a 2) (three_rows (with_bounds 2 5 0) other) ≡ true
  pub not_whole : is_all (compare Gte a 2) (three_rows (with_bounds 2 5 1) other) ≡ false
  pub whole_with_null : is_all (any (compare Gte a 2) (is_null a)) (three_rows (with_bounds 2 5 1) other) ≡ true
  pub whole_of_nulls : is_all (is_null above) (three_rows (nulls_alone 3) other) ≡ true

-- ---- zones that lack a bound

abbrev pub least_alone : (least nulls : ℕ) → Entries
least_alone least nulls = (Min, Exact (byte_value least)) ∷ (NullCount, Exact (count_value nulls)) ∷ []

abbrev pub greatest_alone : (greatest nulls : ℕ) → Entries
greatest_alone greatest nulls = (Max, Exact (byte_value greatest)) ∷ (NullCount, Exact (count_value nulls)) ∷ []

abbrev pub a_below_b : Tree Place
a_below_b = binary Lt a b

pub record OneSidedExamples : Type 0 where
  -- a greatest value alone tells where values are to be above
  pub above_all : skips above (three_rows (greatest_alone 5 0) other) ≡ true
  pub above_some : skips above (three_rows (greatest_alone 6 0) other) ≡ false
  pub above_unknown : skips above (three_rows (least_alone 2 0) other) ≡ false
  pub at_least_all : skips (compare Gte a 5) (three_rows (greatest_alone 4 0) other) ≡ true
  pub at_least_some : skips (compare Gte a 5) (three_rows (greatest_alone 5 0) other) ≡ false
  -- and a least one where they are to be below
  pub below_all : skips (compare Lt a 5) (three_rows (least_alone 5 0) other) ≡ true
  pub below_some : skips (compare Lt a 5) (three_rows (least_alone 4 0) other) ≡ false
  pub below_unknown : skips (compare Lt a 5) (three_rows (greatest_alone 9 0) other) ≡ false
  pub at_most_all : skips (compare Lte a 5) (three_rows (least_alone 6 0) other) ≡ true
  pub at_most_some : skips (compare Lte a 5) (three_rows (least_alone 5 0) other) ≡ false
  -- either where they are to be equal, and both where they are to differ
  pub equal_below : skips (compare Eq a 5) (three_rows (least_alone 6 0) other) ≡ true
  pub equal_above : skips (compare Eq a 5) (three_rows (greatest_alone 4 0) other) ≡ true
  pub equal_least : skips (compare Eq a 5) (three_rows (least_alone 5 0) other) ≡ false
  pub equal_greatest : skips (compare Eq a 5) (three_rows (greatest_alone 5 0) other) ≡ false
  pub differ_both : skips (compare NotEq a 5) (three_rows (with_bounds 5 5 0) other) ≡ true
  pub differ_least : skips (compare NotEq a 5) (three_rows (least_alone 5 0) other) ≡ false
  pub differ_greatest : skips (compare NotEq a 5) (three_rows (greatest_alone 5 0) other) ≡ false
  -- neither is known
  pub none_known : skips above (three_rows (nulls_alone 0) other) ≡ false
  pub none_known_below : skips (compare Lt a 5) (three_rows (nulls_alone 0) other) ≡ false
  pub none_known_equal : skips (compare Eq a 5) (three_rows (nulls_alone 0) other) ≡ false
  pub none_known_differ : skips (compare NotEq a 5) (three_rows (nulls_alone 0) other) ≡ false
  pub none_known_but_null : skips (is_null a) (three_rows (nulls_alone 0) other) ≡ true
  pub none_known_but_values : skips (is_not_null a) (three_rows (nulls_alone 2) other) ≡ false
  pub none_known_of_nulls : skips (is_not_null a) (three_rows (nulls_alone 3) other) ≡ true
  pub null_unread : skips (any above (is_null a)) (three_rows (greatest_alone 5 0) other) ≡ true
  pub null_satisfies : skips (any above (is_null a)) (three_rows (greatest_alone 5 1) other) ≡ false
  -- two columns, and a range
  pub columns_apart : skips a_below_b (three_rows (least_alone 5 0) (greatest_alone 5 0)) ≡ true
  pub columns_meet : skips a_below_b (three_rows (least_alone 5 0) (greatest_alone 6 0)) ≡ false
  pub first_unknown : skips a_below_b (three_rows (greatest_alone 9 0) (greatest_alone 5 0)) ≡ false
  pub second_unknown : skips a_below_b (three_rows (least_alone 5 0) (least_alone 5 0)) ≡ false
  pub range_below : skips (range 3 8) (three_rows (least_alone 9 0) other) ≡ true
  pub range_above : skips (range 3 8) (three_rows (greatest_alone 2 0) other) ≡ true
  pub range_reached : skips (range 3 8) (three_rows (least_alone 8 0) other) ≡ false
  pub range_reached_from_below : skips (range 3 8) (three_rows (greatest_alone 3 0) other) ≡ false
  -- whole zones by a least value
  pub all_above : is_all above (three_rows (least_alone 6 0) other) ≡ true
  pub not_all_above : is_all above (three_rows (least_alone 5 0) other) ≡ false
  pub all_at_least : is_all (compare Gte a 2) (three_rows (least_alone 2 0) other) ≡ true
  pub not_all_at_least : is_all (compare Gte a 2) (three_rows (least_alone 1 0) other) ≡ false
  pub least_unknown : is_all (compare Gte a 2) (three_rows (greatest_alone 9 0) other) ≡ false
  pub all_differ_above : is_all (compare NotEq a 5) (three_rows (least_alone 6 0) other) ≡ true
  pub not_all_differ : is_all (compare NotEq a 5) (three_rows (least_alone 5 0) other) ≡ false
  -- and by a greatest one
  pub all_below : is_all (compare Lt a 5) (three_rows (greatest_alone 4 0) other) ≡ true
  pub not_all_below : is_all (compare Lt a 5) (three_rows (greatest_alone 5 0) other) ≡ false
  pub all_at_most : is_all (compare Lte a 5) (three_rows (greatest_alone 5 0) other) ≡ true
  pub not_all_at_most : is_all (compare Lte a 5) (three_rows (greatest_alone 6 0) other) ≡ false
  pub greatest_unknown : is_all (compare Lte a 5) (three_rows (least_alone 2 0) other) ≡ false
  pub all_differ_below : is_all (compare NotEq a 5) (three_rows (greatest_alone 4 0) other) ≡ true
  pub all_but_null : is_all (compare Lt a 5) (three_rows (greatest_alone 4 1) other) ≡ false
  pub all_or_null : is_all (any (compare Lt a 5) (is_null a)) (three_rows (greatest_alone 4 1) other) ≡ true
  -- by both alone, of two columns, and by no bound
  pub all_equal : is_all (compare Eq a 5) (three_rows (with_bounds 5 5 0) other) ≡ true
  pub least_equal : is_all (compare Eq a 5) (three_rows (least_alone 5 0) other) ≡ false
  pub greatest_equal : is_all (compare Eq a 5) (three_rows (greatest_alone 5 0) other) ≡ false
  pub all_in_range : is_all (range 3 8) (three_rows (with_bounds 3 8 0) other) ≡ true
  pub least_in_range : is_all (range 3 8) (three_rows (least_alone 3 0) other) ≡ false
  pub greatest_in_range : is_all (range 3 8) (three_rows (greatest_alone 8 0) other) ≡ false
  pub all_in_order : is_all a_below_b (three_rows (greatest_alone 4 0) (least_alone 5 0)) ≡ true
  pub not_all_in_order : is_all a_below_b (three_rows (greatest_alone 5 0) (least_alone 5 0)) ≡ false
  pub order_unknown : is_all a_below_b (three_rows (least_alone 4 0) (greatest_alone 5 0)) ≡ false
  pub values_alone : is_all (is_not_null a) (three_rows (nulls_alone 0) other) ≡ true
  pub above_none_known : is_all above (three_rows (nulls_alone 0) other) ≡ false

-- ---- boxes that go far enough

abbrev pub of_column : (of_a of_b : ℕ) → ℕ → ScalarValue
of_column x y zero = byte_value x
of_column x y (suc i) = byte_value y

-- without nulls, the first column from the first of these to the second, and the other one from the third to the last
abbrev pub sides : (low_a high_a low_b high_b : ℕ) → NullBox
sides low_a high_a low_b high_b = record { bounds = record { low = of_column low_a low_b; high = of_column high_a high_b }; nulls = λ i. 0 }

-- the other column's bounds are known
abbrev pub is_far : Tree Place → (of_a : Entries) → (low high : ℕ) → Bool
is_far test x low high = goes_far (three_rows x other) (sides low high 0 9) test

abbrev pub are_far : (of_a of_b : Entries) → (low_a high_a low_b high_b : ℕ) → Bool
are_far x y low_a high_a low_b high_b = goes_far (three_rows x y) (sides low_a high_a low_b high_b) a_below_b

-- the first column has no null, and the other one is null in each of three rows
abbrev pub beside_nulls : NullBox
beside_nulls = record { bounds = record { low = λ i. byte_value 9; high = λ i. byte_value 9 }; nulls = λ i. if i == 1 then 3 else 0 }

pub record FarExamples : Type 0 where
  -- without a greatest value
  pub above_past : is_far above (least_alone 2 0) 2 6 ≡ true
  pub above_at : is_far above (least_alone 2 0) 2 5 ≡ false
  pub at_least_at : is_far (compare Gte a 5) (least_alone 2 0) 2 5 ≡ true
  pub at_least_before : is_far (compare Gte a 5) (least_alone 2 0) 2 4 ≡ false
  pub equal_at : is_far (compare Eq a 5) (least_alone 2 0) 2 5 ≡ true
  pub equal_before : is_far (compare Eq a 5) (least_alone 2 0) 2 4 ≡ false
  pub differ_past : is_far (compare NotEq a 5) (least_alone 5 0) 5 6 ≡ true
  pub differ_at : is_far (compare NotEq a 5) (least_alone 5 0) 5 5 ≡ false
  pub turned_past : is_far (binary Lt (byte_literal 5) a) (least_alone 2 0) 2 6 ≡ true
  pub turned_at : is_far (binary Lt (byte_literal 5) a) (least_alone 2 0) 2 5 ≡ false
  -- without a least one
  pub below_past : is_far (compare Lt a 5) (greatest_alone 9 0) 4 9 ≡ true
  pub below_at : is_far (compare Lt a 5) (greatest_alone 9 0) 5 9 ≡ false
  pub at_most_at : is_far (compare Lte a 5) (greatest_alone 9 0) 5 9 ≡ true
  pub at_most_before : is_far (compare Lte a 5) (greatest_alone 9 0) 6 9 ≡ false
  pub equal_from : is_far (compare Eq a 5) (greatest_alone 9 0) 5 9 ≡ true
  pub equal_after : is_far (compare Eq a 5) (greatest_alone 9 0) 6 9 ≡ false
  pub differ_from : is_far (compare NotEq a 5) (greatest_alone 5 0) 4 5 ≡ true
  pub differ_only : is_far (compare NotEq a 5) (greatest_alone 5 0) 5 5 ≡ false
  -- a bound that is known, or that isn't read, is asked nothing
  pub known : is_far above (with_bounds 2 3 0) 2 3 ≡ true
  pub other_known : is_far (compare Eq a 5) (greatest_alone 3 0) 2 3 ≡ true
  pub unread : is_far above (greatest_alone 3 0) 3 3 ≡ true
  pub null_test : is_far (is_null a) (nulls_alone 0) 9 9 ≡ true
  -- two columns, of which one may hold nulls alone
  pub first_before : are_far (greatest_alone 9 0) other 8 9 0 9 ≡ true
  pub first_at : are_far (greatest_alone 9 0) other 9 9 0 9 ≡ false
  pub second_after : are_far (with_bounds 2 9 0) (least_alone 0 0) 2 9 0 3 ≡ true
  pub second_at : are_far (with_bounds 2 9 0) (least_alone 0 0) 2 9 0 2 ≡ false
  pub both_unread : are_far (least_alone 2 0) (greatest_alone 1 0) 2 2 1 1 ≡ true
  pub nulls_beside : goes_far (three_rows (greatest_alone 9 0) (nulls_alone 3)) beside_nulls a_below_b ≡ true
  -- ranges, whose ends may be open
  pub range_from : is_far (range 3 8) (greatest_alone 9 0) 8 9 ≡ true
  pub range_after : is_far (range 3 8) (greatest_alone 9 0) 9 9 ≡ false
  pub range_up_to : is_far (range 3 8) (least_alone 0 0) 0 3 ≡ true
  pub range_before : is_far (range 3 8) (least_alone 0 0) 0 2 ≡ false
  pub open_from : is_far (open_range 3 8) (greatest_alone 9 0) 7 9 ≡ true
  pub open_at : is_far (open_range 3 8) (greatest_alone 9 0) 8 9 ≡ false
  pub open_up_to : is_far (open_range 3 8) (least_alone 0 0) 0 4 ≡ true
  pub open_before : is_far (open_range 3 8) (least_alone 0 0) 0 3 ≡ false
  -- each side of an AND and of an OR
  pub and_left : is_far (all above b_above) (least_alone 2 0) 2 5 ≡ false
  pub and_right : is_far (all b_above above) (least_alone 2 0) 2 5 ≡ false
  pub or_left : is_far (any above b_above) (least_alone 2 0) 2 5 ≡ false
  pub or_right : is_far (any b_above above) (least_alone 2 0) 2 5 ≡ false
  pub or_both : is_far (any b_above above) (least_alone 2 0) 2 6 ≡ true
