-- Worked rows, found by computation alone: of which parts a satisfier is true by their own statistics, and what a scan makes of them.
use Rattle.std.specs.Prelude.{◌≡◌, ℕ, Bool, true, false, List, [], ◌∷◌, Option, Some, None, pos, codes, refl}
use Rattle.vortex_expr.specs.declared.scalar_fn.StrictComparison.TheVariants.{Strict, NonStrict}
use Rattle.vortex_base.specs.declared.dtype.DType.{DType}
use Rattle.vortex_base.specs.declared.dtype.DType.TheVariants as dtype
use Rattle.vortex_base.specs.declared.types.Nullability.TheVariants.{Nullable, NonNullable}
use Rattle.vortex_expr.specs.declared.scalar_fn.Operator.TheVariants.{Eq, NotEq, Gt, And, Or}
use Rattle.vortex_base.specs.declared.types.PType.TheVariants as ptype
use Rattle.vortex_base.specs.declared.pvalue.PValue.TheVariants as number
use Rattle.vortex_base.specs.declared.scalar_value.ScalarValue.{ScalarValue}
use Rattle.vortex_base.specs.declared.scalar_value.ScalarValue.TheVariants as value
use Rattle.vortex_expr.specs.Patterns.Like.{plain}
use Rattle.vortex_expr.specs.Trees.Tree.{Tree, Place, column, literal, binary, between, is_null, like}
use Rattle.vortex_prune.specs.Binding.PartAnswers.{part_values}
use Rattle.vortex_prune.specs.Part.{PartData}
use Rattle.vortex_zone_map.specs.Zone.{Entries}
use Rattle.vortex_rewrite.specs.Rewriting.Falsifiers.{falsifier, node, reduce_balanced, satisfier}
use Rattle.vortex_prune.specs.Scanning.Selection.{Answered, full, is_proved, selected_rows, skipped_parts, tested_rows, verdict, whole_parts}
use Rattle.vortex_prune.specs.declared.scan.verdict.Verdict.TheVariants.{Skipped}
use Rattle.vortex_stats.specs.declared.precision.Precision.TheVariants.{Exact, Inexact}
use Rattle.vortex_stats.specs.declared.stat.Stat.TheVariants.{Max, Min, NullCount}
use Rattle.vortex_stats.specs.Sets.Claims.{count_value}

abbrev i32_type : DType
i32_type = dtype.Primitive ptype.I32 Nullable

abbrev num : ℕ → ScalarValue
num n = value.Primitive (number.I32 (pos n))

abbrev a : Tree Place
a = column (record { index = 0; dtype = i32_type })

abbrev s : Tree Place
s = column (record { index = 1; dtype = dtype.Utf8 Nullable })

abbrev lit : ℕ → Tree Place
lit n = literal (record { dtype = dtype.Primitive ptype.I32 NonNullable; value = Some (num n) })

abbrev part : List (Option ScalarValue) → List (Option ScalarValue) → Entries → PartData
part numbers texts known = record {
  chunk = record {
    scope = (codes "a", i32_type) ∷ (codes "s", dtype.Utf8 Nullable) ∷ [];
    columns = record { dtype = i32_type; values = numbers; size = 8 } ∷ record { dtype = dtype.Utf8 Nullable; values = texts; size = 8 } ∷ [];
  };
  stats = known ∷ [] ∷ [];
}

-- two rows of which these statistics are known
abbrev two_rows : Entries → PartData
two_rows known = part (Some (num 20) ∷ Some (num 30) ∷ []) (None ∷ None ∷ []) known

abbrev shows : Tree Place → PartData → Bool
shows p k = is_proved (satisfier [] p) k (part_values k)

abbrev above_ten : Tree Place
above_ten = binary Gt a (lit 10)

abbrev ends_in_x : Tree Place
ends_in_x = like plain s (literal (record { dtype = dtype.Utf8 NonNullable; value = Some (value.Utf8 (codes "%x")) }))

abbrev known_range : Entries
known_range = (Min, Exact (num 20)) ∷ (Max, Exact (num 30)) ∷ (NullCount, Inexact (count_value 0)) ∷ []

nulls_unknown : shows above_ten (two_rows ((Min, Exact (num 20)) ∷ [])) ≡ false
unfolding node reduce_balanced
nulls_unknown = refl

some_null : shows above_ten (two_rows ((Min, Exact (num 20)) ∷ (NullCount, Exact (count_value 1)) ∷ [])) ≡ false
unfolding node reduce_balanced
some_null = refl

no_null : shows above_ten (two_rows ((Min, Exact (num 20)) ∷ (NullCount, Exact (count_value 0)) ∷ [])) ≡ true
unfolding node reduce_balanced
no_null = refl

lower_bound : shows above_ten (two_rows ((Min, Inexact (num 11)) ∷ (NullCount, Exact (count_value 0)) ∷ [])) ≡ true
unfolding node reduce_balanced
lower_bound = refl

at_the_bound : shows above_ten (two_rows ((Min, Exact (num 10)) ∷ (NullCount, Exact (count_value 0)) ∷ [])) ≡ false
unfolding node reduce_balanced
at_the_bound = refl

closed_range : shows (between (record { lower_strict = NonStrict; upper_strict = NonStrict }) a (lit 20) (lit 30)) (two_rows known_range) ≡ true
unfolding node reduce_balanced
closed_range = refl

open_range : shows (between (record { lower_strict = Strict; upper_strict = Strict }) a (lit 19) (lit 31)) (two_rows known_range) ≡ true
unfolding node reduce_balanced
open_range = refl

narrower_range : shows (between (record { lower_strict = Strict; upper_strict = NonStrict }) a (lit 20) (lit 30)) (two_rows known_range) ≡ false
unfolding node reduce_balanced
narrower_range = refl

one_value : shows (binary Eq a (lit 7)) (two_rows ((Min, Exact (num 7)) ∷ (Max, Exact (num 7)) ∷ (NullCount, Exact (count_value 0)) ∷ [])) ≡ true
unfolding node reduce_balanced
one_value = refl

two_values : shows (binary Eq a (lit 7)) (two_rows ((Min, Exact (num 7)) ∷ (Max, Exact (num 8)) ∷ (NullCount, Exact (count_value 0)) ∷ [])) ≡ false
unfolding node reduce_balanced
two_values = refl

other_values_above : shows (binary NotEq a (lit 19)) (two_rows known_range) ≡ true
unfolding node reduce_balanced
other_values_above = refl

other_values_below : shows (binary NotEq a (lit 31)) (two_rows known_range) ≡ true
unfolding node reduce_balanced
other_values_below = refl

within_bounds : shows (binary NotEq a (lit 25)) (two_rows known_range) ≡ false
unfolding node reduce_balanced
within_bounds = refl

either_side : shows (binary Or above_ten ends_in_x) (two_rows known_range) ≡ true
unfolding node reduce_balanced
either_side = refl

one_side : shows (binary And above_ten ends_in_x) (two_rows known_range) ≡ false
unfolding node reduce_balanced
one_side = refl

-- of a part without rows both proofs are true
abbrev no_rows : PartData
no_rows = part [] [] ((NullCount, Exact (count_value 0)) ∷ [])

no_rows_satisfied : shows (is_null a) no_rows ≡ true
unfolding node reduce_balanced
no_rows_satisfied = refl

no_rows_falsified : is_proved (falsifier [] (is_null a)) no_rows (part_values no_rows) ≡ true
unfolding node reduce_balanced
no_rows_falsified = refl

-- so it is skipped
no_rows_verdict : verdict (falsifier [] (is_null a)) (satisfier [] (is_null a)) no_rows (part_values no_rows) ≡ Skipped
unfolding node reduce_balanced
no_rows_verdict = refl

-- ---- a scan of three parts: one is skipped, one is whole, though its statistics aren't true, and of one the rows are tested

abbrev with_answers : PartData → Answered
with_answers p = (p, part_values p)

abbrev three_parts : List Answered
three_parts =
    with_answers (part (Some (num 9) ∷ []) (None ∷ []) ((Max, Inexact (num 10)) ∷ []))
    ∷ with_answers (part (Some (num 1) ∷ None ∷ []) (None ∷ None ∷ []) ((Min, Exact (num 20)) ∷ (NullCount, Exact (count_value 0)) ∷ []))
    ∷ with_answers (part (Some (num 5) ∷ Some (num 30) ∷ None ∷ []) (None ∷ None ∷ None ∷ []) ((Min, Exact (num 5)) ∷ [])) ∷ []

first_skipped : skipped_parts (falsifier [] above_ten) three_parts ≡ 0 ∷ []
unfolding node reduce_balanced
first_skipped = refl

second_whole : whole_parts (falsifier [] above_ten) (satisfier [] above_ten) three_parts ≡ 1 ∷ []
unfolding node reduce_balanced
second_whole = refl

all_and_satisfying : selected_rows (falsifier [] above_ten) (satisfier [] above_ten) above_ten three_parts ≡ (1, 0) ∷ (1, 1) ∷ (2, 1) ∷ []
unfolding node reduce_balanced
all_and_satisfying = refl

rows_of_the_third : tested_rows (falsifier [] above_ten) (satisfier [] above_ten) three_parts ≡ 3
unfolding node reduce_balanced
rows_of_the_third = refl

-- without a satisfier no part is whole, without a falsifier none is skipped
none_whole : whole_parts (falsifier [] above_ten) None three_parts ≡ []
unfolding node reduce_balanced
none_whole = refl

rows_of_two : tested_rows None (satisfier [] above_ten) three_parts ≡ 4
unfolding node reduce_balanced
rows_of_two = refl

-- ---- the full scan has each satisfying row, the first and the last of a part among them

full_scan : full above_ten (part (Some (num 11) ∷ Some (num 5) ∷ Some (num 12) ∷ []) (None ∷ None ∷ None ∷ []) [] ∷ part [] [] [] ∷ part (Some (num 13) ∷ []) (None ∷ []) [] ∷ []) ≡ (0, 0) ∷ (0, 2) ∷ (2, 0) ∷ []
full_scan = refl

-- statistics are no matter to it
full_with_untrue_statistics : full above_ten (part (Some (num 11) ∷ []) (None ∷ []) ((Max, Exact (num 1)) ∷ []) ∷ []) ≡ (0, 0) ∷ []
full_with_untrue_statistics = refl

full_of_no_parts : full above_ten [] ≡ []
full_of_no_parts = refl
