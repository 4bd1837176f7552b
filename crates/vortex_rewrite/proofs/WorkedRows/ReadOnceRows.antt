-- Worked rows: ranges of each type as read-once predicates, columns that occur twice, and boxes, found by computation alone.
use Rattle.std.specs.Prelude.{◌≡◌, ℕ, Bool, true, false, [], ◌∷◌, None, Option, Some, codes, refl}
use Rattle.std.proofs.Common.{ap, subst, sym, ◌∙◌}
use Rattle.std.proofs.lemmas.Option.{same_Some}
use Rattle.vortex_expr.specs.declared.scalar_fn.BetweenOptions.{BetweenOptions}
use Rattle.vortex_expr.specs.declared.scalar_fn.StrictComparison.TheVariants.{Strict, NonStrict}
use Rattle.vortex_base.specs.declared.dtype.DType.{DType}
use Rattle.vortex_base.specs.declared.dtype.DType.TheVariants as dtype
use Rattle.vortex_base.specs.declared.types.Nullability.TheVariants.{Nullable}
use Rattle.vortex_expr.specs.declared.scalar_fn.Operator.TheVariants.{Eq, Gt, And, Or}
use Rattle.vortex_base.specs.declared.types.PType.TheVariants as ptype
use Rattle.vortex_base.specs.declared.pvalue.PValue.TheVariants as number
use Rattle.vortex_base.specs.declared.scalar_value.ScalarValue.{ScalarValue}
use Rattle.vortex_base.specs.declared.scalar_value.ScalarValue.TheVariants as value
use Rattle.vortex_base.specs.Data.Scalars.{Constant}
use Rattle.vortex_base.specs.Data.Values.{is_value, value_cmp}
use Rattle.vortex_expr.specs.Trees.Tree.{Tree, Place, column, literal, binary, between}
use Rattle.vortex_stats.specs.Bounds.Order.{AtMost}
use Rattle.vortex_rewrite.specs.Rewriting.ReadOnce.{Box, IsInOrder, IsSatisfiable, IsWithin, are_apart, has_disjoint_ands, is_read_once}
use mathlib.Core.Bool.{true≢false}

abbrev column_at : ℕ → DType → Tree Place
column_at i t = column (record { index = i; dtype = t })

abbrev lit : DType → ScalarValue → Tree Place
lit t v = literal (record { dtype = t; value = Some v })

-- a BETWEEN of a column of this type, from the one value to the other
abbrev range : DType → BetweenOptions → (lower upper : ScalarValue) → Tree Place
range t o l u = between o (column_at 0 t) (lit t l) (lit t u)

abbrev closed : BetweenOptions
closed = record { lower_strict = NonStrict; upper_strict = NonStrict }

abbrev open_below : BetweenOptions
open_below = record { lower_strict = Strict; upper_strict = NonStrict }

abbrev open_above : BetweenOptions
open_above = record { lower_strict = NonStrict; upper_strict = Strict }

abbrev open_both : BetweenOptions
open_both = record { lower_strict = Strict; upper_strict = Strict }

-- ---- numbers: any ends

abbrev byte_type : DType
byte_type = dtype.Primitive ptype.U8 Nullable

abbrev byte : ℕ → ScalarValue
byte n = value.Primitive (number.U8 n)

open_bytes : is_read_once (range byte_type open_both (byte 3) (byte 9)) ≡ true
open_bytes = refl

-- ---- texts, bytes and truths: one end at least lets its own value through

abbrev texts : BetweenOptions → Bool
texts o = is_read_once (range (dtype.Utf8 Nullable) o (value.Utf8 (codes "a")) (value.Utf8 (codes "b")))

closed_texts : texts closed ≡ true
closed_texts = refl

texts_open_below : texts open_below ≡ true
texts_open_below = refl

texts_open_above : texts open_above ≡ true
texts_open_above = refl

open_texts : texts open_both ≡ false
open_texts = refl

abbrev binary_range : BetweenOptions → Bool
binary_range o = is_read_once (range (dtype.Binary Nullable) o (value.Binary (0 ∷ [])) (value.Binary (1 ∷ [])))

closed_binary : binary_range closed ≡ true
closed_binary = refl

binary_open_below : binary_range open_below ≡ true
binary_open_below = refl

binary_open_above : binary_range open_above ≡ true
binary_open_above = refl

open_binary : binary_range open_both ≡ false
open_binary = refl

abbrev truths : BetweenOptions → Bool
truths o = is_read_once (range (dtype.Bool Nullable) o (value.Bool false) (value.Bool true))

closed_truths : truths closed ≡ true
closed_truths = refl

truths_open_below : truths open_below ≡ true
truths_open_below = refl

truths_open_above : truths open_above ≡ true
truths_open_above = refl

open_truths : truths open_both ≡ false
open_truths = refl

-- ---- a column that occurs twice, side by side or not

abbrev above : ℕ → ℕ → Tree Place
above i n = binary Gt (column_at i byte_type) (lit byte_type (byte n))

three_columns : is_read_once (binary And (above 0 1) (binary Or (above 1 2) (above 2 3))) ≡ true
three_columns = refl

first_and_last : is_read_once (binary And (above 0 1) (binary Or (above 1 2) (above 0 3))) ≡ false
first_and_last = refl

last_two : is_read_once (binary And (above 0 1) (binary Or (above 1 2) (above 1 3))) ≡ false
last_two = refl

with_a_range : is_read_once (binary Or (range byte_type closed (byte 3) (byte 9)) (above 0 20)) ≡ false
with_a_range = refl

-- the same place with another type is the same column
other_type : is_read_once (binary And (above 0 1) (range (dtype.Bool Nullable) closed (value.Bool false) (value.Bool true))) ≡ false
other_type = refl

-- ---- the sides of an AND, and those of an OR

or_shares : has_disjoint_ands (binary Or (range byte_type closed (byte 3) (byte 9)) (above 0 20)) ≡ true
or_shares = refl

and_shares : has_disjoint_ands (binary And (range byte_type closed (byte 3) (byte 9)) (above 0 20)) ≡ false
and_shares = refl

-- the OR's two sides share the second column with one another, not with the AND's other side
or_within_and : has_disjoint_ands (binary And (above 0 1) (binary Or (above 1 2) (above 1 3))) ≡ true
or_within_and = refl

deep_in_the_right : has_disjoint_ands (binary And (above 0 1) (binary Or (above 1 2) (above 0 3))) ≡ false
deep_in_the_right = refl

deep_in_the_left : has_disjoint_ands (binary And (binary Or (above 1 2) (above 0 3)) (above 0 1)) ≡ false
deep_in_the_left = refl

-- an AND on either side of an OR
and_left_of_or : has_disjoint_ands (binary Or (binary And (above 0 1) (above 0 3)) (above 1 2)) ≡ false
and_left_of_or = refl

and_right_of_or : has_disjoint_ands (binary Or (above 1 2) (binary And (above 0 1) (above 0 3))) ≡ false
and_right_of_or = refl

ands_of_one_or : has_disjoint_ands (binary Or (binary And (above 0 1) (above 1 2)) (binary And (above 0 3) (above 1 4))) ≡ true
ands_of_one_or = refl

-- a comparison has a column once
twice_in_a_leaf : has_disjoint_ands (binary Gt (column_at 0 byte_type) (column_at 0 byte_type)) ≡ false
twice_in_a_leaf = refl

-- and what isn't simple isn't so
not_simple : has_disjoint_ands (column_at 0 (dtype.Bool Nullable)) ≡ false
not_simple = refl

second_apart : are_apart ((record { index = 0; dtype = byte_type }) ∷ (record { index = 1; dtype = byte_type }) ∷ []) ((record { index = 2; dtype = byte_type }) ∷ (record { index = 1; dtype = byte_type }) ∷ []) ≡ false
second_apart = refl

-- ---- a box whose low is its high has that value, and no other

abbrev is_five : Tree Place
is_five = binary Eq (column_at 0 byte_type) (lit byte_type (byte 5))

abbrev box_at : ℕ → Box
box_at n = record { low = λ i. byte n; high = λ i. byte n }

in_order : IsInOrder is_five (box_at 5)
in_order = (refl, tt)

abbrev cell : ℕ → Constant
cell n = record { dtype = byte_type; value = Some (byte n) }

the_value : IsSatisfiable is_five (box_at 5) 1
the_value = (cell 5 ∷ [], (record { chosen = byte 5; cell = refl; of_type = refl; above_low = refl; below_high = refl }, tt), refl)

-- a value below it isn't within it, nor one above
below_it : IsWithin (box_at 5) (cell 4 ∷ []) (record { index = 0; dtype = byte_type }) → ⊥
below_it h = true≢false (subst (λ (v : ScalarValue). AtMost value_cmp (byte 5) v) (sym (same_Some (byte 4) h.chosen h.cell)) h.above_low)

above_it : IsWithin (box_at 5) (cell 6 ∷ []) (record { index = 0; dtype = byte_type }) → ⊥
above_it h = true≢false (subst (λ (v : ScalarValue). AtMost value_cmp v (byte 5)) (sym (same_Some (byte 6) h.chosen h.cell)) h.below_high)

-- nor a value of another type, nor none
of_another_type : IsWithin (box_at 5) (record { dtype = byte_type; value = Some (value.Bool true) } ∷ []) (record { index = 0; dtype = byte_type }) → ⊥
of_another_type h = true≢false (sym (ap (λ (v : ScalarValue). is_value v byte_type) (same_Some (value.Bool true) h.chosen h.cell) ∙ h.of_type))

-- no cell
abbrev none_there : Option ScalarValue
none_there = None

no_value : IsWithin (box_at 5) [] (record { index = 0; dtype = byte_type }) → ⊥
no_value h = let missing : none_there ≡ Some h.chosen = h.cell in cc
