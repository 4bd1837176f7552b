-- What a zone says of its cells when its null counts are known, and the predicates for which pruning by that misses nothing.
use Rattle.std.specs.Prelude.{◌≡◌, ◌≢◌, ◌==◌, ◌<◌, ◌⊎◌, ℕ, Bool, true, false, not as not_b, ◌&&◌, ◌||◌, List, Option, Some, None, IsTrue, MatchOption, Contains, is_none, slice_get}
use Rattle.std.specs.List.{AllByRecursion}
use Rattle.vortex_base.specs.Data.Columns.{cell_value}
use Rattle.vortex_base.specs.Data.Scalars.{Constant}
use Rattle.vortex_base.specs.Data.Values.{is_value, value_cmp}
use Rattle.vortex_base.specs.declared.dtype.DType.{DType}
use Rattle.vortex_base.specs.declared.scalar_value.ScalarValue.{ScalarValue}
use Rattle.vortex_expr.specs.Meanings.Meaning.{compared, is_true, satisfies, truth_value}
use Rattle.vortex_expr.specs.Trees.Between.{to_operator}
use Rattle.vortex_expr.specs.Trees.Tree.{Tree, Place, column, literal, binary, between, is_null, is_not_null}
use Rattle.vortex_expr.specs.declared.scalar_fn.Operator.{Operator}
use Rattle.vortex_expr.specs.declared.scalar_fn.Operator.TheVariants.{Eq, NotEq, Gt, Gte, Lt, Lte, And, Or}
use Rattle.vortex_normal.specs.Strict.{narrow_test, strict_test}
use Rattle.vortex_predicates.specs.Pruning.{IsTestForm, is_test_within}
use Rattle.vortex_zone_map.specs.StatValues.{null_count_value}
use Rattle.vortex_zone_map.specs.Zone.{Entries, ZoneData}
use Rattle.vortex_rewrite.specs.Rewriting.ReadOnce.{Box, are_sides_apart, columns_of, is_operand, is_range, is_simple_binary, is_truth}
use Rattle.vortex_stats.specs.Bounds.Order.{AtMost}
use Rattle.vortex_stats.specs.Precision.{present_value}
use Rattle.vortex_stats.specs.Sets.Claims.{count_value}
use Rattle.vortex_stats.specs.Sets.Entries.{entry_value}
use Rattle.vortex_stats.specs.declared.stat.Stat.{Stat}
use Rattle.vortex_stats.specs.declared.stat.Stat.TheVariants.{Max, Min, NullCount}

-- ---- the cells of a zone

-- the least and the greatest value at each place, and how many cells are null there
pub record NullBox : Type 0 where
  pub bounds : Box
  pub nulls : ℕ → ℕ

-- a column of n cells may hold the value: some cell isn't null, and the value is of the column's type and within its bounds
pub record IsPossibleValue (box : NullBox) (n : ℕ) (c : Place) (v : ScalarValue) : Type 0 where
  pub valued : box.nulls c.index ≢ n
  pub of_type : is_value v c.dtype ≡ true
  pub above_low : AtMost value_cmp (box.bounds.low c.index) v
  pub below_high : AtMost value_cmp v (box.bounds.high c.index)

-- a column may hold null where some cell is null, and a possible value
abbrev pub IsPossibleCell : NullBox → (n : ℕ) → Place → Option ScalarValue → Type 0
IsPossibleCell box n c None = box.nulls c.index ≢ 0
IsPossibleCell box n c (Some v) = IsPossibleValue box n c v

-- each column of the predicate may hold the row's cell
abbrev pub IsPossibleRow : NullBox → (n : ℕ) → Tree Place → List Constant → Type 0
IsPossibleRow box n p row = AllByRecursion (λ c. IsPossibleCell box n c (cell_value (slice_get row c.index))) (columns_of p)

-- some possible row satisfies the predicate
abbrev pub IsPossible : Tree Place → NullBox → (n : ℕ) → Type 0
IsPossible p box n = (row : List Constant) × IsPossibleRow box n p row × IsTrue (satisfies p row n)

-- each possible row does
abbrev pub IsCertain : Tree Place → NullBox → (n : ℕ) → Type 0
IsCertain p box n = (row : List Constant) → IsPossibleRow box n p row → IsTrue (satisfies p row n)

-- ---- bounds of a zone that aren't known

-- a side of a box is the bound of the set; where it has none, it's a value of the type
abbrev pub IsSide : (known : Option ScalarValue) → DType → ScalarValue → Type 0
IsSide None t v = is_value v t ≡ true
IsSide (Some bound) t v = bound ≡ v

-- a set has no such bound
abbrev pub lacks : Stat → Option Entries → Bool
lacks s None = true
lacks s (Some es) = is_none (present_value (entry_value s es))

-- the least value of an operand in a box, and the greatest
abbrev pub low_of : Box → Tree Place → Option ScalarValue
low_of box (column c) = Some (box.low c.index)
low_of box (literal c) = c.value
low_of box e = None

abbrev pub high_of : Box → Tree Place → Option ScalarValue
high_of box (column c) = Some (box.high c.index)
high_of box (literal c) = c.value
high_of box e = None

module _ (zone : ZoneData) (box : NullBox) where
  -- an operand is a column without such a bound
  abbrev pub is_open : Stat → Tree Place → Bool
  is_open s (column c) = lacks s (slice_get zone.stats c.index)
  is_open s e = false

  -- an operand isn't a column of nulls alone
  abbrev pub has_values : Tree Place → Bool
  has_values (column c) = not_b (box.nulls c.index == zone.rows)
  has_values e = true

  -- of two operands with values, the lower bound of the first or the upper one of the second isn't known
  abbrev pub is_either_open : (x y : Tree Place) → Bool
  is_either_open x y = (has_values x && has_values y) && (is_open Min x || is_open Max y)

  -- the least value of the first and the greatest of the second compare so
  abbrev pub is_met : Operator → (x y : Tree Place) → Bool
  is_met o x y = is_true (truth_value (compared o (low_of box.bounds x) (high_of box.bounds y)))

  abbrev pub is_met_if_open : Operator → (x y : Tree Place) → Bool
  is_met_if_open o x y = not_b (is_either_open x y) || is_met o x y

  -- where a comparison reads a bound that isn't known, the sides of the box let it hold
  abbrev pub is_let_hold : Operator → (l r : Tree Place) → (sides : Bool) → Bool
  is_let_hold And l r sides = sides
  is_let_hold Or l r sides = sides
  is_let_hold Lt l r sides = is_met_if_open Lt l r
  is_let_hold Lte l r sides = is_met_if_open Lte l r
  is_let_hold Gt l r sides = is_met_if_open Lt r l
  is_let_hold Gte l r sides = is_met_if_open Lte r l
  is_let_hold Eq l r sides = is_met_if_open Lte l r && is_met_if_open Lte r l
  is_let_hold NotEq l r sides = not_b (is_either_open l r || is_either_open r l) || (is_met NotEq l r || is_met NotEq r l)

  -- so at each comparison of a test, of which a range has two
  abbrev pub goes_far : (test : Tree Place) → Bool
  goes_far (binary o l r) = is_let_hold o l r (goes_far l && goes_far r)
  goes_far (between o x l u) = is_met_if_open (to_operator o.lower_strict) l x && is_met_if_open (to_operator o.upper_strict) x u
  goes_far e = true

-- ---- the box of a zone

-- the set of a column of n cells has the null count, and unless every cell is null the sides are its bounds where it has them, in order
pub record IsNullKnownBy (box : NullBox) (n : ℕ) (c : Place) (es : Entries) : Type 0 where
  pub nulls : null_count_value (entry_value NullCount es) ≡ Some (count_value (box.nulls c.index))
  pub low : box.nulls c.index ≢ n → IsSide (present_value (entry_value Min es)) c.dtype (box.bounds.low c.index)
  pub high : box.nulls c.index ≢ n → IsSide (present_value (entry_value Max es)) c.dtype (box.bounds.high c.index)
  pub order : box.nulls c.index ≢ n → AtMost value_cmp (box.bounds.low c.index) (box.bounds.high c.index)

-- the zone has rows, its statistics have so much of each column of the predicate, and where they lack a bound the box goes far enough for the test by which pruning decides
pub record IsNullBoxOf (zone : ZoneData) (p test : Tree Place) (box : NullBox) : Type 0 where
  pub rows : 0 < zone.rows
  pub known : AllByRecursion (λ c. MatchOption (slice_get zone.stats c.index) ⊥ (IsNullKnownBy box zone.rows c)) (columns_of p)
  pub far : IsTrue (goes_far zone box test)

-- ---- what pruning finds by such boxes

-- a zone is skipped if no possible row satisfies the predicate
abbrev pub SkipsImpossible : Tree Place → List ZoneData → (skipped : List ℕ) → Type 0
SkipsImpossible p zones skipped =
    (i : ℕ) (zone : ZoneData) (box : NullBox) → slice_get zones i ≡ Some zone → IsNullBoxOf zone p (narrow_test true false p) box → ¬ IsPossible p box zone.rows → Contains skipped i

-- a zone is skipped or whole if each possible row satisfies it
abbrev pub FindsCertain : Tree Place → List ZoneData → (skipped whole : List ℕ) → Type 0
FindsCertain p zones skipped whole =
    (i : ℕ) (zone : ZoneData) (box : NullBox) → slice_get zones i ≡ Some zone → IsNullBoxOf zone p (narrow_test false true p) box → IsCertain p box zone.rows → Contains skipped i ⊎ Contains whole i

-- ---- the predicates

abbrev pub is_a_column : Tree Place → Bool
is_a_column (column c) = true
is_a_column e = false

-- a tree of AND and OR over comparisons of columns and literals, truths, ranges of a column and null tests of columns
abbrev pub is_simple_or_null : Tree Place → Bool
is_simple_or_null (literal c) = is_truth c.value
is_simple_or_null (binary o l r) = is_simple_binary o (is_simple_or_null l && is_simple_or_null r) (is_operand l && is_operand r)
is_simple_or_null (between o x l u) = is_range o x l u
is_simple_or_null (is_null x) = is_a_column x
is_simple_or_null (is_not_null x) = is_a_column x
is_simple_or_null e = false

-- in which the sides of no AND share a column, and no comparison has one twice
abbrev pub is_null_apart : Tree Place → Bool
is_null_apart q = is_simple_or_null q && are_sides_apart q

-- the narrowed test of a predicate's truth is such a tree, and not deeper than so many levels
abbrev pub is_null_decided : (levels : Option ℕ) → (wanted with_null : Bool) → Tree Place → Bool
is_null_decided levels w m p = is_test_within levels w m p && is_null_apart (narrow_test w m p)

-- the strict tests of a predicate's truth that have no more than so many levels are forms of it
pub record HasTestForms (levels : Option ℕ) (p : Tree Place) : Type 0 where
  pub true_form : IsTrue (is_test_within levels true false p) → IsTestForm true false p (strict_test true false p)
  pub untrue_form : IsTrue (is_test_within levels false true p) → IsTestForm false true p (strict_test false true p)
