-- Intervals of values between cuts, and sets of values as lists of them.
use Rattle.std.specs.Prelude.{ℕ, Bool, true, false, not as not_b, ◌&&◌, ◌||◌, List, [], ◌∷◌, Option, Some, None, Vec, map, if◌then◌else◌}
use Rattle.std.specs.declared.alloc.Global.{Global}
use Rattle.std.specs.List.{flat_map}
use Rattle.std.specs.Ordering.{is_gt}
use Rattle.vortex_base.specs.declared.dtype.DType.{DType}
use Rattle.vortex_expr.specs.declared.scalar_fn.BetweenOptions.{BetweenOptions}
use Rattle.vortex_expr.specs.declared.scalar_fn.StrictComparison.TheVariants.{Strict, NonStrict}
use Rattle.vortex_expr.specs.declared.scalar_fn.Operator.{Operator}
use Rattle.vortex_expr.specs.declared.scalar_fn.Operator.TheVariants.{Eq, NotEq, Gt, Gte, Lt, Lte, And, Or}
use Rattle.vortex_base.specs.declared.scalar_value.ScalarValue.{ScalarValue}
use Rattle.vortex_base.specs.Data.Values.{value_cmp}
use Rattle.vortex_expr.specs.Trees.Tree.{Tree, Place, column, literal, binary, between, is_null, is_not_null}
use Rattle.vortex_rewrite.specs.Rewriting.Falsifiers.{bool_literal}
use Rattle.vortex_normal.specs.Balanced.{balanced}
use Rattle.vortex_normal.specs.declared.interval.Cut.{Cut as LentCut}
use Rattle.vortex_normal.specs.declared.interval.Cut.TheVariants as lent
use Rattle.vortex_normal.specs.declared.interval.Interval.{Interval as LentInterval}

abbrev pub at_most : ScalarValue → ScalarValue → Bool
at_most x y = not_b (is_gt (value_cmp x y))

-- ---- cuts

-- a place between values, in their order: below all of them, just below a value, just above one, above all
pub data Cut : Type 0 where
  Lowest : Cut
  Before : ScalarValue → Cut
  After : ScalarValue → Cut
  Highest : Cut

-- a cut that lends its value
abbrev pub cut_of : LentCut → Cut
cut_of lent.Lowest = Lowest
cut_of (lent.Before v) = Before v.now
cut_of (lent.After v) = After v.now
cut_of lent.Highest = Highest

-- the value lies above the cut
abbrev pub above : Cut → ScalarValue → Bool
above Lowest v = true
above (Before x) v = at_most x v
above (After x) v = not_b (at_most v x)
above Highest v = false

-- the one cut is at most the other
abbrev pub cut_le : Cut → Cut → Bool
cut_le Lowest d = true
cut_le (Before x) Lowest = false
cut_le (Before x) (Before y) = at_most x y
cut_le (Before x) (After y) = at_most x y
cut_le (Before x) Highest = true
cut_le (After x) Lowest = false
cut_le (After x) (Before y) = not_b (at_most y x)
cut_le (After x) (After y) = at_most x y
cut_le (After x) Highest = true
cut_le Highest Highest = true
cut_le Highest d = false

abbrev pub higher : Cut → Cut → Cut
higher c d = if cut_le c d then d else c

-- ---- intervals

-- the values above one cut and not above another
pub record Interval : Type 0 where
  pub low : Cut
  pub high : Cut

abbrev pub interval_of : LentInterval → Interval
interval_of i = record { low = cut_of i.low; high = cut_of i.high }

-- a set as it is kept
abbrev pub set_of : Vec LentInterval Global → List Interval
set_of is = map interval_of is.items

abbrev pub contains : Interval → ScalarValue → Bool
contains i v = above i.low v && not_b (above i.high v)

abbrev pub interval : Cut → Cut → Interval
interval c d = record { low = c; high = d }

-- no value lies between its cuts, by their order alone
abbrev pub is_empty : Interval → Bool
is_empty i = cut_le i.high i.low

-- ---- sets

abbrev pub in_set : List Interval → ScalarValue → Bool
in_set [] v = false
in_set (i ∷ is) v = contains i v || in_set is v

-- before the first interval that begins no lower
abbrev pub placed : Interval → List Interval → List Interval
placed i [] = i ∷ []
placed i (j ∷ js) = if cut_le i.low j.low then i ∷ j ∷ js else j ∷ placed i js

-- in the order of their low cuts, those that tie as they stood
abbrev pub sorted : List Interval → List Interval
sorted [] = []
sorted (i ∷ is) = placed i (sorted is)

abbrev pub unless_empty : Interval → List Interval → List Interval
unless_empty i is = if is_empty i then is else i ∷ is

-- what intervals in the order of their low cuts leave out above a cut
abbrev pub left_out : Cut → List Interval → List Interval
left_out c [] = unless_empty (interval c Highest) []
left_out c (i ∷ is) = unless_empty (interval c i.low) (left_out (higher c i.high) is)

-- the values that are not in the set, by intervals in order between which there are others
abbrev pub complement : List Interval → List Interval
complement is = left_out Lowest (sorted is)

-- what an AND says of a set is what it leaves out, and what an OR says is what it has
abbrev pub share : (is_and : Bool) → List Interval → List Interval
share true is = complement is
share false is = is

-- the values that are in all of the sets, or in any
abbrev pub combined : (is_and : Bool) → List (List Interval) → List Interval
combined w (is ∷ []) = is
combined true iss = complement (flat_map (share true) iss)
combined false iss = complement (complement (flat_map (share false) iss))

-- ---- comparisons as sets

-- the values of which the comparison with a value is true
abbrev pub comparison_set : Operator → ScalarValue → List Interval
comparison_set Eq v = interval (Before v) (After v) ∷ []
comparison_set NotEq v = interval Lowest (Before v) ∷ interval (After v) Highest ∷ []
comparison_set Gt v = interval (After v) Highest ∷ []
comparison_set Gte v = interval (Before v) Highest ∷ []
comparison_set Lt v = interval Lowest (Before v) ∷ []
comparison_set Lte v = interval Lowest (After v) ∷ []
comparison_set And v = []
comparison_set Or v = []

-- the same comparison with its operands swapped
abbrev pub swapped : Operator → Operator
swapped Gt = Lt
swapped Gte = Lte
swapped Lt = Gt
swapped Lte = Gte
swapped o = o

-- ---- sets as predicates of a column

abbrev pub place_at : (index : ℕ) → DType → Place
place_at i t = record { index = i; dtype = t }

-- the one value that two intervals leave out, if there is nothing else that they do
abbrev pub hole_by : Cut → Cut → Cut → Cut → Option ScalarValue
hole_by Lowest (Before u) (After l) Highest = if at_most u l && at_most l u then Some u else None
hole_by a b c d = None

abbrev pub only_hole : Interval → Interval → Option ScalarValue
only_hole i j = hole_by i.low i.high j.low j.high

abbrev pub cuts_all : Cut → Cut → Bool
cuts_all Lowest Highest = true
cuts_all a b = false

-- all values are in the set, by the cuts of its first interval
abbrev pub is_full : List Interval → Bool
is_full [] = false
is_full (i ∷ is) = cuts_all i.low i.high

module _ (c : Place) where
  abbrev pub literal_as : ScalarValue → Tree Place
  literal_as v = literal (record { dtype = c.dtype; value = Some v })

  abbrev pub range_of : BetweenOptions → (l u : ScalarValue) → Tree Place
  range_of o l u = between o (column c) (literal_as l) (literal_as u)

  -- from the one value to the other: an equality if they are one
  abbrev pub closed_range : ScalarValue → ScalarValue → Tree Place
  closed_range l u = if at_most u l && at_most l u then binary Eq (column c) (literal_as l)
      else range_of (record { lower_strict = NonStrict; upper_strict = NonStrict }) l u

  abbrev pub between_cuts : Cut → Cut → Tree Place
  between_cuts Lowest Highest = is_not_null (column c)
  between_cuts Lowest (Before u) = binary Lt (column c) (literal_as u)
  between_cuts Lowest (After u) = binary Lte (column c) (literal_as u)
  between_cuts (Before l) Highest = binary Gte (column c) (literal_as l)
  between_cuts (After l) Highest = binary Gt (column c) (literal_as l)
  between_cuts (Before l) (Before u) = range_of (record { lower_strict = NonStrict; upper_strict = Strict }) l u
  between_cuts (Before l) (After u) = closed_range l u
  between_cuts (After l) (Before u) = range_of (record { lower_strict = Strict; upper_strict = Strict }) l u
  between_cuts (After l) (After u) = range_of (record { lower_strict = Strict; upper_strict = NonStrict }) l u
  between_cuts i j = bool_literal false

  -- every value but this one
  abbrev pub all_but : Option ScalarValue → Tree Place → Tree Place
  all_but (Some v) e = binary NotEq (column c) (literal_as v)
  all_but None e = e

  abbrev pub two_test : (i j : Interval) → Tree Place
  two_test i j = all_but (only_hole i j) (binary Or (between_cuts i.low i.high) (between_cuts j.low j.high))

  abbrev pub interval_test : Interval → Tree Place
  interval_test i = between_cuts i.low i.high

  abbrev pub set_test : List Interval → Tree Place
  set_test [] = bool_literal false
  set_test (i ∷ []) = between_cuts i.low i.high
  set_test (i ∷ j ∷ []) = two_test i j
  set_test (i ∷ j ∷ k ∷ is) = balanced false (map interval_test (i ∷ j ∷ k ∷ is))

  -- null, or a value in the set
  abbrev pub null_or : List Interval → Tree Place
  null_or [] = is_null (column c)
  null_or (i ∷ is) = if is_full (i ∷ is) then bool_literal true else binary Or (is_null (column c)) (set_test (i ∷ is))

  -- the column has a value in the set, or is null where that counts
  abbrev pub values_test : (with_null : Bool) → List Interval → Tree Place
  values_test true is = null_or is
  values_test false is = set_test is
