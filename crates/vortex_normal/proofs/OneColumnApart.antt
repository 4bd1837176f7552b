-- What a selective predicate says of one column is one set, which bounds decide.
use Rattle.std.proofs.Common.{◌≡◌, ℕ, zero, suc, Bool, true, false, not as not_b, ◌&&◌, ◌||◌, List, [], ◌∷◌, Option, Some, None, map, refl, sym, ap, ◌∙◌, subst, if◌then◌else◌}
use Rattle.std.proofs.Common.{lit<}
use Rattle.std.specs.Prelude.{slice_get}
use Rattle.std.specs.List.{AllByRecursion}
use Rattle.std.specs.Option.{is_some}
use Rattle.std.proofs.lemmas.Bool.{and_parts, not-true, or_parts, or_right}
use Rattle.std.proofs.lemmas.Option.{none-some}
use Rattle.vortex_base.specs.Data.Columns.{IsRow, cell_value}
use Rattle.vortex_base.specs.Data.Exact.{both_hold}
use Rattle.vortex_base.specs.Data.Scalars.{Constant, is_optional_value, null_of}
use Rattle.vortex_base.specs.Data.Types.{as_nullable, dtype_eq_is_exact, eq_ignore_nullability}
use Rattle.vortex_expr.specs.Meanings.Fitting.{fits_row, is_cell_of}
use Rattle.vortex_expr.specs.Meanings.Meaning.{is_true, satisfies}
use Rattle.vortex_expr.specs.Trees.Tree.{Tree, Place, all_columns, column, literal, binary, between, is_null, is_not_null, not, like, stat, row_count, some_node, has_bare_column, has_placeholder, has_row_count, is_plain}
use Rattle.vortex_expr.specs.Trees.TreeEq.{place_eq}
use Rattle.vortex_base.specs.declared.dtype.DType.{DType}
use Rattle.vortex_base.specs.declared.dtype.DType.TheVariants as dtype
use Rattle.vortex_base.specs.declared.scalar_value.ScalarValue.{ScalarValue}
use Rattle.vortex_expr.specs.declared.scalar_fn.BetweenOptions.{BetweenOptions}
use Rattle.vortex_expr.specs.declared.scalar_fn.Operator.TheVariants.{Eq, NotEq, Gt, Gte, Lt, Lte, And, Or}
use Rattle.vortex_expr.specs.declared.scalar_fn.StrictComparison.TheVariants.{Strict, NonStrict}
use Rattle.vortex_rewrite.proofs.Completeness.Choices.{RowsAgree, meaning_agreed}
use Rattle.vortex_rewrite.proofs.Logic.{all_append}
use Rattle.vortex_rewrite.proofs.Soundness.TruthLogic.{clash}
use Rattle.vortex_rewrite.specs.Rewriting.Falsifiers.{bool_literal}
use Rattle.vortex_rewrite.specs.Rewriting.Predicates.{is_predicate}
use Rattle.vortex_rewrite.specs.Rewriting.ReadOnce.{are_sides_apart, columns_of, has_closed_end, has_disjoint_ands, is_number_type, is_simple}
use Rattle.vortex_normal.specs.Balanced.{balanced}
use Rattle.vortex_normal.specs.Groups.{inside, collected, items_test, normal}
use Rattle.vortex_normal.specs.Intervals.{Cut, Lowest, Before, After, Highest, Interval, all_but, at_most, between_cuts, combined, contains, cuts_all, in_set, interval_test, literal_as, hole_by, only_hole, range_of, set_test}
use Rattle.vortex_normal.specs.OneColumn.{IsSelective, are_ends_seen, is_constant, is_open_range, is_operand_over, is_over}
use Rattle.vortex_normal.specs.Pushed.{all_by, all_of, any_by, any_of, as_comparisons, connected, decided, is_literal, pushed}
use Rattle.vortex_normal.proofs.Pairs.{balanced_has, balanced_value, values_joined}
use Rattle.vortex_normal.proofs.Folded.{no_columns}
use Rattle.vortex_normal.proofs.Forms.{any_by_kept}
use Rattle.vortex_normal.proofs.Grouped.{all_told, collected_told, full_cuts, is_among, joined_unit}
use Rattle.vortex_normal.proofs.Columns.{same_place}
use Rattle.vortex_normal.proofs.Matched.{literal_pattern}
use Rattle.vortex_normal.proofs.OneColumn.{collected_one, is_chain, same_null, same_set, the_one}
use Rattle.vortex_normal.proofs.Told.{pushed_same}

-- ---- sets as predicates that bounds decide

or_yes : (b : Bool) → (b || true) ≡ true
or_yes true = refl
or_yes false = refl

-- ---- literals have no column

literal_columns : (test : Place → Bool) (p : Tree Place) → is_literal p ≡ true → all_columns test p ≡ true
literal_columns test (literal v) h = refl
literal_columns test (column d) h = cc
literal_columns test (binary o l r) h = cc
literal_columns test (between o x l u) h = cc
literal_columns test (is_null x) h = cc
literal_columns test (is_not_null x) h = cc
literal_columns test (not x) h = cc
literal_columns test (like o x p) h = cc
literal_columns test (stat f x) h = cc
literal_columns test row_count h = cc

at_literal : (P : Place → Type 0) (p : Tree Place) → is_literal p ≡ true → AllByRecursion P (columns_of p)
at_literal P (literal v) h = tt
at_literal P (column d) h = absurd cc
at_literal P (binary o l r) h = absurd cc
at_literal P (between o x l u) h = absurd cc
at_literal P (is_null x) h = absurd cc
at_literal P (is_not_null x) h = absurd cc
at_literal P (not x) h = absurd cc
at_literal P (like o x p) h = absurd cc
at_literal P (stat f x) h = absurd cc
at_literal P row_count h = absurd cc

-- ---- constants have no column

constant_parts : (x : Tree Place) → is_constant x ≡ true → (has_bare_column x ≡ false) × (has_placeholder x ≡ false)
constant_parts x h =
    let k = and_parts (not_b (has_bare_column x)) (is_plain x) h in
    let m = and_parts (not_b (has_placeholder x)) (not_b (has_row_count x)) k.1 in
    (not-true (has_bare_column x) k.0, not-true (has_placeholder x) m.0)

at_none : (P : Place → Type 0) (x : Tree Place) → has_bare_column x ≡ false → AllByRecursion P (columns_of x)
at_none P (column d) h = cc
at_none P (literal v) h = tt
at_none P (binary o l r) h =
    let k = or_parts (has_bare_column l) (has_bare_column r) h in
    all_append P (columns_of l) (columns_of r) (at_none P l k.0) (at_none P r k.1)
at_none P (between o y l u) h =
    let k = or_parts (has_bare_column y) (has_bare_column l || has_bare_column u) h in
    let m = or_parts (has_bare_column l) (has_bare_column u) k.1 in
    all_append P (columns_of y) (columns_of (binary Eq l u)) (at_none P y k.0) (all_append P (columns_of l) (columns_of u) (at_none P l m.0) (at_none P u m.1))
at_none P (is_null y) h = at_none P y h
at_none P (is_not_null y) h = at_none P y h
at_none P (not y) h = at_none P y h
at_none P (like o y q) h =
    let k = or_parts (has_bare_column y) (has_bare_column q) h in
    all_append P (columns_of y) (columns_of q) (at_none P y k.0) (at_none P q k.1)
at_none P (stat f y) h = tt
at_none P row_count h = tt

-- neither end lets its own value through
abbrev are_open : Cut → Cut → Bool
are_open (After l) (Before u) = true
are_open l u = false

-- the sides of an OR may share the column
pub or_apart : (l r : Tree Place) → has_disjoint_ands l ≡ true → has_disjoint_ands r ≡ true → has_disjoint_ands (binary Or l r) ≡ true
or_apart l r h k =
    let a = and_parts (is_simple l) (are_sides_apart l) h in
    let b = and_parts (is_simple r) (are_sides_apart r) k in
    both_hold _ _ (both_hold _ _ a.0 b.0) (both_hold _ _ a.1 b.1)

pub either_apart : (l r : Tree Place) → has_disjoint_ands l ≡ true → has_disjoint_ands r ≡ true → has_disjoint_ands (connected false l r) ≡ true
unfolding any_of
either_apart l r h k = any_by_kept (λ e. has_disjoint_ands e ≡ true) l r h k (decided l) (decided r) (or_apart l r h k)

-- ---- predicates that are no literal truth, of which an OR loses none

abbrev IsUntrue : Tree Place → Type 0
IsUntrue e = decided e ≡ Some true → ⊥

false_untrue : IsUntrue (bool_literal false)
false_untrue e = cc

either_untrue : (l r : Tree Place) → IsUntrue l → IsUntrue r → IsUntrue (connected false l r)
unfolding any_of
either_untrue l r h k = any_by_kept IsUntrue l r h k (decided l) (decided r) (λ e. none-some true e)

or_assoc : (a b c : Bool) → ((a || b) || c) ≡ (a || (b || c))
or_assoc true b c = refl
or_assoc false b c = refl

or_none : (a : Bool) → (a || false) ≡ a
or_none true = refl
or_none false = refl

-- a literal has no range
literal_closed : (e : Tree Place) (b : Bool) → decided e ≡ Some b → some_node is_open_range e ≡ false
literal_closed (literal k) b e = refl
literal_closed (column d) b e = refl
literal_closed (binary o x y) b e = absurd (none-some b e)
literal_closed (between o x y u) b e = absurd (none-some b e)
literal_closed (is_null x) b e = absurd (none-some b e)
literal_closed (is_not_null x) b e = absurd (none-some b e)
literal_closed (not x) b e = absurd (none-some b e)
literal_closed (like o x q) b e = absurd (none-some b e)
literal_closed (stat f x) b e = absurd (none-some b e)
literal_closed row_count b e = refl

-- so an OR of them has a range that is open at both ends if either has
open_by : (l r : Tree Place) (a b : Option Bool) → decided l ≡ a → decided r ≡ b → IsUntrue l → IsUntrue r
    → some_node is_open_range (any_by a b l r) ≡ (some_node is_open_range l || some_node is_open_range r)
open_by l r (Some true) b e f h k = absurd (h e)
open_by l r (Some false) b e f h k = ap (λ x. x || some_node is_open_range r) (sym (literal_closed l false e))
open_by l r None (Some true) e f h k = absurd (k f)
open_by l r None (Some false) e f h k = sym (ap (λ x. some_node is_open_range l || x) (literal_closed r false f) ∙ or_none (some_node is_open_range l))
open_by l r None None e f h k = refl

either_open : (l r : Tree Place) → IsUntrue l → IsUntrue r → some_node is_open_range (connected false l r) ≡ (some_node is_open_range l || some_node is_open_range r)
unfolding any_of
either_open l r h k = open_by l r (decided l) (decided r) refl refl h k

module _ (c : Place) where
  -- bounds decide the values between the cuts
  abbrev is_decided : Cut → Cut → Bool
  is_decided l u = not_b (cuts_all l u) && (is_number_type c.dtype || not_b (are_open l u))

  abbrev are_decided : List Interval → Bool
  are_decided [] = true
  are_decided (i ∷ is) = is_decided i.low i.high && are_decided is

  range_apart : (o : BetweenOptions) (l u : ScalarValue) → (is_number_type c.dtype || has_closed_end o) ≡ true → has_disjoint_ands (range_of c o l u) ≡ true
  range_apart o l u h = both_hold _ _ (both_hold _ _ h refl) refl

  closed_apart : (l u : ScalarValue) (b : Bool) → has_disjoint_ands (if b then binary Eq (column c) (literal_as c l) else range_of c (record { lower_strict = NonStrict; upper_strict = NonStrict }) l u) ≡ true
  closed_apart l u true = refl
  closed_apart l u false = range_apart (record { lower_strict = NonStrict; upper_strict = NonStrict }) l u (or_yes (is_number_type c.dtype))

  cuts_apart : (l u : Cut) → is_decided l u ≡ true → has_disjoint_ands (between_cuts c l u) ≡ true
  cuts_apart Lowest Highest h = cc
  cuts_apart Lowest (Before u) h = refl
  cuts_apart Lowest (After u) h = refl
  cuts_apart (Before l) Highest h = refl
  cuts_apart (After l) Highest h = refl
  cuts_apart (Before l) (Before u) h = range_apart (record { lower_strict = NonStrict; upper_strict = Strict }) l u (or_yes (is_number_type c.dtype))
  cuts_apart (Before l) (After u) h = closed_apart l u (at_most u l && at_most l u)
  cuts_apart (After l) (Before u) h = range_apart (record { lower_strict = Strict; upper_strict = Strict }) l u h
  cuts_apart (After l) (After u) h = range_apart (record { lower_strict = Strict; upper_strict = NonStrict }) l u (or_yes (is_number_type c.dtype))
  cuts_apart Lowest Lowest h = refl
  cuts_apart (Before l) Lowest h = refl
  cuts_apart (After l) Lowest h = refl
  cuts_apart Highest Lowest h = refl
  cuts_apart Highest (Before u) h = refl
  cuts_apart Highest (After u) h = refl
  cuts_apart Highest Highest h = refl

  hole_apart : (v : Option ScalarValue) (e : Tree Place) → has_disjoint_ands e ≡ true → has_disjoint_ands (all_but c v e) ≡ true
  hole_apart (Some v) e h = refl
  hole_apart None e h = h

  intervals_apart : (is : List Interval) → are_decided is ≡ true → AllByRecursion (λ e. has_disjoint_ands e ≡ true) (map (interval_test c) is)
  intervals_apart [] h = tt
  intervals_apart (i ∷ is) h =
      let k = and_parts (is_decided i.low i.high) (are_decided is) h in
      (cuts_apart i.low i.high k.0, intervals_apart is k.1)

  set_apart : (is : List Interval) → are_decided is ≡ true → has_disjoint_ands (set_test c is) ≡ true
  set_apart [] h = refl
  set_apart (i ∷ []) h = cuts_apart i.low i.high (and_parts (is_decided i.low i.high) true h).0
  set_apart (i ∷ j ∷ []) h =
      let k = and_parts (is_decided i.low i.high) (are_decided (j ∷ [])) h in
      hole_apart (only_hole i j) (binary Or (between_cuts c i.low i.high) (between_cuts c j.low j.high))
      (or_apart (between_cuts c i.low i.high) (between_cuts c j.low j.high) (cuts_apart i.low i.high k.0) (cuts_apart j.low j.high (and_parts (is_decided j.low j.high) true k.1).0))
  set_apart (i ∷ j ∷ m ∷ is) h = balanced_has (λ e. has_disjoint_ands e ≡ true) false either_apart (map (interval_test c) (i ∷ j ∷ m ∷ is)) refl (intervals_apart (i ∷ j ∷ m ∷ is) h)

  -- a set that leaves out a value has no interval of all values
  not_all : (l u : Cut) (v : ScalarValue) (i : Interval) → i.low ≡ l → i.high ≡ u → contains i v ≡ false → (b : Bool) → cuts_all i.low i.high ≡ b → b ≡ false
  not_all l u v i e f h true k = clash (full_cuts i.low i.high v k) h
  not_all l u v i e f h false k = refl

  numbers_decided : is_number_type c.dtype ≡ true → (v : ScalarValue) (is : List Interval) → in_set is v ≡ false → are_decided is ≡ true
  numbers_decided n v [] h = refl
  numbers_decided n v (i ∷ is) h =
      let k = or_parts (contains i v) (in_set is v) h in
      both_hold _ _
      (both_hold _ _
      (ap not_b (not_all i.low i.high v i refl refl k.0 (cuts_all i.low i.high) refl))
      (ap (λ b. b || not_b (are_open i.low i.high)) n))
      (numbers_decided n v is k.1)

  -- where no range of the test is open at both ends, no interval is

  abbrev none_open : List Interval → Bool
  none_open [] = true
  none_open (i ∷ is) = not_b (are_open i.low i.high) && none_open is

  cuts_closed : (l u : Cut) → some_node is_open_range (between_cuts c l u) ≡ false → are_open l u ≡ false
  cuts_closed Lowest u h = refl
  cuts_closed Highest u h = refl
  cuts_closed (Before l) u h = refl
  cuts_closed (After l) Lowest h = refl
  cuts_closed (After l) (Before u) h = cc
  cuts_closed (After l) (After u) h = refl
  cuts_closed (After l) Highest h = refl

  two_closed : (l u k v : Cut) → some_node is_open_range (all_but c (hole_by l u k v) (binary Or (between_cuts c l u) (between_cuts c k v))) ≡ false → (are_open l u ≡ false) × (are_open k v ≡ false)
  two_closed Lowest (Before u) (After l) Highest h = (refl, refl)
  two_closed l u k v h =
      let w = or_parts (some_node is_open_range (between_cuts c l u)) (some_node is_open_range (between_cuts c k v)) h in
      (cuts_closed l u w.0, cuts_closed k v w.1)

  closed_untrue : (l u : ScalarValue) (b : Bool) → IsUntrue (if b then binary Eq (column c) (literal_as c l) else range_of c (record { lower_strict = NonStrict; upper_strict = NonStrict }) l u)
  closed_untrue l u true = λ e. none-some true e
  closed_untrue l u false = λ e. none-some true e

  cuts_untrue : (l u : Cut) → IsUntrue (between_cuts c l u)
  cuts_untrue Lowest Highest = λ e. none-some true e
  cuts_untrue Lowest (Before u) = λ e. none-some true e
  cuts_untrue Lowest (After u) = λ e. none-some true e
  cuts_untrue (Before l) Highest = λ e. none-some true e
  cuts_untrue (After l) Highest = λ e. none-some true e
  cuts_untrue (Before l) (Before u) = λ e. none-some true e
  cuts_untrue (Before l) (After u) = closed_untrue l u (at_most u l && at_most l u)
  cuts_untrue (After l) (Before u) = λ e. none-some true e
  cuts_untrue (After l) (After u) = λ e. none-some true e
  cuts_untrue Lowest Lowest = false_untrue
  cuts_untrue (Before l) Lowest = false_untrue
  cuts_untrue (After l) Lowest = false_untrue
  cuts_untrue Highest Lowest = false_untrue
  cuts_untrue Highest (Before u) = false_untrue
  cuts_untrue Highest (After u) = false_untrue
  cuts_untrue Highest Highest = false_untrue

  intervals_untrue : (is : List Interval) → AllByRecursion IsUntrue (map (interval_test c) is)
  intervals_untrue [] = tt
  intervals_untrue (i ∷ is) = (cuts_untrue i.low i.high, intervals_untrue is)

  abbrev tests_open : List Interval → Bool
  tests_open is = values_joined (some_node is_open_range) ◌||◌ false (map (interval_test c) is)

  intervals_open : (is : List Interval) → some_node is_open_range (balanced false (map (interval_test c) is)) ≡ tests_open is
  intervals_open is =
      balanced_value IsUntrue false either_untrue (some_node is_open_range) ◌||◌ false or_assoc or_none either_open (map (interval_test c) is) refl (intervals_untrue is)

  none_of_tests : (is : List Interval) → tests_open is ≡ false → none_open is ≡ true
  none_of_tests [] h = refl
  none_of_tests (i ∷ is) h =
      let k = or_parts (some_node is_open_range (between_cuts c i.low i.high)) (tests_open is) h in
      both_hold _ _ (ap not_b (cuts_closed i.low i.high k.0)) (none_of_tests is k.1)

  set_closed : (is : List Interval) → some_node is_open_range (set_test c is) ≡ false → none_open is ≡ true
  set_closed [] h = refl
  set_closed (i ∷ []) h = both_hold _ _ (ap not_b (cuts_closed i.low i.high h)) refl
  set_closed (i ∷ j ∷ []) h =
      let k = two_closed i.low i.high j.low j.high h in
      both_hold _ _ (ap not_b k.0) (both_hold _ _ (ap not_b k.1) refl)
  set_closed (i ∷ j ∷ m ∷ is) h = none_of_tests (i ∷ j ∷ m ∷ is) (sym (intervals_open (i ∷ j ∷ m ∷ is)) ∙ h)

  closed_decided : (v : ScalarValue) (is : List Interval) → none_open is ≡ true → in_set is v ≡ false → are_decided is ≡ true
  closed_decided v [] n h = refl
  closed_decided v (i ∷ is) n h =
      let k = or_parts (contains i v) (in_set is v) h in
      let m = and_parts (not_b (are_open i.low i.high)) (none_open is) n in
      both_hold _ _
      (both_hold _ _
      (ap not_b (not_all i.low i.high v i refl refl k.0 (cuts_all i.low i.high) refl))
      (or_right (is_number_type c.dtype) (not_b (are_open i.low i.high)) m.0))
      (closed_decided v is m.1 k.1)

  -- a literal that is true falls away at its right
  before_true : (l : Tree Place) (a : Option Bool) → decided l ≡ a → some_node is_open_range (all_by a (Some true) l (bool_literal true)) ≡ false → some_node is_open_range l ≡ false
  before_true l None e h = h
  before_true l (Some false) e h = h
  before_true (literal k) (Some true) e h = refl
  before_true (column d) (Some true) e h = refl
  before_true (binary o x y) (Some true) e h = absurd (none-some true e)
  before_true (between o x y u) (Some true) e h = absurd (none-some true e)
  before_true (is_null x) (Some true) e h = absurd (none-some true e)
  before_true (is_not_null x) (Some true) e h = absurd (none-some true e)
  before_true (not x) (Some true) e h = absurd (none-some true e)
  before_true (like o x q) (Some true) e h = absurd (none-some true e)
  before_true (stat f x) (Some true) e h = absurd (none-some true e)
  before_true row_count (Some true) e h = refl

  joined_closed : (l : Tree Place) → some_node is_open_range (connected true l (bool_literal true)) ≡ false → some_node is_open_range l ≡ false
  unfolding all_of
  joined_closed l h = before_true l (decided l) refl h

  -- ---- rows of the one cell that counts

  abbrev placed : ℕ → Constant → List Constant
  placed zero k = k ∷ []
  placed (suc i) k = null_of dtype.Null ∷ placed i k

  placed_there : (i : ℕ) (k : Constant) → slice_get (placed i k) i ≡ Some k
  placed_there zero k = refl
  placed_there (suc i) k = placed_there i k

  placed_row : (i : ℕ) (k : Constant) → is_optional_value k.value k.dtype ≡ true → IsRow (placed i k)
  placed_row zero k h = both_hold _ _ h refl
  placed_row (suc i) k h = placed_row i k h

  -- what is so of the column is so of each column of a predicate over it
  module _ (test : Place → Bool) (yes : test c ≡ true) where
    of_column : (d : Place) → place_eq c d ≡ true → test d ≡ true
    of_column d h = subst (λ x. test x ≡ true) (same_place c d h) yes

    of_constant : (x : Tree Place) → is_constant x ≡ true → all_columns test x ≡ true
    of_constant x h = let k = constant_parts x h in no_columns test x k.0 k.1

    of_operand : (x : Tree Place) → is_operand_over c x ≡ true → all_columns test x ≡ true
    of_operand (column d) h = of_column d h
    of_operand (literal v) h = refl
    of_operand (binary o l r) h = of_constant (binary o l r) h
    of_operand (between o y l u) h = of_constant (between o y l u) h
    of_operand (is_null y) h = of_constant (is_null y) h
    of_operand (is_not_null y) h = of_constant (is_not_null y) h
    of_operand (not y) h = of_constant (not y) h
    of_operand (like o y p) h = of_constant (like o y p) h
    of_operand (stat f y) h = cc
    of_operand row_count h = cc

    of_operands : (l r : Tree Place) → (is_operand_over c l && is_operand_over c r) ≡ true → (all_columns test l && all_columns test r) ≡ true
    of_operands l r h = let k = and_parts (is_operand_over c l) (is_operand_over c r) h in both_hold _ _ (of_operand l k.0) (of_operand r k.1)

    of_columns : (p : Tree Place) → is_over c p ≡ true → all_columns test p ≡ true
    of_columns (column d) h = of_column d h
    of_columns (literal v) h = refl
    of_columns (binary And l r) h = let k = and_parts (is_over c l) (is_over c r) h in both_hold _ _ (of_columns l k.0) (of_columns r k.1)
    of_columns (binary Or l r) h = let k = and_parts (is_over c l) (is_over c r) h in both_hold _ _ (of_columns l k.0) (of_columns r k.1)
    of_columns (binary Eq l r) h = of_operands l r h
    of_columns (binary NotEq l r) h = of_operands l r h
    of_columns (binary Gt l r) h = of_operands l r h
    of_columns (binary Gte l r) h = of_operands l r h
    of_columns (binary Lt l r) h = of_operands l r h
    of_columns (binary Lte l r) h = of_operands l r h
    of_columns (between o x l u) h =
        let k = and_parts (is_operand_over c x) (is_operand_over c l && is_operand_over c u) h in
        both_hold _ _ (of_operand x k.0) (of_operands l u k.1)
    of_columns (is_null x) h = of_operand x h
    of_columns (is_not_null x) h = of_operand x h
    of_columns (not x) h = of_columns x h
    of_columns (like o x p) h =
        let k = and_parts (is_some (as_comparisons o x p)) (is_operand_over c x) h in
        both_hold _ _ (of_operand x k.1) (literal_columns test p (literal_pattern o x p k.0))
    of_columns (stat f x) h = cc
    of_columns row_count h = cc

  module _ (P : Place → Type 0) (yes : P c) where
    at_column : (d : Place) → place_eq c d ≡ true → P d
    at_column d h = subst P (same_place c d h) yes

    at_constant : (x : Tree Place) → is_constant x ≡ true → AllByRecursion P (columns_of x)
    at_constant x h = at_none P x (constant_parts x h).0

    at_operand : (x : Tree Place) → is_operand_over c x ≡ true → AllByRecursion P (columns_of x)
    at_operand (column d) h = (at_column d h, tt)
    at_operand (literal v) h = tt
    at_operand (binary o l r) h = at_constant (binary o l r) h
    at_operand (between o y l u) h = at_constant (between o y l u) h
    at_operand (is_null y) h = at_constant (is_null y) h
    at_operand (is_not_null y) h = at_constant (is_not_null y) h
    at_operand (not y) h = at_constant (not y) h
    at_operand (like o y p) h = at_constant (like o y p) h
    at_operand (stat f y) h = cc
    at_operand row_count h = cc

    at_operands : (l r : Tree Place) → (is_operand_over c l && is_operand_over c r) ≡ true → AllByRecursion P (columns_of (binary Eq l r))
    at_operands l r h =
        let k = and_parts (is_operand_over c l) (is_operand_over c r) h in
        all_append P (columns_of l) (columns_of r) (at_operand l k.0) (at_operand r k.1)

    pub at_columns : (p : Tree Place) → is_over c p ≡ true → AllByRecursion P (columns_of p)
    at_columns (column d) h = (at_column d h, tt)
    at_columns (literal v) h = tt
    at_columns (binary And l r) h = let k = and_parts (is_over c l) (is_over c r) h in all_append P (columns_of l) (columns_of r) (at_columns l k.0) (at_columns r k.1)
    at_columns (binary Or l r) h = let k = and_parts (is_over c l) (is_over c r) h in all_append P (columns_of l) (columns_of r) (at_columns l k.0) (at_columns r k.1)
    at_columns (binary Eq l r) h = at_operands l r h
    at_columns (binary NotEq l r) h = at_operands l r h
    at_columns (binary Gt l r) h = at_operands l r h
    at_columns (binary Gte l r) h = at_operands l r h
    at_columns (binary Lt l r) h = at_operands l r h
    at_columns (binary Lte l r) h = at_operands l r h
    at_columns (between o x l u) h =
        let k = and_parts (is_operand_over c x) (is_operand_over c l && is_operand_over c u) h in
        all_append P (columns_of x) (columns_of (binary Eq l u)) (at_operand x k.0) (at_operands l u k.1)
    at_columns (is_null x) h = at_operand x h
    at_columns (is_not_null x) h = at_operand x h
    at_columns (not x) h = at_columns x h
    at_columns (like o x p) h =
        let k = and_parts (is_some (as_comparisons o x p)) (is_operand_over c x) h in
        all_append P (columns_of x) (columns_of p) (at_operand x k.1) (at_literal P p (literal_pattern o x p k.0))
    at_columns (stat f x) h = cc
    at_columns row_count h = cc

  same_kind : eq_ignore_nullability c.dtype c.dtype ≡ true
  same_kind = (dtype_eq_is_exact (as_nullable c.dtype) (as_nullable c.dtype)).1 refl

  nullable_kind : (t : DType) → as_nullable (as_nullable t) ≡ as_nullable t
  nullable_kind dtype.Null = refl
  nullable_kind (dtype.Bool n) = refl
  nullable_kind (dtype.Primitive p n) = refl
  nullable_kind (dtype.Utf8 n) = refl
  nullable_kind (dtype.Binary n) = refl
  nullable_kind (dtype.MinMaxState e n) = refl

  takes_null : (t : DType) → is_optional_value None (as_nullable t) ≡ true
  takes_null dtype.Null = refl
  takes_null (dtype.Bool n) = refl
  takes_null (dtype.Primitive p n) = refl
  takes_null (dtype.Utf8 n) = refl
  takes_null (dtype.Binary n) = refl
  takes_null (dtype.MinMaxState e n) = refl

  module _ (p : Tree Place) (predicate : is_predicate p ≡ true) (over : is_over c p ≡ true) where
    -- on the row of one cell the normal form is satisfied where the predicate is on any row with that value
    module _ (k : Constant) (row : List Constant) (value : is_optional_value k.value k.dtype ≡ true) (kind : eq_ignore_nullability k.dtype c.dtype ≡ true) (cell : cell_value (slice_get row c.index) ≡ k.value) where
      abbrev own_row : List Constant
      own_row = placed c.index k

      there : cell_value (slice_get own_row c.index) ≡ k.value
      there = ap cell_value (placed_there c.index k)

      fits : fits_row p own_row ≡ true
      fits = of_columns (λ d. is_cell_of d.dtype (slice_get own_row d.index)) (ap (is_cell_of c.dtype) (placed_there c.index k) ∙ kind) p over

      agree : RowsAgree own_row row (columns_of p)
      agree = at_columns (λ d. cell_value (slice_get own_row d.index) ≡ cell_value (slice_get row d.index)) (there ∙ sym cell) p over

      same_told : satisfies (pushed true p) own_row 0 ≡ satisfies p row 0
      same_told =
          pushed_same p predicate own_row 0 (placed_row c.index k value) fits (lit< tt)
          ∙ ap is_true (meaning_agreed own_row row 0 p agree)

    module _ (m : Bool) (iss : List (List Interval)) (form : collected true (pushed true p) [] ≡ inside c m iss ∷ []) where
      abbrev the_set : List Interval
      the_set = combined true iss

      form_told : (row : List Constant) → is_among m the_set (cell_value (slice_get row c.index)) ≡ satisfies (pushed true p) row 0
      form_told row =
          sym (joined_unit true (is_among m the_set (cell_value (slice_get row c.index))))
          ∙ ap (all_told row 0 true) (sym form)
          ∙ collected_told row 0 true (pushed true p) []
          ∙ joined_unit true (satisfies (pushed true p) row 0)

      null_kind : eq_ignore_nullability (as_nullable c.dtype) c.dtype ≡ true
      null_kind = (dtype_eq_is_exact (as_nullable (as_nullable c.dtype)) (as_nullable c.dtype)).1 (nullable_kind c.dtype)

      -- null isn't among the values
      null_left_out : IsSelective c p → m ≡ false
      null_left_out s =
          let of_null : Constant = null_of (as_nullable c.dtype) in
          ap (is_among m the_set) (sym (there of_null [] (takes_null c.dtype) null_kind refl))
          ∙ form_told (own_row of_null [] (takes_null c.dtype) null_kind refl)
          ∙ same_told of_null [] (takes_null c.dtype) null_kind refl
          ∙ s.null_refused

      value_left_out : (s : IsSelective c p) → in_set the_set s.value ≡ false
      value_left_out s =
          let of_value : Constant = record { dtype = c.dtype; value = Some s.value } in
          ap (is_among m the_set) (sym (there of_value s.row s.of_type same_kind s.cell))
          ∙ form_told (own_row of_value s.row s.of_type same_kind s.cell)
          ∙ same_told of_value s.row s.of_type same_kind s.cell
          ∙ s.refused

      normal_is : IsSelective c p → normal p ≡ connected true (set_test c the_set) (bool_literal true)
      normal_is s = ap (items_test true) form ∙ ap (λ n. items_test true (inside c n iss ∷ [])) (null_left_out s)

      decided_by : (s : IsSelective c p) (n : Bool) → is_number_type c.dtype ≡ n → (n || not_b (some_node is_open_range (normal p))) ≡ true → are_decided the_set ≡ true
      decided_by s true number seen = numbers_decided number s.value the_set (value_left_out s)
      decided_by s false number seen =
          let closed : some_node is_open_range (connected true (set_test c the_set) (bool_literal true)) ≡ false =
          ap (some_node is_open_range) (sym (normal_is s)) ∙ not-true (some_node is_open_range (normal p)) seen in
          closed_decided s.value the_set (set_closed the_set (joined_closed (set_test c the_set) closed)) (value_left_out s)

    -- so in a chain by AND or by OR it is one item, which bounds decide
    pub chain_apart : are_ends_seen c p ≡ true → IsSelective c p → is_chain c (pushed true p) ≡ true → (v : Bool) → (iss : List (List Interval)) × (collected v (pushed true p) [] ≡ inside c false iss ∷ []) × (has_disjoint_ands (set_test c (combined v iss)) ≡ true)
    chain_apart seen s h v =
        let e = pushed true p in
        let one = the_one c (collected true e []) (collected_one c true e [] h tt) in
        let own = the_one c (collected v e []) (collected_one c v e [] h tt) in
        let null = same_null c v e own.0 one.0 own.1 one.1 h own.2 one.2 ∙ null_left_out one.0 one.1 one.2 s in
        let set = same_set c v e own.0 one.0 own.1 one.1 h own.2 one.2 in (
          own.1,
          own.2 ∙ ap (λ n. inside c n own.1 ∷ []) null,
          ap (λ is. has_disjoint_ands (set_test c is)) set ∙ set_apart (combined true one.1) (decided_by one.0 one.1 one.2 s (is_number_type c.dtype) refl seen),
        )
