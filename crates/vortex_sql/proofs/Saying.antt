-- The expression that is said of a condition means what the condition does.
use Rattle.std.proofs.Common.{◌≡◌, ℕ, zero, suc, ◌+◌, Bool, true, false, List, [], ◌∷◌, ◌++◌, length, refl, sym, ◌∙◌, ap, subst, arith}
use Rattle.std.specs.Prelude.{◌≤◌, ◌&&◌, ℤ, IfSome, is_some, nat_le, Option, Some, None, Ok, Err, is_none, not as not_b, option_map, slice_get, if◌then◌else◌}
use Rattle.std.specs.declared.cmp.Ordering.{Ordering}
use Rattle.vortex_base.specs.declared.types.Nullability.{Nullability}
use Rattle.vortex_base.specs.declared.types.Nullability.TheVariants.{NonNullable}
use Rattle.vortex_base.specs.declared.types.PType.{PType}
use Rattle.vortex_base.specs.Data.Exact.{both_true}
use Rattle.vortex_base.specs.declared.dtype.DType.{DType}
use Rattle.vortex_base.specs.declared.dtype.DType.TheVariants as dtype
use Rattle.vortex_base.specs.declared.scalar_value.ScalarValue.{ScalarValue}
use Rattle.vortex_base.specs.declared.scalar_value.ScalarValue.TheVariants as value
use Rattle.vortex_base.specs.Data.Types.{as_nullable, dtype_eq_is_exact, eq_ignore_nullability}
use Rattle.vortex_base.specs.Data.Scalars.{Constant, is_optional_value}
use Rattle.vortex_base.specs.Data.Columns.{cell_value}
use Rattle.vortex_expr.specs.declared.scalar_fn.Operator.TheVariants as operator
use Rattle.vortex_expr.specs.Meanings.Binding.{find_column}
use Rattle.vortex_expr.specs.Meanings.Meaning.{meaning, truth_value, both, either, opposite, applied}
use Rattle.vortex_expr.specs.Meanings.Meaning as meanings
use Rattle.vortex_expr.specs.Meanings.Typing.{is_bool, is_utf8}
use Rattle.vortex_expr.specs.Patterns.Like.{plain}
use Rattle.vortex_expr.specs.Trees.Tree.{Tree, Place, literal, column, binary, like, is_null, is_not_null, not}
use Rattle.vortex_sql.specs.declared.fault.Fault.TheVariants.{Misfit}
use Rattle.vortex_logical.specs.declared.comparison.Comparison.{Comparison}
use Rattle.vortex_logical.specs.declared.comparison.Comparison.TheVariants as comparison
use Rattle.vortex_base.specs.declared.pvalue.PValue.{PValue}
use Rattle.vortex_floats.specs.Cells.{SaysOf as SaysOfFloat}
use Rattle.vortex_floats.specs.Cells as readings_of_floats
use Rattle.vortex_floats.proofs.Saying.{compared_says}
use Rattle.vortex_logical.specs.declared.float_test.FloatTest.{FloatTest}
use Rattle.vortex_logical.specs.declared.float_test.NanMeaning.{NanMeaning}
use Rattle.vortex_logical.specs.declared.float_type.FloatType.{FloatType}
use Rattle.vortex_logical.specs.declared.logical_type.LogicalType.{LogicalType}
use Rattle.vortex_sql.specs.declared.cells.Cells.{Cells}
use Rattle.vortex_sql.specs.declared.cells.Cells.TheVariants.{Values, Exact, Floats}
use Rattle.vortex_sql.specs.declared.syntax.tree.ExactNumber.{ExactNumber}
use Rattle.vortex_sql.specs.declared.typing.KindFit.{KindFit}
use Rattle.vortex_sql.specs.declared.typing.KindFit.TheVariants.{Same, ByZone, Other as OtherKind}
use Rattle.vortex_sql.specs.Schemas.{Field, SchemaData, field_at, find_field, listed}
use Rattle.vortex_sql.specs.Typing.{are_same_cells, beside, kind_fit, kind_of, typed_as, typed_by}
use Rattle.vortex_sql.specs.declared.syntax.tree.Escape.TheVariants as escape
use Rattle.vortex_sql.specs.declared.syntax.tree.Operand.{Operand}
use Rattle.vortex_sql.specs.declared.syntax.tree.Operand.TheVariants as operand
use Rattle.vortex_sql.specs.declared.syntax.tree.Test.{Test}
use Rattle.vortex_sql.specs.declared.syntax.tree.Test.TheVariants as test
use Rattle.vortex_sql.specs.declared.syntax.tree.Leaf.{Leaf}
use Rattle.vortex_sql.specs.declared.syntax.tree.Condition.{Condition}
use Rattle.vortex_sql.specs.declared.syntax.tree.Condition.TheVariants.{Leaf as Leaf', Not', And', Or', IsNull', IsTrue', IsFalse'}
use Rattle.vortex_sql.specs.Sql.{Item, truth, exact, float, bits, text, binary as binary_item, item_of, item_holds, item_cmp, exact_item, compared, compared_on, distinct, liked, pattern_of, within_on, among_on, truth_of, field_value, value_in, test_truth, operator_of, flipped}
use Rattle.vortex_sql.specs.Numbers.{in_type, sized_in}
use Rattle.vortex_sql.specs.Halves.{joined, first_of, in_turns, paired}
use Rattle.vortex_sql.specs.Readings as readings
use Rattle.vortex_sql.specs.Readings.{Reading, Members, said, unread, literal_of, is_whole, whole_literal, exact_reading, exact_test, testing, of_fit, folded, literals, comparing, constant, exact_literal, in_type_reading, cell_reading, below_reading, float_reading, float_literal, cells_literal, with_literal, with_place, with_operand, ordered_field, at_least, from_place, from_literal, compare, compare_typed, joined_by, truth_literal, as_truth, as_null_test, literal_null_test, null_test, distinct_from, distinct_at, distinct_literals, distinct_from_literal, distinct_typed, distinct_test, between_test, with_member, members_from, any_of, member, like_place, pattern_test, reading}
use Rattle.vortex_sql.specs.Lowering.{leaf_tree, leaf_truth, opaque_tree, lowered, opaques, opaque_if, has_truth_test, is_true_tree, is_false_tree, truth_on, is_known_as, IsRowOf, Says, with_told, told_cell}
use Rattle.vortex_sql.proofs.RowCells.{Told, Holds, told, told-left, told-right, column_holds, same_length}
use Rattle.vortex_sql.proofs.Compared.{cells_of, cells_compared, ordered_compared, cell_truth, bounded_truth, float_truth, number_compared, float_compared, same_items, items_flipped, flipped_compared, exact_compared, text_compared, binary_compared, truth_compared, weakened}
use Rattle.vortex_sql.proofs.Pairs.{one_left}

truth-value : (a : Option Bool) → meanings.truth (truth_value a) ≡ a
truth-value None = refl
truth-value (Some b) = refl

none-value : (a : Option Bool) → is_none (truth_value a) ≡ is_none a
none-value None = refl
none-value (Some b) = refl

same_said : (s t : Tree Place) → said s ≡ said t → s ≡ t
same_said s t h = cc

either-false : (a : Option Bool) → either a (Some false) ≡ a
either-false None = refl
either-false (Some true) = refl
either-false (Some false) = refl

either_assoc : (a b c : Option Bool) → either (either a b) c ≡ either a (either b c)
either_assoc (Some true) b c = refl
either_assoc (Some false) b c = refl
either_assoc None (Some true) c = refl
either_assoc None (Some false) c = refl
either_assoc None None None = refl
either_assoc None None (Some true) = refl
either_assoc None None (Some false) = refl

compared-none : (c : Comparison) (x : Option Item) → compared c x None ≡ None
compared-none c None = refl
compared-none c (Some a) = refl

liked-none : (x : Option Item) → liked x None ≡ None
liked-none None = refl
liked-none (Some (truth a)) = refl
liked-none (Some (exact k a)) = refl
liked-none (Some (float t m a)) = refl
liked-none (Some (bits a)) = refl
liked-none (Some (text a)) = refl
liked-none (Some (binary_item a)) = refl

backslash : (x : Option Item) → pattern_of escape.Backslash x ≡ x
backslash None = refl
backslash (Some (truth a)) = refl
backslash (Some (exact k a)) = refl
backslash (Some (float t m a)) = refl
backslash (Some (bits a)) = refl
backslash (Some (text a)) = refl
backslash (Some (binary_item a)) = refl

distinct-none : (x : Option Item) → distinct x None ≡ Some (not_b (is_none x))
distinct-none None = refl
distinct-none (Some a) = refl

differs_or_null : (x : Option Item) (b : Item) → either (compared comparison.NotEq x (Some b)) (Some (is_none x)) ≡ distinct x (Some b)
differs_or_null None b = refl
differs_or_null (Some a) b = either-false (compared comparison.NotEq (Some a) (Some b))

distinct_turned : (x y : Option Item) → distinct y x ≡ distinct x y
distinct_turned None None = refl
distinct_turned None (Some b) = refl
distinct_turned (Some a) None = refl
distinct_turned (Some a) (Some b) = items_flipped comparison.NotEq a b

-- the value of a literal, if it is one
abbrev IsLiteral : Option (Option Item) → Option Item → Type 0
IsLiteral None v = Unit {0}
IsLiteral (Some w) v = w ≡ v

abbrev some_tree : Tree Place → Option (Tree Place)
some_tree t = Some t

same_some : (s t : Tree Place) → some_tree s ≡ some_tree t → s ≡ t
same_some s t h = cc

abbrev all_said : List (Tree Place) → Members
all_said es = Ok (Some es)

same_list : (s t : List (Tree Place)) → all_said s ≡ all_said t → s ≡ t
same_list s t h = cc

abbrev answered : Option (Tree Place) → Reading
answered o = Ok o

same_answer : (o p : Option (Tree Place)) → answered o ≡ answered p → o ≡ p
same_answer o p h = cc

-- a value of a type of truths is the truth that it stands for
bool_value : (l : Cells) (v : Option ScalarValue) (t : DType) → is_bool t ≡ true → is_optional_value v t ≡ true → v ≡ truth_value (truth_of (option_map (item_of l) v))
bool_value l None t b h = refl
bool_value l (Some (value.Bool a)) t b h = refl
bool_value l (Some (value.Primitive a)) (dtype.Bool n) b h = cc
bool_value l (Some (value.Primitive a)) t b h = cc
bool_value l (Some (value.Utf8 a)) (dtype.Bool n) b h = cc
bool_value l (Some (value.Utf8 a)) t b h = cc
bool_value l (Some (value.Binary a)) (dtype.Bool n) b h = cc
bool_value l (Some (value.Binary a)) t b h = cc

text_liked : (l : Cells) (v : Option ScalarValue) (t : DType) (bs : List ℕ) → is_utf8 t ≡ true → is_optional_value v t ≡ true
    → meanings.liked plain v (Some (value.Utf8 bs)) ≡ liked (option_map (item_of l) v) (Some (text bs))
text_liked l None t bs b h = refl
text_liked l (Some (value.Utf8 a)) t bs b h = refl
text_liked l (Some (value.Bool a)) (dtype.Utf8 n) bs b h = cc
text_liked l (Some (value.Bool a)) t bs b h = cc
text_liked l (Some (value.Primitive a)) (dtype.Utf8 n) bs b h = cc
text_liked l (Some (value.Primitive a)) t bs b h = cc
text_liked l (Some (value.Binary a)) (dtype.Utf8 n) bs b h = cc
text_liked l (Some (value.Binary a)) t bs b h = cc

none_item : (l : Cells) (v : Option ScalarValue) → is_none v ≡ is_none (option_map (item_of l) v)
none_item l None = refl
none_item l (Some v) = refl

abbrev some_field : Field → Option Field
some_field f = Some f

same_field : (f g : Field) → some_field f ≡ some_field g → f ≡ g
same_field f g h = cc

abbrev placed_field : SchemaData → Place → Field
placed_field s p = record { place = p; cells = listed (slice_get s.cells p.index) }

-- the place of a column
place_at : (s : SchemaData) (o : Option Place) (f : Field) → field_at s o ≡ Some f → o ≡ Some f.place
place_at s None f h = cc
place_at s (Some p) f h = ap (λ (g : Field). Some g.place) (same_field (placed_field s p) f h)

-- a column's values as another's, if their cells stand for the same
same_values : (l m : Cells) (v : Option ScalarValue) → are_same_cells l m ≡ true → option_map (item_of m) v ≡ option_map (item_of l) v
same_values l m None h = refl
same_values l m (Some v) h = ap Some (same_items l m v h)

by_test : {A : Type 0} (b : Bool) (x y : A) (P : A → Type 0) → (b ≡ true → P x) → (b ≡ false → P y) → P (if b then x else y)
by_test true x y P f g = f refl
by_test false x y P f g = g refl

module _ (s : SchemaData) (row more : List Constant) (n : ℕ) (is_row : IsRowOf s.scope row) where
  -- the expression means this truth
  abbrev Means : Tree Place → Option Bool → Type 0
  Means e b = meaning e (row ++ more) n ≡ truth_value b

  -- whatever is said means this truth
  abbrev SaysOf : Reading → Option Bool → Type 0
  SaysOf r b = (e : Tree Place) → r ≡ said e → Means e b

  from_said : (t : Tree Place) (b : Option Bool) → Means t b → SaysOf (said t) b
  from_said t b h e q = subst (λ x. Means x b) (same_said t e q) h

  from_unread : (b : Option Bool) → SaysOf unread b
  from_unread b e q = cc

  along : (r : Reading) (a b : Option Bool) → a ≡ b → SaysOf r a → SaysOf r b
  along r a b same h e q = h e q ∙ ap truth_value same

  null_says : (b : Option Bool) → b ≡ None → SaysOf (said (truth_literal None)) b
  null_says b h = along (said (truth_literal None)) None b (sym h) (from_said (truth_literal None) None refl)

  -- ---- two parts

  both_say : (x y : Tree Place) (a b : Option Bool) → Means x a → Means y b → Means (binary operator.And x y) (both a b)
  both_say x y a b h k = ap (λ v. truth_value (both (meanings.truth v) (meanings.truth (meaning y (row ++ more) n)))) h
      ∙ ap (λ v. truth_value (both (meanings.truth (truth_value a)) (meanings.truth v))) k
      ∙ ap (λ v. truth_value (both v (meanings.truth (truth_value b)))) (truth-value a)
      ∙ ap (λ v. truth_value (both a v)) (truth-value b)

  either_say : (x y : Tree Place) (a b : Option Bool) → Means x a → Means y b → Means (binary operator.Or x y) (either a b)
  either_say x y a b h k = ap (λ v. truth_value (either (meanings.truth v) (meanings.truth (meaning y (row ++ more) n)))) h
      ∙ ap (λ v. truth_value (either (meanings.truth (truth_value a)) (meanings.truth v))) k
      ∙ ap (λ v. truth_value (either v (meanings.truth (truth_value b)))) (truth-value a)
      ∙ ap (λ v. truth_value (either a v)) (truth-value b)

  and_says : (r q : Reading) (a b : Option Bool) → SaysOf r a → SaysOf q b → SaysOf (joined_by operator.And r q) (both a b)
  and_says (Ok (Some x)) (Ok (Some y)) a b h k = from_said _ _ (both_say x y a b (h x refl) (k y refl))
  and_says (Ok (Some x)) (Ok None) a b h k = λ e q. cc
  and_says (Ok None) (Ok q) a b h k = λ e q. cc
  and_says (Ok r) (Err f) a b h k = λ e q. cc
  and_says (Err f) q a b h k = λ e q. cc

  or_says : (r q : Reading) (a b : Option Bool) → SaysOf r a → SaysOf q b → SaysOf (joined_by operator.Or r q) (either a b)
  or_says (Ok (Some x)) (Ok (Some y)) a b h k = from_said _ _ (either_say x y a b (h x refl) (k y refl))
  or_says (Ok (Some x)) (Ok None) a b h k = λ e q. cc
  or_says (Ok None) (Ok q) a b h k = λ e q. cc
  or_says (Ok r) (Err f) a b h k = λ e q. cc
  or_says (Err f) q a b h k = λ e q. cc

  -- ---- literals

  whole_is : (x : ExactNumber) (b : Bool) → IsLiteral (whole_literal x b) (Some (exact_item x))
  whole_is x true = refl
  whole_is x false = tt

  literal_is : (x : Operand) → IsLiteral (literal_of x) (value_in s row x)
  literal_is (operand.Column name) = tt
  literal_is operand.Null = refl
  literal_is (operand.Truth b) = refl
  literal_is (operand.Exact x) = whole_is x (is_whole x)
  literal_is (operand.Float b) = tt
  literal_is (operand.Text bs) = refl
  literal_is (operand.Binary bs) = refl
  literal_is operand.Other = tt

  folded_says : (c : Comparison) (o : Option Ordering) → SaysOf (folded c o) (option_map (meanings.holds (operator_of c)) o)
  folded_says c (Some o) = from_said (truth_literal (Some (meanings.holds (operator_of c) o))) (Some (meanings.holds (operator_of c) o)) refl
  folded_says c None = λ e q. cc

  -- a float beside another value has no order
  order_says : (c : Comparison) (a b : Item) → SaysOf (folded c (item_cmp a b)) (item_holds c a b)
  order_says c (float t m a) (bits b) = λ e q. cc
  order_says c (bits a) (float t m b) = λ e q. cc
  order_says c (truth a) b = folded_says c (item_cmp (truth a) b)
  order_says c (exact k a) b = folded_says c (item_cmp (exact k a) b)
  order_says c (text a) b = folded_says c (item_cmp (text a) b)
  order_says c (binary_item a) b = folded_says c (item_cmp (binary_item a) b)
  order_says c (float t m a) (truth b) = λ e q. cc
  order_says c (float t m a) (exact k b) = λ e q. cc
  order_says c (float t m a) (float u n b) = λ e q. cc
  order_says c (float t m a) (text b) = λ e q. cc
  order_says c (float t m a) (binary_item b) = λ e q. cc
  order_says c (bits a) (truth b) = λ e q. cc
  order_says c (bits a) (exact k b) = λ e q. cc
  order_says c (bits a) (bits b) = λ e q. cc
  order_says c (bits a) (text b) = λ e q. cc
  order_says c (bits a) (binary_item b) = λ e q. cc

  literals_say : (c : Comparison) (i j : Option (Option Item)) (x y : Option Item) → IsLiteral i x → IsLiteral j y → SaysOf (literals c i j) (compared c x y)
  literals_say c (Some None) j x y h k = null_says (compared c x y) (ap (λ v. compared c v y) (sym h))
  literals_say c None (Some None) x y h k = null_says (compared c x y) (ap (compared c x) (sym k) ∙ compared-none c x)
  literals_say c (Some (Some a)) (Some None) x y h k = null_says (compared c x y) (ap (compared c x) (sym k) ∙ compared-none c x)
  literals_say c (Some (Some a)) (Some (Some b)) x y h k =
      along (folded c (item_cmp a b)) (compared c (Some a) (Some b)) (compared c x y) (ap (λ v. compared c v (Some b)) h ∙ ap (compared c x) k) (order_says c a b)
  literals_say c None None x y h k = λ e q. cc
  literals_say c None (Some (Some b)) x y h k = λ e q. cc
  literals_say c (Some (Some a)) None x y h k = λ e q. cc

  known_says : (b : Bool) (c : Option Bool) → Some b ≡ c → SaysOf (said (truth_literal (Some b))) c
  known_says b c h = along (said (truth_literal (Some b))) (Some b) c h (from_said (truth_literal (Some b)) (Some b) refl)

  distinct_literals_say : (i j : Option (Option Item)) (x y : Option Item) → IsLiteral i x → IsLiteral j y → SaysOf (distinct_literals i j) (distinct x y)
  distinct_literals_say (Some None) (Some None) x y h k = known_says false (distinct x y) (ap (λ v. distinct v None) h ∙ ap (distinct x) k)
  distinct_literals_say (Some None) (Some (Some b)) x y h k = known_says true (distinct x y) (ap (λ v. distinct v (Some b)) h ∙ ap (distinct x) k)
  distinct_literals_say (Some (Some a)) (Some None) x y h k = known_says true (distinct x y) (ap (λ v. distinct v None) h ∙ ap (distinct x) k)
  distinct_literals_say (Some (Some a)) (Some (Some b)) x y h k =
      along (folded comparison.NotEq (item_cmp a b)) (distinct (Some a) (Some b)) (distinct x y) (ap (λ v. distinct v (Some b)) h ∙ ap (distinct x) k) (order_says comparison.NotEq a b)
  distinct_literals_say None None x y h k = λ e q. cc
  distinct_literals_say None (Some b) x y h k = λ e q. cc
  distinct_literals_say (Some None) None x y h k = λ e q. cc
  distinct_literals_say (Some (Some a)) None x y h k = λ e q. cc

  literal_null_says : (i : Option (Option Item)) (x : Option Item) → IsLiteral i x → SaysOf (literal_null_test i) (Some (is_none x))
  literal_null_says None x h = λ e q. cc
  literal_null_says (Some v) x h = known_says (is_none v) (Some (is_none x)) (ap (λ w. Some (is_none w)) h)

  -- ---- comparisons

  -- a column with a literal
  compared_with : (c d : Comparison) (p : Place) (l : Constant) (b : Option Bool) (h : Holds row (row ++ more) p) → applied (operator_of d) h.value l.value ≡ b
      → Means (comparing d p (literal l)) b
  compared_with c d p l b h q = ap truth_value (ap (λ v. applied (operator_of d) v l.value) h.on_whole ∙ q)

  other_kind : (b : Bool) (r : Reading) (v : Option Bool) → SaysOf (of_fit OtherKind b r) v
  other_kind true r v = λ e p. cc
  other_kind false r v = λ e p. cc

  exact_says : (c : Comparison) (l : Option LogicalType) (p : Place) (q : PType) (m : Nullability) (x : ExactNumber) (h : Holds row (row ++ more) p) (w : KindFit) → kind_fit (kind_of l) x.kind ≡ w → is_optional_value h.value (dtype.Primitive q m) ≡ true
      → SaysOf (of_fit w (is_some l) (exact_reading c l p q (dtype.Primitive q m) x)) (compared c (option_map (item_of (cells_of l)) h.value) (Some (exact_item x)))
  exact_says c l p q m x h Same fit typed =
      let r = exact_test c l q x in
      let b = compared c (option_map (item_of (cells_of l)) h.value) (Some (exact_item x)) in
      by_test (nat_le x.scale 33) (said (testing r p q (dtype.Primitive q m))) unread (λ t. SaysOf t b)
      (λ short. from_said _ _ (compared_with c r.comparison p (record { dtype = dtype.Primitive q m; value = Some (value.Primitive (sized_in q r.number)) }) _ h (exact_compared c l q m x h.value fit typed)))
      (λ long e p. cc)
  exact_says c l p q m x h ByZone fit typed = λ e p. cc
  exact_says c l p q m x h OtherKind fit typed = other_kind (is_some l) (exact_reading c l p q (dtype.Primitive q m) x) (compared c (option_map (item_of (cells_of l)) h.value) (Some (exact_item x)))

  exact_literal_says : (c : Comparison) (l : Option LogicalType) (p : Place) (t : DType) (y : Operand) (h : Holds row (row ++ more) p) → is_optional_value h.value t ≡ true
      → SaysOf (exact_literal c l p t y) (compared c (option_map (item_of (cells_of l)) h.value) (value_in s row y))
  exact_literal_says c l p t operand.Other h typed = λ e q. cc
  exact_literal_says c l p t operand.Null h typed = null_says (compared c (option_map (item_of (cells_of l)) h.value) None) (compared-none c (option_map (item_of (cells_of l)) h.value))
  exact_literal_says c l p (dtype.Primitive q m) (operand.Exact x) h typed = exact_says c l p q m x h (kind_fit (kind_of l) x.kind) refl typed
  exact_literal_says c l p (dtype.Bool m) (operand.Truth b) h typed =
      from_said _ _ (compared_with c c p (record { dtype = dtype.Bool m; value = Some (value.Bool b) }) _ h (truth_compared c (cells_of l) m b h.value typed))
  exact_literal_says c l p (dtype.Utf8 m) (operand.Text bs) h typed =
      from_said _ _ (compared_with c c p (record { dtype = dtype.Utf8 m; value = Some (value.Utf8 bs) }) _ h (text_compared c (cells_of l) m bs h.value typed))
  exact_literal_says c l p (dtype.Binary m) (operand.Binary bs) h typed =
      from_said _ _ (compared_with c c p (record { dtype = dtype.Binary m; value = Some (value.Binary bs) }) _ h (binary_compared c (cells_of l) m bs h.value typed))
  exact_literal_says c l p t y h typed = λ e q. cc

  -- a column of floats with a float
  in_type_says : (d : Comparison) (k : ℤ) (p : Place) (q : PType) (m : Nullability) (o : Option PValue) (h : Holds row (row ++ more) p) → in_type q k ≡ o → is_optional_value h.value (dtype.Primitive q m) ≡ true
      → SaysOf (in_type_reading d p (dtype.Primitive q m) o) (cell_truth d k h.value)
  in_type_says d k p q m None h is typed = λ e r. cc
  in_type_says d k p q m (Some x) h is typed =
      from_said _ _ (compared_with d d p (record { dtype = dtype.Primitive q m; value = Some (value.Primitive x) }) _ h (number_compared d q m k x h.value is typed))

  cell_says : (d : Comparison) (k : ℤ) (p : Place) (q : PType) (m : Nullability) (h : Holds row (row ++ more) p) → is_optional_value h.value (dtype.Primitive q m) ≡ true
      → SaysOf (cell_reading d k p q (dtype.Primitive q m)) (cell_truth d k h.value)
  cell_says d k p q m h typed = in_type_says d k p q m (in_type q k) h refl typed

  below_says : (below : Option ℤ) (p : Place) (q : PType) (m : Nullability) (r : Reading) (a : Option Bool) (h : Holds row (row ++ more) p) → is_optional_value h.value (dtype.Primitive q m) ≡ true → SaysOf r a
      → SaysOf (below_reading below p q (dtype.Primitive q m) r) (bounded_truth below a h.value)
  below_says None p q m r a h typed says = says
  below_says (Some k) p q m r a h typed says = and_says r (cell_reading comparison.Lt k p q (dtype.Primitive q m)) a (cell_truth comparison.Lt k h.value) says (cell_says comparison.Lt k p q m h typed)

  float_says : (c : Comparison) (x : FloatType) (w : Option NanMeaning) (p : Place) (q : PType) (m : Nullability) (b : ℕ) (found : Option FloatTest) (h : Holds row (row ++ more) p) → IfSome found (SaysOfFloat x w c b) → is_optional_value h.value (dtype.Primitive q m) ≡ true
      → SaysOf (float_reading found p q (dtype.Primitive q m)) (compared c (option_map (item_of (Floats x w)) h.value) (Some (bits b)))
  float_says c x w p q m b None h says typed = λ e r. cc
  float_says c x w p q m b (Some t) h says typed =
      along (float_reading (Some t) p q (dtype.Primitive q m)) (float_truth t h.value) _ (float_compared c x w q m b t h.value says typed)
      (below_says t.below p q m (cell_reading t.test.comparison t.test.number p q (dtype.Primitive q m)) (cell_truth t.test.comparison t.test.number h.value) h typed (cell_says t.test.comparison t.test.number p q m h typed))

  float_literal_says : (c : Comparison) (x : FloatType) (w : Option NanMeaning) (p : Place) (t : DType) (y : Operand) (h : Holds row (row ++ more) p) → is_optional_value h.value t ≡ true
      → SaysOf (float_literal c x w p t y) (compared c (option_map (item_of (Floats x w)) h.value) (value_in s row y))
  float_literal_says c x w p t operand.Other h typed = λ e q. cc
  float_literal_says c x w p t operand.Null h typed = null_says (compared c (option_map (item_of (Floats x w)) h.value) None) (compared-none c (option_map (item_of (Floats x w)) h.value))
  float_literal_says c x w p (dtype.Primitive q m) (operand.Float b) h typed = float_says c x w p q m b (readings_of_floats.compared x w c b) h (compared_says x w c b) typed
  float_literal_says c x w p t y h typed = λ e q. cc

  cells_say : (c : Comparison) (k : Cells) (p : Place) (t : DType) (y : Operand) (h : Holds row (row ++ more) p) → is_optional_value h.value t ≡ true
      → SaysOf (cells_literal c k p t y) (compared c (option_map (item_of k) h.value) (value_in s row y))
  cells_say c Values p t y h typed = exact_literal_says c None p t y h typed
  cells_say c (Exact l) p t y h typed = exact_literal_says c (Some l) p t y h typed
  cells_say c (Floats x w) p t y h typed = float_literal_says c x w p t y h typed

  literal_says : (c : Comparison) (f : Field) (t : DType) (y : Operand) (h : Holds row (row ++ more) f.place) → is_optional_value h.value t ≡ true
      → SaysOf (with_literal c f t y) (compared c (option_map (item_of f.cells) h.value) (value_in s row y))
  literal_says c f t y h typed = cells_say c f.cells f.place t y h typed

  -- the column of a name has a value on the row
  field_holds : (name : List ℕ) (f : Field) → find_field s name ≡ Some f → Holds row (row ++ more) f.place
  field_holds name f is = column_holds s.scope row more name f.place is_row (place_at s (find_column s.scope name) f is)

  -- a column with another one
  places_say : (c : Comparison) (f g : Field) (h : Holds row (row ++ more) f.place) (k : Holds row (row ++ more) g.place) → (eq_ignore_nullability f.place.dtype g.place.dtype && are_same_cells f.cells g.cells) ≡ true
      → Means (comparing c f.place (column g.place)) (compared c (option_map (item_of f.cells) h.value) (option_map (item_of g.cells) k.value))
  places_say c f g h k both =
      let tests = both_true _ _ both in
      let types : as_nullable f.place.dtype ≡ as_nullable g.place.dtype = (dtype_eq_is_exact (as_nullable f.place.dtype) (as_nullable g.place.dtype)).0 tests.0 in
      let second : is_optional_value k.value (as_nullable f.place.dtype) ≡ true = ap (is_optional_value k.value) types ∙ weakened k.value g.place.dtype k.typed in
      ap truth_value (ap (λ v. applied (operator_of c) v (cell_value (slice_get (row ++ more) g.place.index))) h.on_whole
      ∙ ap (applied (operator_of c) h.value) k.on_whole
      ∙ cells_compared c f.cells g.cells h.value k.value f.place.dtype tests.1 (weakened h.value f.place.dtype h.typed) second
      ∙ ap (compared c (option_map (item_of f.cells) h.value)) (sym (same_values f.cells g.cells k.value tests.1)))

  unless_same : (b : Option Bool) (are_numbers : Bool) → SaysOf (if are_numbers then unread else Err Misfit) b
  unless_same b true = from_unread b
  unless_same b false = λ e q. cc

  place_says : (c : Comparison) (f : Field) (name : List ℕ) (o : Option Field) (h : Holds row (row ++ more) f.place) → find_field s name ≡ o
      → SaysOf (with_place c f o) (compared c (option_map (item_of f.cells) h.value) (field_value row o))
  place_says c f name None h is = λ e q. cc
  place_says c f name (Some g) h is =
      let k = field_holds name g is in
      let b = compared c (option_map (item_of f.cells) h.value) (option_map (item_of g.cells) (cell_value (slice_get row g.place.index))) in
      by_test (eq_ignore_nullability f.place.dtype g.place.dtype && are_same_cells f.cells g.cells) (said (comparing c f.place (column g.place))) (if readings.are_numbers f.place.dtype g.place.dtype then unread else Err Misfit) (λ r. SaysOf r b)
      (λ same. from_said _ _ (places_say c f g h k same ∙ ap (λ v. truth_value (compared c (option_map (item_of f.cells) h.value) (option_map (item_of g.cells) v))) (sym k.on_row)))
      (λ other. unless_same b (readings.are_numbers f.place.dtype g.place.dtype))

  operand_says : (c : Comparison) (f : Field) (y : Operand) (h : Holds row (row ++ more) f.place)
      → SaysOf (with_operand s c f y) (compared c (option_map (item_of f.cells) h.value) (value_in s row y))
  operand_says c f (operand.Column name) h = place_says c f name (find_field s name) h refl
  operand_says c f y h = literal_says c f f.place.dtype y h h.typed

  from_place_says : (c : Comparison) (name : List ℕ) (o : Option Field) (y : Operand) → find_field s name ≡ o
      → SaysOf (from_place s c o y) (compared c (field_value row o) (value_in s row y))
  from_place_says c name None operand.Null is = null_says (compared c None None) refl
  from_place_says c name None y is = λ e q. cc
  from_place_says c name (Some f) y is =
      let h = field_holds name f is in
      λ e q. operand_says c f y h e q ∙ ap (λ v. truth_value (compared c (option_map (item_of f.cells) v) (value_in s row y))) (sym h.on_row)

  literal_first : (c : Comparison) (x y : Operand) → SaysOf (from_literal s c x y) (compared c (value_in s row x) (value_in s row y))
  literal_first c x (operand.Column name) =
      λ e q. from_place_says (flipped c) name (find_field s name) x refl e q ∙ ap truth_value (flipped_compared c (value_in s row x) (value_in s row (operand.Column name)))
  literal_first c x y = literals_say c (literal_of x) (literal_of y) (value_in s row x) (value_in s row y) (literal_is x) (literal_is y)

  compare_typed_says : (c : Comparison) (x y : Operand) → SaysOf (compare_typed s c x y) (compared c (value_in s row x) (value_in s row y))
  compare_typed_says c (operand.Column name) y = from_place_says c name (find_field s name) y refl
  compare_typed_says c x y = literal_first c x y

  compare_says : (c : Comparison) (x y : Operand) → SaysOf (compare s c x y) (compared_on s row c x y)
  compare_says c x y = compare_typed_says c (beside s y x) (beside s x y)

  -- ---- other tests

  -- each expression means a truth, and one of these is true as the last argument says
  abbrev AnyOf : List (Tree Place) → Option Bool → Type 0
  AnyOf [] b = Some false ≡ b
  AnyOf (e ∷ es) b = (a : Option Bool) × (rest : Option Bool) × Means e a × AnyOf es rest × (either a rest ≡ b)

  any_along : (es : List (Tree Place)) (a b : Option Bool) → a ≡ b → AnyOf es a → AnyOf es b
  any_along es a b same h = subst (λ c. AnyOf es c) same h

  any_more : (es : List (Tree Place)) (e : Tree Place) (a b : Option Bool) → AnyOf es a → Means e b → AnyOf (es ++ e ∷ []) (either a b)
  any_more [] e a b h k = (b, Some false, k, refl, either-false b ∙ ap (λ c. either c b) h)
  any_more (t ∷ ts) e a b h k =
      (h.0, either h.1 b, h.2, any_more ts e h.1 b h.3 k, sym (either_assoc h.0 h.1 b) ∙ ap (λ c. either c b) h.4)

  any_paired : (es : List (Tree Place)) (b : Option Bool) → AnyOf es b → AnyOf (paired es) b
  any_paired [] b h = h
  any_paired (e ∷ []) b h = h
  any_paired (y ∷ t ∷ es) b h = (
    either h.0 h.3.0,
    h.3.1,
    either_say y t h.0 h.3.0 h.2 h.3.2,
    any_paired es h.3.1 h.3.3,
    either_assoc h.0 h.3.0 h.3.1 ∙ ap (either h.0) h.3.4 ∙ h.4,
  )

  any_in_turns : (n : ℕ) (es : List (Tree Place)) (b : Option Bool) → AnyOf es b → AnyOf (in_turns n es) b
  any_in_turns zero es b h = h
  any_in_turns (suc n) es b h = any_in_turns n (paired es) b (any_paired es b h)

  only_means : (es : List (Tree Place)) (e : Tree Place) (b : Option Bool) → length es ≤ 1 → first_of es ≡ Some e → AnyOf es b → Means e b
  only_means [] e b few is h = cc
  only_means (t ∷ []) e b few is h =
      let same : either h.0 (Some false) ≡ b = ap (either h.0) h.3 ∙ h.4 in
      subst (λ x. Means x b) (same_some t e is) (h.2 ∙ ap truth_value (sym (either-false h.0) ∙ same))
  only_means (y ∷ t ∷ es) e b few is h = absurd (omega arith)

  abbrev MembersSay : Members → Option Bool → Type 0
  MembersSay m b = (es : List (Tree Place)) → m ≡ all_said es → AnyOf es b

  with_member_says : (m : Members) (r : Reading) (a b : Option Bool) → MembersSay m a → SaysOf r b → MembersSay (with_member m r) (either a b)
  with_member_says (Ok (Some es)) (Ok (Some e)) a b h k = λ ts q. subst (λ x. AnyOf x (either a b)) (same_list (es ++ e ∷ []) ts q) (any_more es e a b (h es refl) (k e refl))
  with_member_says (Ok (Some es)) (Ok None) a b h k = λ ts q. cc
  with_member_says (Ok None) (Ok r) a b h k = λ ts q. cc
  with_member_says (Ok m) (Err f) a b h k = λ ts q. cc
  with_member_says (Err f) r a b h k = λ ts q. cc

  members_say : (x : Operand) (m : Members) (a : Option Bool) (ys : List Operand) → MembersSay m a
      → MembersSay (members_from s x m ys) (either a (among_on s row x ys))
  members_say x m a [] h = λ es q. any_along es a (either a (Some false)) (sym (either-false a)) (h es q)
  members_say x m a (y ∷ ys) h =
      let here = compared_on s row comparison.Eq x y in
      let rest = among_on s row x ys in
      let next = with_member m (compare s comparison.Eq x y) in
      λ es q. any_along es _ _ (either_assoc a here rest)
      (members_say x next (either a here) ys (with_member_says m (compare s comparison.Eq x y) a here h (compare_says comparison.Eq x y)) es q)

  any_says : (m : Members) (b : Option Bool) → MembersSay m b → SaysOf (any_of m) b
  any_says (Ok (Some es)) b h = λ e q.
      only_means (in_turns (length es) es) e b (one_left (length es) es (omega arith)) (same_answer (joined es) (Some e) q) (any_in_turns (length es) es b (h es refl))
  any_says (Ok None) b h = λ e q. cc
  any_says (Err f) b h = λ e q. cc

  no_members : MembersSay (Ok (Some [])) (Some false)
  no_members es q = subst (λ x. AnyOf x (Some false)) (same_list [] es q) refl

  member_says : (x : Operand) (ys : List Operand) → SaysOf (member s x ys) (among_on s row x ys)
  member_says x ys = any_says (members_from s x (Ok (Some [])) ys) (among_on s row x ys)
      (members_say x (Ok (Some [])) (Some false) ys no_members)

  as_truth_says : (name : List ℕ) (o : Option Field) → find_field s name ≡ o → SaysOf (as_truth o) (truth_of (field_value row o))
  as_truth_says name None is = λ e q. cc
  as_truth_says name (Some f) is =
      let h = field_holds name f is in
      let b = truth_of (option_map (item_of f.cells) (cell_value (slice_get row f.place.index))) in
      by_test (is_bool f.place.dtype) (said (column f.place)) (Err Misfit) (λ r. SaysOf r b)
      (λ bool. from_said _ _ (h.on_whole ∙ bool_value f.cells h.value f.place.dtype bool h.typed ∙ ap (λ v. truth_value (truth_of (option_map (item_of f.cells) v))) (sym h.on_row)))
      (λ other e q. cc)

  truth_says : (x : Operand) → SaysOf (readings.truth s x) (truth_of (value_in s row x))
  truth_says (operand.Column name) = as_truth_says name (find_field s name) refl
  truth_says operand.Null = from_said (truth_literal None) None refl
  truth_says (operand.Truth b) = from_said (truth_literal (Some b)) (Some b) refl
  truth_says operand.Other = λ e q. cc
  truth_says x = λ e q. cc

  null_at_says : (name : List ℕ) (o : Option Field) → find_field s name ≡ o → SaysOf (as_null_test o) (Some (is_none (field_value row o)))
  null_at_says name None is = λ e q. cc
  null_at_says name (Some f) is =
      let h = field_holds name f is in
      let v = cell_value (slice_get row f.place.index) in
      from_said (is_null (column f.place)) (Some (is_none (option_map (item_of f.cells) v))) (ap (λ b. Some (value.Bool b)) (ap is_none (h.on_whole ∙ sym h.on_row) ∙ none_item f.cells v))

  null_test_says : (x : Operand) → SaysOf (null_test s x) (Some (is_none (value_in s row x)))
  null_test_says (operand.Column name) = null_at_says name (find_field s name) refl
  null_test_says x = literal_null_says (literal_of x) (value_in s row x) (literal_is x)

  -- ---- IS DISTINCT FROM

  is_null_means : (f : Field) (h : Holds row (row ++ more) f.place) → Means (is_null (column f.place)) (Some (is_none (option_map (item_of f.cells) h.value)))
  is_null_means f h = ap (λ v. Some (value.Bool (is_none v))) h.on_whole ∙ ap (λ b. Some (value.Bool b)) (none_item f.cells h.value)

  is_not_null_means : (f : Field) (h : Holds row (row ++ more) f.place) → Means (is_not_null (column f.place)) (Some (not_b (is_none (option_map (item_of f.cells) h.value))))
  is_not_null_means f h = ap (λ v. Some (value.Bool (not_b (is_none v)))) h.on_whole ∙ ap (λ b. Some (value.Bool (not_b b))) (none_item f.cells h.value)

  differs : (f : Field) (y : Operand) (b : Item) (h : Holds row (row ++ more) f.place) → value_in s row y ≡ Some b
      → SaysOf (joined_by operator.Or (with_literal comparison.NotEq f f.place.dtype y) (said (is_null (column f.place)))) (distinct (option_map (item_of f.cells) h.value) (value_in s row y))
  differs f y b h is =
      let x = option_map (item_of f.cells) h.value in
      let w = value_in s row y in
      along (joined_by operator.Or (with_literal comparison.NotEq f f.place.dtype y) (said (is_null (column f.place)))) (either (compared comparison.NotEq x w) (Some (is_none x))) (distinct x w)
      (ap (λ v. either (compared comparison.NotEq x v) (Some (is_none x))) is ∙ differs_or_null x b ∙ ap (distinct x) (sym is))
      (or_says (with_literal comparison.NotEq f f.place.dtype y) (said (is_null (column f.place))) (compared comparison.NotEq x w) (Some (is_none x))
      (literal_says comparison.NotEq f f.place.dtype y h h.typed) (from_said (is_null (column f.place)) (Some (is_none x)) (is_null_means f h)))

  other_unread : (r : Reading) (b : Option Bool) → SaysOf (joined_by operator.Or unread r) b
  other_unread (Ok a) b = λ e q. cc
  other_unread (Err f) b = λ e q. cc

  other_literal : (c : Comparison) (k : Cells) (p : Place) (t : DType) → cells_literal c k p t operand.Other ≡ unread
  other_literal c Values p t = refl
  other_literal c (Exact l) p t = refl
  other_literal c (Floats x w) p t = refl

  distinct_from_says : (f : Field) (y : Operand) (h : Holds row (row ++ more) f.place) → SaysOf (distinct_from f y) (distinct (option_map (item_of f.cells) h.value) (value_in s row y))
  distinct_from_says f (operand.Column name) h = λ e q. cc
  distinct_from_says f operand.Null h =
      let x = option_map (item_of f.cells) h.value in
      along (said (is_not_null (column f.place))) (Some (not_b (is_none x))) (distinct x None) (sym (distinct-none x))
      (from_said (is_not_null (column f.place)) (Some (not_b (is_none x))) (is_not_null_means f h))
  distinct_from_says f (operand.Truth b) h = differs f (operand.Truth b) (truth b) h refl
  distinct_from_says f (operand.Exact x) h = differs f (operand.Exact x) (exact_item x) h refl
  distinct_from_says f (operand.Float b) h = differs f (operand.Float b) (bits b) h refl
  distinct_from_says f (operand.Text bs) h = differs f (operand.Text bs) (text bs) h refl
  distinct_from_says f (operand.Binary bs) h = differs f (operand.Binary bs) (binary_item bs) h refl
  distinct_from_says f operand.Other h =
      let r = said (is_null (column f.place)) in
      λ e q. other_unread r (distinct (option_map (item_of f.cells) h.value) None) e (ap (λ u. joined_by operator.Or u r) (sym (other_literal comparison.NotEq f.cells f.place f.place.dtype)) ∙ q)

  distinct_at_says : (name : List ℕ) (o : Option Field) (y : Operand) → find_field s name ≡ o
      → SaysOf (distinct_at o y) (distinct (field_value row o) (value_in s row y))
  distinct_at_says name None y is = λ e q. cc
  distinct_at_says name (Some f) y is =
      let h = field_holds name f is in
      λ e q. distinct_from_says f y h e q ∙ ap (λ v. truth_value (distinct (option_map (item_of f.cells) v) (value_in s row y))) (sym h.on_row)

  distinct_from_literal_says : (x y : Operand) → SaysOf (distinct_from_literal s x y) (distinct (value_in s row x) (value_in s row y))
  distinct_from_literal_says x (operand.Column name) =
      λ e q. distinct_at_says name (find_field s name) x refl e q ∙ ap truth_value (distinct_turned (value_in s row x) (value_in s row (operand.Column name)))
  distinct_from_literal_says x y = distinct_literals_say (literal_of x) (literal_of y) (value_in s row x) (value_in s row y) (literal_is x) (literal_is y)

  distinct_typed_says : (x y : Operand) → SaysOf (distinct_typed s x y) (distinct (value_in s row x) (value_in s row y))
  distinct_typed_says (operand.Column name) y = distinct_at_says name (find_field s name) y refl
  distinct_typed_says x y = distinct_from_literal_says x y

  distinct_says : (x y : Operand) → SaysOf (distinct_test s x y) (distinct (value_in s row (beside s y x)) (value_in s row (beside s x y)))
  distinct_says x y = distinct_typed_says (beside s y x) (beside s x y)

  -- ---- BETWEEN and LIKE

  -- a column types no column
  typed_column : (k : Cells) (name : List ℕ) → typed_as k (operand.Column name) ≡ operand.Column name
  typed_column Values name = refl
  typed_column (Exact t) name = refl
  typed_column (Floats t m) name = refl

  typed_by_column : (o : Option Field) (name : List ℕ) → typed_by o (operand.Column name) ≡ operand.Column name
  typed_by_column None name = refl
  typed_by_column (Some f) name = typed_column f.cells name

  beside_column : (y : Operand) (name : List ℕ) → beside s y (operand.Column name) ≡ operand.Column name
  beside_column (operand.Column other) name = typed_by_column (find_field s other) name
  beside_column y name = refl

  column_stays : (y : Operand) (name : List ℕ) → value_in s row (beside s y (operand.Column name)) ≡ field_value row (find_field s name)
  column_stays y name = ap (value_in s row) (beside_column y name)

  -- so a range's lower end
  ordered_says : (name : List ℕ) (o : Option Field) (y : Operand) → find_field s name ≡ o
      → SaysOf (from_place s comparison.Gte (option_map ordered_field o) y) (compared comparison.Gte (field_value row o) (value_in s row y))
  ordered_says name None operand.Null is = null_says (compared comparison.Gte None None) refl
  ordered_says name None y is = λ e q. cc
  ordered_says name (Some f) y is =
      let h = field_holds name f is in
      λ e q. operand_says comparison.Gte (ordered_field f) y h e q
      ∙ ap truth_value (ordered_compared comparison.Gte f.cells h.value (value_in s row y))
      ∙ ap (λ v. truth_value (compared comparison.Gte (option_map (item_of f.cells) v) (value_in s row y))) (sym h.on_row)

  at_least_says : (x l y : Operand) → SaysOf (at_least s x l y) (compared_on s row comparison.Gte x l)
  at_least_says (operand.Column name) l (operand.Float b) =
      λ e q. ordered_says name (find_field s name) (beside s (operand.Column name) l) refl e q
      ∙ ap (λ v. truth_value (compared comparison.Gte v (value_in s row (beside s (operand.Column name) l)))) (sym (column_stays l name))
  at_least_says x l y = compare_says comparison.Gte x l

  between_says : (x l u : Operand) → SaysOf (between_test s x l u) (within_on s row x l u)
  between_says x l u =
      and_says (at_least s x l (beside s x u)) (compare s comparison.Lte x u) (compared_on s row comparison.Gte x l) (compared_on s row comparison.Lte x u)
      (at_least_says x l (beside s x u)) (compare_says comparison.Lte x u)

  like_says : (name bs : List ℕ) (o : Option Field) → find_field s name ≡ o → SaysOf (like_place o bs) (liked (field_value row o) (Some (text bs)))
  like_says name bs None is = λ e q. cc
  like_says name bs (Some f) is =
      let h = field_holds name f is in
      let b = liked (option_map (item_of f.cells) (cell_value (slice_get row f.place.index))) (Some (text bs)) in
      by_test (is_utf8 f.place.dtype) (said (like plain (column f.place) (constant (dtype.Utf8 NonNullable) (value.Utf8 bs)))) (Err Misfit) (λ r. SaysOf r b)
      (λ utf8. from_said _ _ (ap (λ v. truth_value (meanings.liked plain v (Some (value.Utf8 bs)))) h.on_whole
      ∙ ap truth_value (text_liked f.cells h.value f.place.dtype bs utf8 h.typed)
      ∙ ap (λ v. truth_value (liked (option_map (item_of f.cells) v) (Some (text bs)))) (sym h.on_row)))
      (λ other e q. cc)

  pattern_says : (x p : Operand) → SaysOf (pattern_test s x p) (liked (value_in s row x) (value_in s row p))
  pattern_says (operand.Column name) (operand.Text bs) = like_says name bs (find_field s name) refl
  pattern_says x operand.Null = null_says (liked (value_in s row x) None) (liked-none (value_in s row x))
  pattern_says x p = λ e q. cc

  like_test_says : (x p : Operand) → SaysOf (pattern_test s x p) (liked (value_in s row x) (pattern_of escape.Backslash (value_in s row p)))
  like_test_says x p = along (pattern_test s x p) _ _ (ap (liked (value_in s row x)) (sym (backslash (value_in s row p)))) (pattern_says x p)

  test_says : (t : Test) → SaysOf (reading s t) (test_truth s row t)
  test_says (test.Truth x) = truth_says x
  test_says (test.Compare c x y) = compare_says c x y
  test_says (test.Distinct x y) = distinct_says x y
  test_says (test.IsNull x) = null_test_says x
  test_says (test.Between x l u) = between_says x l u
  test_says (test.BetweenSymmetric x l u) =
      or_says (between_test s x l u) (between_test s x u l) (within_on s row x l u) (within_on s row x u l)
      (between_says x l u) (between_says x u l)
  test_says (test.In x ys) = member_says x ys
  test_says (test.Like x p escape.Backslash) = like_test_says x p
  test_says (test.Like x p (escape.Byte b)) = λ e q. cc
  test_says (test.Like x p escape.Nothing) = λ e q. cc
  test_says test.Other = λ e q. cc

  -- ---- whole conditions

  column_told : (k : ℕ) (f : Leaf → Option Bool) (l : Leaf) → slice_get (row ++ more) k ≡ Some (told_cell (f l)) → Means (opaque_tree k) (f l)
  column_told k f l h = ap cell_value h

  leaf_says : (k : ℕ) (f : Leaf → Option Bool) (l : Leaf) (r : Reading) (a : Option Bool) → SaysOf r a → Told (row ++ more) k f (opaque_if r l)
      → Means (leaf_tree k r) (leaf_truth r a (f l))
  leaf_says k f l (Ok (Some t)) a h told = h t refl
  leaf_says k f l (Ok None) a h told = column_told k f l told.0
  leaf_says k f l (Err e) a h told = column_told k f l told.0

  known-true : (a : Option Bool) → not_b (is_none (truth_value (either a None))) ≡ is_known_as true a
  known-true None = refl
  known-true (Some true) = refl
  known-true (Some false) = refl

  known-false : (a : Option Bool) → not_b (is_none (truth_value (both a None))) ≡ is_known_as false a
  known-false None = refl
  known-false (Some true) = refl
  known-false (Some false) = refl

  true-known : (a : Option Bool) → both a (Some (not_b (is_none a))) ≡ Some (is_known_as true a)
  true-known None = refl
  true-known (Some true) = refl
  true-known (Some false) = refl

  false-known : (a : Option Bool) → both (opposite a) (Some (not_b (is_none a))) ≡ Some (is_known_as false a)
  false-known None = refl
  false-known (Some true) = refl
  false-known (Some false) = refl

  not_says : (e : Tree Place) (a : Option Bool) → Means e a → Means (not e) (opposite a)
  not_says e a h = ap (λ v. truth_value (opposite (meanings.truth v))) h ∙ ap (λ v. truth_value (opposite v)) (truth-value a)

  known_means : (e : Tree Place) (a : Option Bool) → Means e a → Means (is_not_null e) (Some (not_b (is_none a)))
  known_means e a h = ap (λ v. Some (value.Bool (not_b (is_none v)))) h ∙ ap (λ b. Some (value.Bool (not_b b))) (none-value a)

  is_true_says : (once : Bool) (e : Tree Place) (a : Option Bool) → Means e a → Means (is_true_tree once e) (Some (is_known_as true a))
  is_true_says true e a h =
      ap (λ v. Some (value.Bool (not_b (is_none v)))) (either_say e (truth_literal None) a None h refl) ∙ ap (λ b. Some (value.Bool b)) (known-true a)
  is_true_says false e a h = both_say e (is_not_null e) a (Some (not_b (is_none a))) h (known_means e a h) ∙ ap truth_value (true-known a)

  is_false_says : (once : Bool) (e : Tree Place) (a : Option Bool) → Means e a → Means (is_false_tree once e) (Some (is_known_as false a))
  is_false_says true e a h =
      ap (λ v. Some (value.Bool (not_b (is_none v)))) (both_say e (truth_literal None) a None h refl) ∙ ap (λ b. Some (value.Bool b)) (known-false a)
  is_false_says false e a h =
      both_say (not e) (is_not_null e) (opposite a) (Some (not_b (is_none a))) (not_says e a h) (known_means e a h) ∙ ap truth_value (false-known a)

  condition_says : (f : Leaf → Option Bool) (k : ℕ) (c : Condition) → Told (row ++ more) k f (opaques s c) → Means (lowered s k c) (truth_on s row f c)
  condition_says f k (Leaf' l) told = leaf_says k f l (reading s l.test) (test_truth s row l.test) (test_says l.test) told
  condition_says f k (Not' p x) told = not_says (lowered s k x) (truth_on s row f x) (condition_says f k x told)
  condition_says f k (And' p x q y) told =
      both_say (lowered s k x) (lowered s (k + length (opaques s x)) y) (truth_on s row f x) (truth_on s row f y) (condition_says f k x (told-left (row ++ more) k f (opaques s x) (opaques s y) told))
      (condition_says f (k + length (opaques s x)) y (told-right (row ++ more) k f (opaques s x) (opaques s y) told))
  condition_says f k (Or' p x q y) told =
      either_say (lowered s k x) (lowered s (k + length (opaques s x)) y) (truth_on s row f x) (truth_on s row f y) (condition_says f k x (told-left (row ++ more) k f (opaques s x) (opaques s y) told))
      (condition_says f (k + length (opaques s x)) y (told-right (row ++ more) k f (opaques s x) (opaques s y) told))
  condition_says f k (IsNull' p x) told = ap (λ v. Some (value.Bool (is_none v))) (condition_says f k x told) ∙ ap (λ b. Some (value.Bool b)) (none-value (truth_on s row f x))
  condition_says f k (IsTrue' p x) told = is_true_says (has_truth_test x) (lowered s k x) (truth_on s row f x) (condition_says f k x told)
  condition_says f k (IsFalse' p x) told = is_false_says (has_truth_test x) (lowered s k x) (truth_on s row f x) (condition_says f k x told)

-- on each row, whatever is told of the leaves that aren't read
pub lowered_says : (s : SchemaData) (c : Condition) (k : ℕ) → k ≡ length s.scope → Says s c (lowered s k c)
lowered_says s c k long row f n is_row =
    let ls = opaques s c in
    let same : length row ≡ k = sym (same_length s.scope row is_row) ∙ sym long in
    let P : ℕ → Type 0 = λ j. Told (with_told row f ls) j f ls in
    condition_says s row _ n is_row f k c (subst P same (told row f ls))
