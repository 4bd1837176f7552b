-- What a predicate pushed down is satisfied by: the rows where the given one has the wanted truth.
use Rattle.std.proofs.Common.{◌≡◌, ◌<◌, ◌^◌, ℕ, Bool, true, false, not as not_b, ◌&&◌, ◌||◌, ⊎_elim, List, [], Option, Some, None, Result, Ok, Err, IsOk, IsTrue, refl, sym, ap, ap₂, ◌∙◌, subst₂, if◌then◌else◌}
use Rattle.std.specs.Prelude.{encode_utf8_all, is_none}
use Rattle.std.specs.Str.{chars, is_utf8}
use Rattle.std.proofs.lemmas.Bool.{and_parts, or_parts}
use Rattle.std.proofs.lemmas.Option.{same_Some, none-some}
use Rattle.std.specs.declared.cmp.Ordering.{Ordering}
use Rattle.std.specs.Ordering.{is_lt, is_eq, is_gt}
use Rattle.std.specs.Cmp.{tied_itself}
use Rattle.vortex_base.proofs.Data.OrderLemmas.{value_cmp-total}
use Rattle.vortex_expr.proofs.Meanings.MeaningFits.{meaning-fits}
use Rattle.vortex_expr.specs.Trees.Between.{to_operator}
use Rattle.vortex_base.specs.Data.Columns.{IsRow}
use Rattle.vortex_base.specs.Data.Scalars.{Constant, is_optional_value}
use Rattle.vortex_base.specs.Data.Types.{as_nullable}
use Rattle.vortex_base.specs.Data.Values.{value_cmp}
use Rattle.vortex_expr.specs.Meanings.Fitting.{fits_row}
use Rattle.vortex_expr.specs.Meanings.Meaning.{applied, both, compared, either, holds, is_true, liked as liked_values, meaning, opposite, satisfies, truth, truth_value, within}
use Rattle.vortex_expr.specs.Meanings.RowTest.{is_wanted}
use Rattle.vortex_expr.specs.Meanings.Typing.{is_bool, is_utf8 as is_text_type, like_type, type_if, type_of, with_types}
use Rattle.vortex_expr.specs.Patterns.Like.{items, like as like_items, like_text}
use Rattle.vortex_expr.specs.Patterns.Prefix.{is_exact, literal_prefix, successor}
use Rattle.vortex_expr.specs.declared.like.Item.{Item}
use Rattle.vortex_expr.specs.Trees.Tree.{Tree, Place, column, literal, binary, between, is_null, is_not_null, not, like, stat, row_count, has_bare_column, has_row_count}
use Rattle.vortex_base.specs.declared.dtype.DType.{DType}
use Rattle.vortex_base.specs.declared.dtype.DType.TheVariants as dtype
use Rattle.vortex_base.specs.declared.error.BaseError.{BaseError}
use Rattle.vortex_expr.specs.declared.like.LikeOptions.{LikeOptions}
use Rattle.vortex_base.specs.declared.scalar_value.ScalarValue.{ScalarValue}
use Rattle.vortex_base.specs.declared.scalar_value.ScalarValue.TheVariants as value
use Rattle.vortex_expr.specs.declared.scalar_fn.Operator.{Operator}
use Rattle.vortex_expr.specs.declared.scalar_fn.Operator.TheVariants.{Eq, NotEq, Gt, Gte, Lt, Lte, And, Or}
use Rattle.vortex_expr.specs.declared.scalar_fn.StrictComparison.{StrictComparison}
use Rattle.vortex_expr.specs.declared.scalar_fn.StrictComparison.TheVariants.{Strict, NonStrict}
use Rattle.vortex_rewrite.proofs.Completeness.Decided.{comparison_applied}
use Rattle.vortex_rewrite.proofs.Completeness.Interval.{is_comparison}
use Rattle.vortex_base.specs.Data.Exact.{both_hold}
use Rattle.vortex_rewrite.proofs.Rewriting.ProofTypes.{are_alike, operands_compare}
use Rattle.vortex_rewrite.proofs.Soundness.TruthLogic.{true_and, true_or, truth_back}
use Rattle.vortex_rewrite.specs.Rewriting.Predicates.{has_type, is_connective, is_predicate}
use Rattle.vortex_rewrite.specs.Rewriting.Falsifiers.{bytes_literal, text_in, text_of}
use Rattle.vortex_normal.specs.Ends.{ended}
use Rattle.vortex_normal.specs.Pushed.{all_by, all_of, any_by, any_of, any_text, are_runs, as_comparisons, begins, comparison, comparison_of, connected, decided, folded, is_beginning, is_last_raised, is_null_literal, is_reflexive, items_matched, like_as, liked, null_test, operator_as, pushed, same_text, settled, text_matched}
use Rattle.vortex_normal.proofs.TypeEnds.{AreAlike, ended_told, operands_alike}
use Rattle.vortex_normal.proofs.Forms.{comparison_as, folded_as, liked_as, settled_as}
use Rattle.vortex_normal.proofs.Matched.{given_if}
use Rattle.vortex_normal.proofs.Texts.{exact_told, range_told, runs_like}
use Rattle.vortex_normal.proofs.Steps.{lower_fits, operand, sides, typed, upper_fits}

-- ---- wanted truths

pub not_not : (b : Bool) → b ≡ not_b (not_b b)
not_not true = refl
not_not false = refl

pub and_true : (b : Bool) → (b && true) ≡ b
and_true true = refl
and_true false = refl

pub and_false : (b : Bool) → (b && false) ≡ false
and_false true = refl
and_false false = refl

pub or_true : (b : Bool) → (b || true) ≡ true
or_true true = refl
or_true false = refl

pub or_false : (b : Bool) → (b || false) ≡ b
or_false true = refl
or_false false = refl

abbrev pub joined : (is_and : Bool) → Bool → Bool → Bool
joined true a b = a && b
joined false a b = a || b

wanted_both : (w : Bool) (a b : Option Bool) → joined w (is_wanted w a) (is_wanted w b) ≡ is_wanted w (both a b)
wanted_both true (Some true) b = refl
wanted_both true (Some false) b = refl
wanted_both true None (Some true) = refl
wanted_both true None (Some false) = refl
wanted_both true None None = refl
wanted_both false (Some true) b = refl
wanted_both false (Some false) b = refl
wanted_both false None (Some true) = refl
wanted_both false None (Some false) = refl
wanted_both false None None = refl

wanted_either : (w : Bool) (a b : Option Bool) → joined (not_b w) (is_wanted w a) (is_wanted w b) ≡ is_wanted w (either a b)
wanted_either true (Some true) b = refl
wanted_either true (Some false) b = refl
wanted_either true None (Some true) = refl
wanted_either true None (Some false) = refl
wanted_either true None None = refl
wanted_either false (Some true) b = refl
wanted_either false (Some false) b = refl
wanted_either false None (Some true) = refl
wanted_either false None (Some false) = refl
wanted_either false None None = refl

pub wanted_opposite : (w : Bool) (a : Option Bool) → is_wanted (not_b w) a ≡ is_wanted w (opposite a)
wanted_opposite true None = refl
wanted_opposite true (Some b) = refl
wanted_opposite false None = refl
wanted_opposite false (Some b) = not_not b

pub yes : (a : Option Bool) → is_true (truth_value a) ≡ is_wanted true a
yes None = refl
yes (Some b) = refl

-- ---- comparisons

holds_as : (w : Bool) (o : Operator) (r : Ordering) → is_comparison o ≡ true → holds (operator_as w o) r ≡ is_wanted w (Some (holds o r))
holds_as true o r c = refl
holds_as false Eq r c = refl
holds_as false NotEq r c = not_not (is_eq r)
holds_as false Gt r c = refl
holds_as false Gte r c = not_not (is_lt r)
holds_as false Lt r c = refl
holds_as false Lte r c = not_not (is_gt r)
holds_as false And r c = cc
holds_as false Or r c = cc

null_unwanted : (w : Bool) → false ≡ is_wanted w None
null_unwanted true = refl
null_unwanted false = refl

compared_as : (w : Bool) (o : Operator) (a b : Option ScalarValue) → is_comparison o ≡ true → is_wanted true (compared (operator_as w o) a b) ≡ is_wanted w (compared o a b)
compared_as w o (Some a) (Some b) c = holds_as w o (value_cmp a b) c
compared_as w o (Some a) None c = null_unwanted w
compared_as w o None b c = null_unwanted w

pub still_compares : (w : Bool) (o : Operator) → is_comparison o ≡ true → is_comparison (operator_as w o) ≡ true
still_compares true o c = c
still_compares false Eq c = refl
still_compares false NotEq c = refl
still_compares false Gt c = refl
still_compares false Gte c = refl
still_compares false Lt c = refl
still_compares false Lte c = refl
still_compares false And c = cc
still_compares false Or c = cc

pub end_compares : (s : StrictComparison) → is_comparison (to_operator s) ≡ true
end_compares Strict = refl
end_compares NonStrict = refl

-- null is in no comparison, and a value compares with itself as equal
none_right : (o : Operator) (a : Option ScalarValue) → false ≡ is_wanted true (compared o a None)
none_right o None = refl
none_right o (Some a) = refl

itself : (o : Operator) (b : Bool) (a : Option ScalarValue) → is_reflexive o ≡ b → (if b then not_b (is_none a) else false) ≡ is_wanted true (compared o a a)
itself o true None e = refl
itself o false None e = refl
itself o true (Some a) e = sym e ∙ sym (ap (holds o) (tied_itself value_cmp-total a))
itself o false (Some a) e = sym e ∙ sym (ap (holds o) (tied_itself value_cmp-total a))

-- a column of type Bool, compared with a truth
truth_compared : (w : Bool) (v : Option ScalarValue) → is_true (truth_value (compared Eq v (Some (value.Bool w)))) ≡ is_wanted w (truth v)
truth_compared true None = refl
truth_compared false None = refl
truth_compared true (Some (value.Bool true)) = refl
truth_compared true (Some (value.Bool false)) = refl
truth_compared false (Some (value.Bool true)) = refl
truth_compared false (Some (value.Bool false)) = refl
truth_compared true (Some (value.Primitive p)) = refl
truth_compared false (Some (value.Primitive p)) = refl
truth_compared true (Some (value.Utf8 bs)) = refl
truth_compared false (Some (value.Utf8 bs)) = refl
truth_compared true (Some (value.Binary bs)) = refl
truth_compared false (Some (value.Binary bs)) = refl

-- ---- LIKE

-- null or a text, which is UTF-8
abbrev IsTextOrNull : Option ScalarValue → Type 0
IsTextOrNull None = Unit {0}
IsTextOrNull (Some (value.Utf8 bs)) = is_utf8 bs ≡ true
IsTextOrNull (Some v) = ⊥

text_value : (v : Option ScalarValue) (t : DType) → is_text_type t ≡ true → is_optional_value v (as_nullable t) ≡ true → IsTextOrNull v
text_value None t u h = tt
text_value (Some (value.Utf8 bs)) (dtype.Utf8 n) u h = h
text_value (Some (value.Bool b)) (dtype.Utf8 n) u h = cc
text_value (Some (value.Primitive p)) (dtype.Utf8 n) u h = cc
text_value (Some (value.Binary bs)) (dtype.Utf8 n) u h = cc
text_value v dtype.Null u h = cc
text_value v (dtype.Bool n) u h = cc
text_value v (dtype.Primitive p n) u h = cc
text_value v (dtype.Binary n) u h = cc
text_value v (dtype.MinMaxState e n) u h = cc

text_alike : (v : Option ScalarValue) (bs : List ℕ) → IsTextOrNull v → AreAlike v (Some (value.Utf8 bs))
text_alike None bs h = tt
text_alike (Some (value.Utf8 as')) bs h = tt
text_alike (Some (value.Bool b)) bs h = absurd h
text_alike (Some (value.Primitive p)) bs h = absurd h
text_alike (Some (value.Binary as')) bs h = absurd h

end_connects : (s : StrictComparison) → is_connective (to_operator s) ≡ false
end_connects Strict = refl
end_connects NonStrict = refl

negated_match : (b m : Bool) → (if not_b b then not_b m else m) ≡ not_b (if b then not_b m else m)
negated_match true m = not_not m
negated_match false m = refl

liked_as_wanted : (w : Bool) (o : LikeOptions) (a b : Option ScalarValue) → IsTextOrNull a → IsTextOrNull b → is_wanted true (liked_values (like_as w o) a b) ≡ is_wanted w (liked_values o a b)
liked_as_wanted true o a b h k = refl
liked_as_wanted false o None b h k = refl
liked_as_wanted false o (Some (value.Utf8 x)) None h k = refl
liked_as_wanted false o (Some (value.Utf8 x)) (Some (value.Utf8 p)) h k = negated_match o.negated (like_text o.case_insensitive p x)
liked_as_wanted false o (Some (value.Utf8 x)) (Some (value.Bool c)) h k = absurd k
liked_as_wanted false o (Some (value.Utf8 x)) (Some (value.Primitive p)) h k = absurd k
liked_as_wanted false o (Some (value.Utf8 x)) (Some (value.Binary p)) h k = absurd k
liked_as_wanted false o (Some (value.Bool c)) b h k = absurd h
liked_as_wanted false o (Some (value.Primitive p)) b h k = absurd h
liked_as_wanted false o (Some (value.Binary bs)) b h k = absurd h

-- a text matches the items as is wanted
abbrev is_matched : (wanted : Bool) → List Item → Option ScalarValue → Bool
is_matched w is (Some (value.Utf8 t)) = is_wanted w (Some (like_items is (chars t)))
is_matched w is v = false

both_known : (w a b : Bool) → is_wanted w (both (Some a) (Some b)) ≡ is_wanted w (Some (a && b))
both_known w true b = refl
both_known w false b = refl

same_matched : (w : Bool) (is : List Item) (v : Option ScalarValue) → IsTextOrNull v → is_exact is ≡ true → is_wanted w (compared Eq v (Some (value.Utf8 (encode_utf8_all (literal_prefix is))))) ≡ is_matched w is v
same_matched w is None u e = sym (null_unwanted w)
same_matched w is (Some (value.Utf8 t)) u e = ap (λ b. is_wanted w (Some b)) (exact_told is t u e)
same_matched w is (Some (value.Bool b)) u e = absurd u
same_matched w is (Some (value.Primitive p)) u e = absurd u
same_matched w is (Some (value.Binary bs)) u e = absurd u

range_matched : (w : Bool) (is : List Item) (ds : List ℕ) (v : Option ScalarValue) → IsTextOrNull v → is_beginning is ≡ true → is_last_raised (literal_prefix is) ≡ true → successor (literal_prefix is) ≡ Some ds
    → is_wanted w (both (compared Gte v (Some (value.Utf8 (encode_utf8_all (literal_prefix is))))) (compared Lt v (Some (value.Utf8 (encode_utf8_all ds))))) ≡ is_matched w is v
range_matched w is ds None u e r s = sym (null_unwanted w)
range_matched w is ds (Some (value.Utf8 t)) u e r s = both_known w _ _ ∙ ap (λ b. is_wanted w (Some b)) (range_told is t ds u e r s)
range_matched w is ds (Some (value.Bool b)) u e r s = absurd u
range_matched w is ds (Some (value.Primitive p)) u e r s = absurd u
range_matched w is ds (Some (value.Binary bs)) u e r s = absurd u

-- each text matches runs alone, and none fails to

some_matched : (is : List Item) (v : Option ScalarValue) → IsTextOrNull v → is_exact is ≡ false → are_runs is ≡ true → not_b (is_none v) ≡ is_matched true is v
some_matched is None u e r = refl
some_matched is (Some (value.Utf8 t)) u e r = sym (ap (λ b. is_wanted true (Some b)) (runs_like is (chars t) e r))
some_matched is (Some (value.Bool b)) u e r = absurd u
some_matched is (Some (value.Primitive p)) u e r = absurd u
some_matched is (Some (value.Binary bs)) u e r = absurd u

none_matched : (is : List Item) (v : Option ScalarValue) → IsTextOrNull v → is_exact is ≡ false → are_runs is ≡ true → false ≡ is_matched false is v
none_matched is None u e r = refl
none_matched is (Some (value.Utf8 t)) u e r = sym (ap (λ b. is_wanted false (Some b)) (runs_like is (chars t) e r))
none_matched is (Some (value.Bool b)) u e r = absurd u
none_matched is (Some (value.Primitive p)) u e r = absurd u
none_matched is (Some (value.Binary bs)) u e r = absurd u

wanted_negated : (b m : Bool) → is_wanted (not_b b) (Some m) ≡ is_wanted true (Some (if b then not_b m else m))
wanted_negated true m = refl
wanted_negated false m = refl

-- a LIKE that regards case
matched_liked : (o : LikeOptions) (bs : List ℕ) (v : Option ScalarValue) → o.case_insensitive ≡ false → is_matched (not_b o.negated) (items (chars bs)) v ≡ is_wanted true (liked_values o v (Some (value.Utf8 bs)))
matched_liked o bs None c = refl
matched_liked o bs (Some (value.Utf8 t)) c = wanted_negated o.negated (like_text false bs t) ∙ ap (λ b. if o.negated then not_b (like_text b bs t) else like_text b bs t) (sym c)
matched_liked o bs (Some (value.Bool b)) c = refl
matched_liked o bs (Some (value.Primitive p)) c = refl
matched_liked o bs (Some (value.Binary b)) c = refl

none_liked : (o : LikeOptions) (a : Option ScalarValue) → false ≡ is_wanted true (liked_values o a None)
none_liked o None = refl
none_liked o (Some a) = refl

-- the types of the operands of LIKE
record AreTexts (a b : Result DType BaseError) : Type 0 where
  pub text_type : DType
  pub pattern_type : DType
  pub text : a ≡ Ok text_type
  pub pattern : b ≡ Ok pattern_type
  pub text_is : is_text_type text_type ≡ true
  pub pattern_is : is_text_type pattern_type ≡ true

only_if : (b : Bool) (t : DType) → has_type is_bool (type_if b t) ≡ true → b ≡ true
only_if true t h = refl
only_if false t h = cc

texts_of : (a b : Result DType BaseError) → has_type is_bool (with_types like_type a b) ≡ true → AreTexts a b
texts_of (Ok s) (Ok t) h =
    let k = and_parts (is_text_type s) (is_text_type t) (only_if (is_text_type s && is_text_type t) _ h) in
    record { text_type = s; pattern_type = t; text = refl; pattern = refl; text_is = k.0; pattern_is = k.1 }
texts_of (Ok s) (Err f) h = absurd cc
texts_of (Err f) b h = absurd cc

module _ (row : List Constant) (n : ℕ) where
  -- ---- an expression without columns and row counts means the same on every row

  meaning_settled : (e : Tree Place) → has_bare_column e ≡ false → has_row_count e ≡ false → meaning e [] 0 ≡ meaning e row n
  meaning_settled (column c) h k = cc
  meaning_settled (literal c) h k = refl
  meaning_settled (binary o l r) h k =
      let a = or_parts (has_bare_column l) (has_bare_column r) h in
      let b = or_parts (has_row_count l) (has_row_count r) k in
      ap₂ (λ u v. truth_value (applied o u v)) (meaning_settled l a.0 b.0) (meaning_settled r a.1 b.1)
  meaning_settled (between o x l u) h k =
      let a = or_parts (has_bare_column x) (has_bare_column l || has_bare_column u) h in
      let b = or_parts (has_row_count x) (has_row_count l || has_row_count u) k in
      let c = or_parts (has_bare_column l) (has_bare_column u) a.1 in
      let d = or_parts (has_row_count l) (has_row_count u) b.1 in
      let ex = meaning_settled x a.0 b.0 in
      let el = meaning_settled l c.0 d.0 in
      let eu = meaning_settled u c.1 d.1 in
      λ i. truth_value (within o (ex i) (el i) (eu i))
  meaning_settled (is_null x) h k = ap (λ v. Some (value.Bool (is_none v))) (meaning_settled x h k)
  meaning_settled (is_not_null x) h k = ap (λ v. Some (value.Bool (not_b (is_none v)))) (meaning_settled x h k)
  meaning_settled (not x) h k = ap (λ v. truth_value (opposite (truth v))) (meaning_settled x h k)
  meaning_settled (like o x p) h k =
      let a = or_parts (has_bare_column x) (has_bare_column p) h in
      let b = or_parts (has_row_count x) (has_row_count p) k in
      ap₂ (λ u v. truth_value (liked_values o u v)) (meaning_settled x a.0 b.0) (meaning_settled p a.1 b.1)
  meaning_settled (stat f x) h k = refl
  meaning_settled row_count h k = cc

  -- ---- leaves

  pub settled_told : (q : Tree Place) → satisfies (settled q) row n ≡ satisfies q row n
  settled_told q = settled_as (λ e. satisfies e row n ≡ satisfies q row n) q refl (λ h k. ap is_true (meaning_settled q h k))

  null_meaning : (e : Tree Place) → is_null_literal e ≡ true → meaning e row n ≡ None
  null_meaning (literal c) h = no_value c.value h
    where
      no_value : (v : Option ScalarValue) → is_none v ≡ true → v ≡ None
      no_value None h = refl
      no_value (Some v) h = cc
  null_meaning (column c) h = cc
  null_meaning (binary o l r) h = cc
  null_meaning (between o x l u) h = cc
  null_meaning (is_null x) h = cc
  null_meaning (is_not_null x) h = cc
  null_meaning (not x) h = cc
  null_meaning (like o x p) h = cc
  null_meaning (stat f x) h = cc
  null_meaning row_count h = cc

  of_told : (o : Operator) (l r : Tree Place) → is_comparison o ≡ true → AreAlike (meaning l row n) (meaning r row n) → satisfies (comparison_of o l r) row n ≡ is_wanted true (compared o (meaning l row n) (meaning r row n))
  of_told o l r c k =
      let a = meaning l row n in
      let b = meaning r row n in
      comparison_as (λ e. satisfies e row n ≡ is_wanted true (compared o (meaning l row n) (meaning r row n))) o l r
      (⊎_elim
      (λ h. sym (ap (λ v. is_wanted true (compared o v (meaning r row n))) (null_meaning l h)))
      (λ h. none_right o (meaning l row n) ∙ sym (ap (λ v. is_wanted true (compared o (meaning l row n) v)) (null_meaning r h))))
      (λ same h. settled_told (is_not_null l) ∙ itself o true (meaning l row n) h ∙ ap (λ e. is_wanted true (compared o (meaning l row n) (meaning e row n))) same)
      (λ same h. itself o false (meaning l row n) h ∙ ap (λ e. is_wanted true (compared o (meaning l row n) (meaning e row n))) same)
      (settled_told (ended o l r)
      ∙ ended_told row n o l r k (ap (λ t. is_true (truth_value t)) (comparison_applied o (meaning l row n) (meaning r row n) c) ∙ yes (compared o (meaning l row n) (meaning r row n))))

  folded_meaning : (e : Tree Place) → meaning (folded e) row n ≡ meaning e row n
  folded_meaning e = folded_as (λ x. meaning x row n ≡ meaning e row n) e refl (λ h _ k. meaning_settled e h k)

  comparison_told : (o : Operator) (l r : Tree Place) → is_comparison o ≡ true → AreAlike (meaning l row n) (meaning r row n) → satisfies (comparison o l r) row n ≡ is_wanted true (compared o (meaning l row n) (meaning r row n))
  unfolding comparison
  comparison_told o l r c k =
      of_told o (folded l) (folded r) c (subst₂ (λ a b. AreAlike a b) (sym (folded_meaning l)) (sym (folded_meaning r)) k) ∙ ap₂ (λ a b. is_wanted true (compared o a b)) (folded_meaning l) (folded_meaning r)

  -- the comparison with its operator as is wanted
  turned_told : (w : Bool) (o : Operator) (l r : Tree Place) → is_comparison o ≡ true → AreAlike (meaning l row n) (meaning r row n) → satisfies (comparison (operator_as w o) l r) row n ≡ is_wanted w (compared o (meaning l row n) (meaning r row n))
  turned_told w o l r c k = comparison_told (operator_as w o) l r (still_compares w o c) k ∙ compared_as w o (meaning l row n) (meaning r row n) c

  null_told : (w : Bool) (x : Tree Place) → satisfies (null_test w x) row n ≡ is_wanted w (Some (is_none (meaning x row n)))
  null_told true x = settled_told (is_null x)
  null_told false x = settled_told (is_not_null x)

  null_turned : (w b : Bool) → is_wanted (not_b w) (Some b) ≡ is_wanted w (Some (not_b b))
  null_turned true b = refl
  null_turned false b = not_not b

  -- ---- connectives

  decided_told : (e : Tree Place) (b : Bool) → decided e ≡ Some b → satisfies e row n ≡ b
  decided_told (literal c) b h = same_Some _ _ h
  decided_told (column c) b h = absurd (none-some b h)
  decided_told (binary o l r) b h = absurd (none-some b h)
  decided_told (between o x l u) b h = absurd (none-some b h)
  decided_told (is_null x) b h = absurd (none-some b h)
  decided_told (is_not_null x) b h = absurd (none-some b h)
  decided_told (not x) b h = absurd (none-some b h)
  decided_told (like o x p) b h = absurd (none-some b h)
  decided_told (stat f x) b h = absurd (none-some b h)
  decided_told row_count b h = absurd (none-some b h)

  all_told : (l r : Tree Place) (a b : Option Bool) → decided l ≡ a → decided r ≡ b → satisfies (all_by a b l r) row n ≡ (satisfies l row n && satisfies r row n)
  all_told l r (Some true) b h k = sym (ap (λ t. t && satisfies r row n) (decided_told l true h))
  all_told l r (Some false) b h k = decided_told l false h ∙ sym (ap (λ t. t && satisfies r row n) (decided_told l false h))
  all_told l r None (Some true) h k = sym (and_true (satisfies l row n)) ∙ sym (ap (λ t. satisfies l row n && t) (decided_told r true k))
  all_told l r None (Some false) h k = decided_told r false k ∙ sym (and_false (satisfies l row n)) ∙ sym (ap (λ t. satisfies l row n && t) (decided_told r false k))
  all_told l r None None h k = true_and (meaning l row n) (meaning r row n)

  any_told : (l r : Tree Place) (a b : Option Bool) → decided l ≡ a → decided r ≡ b → satisfies (any_by a b l r) row n ≡ (satisfies l row n || satisfies r row n)
  any_told l r (Some true) b h k = decided_told l true h ∙ sym (ap (λ t. t || satisfies r row n) (decided_told l true h))
  any_told l r (Some false) b h k = sym (ap (λ t. t || satisfies r row n) (decided_told l false h))
  any_told l r None (Some true) h k = decided_told r true k ∙ sym (or_true (satisfies l row n)) ∙ sym (ap (λ t. satisfies l row n || t) (decided_told r true k))
  any_told l r None (Some false) h k = sym (or_false (satisfies l row n)) ∙ sym (ap (λ t. satisfies l row n || t) (decided_told r false k))
  any_told l r None None h k = true_or (meaning l row n) (meaning r row n)

  pub connected_told : (w : Bool) (l r : Tree Place) → satisfies (connected w l r) row n ≡ joined w (satisfies l row n) (satisfies r row n)
  unfolding all_of any_of
  connected_told true l r = all_told l r (decided l) (decided r) refl refl
  connected_told false l r = any_told l r (decided l) (decided r) refl refl

  -- two that are told, connected
  two_told : (v w : Bool) (l r : Tree Place) (a b c : Bool) → satisfies l row n ≡ a → satisfies r row n ≡ b → joined v a b ≡ c → satisfies (connected v l r) row n ≡ c
  two_told v w l r a b c h k e = connected_told v l r ∙ ap₂ (joined v) h k ∙ e

  -- ---- LIKE

  text_meaning : (p : Tree Place) (bs : List ℕ) → text_in p ≡ Some bs → meaning p row n ≡ Some (value.Utf8 bs)
  text_meaning (literal c) bs h = by_value c.value h
    where
      by_value : (v : Option ScalarValue) → text_of v ≡ Some bs → v ≡ Some (value.Utf8 bs)
      by_value (Some (value.Utf8 b)) h = ap (λ x. Some (value.Utf8 x)) (same_Some _ _ h)
      by_value None h = absurd (none-some bs h)
      by_value (Some (value.Bool b)) h = absurd (none-some bs h)
      by_value (Some (value.Primitive q)) h = absurd (none-some bs h)
      by_value (Some (value.Binary b)) h = absurd (none-some bs h)
  text_meaning (column c) bs h = absurd (none-some bs h)
  text_meaning (binary o l r) bs h = absurd (none-some bs h)
  text_meaning (between o x l u) bs h = absurd (none-some bs h)
  text_meaning (is_null x) bs h = absurd (none-some bs h)
  text_meaning (is_not_null x) bs h = absurd (none-some bs h)
  text_meaning (not x) bs h = absurd (none-some bs h)
  text_meaning (like o x p) bs h = absurd (none-some bs h)
  text_meaning (stat f x) bs h = absurd (none-some bs h)
  text_meaning row_count bs h = absurd (none-some bs h)

  module _ (x : Tree Place) (text : IsTextOrNull (meaning x row n)) where
    same_told : (w : Bool) (is : List Item) → is_exact is ≡ true → satisfies (same_text w x (encode_utf8_all (literal_prefix is))) row n ≡ is_matched w is (meaning x row n)
    same_told w is e = turned_told w Eq x (bytes_literal (encode_utf8_all (literal_prefix is))) refl (text_alike (meaning x row n) _ text) ∙ same_matched w is (meaning x row n) text e

    all_texts_told : (w : Bool) (is : List Item) → is_exact is ≡ false → are_runs is ≡ true → satisfies (any_text w x) row n ≡ is_matched w is (meaning x row n)
    all_texts_told true is wild runs = settled_told (is_not_null x) ∙ some_matched is (meaning x row n) text wild runs
    all_texts_told false is wild runs = none_matched is (meaning x row n) text wild runs

    begins_told : (w : Bool) (is : List Item) (s : Option (List ℕ)) (e : Tree Place) → is_beginning is ≡ true → is_last_raised (literal_prefix is) ≡ true → successor (literal_prefix is) ≡ s
        → begins w x (literal_prefix is) s ≡ Some e → satisfies e row n ≡ is_matched w is (meaning x row n)
    begins_told w is None e b r s h = absurd (none-some e h)
    begins_told w is (Some ds) e b r s h =
        let from = value.Utf8 (encode_utf8_all (literal_prefix is)) in
        let below = value.Utf8 (encode_utf8_all ds) in
        sym (ap (λ q. satisfies q row n) (same_Some _ _ h))
        ∙ two_told w w (comparison (operator_as w Gte) x (bytes_literal (encode_utf8_all (literal_prefix is)))) (comparison (operator_as w Lt) x (bytes_literal (encode_utf8_all ds))) _ _ _
        (turned_told w Gte x (bytes_literal (encode_utf8_all (literal_prefix is))) refl (text_alike (meaning x row n) _ text)) (turned_told w Lt x (bytes_literal (encode_utf8_all ds)) refl (text_alike (meaning x row n) _ text))
        (wanted_both w (compared Gte (meaning x row n) (Some from)) (compared Lt (meaning x row n) (Some below)) ∙ range_matched w is ds (meaning x row n) text b r s)

    items_told : (w : Bool) (is : List Item) (e : Tree Place) → items_matched w x is ≡ Some e → satisfies e row n ≡ is_matched w is (meaning x row n)
    items_told w is =
        let begun : Option (Tree Place) = if is_beginning is && is_last_raised (literal_prefix is) then begins w x (literal_prefix is) (successor (literal_prefix is)) else None in
        given_if (λ e. satisfies e row n ≡ is_matched w is (meaning x row n)) (is_exact is) (Some (same_text w x (encode_utf8_all (literal_prefix is))))
        (if are_runs is then Some (any_text w x) else begun)
        (λ exact e h. sym (ap (λ q. satisfies q row n) (same_Some _ _ h)) ∙ same_told w is exact)
        (λ wild. given_if (λ e. satisfies e row n ≡ is_matched w is (meaning x row n)) (are_runs is) (Some (any_text w x)) begun
        (λ runs e h. sym (ap (λ q. satisfies q row n) (same_Some _ _ h)) ∙ all_texts_told w is wild runs)
        (λ _. given_if (λ e. satisfies e row n ≡ is_matched w is (meaning x row n)) (is_beginning is && is_last_raised (literal_prefix is)) (begins w x (literal_prefix is) (successor (literal_prefix is))) None
        (λ b e h. let k = and_parts (is_beginning is) (is_last_raised (literal_prefix is)) b in begins_told w is (successor (literal_prefix is)) e k.0 k.1 refl h)
        (λ _ e h. absurd (none-some e h))))

    text_told : (o : LikeOptions) (p : Tree Place) (t : Option (List ℕ)) (e : Tree Place) → o.case_insensitive ≡ false → text_in p ≡ t → text_matched (not_b o.negated) x t ≡ Some e
        → satisfies e row n ≡ is_wanted true (liked_values o (meaning x row n) (meaning p row n))
    text_told o p None e c k h = absurd (none-some e h)
    text_told o p (Some bs) e c k h =
        items_told (not_b o.negated) (items (chars bs)) e h
        ∙ matched_liked o bs (meaning x row n) c
        ∙ sym (ap (λ v. is_wanted true (liked_values o (meaning x row n) v)) (text_meaning p bs k))

    comparisons_told : (o : LikeOptions) (p e : Tree Place) → as_comparisons o x p ≡ Some e → satisfies e row n ≡ is_wanted true (liked_values o (meaning x row n) (meaning p row n))
    comparisons_told o p =
        given_if (λ e. satisfies e row n ≡ is_wanted true (liked_values o (meaning x row n) (meaning p row n))) o.case_insensitive None (text_matched (not_b o.negated) x (text_in p))
        (λ _ e h. absurd (none-some e h))
        (λ c e h. text_told o p (text_in p) e c refl h)

  liked_told : (o : LikeOptions) (x p : Tree Place) → IsTextOrNull (meaning x row n) → satisfies (liked o x p) row n ≡ is_wanted true (liked_values o (meaning x row n) (meaning p row n))
  liked_told o x p text =
      liked_as (λ e. satisfies e row n ≡ is_wanted true (liked_values o (meaning x row n) (meaning p row n))) o x p
      (⊎_elim
      (λ h. sym (ap (λ v. is_wanted true (liked_values o v (meaning p row n))) (null_meaning x h)))
      (λ h. none_liked o (meaning x row n) ∙ sym (ap (λ v. is_wanted true (liked_values o (meaning x row n) v)) (null_meaning p h))))
      (comparisons_told x text o p)
      (λ _. settled_told (like o x p) ∙ yes (liked_values o (meaning x row n) (meaning p row n)))

  -- ---- the whole

  module _ (is_row : IsRow row) (small : n < 2 ^ 64) where
    operand_text : (x : Tree Place) (t : DType) → type_of x ≡ Ok t → is_text_type t ≡ true → fits_row x row ≡ true → IsTextOrNull (meaning x row n)
    operand_text x t e u f = text_value (meaning x row n) t u (meaning-fits x row n t e is_row f small)

    compares_alike : (o : Operator) (l r : Tree Place) → is_connective o ≡ false → IsOk (type_of (binary o l r)) → (fits_row l row && fits_row r row) ≡ true → AreAlike (meaning l row n) (meaning r row n)
    compares_alike o l r c t f =
        let g = and_parts (fits_row l row) (fits_row r row) f in
        operands_alike row n l r (are_alike l r (operands_compare o o l r refl c t)) is_row g.0 g.1 small

    binary_told : (w : Bool) (o : Operator) (l r : Tree Place) → is_comparison o ≡ true → AreAlike (meaning l row n) (meaning r row n) → satisfies (comparison (operator_as w o) l r) row n ≡ is_wanted w (truth (truth_value (applied o (meaning l row n) (meaning r row n))))
    binary_told w o l r c k =
        turned_told w o l r c k
        ∙ sym (ap (is_wanted w) (truth_back (applied o (meaning l row n) (meaning r row n)) ∙ comparison_applied o (meaning l row n) (meaning r row n) c))

    pub pushed_told : (w : Bool) (e : Tree Place) → is_predicate e ≡ true → fits_row e row ≡ true → satisfies (pushed w e) row n ≡ is_wanted w (truth (meaning e row n))
    pushed_told w (column c) p f = truth_compared w (meaning (column c) row n)
    pushed_told w (literal c) p f = refl
    pushed_told w (binary And l r) p f =
        let q = sides And l r refl p in
        let g = and_parts (fits_row l row) (fits_row r row) f in
        two_told w w (pushed w l) (pushed w r) _ _ _ (pushed_told w l q.0 g.0) (pushed_told w r q.1 g.1) (wanted_both w (truth (meaning l row n)) (truth (meaning r row n)))
        ∙ sym (ap (is_wanted w) (truth_back (both (truth (meaning l row n)) (truth (meaning r row n)))))
    pushed_told w (binary Or l r) p f =
        let q = sides Or l r refl p in
        let g = and_parts (fits_row l row) (fits_row r row) f in
        two_told (not_b w) w (pushed w l) (pushed w r) _ _ _ (pushed_told w l q.0 g.0) (pushed_told w r q.1 g.1) (wanted_either w (truth (meaning l row n)) (truth (meaning r row n)))
        ∙ sym (ap (is_wanted w) (truth_back (either (truth (meaning l row n)) (truth (meaning r row n)))))
    pushed_told w (binary Eq l r) p f = binary_told w Eq l r refl (compares_alike Eq l r refl (typed (binary Eq l r) p) f)
    pushed_told w (binary NotEq l r) p f = binary_told w NotEq l r refl (compares_alike NotEq l r refl (typed (binary NotEq l r) p) f)
    pushed_told w (binary Gt l r) p f = binary_told w Gt l r refl (compares_alike Gt l r refl (typed (binary Gt l r) p) f)
    pushed_told w (binary Gte l r) p f = binary_told w Gte l r refl (compares_alike Gte l r refl (typed (binary Gte l r) p) f)
    pushed_told w (binary Lt l r) p f = binary_told w Lt l r refl (compares_alike Lt l r refl (typed (binary Lt l r) p) f)
    pushed_told w (binary Lte l r) p f = binary_told w Lte l r refl (compares_alike Lte l r refl (typed (binary Lte l r) p) f)
    pushed_told w (between o x l u) p f =
        let lower = to_operator o.lower_strict in
        let upper = to_operator o.upper_strict in
        let ok : IsOk (type_of (between o x l u)) = typed (between o x l u) p in
        let g = and_parts (fits_row x row) (fits_row l row && fits_row u row) f in
        let h = and_parts (fits_row l row) (fits_row u row) g.1 in
        let low = compares_alike lower l x (end_connects o.lower_strict) (lower_fits true o x l u lower lower refl refl ok) (both_hold _ _ h.0 g.0) in
        let high = compares_alike upper x u (end_connects o.upper_strict) (upper_fits true o x l u upper upper refl refl ok) (both_hold _ _ g.0 h.1) in
        two_told w w (comparison (operator_as w lower) l x) (comparison (operator_as w upper) x u) _ _ _
        (turned_told w lower l x (end_compares o.lower_strict) low) (turned_told w upper x u (end_compares o.upper_strict) high)
        (wanted_both w (compared lower (meaning l row n) (meaning x row n)) (compared upper (meaning x row n) (meaning u row n)))
        ∙ sym (ap (is_wanted w) (truth_back (both (compared lower (meaning l row n) (meaning x row n)) (compared upper (meaning x row n) (meaning u row n)))))
    pushed_told w (is_null x) p f = null_told w x
    pushed_told w (is_not_null x) p f = null_told (not_b w) x ∙ null_turned w (is_none (meaning x row n))
    pushed_told w (not x) p f =
        pushed_told (not_b w) x (operand (not x) x refl p) f
        ∙ wanted_opposite w (truth (meaning x row n))
        ∙ sym (ap (is_wanted w) (truth_back (opposite (truth (meaning x row n)))))
    pushed_told w (like o x q) p f =
        let t = texts_of (type_of x) (type_of q) p in
        let g = and_parts (fits_row x row) (fits_row q row) f in
        liked_told (like_as w o) x q (operand_text x t.text_type t.text t.text_is g.0)
        ∙ liked_as_wanted w o (meaning x row n) (meaning q row n) (operand_text x t.text_type t.text t.text_is g.0) (operand_text q t.pattern_type t.pattern t.pattern_is g.1)
        ∙ sym (ap (is_wanted w) (truth_back (liked_values o (meaning x row n) (meaning q row n))))
    pushed_told true (stat g x) p f = refl
    pushed_told false (stat g x) p f = refl
    pushed_told true row_count p f = refl
    pushed_told false row_count p f = refl

pub wanted_true : (v : Option ScalarValue) → is_wanted true (truth v) ≡ is_true v
wanted_true None = refl
wanted_true (Some (value.Bool b)) = refl
wanted_true (Some (value.Primitive p)) = refl
wanted_true (Some (value.Utf8 bs)) = refl
wanted_true (Some (value.Binary bs)) = refl

-- pushed down, a predicate is satisfied where it was
pub pushed_same : (e : Tree Place) → IsTrue (is_predicate e) → (row : List Constant) (n : ℕ) → IsRow row → IsTrue (fits_row e row) → n < 2 ^ 64 → satisfies (pushed true e) row n ≡ satisfies e row n
pushed_same e p row n r f small = pushed_told row n r small true e p f ∙ wanted_true (meaning e row n)
