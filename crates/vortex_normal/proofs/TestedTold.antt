-- What a tested predicate is satisfied by: the rows where the truth of the given one passes.
use Rattle.std.proofs.Common.{◌≡◌, ◌<◌, ◌^◌, ℕ, zero, suc, Bool, true, false, not as not_b, ◌&&◌, ◌||◌, List, Option, Some, None, Result, Ok, Err, IsTrue, refl, sym, ap, ap₂, ◌∙◌, subst, if◌then◌else◌}
use Rattle.std.specs.Prelude.{is_none}
use Rattle.std.proofs.lemmas.Bool.{and_parts}
use Rattle.std.proofs.lemmas.Option.{same_Some, none-some}
use Rattle.vortex_expr.proofs.Meanings.MeaningFits.{meaning-fits}
use Rattle.vortex_expr.specs.Trees.Between.{to_operator}
use Rattle.vortex_base.specs.Data.Columns.{IsRow}
use Rattle.vortex_base.specs.Data.Scalars.{Constant, is_optional_value}
use Rattle.vortex_base.specs.Data.Types.{as_nullable}
use Rattle.vortex_base.specs.Data.Values.{value_cmp}
use Rattle.vortex_base.specs.declared.dtype.DType.{DType}
use Rattle.vortex_base.specs.declared.dtype.DType.TheVariants as dtype
use Rattle.vortex_base.specs.declared.error.BaseError.{BaseError}
use Rattle.vortex_base.specs.declared.scalar_value.ScalarValue.{ScalarValue}
use Rattle.vortex_base.specs.declared.scalar_value.ScalarValue.TheVariants as value
use Rattle.vortex_expr.specs.Meanings.Fitting.{fits_row}
use Rattle.vortex_expr.specs.Meanings.Meaning.{applied, both, compared, either, holds, is_like, liked, meaning, opposite, satisfies, truth, truth_value, unless_null}
use Rattle.vortex_expr.specs.Meanings.RowTest.{is_wanted}
use Rattle.vortex_expr.specs.Meanings.Typing.{is_bool, type_of}
use Rattle.vortex_expr.specs.Trees.Tree.{Tree, Place, column, literal, binary, between, is_null, is_not_null, not, like, stat, row_count}
use Rattle.vortex_expr.specs.declared.scalar_fn.BetweenOptions.{BetweenOptions}
use Rattle.vortex_expr.specs.declared.scalar_fn.Operator.{Operator}
use Rattle.vortex_expr.specs.declared.scalar_fn.Operator.TheVariants.{Eq, NotEq, Gt, Gte, Lt, Lte, And, Or}
use Rattle.vortex_rewrite.proofs.Completeness.Decided.{comparison_applied}
use Rattle.vortex_rewrite.proofs.Completeness.Interval.{is_comparison}
use Rattle.vortex_rewrite.proofs.Soundness.TruthLogic.{true_and, true_or, truth_back}
use Rattle.vortex_rewrite.specs.Rewriting.Predicates.{has_type, is_predicate}
use Rattle.vortex_normal.specs.Intervals.{swapped}
use Rattle.vortex_normal.specs.Pushed.{or_not}
use Rattle.vortex_normal.specs.Tested.{IsTestOf, between_tested, comparison_tested, is_compound, is_inner, joined, null_tested, operand_or, operands_tested, or_null, passes, tested, truth_in, truth_wanted, value_test, wanted_beside, wanted_by, whole_tested}
use Rattle.vortex_normal.proofs.Forms.{if_as}
use Rattle.vortex_normal.proofs.Sets.{holds_swapped}
use Rattle.vortex_normal.proofs.Steps.{operand, sides}
use Rattle.vortex_normal.proofs.Told.{and_false, and_true, end_compares, not_not, or_false, or_true, wanted_opposite, wanted_true, yes}

-- ---- truths that pass

abbrev both_or : (both : Bool) → Bool → Bool → Bool
both_or true a b = a && b
both_or false a b = a || b

and_same : (b : Bool) → (b && b) ≡ b
and_same true = refl
and_same false = refl

or_same : (b : Bool) → (b || b) ≡ b
or_same true = refl
or_same false = refl

passes_parts : (w m : Bool) (t : Option Bool) → ((m && is_none t) || is_wanted w t) ≡ passes w m t
passes_parts w true None = refl
passes_parts w false None = refl
passes_parts w true (Some b) = refl
passes_parts w false (Some b) = refl

passes_both : (w m : Bool) (a b : Option Bool) → both_or w (passes w m a) (passes w m b) ≡ passes w m (both a b)
passes_both true m (Some true) b = refl
passes_both true m (Some false) b = refl
passes_both true m None (Some true) = and_true m
passes_both true m None (Some false) = and_false m
passes_both true m None None = and_same m
passes_both false m (Some true) b = refl
passes_both false m (Some false) b = refl
passes_both false m None (Some true) = or_false m
passes_both false m None (Some false) = or_true m
passes_both false m None None = or_same m

passes_either : (w m : Bool) (a b : Option Bool) → both_or (not_b w) (passes w m a) (passes w m b) ≡ passes w m (either a b)
passes_either true m (Some true) b = refl
passes_either true m (Some false) b = refl
passes_either true m None (Some true) = or_true m
passes_either true m None (Some false) = or_false m
passes_either true m None None = or_same m
passes_either false m (Some true) b = refl
passes_either false m (Some false) b = refl
passes_either false m None (Some true) = and_false m
passes_either false m None (Some false) = and_true m
passes_either false m None None = and_same m

passes_opposite : (w m : Bool) (a : Option Bool) → passes (not_b w) m a ≡ passes w m (opposite a)
passes_opposite w m None = refl
passes_opposite w m (Some b) = wanted_opposite w (Some b)

-- a null test passes alike, whether null counts or not
null_passes : (w : Bool) (t : Option Bool) → both_or w (passes false w t) (passes true w t) ≡ is_wanted w (Some (is_none t))
null_passes true None = refl
null_passes true (Some true) = refl
null_passes true (Some false) = refl
null_passes false None = refl
null_passes false (Some true) = refl
null_passes false (Some false) = refl

-- a truth that is wanted to be so far another one
wanted_twice : (w t : Bool) (x : Bool) → is_wanted w (Some (is_wanted t (Some x))) ≡ is_wanted (is_wanted w (Some t)) (Some x)
wanted_twice true true x = refl
wanted_twice true false x = refl
wanted_twice false true x = refl
wanted_twice false false x = sym (not_not x)

-- ---- comparisons with truths

abbrev IsWantedBy : Operator → (b x : Bool) → Option Bool → Type 0
IsWantedBy o b x None = Unit {0}
IsWantedBy o b x (Some t) = holds o (value_cmp (value.Bool x) (value.Bool b)) ≡ is_wanted t (Some x)

holds_wanted : (o : Operator) (b x : Bool) → IsWantedBy o b x (truth_wanted o b)
holds_wanted Eq true true = refl
holds_wanted Eq true false = refl
holds_wanted Eq false true = refl
holds_wanted Eq false false = refl
holds_wanted NotEq true true = refl
holds_wanted NotEq true false = refl
holds_wanted NotEq false true = refl
holds_wanted NotEq false false = refl
holds_wanted Gt true x = tt
holds_wanted Gt false true = refl
holds_wanted Gt false false = refl
holds_wanted Gte true true = refl
holds_wanted Gte true false = refl
holds_wanted Gte false x = tt
holds_wanted Lt true true = refl
holds_wanted Lt true false = refl
holds_wanted Lt false x = tt
holds_wanted Lte true x = tt
holds_wanted Lte false true = refl
holds_wanted Lte false false = refl
holds_wanted And b x = tt
holds_wanted Or b x = tt

compared_wanted : (w m : Bool) (o : Operator) (b t : Bool) (a : Option Bool) → truth_wanted o b ≡ Some t → passes (is_wanted w (Some t)) m a ≡ passes w m (compared o (truth_value a) (Some (value.Bool b)))
compared_wanted w m o b t None h = refl
compared_wanted w m o b t (Some x) h =
    sym (wanted_twice w t x) ∙ sym (ap (λ y. is_wanted w (Some y)) (subst (IsWantedBy o b x) h (holds_wanted o b x)))

compared_swapped : (o : Operator) (a b : Option ScalarValue) → compared (swapped o) a b ≡ compared o b a
compared_swapped o (Some a) (Some b) = ap Some (holds_swapped o a b)
compared_swapped o (Some a) None = refl
compared_swapped o None (Some b) = refl
compared_swapped o None None = refl

if_some : (b : Bool) (o : Option Bool) (t : Bool) → (if b then o else None) ≡ Some t → (b ≡ true) × (o ≡ Some t)
if_some true o t h = (refl, h)
if_some false o t h = absurd (none-some t h)

by_some : (o : Operator) (c : Option Bool) (t : Bool) → wanted_by o c ≡ Some t → (b : Bool) × (c ≡ Some b) × (truth_wanted o b ≡ Some t)
by_some o None t h = absurd (none-some t h)
by_some o (Some b) t h = (b, refl, h)

-- an operand whose truth is wanted is a predicate by its node
beside_inner : (o : Operator) (x y : Tree Place) (t : Bool) → wanted_beside o x y ≡ Some t → is_inner x ≡ true
beside_inner o x y t h = (if_some (is_inner x) (wanted_by o (truth_in y)) t h).0

pub inner_predicate : (x : Tree Place) → is_inner x ≡ true → is_predicate x ≡ true
inner_predicate x h = (and_parts (is_compound x) (is_predicate x) h).1

pub operand_or_as : (P : Tree Place → Type 0) (w : Bool) (o : Option Bool) (f : Bool → Tree Place) (e : Tree Place) → ((t : Bool) → o ≡ Some t → P (f (is_wanted w (Some t)))) → P e → P (operand_or w o f e)
operand_or_as P w None f e g h = h
operand_or_as P w (Some t) f e g h = g t refl

-- ---- which operand of a comparison is tested

no_connective : (o : Operator) (x y : Tree Place) (t : Bool) → ((b : Bool) → truth_wanted o b ≡ None) → wanted_beside o x y ≡ Some t → ⊥
no_connective o x y t none h =
    let by = by_some o (truth_in y) t (if_some (is_inner x) (wanted_by o (truth_in y)) t h).1 in
    absurd (none-some t (sym (none by.0) ∙ by.2))

pub left_tested : (k : ℕ) (w m : Bool) (o : Operator) (l r : Tree Place) (t : Bool) → wanted_beside o l r ≡ Some t → tested k w m (binary o l r) ≡ tested k (is_wanted w (Some t)) m l
left_tested k w m And l r t h = absurd (no_connective And l r t (λ b. refl) h)
left_tested k w m Or l r t h = absurd (no_connective Or l r t (λ b. refl) h)
left_tested k w m Eq l r t h = ap (λ q. operand_or w q (λ v. tested k v m l) (operand_or w (wanted_beside (swapped Eq) r l) (λ v. tested k v m r) (operands_tested w m l r (binary Eq l r)))) h
left_tested k w m NotEq l r t h = ap (λ q. operand_or w q (λ v. tested k v m l) (operand_or w (wanted_beside (swapped NotEq) r l) (λ v. tested k v m r) (operands_tested w m l r (binary NotEq l r)))) h
left_tested k w m Gt l r t h = ap (λ q. operand_or w q (λ v. tested k v m l) (operand_or w (wanted_beside (swapped Gt) r l) (λ v. tested k v m r) (operands_tested w m l r (binary Gt l r)))) h
left_tested k w m Gte l r t h = ap (λ q. operand_or w q (λ v. tested k v m l) (operand_or w (wanted_beside (swapped Gte) r l) (λ v. tested k v m r) (operands_tested w m l r (binary Gte l r)))) h
left_tested k w m Lt l r t h = ap (λ q. operand_or w q (λ v. tested k v m l) (operand_or w (wanted_beside (swapped Lt) r l) (λ v. tested k v m r) (operands_tested w m l r (binary Lt l r)))) h
left_tested k w m Lte l r t h = ap (λ q. operand_or w q (λ v. tested k v m l) (operand_or w (wanted_beside (swapped Lte) r l) (λ v. tested k v m r) (operands_tested w m l r (binary Lte l r)))) h

pub right_tested : (k : ℕ) (w m : Bool) (o : Operator) (l r : Tree Place) (t : Bool) → wanted_beside o l r ≡ None → wanted_beside (swapped o) r l ≡ Some t → tested k w m (binary o l r) ≡ tested k (is_wanted w (Some t)) m r
right_tested k w m And l r t n h = absurd (no_connective And r l t (λ b. refl) h)
right_tested k w m Or l r t n h = absurd (no_connective Or r l t (λ b. refl) h)
right_tested k w m Eq l r t n h = ap₂ (λ p q. operand_or w p (λ v. tested k v m l) (operand_or w q (λ v. tested k v m r) (operands_tested w m l r (binary Eq l r)))) n h
right_tested k w m NotEq l r t n h = ap₂ (λ p q. operand_or w p (λ v. tested k v m l) (operand_or w q (λ v. tested k v m r) (operands_tested w m l r (binary NotEq l r)))) n h
right_tested k w m Gt l r t n h = ap₂ (λ p q. operand_or w p (λ v. tested k v m l) (operand_or w q (λ v. tested k v m r) (operands_tested w m l r (binary Gt l r)))) n h
right_tested k w m Gte l r t n h = ap₂ (λ p q. operand_or w p (λ v. tested k v m l) (operand_or w q (λ v. tested k v m r) (operands_tested w m l r (binary Gte l r)))) n h
right_tested k w m Lt l r t n h = ap₂ (λ p q. operand_or w p (λ v. tested k v m l) (operand_or w q (λ v. tested k v m r) (operands_tested w m l r (binary Lt l r)))) n h
right_tested k w m Lte l r t n h = ap₂ (λ p q. operand_or w p (λ v. tested k v m l) (operand_or w q (λ v. tested k v m r) (operands_tested w m l r (binary Lte l r)))) n h

predicate_type : (a : Result DType BaseError) → has_type is_bool a ≡ true → (t : DType) × (a ≡ Ok t) × (is_bool t ≡ true)
predicate_type (Ok t) h = (t, refl, h)
predicate_type (Err f) h = absurd cc

-- a truth or null is null where it is no truth
none_alike : (v : Option ScalarValue) (t : DType) → is_bool t ≡ true → is_optional_value v (as_nullable t) ≡ true → is_none v ≡ is_none (truth v)
none_alike None t u h = refl
none_alike (Some (value.Bool b)) t u h = refl
none_alike (Some (value.Primitive p)) (dtype.Bool n) u h = cc
none_alike (Some (value.Utf8 bs)) (dtype.Bool n) u h = cc
none_alike (Some (value.Binary bs)) (dtype.Bool n) u h = cc
none_alike v dtype.Null u h = cc
none_alike v (dtype.Primitive p n) u h = cc
none_alike v (dtype.Utf8 n) u h = cc
none_alike v (dtype.Binary n) u h = cc
none_alike v (dtype.MinMaxState e n) u h = cc

none_value : (a : Option Bool) → is_none (truth_value a) ≡ is_none a
none_value None = refl
none_value (Some b) = refl

unless_none : (test : ScalarValue → ScalarValue → Bool) (a b : Option ScalarValue) → (is_none a || is_none b) ≡ is_none (unless_null test a b)
unless_none test (Some a) (Some b) = refl
unless_none test (Some a) None = refl
unless_none test None b = refl

module _ (row : List Constant) (n : ℕ) where
  -- ---- leaves

  or_not_told : (w : Bool) (e : Tree Place) → satisfies (or_not w e) row n ≡ is_wanted w (truth (meaning e row n))
  or_not_told true e = sym (wanted_true (meaning e row n))
  or_not_told false e = yes (opposite (truth (meaning e row n))) ∙ sym (wanted_opposite true (truth (meaning e row n)))

  or_null_told : (m : Bool) (null e : Tree Place) (a b : Bool) → satisfies null row n ≡ a → satisfies e row n ≡ b → satisfies (or_null m null e) row n ≡ ((m && a) || b)
  or_null_told true null e a b h k = true_or (meaning null row n) (meaning e row n) ∙ ap₂ ◌||◌ h k
  or_null_told false null e a b h k = k

  whole_told : (w m : Bool) (e : Tree Place) → is_none (meaning e row n) ≡ is_none (truth (meaning e row n)) → satisfies (whole_tested w m e) row n ≡ passes w m (truth (meaning e row n))
  whole_told w m e h = or_null_told m (is_null e) (or_not w e) _ _ h (or_not_told w e) ∙ passes_parts w m (truth (meaning e row n))

  operands_told : (w m : Bool) (l r e : Tree Place) → (is_none (meaning l row n) || is_none (meaning r row n)) ≡ is_none (truth (meaning e row n)) → satisfies (operands_tested w m l r e) row n ≡ passes w m (truth (meaning e row n))
  operands_told w m l r e h =
      or_null_told m (binary Or (is_null l) (is_null r)) (or_not w e) _ _ (true_or (meaning (is_null l) row n) (meaning (is_null r) row n) ∙ h) (or_not_told w e)
      ∙ passes_parts w m (truth (meaning e row n))

  joined_told : (v : Bool) (l r : Tree Place) (a b : Bool) → satisfies l row n ≡ a → satisfies r row n ≡ b → satisfies (joined v l r) row n ≡ both_or v a b
  joined_told true l r a b h k = true_and (meaning l row n) (meaning r row n) ∙ ap₂ ◌&&◌ h k
  joined_told false l r a b h k = true_or (meaning l row n) (meaning r row n) ∙ ap₂ ◌||◌ h k

  -- a comparison by its operands
  compared_told : (w m : Bool) (o : Operator) (l r : Tree Place) → is_comparison o ≡ true → satisfies (operands_tested w m l r (binary o l r)) row n ≡ passes w m (compared o (meaning l row n) (meaning r row n))
  compared_told w m o l r c =
      let is : truth (meaning (binary o l r) row n) ≡ compared o (meaning l row n) (meaning r row n) =
      truth_back (applied o (meaning l row n) (meaning r row n)) ∙ comparison_applied o (meaning l row n) (meaning r row n) c in
      operands_told w m l r (binary o l r) (unless_none (λ x y. holds o (value_cmp x y)) (meaning l row n) (meaning r row n) ∙ ap is_none (sym is)) ∙ ap (passes w m) is

  -- ---- predicates within others

  compound_value : (e : Tree Place) → is_compound e ≡ true → truth_value (truth (meaning e row n)) ≡ meaning e row n
  compound_value (column c) h = cc
  compound_value (literal c) h = cc
  compound_value (binary o l r) h = ap truth_value (truth_back (applied o (meaning l row n) (meaning r row n)))
  compound_value (between o x l u) h = ap truth_value (truth_back _)
  compound_value (is_null x) h = refl
  compound_value (is_not_null x) h = refl
  compound_value (not x) h = ap truth_value (truth_back (opposite (truth (meaning x row n))))
  compound_value (like o x p) h = ap truth_value (truth_back (liked o (meaning x row n) (meaning p row n)))
  compound_value (stat f x) h = cc
  compound_value row_count h = cc

  inner_value : (e : Tree Place) → is_inner e ≡ true → truth_value (truth (meaning e row n)) ≡ meaning e row n
  inner_value e h = compound_value e (and_parts (is_compound e) (is_predicate e) h).0

  truth_meaning : (y : Tree Place) (b : Bool) → truth_in y ≡ Some b → meaning y row n ≡ Some (value.Bool b)
  truth_meaning (literal c) b h = by_value c.value h
    where
      by_value : (v : Option ScalarValue) → truth v ≡ Some b → v ≡ Some (value.Bool b)
      by_value (Some (value.Bool x)) h = ap (λ y. Some (value.Bool y)) (same_Some _ _ h)
      by_value None h = absurd (none-some b h)
      by_value (Some (value.Primitive p)) h = absurd (none-some b h)
      by_value (Some (value.Utf8 bs)) h = absurd (none-some b h)
      by_value (Some (value.Binary bs)) h = absurd (none-some b h)
  truth_meaning (column c) b h = absurd (none-some b h)
  truth_meaning (binary o l r) b h = absurd (none-some b h)
  truth_meaning (between o x l u) b h = absurd (none-some b h)
  truth_meaning (is_null x) b h = absurd (none-some b h)
  truth_meaning (is_not_null x) b h = absurd (none-some b h)
  truth_meaning (not x) b h = absurd (none-some b h)
  truth_meaning (like o x p) b h = absurd (none-some b h)
  truth_meaning (stat f x) b h = absurd (none-some b h)
  truth_meaning row_count b h = absurd (none-some b h)

  beside_told : (w m : Bool) (o : Operator) (x y : Tree Place) (t : Bool) → wanted_beside o x y ≡ Some t → passes (is_wanted w (Some t)) m (truth (meaning x row n)) ≡ passes w m (compared o (meaning x row n) (meaning y row n))
  beside_told w m o x y t h =
      let inner = if_some (is_inner x) (wanted_by o (truth_in y)) t h in
      let by = by_some o (truth_in y) t inner.1 in
      compared_wanted w m o by.0 t (truth (meaning x row n)) by.2
      ∙ ap₂ (λ u v. passes w m (compared o u v)) (inner_value x inner.0) (sym (truth_meaning y by.0 by.1))

  comparison_told : (w m : Bool) (o : Operator) (l r : Tree Place) (f g : Bool → Tree Place) → is_comparison o ≡ true
      → (is_predicate l ≡ true → (v : Bool) → satisfies (f v) row n ≡ passes v m (truth (meaning l row n))) → (is_predicate r ≡ true → (v : Bool) → satisfies (g v) row n ≡ passes v m (truth (meaning r row n)))
      → satisfies (comparison_tested w m o l r f g) row n ≡ passes w m (compared o (meaning l row n) (meaning r row n))
  comparison_told w m o l r f g c left right =
      operand_or_as (λ e. satisfies e row n ≡ passes w m (compared o (meaning l row n) (meaning r row n))) w (wanted_beside o l r) f
      (operand_or w (wanted_beside (swapped o) r l) g (operands_tested w m l r (binary o l r)))
      (λ t h. left (inner_predicate l (beside_inner o l r t h)) (is_wanted w (Some t)) ∙ beside_told w m o l r t h)
      (operand_or_as (λ e. satisfies e row n ≡ passes w m (compared o (meaning l row n) (meaning r row n))) w (wanted_beside (swapped o) r l) g (operands_tested w m l r (binary o l r))
      (λ t h. right (inner_predicate r (beside_inner (swapped o) r l t h)) (is_wanted w (Some t)) ∙ beside_told w m (swapped o) r l t h ∙ ap (passes w m) (compared_swapped o (meaning r row n) (meaning l row n)))
      (compared_told w m o l r c))

  value_told : (w : Bool) (x : Tree Place) → satisfies (value_test w x) row n ≡ is_wanted w (Some (is_none (meaning x row n)))
  value_told true x = refl
  value_told false x = refl

  null_told : (k : ℕ) (w : Bool) (x : Tree Place) (f : ℕ → Bool → Bool → Tree Place) → (is_predicate x ≡ true → (j : ℕ) (v m : Bool) → satisfies (f j v m) row n ≡ passes v m (truth (meaning x row n)))
      → satisfies (null_tested k w x f) row n ≡ is_wanted w (Some (is_none (meaning x row n)))
  null_told zero w x f told = value_told w x
  null_told (suc k) w x f told =
      if_as (λ e. satisfies e row n ≡ is_wanted w (Some (is_none (meaning x row n)))) (is_inner x) (joined w (f k false w) (f k true w)) (value_test w x)
      (λ h. let p = inner_predicate x h in
      joined_told w (f k false w) (f k true w) _ _ (told p k false w) (told p k true w)
      ∙ null_passes w (truth (meaning x row n))
      ∙ ap (λ b. is_wanted w (Some b)) (sym (none_value (truth (meaning x row n))) ∙ ap is_none (inner_value x h)))
      (λ _. value_told w x)

  between_told : (w m : Bool) (o : BetweenOptions) (x l u : Tree Place) → satisfies (between_tested w m o x l u) row n ≡ passes w m (truth (meaning (between o x l u) row n))
  between_told w false o x l u = or_not_told w (between o x l u) ∙ no_null w (truth (meaning (between o x l u) row n))
    where
      no_null : (w : Bool) (t : Option Bool) → is_wanted w t ≡ passes w false t
      no_null w None = refl
      no_null w (Some b) = refl
  between_told w true o x l u =
      let lower = to_operator o.lower_strict in
      let upper = to_operator o.upper_strict in
      joined_told w (operands_tested w true l x (binary lower l x)) (operands_tested w true x u (binary upper x u)) _ _
      (compared_told w true lower l x (end_compares o.lower_strict)) (compared_told w true upper x u (end_compares o.upper_strict))
      ∙ passes_both w true (compared lower (meaning l row n) (meaning x row n)) (compared upper (meaning x row n) (meaning u row n))
      ∙ sym (ap (passes w true) (truth_back (both (compared lower (meaning l row n) (meaning x row n)) (compared upper (meaning x row n) (meaning u row n)))))

  -- ---- the whole

  module _ (is_row : IsRow row) (small : n < 2 ^ 64) where
    predicate_none : (e : Tree Place) → is_predicate e ≡ true → fits_row e row ≡ true → is_none (meaning e row n) ≡ is_none (truth (meaning e row n))
    predicate_none e p f =
        let t = predicate_type (type_of e) p in
        none_alike (meaning e row n) t.0 t.2 (meaning-fits e row n t.0 t.1 is_row f small)

    -- a comparison, whose truth is that of its operands
    comparison_truth : (w m : Bool) (o : Operator) (l r : Tree Place) → is_comparison o ≡ true → passes w m (compared o (meaning l row n) (meaning r row n)) ≡ passes w m (truth (meaning (binary o l r) row n))
    comparison_truth w m o l r c =
        sym (ap (passes w m) (truth_back (applied o (meaning l row n) (meaning r row n)) ∙ comparison_applied o (meaning l row n) (meaning r row n) c))

    pub tested_told : (k : ℕ) (w m : Bool) (e : Tree Place) → is_predicate e ≡ true → fits_row e row ≡ true → satisfies (tested k w m e) row n ≡ passes w m (truth (meaning e row n))
    tested_told k w m (column c) p f = whole_told w m (column c) (predicate_none (column c) p f)
    tested_told k w m (literal c) p f = whole_told w m (literal c) (predicate_none (literal c) p f)
    tested_told k w m (binary And l r) p f =
        let q = sides And l r refl p in
        let g = and_parts (fits_row l row) (fits_row r row) f in
        joined_told w (tested k w m l) (tested k w m r) _ _ (tested_told k w m l q.0 g.0) (tested_told k w m r q.1 g.1)
        ∙ passes_both w m (truth (meaning l row n)) (truth (meaning r row n))
        ∙ sym (ap (passes w m) (truth_back (both (truth (meaning l row n)) (truth (meaning r row n)))))
    tested_told k w m (binary Or l r) p f =
        let q = sides Or l r refl p in
        let g = and_parts (fits_row l row) (fits_row r row) f in
        joined_told (not_b w) (tested k w m l) (tested k w m r) _ _ (tested_told k w m l q.0 g.0) (tested_told k w m r q.1 g.1)
        ∙ passes_either w m (truth (meaning l row n)) (truth (meaning r row n))
        ∙ sym (ap (passes w m) (truth_back (either (truth (meaning l row n)) (truth (meaning r row n)))))
    tested_told k w m (binary Eq l r) p f =
        let g = and_parts (fits_row l row) (fits_row r row) f in
        comparison_told w m Eq l r (λ v. tested k v m l) (λ v. tested k v m r) refl (λ q v. tested_told k v m l q g.0) (λ q v. tested_told k v m r q g.1) ∙ comparison_truth w m Eq l r refl
    tested_told k w m (binary NotEq l r) p f =
        let g = and_parts (fits_row l row) (fits_row r row) f in
        comparison_told w m NotEq l r (λ v. tested k v m l) (λ v. tested k v m r) refl (λ q v. tested_told k v m l q g.0) (λ q v. tested_told k v m r q g.1) ∙ comparison_truth w m NotEq l r refl
    tested_told k w m (binary Gt l r) p f =
        let g = and_parts (fits_row l row) (fits_row r row) f in
        comparison_told w m Gt l r (λ v. tested k v m l) (λ v. tested k v m r) refl (λ q v. tested_told k v m l q g.0) (λ q v. tested_told k v m r q g.1) ∙ comparison_truth w m Gt l r refl
    tested_told k w m (binary Gte l r) p f =
        let g = and_parts (fits_row l row) (fits_row r row) f in
        comparison_told w m Gte l r (λ v. tested k v m l) (λ v. tested k v m r) refl (λ q v. tested_told k v m l q g.0) (λ q v. tested_told k v m r q g.1) ∙ comparison_truth w m Gte l r refl
    tested_told k w m (binary Lt l r) p f =
        let g = and_parts (fits_row l row) (fits_row r row) f in
        comparison_told w m Lt l r (λ v. tested k v m l) (λ v. tested k v m r) refl (λ q v. tested_told k v m l q g.0) (λ q v. tested_told k v m r q g.1) ∙ comparison_truth w m Lt l r refl
    tested_told k w m (binary Lte l r) p f =
        let g = and_parts (fits_row l row) (fits_row r row) f in
        comparison_told w m Lte l r (λ v. tested k v m l) (λ v. tested k v m r) refl (λ q v. tested_told k v m l q g.0) (λ q v. tested_told k v m r q g.1) ∙ comparison_truth w m Lte l r refl
    tested_told k w m (between o x l u) p f = between_told w m o x l u
    tested_told k w m (is_null x) p f = null_told k w x (λ j v m. tested j v m x) (λ q j v m. tested_told j v m x q f)
    tested_told k w m (is_not_null x) p f =
        null_told k (not_b w) x (λ j v m. tested j v m x) (λ q j v m. tested_told j v m x q f) ∙ wanted_opposite w (Some (is_none (meaning x row n)))
    tested_told k w m (not x) p f =
        tested_told k (not_b w) m x (operand (not x) x refl p) f
        ∙ passes_opposite w m (truth (meaning x row n))
        ∙ sym (ap (passes w m) (truth_back (opposite (truth (meaning x row n)))))
    tested_told k w m (like o x q) p f =
        operands_told w m x q (like o x q)
        (unless_none (is_like o) (meaning x row n) (meaning q row n) ∙ sym (ap is_none (truth_back (liked o (meaning x row n) (meaning q row n)))))
    tested_told k w m (stat g x) p f = whole_told w m (stat g x) refl
    tested_told k w m row_count p f = whole_told w m row_count (predicate_none row_count p f)

pub tested_is_test : (k : ℕ) (w m : Bool) (e : Tree Place) → IsTrue (is_predicate e) → IsTestOf w m e (tested k w m e)
tested_is_test k w m e p row n r f small = tested_told row n r small k w m e p f
