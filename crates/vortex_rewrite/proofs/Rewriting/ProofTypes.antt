-- The operands of proofs fit: what is made of the parts of a typed predicate has a type.
use Rattle.std.proofs.Common.{◌≡◌, Bool, true, false, not, ◌&&◌, Option, Some, None, Result, Ok, Err, IsOk, IsTrue, IfErr, refl, sym, ap, subst, ◌∙◌}
use Rattle.std.specs.Prelude.{alloc_error, is_none, if◌then◌else◌}
use Rattle.std.specs.Result.{is_ok}
use Rattle.vortex_base.specs.Answer.{Answers}
use Rattle.vortex_expr.specs.Answer.{Builds}
use Rattle.vortex_expr.specs.Trees.Between.{to_operator}
use Rattle.vortex_base.specs.Data.Exact.{both_true, both_hold}
use Rattle.vortex_expr.specs.Trees.Tree.{Tree, Place, column, literal, binary, between, is_null, is_not_null, not as negation, like, stat, row_count}
use Rattle.vortex_base.specs.Data.Types.{as_nullable, dtype_eq_is_exact}
use Rattle.vortex_base.specs.Data.States.{element_of, of_element, state_dtype}
use Rattle.vortex_expr.specs.Meanings.Typing.{placeholder_type, stat_type, is_bool, is_utf8, is_state, truth_type, type_if, are_comparable, comparison_type, binary_type, between_type, like_type, with_type, with_types, type_of}
use Rattle.vortex_base.specs.declared.aggregate.AggregateFnRef.{AggregateFnRef}
use Rattle.vortex_base.specs.declared.aggregate.AggregateFnRef.TheVariants as aggregate
use Rattle.vortex_expr.specs.declared.scalar_fn.BetweenOptions.{BetweenOptions}
use Rattle.vortex_expr.specs.declared.scalar_fn.StrictComparison.{StrictComparison}
use Rattle.vortex_expr.specs.declared.scalar_fn.StrictComparison.TheVariants.{Strict, NonStrict}
use Rattle.vortex_base.specs.declared.dtype.DType.{DType}
use Rattle.vortex_base.specs.declared.dtype.DType.TheVariants as dtype
use Rattle.vortex_base.specs.declared.types.Element.{Element}
use Rattle.vortex_base.specs.declared.error.BaseError.{BaseError}
use Rattle.vortex_base.specs.declared.error.BaseError.TheVariants.{Memory}
use Rattle.vortex_expr.specs.declared.like.LikeOptions.{LikeOptions}
use Rattle.vortex_base.specs.declared.types.Nullability.{Nullability}
use Rattle.vortex_base.specs.declared.types.Nullability.TheVariants.{Nullable, NonNullable}
use Rattle.vortex_expr.specs.declared.scalar_fn.Operator.{Operator}
use Rattle.vortex_expr.specs.declared.scalar_fn.Operator.TheVariants.{Eq, NotEq, Gt, Gte, Lt, Lte, And, Or}
use Rattle.vortex_base.specs.declared.types.PType.TheVariants.{U64}
use Rattle.vortex_rewrite.specs.Rewriting.Predicates.{has_type, is_predicate, is_text, is_connective, is_extreme}
use Rattle.vortex_rewrite.specs.Rewriting.Falsifiers.{placeholder, extreme, null_count_of, count_literal}
use Rattle.vortex_rewrite.proofs.NullErasure.{same_state}
use Rattle.vortex_rewrite.specs.StateTypes.{as_nullable-again}
use Rattle.std.proofs.lemmas.Bool.{not-true}

-- ---- refusals of constructors

answered : (t : Result DType BaseError) (e : Tree Place) (r : Result (Tree Place) BaseError) → IsOk t → Answers t e r → IfErr r (λ fault. fault ≡ Memory alloc_error)
answered (Ok t) e (Ok w) i h = tt
answered (Ok t) e (Err f) i h = h
answered (Err f) e r i h = absurd cc

-- a node that fits is refused for memory alone
pub fits_or_memory : (e : Tree Place) (r : Result (Tree Place) BaseError) → IsOk (type_of e) → Builds e r → IfErr r (λ fault. fault ≡ Memory alloc_error)
fits_or_memory e r i h = answered (type_of e) e r i h

made_of : (t : Result DType BaseError) (e w : Tree Place) (r : Result (Tree Place) BaseError) → IsOk t → Answers t e r → r ≡ Ok w → w ≡ e
made_of (Ok t) e w (Ok v) i h k = let same : v ≡ w = cc in sym same ∙ h
made_of (Ok t) e w (Err f) i h k = cc
made_of (Err f) e w r i h k = cc

-- what was made of a node that fits is that node
pub made_is : (e w : Tree Place) (r : Result (Tree Place) BaseError) → IsOk (type_of e) → Builds e r → r ≡ Ok w → w ≡ e
made_is e w r i h k = made_of (type_of e) e w r i h k

-- ---- comparisons and connectives are of type Bool

truth_is_bool : (b n : Bool) → IsOk (type_if b (truth_type n)) → IsTrue (has_type is_bool (type_if b (truth_type n)))
truth_is_bool true n h = refl
truth_is_bool false n h = cc

binary_is_bool : (o : Operator) (s t : DType) → IsOk (binary_type o s t) → IsTrue (has_type is_bool (binary_type o s t))
binary_is_bool Eq s t h = truth_is_bool _ _ h
binary_is_bool NotEq s t h = truth_is_bool _ _ h
binary_is_bool Gt s t h = truth_is_bool _ _ h
binary_is_bool Gte s t h = truth_is_bool _ _ h
binary_is_bool Lt s t h = truth_is_bool _ _ h
binary_is_bool Lte s t h = truth_is_bool _ _ h
binary_is_bool And s t h = truth_is_bool _ _ h
binary_is_bool Or s t h = truth_is_bool _ _ h

both_are_bool : (o : Operator) (a b : Result DType BaseError) → IsOk (with_types (binary_type o) a b) → IsTrue (has_type is_bool (with_types (binary_type o) a b))
both_are_bool o (Ok s) (Ok t) h = binary_is_bool o s t h
both_are_bool o (Ok s) (Err f) h = cc
both_are_bool o (Err f) b h = cc

pub binary_is_predicate : (o : Operator) (l r : Tree Place) → IsOk (type_of (binary o l r)) → IsTrue (is_predicate (binary o l r))
binary_is_predicate o l r h = both_are_bool o (type_of l) (type_of r) h

-- two of type Bool may be connected
connected : (o : Operator) (s t : DType) → is_connective o ≡ true → is_bool s ≡ true → is_bool t ≡ true → IsOk (binary_type o s t)
connected Eq s t c h k = cc
connected NotEq s t c h k = cc
connected Gt s t c h k = cc
connected Gte s t c h k = cc
connected Lt s t c h k = cc
connected Lte s t c h k = cc
connected And s t c h k = rw (h, k) refl
connected Or s t c h k = rw (h, k) refl

both_connect : (o : Operator) (a b : Result DType BaseError) → is_connective o ≡ true → has_type is_bool a ≡ true → has_type is_bool b ≡ true → IsOk (with_types (binary_type o) a b)
both_connect o (Ok s) (Ok t) c h k = connected o s t c h k
both_connect o (Ok s) (Err f) c h k = cc
both_connect o (Err f) b c h k = cc

pub predicates_connect : (o : Operator) (l r : Tree Place) → IsTrue (is_connective o) → IsTrue (is_predicate l) → IsTrue (is_predicate r) → IsOk (type_of (binary o l r))
predicates_connect o l r c h k = both_connect o (type_of l) (type_of r) c h k

-- ---- operands of one type, nullability aside

-- the two have types that may be compared
pub record AreComparable (l r : Tree Place) : Type 0 where
  pub left_type : DType
  pub right_type : DType
  pub left : type_of l ≡ Ok left_type
  pub right : type_of r ≡ Ok right_type
  pub same : as_nullable left_type ≡ as_nullable right_type
  pub value : is_state left_type ≡ false

pub comparable_if : (b : Bool) (t : DType) → IsOk (type_if b t) → b ≡ true
comparable_if true t h = refl
comparable_if false t h = cc

alike_from : (l r : Tree Place) (a b : Result DType BaseError) → type_of l ≡ a → type_of r ≡ b → IsOk (with_types comparison_type a b) → AreComparable l r
alike_from l r (Ok s) (Ok t) e f h =
    let both = both_true _ _ (comparable_if (are_comparable s t) _ h) in
    record { left_type = s; right_type = t; left = e; right = f; same = (dtype_eq_is_exact _ _).0 both.0; value = not-true _ both.1 }
alike_from l r (Ok s) (Err f') e f h = absurd cc
alike_from l r (Err e') b e f h = absurd cc

pub are_alike : (l r : Tree Place) → IsOk (type_of (binary Eq l r)) → AreComparable l r
are_alike l r h = alike_from l r (type_of l) (type_of r) refl refl h

pub alike_turned : (l r : Tree Place) → AreComparable l r → AreComparable r l
alike_turned l r a = record {
  left_type = a.right_type;
  right_type = a.left_type;
  left = a.right;
  right = a.left;
  same = sym a.same;
  value = sym (same_state a.left_type a.right_type a.same) ∙ a.value;
}

are_comparable_if : (s t : DType) → as_nullable s ≡ as_nullable t → is_state s ≡ false → are_comparable s t ≡ true
are_comparable_if s t e v = both_hold _ _ ((dtype_eq_is_exact _ _).1 e) (ap not v)

compared : (o : Operator) (s t : DType) → is_connective o ≡ false → are_comparable s t ≡ true → IsOk (binary_type o s t)
compared Eq s t c h = rw h refl
compared NotEq s t c h = rw h refl
compared Gt s t c h = rw h refl
compared Gte s t c h = rw h refl
compared Lt s t c h = rw h refl
compared Lte s t c h = rw h refl
compared And s t c h = cc
compared Or s t c h = cc

pub alike_compare : (o : Operator) (l r : Tree Place) → is_connective o ≡ false → AreComparable l r → IsOk (type_of (binary o l r))
alike_compare o l r c a = rw (a.left, a.right) (compared o a.left_type a.right_type c (are_comparable_if _ _ a.same a.value))

-- ---- the extremes of an operand have its type, nullability aside

pub record IsSimilar (e x : Tree Place) : Type 0 where
  pub dtype_of_e : DType
  pub dtype_of_x : DType
  pub typed_e : type_of e ≡ Ok dtype_of_e
  pub typed_x : type_of x ≡ Ok dtype_of_x
  pub same : as_nullable dtype_of_e ≡ as_nullable dtype_of_x

state_of : (e : Option Element) (t : DType) → IsOk (placeholder_type (of_element e (λ x. as_nullable t))) → placeholder_type (of_element e (λ x. as_nullable t)) ≡ Ok (as_nullable t)
state_of None t h = absurd cc
state_of (Some e) t h = ap Ok (as_nullable-again t)

extreme_type : (f : AggregateFnRef) (t : DType) → is_extreme f ≡ true → IsOk (placeholder_type (state_dtype f t)) → placeholder_type (state_dtype f t) ≡ Ok (as_nullable t)
extreme_type aggregate.Max t x h = state_of (element_of t) t h
extreme_type aggregate.Min t x h = state_of (element_of t) t h
extreme_type aggregate.Sum t x h = absurd cc
extreme_type aggregate.NullCount t x h = absurd cc
extreme_type aggregate.NanCount t x h = absurd cc
extreme_type aggregate.UncompressedSizeInBytes t x h = absurd cc
extreme_type aggregate.AllNull t x h = absurd cc
extreme_type aggregate.AllNonNull t x h = absurd cc
extreme_type aggregate.MinMax t x h = absurd cc

there : (b : Bool) (e a : Tree Place) → (if b then Some e else None) ≡ Some a → (b ≡ true) × (e ≡ a)
there true e a h = (refl, cc)
there false e a h = (cc, cc)

placeholder_similar : (f : AggregateFnRef) (x a : Tree Place) (t : DType) → is_extreme f ≡ true → type_of x ≡ Ok t → placeholder f x ≡ Some a → IsSimilar a x
placeholder_similar f x a t ex e h =
    let is = there (is_ok (type_of (stat f x))) (stat f x) a h in
    let typed : type_of (stat f x) ≡ placeholder_type (state_dtype f t) = ap (with_type (λ s. placeholder_type (state_dtype f s))) e in
    let found : type_of (stat f x) ≡ Ok (as_nullable t) = typed ∙ extreme_type f t ex (subst (λ (r : Result DType BaseError). IsOk r) typed is.0) in
    record { dtype_of_e = as_nullable t; dtype_of_x = t; typed_e = subst (λ (y : Tree Place). type_of y ≡ Ok (as_nullable t)) is.1 found; typed_x = e; same = as_nullable-again t }

pub extreme_similar : (f : AggregateFnRef) (x a : Tree Place) (t : DType) → is_extreme f ≡ true → type_of x ≡ Ok t → extreme f x ≡ Some a → IsSimilar a x
extreme_similar f (literal c) a t ex e h =
    let is : literal c ≡ a = cc in
    record { dtype_of_e = t; dtype_of_x = t; typed_e = subst (λ (y : Tree Place). type_of y ≡ Ok t) is e; typed_x = e; same = refl }
extreme_similar f (column c) a t ex e h = placeholder_similar f (column c) a t ex e h
extreme_similar f (binary o l r) a t ex e h = placeholder_similar f (binary o l r) a t ex e h
extreme_similar f (between o x l u) a t ex e h = placeholder_similar f (between o x l u) a t ex e h
extreme_similar f (is_null x) a t ex e h = placeholder_similar f (is_null x) a t ex e h
extreme_similar f (is_not_null x) a t ex e h = placeholder_similar f (is_not_null x) a t ex e h
extreme_similar f (negation x) a t ex e h = placeholder_similar f (negation x) a t ex e h
extreme_similar f (like o x p) a t ex e h = placeholder_similar f (like o x p) a t ex e h
extreme_similar f (stat g x) a t ex e h = placeholder_similar f (stat g x) a t ex e h
extreme_similar f row_count a t ex e h = placeholder_similar f row_count a t ex e h

ok_same : (a : Result DType BaseError) (s t : DType) → a ≡ Ok s → a ≡ Ok t → s ≡ t
ok_same a s t e f = cc

similar_alike : (a b l r : Tree Place) → AreComparable l r → IsSimilar a l → IsSimilar b r → AreComparable a b
similar_alike a b l r k p q =
    let left : as_nullable p.dtype_of_e ≡ as_nullable k.left_type = p.same ∙ ap as_nullable (ok_same _ _ _ p.typed_x k.left) in
    let right : as_nullable q.dtype_of_e ≡ as_nullable k.right_type = q.same ∙ ap as_nullable (ok_same _ _ _ q.typed_x k.right) in
    record {
      left_type = p.dtype_of_e;
      right_type = q.dtype_of_e;
      left = p.typed_e;
      right = q.typed_e;
      same = left ∙ k.same ∙ sym right;
      value = same_state _ _ left ∙ k.value;
    }

-- the extremes of operands that compare do too
pub extremes_compare : (o : Operator) (f g : AggregateFnRef) (l r a b : Tree Place) → is_connective o ≡ false → IsTrue (is_extreme f) → IsTrue (is_extreme g) → IsOk (type_of (binary Eq l r)) → Some a ≡ extreme f l → Some b ≡ extreme g r → IsOk (type_of (binary o a b))
extremes_compare o f g l r a b c ef eg h p q =
    let k = are_alike l r h in
    alike_compare o a b c (similar_alike a b l r k (extreme_similar f l a k.left_type ef k.left (sym p)) (extreme_similar g r b k.right_type eg k.right (sym q)))

compare_of : (o : Operator) (s t : DType) → is_connective o ≡ false → IsOk (binary_type o s t) → IsOk (comparison_type s t)
compare_of Eq s t c h = h
compare_of NotEq s t c h = h
compare_of Gt s t c h = h
compare_of Gte s t c h = h
compare_of Lt s t c h = h
compare_of Lte s t c h = h
compare_of And s t c h = cc
compare_of Or s t c h = cc

compare_both : (o : Operator) (a b : Result DType BaseError) → is_connective o ≡ false → IsOk (with_types (binary_type o) a b) → IsOk (with_types comparison_type a b)
compare_both o (Ok s) (Ok t) c h = compare_of o s t c h
compare_both o (Ok s) (Err f) c h = cc
compare_both o (Err f) b c h = cc

-- the operands of a comparison compare
pub operands_compare : (o p : Operator) (l r : Tree Place) → o ≡ p → is_connective p ≡ false → IsOk (type_of (binary o l r)) → IsOk (type_of (binary Eq l r))
operands_compare o p l r e c h = compare_both o (type_of l) (type_of r) (ap is_connective e ∙ c) h

-- operands compare in either order
pub compare_turned : (l r : Tree Place) → IsOk (type_of (binary Eq l r)) → IsOk (type_of (binary Eq r l))
compare_turned l r h = alike_compare Eq r l refl (alike_turned l r (are_alike l r h))

-- ---- the comparisons that a BETWEEN stands for

ends_alike : (x l u : Tree Place) (a b c : Result DType BaseError) → type_of x ≡ a → type_of l ≡ b → type_of u ≡ c → IsOk (with_type (λ t. with_types (between_type t) b c) a) → AreComparable l x × AreComparable x u
ends_alike x l u (Ok r) (Ok s) (Ok t) e f g h =
    let both = both_true _ _ (comparable_if (are_comparable r s && are_comparable r t) _ h) in
    let low = both_true _ _ both.0 in
    let high = both_true _ _ both.1 in (
      alike_turned x l (record { left_type = r; right_type = s; left = e; right = f; same = (dtype_eq_is_exact _ _).0 low.0; value = not-true _ low.1 }),
      record { left_type = r; right_type = t; left = e; right = g; same = (dtype_eq_is_exact _ _).0 high.0; value = not-true _ high.1 },
    )
ends_alike x l u (Ok r) (Ok s) (Err t) e f g h = absurd cc
ends_alike x l u (Ok r) (Err s) c e f g h = absurd cc
ends_alike x l u (Err r) b c e f g h = absurd cc

-- the ends of a BETWEEN compare
pub ends_compare : (o : BetweenOptions) (x l u : Tree Place) → IsOk (type_of (between o x l u)) → IsOk (type_of (binary Eq l u))
ends_compare o x l u h =
    let k = ends_alike x l u (type_of x) (type_of l) (type_of u) refl refl refl h in
    alike_compare Eq l u refl (record {
      left_type = k.0.left_type;
      right_type = k.1.right_type;
      left = k.0.left;
      right = k.1.right;
      same = k.0.same ∙ ap as_nullable (ok_same (type_of x) k.0.right_type k.1.left_type k.0.right k.1.left) ∙ k.1.same;
      value = k.0.value;
    })

range_operator : (s : StrictComparison) → is_connective (to_operator s) ≡ false
range_operator Strict = refl
range_operator NonStrict = refl

-- the comparisons fit
pub lower_compares : (o : BetweenOptions) (x l u : Tree Place) (op : Operator) (l' x' : Tree Place) → op ≡ to_operator o.lower_strict → l' ≡ l → x' ≡ x → IsOk (type_of (between o x l u)) → IsOk (type_of (binary op l' x'))
lower_compares o x l u op l' x' e f g h =
    rw (e, f, g) (alike_compare (to_operator o.lower_strict) l x (range_operator o.lower_strict) (ends_alike x l u (type_of x) (type_of l) (type_of u) refl refl refl h).0)

pub upper_compares : (o : BetweenOptions) (x l u : Tree Place) (op : Operator) (x' u' : Tree Place) → op ≡ to_operator o.upper_strict → x' ≡ x → u' ≡ u → IsOk (type_of (between o x l u)) → IsOk (type_of (binary op x' u'))
upper_compares o x l u op x' u' e f g h =
    rw (e, f, g) (alike_compare (to_operator o.upper_strict) x u (range_operator o.upper_strict) (ends_alike x l u (type_of x) (type_of l) (type_of u) refl refl refl h).1)

-- ---- counts of nulls

count_of_literal : (b : Bool) → type_of (count_literal (if b then 1 else 0)) ≡ Ok (dtype.Primitive U64 NonNullable)
count_of_literal true = refl
count_of_literal false = refl

count_typed : (x : Tree Place) (t : DType) → type_of x ≡ Ok t → type_of (stat aggregate.NullCount x) ≡ Ok (dtype.Primitive U64 Nullable)
count_typed x t e = ap (with_type (stat_type aggregate.NullCount)) e

pub null_count_typed : (x : Tree Place) (t : DType) → type_of x ≡ Ok t → (n : Nullability) × (type_of (null_count_of x) ≡ Ok (dtype.Primitive U64 n))
null_count_typed (literal c) t e = (NonNullable, count_of_literal (is_none c.value))
null_count_typed (column c) t e = (Nullable, count_typed (column c) t e)
null_count_typed (binary o l r) t e = (Nullable, count_typed (binary o l r) t e)
null_count_typed (between o x l u) t e = (Nullable, count_typed (between o x l u) t e)
null_count_typed (is_null x) t e = (Nullable, count_typed (is_null x) t e)
null_count_typed (is_not_null x) t e = (Nullable, count_typed (is_not_null x) t e)
null_count_typed (negation x) t e = (Nullable, count_typed (negation x) t e)
null_count_typed (like o x p) t e = (Nullable, count_typed (like o x p) t e)
null_count_typed (stat g x) t e = (Nullable, count_typed (stat g x) t e)
null_count_typed row_count t e = (Nullable, count_typed row_count t e)

count_compares : (x y : Tree Place) (t : DType) → type_of x ≡ Ok t → type_of y ≡ Ok (dtype.Primitive U64 NonNullable) → IsOk (type_of (binary Eq (null_count_of x) y))
count_compares x y t e f =
    let count = null_count_typed x t e in
    alike_compare Eq (null_count_of x) y refl (record { left_type = dtype.Primitive U64 count.0; right_type = dtype.Primitive U64 NonNullable; left = count.1; right = f; same = refl; value = refl })

-- a count of nulls compares with 0, and with the number of rows
pub count_compares_with_zero : (x count zero' : Tree Place) (t : DType) → type_of x ≡ Ok t → count ≡ null_count_of x → zero' ≡ count_literal 0 → IsOk (type_of (binary Eq count zero'))
count_compares_with_zero x count zero' t e f g = rw (f, g) (count_compares x (count_literal 0) t e refl)

pub count_compares_with_rows : (x count rows : Tree Place) (t : DType) → type_of x ≡ Ok t → count ≡ null_count_of x → rows ≡ row_count → IsOk (type_of (binary Eq count rows))
count_compares_with_rows x count rows t e f g = rw (f, g) (count_compares x row_count t e refl)

-- ---- texts

utf8_of : (t : DType) → is_utf8 t ≡ true → as_nullable t ≡ dtype.Utf8 Nullable
utf8_of dtype.Null h = cc
utf8_of (dtype.Bool n) h = cc
utf8_of (dtype.Primitive p n) h = cc
utf8_of (dtype.Utf8 n) h = refl
utf8_of (dtype.Binary n) h = cc
utf8_of (dtype.MinMaxState e n) h = cc

no_state : (t : DType) → is_utf8 t ≡ true → is_state t ≡ false
no_state dtype.Null h = refl
no_state (dtype.Bool n) h = refl
no_state (dtype.Primitive p n) h = refl
no_state (dtype.Utf8 n) h = refl
no_state (dtype.Binary n) h = refl
no_state (dtype.MinMaxState e n) h = cc

texts_alike : (x y : Tree Place) (a b : Result DType BaseError) → type_of x ≡ a → type_of y ≡ b → has_type is_utf8 a ≡ true → has_type is_utf8 b ≡ true → AreComparable x y
texts_alike x y (Ok s) (Ok t) e f h k = record { left_type = s; right_type = t; left = e; right = f; same = utf8_of s h ∙ sym (utf8_of t k); value = no_state s h }
texts_alike x y (Ok s) (Err t) e f h k = absurd cc
texts_alike x y (Err s) b e f h k = absurd cc

-- two texts compare
pub texts_compare : (x y : Tree Place) → IsTrue (is_text x) → IsTrue (is_text y) → IsOk (type_of (binary Eq x y))
texts_compare x y h k = alike_compare Eq x y refl (texts_alike x y (type_of x) (type_of y) refl refl h k)

text_left : (a b : Result DType BaseError) → IsOk (with_types like_type a b) → has_type is_utf8 a ≡ true
text_left (Ok s) (Ok t) h = (both_true _ _ (comparable_if (is_utf8 s && is_utf8 t) _ h)).0
text_left (Ok s) (Err t) h = cc
text_left (Err s) b h = cc

-- the left operand of a LIKE is a text
pub like_of_text : (o : LikeOptions) (x p : Tree Place) → IsOk (type_of (like o x p)) → IsTrue (is_text x)
like_of_text o x p h = text_left (type_of x) (type_of p) h
