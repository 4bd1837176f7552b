-- Operands without a column and without placeholders, which become literals.
use Rattle.std.proofs.Common.{◌≡◌, lit<, Bool, true, false, not as not_b, ◌&&◌, ◌||◌, [], Option, Result, Ok, Err, IsOk, refl, sym, ap, ap₂, ◌∙◌, subst₂, if◌then◌else◌}
use Rattle.std.proofs.lemmas.Bool.{and_parts, not-true, or_parts}
use Rattle.vortex_expr.proofs.Meanings.MeaningFits.{meaning-fits}
use Rattle.vortex_base.specs.Data.Exact.{both_hold}
use Rattle.vortex_base.specs.Data.Scalars.{is_optional_value}
use Rattle.vortex_base.specs.Data.Types.{as_nullable, dtype_eq, is_nullable}
use Rattle.vortex_expr.specs.Meanings.Fitting.{fits_row}
use Rattle.vortex_base.specs.Answer.{Answers, Makes}
use Rattle.vortex_expr.specs.Meanings.Meaning.{can_evaluate, meaning}
use Rattle.vortex_base.specs.declared.scalar_value.ScalarValue.{ScalarValue}
use Rattle.vortex_expr.specs.Meanings.Typing.{are_comparable, between_type, binary_type, is_bool, is_state, like_type, not_type, null_test_type, type_if, type_of, truth_type, with_type, with_types}
use Rattle.vortex_expr.specs.Trees.Tree.{Tree, Place, all_columns, column, literal, binary, between, is_null, is_not_null, not, like, stat, row_count, has_bare_column, has_placeholder, has_row_count, is_plain}
use Rattle.vortex_base.specs.declared.dtype.DType.{DType}
use Rattle.vortex_base.specs.declared.dtype.DType.TheVariants as dtype
use Rattle.vortex_base.specs.declared.error.BaseError.{BaseError}
use Rattle.vortex_base.specs.declared.types.Nullability.TheVariants.{Nullable, NonNullable}
use Rattle.vortex_expr.specs.declared.scalar_fn.Operator.{Operator}
use Rattle.vortex_expr.specs.declared.scalar_fn.Operator.TheVariants.{Eq, NotEq, Gt, Gte, Lt, Lte, And, Or}
use Rattle.vortex_rewrite.proofs.Rewriting.ProofTypes.{comparable_if}
use Rattle.vortex_normal.specs.Pushed.{folded, is_literal}
use Rattle.vortex_normal.proofs.Forms.{if_as, not_constant}

-- ---- such an expression has no column at all

pub no_columns : (test : Place → Bool) (e : Tree Place) → has_bare_column e ≡ false → has_placeholder e ≡ false → all_columns test e ≡ true
no_columns test (column c) h k = cc
no_columns test (literal c) h k = refl
no_columns test (binary o l r) h k =
    let a = or_parts (has_bare_column l) (has_bare_column r) h in
    let b = or_parts (has_placeholder l) (has_placeholder r) k in
    both_hold _ _ (no_columns test l a.0 b.0) (no_columns test r a.1 b.1)
no_columns test (between o x l u) h k =
    let a = or_parts (has_bare_column x) (has_bare_column l || has_bare_column u) h in
    let b = or_parts (has_placeholder x) (has_placeholder l || has_placeholder u) k in
    let c = or_parts (has_bare_column l) (has_bare_column u) a.1 in
    let d = or_parts (has_placeholder l) (has_placeholder u) b.1 in
    both_hold _ _ (no_columns test x a.0 b.0) (both_hold _ _ (no_columns test l c.0 d.0) (no_columns test u c.1 d.1))
no_columns test (is_null x) h k = no_columns test x h k
no_columns test (is_not_null x) h k = no_columns test x h k
no_columns test (not x) h k = no_columns test x h k
no_columns test (like o x p) h k =
    let a = or_parts (has_bare_column x) (has_bare_column p) h in
    let b = or_parts (has_placeholder x) (has_placeholder p) k in
    both_hold _ _ (no_columns test x a.0 b.0) (no_columns test p a.1 b.1)
no_columns test (stat f x) h k = cc
no_columns test row_count h k = refl

-- ---- it is a literal, or of type Bool

truth_or_fault : (b n : Bool) (t : DType) → type_if b (truth_type n) ≡ Ok t → as_nullable t ≡ dtype.Bool Nullable
truth_or_fault true n t h = let e : truth_type n ≡ t = cc in ap as_nullable (sym e)
truth_or_fault false n t h = absurd cc

same_or_fault : (b : Bool) (x t : DType) → is_bool x ≡ b → type_if b x ≡ Ok t → as_nullable t ≡ dtype.Bool Nullable
same_or_fault true (dtype.Bool n) t e h = let k : dtype.Bool n ≡ t = cc in ap as_nullable (sym k)
same_or_fault true dtype.Null t e h = cc
same_or_fault true (dtype.Primitive p n) t e h = cc
same_or_fault true (dtype.Utf8 n) t e h = cc
same_or_fault true (dtype.Binary n) t e h = cc
same_or_fault true (dtype.MinMaxState x n) t e h = cc
same_or_fault false x t e h = absurd cc

binary_truth : (o : Operator) (l r t : DType) → binary_type o l r ≡ Ok t → as_nullable t ≡ dtype.Bool Nullable
binary_truth And l r t h = truth_or_fault (is_bool l && is_bool r) (is_nullable l || is_nullable r) t h
binary_truth Or l r t h = truth_or_fault (is_bool l && is_bool r) (is_nullable l || is_nullable r) t h
binary_truth Eq l r t h = truth_or_fault (are_comparable l r) (is_nullable l || is_nullable r) t h
binary_truth NotEq l r t h = truth_or_fault (are_comparable l r) (is_nullable l || is_nullable r) t h
binary_truth Gt l r t h = truth_or_fault (are_comparable l r) (is_nullable l || is_nullable r) t h
binary_truth Gte l r t h = truth_or_fault (are_comparable l r) (is_nullable l || is_nullable r) t h
binary_truth Lt l r t h = truth_or_fault (are_comparable l r) (is_nullable l || is_nullable r) t h
binary_truth Lte l r t h = truth_or_fault (are_comparable l r) (is_nullable l || is_nullable r) t h

of_one : (f : DType → Result DType BaseError) (a : Result DType BaseError) (t : DType) (P : DType → Type 0) → ((x : DType) → f x ≡ Ok t → P t) → with_type f a ≡ Ok t → P t
of_one f (Ok x) t P g h = g x h
of_one f (Err e) t P g h = absurd cc

of_two : (f : DType → DType → Result DType BaseError) (a b : Result DType BaseError) (t : DType) (P : DType → Type 0) → ((x y : DType) → f x y ≡ Ok t → P t) → with_types f a b ≡ Ok t → P t
of_two f (Ok x) (Ok y) t P g h = g x y h
of_two f (Ok x) (Err e) t P g h = absurd cc
of_two f (Err e) b t P g h = absurd cc

abbrev IsTruthType : DType → Type 0
IsTruthType t = as_nullable t ≡ dtype.Bool Nullable

null_test_truth : (x t : DType) → null_test_type x ≡ Ok t → as_nullable t ≡ dtype.Bool Nullable
null_test_truth x t h = let e : dtype.Bool NonNullable ≡ t = cc in ap as_nullable (sym e)

truth_typed : (e : Tree Place) (t : DType) → is_literal e ≡ false → has_bare_column e ≡ false → has_placeholder e ≡ false → has_row_count e ≡ false → type_of e ≡ Ok t → as_nullable t ≡ dtype.Bool Nullable
truth_typed (column c) t l b p r h = cc
truth_typed (literal c) t l b p r h = cc
truth_typed (binary o x y) t l b p r h = of_two (binary_type o) (type_of x) (type_of y) t IsTruthType (λ u v k. binary_truth o u v t k) h
truth_typed (between o x y z) t l b p r h =
    of_one (λ u. with_types (between_type u) (type_of y) (type_of z)) (type_of x) t IsTruthType
    (λ u. of_two (between_type u) (type_of y) (type_of z) t IsTruthType (λ v w k. truth_or_fault (are_comparable u v && are_comparable u w) (is_nullable u || (is_nullable v || is_nullable w)) t k)) h
truth_typed (is_null x) t l b p r h = of_one null_test_type (type_of x) t IsTruthType (λ u k. null_test_truth u t k) h
truth_typed (is_not_null x) t l b p r h = of_one null_test_type (type_of x) t IsTruthType (λ u k. null_test_truth u t k) h
truth_typed (not x) t l b p r h = of_one not_type (type_of x) t IsTruthType (λ u k. same_or_fault (is_bool u) u t refl k) h
truth_typed (like o x y) t l b p r h = of_two like_type (type_of x) (type_of y) t IsTruthType (λ u v k. truth_or_fault _ _ t k) h
truth_typed (stat f x) t l b p r h = cc
truth_typed row_count t l b p r h = cc

-- so its value may stand under that type
pub value_fits : (e : Tree Place) → is_literal e ≡ false → has_bare_column e ≡ false → has_placeholder e ≡ false → has_row_count e ≡ false → IsOk (type_of e) → is_optional_value (meaning e [] 0) (dtype.Bool Nullable) ≡ true
value_fits e l b p r ok = fits (type_of e) refl ok
  where
    fits : (a : Result DType BaseError) → type_of e ≡ a → IsOk a → is_optional_value (meaning e [] 0) (dtype.Bool Nullable) ≡ true
    fits (Ok t) k ok =
        ap (is_optional_value (meaning e [] 0)) (sym (truth_typed e t l b p r k))
        ∙ meaning-fits e [] 0 t k refl (no_columns _ e b p) (lit< tt)
    fits (Err f) k ok = absurd cc

-- and what it is evaluated to is its value, unless memory is refused
pub empty_value : (e : Tree Place) (r : Result (Option ScalarValue) BaseError) → has_bare_column e ≡ false → is_plain e ≡ true → Answers (can_evaluate e []) (meaning e [] 0) r → Makes (meaning e [] 0) r
empty_value e r bare plain a =
    let free : has_placeholder e ≡ false = not-true (has_placeholder e) (and_parts (not_b (has_placeholder e)) (not_b (has_row_count e)) plain).0 in
    let fits : fits_row e [] ≡ true = no_columns _ e bare free in
    rw (free, fits) at a

pub plain_fits : (e : Tree Place) (v : Option ScalarValue) → is_literal e ≡ false → has_bare_column e ≡ false → is_plain e ≡ true → IsOk (type_of e) → v ≡ meaning e [] 0 → is_optional_value v (dtype.Bool Nullable) ≡ true
plain_fits e v l bare plain ok is =
    let k = and_parts (not_b (has_placeholder e)) (not_b (has_row_count e)) plain in
    ap (λ x. is_optional_value x (dtype.Bool Nullable)) is ∙ value_fits e l bare (not-true (has_placeholder e) k.0) (not-true (has_row_count e) k.1) ok

ok_if : (a : Result DType BaseError) (t : DType) → a ≡ Ok t → IsOk a
ok_if (Ok x) t h = refl
ok_if (Err f) t h = absurd cc

pub ok_typed : (e : Tree Place) (t : DType) → type_of e ≡ Ok t → IsOk (type_of e)
ok_typed e t h = ok_if (type_of e) t h

-- ---- a folded operand has the operand's type, nullability aside

record AreAlike (a b : Result DType BaseError) : Type 0 where
  pub one : DType
  pub other : DType
  pub one_is : a ≡ Ok one
  pub other_is : b ≡ Ok other
  pub same : as_nullable other ≡ as_nullable one

literal_typed : (b : Bool) (t : DType) (f : BaseError) → b ≡ true → (if b then Ok t else Err f) ≡ Ok t
literal_typed true t f h = refl
literal_typed false t f h = cc

alike_from : (e : Tree Place) (a : Result DType BaseError) → type_of e ≡ a → IsOk a → AreAlike (type_of e) (type_of (folded e))
unfolding folded
alike_from e (Ok t) k ok =
    if_as (λ x. AreAlike (type_of e) (type_of x)) (is_literal e || (has_bare_column e || not_b (is_plain e))) e (literal (record { dtype = dtype.Bool Nullable; value = meaning e [] 0 }))
    (λ _. record { one = t; other = t; one_is = k; other_is = k; same = refl })
    (λ h.
    let w = not_constant (is_literal e) (has_bare_column e) (has_placeholder e) (has_row_count e) h in
    record {
      one = t;
      other = dtype.Bool Nullable;
      one_is = k;
      other_is = literal_typed (is_optional_value (meaning e [] 0) (dtype.Bool Nullable)) (dtype.Bool Nullable) _ (value_fits e w.0 w.1.0 w.1.1.0 w.1.1.1 (ok_typed e t k));
      same = sym (truth_typed e t w.0 w.1.0 w.1.1.0 w.1.1.1 k);
    })
alike_from e (Err f) k ok = absurd cc

bool_nullable : (t : DType) → is_bool (as_nullable t) ≡ is_bool t
bool_nullable dtype.Null = refl
bool_nullable (dtype.Bool n) = refl
bool_nullable (dtype.Primitive p n) = refl
bool_nullable (dtype.Utf8 n) = refl
bool_nullable (dtype.Binary n) = refl
bool_nullable (dtype.MinMaxState x n) = refl

state_nullable : (t : DType) → is_state (as_nullable t) ≡ is_state t
state_nullable dtype.Null = refl
state_nullable (dtype.Bool n) = refl
state_nullable (dtype.Primitive p n) = refl
state_nullable (dtype.Utf8 n) = refl
state_nullable (dtype.Binary n) = refl
state_nullable (dtype.MinMaxState x n) = refl

if_typed : (b : Bool) (t : DType) → b ≡ true → IsOk (type_if b t)
if_typed true t h = refl
if_typed false t h = cc

module _ (s t u v : DType) (left : as_nullable u ≡ as_nullable s) (right : as_nullable v ≡ as_nullable t) where
  same_bools : (is_bool u && is_bool v) ≡ (is_bool s && is_bool t)
  same_bools =
      ap₂ ◌&&◌ (sym (bool_nullable u) ∙ ap is_bool left ∙ bool_nullable s) (sym (bool_nullable v) ∙ ap is_bool right ∙ bool_nullable t)

  same_comparable : are_comparable u v ≡ are_comparable s t
  same_comparable =
      ap₂ ◌&&◌ (ap₂ dtype_eq left right) (ap not_b (sym (state_nullable u) ∙ ap is_state left ∙ state_nullable s))

  connective_typed : (a b : DType) → IsOk (type_if (is_bool s && is_bool t) a) → IsOk (type_if (is_bool u && is_bool v) b)
  connective_typed a b h = if_typed (is_bool u && is_bool v) b (same_bools ∙ comparable_if (is_bool s && is_bool t) a h)

  comparison_typed : (a b : DType) → IsOk (type_if (are_comparable s t) a) → IsOk (type_if (are_comparable u v) b)
  comparison_typed a b h = if_typed (are_comparable u v) b (same_comparable ∙ comparable_if (are_comparable s t) a h)

  binary_typed : (o : Operator) → IsOk (binary_type o s t) → IsOk (binary_type o u v)
  binary_typed And h = connective_typed _ _ h
  binary_typed Or h = connective_typed _ _ h
  binary_typed Eq h = comparison_typed _ _ h
  binary_typed NotEq h = comparison_typed _ _ h
  binary_typed Gt h = comparison_typed _ _ h
  binary_typed Gte h = comparison_typed _ _ h
  binary_typed Lt h = comparison_typed _ _ h
  binary_typed Lte h = comparison_typed _ _ h

both_typed : (f : DType → DType → Result DType BaseError) (a b : Result DType BaseError) → IsOk (with_types f a b) → IsOk a × IsOk b
both_typed f (Ok x) (Ok y) h = (refl, refl)
both_typed f (Ok x) (Err e) h = absurd cc
both_typed f (Err e) b h = absurd cc

pub folded_fits : (o : Operator) (l r : Tree Place) → IsOk (type_of (binary o l r)) → IsOk (type_of (binary o (folded l) (folded r)))
folded_fits o l r h =
    let k = both_typed (binary_type o) (type_of l) (type_of r) h in
    let a = alike_from l (type_of l) refl k.0 in
    let b = alike_from r (type_of r) refl k.1 in
    let typed = subst₂ (λ x y. IsOk (with_types (binary_type o) x y)) a.one_is b.one_is h in
    subst₂ (λ x y. IsOk (with_types (binary_type o) x y)) (sym a.other_is) (sym b.other_is) (binary_typed a.one b.one a.other b.other a.same b.same o typed)
