-- Proofs by equal bounds are right, and without rules of a user they are closed.
use Rattle.std.proofs.Common.{◌≡◌, ℕ, Bool, true, false, not, ◌&&◌, ◌||◌, List, [], ◌∷◌, Option, Some, None, Result, Ok, Err, IsOk, IsTrue, refl, sym, ap₂, subst, ◌∙◌, if◌then◌else◌}
use Rattle.std.proofs.lemmas.Bool.{and_left, and_right}
use Rattle.vortex_base.specs.Data.Columns.{row_of, row_count as rows_of}
use Rattle.vortex_base.specs.Data.Scalars.{Constant}
use Rattle.vortex_base.specs.Data.Values.{value_cmp}
use Rattle.vortex_base.specs.declared.aggregate.AggregateFnRef.TheVariants.{Max, Min}
use Rattle.vortex_base.specs.declared.dtype.DType.{DType}
use Rattle.vortex_base.specs.declared.dtype.DType.TheVariants as dtype
use Rattle.vortex_base.specs.declared.error.BaseError.{BaseError}
use Rattle.vortex_base.specs.declared.scalar_value.ScalarValue.{ScalarValue}
use Rattle.vortex_base.specs.declared.scalar_value.ScalarValue.TheVariants as value
use Rattle.vortex_expr.specs.Meanings.Meaning.{holds, is_like, is_true, liked, meaning, satisfies, truth_value}
use Rattle.vortex_expr.specs.Meanings.Typing.{is_bool, like_type, stat_type, type_of, with_type, with_types}
use Rattle.vortex_expr.specs.Patterns.Like.{like_text}
use Rattle.vortex_expr.specs.Trees.Tree.{Tree, Place, column, literal, binary, like, stat, has_bare_column}
use Rattle.vortex_expr.specs.declared.like.LikeOptions.{LikeOptions}
use Rattle.vortex_expr.specs.declared.scalar_fn.Operator.{Operator}
use Rattle.vortex_expr.specs.declared.scalar_fn.Operator.TheVariants.{Eq, NotEq, Gt, Gte, Lt, Lte, And, Or}
use Rattle.vortex_predicates.proofs.JointRight.{joint_falsifies, own_falsifies}
use Rattle.vortex_predicates.proofs.JointTrue.{joint_closed, joint_second}
use Rattle.vortex_predicates.specs.EqualBounds.{OneTextIsTold, equal_bounds, form_proof, has_column_like, is_column_like, joint_unless_built_in, leaf_proof, opposite, sides_proof, value_proof}
use Rattle.vortex_predicates.specs.Pruning.{Falsifies}
use Rattle.vortex_rewrite.proofs.Rewriting.OverParts.{binary_parts}
use Rattle.vortex_rewrite.proofs.Rewriting.ShutProofs.{built_in_is_shut}
use Rattle.vortex_rewrite.proofs.Soundness.RowFacts.{right_at}
use Rattle.vortex_rewrite.proofs.Soundness.RowRules.{Bounds, IsNotAbove, IsNotBelow, is}
use Rattle.vortex_rewrite.proofs.Soundness.TruthLogic.{proves_and, proves_value, true_and, true_or}
use Rattle.vortex_rewrite.proofs.Soundness.ValueTests.{eq_le, holds_by_le, le_antisym, le_refl, le_trans}
use Rattle.vortex_rewrite.specs.Rewriting.Falsifiers.{both_of, falsifier}
use Rattle.vortex_rewrite.specs.Rewriting.Lawful.{OwnRule}
use Rattle.vortex_rewrite.specs.Rewriting.Predicates.{has_type, is_predicate}
use Rattle.vortex_rewrite.specs.Rewriting.Proof.{Assignment, is_open, value_under}

-- ---- types

typed_if : (r : Result DType BaseError) → IsTrue (has_type is_bool r) → IsOk r
typed_if (Ok t) h = refl
typed_if (Err f) h = cc

-- a predicate has a type, also by another name
pub typed_as : (e f : Tree Place) → e ≡ f → IsTrue (is_predicate e) → IsOk (type_of f)
typed_as e f is h = subst (λ (x : Tree Place). IsOk (type_of x)) is (typed_if (type_of e) h)

least_type : (a b : Result DType BaseError) → IsOk (with_types like_type a b) → IsTrue (has_type is_bool (with_types like_type (with_type (stat_type Min) a) b))
least_type (Ok (dtype.Utf8 n)) (Ok (dtype.Utf8 m)) h = refl
least_type (Ok (dtype.Utf8 n)) (Ok t) h = cc
least_type (Ok (dtype.Utf8 n)) (Err f) h = cc
least_type (Ok s) (Ok t) h = cc
least_type (Ok s) (Err f) h = cc
least_type (Err f) b h = cc

-- the least value of a text is matched with what the text is
pub least_matched : (o q : LikeOptions) (x p e : Tree Place) → e ≡ like q (stat Min x) p → IsOk (type_of (like o x p)) → IsTrue (is_predicate e)
least_matched o q x p e is h = subst (λ (y : Tree Place). IsTrue (is_predicate y)) (sym is) (least_type (type_of x) (type_of p) h)

-- ---- one LIKE

turned : (n b : Bool) → (if not n then not b else b) ≡ true → (if n then not b else b) ≡ false
turned true true h = refl
turned true false h = cc
turned false true h = cc
turned false false h = refl

-- a LIKE isn't true where the opposite one is
opposed : (o : LikeOptions) (v p : ScalarValue) → is_like (opposite o) v p ≡ true → is_like o v p ≡ false
opposed o (value.Utf8 t) (value.Utf8 p) h = turned o.negated (like_text o.case_insensitive p t) h
opposed o (value.Utf8 t) p h = refl
opposed o v p h = refl

-- a value between equal bounds is that bound
alone_right : (o : LikeOptions) (a b m p : Option ScalarValue) → Bounds IsNotBelow a m → Bounds IsNotAbove b m → is Eq a b ≡ true
    → is_true (truth_value (liked (opposite o) a p)) ≡ true → is_true (truth_value (liked o m p)) ≡ false
alone_right o None b m p low high e h = cc
alone_right o (Some a) None m p low high e h = cc
alone_right o (Some a) (Some b) None p low high e h = refl
alone_right o (Some a) (Some b) (Some m) None low high e h = refl
alone_right o (Some a) (Some b) (Some m) (Some p) low high e h =
    let k = eq_le a b e in
    let same : m ≡ a = le_antisym m a (le_trans m b a high k.1) low in
    subst (λ (v : ScalarValue). is_like o v p ≡ false) (sym same) (opposed o a p h)

-- the pattern is a literal, which has the value that it has on a row
pattern_told : (x p : Tree Place) (A : Assignment) (row : List Constant) (n : ℕ) → is_column_like x p ≡ true → value_under A n p ≡ meaning p row n
pattern_told (column c) (literal d) A row n h = refl
pattern_told (column c) p A row n h = cc
pattern_told x p A row n h = cc

alone_falsifies : (o : LikeOptions) (x p : Tree Place) → is_column_like x p ≡ true → Falsifies (Some (binary And (equal_bounds x) (like (opposite o) (stat Min x) p))) (like o x p)
alone_falsifies o x p of k A chunk over honest t i here =
    let n = rows_of k.columns in
    let row = row_of i k.columns in
    let right = right_at A k.columns honest i here in
    let both = proves_and (equal_bounds x) (like (opposite o) (stat Min x) p) A n t in
    alone_right o (A Min x) (A Max x) (meaning x row n) (meaning p row n) (right.min x) (right.max x) (proves_value (equal_bounds x) A n both.0)
    (subst (λ (v : Option ScalarValue). is_true (truth_value (liked (opposite o) (A Min x) v)) ≡ true) (pattern_told x p A row n of)
    (proves_value (like (opposite o) (stat Min x) p) A n both.1))

falsifies_if : (b : Bool) (o : Option (Tree Place)) (p : Tree Place) → (b ≡ true → Falsifies o p) → Falsifies (if b then o else None) p
falsifies_if true o p f = f refl
falsifies_if false o p f = λ k A chunk over honest t. cc

pub value_falsifies : (o : LikeOptions) (x p : Tree Place) → Falsifies (value_proof o x p) (like o x p)
value_falsifies o x p = falsifies_if (is_column_like x p) (Some (binary And (equal_bounds x) (like (opposite o) (stat Min x) p))) (like o x p) (alone_falsifies o x p)

-- ---- connectives

left_falsifies : (f : Option (Tree Place)) (l r : Tree Place) → Falsifies f l → Falsifies f (binary And l r)
left_falsifies f l r h k A chunk over honest t i here =
    true_and (meaning l (row_of i k.columns) (rows_of k.columns)) (meaning r (row_of i k.columns) (rows_of k.columns))
    ∙ and_left _ _ (h k A chunk (binary_parts And l r k over).0 honest t i here)

right_falsifies : (f : Option (Tree Place)) (l r : Tree Place) → Falsifies f r → Falsifies f (binary And l r)
right_falsifies f l r h k A chunk over honest t i here =
    let row = row_of i k.columns in
    let n = rows_of k.columns in
    true_and (meaning l row n) (meaning r row n) ∙ and_right (satisfies l row n) (satisfies r row n) (h k A chunk (binary_parts And l r k over).1 honest t i here)

both_falsifies : (f g : Option (Tree Place)) (l r : Tree Place) → Falsifies f l → Falsifies g r → Falsifies (both_of (binary And) f g) (binary Or l r)
both_falsifies None g l r left right k A chunk over honest t i here = cc
both_falsifies (Some f) None l r left right k A chunk over honest t i here = cc
both_falsifies (Some f) (Some g) l r left right k A chunk over honest t i here =
    let row = row_of i k.columns in
    let n = rows_of k.columns in
    let proofs = proves_and f g A n t in
    let parts = binary_parts Or l r k over in
    true_or (meaning l row n) (meaning r row n) ∙ ap₂ ◌||◌ (left k A chunk parts.0 honest proofs.0 i here) (right k A chunk parts.1 honest proofs.1 i here)

sides_falsify : (own : List OwnRule) (o : Operator) (l r : Tree Place) (f g : Option (Tree Place)) → Falsifies f l → Falsifies g r → Falsifies (sides_proof own o l r f g) (binary o l r)
sides_falsify own And l r f g left right = joint_falsifies f g (binary And l r) (left_falsifies f l r left) (right_falsifies g l r right)
sides_falsify own Or l r f g left right = both_falsifies f g l r left right
sides_falsify own Eq l r f g left right = own_falsifies own (binary Eq l r)
sides_falsify own NotEq l r f g left right = own_falsifies own (binary NotEq l r)
sides_falsify own Gt l r f g left right = own_falsifies own (binary Gt l r)
sides_falsify own Gte l r f g left right = own_falsifies own (binary Gte l r)
sides_falsify own Lt l r f g left right = own_falsifies own (binary Lt l r)
sides_falsify own Lte l r f g left right = own_falsifies own (binary Lte l r)

-- ---- predicates

leaf_falsifies : (own : List OwnRule) (e : Tree Place) → Falsifies (leaf_proof own e) e
leaf_falsifies own (binary o l r) = sides_falsify own o l r (leaf_proof own l) (leaf_proof own r) (leaf_falsifies own l) (leaf_falsifies own r)
leaf_falsifies own (like o x p) = joint_falsifies (falsifier own (like o x p)) (value_proof o x p) (like o x p) (own_falsifies own (like o x p)) (value_falsifies o x p)
leaf_falsifies own e = own_falsifies own e

unless_falsifies : (own : List OwnRule) (f g : Option (Tree Place)) (p : Tree Place) → Falsifies f p → Falsifies g p → Falsifies (joint_unless_built_in own f g) p
unless_falsifies [] f g p left right = right
unless_falsifies (rule ∷ rules) f g p left right = joint_falsifies f g p left right

either_falsifies : (b : Bool) (f g : Option (Tree Place)) (p : Tree Place) → Falsifies f p → Falsifies g p → Falsifies (if b then f else g) p
either_falsifies true f g p left right = left
either_falsifies false f g p left right = right

pub form_falsifies : (own : List OwnRule) (e : Tree Place) → Falsifies (form_proof own e) e
form_falsifies own e =
    either_falsifies (has_column_like e) (joint_unless_built_in own (falsifier own e) (leaf_proof own e)) (falsifier own e) e
    (unless_falsifies own (falsifier own e) (leaf_proof own e) e (own_falsifies own e) (leaf_falsifies own e)) (own_falsifies own e)

-- ---- closed proofs

value_closed : (o : LikeOptions) (x p : Tree Place) → is_open (value_proof o x p) ≡ false
value_closed o (column c) (literal d) = refl
value_closed o (column c) p = refl
value_closed o x p = refl

neither : (a b : Bool) → a ≡ false → b ≡ false → (a || b) ≡ false
neither true b h k = cc
neither false b h k = k

both_closed : (f g : Option (Tree Place)) → is_open f ≡ false → is_open g ≡ false → is_open (both_of (binary And) f g) ≡ false
both_closed None g h k = refl
both_closed (Some f) None h k = refl
both_closed (Some f) (Some g) h k = neither (has_bare_column f) (has_bare_column g) h k

sides_closed : (o : Operator) (l r : Tree Place) (f g : Option (Tree Place)) → is_open f ≡ false → is_open g ≡ false → is_open (sides_proof [] o l r f g) ≡ false
sides_closed And l r f g h k = joint_closed f g h k
sides_closed Or l r f g h k = both_closed f g h k
sides_closed Eq l r f g h k = built_in_is_shut (binary Eq l r)
sides_closed NotEq l r f g h k = built_in_is_shut (binary NotEq l r)
sides_closed Gt l r f g h k = built_in_is_shut (binary Gt l r)
sides_closed Gte l r f g h k = built_in_is_shut (binary Gte l r)
sides_closed Lt l r f g h k = built_in_is_shut (binary Lt l r)
sides_closed Lte l r f g h k = built_in_is_shut (binary Lte l r)

leaf_closed : (e : Tree Place) → is_open (leaf_proof [] e) ≡ false
leaf_closed (binary o l r) = sides_closed o l r (leaf_proof [] l) (leaf_proof [] r) (leaf_closed l) (leaf_closed r)
leaf_closed (like o x p) = joint_closed (falsifier [] (like o x p)) (value_proof o x p) (built_in_is_shut (like o x p)) (value_closed o x p)
leaf_closed e = built_in_is_shut e

one_closed : (b : Bool) (f g : Option (Tree Place)) → is_open f ≡ false → is_open g ≡ false → is_open (if b then f else g) ≡ false
one_closed true f g h k = h
one_closed false f g h k = k

pub form_closed : (e : Tree Place) → is_open (form_proof [] e) ≡ false
form_closed e = one_closed (has_column_like e) (leaf_proof [] e) (falsifier [] e) (leaf_closed e) (built_in_is_shut e)

-- ---- one text

both_hold : (a b : Bool) → a ≡ true → b ≡ true → (a && b) ≡ true
both_hold true b h k = k
both_hold false b h k = cc

turned_back : (n b : Bool) → (if n then not b else b) ≡ false → (if not n then not b else b) ≡ true
turned_back true true h = refl
turned_back true false h = cc
turned_back false true h = cc
turned_back false false h = refl

same_value : (v : ScalarValue) → holds Eq (value_cmp v v) ≡ true
same_value v = holds_by_le Eq v v ∙ both_hold _ _ (le_refl v) (le_refl v)

pub one_text_is_told : OneTextIsTold
one_text_is_told o c d text pattern A n low high pattern_is unmatched =
    let x : Tree Place = column c in
    let equal : is_true (value_under A n (equal_bounds x)) ≡ true = rw (low, high) (same_value (value.Utf8 text)) in
    let differs : is_true (value_under A n (like (opposite o) (stat Min x) (literal d))) ≡ true = rw (low, pattern_is) (turned_back o.negated (like_text o.case_insensitive pattern text) unmatched) in
    joint_second A n (falsifier [] (like o x (literal d))) (value_proof o x (literal d)) (form_closed (like o x (literal d)))
    (true_and (value_under A n (equal_bounds x)) (value_under A n (like (opposite o) (stat Min x) (literal d))) ∙ both_hold _ _ equal differs)
