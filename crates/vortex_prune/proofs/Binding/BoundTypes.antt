-- A node keeps its type, nullability aside, where its children do.
use Rattle.std.proofs.Common.{◌≡◌, ◌&&◌, ◌||◌, not, Bool, true, false, refl, sym, ap, ap₂, subst, ◌∙◌}
use Rattle.std.specs.Prelude.{Result, Ok, Err, IfOk, MatchResult, alloc_error, ⊤}
use Rattle.vortex_base.specs.declared.aggregate.AggregateFnRef.{AggregateFnRef}
use Rattle.vortex_expr.specs.declared.scalar_fn.BetweenOptions.{BetweenOptions}
use Rattle.vortex_base.specs.declared.dtype.DType.{DType}
use Rattle.vortex_base.specs.declared.dtype.DType.TheVariants as dtype
use Rattle.vortex_base.specs.declared.error.BaseError.{BaseError}
use Rattle.vortex_base.specs.declared.error.BaseError.TheVariants.{Memory}
use Rattle.vortex_expr.specs.declared.like.LikeOptions.{LikeOptions}
use Rattle.vortex_base.specs.declared.types.Nullability.TheVariants.{Nullable}
use Rattle.vortex_expr.specs.declared.scalar_fn.Operator.{Operator}
use Rattle.vortex_expr.specs.declared.scalar_fn.Operator.TheVariants as operator
use Rattle.vortex_base.specs.Answer.{Answers, Makes}
use Rattle.vortex_expr.specs.Answer.{Builds}
use Rattle.vortex_expr.specs.Trees.Tree as tree
use Rattle.vortex_expr.specs.Trees.Tree.{Tree, Place}
use Rattle.vortex_base.specs.Data.Types.{as_nullable, dtype_eq, is_nullable}
use Rattle.vortex_expr.specs.Meanings.Typing.{are_comparable, between_type, binary_type, comparison_type, connective_type, is_bool, is_utf8, like_type, null_test_type, not_type, truth_type, type_if, type_of, with_type, with_types}
use Rattle.vortex_stats.specs.declared.error.StatsError.{StatsError}
use Rattle.vortex_prune.specs.Binding.BoundTo.{IsBinding, base_type}
use Rattle.vortex_rewrite.specs.StateTypes.{as_nullable-again}
use Rattle.vortex_rewrite.proofs.NullErasure.{is_state-as_nullable, is_bool-as_nullable, is_utf8-as_nullable}
use Rattle.vortex_rewrite.specs.Answers.{OkOrMemory}

-- the type, with null, if there is one
abbrev base : Result DType BaseError → Result DType BaseError
base r = with_type (λ t. Ok (as_nullable t)) r

abbrev truth : DType
truth = dtype.Bool Nullable

-- ---- what the table makes of types, nullability aside

base_truth : (fits nullable : Bool) → base (type_if fits (truth_type nullable)) ≡ type_if fits truth
base_truth true true = refl
base_truth true false = refl
base_truth false nullable = refl

comparable-as_nullable : (l r : DType) → are_comparable (as_nullable l) (as_nullable r) ≡ are_comparable l r
comparable-as_nullable l r = ap₂ (λ a b. a && not b) (ap₂ dtype_eq (as_nullable-again l) (as_nullable-again r)) (is_state-as_nullable l)

comparison_base : (l r : DType) → base (comparison_type (as_nullable l) (as_nullable r)) ≡ base (comparison_type l r)
comparison_base l r =
    base_truth (are_comparable (as_nullable l) (as_nullable r)) (is_nullable (as_nullable l) || is_nullable (as_nullable r)) ∙
    ap (λ b. type_if b truth) (comparable-as_nullable l r) ∙
    sym (base_truth (are_comparable l r) (is_nullable l || is_nullable r))

connective_base : (l r : DType) → base (connective_type (as_nullable l) (as_nullable r)) ≡ base (connective_type l r)
connective_base l r =
    base_truth (is_bool (as_nullable l) && is_bool (as_nullable r)) (is_nullable (as_nullable l) || is_nullable (as_nullable r)) ∙
    ap₂ (λ a b. type_if (a && b) truth) (is_bool-as_nullable l) (is_bool-as_nullable r) ∙
    sym (base_truth (is_bool l && is_bool r) (is_nullable l || is_nullable r))

binary_base : (o : Operator) (l r : DType) → base (binary_type o (as_nullable l) (as_nullable r)) ≡ base (binary_type o l r)
binary_base operator.And l r = connective_base l r
binary_base operator.Or l r = connective_base l r
binary_base operator.Eq l r = comparison_base l r
binary_base operator.NotEq l r = comparison_base l r
binary_base operator.Gt l r = comparison_base l r
binary_base operator.Gte l r = comparison_base l r
binary_base operator.Lt l r = comparison_base l r
binary_base operator.Lte l r = comparison_base l r

between_base : (x l u : DType) → base (between_type (as_nullable x) (as_nullable l) (as_nullable u)) ≡ base (between_type x l u)
between_base x l u =
    base_truth (are_comparable (as_nullable x) (as_nullable l) && are_comparable (as_nullable x) (as_nullable u)) (is_nullable (as_nullable x) || (is_nullable (as_nullable l) || is_nullable (as_nullable u))) ∙
    ap₂ (λ a b. type_if (a && b) truth) (comparable-as_nullable x l) (comparable-as_nullable x u) ∙
    sym (base_truth (are_comparable x l && are_comparable x u) (is_nullable x || (is_nullable l || is_nullable u)))

not_base : (x : DType) → base (not_type (as_nullable x)) ≡ base (not_type x)
not_base dtype.Null = refl
not_base (dtype.Bool n) = refl
not_base (dtype.Primitive p n) = refl
not_base (dtype.Utf8 n) = refl
not_base (dtype.Binary n) = refl
not_base (dtype.MinMaxState e n) = refl

like_base : (x p : DType) → base (like_type (as_nullable x) (as_nullable p)) ≡ base (like_type x p)
like_base x p =
    base_truth (is_utf8 (as_nullable x) && is_utf8 (as_nullable p)) (is_nullable (as_nullable x) || is_nullable (as_nullable p)) ∙
    ap₂ (λ a b. type_if (a && b) truth) (is_utf8-as_nullable x) (is_utf8-as_nullable p) ∙
    sym (base_truth (is_utf8 x && is_utf8 p) (is_nullable x || is_nullable p))

-- ---- nodes over typed children

abbrev Table : Type 0
Table = Result DType BaseError

one_base : (f : DType → Table) → ((x : DType) → base (f (as_nullable x)) ≡ base (f x)) → (a : Table) → base (with_type f a) ≡ with_type (λ x. base (f x)) (base a)
one_base f h (Ok x) = sym (h x)
one_base f h (Err e) = refl

two_base : (f : DType → DType → Table) → ((x y : DType) → base (f (as_nullable x) (as_nullable y)) ≡ base (f x y)) → (a b : Table) → base (with_types f a b) ≡ with_types (λ x y. base (f x y)) (base a) (base b)
two_base f h (Ok x) (Ok y) = sym (h x y)
two_base f h (Ok x) (Err e) = refl
two_base f h (Err e) b = refl

three_base : (f : DType → DType → DType → Table) → ((x y z : DType) → base (f (as_nullable x) (as_nullable y) (as_nullable z)) ≡ base (f x y z)) → (a b c : Table) → base (with_type (λ x. with_types (f x) b c) a) ≡ with_type (λ x. with_types (λ y z. base (f x y z)) (base b) (base c)) (base a)
three_base f h (Ok x) (Ok y) (Ok z) = sym (h x y z)
three_base f h (Ok x) (Ok y) (Err e) = refl
three_base f h (Ok x) (Err e) c = refl
three_base f h (Err e) b c = refl

pub binary-base_type : (o : Operator) (l r k s : Tree Place) → base_type k ≡ base_type l → base_type s ≡ base_type r → base_type (tree.binary o k s) ≡ base_type (tree.binary o l r)
binary-base_type o l r k s p q =
    two_base (binary_type o) (binary_base o) (type_of k) (type_of s) ∙
    ap₂ (with_types (λ x y. base (binary_type o x y))) p q ∙
    sym (two_base (binary_type o) (binary_base o) (type_of l) (type_of r))

pub between-base_type : (o : BetweenOptions) (x l u y k v : Tree Place) → base_type y ≡ base_type x → base_type k ≡ base_type l → base_type v ≡ base_type u → base_type (tree.between o y k v) ≡ base_type (tree.between o x l u)
between-base_type o x l u y k v p q r =
    three_base between_type between_base (type_of y) (type_of k) (type_of v) ∙
    (λ i. with_type (λ a. with_types (λ b c. base (between_type a b c)) (q i) (r i)) (p i)) ∙
    sym (three_base between_type between_base (type_of x) (type_of l) (type_of u))

pub is_null-base_type : (x y : Tree Place) → base_type y ≡ base_type x → base_type (tree.is_null y) ≡ base_type (tree.is_null x)
is_null-base_type x y p =
    one_base null_test_type (λ a. refl) (type_of y) ∙ ap (with_type (λ a. base (null_test_type a))) p ∙ sym (one_base null_test_type (λ a. refl) (type_of x))

pub is_not_null-base_type : (x y : Tree Place) → base_type y ≡ base_type x → base_type (tree.is_not_null y) ≡ base_type (tree.is_not_null x)
is_not_null-base_type x y p =
    one_base null_test_type (λ a. refl) (type_of y) ∙ ap (with_type (λ a. base (null_test_type a))) p ∙ sym (one_base null_test_type (λ a. refl) (type_of x))

pub not-base_type : (x y : Tree Place) → base_type y ≡ base_type x → base_type (tree.not y) ≡ base_type (tree.not x)
not-base_type x y p = one_base not_type not_base (type_of y) ∙ ap (with_type (λ a. base (not_type a))) p ∙ sym (one_base not_type not_base (type_of x))

pub like-base_type : (o : LikeOptions) (x p y q : Tree Place) → base_type y ≡ base_type x → base_type q ≡ base_type p → base_type (tree.like o y q) ≡ base_type (tree.like o x p)
like-base_type o x p y q h k =
    two_base like_type like_base (type_of y) (type_of q) ∙ ap₂ (with_types (λ a b. base (like_type a b))) h k ∙ sym (two_base like_type like_base (type_of x) (type_of p))

-- ---- so no constructor finds a fault in nodes whose children were replaced

with_type-there : (a : Table) (t : DType) → base a ≡ Ok t → (s : DType) × (a ≡ Ok s)
with_type-there (Ok s) t h = (s, refl)
with_type-there (Err e) t h = cc

same_there : (a b : Table) (t : DType) → b ≡ Ok t → base a ≡ base b → (s : DType) × (a ≡ Ok s)
same_there a b t h k = with_type-there a (as_nullable t) (k ∙ ap base h)

makes : (a : Table) (s : DType) (n : Tree Place) (made : Result (Tree Place) BaseError) → a ≡ Ok s → Answers a n made → Makes n made
makes a s n made h k = subst (λ r. Answers r n made) h k

of_made : (n : Tree Place) (made : Result (Tree Place) BaseError) → Makes n made → MatchResult made (λ _. ⊤) (λ f. f ≡ Memory alloc_error)
of_made n (Ok e) h = tt
of_made n (Err f) h = h

pub memory_alone : (e n : Tree Place) (t : DType) (made : Result (Tree Place) BaseError) → type_of e ≡ Ok t → base_type n ≡ base_type e → Builds n made → MatchResult made (λ _. ⊤) (λ f. f ≡ Memory alloc_error)
memory_alone e n t made h k b = let s = same_there (type_of n) (type_of e) t h k in of_made n made (makes (type_of n) s.0 n made s.1 b)

is_made : (n r : Tree Place) (made : Result (Tree Place) BaseError) → Makes n made → made ≡ Ok r → r ≡ n
is_made n r (Ok e) h k = cc
is_made n r (Err f) h k = cc

pub made-same : (e n r : Tree Place) (t : DType) (made : Result (Tree Place) BaseError) → type_of e ≡ Ok t → base_type n ≡ base_type e → Builds n made → made ≡ Ok r → r ≡ n
made-same e n r t made h k b m = let s = same_there (type_of n) (type_of e) t h k in is_made n r made (makes (type_of n) s.0 n made s.1 b) m

-- what was built is the node
pub is_node : (e n : Tree Place) (t : DType) (made : Result (Tree Place) BaseError) (r : Result (Tree Place) StatsError) → type_of e ≡ Ok t → base_type n ≡ base_type e → Builds n made → OkOrMemory r (λ x. made ≡ Ok x) → IfOk r (λ x. x ≡ n)
is_node e n t made (Ok x) h k b m = made-same e n x t made h k b m
is_node e n t made (Err f) h k b m = tt

pub has_type : (e n : Tree Place) (r : Result (Tree Place) StatsError) → base_type n ≡ base_type e → IfOk r (λ x. x ≡ n) → IfOk r (λ x. base_type x ≡ base_type e)
has_type e n (Ok x) k m = ap base_type m ∙ k
has_type e n (Err f) k m = tt

pub between_bound : (R : AggregateFnRef → Tree Place → Tree Place → Type 0) (o : BetweenOptions) (x l u y k v : Tree Place) (r : Result (Tree Place) StatsError) → IsBinding R x y → IsBinding R l k → IsBinding R u v → IfOk r (λ e. e ≡ tree.between o y k v)
    → IfOk r (IsBinding R (tree.between o x l u))
between_bound R o x l u y k v (Ok e) p q s m = (y, k, v, m, p, q, s)
between_bound R o x l u y k v (Err f) p q s m = tt
