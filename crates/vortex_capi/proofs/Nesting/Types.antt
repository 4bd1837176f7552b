-- Joining in halves keeps the type of an expression.
use Rattle.std.proofs.Common.{◌≡◌, Bool, true, false, ◌||◌, Option, Some, None, Result, Ok, Err, is_ok, refl, ap, ap₂, sym, ◌∙◌}
use Rattle.std.specs.Prelude.{option_map}
use Rattle.vortex_base.specs.declared.dtype.DType.{DType}
use Rattle.vortex_base.specs.declared.dtype.DType.TheVariants as dtype
use Rattle.vortex_base.specs.declared.types.Nullability.{Nullability}
use Rattle.vortex_base.specs.declared.types.Nullability.TheVariants.{Nullable, NonNullable}
use Rattle.vortex_base.specs.declared.error.BaseError.{BaseError}
use Rattle.vortex_expr.specs.Meanings.Typing.{between_type, binary_type, connective_type, is_bool, like_type, not_type, null_test_type, stat_type, truth_type, type_of, with_type, with_types}
use Rattle.vortex_expr.specs.Trees.Tree.{Tree, Place, binary}
use Rattle.vortex_rewrite.specs.Rewriting.Predicates.{has_type, is_predicate}
use Rattle.vortex_expr.specs.Trees.Connectives.{operator_of}
use Rattle.vortex_capi.specs.Nesting.Halves.{halved}
use Rattle.vortex_capi.specs.Nesting.Laws.{typing}
use Rattle.vortex_capi.proofs.Nesting.Values.{kept}

-- ---- the type of a node comes from those of its children

abbrev after_one : (DType → Result DType BaseError) → Option DType → Option DType
after_one f (Some t) = typing (f t)
after_one f None = None

abbrev after_two : (DType → DType → Result DType BaseError) → Option DType → Option DType → Option DType
after_two f (Some s) t = after_one (f s) t
after_two f None t = None

abbrev after_three : (DType → DType → DType → Result DType BaseError) → Option DType → Option DType → Option DType → Option DType
after_three f (Some s) t u = after_two (f s) t u
after_three f None t u = None

one_typed : (f : DType → Result DType BaseError) (r : Result DType BaseError) → typing (with_type f r) ≡ after_one f (typing r)
one_typed f (Ok t) = refl
one_typed f (Err e) = refl

two_typed : (f : DType → DType → Result DType BaseError) (r s : Result DType BaseError) → typing (with_types f r s) ≡ after_two f (typing r) (typing s)
two_typed f (Ok t) s = one_typed (f t) s
two_typed f (Err e) s = refl

three_typed : (f : DType → DType → DType → Result DType BaseError) (r s t : Result DType BaseError) → typing (with_type (λ a. with_types (f a) s t) r) ≡ after_three f (typing r) (typing s) (typing t)
three_typed f (Ok a) s t = two_typed (f a) s t
three_typed f (Err e) s t = refl

one_kept : (f : DType → Result DType BaseError) (r s : Result DType BaseError) → typing s ≡ typing r → typing (with_type f s) ≡ typing (with_type f r)
one_kept f r s h = one_typed f s ∙ ap (after_one f) h ∙ sym (one_typed f r)

two_kept : (f : DType → DType → Result DType BaseError) (a b c d : Result DType BaseError) → typing c ≡ typing a → typing d ≡ typing b → typing (with_types f c d) ≡ typing (with_types f a b)
two_kept f a b c d h k = two_typed f c d ∙ ap₂ (after_two f) h k ∙ sym (two_typed f a b)

three_kept : (f : DType → DType → DType → Result DType BaseError) (x l u y m v : Result DType BaseError) → typing y ≡ typing x → typing m ≡ typing l → typing v ≡ typing u
    → typing (with_type (λ a. with_types (f a) m v) y) ≡ typing (with_type (λ a. with_types (f a) l u) x)
three_kept f x l u y m v h i j =
    three_typed f y m v
    ∙ (ap (λ a. after_three f a (typing m) (typing v)) h ∙ ap₂ (after_three f (typing x)) i j)
    ∙ sym (three_typed f x l u)

-- ---- a chain is null only where an item may be; it has no type where an item isn't of type Bool

abbrev may_be_null : Nullability → Bool
may_be_null Nullable = true
may_be_null NonNullable = false

abbrev null_of : DType → Option Bool
null_of (dtype.Bool n) = Some (may_be_null n)
null_of t = None

abbrev nulls : Option DType → Option Bool
nulls (Some t) = null_of t
nulls None = None

abbrev chain_type : Option Bool → Option DType
chain_type a = option_map truth_type a

abbrev either_null : Option Bool → Option Bool → Option Bool
either_null (Some a) (Some b) = Some (a || b)
either_null a b = None

null_assoc : (a b c : Option Bool) → either_null (either_null a b) c ≡ either_null a (either_null b c)
null_assoc (Some true) (Some b) (Some c) = refl
null_assoc (Some false) (Some b) (Some c) = refl
null_assoc (Some a) (Some b) None = refl
null_assoc (Some a) None c = refl
null_assoc None b c = refl

null_left : (a : Option Bool) → either_null (Some false) a ≡ a
null_left (Some a) = refl
null_left None = refl

null_right : (a : Option Bool) → either_null a (Some false) ≡ a
null_right (Some true) = refl
null_right (Some false) = refl
null_right None = refl

chain_seen : (a : Option Bool) → nulls (chain_type a) ≡ a
chain_seen (Some true) = refl
chain_seen (Some false) = refl
chain_seen None = refl

two_nulls : (s t : DType) → typing (connective_type s t) ≡ chain_type (either_null (null_of s) (null_of t))
two_nulls (dtype.Bool Nullable) (dtype.Bool Nullable) = refl
two_nulls (dtype.Bool Nullable) (dtype.Bool NonNullable) = refl
two_nulls (dtype.Bool NonNullable) (dtype.Bool Nullable) = refl
two_nulls (dtype.Bool NonNullable) (dtype.Bool NonNullable) = refl
two_nulls (dtype.Bool n) t = refl
two_nulls s t = refl

chain_typed : (s t : Result DType BaseError) → typing (with_types connective_type s t) ≡ chain_type (either_null (nulls (typing s)) (nulls (typing t)))
chain_typed (Ok s) (Ok t) = two_nulls s t
chain_typed (Ok (dtype.Bool n)) (Err e) = refl
chain_typed (Ok s) (Err e) = refl
chain_typed (Err e) t = refl

joins : (w : Bool) (a b : Tree Place) → typing (type_of (binary (operator_of w) a b)) ≡ chain_type (either_null (nulls (typing (type_of a))) (nulls (typing (type_of b))))
joins true a b = chain_typed (type_of a) (type_of b)
joins false a b = chain_typed (type_of a) (type_of b)

pub same_type : (e : Tree Place) → typing (type_of (halved e)) ≡ typing (type_of e)
same_type e =
    kept (λ x. typing (type_of x)) nulls chain_type (λ w. either_null) (λ w. Some false) (λ w. null_assoc) (λ w. null_left) (λ w. null_right) chain_seen joins
    (λ o l r m s h k. two_kept (binary_type o) (type_of l) (type_of r) (type_of m) (type_of s) h k)
    (λ o x l u y m v h i j. three_kept between_type (type_of x) (type_of l) (type_of u) (type_of y) (type_of m) (type_of v) h i j)
    (λ x y h. one_kept null_test_type (type_of x) (type_of y) h)
    (λ x y h. one_kept null_test_type (type_of x) (type_of y) h)
    (λ x y h. one_kept not_type (type_of x) (type_of y) h)
    (λ o x p y q h k. two_kept like_type (type_of x) (type_of p) (type_of y) (type_of q) h k)
    (λ f x y h. one_kept (stat_type f) (type_of x) (type_of y) h)
    e

-- ---- what follows

told : (t : DType) (r : Result DType BaseError) → typing r ≡ Some t → r ≡ Ok t
told t (Ok s) h = cc
told t (Err e) h = cc

pub type_kept : (e : Tree Place) (t : DType) → type_of e ≡ Ok t → type_of (halved e) ≡ Ok t
type_kept e t h = told t (type_of (halved e)) (same_type e ∙ ap typing h)

abbrev known : Option DType → Bool
known (Some t) = true
known None = false

abbrev known_as : (DType → Bool) → Option DType → Bool
known_as test (Some t) = test t
known_as test None = false

ok_known : (r : Result DType BaseError) → is_ok r ≡ known (typing r)
ok_known (Ok t) = refl
ok_known (Err e) = refl

type_known : (test : DType → Bool) (r : Result DType BaseError) → has_type test r ≡ known_as test (typing r)
type_known test (Ok t) = refl
type_known test (Err e) = refl

pub same_typed : (e : Tree Place) → is_ok (type_of (halved e)) ≡ is_ok (type_of e)
same_typed e = ok_known (type_of (halved e)) ∙ ap known (same_type e) ∙ sym (ok_known (type_of e))

pub same_predicate : (e : Tree Place) → is_predicate (halved e) ≡ is_predicate e
same_predicate e = type_known is_bool (type_of (halved e)) ∙ ap (known_as is_bool) (same_type e) ∙ sym (type_known is_bool (type_of e))
