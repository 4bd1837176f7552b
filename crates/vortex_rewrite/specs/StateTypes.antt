-- The type of a placeholder, which the nullability of its input does not change.
use Rattle.std.specs.Prelude.{◌≡◌, Option, Some, None, Result, Ok, Err, refl}
use Rattle.std.proofs.Common.{sym, ap, ap₂, ◌∙◌}
use Rattle.vortex_base.specs.declared.aggregate.AggregateFnRef.{AggregateFnRef}
use Rattle.vortex_base.specs.declared.aggregate.AggregateFnRef.TheVariants as aggregate
use Rattle.vortex_base.specs.declared.dtype.DType.{DType}
use Rattle.vortex_base.specs.declared.dtype.DType.TheVariants as dtype
use Rattle.vortex_base.specs.declared.error.BaseError.{BaseError}
use Rattle.vortex_base.specs.declared.types.Nullability.TheVariants.{Nullable}
use Rattle.vortex_base.specs.Data.Types.{as_nullable}
use Rattle.vortex_base.specs.Data.States.{element_of, of_element, state_dtype, sum_type}
use Rattle.vortex_expr.specs.Meanings.Typing.{placeholder_type, stat_type, with_type}

abbrev ok : DType → Result DType BaseError
ok t = Ok t

pub as_nullable-again : (t : DType) → as_nullable (as_nullable t) ≡ as_nullable t
as_nullable-again dtype.Null = refl
as_nullable-again (dtype.Bool n) = refl
as_nullable-again (dtype.Primitive p n) = refl
as_nullable-again (dtype.Utf8 n) = refl
as_nullable-again (dtype.Binary n) = refl
as_nullable-again (dtype.MinMaxState e n) = refl

element_of-as_nullable : (t : DType) → element_of (as_nullable t) ≡ element_of t
element_of-as_nullable dtype.Null = refl
element_of-as_nullable (dtype.Bool n) = refl
element_of-as_nullable (dtype.Primitive p n) = refl
element_of-as_nullable (dtype.Utf8 n) = refl
element_of-as_nullable (dtype.Binary n) = refl
element_of-as_nullable (dtype.MinMaxState e n) = refl

sum_type-as_nullable : (t : DType) → sum_type (as_nullable t) ≡ sum_type t
sum_type-as_nullable dtype.Null = refl
sum_type-as_nullable (dtype.Bool n) = refl
sum_type-as_nullable (dtype.Primitive p n) = refl
sum_type-as_nullable (dtype.Utf8 n) = refl
sum_type-as_nullable (dtype.Binary n) = refl
sum_type-as_nullable (dtype.MinMaxState e n) = refl

extreme-as_nullable : (t : DType) → of_element (element_of (as_nullable t)) (λ e. as_nullable (as_nullable t)) ≡ of_element (element_of t) (λ e. as_nullable t)
extreme-as_nullable t = ap₂ (λ e u. of_element e (λ _. u)) (element_of-as_nullable t) (as_nullable-again t)

state_dtype-as_nullable : (f : AggregateFnRef) (t : DType) → state_dtype f (as_nullable t) ≡ state_dtype f t
state_dtype-as_nullable aggregate.Max t = extreme-as_nullable t
state_dtype-as_nullable aggregate.Min t = extreme-as_nullable t
state_dtype-as_nullable aggregate.MinMax t = ap (λ e. of_element e (λ x. dtype.MinMaxState x Nullable)) (element_of-as_nullable t)
state_dtype-as_nullable aggregate.Sum t = sum_type-as_nullable t
state_dtype-as_nullable aggregate.NullCount t = refl
state_dtype-as_nullable aggregate.UncompressedSizeInBytes t = refl
state_dtype-as_nullable aggregate.AllNull t = refl
state_dtype-as_nullable aggregate.AllNonNull t = refl
state_dtype-as_nullable aggregate.NanCount t = refl

pub same_stat_type : (f : AggregateFnRef) (s t : DType) → as_nullable s ≡ as_nullable t → stat_type f s ≡ stat_type f t
same_stat_type f s t e = ap placeholder_type (sym (state_dtype-as_nullable f s) ∙ ap (state_dtype f) e ∙ state_dtype-as_nullable f t)

-- a placeholder's type has null
again : (s t : DType) → ok (as_nullable s) ≡ ok t → as_nullable t ≡ t
again s t h = let same : as_nullable s ≡ t = cc in ap as_nullable (sym same) ∙ as_nullable-again s ∙ same

placeholder_again : (o : Option DType) (t : DType) → placeholder_type o ≡ Ok t → as_nullable t ≡ t
placeholder_again None t h = cc
placeholder_again (Some s) t h = again s t h

pub stat_again : (f : AggregateFnRef) (r : Result DType BaseError) (t : DType) → with_type (stat_type f) r ≡ Ok t → as_nullable t ≡ t
stat_again f (Ok u) t h = placeholder_again (state_dtype f u) t h
stat_again f (Err e) t h = cc
