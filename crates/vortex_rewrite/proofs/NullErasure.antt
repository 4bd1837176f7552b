-- What does not depend on whether a type has null, and that a placeholder's type has it.
use Rattle.std.proofs.Common.{◌≡◌, true, Option, Some, None, Result, Ok, Err, refl, sym, ap, ◌∙◌}
use Rattle.vortex_expr.proofs.Meanings.MeaningFits.{null_fits}
use Rattle.vortex_base.specs.declared.aggregate.AggregateFnRef.{AggregateFnRef}
use Rattle.vortex_base.specs.declared.dtype.DType.{DType}
use Rattle.vortex_base.specs.declared.dtype.DType.TheVariants as dtype
use Rattle.vortex_base.specs.declared.error.BaseError.{BaseError}
use Rattle.vortex_base.specs.Data.Types.{as_nullable, is_nullable}
use Rattle.vortex_base.specs.Data.States.{state_dtype}
use Rattle.vortex_expr.specs.Meanings.Typing.{is_bool, is_state, is_utf8, placeholder_type, stat_type, with_type}
use Rattle.vortex_rewrite.proofs.Logic.{same_ok}

pub is_state-as_nullable : (t : DType) → is_state (as_nullable t) ≡ is_state t
is_state-as_nullable dtype.Null = refl
is_state-as_nullable (dtype.Bool n) = refl
is_state-as_nullable (dtype.Primitive p n) = refl
is_state-as_nullable (dtype.Utf8 n) = refl
is_state-as_nullable (dtype.Binary n) = refl
is_state-as_nullable (dtype.MinMaxState e n) = refl

pub is_bool-as_nullable : (t : DType) → is_bool (as_nullable t) ≡ is_bool t
is_bool-as_nullable dtype.Null = refl
is_bool-as_nullable (dtype.Bool n) = refl
is_bool-as_nullable (dtype.Primitive p n) = refl
is_bool-as_nullable (dtype.Utf8 n) = refl
is_bool-as_nullable (dtype.Binary n) = refl
is_bool-as_nullable (dtype.MinMaxState e n) = refl

pub is_utf8-as_nullable : (t : DType) → is_utf8 (as_nullable t) ≡ is_utf8 t
is_utf8-as_nullable dtype.Null = refl
is_utf8-as_nullable (dtype.Bool n) = refl
is_utf8-as_nullable (dtype.Primitive p n) = refl
is_utf8-as_nullable (dtype.Utf8 n) = refl
is_utf8-as_nullable (dtype.Binary n) = refl
is_utf8-as_nullable (dtype.MinMaxState e n) = refl

pub same_state : (s t : DType) → as_nullable s ≡ as_nullable t → is_state s ≡ is_state t
same_state s t e = sym (is_state-as_nullable s) ∙ ap is_state e ∙ is_state-as_nullable t

-- null may stand under a placeholder's type
pub placeholder_null : (o : Option DType) (u : DType) → placeholder_type o ≡ Ok u → is_nullable u ≡ true
placeholder_null None u e = cc
placeholder_null (Some t) u e = ap is_nullable (sym (same_ok (as_nullable t) u e)) ∙ null_fits t

pub typed_null : (f : AggregateFnRef) (r : Result DType BaseError) (t : DType) → with_type (stat_type f) r ≡ Ok t → is_nullable t ≡ true
typed_null f (Ok s) t h = placeholder_null (state_dtype f s) t h
typed_null f (Err e) t h = cc
