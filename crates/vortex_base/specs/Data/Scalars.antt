-- A value or null, with its type.
use Rattle.std.specs.Prelude.{◌≡◌, ◌&&◌, Bool, true, false, Option, Some, None, IsTrue, Result, Ok, Err, if◌then◌else◌, refl}
use Rattle.std.proofs.Common.{rules, ap}
use Rattle.vortex_base.specs.Data.Exact.{IsExact, both_true}
use Rattle.vortex_base.specs.Data.Types.{is_nullable, dtype_eq, dtype_eq_is_exact}
use Rattle.vortex_base.specs.Data.Values.{is_value}
use Rattle.vortex_base.specs.declared.dtype.DType.{DType}
use Rattle.vortex_base.specs.declared.scalar_value.ScalarValue.{ScalarValue}
use Rattle.vortex_base.specs.declared.scalar_value.ScalarValue.TheVariants as value
use Rattle.vortex_base.specs.declared.error.BaseError.{BaseError}
use Rattle.vortex_base.specs.declared.error.BaseError.TheVariants.{Mismatch}
use Rattle.vortex_base.specs.contracts.scalar_value.ScalarValuePartialEq.TheImpl as values

-- an optional value beside a type; None is null
pub record Constant : Type 0 where
  pub dtype : DType
  pub value : Option ScalarValue

-- the optional value may stand under the type: it is a value of it, or null, where the type has null
abbrev pub is_optional_value : Option ScalarValue → DType → Bool
is_optional_value None t = is_nullable t
is_optional_value (Some v) t = is_value v t

-- the optional value may stand under the type beside it
abbrev pub IsConstant : Constant → Type 0
IsConstant c = IsTrue (is_optional_value c.value c.dtype)

-- a copy of the value takes memory
abbrev pub is_long : Option ScalarValue → Bool
is_long (Some (value.Utf8 bs)) = true
is_long (Some (value.Binary bs)) = true
is_long v = false

abbrev pub null_of : DType → Constant
null_of t = record { dtype = t; value = None }

-- the constant of a type and an optional value, where that may stand under it
abbrev pub constant_of : DType → Option ScalarValue → Result Constant BaseError
constant_of t v = if is_optional_value v t then Ok (record { dtype = t; value = v }) else Err Mismatch

abbrev pub value_eq : ScalarValue → ScalarValue → Bool
value_eq = values.ghosts.eq

abbrev pub optional_value_eq : Option ScalarValue → Option ScalarValue → Bool
optional_value_eq None None = true
optional_value_eq (Some v) (Some w) = value_eq v w
optional_value_eq v w = false

abbrev pub constant_eq : Constant → Constant → Bool
constant_eq c d = dtype_eq c.dtype d.dtype && optional_value_eq c.value d.value

pub value_eq_is_exact : IsExact value_eq
value_eq_is_exact a b = search rules

pub optional_value_eq_is_exact : IsExact optional_value_eq
optional_value_eq_is_exact None None = (λ _. refl, λ _. refl)
optional_value_eq_is_exact (Some v) None = (λ e. cc, λ e. cc)
optional_value_eq_is_exact None (Some w) = (λ e. cc, λ e. cc)
optional_value_eq_is_exact (Some v) (Some w) = (λ e. ap Some ((value_eq_is_exact v w).0 e), λ e. (value_eq_is_exact v w).1 (cc))

pub constants_same : (c d : Constant) → c.dtype ≡ d.dtype → c.value ≡ d.value → c ≡ d
constants_same c d t v = λ i. record { dtype = t i; value = v i }

pub constant_eq_is_exact : IsExact constant_eq
constant_eq_is_exact c d = (
  λ e.
      let both = both_true _ _ e in
      let t : c.dtype ≡ d.dtype = (dtype_eq_is_exact c.dtype d.dtype).0 both.0 in
      let v : c.value ≡ d.value = (optional_value_eq_is_exact c.value d.value).0 both.1 in
      constants_same c d t v,
  λ e. rw ((dtype_eq_is_exact c.dtype d.dtype).1 (ap (λ x. x.dtype) e), (optional_value_eq_is_exact c.value d.value).1 (ap (λ x. x.value) e)) refl,
)
