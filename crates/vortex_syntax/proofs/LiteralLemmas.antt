-- A literal is typed where its value fits its type.
use Rattle.std.proofs.Common.{◌≡◌, Bool, true, false, Option, Result, Ok, Err, refl, subst, if◌then◌else◌}
use Rattle.vortex_base.specs.Data.Scalars.{Constant, constant_of, is_optional_value}
use Rattle.vortex_expr.specs.Trees.Tree.{Tree, Place, literal}
use Rattle.vortex_base.specs.declared.dtype.DType.{DType}
use Rattle.vortex_base.specs.declared.error.BaseError.{BaseError}
use Rattle.vortex_base.specs.declared.error.BaseError.TheVariants.{Mismatch}
use Rattle.vortex_base.specs.declared.scalar_value.ScalarValue.{ScalarValue}
use Rattle.vortex_syntax.proofs.Typed.{fails_none}
use Rattle.vortex_syntax.specs.Expressions.{IsRefusedAs, typed}
use Rattle.vortex_syntax.specs.Fails.{Fails, Gives}
use Rattle.vortex_syntax.specs.declared.line_error.LineError.{LineError}

abbrev constant : DType → Option ScalarValue → Constant
constant t v = record { dtype = t; value = v }

made_is : (t : DType) (v : Option ScalarValue) (c : Constant) (fits : Bool) → Ok c ≡ (if fits then Ok (constant t v) else Err Mismatch) → c ≡ constant t v
made_is t v c true made = cc
made_is t v c false made = absurd cc

-- the scalar that is made is of the type and the value
pub scalar_made : {X : Type 0} (t : DType) (v : Option ScalarValue) (c : Constant) (view : X → Tree Place) (r : Result X LineError)
    → Ok c ≡ constant_of t v → Gives view r (typed (literal c)) → Gives view r (typed (literal (constant t v)))
scalar_made t v c view r made given =
    subst (λ (x : Constant). Gives view r (typed (literal x))) (made_is t v c (is_optional_value v t) made) given

untyped : (t : DType) (v : Option ScalarValue) (f : BaseError) (r : LineError) (fits : Bool) → is_optional_value v t ≡ fits
    → Err f ≡ (if fits then Ok (constant t v) else Err Mismatch) → IsRefusedAs f r → Fails r (typed (literal (constant t v)))
untyped t v f r true not made refused = absurd cc
untyped t v f r false not made refused = rw not (fails_none (Tree Place) f r refused)

-- one that isn't made leaves nothing to be read
pub scalar_refused : (t : DType) (v : Option ScalarValue) (f : BaseError) (r : LineError) → Err f ≡ constant_of t v → IsRefusedAs f r
    → Fails r (typed (literal (constant t v)))
scalar_refused t v f r made refused = untyped t v f r (is_optional_value v t) refl made refused
