-- What a fault of the layer below says of a line.
use Rattle.std.proofs.Common.{◌≡◌, None, Result, Ok, Err, refl}
use Rattle.vortex_base.specs.Answer.{Answers}
use Rattle.vortex_expr.specs.Answer.{Builds}
use Rattle.vortex_expr.specs.Trees.Tree.{Tree, Place}
use Rattle.vortex_expr.specs.Meanings.Typing.{type_of}
use Rattle.vortex_base.specs.declared.dtype.DType.{DType}
use Rattle.vortex_base.specs.declared.error.BaseError.{BaseError}
use Rattle.vortex_base.specs.declared.error.BaseError.TheVariants as fault
use Rattle.vortex_syntax.specs.Expressions.{IsRefusedAs, typed}
use Rattle.vortex_syntax.specs.Fails.{Fails}
use Rattle.vortex_syntax.specs.declared.line_error.LineError.{LineError}
use Rattle.vortex_syntax.specs.declared.line_error.LineError.TheVariants as errors

pub fails_none : (Y : Type 0) (f : BaseError) (r : LineError) → IsRefusedAs f r → Fails {Y = Y} r None
fails_none Y (fault.Memory e) errors.Memory h = tt
fails_none Y (fault.Memory e) (errors.Bad b) h = refl
fails_none Y f errors.Memory h = tt
fails_none Y f (errors.Bad b) h = refl

by_type : (e : Tree Place) (f : BaseError) (r : LineError) (t : Result DType BaseError) → type_of e ≡ t → Answers t e (Err f) → IsRefusedAs f r → Fails r (typed e)
by_type e f r (Err g) same h refused = rw same (fails_none (Tree Place) f r refused)
by_type e f r (Ok t) same h refused = rw (rw h at refused) tt

-- an expression that can't be built has no type, or memory was refused
pub built_fault : (e : Tree Place) (f : BaseError) (r : LineError) → Builds e (Err f) → IsRefusedAs f r → Fails r (typed e)
built_fault e f r h refused = by_type e f r (type_of e) refl h refused
