-- What a bad line says of what was to be read.
use Rattle.std.proofs.Common.{◌≡◌, Option, None}
use Rattle.vortex_syntax.specs.Fails.{Fails, IsBad}
use Rattle.vortex_syntax.specs.declared.line_error.LineError.{LineError}
use Rattle.vortex_syntax.specs.declared.line_error.LineError.TheVariants as errors

-- where nothing is to be read, a bad line says so
pub bad_fails : {Y : Type 0} (e : LineError) (read : Option Y) → IsBad e → read ≡ None → Fails e read
bad_fails errors.Memory read bad none = tt
bad_fails (errors.Bad fault) read bad none = none
