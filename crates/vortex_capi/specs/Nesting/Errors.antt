-- Why an expression is not read.
use Rattle.vortex_syntax.specs.declared.line_error.LineError.{LineError}
use Rattle.vortex_syntax.specs.declared.line_error.LineError.TheVariants as line
use Rattle.vortex_capi.specs.declared.nested.error.NestedError.{NestedError}
use Rattle.vortex_capi.specs.declared.nested.error.NestedError.TheVariants as errors

abbrev pub of_line : LineError → NestedError
of_line line.Memory = errors.Memory
of_line (line.Bad fault) = errors.Bad
