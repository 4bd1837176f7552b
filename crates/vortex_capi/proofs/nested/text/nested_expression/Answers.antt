use Rattle.std.proofs.Common.{◌≡◌, ◌+◌, length, subst, arith}
use Rattle.vortex_base.specs.Data.Scopes.{named_columns}
use Rattle.vortex_syntax.specs.Words.{words}
use Rattle.vortex_capi.specs.Nesting.Reads.{Fails, nested_within}
use Rattle.vortex_capi.specs.declared.nested.error.NestedError.{NestedError}
use Rattle.vortex_capi.specs.declared.nested.error.NestedError.TheVariants as errors
use Rattle.vortex_capi.proofs.Nesting.Texts.{text_deep}
use Rattle.vortex_capi.proofs.nested.text.nested_expression.Goals as goal

pub returns-in-Err-clause-too_deep : goal.returns-in-Err-clause-too_deep
returns-in-Err-clause-too_deep c = λ is.
    let scope = named_columns c.args.columns.now in
    let ws = words c.args.text.now in
    let same : c.in-Err.e ≡ errors.TooDeep = cc in
    let P : NestedError → Type 0 = λ e. Fails (c.args.levels + 1) e (nested_within scope (length ws) ws) in
    text_deep scope ws c.args.levels (subst P same (c.in-Err.ensures.read (length ws) (omega arith)))
