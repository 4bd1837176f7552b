use Rattle.std.proofs.Common.{◌≡◌, ◌==◌, List, false, ap, length, sym, ◌∙◌}
use Rattle.std.specs.Prelude.{String}
use Rattle.std.specs.declared.alloc.Global.{Global}
use Rattle.vortex_base.specs.declared.dtype.DType.{DType}
use Rattle.vortex_base.specs.Data.Scopes.{is_scope, named_columns}
use Rattle.vortex_capi.proofs.ScopeLemmas.{given_is_scope, some_columns}
use Rattle.vortex_capi.proofs.field.scope_given.Goals as goal

pub new_unchecked-requires : goal.new_unchecked-requires
new_unchecked-requires c =
    let cs = c.in_ok-columns.columns in
    let some : (length cs == 0) ≡ false = ap (λ (l : List (String Global × DType)). length l == 0) (sym c.as_slice.ensures) ∙ sym c.is_empty.ensures ∙ c.if-is_empty.false in
    ap (λ l. is_scope (named_columns l)) c.into_vec.ensures ∙ given_is_scope c.args.kinds c.args.fields.now (named_columns cs) c.in_ok-columns.ensures (some_columns cs some)
