use Rattle.std.proofs.Common.{◌≡◌, [], Ok}
use Rattle.vortex_base.specs.Data.Scopes.{named_columns}
use Rattle.vortex_capi.specs.Refusals.{stepped}
use Rattle.vortex_capi.specs.Scopes.{next_field}
use Rattle.vortex_capi.proofs.field.columns_given.Given as goal

abbrev pub invariant-loop-place : goal.invariant-loop-place
invariant-loop-place l = stepped (next_field l.kinds l.fields) [] l.place ≡ Ok (named_columns l.columns)
