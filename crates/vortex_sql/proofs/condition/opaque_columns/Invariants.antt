use Rattle.std.proofs.Common.{◌≡◌, take}
use Rattle.vortex_base.specs.Data.Scopes.{named_columns}
use Rattle.vortex_sql.specs.Lowering as spec
use Rattle.vortex_sql.proofs.condition.opaque_columns.Given as goal

abbrev pub invariant-loop-span : goal.invariant-loop-span
invariant-loop-span l = named_columns l.columns.items ≡ spec.leaf_columns l.text (take l.span-index l.opaque)
