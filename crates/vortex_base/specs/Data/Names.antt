-- The names of a scope as they are kept: by itself, or together with other scopes.
use Rattle.std.specs.Prelude.{List}
use Rattle.vortex_base.specs.Data.Scopes.{Named, named_columns}
use Rattle.vortex_base.specs.declared.scope.Names.{Names}
use Rattle.vortex_base.specs.declared.scope.Names.TheVariants.{Own, Shared}

abbrev pub all_named : Names → List Named
all_named (Own columns) = named_columns columns.items
all_named (Shared columns) = named_columns columns.value.items
