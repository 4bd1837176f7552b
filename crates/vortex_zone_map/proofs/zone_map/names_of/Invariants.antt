use Rattle.std.proofs.Common.{◌≡◌, ◌++◌, map}
use Rattle.vortex_base.specs.Data.Scopes.{named_columns}
use Rattle.vortex_zone_map.specs.ZoneMaps.{named_head}
use Rattle.vortex_zone_map.proofs.zone_map.names_of.Given as goal

-- the names so far, and those to come, are all
abbrev pub invariant-loop-head : goal.invariant-loop-head
invariant-loop-head l = named_columns l.names.items ++ map named_head l.head-iterator.rest.items ≡ map named_head l.fn.heads.items
