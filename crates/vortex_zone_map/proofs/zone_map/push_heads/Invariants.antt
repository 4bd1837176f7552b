use Rattle.std.proofs.Common.{◌≡◌, ◌++◌, Some, drop, map}
use Rattle.std.specs.List.{filter}
use Rattle.std.specs.Prelude.{slice_get}
use Rattle.vortex_base.specs.Data.Scopes.{Named}
use Rattle.vortex_expr.specs.Meanings.Typing.{stat_type}
use Rattle.vortex_zone_map.specs.ZoneMaps.{aggregates, head, is_typed, supporting}
use Rattle.vortex_zone_map.proofs.zone_map.push_heads.Given as goal

-- the heads so far, and those to come, are all
abbrev pub invariant-loop-k : goal.invariant-loop-k
invariant-loop-k l = record {
  all : l.all ≡ aggregates;
  heads : (c : Named) → slice_get l.scope l.source ≡ Some c
      → l.heads.items ++ map (head l.source c) (filter (λ f. is_typed (stat_type f c.1)) (drop l.k aggregates)) ≡ l.fn.heads.items ++ map (head l.source c) (supporting c.1);
}
