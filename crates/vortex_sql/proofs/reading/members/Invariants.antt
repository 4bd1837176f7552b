use Rattle.std.proofs.Common.{◌≡◌, [], drop}
use Rattle.std.specs.Prelude.{Ok, Some, option_map}
use Rattle.vortex_sql.specs.Readings as spec
use Rattle.vortex_sql.proofs.reading.members.Given as goal

abbrev pub invariant-loop-y : goal.invariant-loop-y
invariant-loop-y l = spec.members_from l.schema l.x (Ok (option_map (λ v. v.items) l.members)) (drop l.y-index l.among) ≡ spec.members_from l.schema l.x (Ok (Some [])) l.among
