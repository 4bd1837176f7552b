use Rattle.std.proofs.Common.{subst}
use Rattle.vortex_prune.specs.Part.{AreParts}
use Rattle.vortex_prune.specs.Zones.{ZonesData}
use Rattle.vortex_prune.proofs.zones.Zones.parts.Goals as goal

pub returns-clause-are_parts : goal.returns-clause-are_parts
returns-clause-are_parts c = subst (λ (z : ZonesData). AreParts z.parts) c.self.view_is c.self.invariant.are_parts
