-- The binders of the parts' own statistics: faithful, quiet, and honest for true parts.
use Rattle.std.proofs.Common.{◌≡◌, ℕ, true, false, List, [], ◌∷◌, refl}
use Rattle.std.specs.List.{AllByRecursion}
use Rattle.vortex_prune.proofs.Honesty.HonestParts.{part_is_honest}
use Rattle.vortex_prune.specs.Part.{IsPart, IsTruePart, PartData}
use Rattle.vortex_prune.specs.Binding.PartAnswers.{part_values}
use Rattle.vortex_prune.specs.Scanning.Selection.{AreByStatistics, AreFaithful, AreHonest, any_binder}

pub statistics_faithful : (parts : List PartData) → AreFaithful (λ (part : PartData) row n. true) parts parts
statistics_faithful [] = tt
statistics_faithful (part ∷ parts) = (refl, statistics_faithful parts)

pub by_statistics : (parts : List PartData) → AreByStatistics (λ (part : PartData) row n. part_values part) parts parts
by_statistics [] = tt
by_statistics (part ∷ parts) = (refl, by_statistics parts)

pub statistics_honest : (parts : List PartData) → AllByRecursion IsPart parts → AllByRecursion IsTruePart parts → AreHonest (λ (part : PartData) row n. part_values part) parts parts
statistics_honest [] are true_of = tt
statistics_honest (part ∷ parts) are true_of = (part_is_honest part are.0 true_of.0, statistics_honest parts are.1 true_of.1)

pub statistics_quiet : (parts : List PartData) (k : ℕ) → any_binder (λ (part : PartData) j. false) parts k ≡ false
statistics_quiet [] k = refl
statistics_quiet (part ∷ parts) k = statistics_quiet parts k
