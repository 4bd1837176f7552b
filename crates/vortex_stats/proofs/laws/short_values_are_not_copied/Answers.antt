use Rattle.vortex_stats.proofs.Copied.{merge_copies-short, combination_copies-short}
use Rattle.vortex_stats.proofs.laws.short_values_are_not_copied.Goals as goal

pub returns : goal.returns
returns c = record { merged = λ t a b n. merge_copies-short t n a b; combined = λ t a b n. combination_copies-short t n a b }
