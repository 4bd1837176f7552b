use Rattle.std.proofs.Common.{◌-◌, ◌≤◌, length, vec_len}
use Rattle.vortex_capi.proofs.BatchLemmas.{IsAnswered}
use Rattle.vortex_capi.proofs.batches.batches_answers.Given as goal

-- the zones so far are answered
abbrev pub invariant-batches : goal.invariant-batches
invariant-batches l = record {
  within : vec_len l.answers ≤ length l.rows;
  answered : IsAnswered l.proofs.falsifier l.proofs.satisfier l.scope l.sources l.rows (vec_len l.answers) l.answers.items;
}

abbrev pub decreases-batches : goal.decreases-batches
decreases-batches l = length l.rows - vec_len l.answers
