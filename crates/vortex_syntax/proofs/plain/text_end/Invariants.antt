use Rattle.std.proofs.Common.{◌≡◌, ◌≤◌, ◌+◌, ◌-◌, drop, length, not}
use Rattle.std.specs.List.{position_or_len}
use Rattle.vortex_syntax.specs.Plain.{is_text_byte}
use Rattle.vortex_syntax.proofs.plain.text_end.Given as goal

-- the place is not in what was passed
abbrev pub invariant-loop-passed : goal.invariant-loop-passed
invariant-loop-passed l =
    (l.passed ≤ length l.text) × (position_or_len (λ b. not (is_text_byte b)) l.text ≡ l.passed + position_or_len (λ b. not (is_text_byte b)) (drop l.passed l.text))

abbrev pub decreases-loop-passed : goal.decreases-loop-passed
decreases-loop-passed l = length l.text - l.passed
