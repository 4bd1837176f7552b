use Rattle.std.proofs.Common.{◌≤◌, List, ℕ, length}
use Rattle.vortex_syntax.specs.Plain.{BeginsDigits}
use Rattle.vortex_syntax.proofs.plain.longer.Given as goal

-- the digits so far write the number
pub record DigitsRead (so_far number : ℕ) (text rest : List ℕ) : Type 0 where
  pub read : (whole : List ℕ) → BeginsDigits whole so_far text → BeginsDigits whole number rest
  pub no_longer : length rest ≤ length text

abbrev pub invariant-digits : goal.invariant-digits
invariant-digits l = DigitsRead l.so_far l.number l.text l.rest

abbrev pub decreases-digits : goal.decreases-digits
decreases-digits l = length l.rest
