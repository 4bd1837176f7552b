-- Where a text is refused.
use Rattle.std.specs.Prelude.{ℕ, ◌≤◌}
use Rattle.vortex_sql.specs.declared.syntax.error.ParseError.{ParseError}
use Rattle.vortex_sql.specs.declared.syntax.error.ParseError.TheVariants.{Memory, Unexpected, Unclosed, Comment, Prefixed, Dollar, Glued, Adjacent, TooDeep}

-- a refusal other than for memory has a place within a text of so many bytes, or at its end
abbrev pub IsPlaced : ℕ → ParseError → Type 0
IsPlaced length Memory = Unit {0}
IsPlaced length (Unexpected at) = at ≤ length
IsPlaced length (Unclosed at) = at ≤ length
IsPlaced length (Comment at) = at ≤ length
IsPlaced length (Prefixed at) = at ≤ length
IsPlaced length (Dollar at) = at ≤ length
IsPlaced length (Glued at) = at ≤ length
IsPlaced length (Adjacent at) = at ≤ length
IsPlaced length (TooDeep at) = at ≤ length
