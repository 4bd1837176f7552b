use Rattle.std.proofs.Common.{◌≡◌, ◌++◌, length, string_bytes}
use Rattle.std.specs.Prelude.{encode_utf8_all}
use Rattle.vortex_expr.specs.Patterns.Like.{items}
use Rattle.vortex_expr.specs.Patterns.LikeSearch.{characters}
use Rattle.vortex_expr.specs.Patterns.Prefix.{is_exact, literal_prefix}
use Rattle.vortex_expr.proofs.like_pattern.LikePattern.try_read.Given as goal

-- the prefix so far and what is left to read make the whole
abbrev pub invariant-loop-item : goal.invariant-loop-item
invariant-loop-item l = record {
  prefix : string_bytes l.prefix ++ encode_utf8_all (literal_prefix (items (characters l.rest))) ≡ encode_utf8_all (literal_prefix (items (characters l.initial.rest)));
  exact : is_exact (items (characters l.rest)) ≡ is_exact (items (characters l.initial.rest));
}

abbrev pub decreases-loop-item : goal.decreases-loop-item
decreases-loop-item l = length (characters l.rest)
