use Rattle.std.proofs.Common.{◌≤◌, ◌+◌, ◌*◌, ℕ, [], ◌∷◌, length}
use Rattle.vortex_expr.specs.Trees.Connectives.{is_and}
use Rattle.vortex_base.specs.Data.Scopes.{named_columns}
use Rattle.vortex_syntax.specs.Words.{words}
use Rattle.vortex_capi.specs.Nesting.Reads.{chain_within}
use Rattle.vortex_capi.proofs.Nesting.Left.{Left}
use Rattle.vortex_capi.proofs.nested.reader.+nested.Given as goal

abbrev pub decreases-read_nested : goal.decreases-read_nested
decreases-read_nested l = 3 * length (words l.line.now)

abbrev pub decreases-read_unary : goal.decreases-read_unary
decreases-read_unary l = 3 * length (words l.line.now) + 1

abbrev pub decreases-read_pair : goal.decreases-read_pair
decreases-read_pair l = 3 * length (words l.line.now) + 1

abbrev pub decreases-read_between : goal.decreases-read_between
decreases-read_between l = 3 * length (words l.line.now) + 1

abbrev pub decreases-read_items : goal.decreases-read_items
decreases-read_items l = 3 * length (words l.line.now) + 1

abbrev pub decreases-read_chain : goal.decreases-read_chain
decreases-read_chain l = 3 * length (words l.line.now) + 2

-- the items so far, and how many are to come
abbrev pub invariant-read_items-items : goal.invariant-read_items-items
invariant-read_items-items l = record {
  left : (most : ℕ) → length (words l.line) ≤ most → Left (named_columns l.columns) (is_and l.connective) (chain_within (named_columns l.columns) (is_and l.connective) (most ∷ most ∷ []) (words l.line)) l.items.items l.count (words l.rest);
  within : length (words l.rest) ≤ length (words l.line);
  fewer : length (words l.rest) + 2 ≤ length (words l.line) + l.count;
}

abbrev pub decreases-read_items-items : goal.decreases-read_items-items
decreases-read_items-items l = length (words l.rest)
