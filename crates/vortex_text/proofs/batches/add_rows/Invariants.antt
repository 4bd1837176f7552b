use Rattle.std.proofs.Common.{◌≡◌, ◌++◌, map}
use Rattle.vortex_text.specs.Batches.{raised_row}
use Rattle.vortex_text.proofs.batches.add_rows.Given as goal

-- those so far stand behind the earlier ones, and the others are left
abbrev pub invariant-loop-part : goal.invariant-loop-part
invariant-loop-part l = record {
  added : l.rows ≡ l.fn.rows ++ map (raised_row l.before) l.yielded;
  left : l.more ≡ l.yielded ++ l.part-iterator;
}
