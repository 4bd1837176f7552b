use Rattle.std.proofs.Common.{◌≡◌, ◌++◌}
use Rattle.std.specs.List.{flat_map}
use Rattle.vortex_text.specs.Printing.{row_begin, row_text}
use Rattle.vortex_text.specs.Streams.{HasNotFailed, Passes}
use Rattle.vortex_text.proofs.printing.print_rows.Given as goal

-- the rows so far are printed, no write has failed, what those of the part begin with is made, and the others are left
abbrev pub invariant-loop-part : goal.invariant-loop-part
invariant-loop-part g l = record {
  printed : Passes (g.W.Sink.contents l.initial.writer) (g.W.Sink.contents l.writer) l.initial.page l.page (flat_map row_text l.yielded);
  unfailed : HasNotFailed (g.W.Sink.has_failed l.initial.writer) (g.W.Sink.has_failed l.writer);
  begun : l.begin ≡ row_begin l.begun;
  left : l.rows ≡ l.yielded ++ l.part-iterator;
}
