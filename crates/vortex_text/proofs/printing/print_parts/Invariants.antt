use Rattle.std.proofs.Common.{take}
use Rattle.std.specs.List.{flat_map}
use Rattle.vortex_text.specs.Printing.{part_text}
use Rattle.vortex_text.specs.Streams.{HasNotFailed, Passes}
use Rattle.vortex_text.proofs.printing.print_parts.Given as goal

-- the parts so far are printed, and no write has failed
abbrev pub invariant-loop-part : goal.invariant-loop-part
invariant-loop-part g l = record {
  printed : Passes (g.W.Sink.contents l.initial.writer) (g.W.Sink.contents l.writer) l.initial.page l.page (flat_map part_text (take l.part-index l.parts));
  unfailed : HasNotFailed (g.W.Sink.has_failed l.initial.writer) (g.W.Sink.has_failed l.writer);
}
