use Rattle.std.proofs.Common.{◌≡◌, ◌++◌, drop, map, take}
use Rattle.vortex_capi.specs.Spans.{span_at}
use Rattle.vortex_capi.proofs.span.put_places.Given as goal

-- the places before this one are put, and the spans behind are as they were
abbrev pub invariant-loop-place : goal.invariant-loop-place
invariant-loop-place l = l.spans ≡ map span_at (take l.place l.places) ++ drop l.place l.initial.spans
