use Rattle.std.proofs.Common.{◌≡◌, ◌++◌, map, take}
use Rattle.vortex_text.specs.Batches.{raised}
use Rattle.vortex_text.proofs.batches.add_places.Given as goal

-- those so far stand behind the earlier ones
abbrev pub invariant-loop-place : goal.invariant-loop-place
invariant-loop-place l = l.places.items ≡ l.fn.places.items ++ map (raised l.before) (take l.place-index l.more)
