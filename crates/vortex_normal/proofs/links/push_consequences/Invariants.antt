use Rattle.std.proofs.Common.{◌≡◌, ◌++◌, filter_map, map, take}
use Rattle.vortex_normal.specs.Links.{consequence, link_of}
use Rattle.vortex_normal.proofs.links.push_consequences.Given as goal

abbrev pub invariant-loop-other : goal.invariant-loop-other
invariant-loop-other l = l.found.items ≡ l.fn.found.items ++ filter_map (consequence (link_of l.link)) (map link_of (take l.other-index l.others))
