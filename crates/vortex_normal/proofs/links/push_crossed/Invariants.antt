use Rattle.std.proofs.Common.{◌≡◌, ◌++◌, map, take}
use Rattle.vortex_normal.specs.Links.{crossed_links, link_of}
use Rattle.vortex_normal.proofs.links.push_crossed.Given as goal

abbrev pub invariant-loop-link : goal.invariant-loop-link
invariant-loop-link l = l.found.items ≡ l.fn.found.items ++ crossed_links (map link_of (take l.link-index l.links)) (map link_of l.others)
