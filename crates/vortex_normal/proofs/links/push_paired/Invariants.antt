use Rattle.std.proofs.Common.{◌≡◌, ◌++◌, drop, map}
use Rattle.vortex_normal.specs.Links.{link_of, paired_links}
use Rattle.vortex_normal.proofs.links.push_paired.Given as goal

abbrev pub invariant-loop-place : goal.invariant-loop-place
invariant-loop-place l = l.found.items ++ paired_links (map link_of (drop l.place l.links)) ≡ l.fn.found.items ++ paired_links (map link_of l.links)
