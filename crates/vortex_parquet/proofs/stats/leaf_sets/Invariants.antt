use Rattle.std.proofs.Common.{◌≡◌, map, drop}
use Rattle.vortex_parquet.specs.Stats.{all_of, leaf_set as leaf_set_of}
use Rattle.vortex_parquet.proofs.Loops.{with_all}
use Rattle.vortex_parquet.proofs.stats.leaf_sets.Given as goal

abbrev pub invariant-loop-leaf : goal.invariant-loop-leaf
invariant-loop-leaf l = let one = leaf_set_of l.orders (map (λ s. s.now) l.columns) in with_all l.sets.items (all_of one (drop l.leaf-index l.leaves)) ≡ all_of one l.leaves
