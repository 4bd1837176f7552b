use Rattle.vortex_rewrite.specs.Rewriting.Falsifiers.{visits}
use Rattle.vortex_rewrite.proofs.rewrite.engine.+rewrite_node.Given as goal

-- a BETWEEN has more visits than the AND that it stands for
abbrev pub decreases-rewrite_node : goal.decreases-rewrite_node
decreases-rewrite_node g l = visits l.e.now
