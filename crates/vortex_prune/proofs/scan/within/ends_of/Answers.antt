use Rattle.std.proofs.Common.{sym, ◌∙◌}
use Rattle.vortex_expr.specs.Trees.TreeEq.{tree_eq_is_exact}
use Rattle.vortex_prune.proofs.Scanning.LeafLemmas.{between_sides}
use Rattle.vortex_prune.proofs.scan.within.ends_of.Goals as goal

pub returns : goal.returns
returns c =
    let a = c.args.low in
    let b = c.args.high in
    between_sides c.args.chunk.now.columns a b ((tree_eq_is_exact a.operand.now b.operand.now).0 (sym c.eq-is_one.ensures.value ∙ c.if-not-is_one.false)) c.requires
