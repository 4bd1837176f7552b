use Rattle.std.proofs.Common.{◌∙◌, Some, ap, arith, sym}
use Rattle.vortex_normal.specs.Balanced.{depth}
use Rattle.vortex_syntax.specs.Words.{words}
use Rattle.vortex_expr.specs.Trees.Tree.{Tree, Place}
use Rattle.vortex_capi.proofs.Nesting.Shapes.{literal_leaf}
use Rattle.vortex_capi.proofs.nested.reader.read_literal.Goals as goal

pub leaf-requires : goal.leaf-requires
leaf-requires c = literal_leaf (words c.args.line.now) (c.in-Ok.literal, words c.in-Ok.rest.now) c.in-Ok.ensures.read

pub returns-in-Ok-clause-read : goal.returns-in-Ok-clause-read
returns-in-Ok-clause-read c =
    let leaf = literal_leaf (words c.args.line.now) (c.in-Ok.literal, words c.in-Ok.rest.now) c.in-Ok.ensures.read in
    λ below some. (c.in-Ok.ensures.read ∙ ap (λ (e : Tree Place). Some (e, words c.in-Ok.rest.now)) (sym c.leaf.ensures), omega (arith, leaf, ap depth c.leaf.ensures, some))
