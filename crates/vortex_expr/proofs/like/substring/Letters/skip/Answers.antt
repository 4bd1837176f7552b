use Rattle.std.proofs.Common.{arith, ◌∙◌}
use Rattle.vortex_expr.specs.Patterns.Substring.{letters}
use Rattle.vortex_expr.proofs.Patterns.SubstringLemmas.{IsStep-of, drop_past_end}
use Rattle.vortex_expr.proofs.like.substring.Letters.skip.Goals as goal

pub returns-in-None-clause-left : goal.returns-in-None-clause-left
returns-in-None-clause-left c =
    let l = c.loop-passed in
    drop_past_end (letters c.args.self) (letters l.left) l._passed c.args.count l.invariant.left c.in-None.ensures.first (omega arith)

pub loop-passed-preserved : goal.loop-passed-preserved
loop-passed-preserved c =
    let l = c.loop-passed in
    record {
      left = (IsStep-of (letters c.args.self) l._passed _ (letters l.left) (letters c.in-Some.rest) l.invariant.left c.in-Some.ensures.first).rest;
      kind = c.in-Some.ensures.kind ∙ l.invariant.kind;
    }
