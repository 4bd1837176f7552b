use Rattle.std.proofs.Common.{◌≡◌, slice_index, sym, ◌∙◌, arith}
use Rattle.vortex_expr.specs.Patterns.Substring.{letters}
use Rattle.vortex_expr.proofs.Patterns.SubstringLemmas.{IsStep-of, AreSame-more, ended}
use Rattle.vortex_expr.proofs.like.substring.compare.Goals as goal
use Rattle.vortex_expr.proofs.like.substring.compare.Goals.{in_default-split_first-via-in-Some-split_first+else-letter-found, in_default-split_first-via-in_default-split_first}

pub returns-in_default-split_first : goal.returns-in_default-split_first
returns-in_default-split_first c =
    let l = c.loop-same in
    let text = IsStep-of (letters c.args.text) l.same _ (letters l.text) (letters c.in-Some.text_rest) l.invariant.text c.in-Some.ensures.first in (
      c.loop-same-test.true,
      text.inside,
      l.invariant.same,
      λ same.
          elim c.in_default-split_first.branch [
            | in_default-split_first-via-in-Some-split_first+else-letter-found w ↦
                let needle = IsStep-of (letters c.args.needle) l.same _ (letters l.needle) (letters w.in-Some-split_first.rest) l.invariant.needle w.in-Some-split_first.ensures.first in
                w.if-letter-found.false (sym needle.is ∙ same ∙ text.is)
            | in_default-split_first-via-in_default-split_first w ↦
                let over = ended (letters c.args.needle) l.same (letters l.needle) l.invariant.needle w.in_default-split_first.ensures.first in
                let test = c.loop-same-test.true in
                let within = c.requires in
                omega arith
          ],
      text.rest,
    )

pub loop-same-preserved : goal.loop-same-preserved
loop-same-preserved c =
    let l = c.loop-same in
    let text = IsStep-of (letters c.args.text) l.same _ (letters l.text) (letters c.in-Some.text_rest) l.invariant.text c.in-Some.ensures.first in
    let needle = IsStep-of (letters c.args.needle) l.same _ (letters l.needle) (letters c.in-Some-split_first.rest) l.invariant.needle c.in-Some-split_first.ensures.first in
    let here : slice_index (letters c.args.needle) l.same ≡ slice_index (letters c.args.text) l.same = needle.is ∙ c.if-letter-found.true ∙ sym text.is in
    let inside = text.inside in
    record {
      within = omega arith;
      inside = omega arith;
      same = AreSame-more (letters c.args.needle) (letters c.args.text) l.same l.invariant.same here;
      needle = needle.rest;
      text = text.rest;
    }
