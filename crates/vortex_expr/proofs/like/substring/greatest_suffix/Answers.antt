use Rattle.std.proofs.Common.{◌≡◌, ◌+◌, ◌-◌, ◌≤◌, ℕ, List, drop, slice_index, refl, sym, ap, subst, ◌∙◌, arith}
use Rattle.memchr.proofs.lemmas.SuffixLemmas.{IsScan, IsScan-accept, IsScan-skip, IsScan-push, IsScan-block, IsScan-end}
use Rattle.vortex_expr.specs.Patterns.Substring.{letters, Precedes}
use Rattle.vortex_expr.proofs.Patterns.SubstringLemmas.{IsStep-of, ended, drop_sum, Precedes-trans, Precedes-irrefl}
use Rattle.vortex_expr.proofs.like.substring.greatest_suffix.Goals as goal

same_place : (xs left : List ℕ) (i j : ℕ) → left ≡ drop i xs → i ≡ j → left ≡ drop j xs
same_place xs left i j e f = e ∙ ap (λ n. drop n xs) f

pub loop-current-preserved-in-Less : goal.loop-current-preserved-in-Less
loop-current-preserved-in-Less c =
    let r = c.args.reversed in
    let xs = letters c.args.needle in
    let l = c.loop-current in
    let v = l.invariant in
    let a = IsStep-of xs (l.pos + l.offset) _ (letters l.before) (letters c.in-Some-Some.before_rest) v.before c.in-Some-Some.ensures.first in
    let b = IsStep-of xs (l.candidate + l.offset) _ (letters l.after) (letters c.in-Some-Some.after_rest) v.after c.in-Some-Some.ensures'.first in
    let inside = b.inside in
    let size = c.requires.count in
    let won = c.in-Less.ensures.less refl in
    let next = c.skip-at_candidate-in-Less.ensures.left ∙ ap (drop 1) v.at_candidate ∙ drop_sum xs l.candidate 1 in
    record {
      scan = IsScan-accept (Precedes r) (Precedes-trans r) (Precedes-irrefl r) (slice_index xs) c.args.count v.scan (omega arith)
          (subst (λ y. Precedes r y (slice_index xs (l.candidate + l.offset))) (sym a.is) (subst (Precedes r c.in-Some-Some.current) (sym b.is) won));
      at_pos = v.at_candidate;
      at_candidate = next;
      before = same_place xs _ l.candidate _ v.at_candidate (omega arith);
      after = same_place xs _ (l.candidate + 1) _ next (omega arith);
    }

pub loop-current-preserved-in-Greater : goal.loop-current-preserved-in-Greater
loop-current-preserved-in-Greater c =
    let r = c.args.reversed in
    let xs = letters c.args.needle in
    let l = c.loop-current in
    let v = l.invariant in
    let a = IsStep-of xs (l.pos + l.offset) _ (letters l.before) (letters c.in-Some-Some.before_rest) v.before c.in-Some-Some.ensures.first in
    let b = IsStep-of xs (l.candidate + l.offset) _ (letters l.after) (letters c.in-Some-Some.after_rest) v.after c.in-Some-Some.ensures'.first in
    let inside = b.inside in
    let size = c.requires.count in
    let lost = c.in-Greater.ensures.greater refl in
    let moved : l.candidate + l.offset + 1 ≡ l.candidate + (l.offset + 1) = omega arith in
    record {
      scan = subst (λ k. IsScan (Precedes r) (slice_index xs) c.args.count l.pos (k - l.pos) k 0) moved
          (IsScan-skip (Precedes r) (Precedes-trans r) (Precedes-irrefl r) (slice_index xs) c.args.count v.scan (omega arith)
          (subst (λ y. Precedes r y (slice_index xs (l.pos + l.offset))) (sym b.is) (subst (Precedes r c.in-Some-Some.other) (sym a.is) lost)));
      at_pos = v.at_pos;
      at_candidate = same_place xs _ _ _ b.rest moved;
      before = same_place xs _ l.pos _ v.at_pos (omega arith);
      after = same_place xs _ _ _ b.rest (omega arith);
    }

pub loop-current-preserved-then-offset-period : goal.loop-current-preserved-then-offset-period
loop-current-preserved-then-offset-period c =
    let r = c.args.reversed in
    let xs = letters c.args.needle in
    let l = c.loop-current in
    let v = l.invariant in
    let a = IsStep-of xs (l.pos + l.offset) _ (letters l.before) (letters c.in-Some-Some.before_rest) v.before c.in-Some-Some.ensures.first in
    let b = IsStep-of xs (l.candidate + l.offset) _ (letters l.after) (letters c.in-Some-Some.after_rest) v.after c.in-Some-Some.ensures'.first in
    let inside = b.inside in
    let size = c.requires.count in
    let eq = a.is ∙ c.in-Equal.ensures.equal refl ∙ sym b.is in
    let block = c.if-offset-period.true in
    record {
      scan = IsScan-block (Precedes r) (Precedes-trans r) (Precedes-irrefl r) (slice_index xs) c.args.count v.scan (omega arith) eq block;
      at_pos = v.at_pos;
      at_candidate = same_place xs _ _ _ b.rest (omega arith);
      before = same_place xs _ l.pos _ v.at_pos (omega arith);
      after = same_place xs _ _ _ b.rest (omega arith);
    }

pub loop-current-preserved : goal.loop-current-preserved
loop-current-preserved c =
    let r = c.args.reversed in
    let xs = letters c.args.needle in
    let l = c.loop-current in
    let v = l.invariant in
    let a = IsStep-of xs (l.pos + l.offset) _ (letters l.before) (letters c.in-Some-Some.before_rest) v.before c.in-Some-Some.ensures.first in
    let b = IsStep-of xs (l.candidate + l.offset) _ (letters l.after) (letters c.in-Some-Some.after_rest) v.after c.in-Some-Some.ensures'.first in
    let inside = b.inside in
    let size = c.requires.count in
    let eq = a.is ∙ c.in-Equal.ensures.equal refl ∙ sym b.is in
    let short = v.scan.short in
    let differs = c.if-offset-period.false in
    record {
      scan = IsScan-push (Precedes r) (Precedes-trans r) (Precedes-irrefl r) (slice_index xs) c.args.count v.scan (omega arith) eq (omega arith);
      at_pos = v.at_pos;
      at_candidate = v.at_candidate;
      before = same_place xs _ _ _ a.rest (omega arith);
      after = same_place xs _ _ _ b.rest (omega arith);
    }

-- the scan ends where the later cursor does, which the earlier one never passes
pub returns-in_default : goal.returns-in_default
returns-in_default c =
    let r = c.args.reversed in
    let xs = letters c.args.needle in
    let l = c.loop-current in
    let v = l.invariant in
    let over = ended xs (l.candidate + l.offset) (letters l.after) v.after c.in_default.ensures'.first in
    let size = c.requires.count in
    let within = v.scan.within in
    IsScan-end (Precedes r) (Precedes-trans r) (Precedes-irrefl r) (slice_index xs) c.args.count v.scan (omega arith)

pub returns-in_default-2 : goal.returns-in_default-2
returns-in_default-2 c =
    let r = c.args.reversed in
    let xs = letters c.args.needle in
    let l = c.loop-current in
    let v = l.invariant in
    let over = ended xs (l.pos + l.offset) (letters l.before) v.before c.in_default.ensures.first in
    let size = c.requires.count in
    let within = v.scan.within in
    let ahead = v.scan.aligned in
    let more : l.pos ≤ l.candidate = omega arith in
    IsScan-end (Precedes r) (Precedes-trans r) (Precedes-irrefl r) (slice_index xs) c.args.count v.scan (omega arith)
