use Rattle.std.proofs.Common.{◌≡◌, ◌+◌, ◌-◌, ◌<◌, ◌≤◌, ◌⊎◌, inl, inr, ℕ, length, drop, slice_index, sym, ap, subst, ◌∙◌, arith, length-drop, ⊎_elim}
use Rattle.std.proofs.lemmas.List.{get_or-drop}
use Rattle.std.proofs.lemmas.Bool.{cases_lt, false≢true}
use Rattle.vortex_expr.specs.Patterns.Substring.{letters, IsPast, StandsAt}
use Rattle.vortex_expr.proofs.Patterns.SubstringLemmas.{drop_sum, IsPast-then, right_same, past_difference, past_shift, past_all}
use Rattle.vortex_expr.proofs.like.substring.from_first.Goals as goal

pub returns-in-Short-clause-past : goal.returns-in-Short-clause-past
returns-in-Short-clause-past c =
    let xs = letters c.args.needle in
    let l = c.loop-begin in
    let bs = letters l.begin in
    let v = l.invariant in
    let size = c.requires.count in
    let short = c.in-Short.ensures in
    let within = v.within in
    let front = ap length v.front in
    let left = length-drop l.start bs in
    subst (IsPast xs (letters c.args.text)) (sym c.end.ensures.left) (IsPast-then v.past (past_all xs bs (omega arith)))

pub loop-begin-smaller-in-Differs : goal.loop-begin-smaller-in-Differs
loop-begin-smaller-in-Differs c =
    let l = c.loop-begin in
    let bs = letters l.begin in
    let v = l.invariant in
    let front = ap length v.front in
    let left = length-drop l.start bs in
    let room = c.in-Differs.ensures.1 in
    let moved = ap length c.skip-begin.ensures.left in
    let fewer = length-drop (l.start - c.cut_in_two-critical.result.critical + c.in-Differs.same + 1) bs in
    omega arith

pub loop-begin-preserved-in-Differs : goal.loop-begin-preserved-in-Differs
loop-begin-preserved-in-Differs c =
    let xs = letters c.args.needle in
    let l = c.loop-begin in
    let bs = letters l.begin in
    let v = l.invariant in
    let critical = c.cut_in_two-critical.result.critical in
    let cut = c.cut_in_two-critical.ensures in
    let below = cut.below in
    let i = c.in-Differs.same in
    let e = c.in-Differs.ensures in
    let inside = e.0 in
    let within = v.within in
    let begun = v.start in
    let s = l.start - critical + i + 1 in
    let from : (l.start ≤ critical) ⊎ (l.start ≤ l.known) = ⊎_elim (λ a. inl (omega arith)) (λ a. inr (omega arith)) (cases_lt l.known critical) in
    let same = right_same xs bs c.args.count c.requires.count critical cut.critical l.known l.start i v.known from (letters l.compared) (letters l.front) v.compared v.front e.2 in
    let place : 0 + (l.start + i) ≡ l.start + i = omega arith in
    let differs : (slice_index xs (l.start + i) ≡ slice_index bs (0 + (l.start + i))) → ⊥ =
    λ h. e.3 (ap (λ w. slice_index w i) v.compared ∙ get_or-drop l.start xs i 0 ∙ h ∙ ap (slice_index bs) place ∙ sym (get_or-drop l.start bs i 0) ∙ ap (λ w. slice_index w i) (sym v.front)) in
    let moved : l.start + (i + 1) ≡ s + critical = omega arith in
    record {
      past = IsPast-then v.past (subst (IsPast xs bs) (sym c.skip-begin.ensures.left)
          (past_difference xs bs c.args.count c.requires.count critical cut.critical (l.start + i) s (omega arith) (omega arith) same differs (omega arith)));
      kind = c.skip-begin.ensures.kind ∙ v.kind;
      known = λ k b. absurd (omega arith);
      start = omega arith;
      within = below;
      compared = c.skip-right.ensures.left;
      front = e.4 ∙ ap (drop (i + 1)) v.front ∙ drop_sum bs l.start (i + 1) ∙ ap (λ n. drop n bs) moved ∙ sym (drop_sum bs s critical) ∙ ap (drop critical) (sym c.skip-begin.ensures.left);
    }

pub loop-begin-smaller : goal.loop-begin-smaller
loop-begin-smaller c =
    let l = c.loop-begin in
    let bs = letters l.begin in
    let v = l.invariant in
    let front = ap length v.front in
    let left = length-drop l.start bs in
    let within = v.within in
    let room = c.in-Same.ensures.0 in
    let some = c.cut_in_two-critical.ensures.some in
    let moved = ap length c.skip-begin-in-Same.ensures.left in
    let fewer = length-drop c.cut_in_two-critical.result.shift bs in
    omega arith

pub loop-begin-preserved : goal.loop-begin-preserved
loop-begin-preserved c =
    let xs = letters c.args.needle in
    let l = c.loop-begin in
    let bs = letters l.begin in
    let v = l.invariant in
    let m = c.args.count in
    let size = c.requires.count in
    let critical = c.cut_in_two-critical.result.critical in
    let shift = c.cut_in_two-critical.result.shift in
    let cut = c.cut_in_two-critical.ensures in
    let below = cut.below in
    let short = cut.short in
    let some = cut.some in
    let reach = cut.reach in
    let most = c.max-most.ensures in
    let e = c.in-Same.ensures in
    let within = v.within in
    let begun = v.start in
    let i = m - l.start in
    let whole : l.start + i ≡ m = omega arith in
    let from : (l.start ≤ critical) ⊎ (l.start ≤ l.known) = ⊎_elim (λ a. inl (omega arith)) (λ a. inr (omega arith)) (cases_lt l.known critical) in
    let reads = right_same xs bs m size critical cut.critical l.known l.start i v.known from (letters l.compared) (letters l.front) v.compared v.front e.1 in
    let right : (k : ℕ) → critical ≤ k → k < m → slice_index xs k ≡ slice_index bs (0 + k) = λ k a b. reads k a (omega arith) in
    let unlike : StandsAt xs bs 0 → ⊥ =
    λ o. false≢true (c.if-stands.ensures.1 (λ k b.
    let known = c.if-known-critical.false in
    let place : 0 + (l.known + k) ≡ l.known + k = omega arith in
    ap (λ w. slice_index w k) c.skip.ensures.left ∙ get_or-drop l.known xs k 0 ∙ sym (o.reads (l.known + k) (omega arith)) ∙ ap (slice_index bs) place
    ∙ sym (get_or-drop l.known bs k 0) ∙ ap (λ w. slice_index w k) (sym c.skip-in-Same.ensures.left))) in
    let rest_at = c.max-most.result - (m - shift) in
    let there : m + rest_at ≡ shift + c.max-most.result = omega arith in
    record {
      past = IsPast-then v.past (subst (IsPast xs bs) (sym c.skip-begin-in-Same.ensures.left) (past_shift xs bs m size critical cut.critical shift cut.none right unlike));
      kind = c.skip-begin-in-Same.ensures.kind ∙ v.kind;
      known = λ k b.
          let kept = cut.kept k b in
          let place : 0 + (k + shift) ≡ shift + k = omega arith in
          kept.1 ∙ right (k + shift) kept.0 (omega arith) ∙ ap (slice_index bs) place ∙ sym (get_or-drop shift bs k 0) ∙ ap (λ w. slice_index w k) (sym c.skip-begin-in-Same.ensures.left);
      start = most;
      within = omega arith;
      compared = c.skip-beyond.ensures.left;
      front = c.skip-front-in-Same.ensures.left ∙ ap (drop rest_at) (e.2 ∙ ap (drop i) v.front ∙ drop_sum bs l.start i ∙ ap (λ n. drop n bs) whole) ∙ drop_sum bs m rest_at
          ∙ ap (λ n. drop n bs) there ∙ sym (drop_sum bs shift c.max-most.result) ∙ ap (drop c.max-most.result) (sym c.skip-begin-in-Same.ensures.left);
    }
