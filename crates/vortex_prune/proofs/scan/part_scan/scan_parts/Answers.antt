use Rattle.std.proofs.Common.{List, ℕ, ap, arith, inr, length, refl, subst, sym, ◌-◌, ◌^◌, ◌∙◌}
use Rattle.std.specs.Prelude.{min}
use Rattle.std.proofs.lemmas.Option.{slice_get_read}
use Rattle.std.proofs.lemmas.Result.{err_from_is_err_and}
use Rattle.vortex_prune.proofs.Scanning.PartScanLemmas.{all_answered, same_again, selected_next, skipped_next, tested_next, told_all, told_more, whole_next}
use Rattle.vortex_prune.proofs.Scanning.ScanLemmas.{all_below, below_more}
use Rattle.vortex_prune.specs.Scanning.Found.{Found}
use Rattle.vortex_prune.specs.Scanning.PartScans.{AreTold}
use Rattle.vortex_prune.specs.Scanning.Selection.{selected_rows, skipped_parts, tested_rows, whole_parts}
use Rattle.vortex_prune.proofs.scan.part_scan.scan_parts.Goals as goal

pub loop-place-preserved : goal.loop-place-preserved
loop-place-preserved g c =
    let ps = c.args.parts.now in
    let n = c.loop-place.place in
    let part = c.index-parts-place.result in
    let tells = g.T.PartTest.tells c.args.test.now in
    let is_part = c.in_ok-record.ensures.is_part in
    let v = c.in_ok-verdict.verdict in
    let told_of = c.loop-place.invariant.same.is_told n part v c.in_ok-verdict.ensures.verdict in
    record {
      same = same_again _ _ _ _ _ _ _ _ _ c.loop-place.invariant.same c.in_ok-verdict.ensures.same;
      parts = below_more n ps part c.loop-place-test.true c.index-parts-place.is is_part c.loop-place.invariant.parts;
      told = told_more tells ps n part v _ _ c.loop-place-test.true c.index-parts-place.is told_of c.in_ok-record.ensures.skipped c.loop-place.invariant.told;
      skipped = λ f s answers told.
          skipped_next tells ps f s answers told n part v c.loop-place-test.true c.index-parts-place.is is_part told_of _ _ c.in_ok-record.ensures.skipped (c.loop-place.invariant.skipped f s answers told);
      whole = λ f s answers told.
          whole_next tells ps f s answers told n part v c.loop-place-test.true c.index-parts-place.is is_part told_of _ _ c.in_ok-record.ensures.whole (c.loop-place.invariant.whole f s answers told);
      selected = λ f s answers told.
          selected_next tells ps f s answers told n part v c.loop-place-test.true c.index-parts-place.is is_part told_of c.args.predicate.now _ _
          c.in_ok-record.ensures.selected (c.loop-place.invariant.selected f s answers told);
      evaluated = λ f s answers told.
          tested_next tells ps f s answers told n part v c.loop-place-test.true c.index-parts-place.is is_part told_of _ _ (2 ^ 64 - 1)
          c.in_ok-record.ensures.evaluated (c.loop-place.invariant.evaluated f s answers told);
    }

pub returns-clause-found : goal.returns-clause-found
returns-clause-found g c = λ f s answers told.
    let all = all_answered (g.T.PartTest.tells c.args.test.now) c.args.parts.now f s answers c.loop-place.place told (omega (arith, c.loop-place-test.false)) in
    let same = c.in_ok-into_scan.ensures in
    record {
      skipped = ap (λ (o : Found). o.skipped) same ∙ c.loop-place.invariant.skipped f s answers told ∙ ap (skipped_parts f) all;
      whole = ap (λ (o : Found). o.whole) same ∙ c.loop-place.invariant.whole f s answers told ∙ ap (whole_parts f s) all;
      kept = ap (λ (o : Found). o.selected) same ∙ c.loop-place.invariant.selected f s answers told ∙ ap (selected_rows f s c.args.predicate.now) all;
      evaluated = ap (λ (o : Found). o.evaluated) same ∙ c.loop-place.invariant.evaluated f s answers told ∙ ap (λ l. min (tested_rows f s l) (2 ^ 64 - 1)) all;
    }

pub returns-clause-told : goal.returns-clause-told
returns-clause-told g c =
    let tells = g.T.PartTest.tells c.args.test.now in
    let P : List ℕ → Type 0 = AreTold tells c.args.parts.now in
    subst P (sym (ap (λ (o : Found). o.skipped) c.in_ok-into_scan.ensures))
    (told_all tells c.args.parts.now c.loop-place.place _ (omega (arith, c.loop-place-test.false)) c.loop-place.invariant.told)

pub returns-clause-parts : goal.returns-clause-parts
returns-clause-parts g c = all_below c.loop-place.place c.args.parts.now (omega (arith, c.loop-place-test.false)) c.loop-place.invariant.parts

pub returns-in_err-verdict-clause-refusal : goal.returns-in_err-verdict-clause-refusal
returns-in_err-verdict-clause-refusal g c =
    let p = err_from_is_err_and c.from_residual.result c.from_residual.ensures.1 in
    let ps = c.args.parts.now in
    let part = c.index-parts-place.result in
    let n = c.loop-place.place in
    rw (p.1, p.2)
    (inr (n, part, slice_get_read ps (length ps) n part refl c.loop-place-test.true c.index-parts-place.is, c.loop-place.invariant.same.is_refused n part _ c.in_err-verdict.ensures.verdict))
