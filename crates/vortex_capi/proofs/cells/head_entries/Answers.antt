use Rattle.std.proofs.Common.{◌≡◌, ◌+◌, ◌*◌, ◌++◌, ◌∷◌, [], if◌then◌else◌, Some, ap, arith, length, subst, sym, ◌∙◌}
use Rattle.std.proofs.lemmas.List.{length_push}
use Rattle.std.proofs.lemmas.Option.{slice_get-get_or}
use Rattle.vortex_capi.specs.MapCells.{AreLasts}
use Rattle.vortex_capi.proofs.EntryLemmas.{one_more_counts}
use Rattle.vortex_capi.proofs.PlaceLemmas.{source_within}
use Rattle.vortex_capi.proofs.cells.head_entries.Goals as goal

pub head_entry-requires : goal.head_entry-requires
head_entry-requires c =
    let scope = c.args.scope.now in
    let h = c.index-heads-place.result in
    let within = source_within scope c.args.heads.now c.loop-place.place h c.requires c.loop-place-test.true c.index-heads-place.is in
    let columns : c.len.result ≡ length scope = c.len.ensures.value in
    let wide : length c.in_ok-lasts.lasts.items ≡ c.len.result * 9 = c.in_ok-lasts.ensures.wide in
    let same : c.deref.result.now ≡ c.in_ok-lasts.lasts.items = c.deref.ensures.value in
    omega (arith, within, columns, wide, ap length same)

pub loop-place-preserved : goal.loop-place-preserved
loop-place-preserved c =
    let xs = c.args.sources.now in
    let hs = c.args.heads.now in
    let h = c.index-heads-place.result in
    let place = c.loop-place.place in
    let entries = c.loop-place.entries.items in
    let o = c.in_ok-head_entry.field-0 in
    let at = slice_get-get_or hs place h c.loop-place-test.true ∙ ap Some (sym c.index-heads-place.is) in
    let pushed : c.push.new.self.items ≡ entries ++ o ∷ [] = c.push.ensures.items ∙ ap (λ b. if b then entries ++ o ∷ [] else entries) (sym c.in_ok-ok.ensures.variant) in
    let lasts = subst (AreLasts xs (length xs)) (sym c.deref.ensures.value) c.in_ok-lasts.ensures.last in
    record {
      long = ap length pushed ∙ length_push entries o ∙ ap (λ n. n + 1) c.loop-place.invariant.long;
      counting = one_more_counts xs hs entries c.push.new.self.items place h o pushed c.loop-place.invariant.long at (c.in_ok-head_entry.ensures xs lasts) c.loop-place.invariant.counting;
    }
