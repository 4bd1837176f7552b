use Rattle.std.proofs.Common.{◌≡◌, ◌<◌, ◌+◌, ◌++◌, ◌∷◌, [], if◌then◌else◌, ap, arith, length, sym, ◌∙◌}
use Rattle.std.proofs.lemmas.List.{length_push}
use Rattle.std.specs.Prelude.{Some, slice_get}
use Rattle.std.proofs.lemmas.Option.{slice_get-get_or}
use Rattle.vortex_zone_map.proofs.ZoneMaps.ZoneNames.{head_tells}
use Rattle.vortex_capi.proofs.BatchLemmas.{head_there, named_pushed}
use Rattle.vortex_capi.proofs.batches.Batch.columns.Goals as goal

pub column_if-requires-clause-tells : goal.column_if-requires-clause-tells
column_if-requires-clause-tells c =
    let hs = c.args.lookups.now.heads.items in
    let h = c.index.result.now in
    let place = c.loop-place.place in
    let within : place < length hs = omega (arith, c.loop-place-test.true, c.len-place-end.ensures, c.args.lookups.now.heads.ok.0) in
    head_tells c.args.self.now.scope.now place h (ap (λ l. slice_get l place) (sym c.requires.lookups.heads) ∙ head_there hs place h within c.index.ensures)

pub column_if-requires-clause-counting : goal.column_if-requires-clause-counting
column_if-requires-clause-counting c =
    let hs = c.args.lookups.now.heads.items in
    let entries = c.args.lookups.now.entries.items in
    let h = c.index.result.now in
    let place = c.loop-place.place in
    let within : place < length hs = omega (arith, c.loop-place-test.true, c.len-place-end.ensures, c.args.lookups.now.heads.ok.0) in
    let entry = slice_get-get_or entries place c.index-in-loop-place-2.result.now (omega (arith, within, c.requires.lookups.long)) in
    c.requires.lookups.counting place h c.index-in-loop-place-2.result.now (head_there hs place h within c.index.ensures) (entry ∙ ap Some (sym c.index-in-loop-place-2.ensures))

pub loop-place-preserved : goal.loop-place-preserved
loop-place-preserved c =
    let hs = c.args.lookups.now.heads.items in
    let named = c.args.lookups.now.named.items in
    let h = c.index.result.now in
    let is_named = c.index-in-loop-place.result.now in
    let place = c.loop-place.place in
    let within : place < length hs = omega (arith, c.loop-place-test.true, c.len-place-end.ensures, c.args.lookups.now.heads.ok.0) in
    let cs = c.loop-place.columns.items in
    let column = c.in_ok-column.column in
    let pushed : c.push.new.self.items ≡ cs ++ column ∷ [] = c.push.ensures.items ∙ ap (λ b. if b then cs ++ column ∷ [] else cs) (sym c.in_ok-ok.ensures.variant) in
    let at = head_there hs place h within c.index.ensures in
    let mark = slice_get-get_or named place is_named (omega (arith, within, c.requires.lookups.named)) ∙ ap Some (sym c.index-in-loop-place.ensures) in
    record {
      long = ap length pushed ∙ length_push cs column ∙ ap (λ n. n + 1) c.loop-place.invariant.long;
      told = λ zones found.
          named_pushed named hs zones cs c.push.new.self.items place h is_named column pushed c.loop-place.invariant.long at mark
          (c.in_ok-column.ensures zones found) (c.loop-place.invariant.told zones found);
    }
