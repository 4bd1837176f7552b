use Rattle.std.proofs.Common.{◌≡◌, ◌+◌, ℕ, Some, ap, arith, get_or, inl, inr, length, sym, ◌∙◌}
use Rattle.std.proofs.lemmas.List.{get_or_past}
use Rattle.std.proofs.lemmas.Option.{slice_get-get_or, slice_get_within}
use Rattle.std.specs.Prelude.{slice_get, slice_set}
use Rattle.vortex_base.specs.Data.ArrayData.{cell_values}
use Rattle.vortex_zone_map.specs.StatValues.{told_value}
use Rattle.vortex_stats.proofs.Sets.SlotLemmas.{number_below}
use Rattle.vortex_zone_map.proofs.LinkLemmas.{slot_within}
use Rattle.vortex_zone_map.proofs.TableLemmas.{all_mixed, lt_or_le, mixed_next, mixed_on, none_mixed, none_reads}
use Rattle.vortex_zone_map.specs.Kept.{saying}
use Rattle.vortex_zone_map.specs.Tables.{slot}
use Rattle.vortex_zone_map.proofs.readers.Readers.put.Goals as goal

pub readers-init : goal.readers-init
readers-init c =
    let r = c.args.self.now in
    let l = r.links.now in
    let t = saying r.var_len_values.now c.args.told.now in
    let own = slot t.column t.stat in
    let place = c.first-place.result in
    elim (lt_or_le own (length l.firsts.items)) [
      | inl less ↦
          let there : slice_get l.firsts.items own ≡ Some place = slice_get-get_or l.firsts.items own (length l.nexts.items) less ∙ ap Some (sym c.first-place.ensures) in
          let next = c.requires.readers.first t.column t.stat place there in
          record {
            mixed = λ before after z at rows wide is. mixed_on r.heads.now t before after z 0 place c.args.cells.now next (none_mixed r.heads.now t before after z c.args.cells.now is);
            read = λ h at. (next.read h at, less);
          }
      | inr le ↦
          let last : place ≡ length l.nexts.items = c.first-place.ensures ∙ get_or_past l.firsts.items own (length l.nexts.items) le in
          record {
            mixed = λ before after z at rows wide is. none_reads r.heads.now t before after z place c.args.cells.now (let below = number_below t.stat in omega (arith, below, wide, le)) is;
            read = λ h at. absurd (let within = slice_get_within r.heads.now place h at in let long = c.requires.readers.long in omega (arith, within, last, long));
          }
    ]

pub readers-preserved : goal.readers-preserved
readers-preserved c =
    let r = c.args.self.now in
    let l = r.links.now in
    let t = saying r.var_len_values.now c.args.told.now in
    let n = c.readers.place in
    let h = get_or r.heads.now n c.index-self-place.result in
    let one = get_or c.readers.cells n c.index-cells-place.result in
    let here : slice_get r.heads.now n ≡ Some h = slice_get-get_or r.heads.now n c.index-self-place.result (omega (arith, c.readers-test.true)) in
    let got : slice_get c.readers.cells n ≡ Some one = slice_get-get_or c.readers.cells n c.index-cells-place.result (omega (arith, c.readers-test.true, c.requires.long, c.readers.auto.cells)) in
    let read = c.readers.invariant.read h here in
    let next = c.requires.readers.next n h t.column t.stat c.next-place.result (omega arith) here read.0 read.1 c.next-place.ensures in
    record {
      mixed = λ before after z at rows wide is.
          let put : cell_values c.put_value.new.cells ≡ slice_set (cell_values one) c.args.zone (told_value h.aggregate t.value z.rows) =
          c.in_ok-put_value.ensures ∙ ap (λ (k : ℕ). slice_set (cell_values one) c.args.zone (told_value h.aggregate t.value k)) (sym rows) in
          let less = read.1 in
          mixed_on r.heads.now t before after z (n + 1) c.next-place.result _ next
          (mixed_next r.heads.now t before after z n h here read.0 (slot_within t.column (length z.stats) t.stat (omega (arith, less, wide))) c.readers.cells one c.put_value.new.cells c.args.zone put at got
          (c.readers.invariant.mixed before after z at rows wide is));
      read = λ g at. (next.read g at, read.1);
    }

pub readers-smaller : goal.readers-smaller
readers-smaller c =
    let r = c.args.self.now in
    let t = saying r.var_len_values.now c.args.told.now in
    let n = c.readers.place in
    let h = get_or r.heads.now n c.index-self-place.result in
    let here : slice_get r.heads.now n ≡ Some h = slice_get-get_or r.heads.now n c.index-self-place.result (omega (arith, c.readers-test.true)) in
    let read = c.readers.invariant.read h here in
    let behind = (c.requires.readers.next n h t.column t.stat c.next-place.result (omega arith) here read.0 read.1 c.next-place.ensures).behind in
    omega (arith, behind, c.readers-test.true)

pub returns : goal.returns
returns c = λ before after z at rows wide is.
    let r = c.args.self.now in
    all_mixed r.heads.now (saying r.var_len_values.now c.args.told.now) before after z c.readers.place c.readers.cells (omega (arith, c.readers-test.false)) (c.readers.invariant.mixed before after z at rows wide is)
