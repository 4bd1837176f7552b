use Rattle.std.proofs.Common.{◌≡◌, ◌+◌, ◌*◌, ◌-◌, ◌++◌, ◌∷◌, List, [], Some, ap, ap₂, drop, length, map, subst, sym, take, ◌∙◌}
use Rattle.std.proofs.lemmas.List.{length-replicate}
use Rattle.std.proofs.lemmas.Option.{slice_get-map}
use Rattle.std.specs.Prelude.{option_map, slice_get}
use Rattle.vortex_base.specs.declared.array_data.ArrayData.{ArrayData}
use Rattle.vortex_zone_map.specs.Zone.{Entries}
use Rattle.vortex_zone_map.proofs.JoinLemmas.{stretch_said}
use Rattle.vortex_zone_map.proofs.MapLemmas.{blank_first, lent_whole, next_told, stretch_within, zone_there, zones_long}
use Rattle.vortex_zone_map.proofs.TableLemmas.{zone_with}
use Rattle.vortex_zone_map.specs.Blocks.{all_of}
use Rattle.vortex_zone_map.specs.Kept.{IsWithin, said, sets_of, sets_with, stretch_of, zone_of}
use Rattle.vortex_zone_map.specs.Logs.{LogData, zones_from}
use Rattle.vortex_zone_map.specs.Tables.{AreCells, blank_zone}
use Rattle.vortex_zone_map.specs.declared.stat_entry.StatEntry.{StatEntry}
use Rattle.vortex_zone_map.proofs.builder.ZoneMapBuilder.cells_from.Goals as goal

pub loop-next-init : goal.loop-next-init
loop-next-init c =
    let zones = c.args.self.now.zones in
    record {
      run = c.none-run.ensures (all_of c.self.inside.stretches);
      told = blank_first c.args.heads.now c.self.inside.columns c.args.count (zones_from c.args.from c.args.count zones) c.in_ok-cells.cells.items (zones_long zones c.args.from c.args.count c.requires) c.in_ok-cells.ensures;
    }

pub told_in-told-requires : goal.told_in-told-requires
told_in-told-requires c =
    let l = c.self.inside in
    let s = c.at_hand-stretch.result in
    subst (λ (ts : List StatEntry). IsWithin (length ts) s) (sym c.deref-in-loop-next.ensures.value)
    (stretch_within l.var_len_values.items l.told.items (all_of l.stretches) (c.args.from + c.loop-next.next) s c.self.invariant.0.stretches c.at_hand-stretch.ensures.found)

pub loop-next-preserved : goal.loop-next-preserved
loop-next-preserved c = record {
  run = c.at_hand-stretch.ensures.run;
  told =
      let l = c.self.inside in
      let heads = c.args.heads.now in
      let zones = zones_from c.args.from c.args.count c.args.self.now.zones in
      let k = c.loop-next.next in
      let s = c.at_hand-stretch.result in
      let ts = said l.var_len_values.items l.told.items in
      let runs = all_of l.stretches in
      let full = sets_of l.columns (stretch_of ts s) in
      let there : slice_get runs (c.args.from + k) ≡ Some s = c.at_hand-stretch.ensures.found in
      let at : slice_get zones k ≡ Some (zone_with s.rows full) =
      zone_there c.args.self.now.zones c.args.from c.args.count k (zone_with s.rows full) c.loop-next-test.true
      (ap (λ (d : LogData). slice_get d.zones (c.args.from + k)) (sym c.self.view_is) ∙ slice_get-map (zone_of l.columns ts) runs (c.args.from + k) ∙ ap (option_map (zone_of l.columns ts)) there) in
      let says : said c.deref.result.now c.told_in-told.result.now ≡ stretch_of ts s =
      ap₂ said c.deref.ensures.value (c.told_in-told.ensures ∙ ap (λ (x : List StatEntry). take (s.to - s.from) (drop s.from x)) c.deref-in-loop-next.ensures.value) ∙ stretch_said l.var_len_values.items l.told.items s in
      let long : length c.put_all.new.cells ≡ c.loop-next.cells.len = c.put_all.auto.cells ∙ ap length c.deref_mut.ensures.value ∙ sym c.loop-next.cells.ok.0 in
      subst (λ (cs : List ArrayData). AreCells heads (take (k + 1) zones ++ map (blank_zone l.columns) (drop (k + 1) zones)) cs) (sym (lent_whole c.loop-next.cells.len c.put_all.new.cells c.loop-next.cells.items long (sym c.loop-next.cells.ok.0)))
      (next_told heads l.columns zones k s.rows full c.loop-next.cells.items c.put_all.new.cells at
      (λ before after sets place none is.
      subst (λ (es : List Entries). AreCells heads (before ++ zone_with s.rows es ∷ after) c.put_all.new.cells) (ap₂ sets_with none says)
      (c.in_ok-put_all.ensures before after sets place (ap (λ es. length es * 9) none ∙ ap (λ k. k * 9) (length-replicate l.columns []) ∙ sym c.in_ok-links.ensures.wide) (subst (λ (cs : List ArrayData). AreCells heads (before ++ zone_with s.rows sets ∷ after) cs) (sym c.deref_mut.ensures.value) is)))
      c.loop-next.invariant.told);
}
