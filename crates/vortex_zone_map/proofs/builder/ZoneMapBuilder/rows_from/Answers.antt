use Rattle.std.proofs.Common.{◌≡◌, ◌+◌, ℕ, Option, Some, ap, sym, ◌∙◌}
use Rattle.std.proofs.lemmas.Option.{slice_get-map}
use Rattle.std.specs.Prelude.{option_map, slice_get}
use Rattle.vortex_zone_map.specs.Zone.{ZoneData}
use Rattle.vortex_zone_map.proofs.MapLemmas.{next_rows}
use Rattle.vortex_zone_map.specs.Blocks.{all_of}
use Rattle.vortex_zone_map.specs.Kept.{said, zone_of}
use Rattle.vortex_zone_map.specs.Logs.{LogData}
use Rattle.vortex_zone_map.specs.declared.entry_range.EntryRange.{EntryRange}
use Rattle.vortex_zone_map.proofs.builder.ZoneMapBuilder.rows_from.Goals as goal

pub loop-next-init : goal.loop-next-init
loop-next-init c = record { run = c.none-run.ensures (all_of c.self.inside.stretches); told = c.in_ok-rows.ensures.items }

pub loop-next-preserved : goal.loop-next-preserved
loop-next-preserved c =
    let l = c.self.inside in
    let k = c.loop-next.next in
    let s = c.at_hand-stretch.result in
    let zone = zone_of l.columns (said l.var_len_values.items l.told.items) in
    let counts : Option ZoneData → Option ℕ = option_map (λ (z : ZoneData). z.rows) in
    let there : counts (slice_get c.args.self.now.zones (c.args.from + k)) ≡ Some s.rows =
    ap (λ (d : LogData). counts (slice_get d.zones (c.args.from + k))) (sym c.self.view_is)
    ∙ ap counts (slice_get-map zone (all_of l.stretches) (c.args.from + k))
    ∙ ap (λ (o : Option EntryRange). counts (option_map zone o)) c.at_hand-stretch.ensures.found in
    record {
      run = c.at_hand-stretch.ensures.run;
      told = next_rows c.args.self.now.zones c.args.from k s.rows c.loop-next.rows.items c.push.new.self.items there c.in_ok-push.ensures.items c.loop-next.invariant.told;
    }
