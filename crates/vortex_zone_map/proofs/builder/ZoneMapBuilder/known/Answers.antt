use Rattle.std.proofs.Common.{◌≡◌, ◌-◌, List, Some, ap, ap₂, arith, drop, length, sym, take, ◌∙◌}
use Rattle.std.proofs.lemmas.Option.{slice_get-map}
use Rattle.std.specs.Prelude.{option_map, slice_get}
use Rattle.vortex_zone_map.specs.Zone.{Entries, ZoneData}
use Rattle.vortex_zone_map.proofs.JoinLemmas.{stretch_said}
use Rattle.vortex_zone_map.proofs.LogLemmas.{length-sets_of}
use Rattle.vortex_zone_map.specs.Blocks.{all_of}
use Rattle.vortex_zone_map.specs.Kept.{said, sets_of, zone_of}
use Rattle.vortex_zone_map.specs.Logs.{LogData}
use Rattle.vortex_zone_map.specs.declared.stat_entry.StatEntry.{StatEntry}
use Rattle.vortex_zone_map.proofs.builder.ZoneMapBuilder.known.Goals as goal

pub returns-clause-known : goal.returns-clause-known
returns-clause-known c =
    let l = c.self.inside in
    let runs = all_of l.stretches in
    let s = c.at-stretch.result in
    let zone : List Entries → ZoneData = λ sets. record { rows = s.rows; stats = sets } in
    let there : slice_get runs c.args.place ≡ Some s = c.at-stretch.ensures in
    let says = ap₂ (λ var_len_values (ts : List StatEntry). sets_of l.columns (said var_len_values (take (s.to - s.from) (drop s.from ts)))) c.deref-2.ensures.value c.deref.ensures.value
    ∙ ap (sets_of l.columns) (stretch_said l.var_len_values.items l.told.items s) in
    ap (λ (d : LogData). slice_get d.zones c.args.place) (sym c.self.view_is)
    ∙ slice_get-map (zone_of l.columns (said l.var_len_values.items l.told.items)) runs c.args.place
    ∙ ap (option_map (zone_of l.columns (said l.var_len_values.items l.told.items))) there
    ∙ ap (λ (sets : List Entries). Some (zone sets)) (sym (c.in_ok-sets.ensures ∙ says))

pub returns-clause-few : goal.returns-clause-few
returns-clause-few c =
    let s = c.at-stretch.result in
    let long = ap length c.in_ok-sets.ensures ∙ length-sets_of c.self.inside.columns (said c.deref-2.result.now (take (s.to - s.from) (drop s.from c.deref.result.now))) in
    omega (arith, long)
