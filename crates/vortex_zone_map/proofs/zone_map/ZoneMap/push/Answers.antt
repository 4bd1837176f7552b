-- The row of the table for the zone fits, and the map with it is kept.
use Rattle.std.proofs.Common.{◌≡◌, ◌++◌, [], ◌∷◌, ap, subst, sym, true, ◌∙◌}
use Rattle.vortex_base.specs.Data.Columns.{row_fits}
use Rattle.vortex_zone_map.proofs.ZoneMaps.ZonePushed.{memory_alone, pushed_again, pushed_is_appended, pushed_is_kept, pushed_is_of, row_fits_table, table_pushed}
use Rattle.vortex_zone_map.specs.Zone.{fits_zone}
use Rattle.vortex_zone_map.specs.ZoneMaps.{IsMap, MapData, appended_map, zone_map}
use Rattle.vortex_zone_map.specs.contracts.zone_map.ZoneMap.{the_view}
use Rattle.vortex_zone_map.proofs.zone_map.ZoneMap.push.Goals as goal

pub invariant_of-self-in-Ok : goal.invariant_of-self-in-Ok
invariant_of-self-in-Ok c =
    let m = the_view c.self.inside in
    let zone = c.args.zone.now in
    let starts = c.self.inside.starts.items in
    let is = c.rows-rows.ensures.is_chunk in
    let fits : fits_zone m.scope zone.stats ≡ true = sym c.sets_fit.ensures ∙ c.if-not-sets_fit.false in
    let told = c.in_ok-values.ensures.row in
    let row : row_fits m.table.columns c.in_ok-values.values.items ≡ true = ap (row_fits m.table.columns) told ∙ row_fits_table zone m starts is c.self.invariant fits in
    let rows = c.push_reserved.ensures.items ∙ ap (λ l. l ++ c.rows.result ∷ []) c.in_ok-reserve.ensures.items ∙ ap (λ n. m.rows ++ n ∷ []) c.rows.ensures in
    let table = table_pushed m.table c.push_row.new.self c.in_ok-values.values.items row c.in-Ok.ensures.pushed in
    subst (λ (x : MapData). IsMap x starts) (sym (pushed_again zone m c.push_reserved.new.self.items c.push_row.new.self c.in_ok-values.values.items rows told table)) (pushed_is_kept zone m starts is c.self.invariant fits)

pub expect_memory_only-requires : goal.expect_memory_only-requires
expect_memory_only-requires c =
    let m = the_view c.self.inside in
    let zone = c.args.zone.now in
    let fits : fits_zone m.scope zone.stats ≡ true = sym c.sets_fit.ensures ∙ c.if-not-sets_fit.false in
    let told = c.in_ok-values.ensures.row in
    memory_alone m.table c.in_ok-values.values.items c.in-Err.refused (ap (row_fits m.table.columns) told ∙ row_fits_table zone m c.self.inside.starts.items c.rows-rows.ensures.is_chunk c.self.invariant fits) c.in-Err.ensures.error

pub returns-in-Ok-clause-appended : goal.returns-in-Ok-clause-appended
returns-in-Ok-clause-appended c =
    let m = the_view c.self.inside in
    let zone = c.args.zone.now in
    let starts = c.self.inside.starts.items in
    let is = c.rows-rows.ensures.is_chunk in
    let fits : fits_zone m.scope zone.stats ≡ true = sym c.sets_fit.ensures ∙ c.if-not-sets_fit.false in
    let told = c.in_ok-values.ensures.row in
    let row : row_fits m.table.columns c.in_ok-values.values.items ≡ true = ap (row_fits m.table.columns) told ∙ row_fits_table zone m starts is c.self.invariant fits in
    let rows = c.push_reserved.ensures.items ∙ ap (λ l. l ++ c.rows.result ∷ []) c.in_ok-reserve.ensures.items ∙ ap (λ n. m.rows ++ n ∷ []) c.rows.ensures in
    let table = table_pushed m.table c.push_row.new.self c.in_ok-values.values.items row c.in-Ok.ensures.pushed in
    pushed_again zone m c.push_reserved.new.self.items c.push_row.new.self c.in_ok-values.values.items rows told table
    ∙ pushed_is_appended zone m ∙ ap (λ (x : MapData). appended_map x (zone_map x.scope (zone ∷ []))) c.self.view_is

pub returns-in-Ok-clause-fits : goal.returns-in-Ok-clause-fits
returns-in-Ok-clause-fits c = ap (λ (x : MapData). fits_zone x.scope c.args.zone.now.stats) (sym c.self.view_is) ∙ sym c.sets_fit.ensures ∙ c.if-not-sets_fit.false

pub returns-in-Ok-clause-is_map : goal.returns-in-Ok-clause-is_map
returns-in-Ok-clause-is_map c = λ known h.
    pushed_is_of c.args.zone.now c.args.self.now _ known (returns-in-Ok-clause-fits c) (returns-in-Ok-clause-appended c) h
