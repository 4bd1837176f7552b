use Rattle.std.proofs.Common.{◌++◌, ap, ap₂, subst, sym, ◌∙◌}
use Rattle.vortex_zone_map.proofs.ZoneMaps.ZoneAppended.{appended_again, appended_is_kept, appended_is_of, emptied_again, emptied_is_kept, sizeless_fit}
use Rattle.vortex_zone_map.specs.ZoneMaps.{IsMap, MapData, appended_map}
use Rattle.vortex_zone_map.specs.contracts.zone_map.ZoneMap.{the_view}
use Rattle.vortex_zone_map.proofs.zone_map.ZoneMap.append.Goals as goal

pub append-requires-clause-sizes : goal.append-requires-clause-sizes
append-requires-clause-sizes c = sizeless_fit c.self.inside.table.columns c.other.inside.table.columns c.self.invariant.sizeless c.other.invariant.sizeless

pub invariant_of-self-in-Ok : goal.invariant_of-self-in-Ok
invariant_of-self-in-Ok c =
    let m = the_view c.self.inside in
    let k = the_view c.other.inside in
    let same = ap (λ (x : MapData). x.scope) c.self.view_is ∙ c.requires ∙ sym (ap (λ (x : MapData). x.scope) c.other.view_is) in
    subst (λ (x : MapData). IsMap x c.self.inside.starts.items)
    (sym (appended_again m k c.move_behind.new.rows.items c.append.new.self (c.move_behind.ensures.items ∙ ap (λ l. l ++ k.rows) c.in_ok-reserve.ensures.items) c.in-Ok.ensures.appended))
    (appended_is_kept m k c.self.inside.starts.items c.other.inside.starts.items c.rows-rows.ensures.is_chunk c.rows-others.ensures.is_chunk same c.self.invariant c.other.invariant)

pub invariant_of-other : goal.invariant_of-other
invariant_of-other c =
    let k = the_view c.other.inside in
    subst (λ (x : MapData). IsMap x c.other.inside.starts.items) (sym (emptied_again k c.move_behind.new.others.items c.append.new.other c.move_behind.ensures.emptied c.in-Ok.ensures.emptied)) (emptied_is_kept k c.other.inside.starts.items c.other.invariant)

pub returns-in-Ok-clause-is_map : goal.returns-in-Ok-clause-is_map
returns-in-Ok-clause-is_map c = λ zones more h g.
    let m = the_view c.self.inside in
    let k = the_view c.other.inside in
    appended_is_of c.args.self.now c.args.other.now _ zones more c.requires
    (appended_again m k c.move_behind.new.rows.items c.append.new.self (c.move_behind.ensures.items ∙ ap (λ l. l ++ k.rows) c.in_ok-reserve.ensures.items) c.in-Ok.ensures.appended ∙ ap₂ appended_map c.self.view_is c.other.view_is) h g
