use Rattle.std.proofs.Common.{◌≡◌, List, Ok, false, ap, map, subst, subst₂, sym, ◌∙◌}
use Rattle.std.proofs.lemmas.Result.{err_from_is_err_and}
use Rattle.vortex_parquet.specs.Reading.{Fails}
use Rattle.vortex_prune.specs.Scanning.ZoneScans.{is_left_open}
use Rattle.vortex_zone_map.specs.Zone.{AreZonesOf}
use Rattle.vortex_predicates.specs.Conditions.Conditions.{schema_of}
use Rattle.vortex_predicates.proofs.Footers.Refusing.{group_faulty, groups_without_map, groups_without_verdicts, shut_rows}
use Rattle.vortex_base.specs.Data.Scopes.{Named}
use Rattle.vortex_parquet.specs.Records.{file_view}
use Rattle.vortex_parquet.specs.Stats.{group_view, groups_of}
use Rattle.vortex_parquet.specs.declared.columns.Leaf.{Leaf}
use Rattle.vortex_parquet.specs.declared.stats.GroupStats.{GroupStats}
use Rattle.vortex_predicates.specs.RowGroups.Pruning.{zone_data}
use Rattle.vortex_zone_map.specs.ZoneMaps.{MapData, zone_map}
use Rattle.vortex_predicates.proofs.Footers.Sound.{groups_long, prunes_condition}
use Rattle.vortex_predicates.proofs.parquet.footer_condition.FooterCondition.prune.Goals as goal

pub returns-clause-counted : goal.returns-clause-counted
returns-clause-counted c =
    groups_long c.deref.result.now c.args.count (file_view c.args.file.now) c.in_ok-groups.groups.items c.in_ok-groups.ensures

pub returns-clause-sound : goal.returns-clause-sound
returns-clause-sound c =
    let x = c.args.self.now in
    let gs = c.deref-2.result.now in
    let file = file_view c.args.file.now in
    prunes_condition c.groups_are_parts.ensures (schema_of x.condition) x.condition.condition x.leaves.items gs c.in_ok-map.map c.in_ok-verdicts.verdicts.items
    (c.in_ok-map.ensures.made ∙ ap (λ (s : List Named). zone_map s (map zone_data gs)) (c.in_ok-scope.ensures ∙ c.scope.ensures)) c.in_ok-map.ensures.is_map c.in_ok-verdicts.ensures.sound file c.args.count
    (subst₂ (λ (ls : List Leaf) (known : List GroupStats). groups_of ls c.args.count file ≡ Ok (map group_view known)) c.deref.ensures.value (sym c.deref-2.ensures.value) c.in_ok-groups.ensures)

pub returns-clause-fit : goal.returns-clause-fit
returns-clause-fit c =
    let same : c.in_ok-map.map.scope ≡ c.args.self.now.condition.scope = ap (λ (m : MapData). m.scope) c.in_ok-map.ensures.made ∙ (c.in_ok-scope.ensures ∙ c.scope.ensures) in
    subst₂ (λ (s : List Named) (gs : List GroupStats). AreZonesOf s (map zone_data gs)) same c.deref-2.ensures.value c.in_ok-map.ensures.is_map.are_zones

pub returns-clause-closed : goal.returns-clause-closed
returns-clause-closed c =
    let x = c.args.self.now.condition in
    subst (λ (gs : List GroupStats). is_left_open x.falsifier (map (λ (g : GroupStats). g.rows) gs) ≡ false) c.deref-2.ensures.value
    (shut_rows x.falsifier c.deref-2.result.now c.in_ok-scope.scope c.in_ok-map.map c.in_ok-map.ensures.made c.in_ok-verdicts.ensures.shut)

pub returns-in_err-groups-clause-refused : goal.returns-in_err-groups-clause-refused
returns-in_err-groups-clause-refused c =
    let p = err_from_is_err_and c.from_residual.result c.from_residual.ensures.1 in
    let e = c.in_err-groups.field-0.0 in
    rw (p.1, p.2) (group_faulty c.args.self.now.condition c.args.self.now.leaves.items c.args.count (file_view c.args.file.now) e
    (subst (λ (ls : List Leaf). Fails e (groups_of ls c.args.count (file_view c.args.file.now))) c.deref.ensures.value c.in_err-groups.ensures))

pub returns-in_err-map-clause-refused : goal.returns-in_err-map-clause-refused
returns-in_err-map-clause-refused c =
    let p = err_from_is_err_and c.from_residual-in_err-map.result c.from_residual-in_err-map.ensures.1 in
    let x = c.args.self.now in
    let gs = c.deref-2.result.now in
    let file = file_view c.args.file.now in
    let read : groups_of x.leaves.items c.args.count file ≡ Ok (map group_view gs) =
    subst₂ (λ (ls : List Leaf) (known : List GroupStats). groups_of ls c.args.count file ≡ Ok (map group_view known)) c.deref.ensures.value (sym c.deref-2.ensures.value) c.in_ok-groups.ensures in
    rw (p.1, p.2) (groups_without_map x.condition x.leaves.items c.args.count file gs c.in_ok-scope.scope c.in_err-map.field-0.0 read (c.in_ok-scope.ensures ∙ c.scope.ensures) c.in_err-map.ensures.refused)

pub returns-in_err-verdicts-clause-refused : goal.returns-in_err-verdicts-clause-refused
returns-in_err-verdicts-clause-refused c =
    let p = err_from_is_err_and c.from_residual-in_err-verdicts.result c.from_residual-in_err-verdicts.ensures.1 in
    let x = c.args.self.now in
    let gs = c.deref-2.result.now in
    let file = file_view c.args.file.now in
    let read : groups_of x.leaves.items c.args.count file ≡ Ok (map group_view gs) =
    subst₂ (λ (ls : List Leaf) (known : List GroupStats). groups_of ls c.args.count file ≡ Ok (map group_view known)) c.deref.ensures.value (sym c.deref-2.ensures.value) c.in_ok-groups.ensures in
    rw (p.1, p.2) (groups_without_verdicts x.condition x.leaves.items c.args.count file gs c.in_ok-scope.scope c.in_ok-map.map c.in_err-verdicts.field-0.0 read c.in_ok-map.ensures.made c.in_err-verdicts.ensures.refused)
