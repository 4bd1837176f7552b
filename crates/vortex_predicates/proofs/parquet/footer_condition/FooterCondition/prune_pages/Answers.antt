use Rattle.std.proofs.Common.{◌≡◌, ◌∙◌, List, Ok, ap, length, map, subst, subst₂, sym}
use Rattle.std.proofs.lemmas.Result.{err_from_is_err_and}
use Rattle.std.proofs.lemmas.List.{length-map}
use Rattle.vortex_base.specs.Data.Scopes.{Named}
use Rattle.vortex_parquet.specs.GroupPages.{tail_view}
use Rattle.vortex_parquet.specs.Records.{file_view}
use Rattle.vortex_parquet.specs.Stats.{group_view}
use Rattle.vortex_parquet.specs.declared.columns.Leaf.{Leaf}
use Rattle.vortex_parquet.specs.declared.stats.GroupStats.{GroupStats}
use Rattle.vortex_predicates.specs.Conditions.Conditions.{schema_of}
use Rattle.vortex_predicates.specs.RowGroups.Pruning.{zone_data}
use Rattle.vortex_zone_map.specs.ZoneMaps.{MapData, zone_map}
use Rattle.vortex_predicates.specs.Footers.PagedGroups.{AreStretchesFrom, AreStretchesIn, paged_groups, paged_view}
use Rattle.vortex_predicates.specs.Footers.PagePruning.{DecidesNoFewer, PrunesPages, by_groups}
use Rattle.vortex_predicates.specs.Pruning.{skipped_places, whole_places}
use Rattle.vortex_predicates.specs.declared.parquet.page_ranges.PageRange.{PageRange}
use Rattle.vortex_predicates.specs.declared.parquet.paged.GroupPages.{GroupPages}
use Rattle.vortex_parquet.specs.Reading.{Fails}
use Rattle.vortex_prune.specs.Scanning.ZoneScans.{zone_verdicts}
use Rattle.vortex_prune.specs.declared.scan.verdict.Verdict.{Verdict}
use Rattle.vortex_predicates.proofs.Footers.PageGroups.{groups_follow}
use Rattle.vortex_predicates.proofs.Footers.PageSound.{by_groups_long, no_fewer, prunes_by_groups, prunes_pages, ranges_long}
use Rattle.vortex_predicates.proofs.Footers.Refusing.{groups_faulty, pages_faulty, stretches_without_map, stretches_without_verdicts, zones_long}
use Rattle.vortex_predicates.proofs.parquet.footer_condition.FooterCondition.prune_pages.Goals as goal

pub cut_groups-requires : goal.cut_groups-requires
cut_groups-requires c =
    let t = tail_view c.args.tail in
    let file = file_view c.args.file.now in
    groups_follow c.pages_follow.ensures t c.args.self.now.leaves.items c.args.count file (map paged_view c.deref-2.result.now)
    (subst₂ (λ (ls : List Leaf) (gs : List GroupPages). paged_groups t ls c.args.count file ≡ Ok (map paged_view gs)) c.deref.ensures.value (sym c.deref-2.ensures.value) c.in_ok-paged.ensures)

pub by_groups-requires : goal.by_groups-requires
by_groups-requires c =
    let ranges = c.in_ok-ranges.field-0.ranges.items in
    let stretches = c.in_ok-ranges.field-0.stretches.items in
    let placed : length ranges ≡ length stretches = ranges_long (map paged_view c.deref-2.result.now) 0 ranges (map group_view stretches) c.in_ok-ranges.ensures.cut ∙ length-map stretches group_view in
    let known : length c.in_ok-own.own.items ≡ length stretches = c.in_ok-own.ensures.long ∙ zones_long c.deref-3.result.now c.in_ok-scope.scope c.in_ok-map.map c.in_ok-map.ensures.made ∙ ap length c.deref-3.ensures.value in
    ap length c.deref-6.ensures.value ∙ known ∙ sym placed ∙ sym (ap length c.deref-5.ensures.value)

pub returns-clause-placed : goal.returns-clause-placed
returns-clause-placed c =
    let found = c.in_ok-ranges.field-0 in
    ranges_long (map paged_view c.deref-2.result.now) 0 found.ranges.items (map group_view found.stretches.items) c.in_ok-ranges.ensures.cut ∙ length-map found.stretches.items group_view

pub returns-clause-long : goal.returns-clause-long
returns-clause-long c =
    let ranges = c.in_ok-ranges.field-0.ranges.items in
    let stretches = c.in_ok-ranges.field-0.stretches.items in
    let placed : length ranges ≡ length stretches = ranges_long (map paged_view c.deref-2.result.now) 0 ranges (map group_view stretches) c.in_ok-ranges.ensures.cut ∙ length-map stretches group_view in
    let known : length c.in_ok-own.own.items ≡ length stretches = c.in_ok-own.ensures.long ∙ zones_long c.deref-3.result.now c.in_ok-scope.scope c.in_ok-map.map c.in_ok-map.ensures.made ∙ ap length c.deref-3.ensures.value in
    let same : length c.deref-6.result.now ≡ length c.deref-5.result.now = ap length c.deref-6.ensures.value ∙ known ∙ sym placed ∙ sym (ap length c.deref-5.ensures.value) in
    ap length c.in_ok-verdicts.ensures ∙ by_groups_long c.deref-4.result.now c.deref-5.result.now c.deref-6.result.now same ∙ ap length c.deref-5.ensures.value ∙ placed

pub returns-clause-verdicts : goal.returns-clause-verdicts
returns-clause-verdicts c =
    let x = c.args.self.now.condition in
    let groups = c.in_ok-groups.groups.verdicts.items in
    let ranges = c.in_ok-ranges.field-0.ranges.items in
    let stretches = c.in_ok-ranges.field-0.stretches.items in
    let own = c.in_ok-own.own.items in
    let is : c.in_ok-verdicts.verdicts.items ≡ by_groups groups ranges own =
    c.in_ok-verdicts.ensures ∙ ap (λ (gs : List Verdict). by_groups gs c.deref-5.result.now c.deref-6.result.now) c.deref-4.ensures.value ∙ ap (λ (rs : List PageRange). by_groups groups rs c.deref-6.result.now) c.deref-5.ensures.value
    ∙ ap (λ (vs : List Verdict). by_groups groups ranges vs) c.deref-6.ensures.value in
    let same : c.in_ok-map.map.scope ≡ x.scope = ap (λ (m : MapData). m.scope) c.in_ok-map.ensures.made ∙ (c.in_ok-scope.ensures ∙ c.scope.ensures) in
    let judged : own ≡ zone_verdicts x.falsifier x.satisfier x.scope (map zone_data stretches) =
    subst₂ (λ (s : List Named) (gs : List GroupStats). own ≡ zone_verdicts x.falsifier x.satisfier s (map zone_data gs)) same c.deref-3.ensures.value
    (c.in_ok-own.ensures.verdicts (map zone_data c.deref-3.result.now) c.in_ok-map.ensures.is_map) in
    is ∙ ap (by_groups groups ranges) judged

pub returns-clause-no_fewer : goal.returns-clause-no_fewer
returns-clause-no_fewer c =
    let groups = c.in_ok-groups.groups.verdicts.items in
    let ranges = c.in_ok-ranges.field-0.ranges.items in
    let stretches = c.in_ok-ranges.field-0.stretches.items in
    let own = c.in_ok-own.own.items in
    let placed : length ranges ≡ length stretches = ranges_long (map paged_view c.deref-2.result.now) 0 ranges (map group_view stretches) c.in_ok-ranges.ensures.cut ∙ length-map stretches group_view in
    let known : length own ≡ length stretches = c.in_ok-own.ensures.long ∙ zones_long c.deref-3.result.now c.in_ok-scope.scope c.in_ok-map.map c.in_ok-map.ensures.made ∙ ap length c.deref-3.ensures.value in
    let is : c.in_ok-verdicts.verdicts.items ≡ by_groups groups ranges own =
    c.in_ok-verdicts.ensures ∙ ap (λ (gs : List Verdict). by_groups gs c.deref-5.result.now c.deref-6.result.now) c.deref-4.ensures.value ∙ ap (λ (rs : List PageRange). by_groups groups rs c.deref-6.result.now) c.deref-5.ensures.value
    ∙ ap (λ (vs : List Verdict). by_groups groups ranges vs) c.deref-6.ensures.value in
    subst (λ (vs : List Verdict). DecidesNoFewer groups ranges vs) (sym is) (no_fewer groups ranges own (known ∙ sym placed))

pub returns-clause-sound : goal.returns-clause-sound
returns-clause-sound c =
    let x = c.args.self.now in
    let t = tail_view c.args.tail in
    let file = file_view c.args.file.now in
    let groups = c.in_ok-groups.groups.verdicts.items in
    let ranges = c.in_ok-ranges.field-0.ranges.items in
    let stretches = c.in_ok-ranges.field-0.stretches.items in
    let own = c.in_ok-own.own.items in
    let gs = c.deref-3.result.now in
    let known : AreStretchesIn t x.leaves.items c.args.count file ranges (map group_view gs) = record {
      groups = map paged_view c.in_ok-paged.paged.items;
      are_groups = subst (λ (ls : List Leaf). paged_groups t ls c.args.count file ≡ Ok (map paged_view c.in_ok-paged.paged.items)) c.deref.ensures.value c.in_ok-paged.ensures;
      are_stretches = subst₂ (λ (ps : List GroupPages) (ss : List GroupStats). AreStretchesFrom 0 (map paged_view ps) ranges (map group_view ss)) c.deref-2.ensures.value (sym c.deref-3.ensures.value) c.in_ok-ranges.ensures.cut;
    } in
    let placed : length ranges ≡ length stretches = ranges_long (map paged_view c.deref-2.result.now) 0 ranges (map group_view stretches) c.in_ok-ranges.ensures.cut ∙ length-map stretches group_view in
    let long : length own ≡ length ranges = c.in_ok-own.ensures.long ∙ zones_long gs c.in_ok-scope.scope c.in_ok-map.map c.in_ok-map.ensures.made ∙ ap length c.deref-3.ensures.value ∙ sym placed in
    let is : c.in_ok-verdicts.verdicts.items ≡ by_groups groups ranges own =
    c.in_ok-verdicts.ensures ∙ ap (λ (vs : List Verdict). by_groups vs c.deref-5.result.now c.deref-6.result.now) c.deref-4.ensures.value ∙ ap (λ (rs : List PageRange). by_groups groups rs c.deref-6.result.now) c.deref-5.ensures.value
    ∙ ap (λ (vs : List Verdict). by_groups groups ranges vs) c.deref-6.ensures.value in
    let by_pages = prunes_pages c.stretches_are_true.ensures (schema_of x.condition) x.condition.condition t x.leaves.items c.args.count file ranges gs c.in_ok-map.map own
    (c.in_ok-map.ensures.made ∙ ap (λ (s : List Named). zone_map s (map zone_data gs)) (c.in_ok-scope.ensures ∙ c.scope.ensures)) c.in_ok-map.ensures.is_map c.in_ok-own.ensures.sound known in
    subst (λ (vs : List Verdict). PrunesPages (schema_of x.condition) x.condition.condition t x.leaves.items file ranges (skipped_places vs) (whole_places vs)) (sym is)
    (prunes_by_groups (schema_of x.condition) x.condition.condition t x.leaves.items c.args.count file ranges (map group_view gs) own groups known long by_pages c.in_ok-groups.ensures.sound)

pub returns-in_err-paged-clause-refused : goal.returns-in_err-paged-clause-refused
returns-in_err-paged-clause-refused c =
    let p = err_from_is_err_and c.from_residual.result c.from_residual.ensures.1 in
    let t = tail_view c.args.tail in
    let file = file_view c.args.file.now in
    let e = c.in_err-paged.field-0.0 in
    rw (p.1, p.2) (pages_faulty c.args.self.now.condition t c.args.self.now.leaves.items c.args.count file e (subst (λ (ls : List Leaf). Fails e (paged_groups t ls c.args.count file)) c.deref.ensures.value c.in_err-paged.ensures))

pub returns-in_err-groups-clause-refused : goal.returns-in_err-groups-clause-refused
returns-in_err-groups-clause-refused c =
    let p = err_from_is_err_and c.from_residual-in_err-groups.result c.from_residual-in_err-groups.ensures.1 in
    rw (p.1, p.2) (groups_faulty c.args.self.now.condition (tail_view c.args.tail) c.args.self.now.leaves.items c.args.count (file_view c.args.file.now) c.in_err-groups.field-0.0 c.in_err-groups.ensures.refused)

pub returns-in_err-map-clause-refused : goal.returns-in_err-map-clause-refused
returns-in_err-map-clause-refused c =
    let p = err_from_is_err_and c.from_residual-in_err-map.result c.from_residual-in_err-map.ensures.1 in
    let x = c.args.self.now in
    let t = tail_view c.args.tail in
    let file = file_view c.args.file.now in
    let ranges = c.in_ok-ranges.field-0.ranges.items in
    let gs = c.deref-3.result.now in
    let known : AreStretchesIn t x.leaves.items c.args.count file ranges (map group_view gs) = record {
      groups = map paged_view c.in_ok-paged.paged.items;
      are_groups = subst (λ (ls : List Leaf). paged_groups t ls c.args.count file ≡ Ok (map paged_view c.in_ok-paged.paged.items)) c.deref.ensures.value c.in_ok-paged.ensures;
      are_stretches = subst₂ (λ (ps : List GroupPages) (ss : List GroupStats). AreStretchesFrom 0 (map paged_view ps) ranges (map group_view ss)) c.deref-2.ensures.value (sym c.deref-3.ensures.value) c.in_ok-ranges.ensures.cut;
    } in
    rw (p.1, p.2) (stretches_without_map x.condition t x.leaves.items c.args.count file ranges gs c.in_ok-scope.scope c.in_err-map.field-0.0 known (c.in_ok-scope.ensures ∙ c.scope.ensures) c.in_err-map.ensures.refused)

pub returns-in_err-own-clause-refused : goal.returns-in_err-own-clause-refused
returns-in_err-own-clause-refused c =
    let p = err_from_is_err_and c.from_residual-in_err-own.result c.from_residual-in_err-own.ensures.1 in
    let x = c.args.self.now in
    let t = tail_view c.args.tail in
    let file = file_view c.args.file.now in
    let ranges = c.in_ok-ranges.field-0.ranges.items in
    let gs = c.deref-3.result.now in
    let known : AreStretchesIn t x.leaves.items c.args.count file ranges (map group_view gs) = record {
      groups = map paged_view c.in_ok-paged.paged.items;
      are_groups = subst (λ (ls : List Leaf). paged_groups t ls c.args.count file ≡ Ok (map paged_view c.in_ok-paged.paged.items)) c.deref.ensures.value c.in_ok-paged.ensures;
      are_stretches = subst₂ (λ (ps : List GroupPages) (ss : List GroupStats). AreStretchesFrom 0 (map paged_view ps) ranges (map group_view ss)) c.deref-2.ensures.value (sym c.deref-3.ensures.value) c.in_ok-ranges.ensures.cut;
    } in
    rw (p.1, p.2) (stretches_without_verdicts x.condition t x.leaves.items c.args.count file ranges gs c.in_ok-scope.scope c.in_ok-map.map c.in_err-own.field-0.0 known c.in_ok-map.ensures.made c.in_err-own.ensures.refused)
