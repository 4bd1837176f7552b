use Rattle.std.proofs.Common.{◌≡◌, ◌+◌, ◌++◌, ◌∙◌, List, ap, arith, map, subst₂, sym}
use Rattle.std.proofs.lemmas.List.{map-append}
use Rattle.vortex_parquet.specs.Stats.{GroupData, group_view}
use Rattle.vortex_parquet.specs.declared.stats.GroupStats.{GroupStats}
use Rattle.vortex_predicates.specs.Footers.PagedGroups.{leaf_view, ranges_from, rows_in}
use Rattle.vortex_predicates.specs.declared.parquet.page_ranges.PageRange.{PageRange}
use Rattle.vortex_predicates.proofs.Footers.RangeLoops.{AreCutTo, all_rows, cut_ends, cut_goes, follows_at}
use Rattle.vortex_predicates.proofs.parquet.page_ranges.cut_groups.Goals as goal

pub stretches_in-requires : goal.stretches_in-requires
stretches_in-requires c = follows_at c.args.groups.now c.loop-place.place c.index-groups-place.result c.loop-place-test.true c.index-groups-place.is c.requires

pub push_ranges-requires : goal.push_ranges-requires
push_ranges-requires c =
    let g = c.index-groups-place.result in
    let e : rows_in (map group_view c.in_ok-found.found.items) ≡ g.rows = omega (arith, all_rows (map leaf_view g.columns.items) g.rows 0 g.rows (map group_view c.in_ok-found.found.items) c.in_ok-found.ensures.cut) in
    ap (λ (ss : List GroupStats). rows_in (map group_view ss)) c.deref.ensures.value ∙ e

pub loop-place-preserved : goal.loop-place-preserved
loop-place-preserved c =
    let found = map group_view c.in_ok-found.found.items in
    let ranges : c.loop-place.ranges.items ++ ranges_from c.loop-place.place 0 found ≡ c.push_ranges.new.ranges.items =
    sym (c.in_ok-push_ranges.ensures ∙ ap (λ (ss : List GroupStats). c.loop-place.ranges.items ++ ranges_from c.loop-place.place 0 (map group_view ss)) c.deref.ensures.value) in
    let known : map group_view c.loop-place.stretches.items ++ found ≡ map group_view c.append.new.self.items =
    sym (ap (map group_view) c.in_ok-append.ensures.items ∙ map-append group_view c.loop-place.stretches.items c.in_ok-found.found.items) in
    subst₂ (λ (rs : List PageRange) (ks : List GroupData). AreCutTo c.args.groups.now (c.loop-place.place + 1) rs ks) ranges known
    (cut_goes c.args.groups.now c.loop-place.ranges.items (map group_view c.loop-place.stretches.items) found c.loop-place.place c.index-groups-place.result c.loop-place-test.true c.index-groups-place.is c.in_ok-found.ensures.cut c.loop-place.invariant)

pub returns-clause-cut : goal.returns-clause-cut
returns-clause-cut c = cut_ends c.args.groups.now c.loop-place.ranges.items (map group_view c.loop-place.stretches.items) c.loop-place.place c.loop-place-test.false c.loop-place.invariant
