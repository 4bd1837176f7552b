use Rattle.std.proofs.Common.{◌≡◌, ◌++◌, ◌∷◌, [], map, ap, sym, subst, ◌∙◌}
use Rattle.std.proofs.lemmas.Result.{err_from_is_err_and}
use Rattle.std.proofs.lemmas.List.{map_push}
use Rattle.vortex_parquet.specs.GroupPages.{tail_view}
use Rattle.vortex_parquet.specs.Reading.{Fails}
use Rattle.vortex_parquet.specs.Records.{row_group_view}
use Rattle.vortex_parquet.specs.Stats.{all_of}
use Rattle.vortex_parquet.proofs.Alls.{all_goes, all_fails, all_done}
use Rattle.vortex_predicates.specs.Footers.PagedGroups.{leaf_column as column_in, leaf_view}
use Rattle.vortex_predicates.proofs.parquet.paged.leaf_columns.Goals as goal

pub returns-in_err-column : goal.returns-in_err-column
returns-in_err-column c =
    let p = err_from_is_err_and c.from_residual-in_err-column.result c.from_residual-in_err-column.ensures.1 in
    let one = column_in (tail_view c.args.tail) c.args.orders.now (row_group_view c.args.group.now) in
    rw (p.1, p.2) (all_fails c.in_err-column.field-0.0 one c.args.leaves.now (map leaf_view c.loop-leaf.columns.items) c.loop-leaf.leaf-index c.leaf-item.result (all_of one c.args.leaves.now) c.loop-leaf-test.true (subst (λ l. Fails c.in_err-column.field-0.0 (one l)) c.leaf-item.is c.in_err-column.ensures) c.loop-leaf.invariant)

pub loop-leaf-preserved : goal.loop-leaf-preserved
loop-leaf-preserved c =
    let one = column_in (tail_view c.args.tail) c.args.orders.now (row_group_view c.args.group.now) in
    let e : map leaf_view c.push.new.self.items ≡ map leaf_view c.loop-leaf.columns.items ++ leaf_view c.in_ok-column.column ∷ [] = rw c.in_ok-push.ensures.items (map_push leaf_view c.loop-leaf.columns.items c.in_ok-column.column) in
    rw e (all_goes one c.args.leaves.now (map leaf_view c.loop-leaf.columns.items) c.loop-leaf.leaf-index c.leaf-item.result (leaf_view c.in_ok-column.column) (all_of one c.args.leaves.now) c.loop-leaf-test.true (ap one (sym c.leaf-item.is) ∙ c.in_ok-column.ensures) c.loop-leaf.invariant)

pub returns : goal.returns
returns c =
    let one = column_in (tail_view c.args.tail) c.args.orders.now (row_group_view c.args.group.now) in
    all_done one c.args.leaves.now (map leaf_view c.loop-leaf.columns.items) c.loop-leaf.leaf-index (all_of one c.args.leaves.now) c.loop-leaf-test.false c.loop-leaf.invariant
