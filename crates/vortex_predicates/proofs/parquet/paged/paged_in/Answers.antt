use Rattle.std.proofs.Common.{◌≡◌, ◌++◌, ◌∷◌, [], map}
use Rattle.std.proofs.lemmas.Result.{err_from_is_err_and}
use Rattle.std.proofs.lemmas.List.{map_push}
use Rattle.vortex_parquet.specs.Fields.{many}
use Rattle.vortex_parquet.specs.GroupPages.{tail_view}
use Rattle.vortex_parquet.specs.Records.{row_group_view}
use Rattle.vortex_parquet.proofs.Loops.{many_goes, many_fails, many_done}
use Rattle.vortex_predicates.specs.Footers.PagedGroups.{paged_at as paged_at_of, paged_view}
use Rattle.vortex_predicates.proofs.Footers.PageGroups.{is_paged, no_row_group, not_paged}
use Rattle.vortex_predicates.proofs.parquet.paged.paged_in.Goals as goal

pub returns-in_err-group : goal.returns-in_err-group
returns-in_err-group c =
    let p = err_from_is_err_and c.from_residual.result c.from_residual.ensures.1 in
    let t = tail_view c.args.tail in
    let one = paged_at_of t c.args.leaves.now c.args.columns c.args.orders.now in
    rw (p.1, p.2) (many_fails c.in_err-group.field-0.0 one (map paged_view c.loop.paged.items) c.args.count c.loop.counter c.loop.rest.now (many one c.args.count c.args.bytes.now) c.loop-test.true (no_row_group c.in_err-group.field-0.0 t c.args.leaves.now c.args.columns c.args.orders.now c.loop.rest.now c.in_err-group.ensures) c.loop.invariant)

pub returns-in_err-found : goal.returns-in_err-found
returns-in_err-found c =
    let p = err_from_is_err_and c.from_residual-in_err-found.result c.from_residual-in_err-found.ensures.1 in
    let t = tail_view c.args.tail in
    let one = paged_at_of t c.args.leaves.now c.args.columns c.args.orders.now in
    rw (p.1, p.2) (many_fails c.in_err-found.field-0.0 one (map paged_view c.loop.paged.items) c.args.count c.loop.counter c.loop.rest.now (many one c.args.count c.args.bytes.now) c.loop-test.true (not_paged c.in_err-found.field-0.0 t c.args.leaves.now c.args.columns c.args.orders.now c.loop.rest.now (row_group_view c.in_ok-group.group) c.in_ok-group.after.now c.in_ok-group.ensures c.in_err-found.ensures) c.loop.invariant)

pub loop-preserved : goal.loop-preserved
loop-preserved c =
    let t = tail_view c.args.tail in
    let one = paged_at_of t c.args.leaves.now c.args.columns c.args.orders.now in
    let e : map paged_view c.push.new.self.items ≡ map paged_view c.loop.paged.items ++ paged_view c.in_ok-found.found ∷ [] = rw c.in_ok-push.ensures.items (map_push paged_view c.loop.paged.items c.in_ok-found.found) in
    rw e (many_goes one (map paged_view c.loop.paged.items) c.args.count c.loop.counter c.loop.rest.now (paged_view c.in_ok-found.found) c.in_ok-group.after.now (many one c.args.count c.args.bytes.now) c.loop-test.true (is_paged t c.args.leaves.now c.args.columns c.args.orders.now c.loop.rest.now (row_group_view c.in_ok-group.group) c.in_ok-group.after.now (paged_view c.in_ok-found.found) c.in_ok-group.ensures c.in_ok-found.ensures) c.loop.invariant)

pub returns : goal.returns
returns c =
    let one = paged_at_of (tail_view c.args.tail) c.args.leaves.now c.args.columns c.args.orders.now in
    many_done one (map paged_view c.loop.paged.items) c.args.count c.loop.counter c.loop.rest.now (many one c.args.count c.args.bytes.now) c.loop-test.false c.loop.invariant
