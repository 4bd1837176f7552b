use Rattle.std.proofs.Common.{◌≡◌, ◌+◌, ap, length, map, sym, take, ◌∙◌}
use Rattle.std.proofs.lemmas.Iterator.Adapters.{YieldsList-from_vec}
use Rattle.std.proofs.lemmas.Iterator.Consumers.{YieldsList-turn}
use Rattle.std.proofs.lemmas.List.{length_push}
use Rattle.vortex_zone_map.specs.ZoneMaps.{zone_column}
use Rattle.vortex_zone_map.proofs.FillLemmas.{column_fits, next_column}
use Rattle.vortex_zone_map.proofs.columns.columns_of.Goals as goal

pub new_unchecked-requires : goal.new_unchecked-requires
new_unchecked-requires c =
    let t = YieldsList-turn (YieldsList-from_vec c.args.table.items c.into_iter-cells-iterator.ensures.into_iter_gives.0 (c.into_iter-cells-iterator.ensures.into_iter_gives.1 ∙ c.args.table.ok.0)) c.loop-cells.yielded c.loop-cells.cells-iterator c.loop-cells.yielded_by c.next.result c.next.new.self c.in-Some.cells c.in-Some.is c.next.ensures.steps in
    let place : c.len.result ≡ length c.loop-cells.yielded = c.len.ensures ∙ c.loop-cells.columns.ok.0 ∙ c.loop-cells.invariant.long in
    column_fits c.args.heads.now c.args.table.items (length c.loop-cells.yielded) c.len.result c.index-heads-len.result c.in-Some.cells place t.0 t.1 c.index-heads-len.is c.requires c.dtype-dtype.result c.dtype-dtype.ensures

pub loop-cells-preserved : goal.loop-cells-preserved
loop-cells-preserved c =
    let t = YieldsList-turn (YieldsList-from_vec c.args.table.items c.into_iter-cells-iterator.ensures.into_iter_gives.0 (c.into_iter-cells-iterator.ensures.into_iter_gives.1 ∙ c.args.table.ok.0)) c.loop-cells.yielded c.loop-cells.cells-iterator c.loop-cells.yielded_by c.next.result c.next.new.self c.in-Some.cells c.in-Some.is c.next.ensures.steps in
    let place : c.len.result ≡ length c.loop-cells.yielded = c.len.ensures ∙ c.loop-cells.columns.ok.0 ∙ c.loop-cells.invariant.long in
    let more = length_push c.loop-cells.yielded c.in-Some.cells in
    record {
      long = ap length c.in_ok-push.ensures.items ∙ length_push c.loop-cells.columns.items c.new_unchecked.result ∙ ap (λ k. k + 1) c.loop-cells.invariant.long ∙ sym more;
      columns = λ zones are.
          next_column c.args.heads.now c.args.table.items (length c.loop-cells.yielded) c.len.result c.index-heads-len.result c.in-Some.cells place t.0 t.1 c.index-heads-len.is zones are
          c.new_unchecked.result c.dtype-dtype.result c.loop-cells.columns.items c.push.new.self.items c.new_unchecked.ensures c.dtype-dtype.ensures c.in_ok-push.ensures.items (c.loop-cells.invariant.columns zones are)
          ∙ ap (λ k. map (zone_column zones) (take k c.args.heads.now)) (sym more);
    }
