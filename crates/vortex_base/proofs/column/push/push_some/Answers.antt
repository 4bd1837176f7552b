-- The next value fits its column.
use Rattle.std.proofs.Common.{ap, ◌∙◌}
use Rattle.vortex_base.proofs.Data.PushLemmas.{cut_more, cut_whole, next_fits, next_long, row_more}
use Rattle.vortex_base.specs.Data.Columns.{row_fits, with_row}
use Rattle.vortex_base.proofs.column.push.push_some.Goals as goal

pub loop-value-init : goal.loop-value-init
loop-value-init c =
    let g = c.into_iter-value-iterator.ensures.into_iter_gives in record {
      row = ap (λ vs. with_row c.args.columns.now vs) g.0;
      fits = ap (λ vs. row_fits c.args.columns.now vs) g.0 ∙ c.requires;
      cut = λ n long. cut_whole n c.args.columns.now long;
      long = λ n long. long;
    }

pub push-requires : goal.push-requires
push-requires c =
    (next_fits c.loop-value.columns c.loop-value.place c.index-columns-place.result c.index-columns-place.result c.in-Some.value c.next.new.self.rest.items _ c.in-Some.ensures.steps.0 c.loop-value.invariant.fits).1

pub loop-value-preserved : goal.loop-value-preserved
loop-value-preserved c =
    let columns = c.loop-value.columns in
    let i = c.loop-value.place in
    let d = c.index-columns-place.result in
    let steps = c.in-Some.ensures.steps.0 in
    let next = next_fits columns i c.push.new.self d c.in-Some.value c.next.new.self.rest.items _ steps c.loop-value.invariant.fits in
    let pushed = c.in_ok-push.ensures.pushed in
    record {
      row = row_more columns _ i c.push.new.self d c.in-Some.value c.next.new.self.rest.items _ next.0 steps pushed c.loop-value.invariant.row;
      fits = next.2;
      cut = λ n long. cut_more columns c.args.columns.now i n c.push.new.self d c.in-Some.value next.0 (next_long columns i n c.push.new.self d next.0 (c.loop-value.invariant.long n long)).0 pushed (c.loop-value.invariant.cut n long);
      long = λ n long. (next_long columns i n c.push.new.self d next.0 (c.loop-value.invariant.long n long)).1;
    }
