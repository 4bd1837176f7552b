use Rattle.std.proofs.Common.{◌≡◌, ◌≤◌, ◌+◌, arith, length, subst, sym, vec_len}
use Rattle.vortex_capi.proofs.BatchLemmas.{IsAnswered, batch_answered, batch_long}
use Rattle.vortex_capi.proofs.CellLemmas.{zones_there}
use Rattle.vortex_capi.proofs.batches.batches_answers.Goals as goal

pub answers-requires-clause-batch : goal.answers-requires-clause-batch
answers-requires-clause-batch c =
    let within : c.len-from.result + c.next_count-count.result ≤ length c.args.rows.now = omega (arith, c.next_count-count.ensures.within, c.batches-test.true, c.len-from.ensures, c.batches.invariant.within) in
    record {
      within = within;
      there = zones_there c.args.scope.now c.args.sources.now c.args.rows.now c.requires.typed c.requires.read c.len-from.result c.next_count-count.result within;
    }

-- how many zones are answered after a batch
pub batches-smaller : goal.batches-smaller
batches-smaller c =
    let from = c.len-from.result in
    let n = c.next_count-count.result in
    let within : from + n ≤ length c.args.rows.now = omega (arith, c.next_count-count.ensures.within, c.batches-test.true, c.len-from.ensures, c.batches.invariant.within) in
    let batch = zones_there c.args.scope.now c.args.sources.now c.args.rows.now c.requires.typed c.requires.read from n within in
    let long = batch_long c.args.proofs.now.falsifier c.args.proofs.now.satisfier c.args.scope.now c.args.sources.now c.args.rows.now from n c.in_ok-more.more.items batch (c.in_ok-more.ensures batch.zones batch.found) in
    omega (arith, long, c.in_ok-more.more.ok.0, c.in-Ok.ensures.len, c.next_count-count.ensures.some, within, c.len-from.ensures)

pub batches-preserved : goal.batches-preserved
batches-preserved c =
    let scope = c.args.scope.now in
    let sources = c.args.sources.now in
    let rows = c.args.rows.now in
    let f = c.args.proofs.now.falsifier in
    let s = c.args.proofs.now.satisfier in
    let from = c.len-from.result in
    let n = c.next_count-count.result in
    let within : from + n ≤ length rows = omega (arith, c.next_count-count.ensures.within, c.batches-test.true, c.len-from.ensures, c.batches.invariant.within) in
    let batch = zones_there scope sources rows c.requires.typed c.requires.read from n within in
    let told = c.in_ok-more.ensures batch.zones batch.found in
    let long = batch_long f s scope sources rows from n c.in_ok-more.more.items batch told in
    let end : from + n ≡ vec_len c.append.new.self = omega (arith, long, c.in_ok-more.more.ok.0, c.in-Ok.ensures.len, c.len-from.ensures) in
    let before = subst (λ k. IsAnswered f s scope sources rows k c.batches.answers.items) (sym c.len-from.ensures) c.batches.invariant.answered in
    record {
      within = omega (arith, end, within);
      answered = subst (λ k. IsAnswered f s scope sources rows k c.append.new.self.items) end
          (batch_answered f s scope sources rows from n c.batches.answers.items c.in_ok-more.more.items c.append.new.self.items batch c.in-Ok.ensures.items told before);
    }
