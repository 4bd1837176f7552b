use Rattle.std.proofs.Common.{◌≡◌, ◌≤◌, ◌+◌, ◌-◌, length, subst, sym, take, arith}
use Rattle.std.proofs.Math.Nat.{min-le_right}
use Rattle.std.proofs.lemmas.List.{length-take-le}
use Rattle.vortex_text.proofs.QueryLemmas.{reached_next, reached_query}
use Rattle.vortex_text.specs.Fitting.{IsQueryOver}
use Rattle.vortex_text.proofs.query.scan_query.Goals as goal

pub scan_more-requires-clause-query : goal.scan_more-requires-clause-query
scan_more-requires-clause-query c =
    let q = c.args.query in
    let l = c.loop-before in
    subst (λ scope. IsQueryOver scope l.left q.predicate) (sym c.in_ok-scope.ensures) (reached_query q.predicate q.parts q.scope l.before l.found l.left l.invariant c.requires)

pub loop-before-preserved : goal.loop-before-preserved
loop-before-preserved c =
    let p = c.args.query.predicate in
    let all = c.args.query.parts in
    let l = c.loop-before in
    let there : l.before + c.min-more.result ≤ length all = omega (arith, c.min-more.ensures, min-le_right c.batch_size-size.result (c.len-count.result - l.before), c.len-count.ensures, l.invariant.within) in
    let front : length (take l.before all) ≡ l.before = length-take-le l.before all l.invariant.within in
    reached_next p all l.before c.min-more.result l.found c.scan_more.new.found l.left c.scan_more.new.left there l.invariant c.in_ok-scan_more.ensures.left (c.in_ok-scan_more.ensures.found (take l.before all) front l.invariant.so_far)
