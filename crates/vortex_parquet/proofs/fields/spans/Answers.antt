use Rattle.std.proofs.Common.{◌≡◌, ◌++◌, ◌∷◌, [], map}
use Rattle.std.proofs.lemmas.Result.{err_from_is_err_and}
use Rattle.std.proofs.lemmas.List.{map_push}
use Rattle.vortex_parquet.specs.Fields.{spans_in}
use Rattle.vortex_parquet.proofs.Loops.{spans_goes, spans_fails, spans_done}
use Rattle.vortex_parquet.proofs.fields.spans.Goals as goal

pub returns-in_err-rest : goal.returns-in_err-rest
returns-in_err-rest c =
    let p = err_from_is_err_and c.from_residual-in_err-rest.result c.from_residual-in_err-rest.ensures.1 in
    rw (p.1, p.2) (spans_fails c.in_err-rest.field-0.0 (map (λ s. s.now) c.loop.spans.items) c.args.count c.loop.counter c.loop.rest.now (spans_in c.args.count c.args.bytes.now) c.loop-test.true c.in_err-rest.ensures c.loop.invariant)

pub loop-preserved : goal.loop-preserved
loop-preserved c =
    let e : map (λ s. s.now) c.push.new.self.items ≡ map (λ s. s.now) c.loop.spans.items ++ c.loop.rest.now ∷ [] = rw c.in_ok-push.ensures.items (map_push (λ s. s.now) c.loop.spans.items c.loop.rest) in
    rw e (spans_goes (map (λ s. s.now) c.loop.spans.items) c.args.count c.loop.counter c.loop.rest.now c.in_ok-rest.rest.now (spans_in c.args.count c.args.bytes.now) c.loop-test.true c.in_ok-rest.ensures c.loop.invariant)

pub returns : goal.returns
returns c = spans_done (map (λ s. s.now) c.loop.spans.items) c.args.count c.loop.counter c.loop.rest.now (spans_in c.args.count c.args.bytes.now) c.loop-test.false c.loop.invariant
