use Rattle.std.proofs.Common.{◌≡◌, ◌++◌, ◌∷◌, [], map}
use Rattle.std.proofs.lemmas.Result.{err_from_is_err_and}
use Rattle.std.proofs.lemmas.List.{map_push}
use Rattle.vortex_parquet.specs.Fields.{many}
use Rattle.vortex_parquet.specs.Records.{element_of, element_view}
use Rattle.vortex_parquet.proofs.Loops.{many_goes, many_fails, many_done}
use Rattle.vortex_parquet.proofs.records.elements_of.Goals as goal

pub returns-in_err-element : goal.returns-in_err-element
returns-in_err-element c =
    let p = err_from_is_err_and c.from_residual.result c.from_residual.ensures.1 in
    rw (p.1, p.2) (many_fails c.in_err-element.field-0.0 element_of (map element_view c.loop.elements.items) c.args.count c.loop.counter c.loop.rest.now (many element_of c.args.count c.args.bytes.now) c.loop-test.true c.in_err-element.ensures c.loop.invariant)

pub loop-preserved : goal.loop-preserved
loop-preserved c =
    let e : map element_view c.push.new.self.items ≡ map element_view c.loop.elements.items ++ element_view c.in_ok-element.element ∷ [] = rw c.in_ok-push.ensures.items (map_push element_view c.loop.elements.items c.in_ok-element.element) in
    rw e (many_goes element_of (map element_view c.loop.elements.items) c.args.count c.loop.counter c.loop.rest.now (element_view c.in_ok-element.element) c.in_ok-element.after.now (many element_of c.args.count c.args.bytes.now) c.loop-test.true c.in_ok-element.ensures c.loop.invariant)

pub returns : goal.returns
returns c = many_done element_of (map element_view c.loop.elements.items) c.args.count c.loop.counter c.loop.rest.now (many element_of c.args.count c.args.bytes.now) c.loop-test.false c.loop.invariant
