use Rattle.std.proofs.lemmas.Result.{err_from_is_err_and}
use Rattle.vortex_parquet.specs.Fields.{many}
use Rattle.vortex_parquet.specs.PageIndex.{location_of}
use Rattle.vortex_parquet.proofs.Loops.{many_goes, many_fails, many_done}
use Rattle.vortex_parquet.proofs.offset_index.locations_of.Goals as goal

pub returns-in_err-location : goal.returns-in_err-location
returns-in_err-location c =
    let p = err_from_is_err_and c.from_residual.result c.from_residual.ensures.1 in
    rw (p.1, p.2) (many_fails c.in_err-location.field-0.0 location_of c.loop.locations.items c.args.count c.loop.counter c.loop.rest.now (many location_of c.args.count c.args.bytes.now) c.loop-test.true c.in_err-location.ensures c.loop.invariant)

pub loop-preserved : goal.loop-preserved
loop-preserved c =
    rw c.in_ok-push.ensures.items (many_goes location_of c.loop.locations.items c.args.count c.loop.counter c.loop.rest.now c.in_ok-location.location c.in_ok-location.after.now (many location_of c.args.count c.args.bytes.now) c.loop-test.true c.in_ok-location.ensures c.loop.invariant)

pub returns : goal.returns
returns c = many_done location_of c.loop.locations.items c.args.count c.loop.counter c.loop.rest.now (many location_of c.args.count c.args.bytes.now) c.loop-test.false c.loop.invariant
