use Rattle.std.proofs.lemmas.Bool.{le-leb}
use Rattle.vortex_parquet.proofs.DecimalTypes.{made_of}
use Rattle.vortex_capi.proofs.logical.decimal_of.Goals as goal

pub returns : goal.returns
returns c =
    rw (le-leb c.args.precision 18 c.if-precision-gt18.false) (made_of c.args.precision c.args.scale c.try_new.result c.try_new.ensures.made c.try_new.ensures.precision c.try_new.ensures.scale)
