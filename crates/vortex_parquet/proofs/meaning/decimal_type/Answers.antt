use Rattle.vortex_parquet.proofs.DecimalTypes.{made_of, too_long, too_many_behind}
use Rattle.vortex_parquet.proofs.meaning.decimal_type.Goals as goal
use Rattle.vortex_parquet.proofs.meaning.decimal_type.Goals.{then-precision-gt38-via-then-precision-gt38, then-precision-gt38-via-else-precision-gt38+then-scale-gt38}

pub returns-then-precision-gt38 : goal.returns-then-precision-gt38
returns-then-precision-gt38 c =
    elim c.then-precision-gt38.branch [ then-precision-gt38-via-then-precision-gt38 w ↦ too_long c.args.precision c.args.scale w.if-precision-gt38.true | then-precision-gt38-via-else-precision-gt38+then-scale-gt38 w ↦ too_many_behind c.args.precision c.args.scale w.if-scale-gt38.true ]

pub returns : goal.returns
returns c = made_of c.args.precision c.args.scale c.try_new.result c.try_new.ensures.made c.try_new.ensures.precision c.try_new.ensures.scale
