use Rattle.std.proofs.Common.{subst}
use Rattle.vortex_capi.proofs.ParquetCalls.Refusing.{length_refused}
use Rattle.vortex_capi.specs.Prunes.{IsToldAs}
use Rattle.vortex_capi.specs.declared.fault.Refusal.{Refusal}
use Rattle.vortex_capi.proofs.parquet.tail.footer_length.Goals as goal

pub returns-in-Err : goal.returns-in-Err
returns-in-Err c =
    length_refused c.in-Err.refused c.args.tail.now c.args.length.now c.tell.result c.args.fault.now c.tell.new.fault (subst (λ (r : Refusal). IsToldAs r c.tell.result c.tell.new.fault) c.of_read.ensures c.tell.ensures) c.in-Err.ensures
