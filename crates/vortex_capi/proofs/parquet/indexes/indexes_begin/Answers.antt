use Rattle.std.proofs.Common.{subst}
use Rattle.vortex_capi.proofs.ParquetCalls.IndexTold.{begin_told, begin_untold}
use Rattle.vortex_capi.specs.Prunes.{IsToldAs}
use Rattle.vortex_capi.specs.declared.fault.Refusal.{Refusal}
use Rattle.vortex_capi.proofs.parquet.indexes.indexes_begin.Goals as goal

pub returns-in-Ok : goal.returns-in-Ok
returns-in-Ok c = begin_told c.args.footer.now c.in-Ok.found c.args.begin.now _ c.args.fault.now c.in-Ok.ensures.begin c.unwrap_or.ensures

pub returns-in-Err : goal.returns-in-Err
returns-in-Err c =
    begin_untold c.args.footer.now c.in-Err.error c.args.begin.now c.tell.result c.args.fault.now c.tell.new.fault (subst (λ (r : Refusal). IsToldAs r c.tell.result c.tell.new.fault) c.of_read.ensures c.tell.ensures) c.in-Err.ensures.refused
