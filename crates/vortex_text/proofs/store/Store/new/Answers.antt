use Rattle.vortex_text.proofs.StoreSteps.{new_is_store, new_view}
use Rattle.vortex_text.proofs.store.Store.new.Goals as goal

pub invariant_of-result : goal.invariant_of-result
invariant_of-result c = new_is_store c.in_ok-scope.scope c.in_ok-empty.empty.items c.new-log.result c.args.columns.now c.in_ok-scope.ensures c.in_ok-empty.ensures c.new-log.ensures

pub returns : goal.returns
returns c = new_view c.in_ok-scope.scope c.in_ok-empty.empty.items c.new-log.result c.args.columns.now c.in_ok-scope.ensures c.in_ok-empty.ensures c.new-log.ensures
