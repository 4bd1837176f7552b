use Rattle.std.proofs.Common.{◌≡◌}
use Rattle.vortex_base.specs.Data.Scopes.{scope_eq, scope_eq_is_exact}
use Rattle.vortex_base.proofs.scope.ScopePartialEq.eq.Goals as goal

pub returns-clause-same : goal.returns-clause-same
returns-clause-same c =
    let told : c.is_same.result ≡ scope_eq c.args.self.now c.args.other.now = rw (c.columns.ensures, c.columns-2.ensures, c.self.view_is, c.other.view_is) at c.is_same.ensures in
    rw told (scope_eq_is_exact c.args.self.now c.args.other.now)
