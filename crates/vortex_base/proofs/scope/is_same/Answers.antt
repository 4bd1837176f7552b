use Rattle.std.proofs.Common.{sym, ◌∙◌}
use Rattle.vortex_base.specs.Data.Scopes.{named, named_eq}
use Rattle.std.specs.Cmp.Derive.Mapped.{pointwise-map}
use Rattle.vortex_base.proofs.scope.is_same.Goals as goal

pub returns : goal.returns
returns c = c.eq.ensures ∙ sym (pointwise-map named named_eq c.args.left.now c.args.right.now)
