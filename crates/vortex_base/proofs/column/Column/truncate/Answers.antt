use Rattle.std.proofs.Common.{ap, ◌∙◌}
use Rattle.vortex_base.proofs.Data.PushLemmas.{first_fit}
use Rattle.vortex_base.specs.Data.Columns.{all_fit}
use Rattle.vortex_base.proofs.column.Column.truncate.Goals as goal

-- the first of values that fit
pub invariant_of-self : goal.invariant_of-self
invariant_of-self c = ap (all_fit c.self.inside.dtype) c.truncate.ensures ∙ first_fit c.self.inside.dtype c.args.len _ c.self.invariant
