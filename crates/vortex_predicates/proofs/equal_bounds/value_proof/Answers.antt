use Rattle.vortex_predicates.proofs.EqualBounds.{least_matched}
use Rattle.vortex_predicates.specs.EqualBounds.{opposite}
use Rattle.vortex_predicates.proofs.equal_bounds.value_proof.Goals as goal

pub both-requires-clause-second : goal.both-requires-clause-second
both-requires-clause-second c = least_matched c.args.options (opposite c.args.options) c.args.text.now c.args.pattern.now c.in_ok-differs.differs c.in_ok-differs.ensures c.requires
