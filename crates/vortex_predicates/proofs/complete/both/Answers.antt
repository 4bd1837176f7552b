use Rattle.std.proofs.Common.{subst}
use Rattle.vortex_base.specs.Data.Exact.{both_hold}
use Rattle.vortex_predicates.proofs.Indexes.{has_both}
use Rattle.vortex_predicates.specs.Complete.{AreIndexesIf}
use Rattle.vortex_predicates.proofs.complete.both.Goals as goal

pub returns : goal.returns
returns c d e cs ds first second =
    let a = subst (AreIndexesIf d cs) c.in-Some.is first in
    let b = subst (AreIndexesIf e ds) c.in-Some-second.is second in
    (both_hold d e a.0 b.0, has_both cs ds c.in-Some.first c.in-Some-second.second c.in_ok-joined.field-0 a.1 b.1 c.in_ok-joined.ensures)
