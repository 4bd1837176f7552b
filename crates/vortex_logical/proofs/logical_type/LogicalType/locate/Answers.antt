use Rattle.std.proofs.Common.{subst}
use Rattle.vortex_logical.specs.declared.exact.Step.{Step}
use Rattle.vortex_logical.specs.Points.{IsPlace}
use Rattle.vortex_logical.proofs.Columns.{short_cell}
use Rattle.vortex_logical.proofs.logical_type.LogicalType.locate.Goals as goal

pub returns : goal.returns
returns c = λ n h.
    let P : Step → Type 0 = λ s. IsPlace s c.args.number c.place.result in
    let placed = subst P c.step.ensures.value c.place.ensures.placed in
    placed n (short_cell c.args.self n h)
