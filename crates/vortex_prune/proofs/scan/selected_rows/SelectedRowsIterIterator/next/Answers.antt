use Rattle.std.proofs.Common.{ap, arith, length, sym, ◌∙◌}
use Rattle.std.proofs.lemmas.Option.{slice_get_within}
use Rattle.vortex_prune.proofs.Scanning.SelectedRowLemmas.{left_next, none_left}
use Rattle.vortex_prune.proofs.scan.selected_rows.SelectedRowsIterIterator.next.Goals as goal

pub returns-in_err-row-clause-steps : goal.returns-in_err-row-clause-steps
returns-in_err-row-clause-steps c =
    let gone = sym c.self.view_is ∙ none_left c.self.inside.rows.now c.self.inside.next (sym c.in_err-row.was ∙ c.get.ensures) in
    rw c.from_residual.ensures (gone, gone)

pub overflow_add-self : goal.overflow_add-self
overflow_add-self c =
    let within = slice_get_within c.self.inside.rows.now c.self.inside.next c.in_ok-row.row (sym c.in_ok-row.ensures) in
    omega (arith, within, c.len-len.ensures)

pub invariant_of-self : goal.invariant_of-self
invariant_of-self c =
    let within = slice_get_within c.self.inside.rows.now c.self.inside.next c.in_ok-row.row (sym c.in_ok-row.ensures) in
    omega (arith, within)

pub returns-clause-steps : goal.returns-clause-steps
returns-clause-steps c =
    sym c.self.view_is ∙ left_next c.self.inside.rows.now c.self.inside.next c.in_ok-row.row c.in_ok-row.ensures

pub returns-clause-goes : goal.returns-clause-goes
returns-clause-goes c =
    let shorter = ap length (returns-clause-steps c) in record { on = λ _. (tt, tt, omega (arith, shorter)); keeps = tt; rests = λ _. tt }
