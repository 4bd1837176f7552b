use Rattle.std.proofs.Common.{◌≡◌, rules, sym, ◌∙◌}
use Rattle.std.proofs.Math.Facts.{to_z-of_z}
use borrow.Author.Differences.{ints}
use mir.Syntax.{w64}
use mir.Val.{of_z, to_z}
use Rattle.vortex_syntax.proofs.PlainLemmas.{cell_begins}
use Rattle.vortex_syntax.proofs.plain.whole_cell.Goals as goal

pub returns-in_ok-signed_cell-clause-whole : goal.returns-in_ok-signed_cell-clause-whole
returns-in_ok-signed_cell-clause-whole c =
    let text = c.args.text.now in
    let rest = c.in_ok-number.rest.now in
    let same : to_z w64 (of_z w64 c.in_ok-number.number) ≡ c.in_ok-number.number = search (rules, ints, to_z-of_z) in
    cell_begins c.args.ptype text rest c.in_ok-number.number c.in_ok-signed_cell.field-0 (sym c.is_signed.ensures ∙ c.if-is_signed.true) c.in_ok-number.ensures.digits (rw same at c.in_ok-signed_cell.ensures)
