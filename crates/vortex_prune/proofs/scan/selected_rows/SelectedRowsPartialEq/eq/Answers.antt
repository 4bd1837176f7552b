use Rattle.std.proofs.Common.{arith, refl, sym, ◌≡◌, ◌∙◌, length}
use Rattle.vortex_prune.specs.Scanning.SelectedRows.{row_eq, rows_eq_is_exact}
use Rattle.vortex_prune.proofs.Scanning.SelectedRowLemmas.{differ_at, same_at_end, same_past}
use Rattle.vortex_prune.proofs.scan.selected_rows.SelectedRowsPartialEq.eq.Goals as goal

pub returns-then-ne-clause-value : goal.returns-then-ne-clause-value
returns-then-ne-clause-value c =
    let long : length c.args.self.now ≡ length c.args.other.now = sym c.len.ensures ∙ c.if-len.false ∙ c.len-2.ensures in
    let differs = rw (c.get.ensures, c.get-in-loop-i.ensures) at c.if-ne.ensures in
    differ_at row_eq c.args.self.now c.args.other.now c.loop-i.i (omega (arith, c.loop-i-test.true, c.len-i-end.ensures)) long _ c.loop-i.invariant differs

pub loop-i-preserved : goal.loop-i-preserved
loop-i-preserved c =
    let long : length c.args.self.now ≡ length c.args.other.now = sym c.len.ensures ∙ c.if-len.false ∙ c.len-2.ensures in
    let same = rw (c.get.ensures, c.get-in-loop-i.ensures) at c.if-ne.ensures in
    same_past row_eq c.args.self.now c.args.other.now c.loop-i.i (omega (arith, c.loop-i-test.true, c.len-i-end.ensures)) long _ c.loop-i.invariant same

pub returns-clause-value : goal.returns-clause-value
returns-clause-value c =
    let long : length c.args.self.now ≡ length c.args.other.now = sym c.len.ensures ∙ c.if-len.false ∙ c.len-2.ensures in
    sym (c.loop-i.invariant ∙ same_at_end row_eq c.args.self.now c.args.other.now c.loop-i.i (omega (arith, c.loop-i-test.false, c.len-i-end.ensures)) long)

pub returns-clause-same : goal.returns-clause-same
returns-clause-same c = (λ _. (rows_eq_is_exact c.args.self.now c.args.other.now).0 (sym (returns-clause-value c)), λ _. refl)
