use Rattle.std.proofs.Common.{sym, ◌∙◌}
use Rattle.vortex_syntax.proofs.PlaceLemmas.{found_at}
use Rattle.vortex_syntax.proofs.columns.Columns.type_at.Goals as goal

pub returns-in-Some : goal.returns-in-Some
returns-in-Some c =
    let there = rw c.deref.ensures.value at c.in-Some.ensures.lookup in
    let same = rw c.as_bytes.ensures.value at (sym c.eq.ensures ∙ c.if-eq.true) in
    rw c.self.view_is at (found_at c.self.inside.named.items c.args.name.now c.args.place c.in-Some.named.now c.self.invariant.distinct there.3.0 there.1 same)
