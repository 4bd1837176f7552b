use Rattle.std.proofs.Common.{◌≡◌, Err, Ok, ap, false, if◌then◌else◌, length, slice_get, sym, ◌∙◌}
use Rattle.vortex_capi.specs.Merges.{filled_at, fills_or}
use Rattle.vortex_capi.specs.Statuses.{in_column}
use Rattle.vortex_capi.specs.declared.status.Status.TheVariants.{BadLength}
use Rattle.vortex_capi.proofs.ReadLemmas.{steps_stop}
use Rattle.vortex_capi.proofs.merge.filled.Goals as goal

pub returns-then-not-fills_at : goal.returns-then-not-fills_at
returns-then-not-fills_at c =
    let refusal = in_column 0 c.args.side BadLength c.loop-entry.entry in
    let other : fills_or c.args.dtype c.args.zones (slice_get c.args.table.now c.loop-entry.entry) ≡ false = sym c.fills_at.ensures ∙ c.if-not-fills_at.true in
    ap Err c.in_column.ensures
    ∙ sym (steps_stop (filled_at c.args.side c.args.dtype c.args.zones c.args.table.now) tt c.loop-entry.entry (length c.args.table.now) tt refusal c.loop-entry.invariant (ap (λ b. if b then Ok tt else Err refusal) other) c.loop-entry-test.true)
