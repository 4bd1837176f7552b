use Rattle.std.proofs.Common.{◌&&◌, not, sym, ap, ◌∙◌}
use Rattle.vortex_capi.specs.Types.{number_width}
use Rattle.vortex_capi.proofs.ExtentLemmas.{IsRead, row_read}
use Rattle.vortex_capi.proofs.values.Values.nulls_and_range.Goals as goal

pub loop-row-preserved : goal.loop-row-preserved
loop-row-preserved g c =
    let v = c.args.self.now in
    let l = c.loop-row in
    let read : IsRead g.N.Number.pvalue g.N.Number.PTYPE v.values.now v.nulls.now l.row c.in-Ok.null c.in_ok-number.number = record {
      width = c.number_width.result;
      bytes = c.in_ok-fixed.field-0.now;
      of_type = c.number_width.ensures ∙ ap number_width c.PTYPE-in-loop-row.ensures;
      there = c.in_ok-fixed.ensures;
      made = c.in_ok-number.ensures.read;
      fits = c.in_ok-number.ensures.fits;
      told = c.in-Ok.ensures;
    } in
    rw c.from.ensures
    (row_read g.N.Number.pvalue g.N.Number.PTYPE c.args.nullability v.values.now v.start v.ends.now v.nulls.now l.row l.nulls l.range c.in-Ok.null c.in_ok-number.number c.with_row-range.result l.invariant read
    (ap (λ b. c.in-Ok.null && not b) (sym c.is_nullable-nullable.ensures) ∙ c.if-null-nullable.false) c.with_row-range.ensures.null c.with_row-range.ensures.value)
