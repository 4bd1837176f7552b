use Rattle.std.proofs.Common.{Ok, ap, sym, ◌∙◌}
use Rattle.vortex_capi.specs.Values.{read_of}
use Rattle.vortex_capi.proofs.ExtentLemmas.{lent_null, lent_value}
use Rattle.vortex_capi.proofs.values.Values.nulls_and_lent.Goals as goal
use Rattle.vortex_capi.proofs.values.Values.nulls_and_lent.Goals.{then-null+else-not-is_nullable, else-null+in-Ok-bytes_at+in_ok-lent_of}

pub loop-row-preserved : goal.loop-row-preserved
loop-row-preserved c =
    let v = c.args.self.now in
    let l = c.loop-row in
    let t = c.args.dtype in
    elim c.if-null.branch [
      | then-null+else-not-is_nullable w ↦
          rw (w.nulls-is, w.range-is)
          (lent_null t v c.requires l.row l.nulls l.range l.invariant (ap (λ b. Ok b) (sym w.if-null.true) ∙ c.in-Ok.ensures) (sym w.is_nullable.ensures ∙ w.if-not-is_nullable.false))
      | else-null+in-Ok-bytes_at+in_ok-lent_of w ↦
          rw (w.nulls-is, w.range-is)
          (lent_value t v c.requires l.row l.nulls l.range w.with_lent.result w.in_ok-lent_of.field-0 l.invariant (ap (λ b. Ok b) (sym w.if-null.false) ∙ c.in-Ok.ensures)
          (ap (read_of t) (rw (c.given-given.ensures.values, c.given-given.ensures.start, c.given-given.ensures.ends) at w.in-Ok-bytes_at.ensures) ∙ w.in_ok-lent_of.ensures.read) w.in_ok-lent_of.ensures.fits w.with_lent.ensures)
    ]
