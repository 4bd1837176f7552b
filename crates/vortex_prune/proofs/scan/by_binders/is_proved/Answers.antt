use Rattle.std.proofs.Common.{[], ap, inr, refl, sym, ◌∙◌}
use Rattle.std.proofs.lemmas.Result.{IfOk-weaker}
use Rattle.vortex_base.specs.Data.Columns.{row_count}
use Rattle.vortex_expr.specs.Meanings.Meaning.{is_true, meaning}
use Rattle.vortex_prune.proofs.Binding.ProofLemmas.{closed_fits, closed_free, closed_proves, open_is_bare}
use Rattle.vortex_prune.specs.Binding.BoundTo.{Replaces}
use Rattle.vortex_prune.proofs.scan.by_binders.is_proved.Goals as goal

pub returns-then-not-is_closed-clause-faithful : goal.returns-then-not-is_closed-clause-faithful
returns-then-not-is_closed-clause-faithful g c = λ faithful.
    let n = row_count c.args.part.now.chunk.columns in
    let not_closed = sym c.is_closed.ensures ∙ c.if-not-is_closed.true in (
      open_is_bare c.args.proof.now c.in_ok-bound.bound (c.in_ok-bound.ensures.free [] n faithful) (c.in_ok-bound.ensures.fits [] n faithful) not_closed,
      (c.in_ok-bound.bound, c.in_ok-bound.ensures.bound, not_closed),
    )

pub is_true_on-requires-clause-free : goal.is_true_on-requires-clause-free
is_true_on-requires-clause-free g c = closed_free c.in_ok-bound.bound (sym c.is_closed.ensures ∙ c.if-not-is_closed.false)

pub is_true_on-requires-clause-fits : goal.is_true_on-requires-clause-fits
is_true_on-requires-clause-fits g c = closed_fits c.in_ok-bound.bound c.empty.result (sym c.is_closed.ensures ∙ c.if-not-is_closed.false) c.empty.ensures

pub returns-clause-value : goal.returns-clause-value
returns-clause-value g c =
    let n = row_count c.args.part.now.chunk.columns in
    let bound = c.in_ok-bound.bound in
    let closed = sym c.is_closed.ensures ∙ c.if-not-is_closed.false in
    let rows = c.rows-rows.ensures.value ∙ ap (λ k. row_count k.columns) c.chunk.ensures.value in
    IfOk-weaker c.is_true_on.result _ _
    (λ b told faithful.
    told ∙ ap (λ row. is_true (meaning bound row c.rows-rows.result)) c.empty.ensures ∙ ap (λ m. is_true (meaning bound [] m)) rows ∙
    closed_proves (Replaces (g.B.StatBinder.answer c.args.binder.now) (g.B.StatBinder.is_missing c.args.binder.now)) c.args.proof.now bound (g.B.StatBinder.value c.args.binder.now [] n) n
    c.in_ok-bound.ensures.bound closed (c.in_ok-bound.ensures.value [] n faithful (inr refl)))
    c.is_true_on.ensures.value
