use Rattle.std.proofs.Common.{◌≡◌}
use Rattle.std.specs.Prelude.{false, IsTrue}
use Rattle.vortex_expr.specs.Meanings.Fitting.{fits_row}
use Rattle.vortex_expr.specs.Meanings.Meaning.{meaning}
use Rattle.vortex_expr.specs.Trees.Tree.{has_bare_column, has_placeholder}
use Rattle.vortex_expr.specs.Meanings.Typing.{type_of}
use Rattle.vortex_prune.specs.Binding.BoundTo.{HasNoColumnOn, IsBinding, Replaces, WhereFaithful}
use Rattle.vortex_rewrite.specs.Rewriting.Proof.{value_under}
use Rattle.vortex_prune.proofs.Binding.BoundValues.{bound-fits, bound-free, bound-value, has_a_type, not_wrong_type}
use Rattle.vortex_prune.proofs.bind.bind_stats_of.Goals as goal
use Rattle.vortex_rewrite.proofs.Logic.{ok-weaker}

pub returns-clause-free : goal.returns-clause-free
returns-clause-free g c =
    let b = c.args.binder.now in
    let answer = g.B.StatBinder.answer b in
    let missing = g.B.StatBinder.is_missing b in
    let e = c.args.e.now in
    ok-weaker (IsBinding (Replaces answer missing) e) (λ r. WhereFaithful (g.B.StatBinder.is_faithful_over b) (λ row n. has_placeholder r ≡ false)) c.bound_stats.result
    (λ r h row n f. bound-free answer missing (g.B.StatBinder.value b row n) row n (g.B.StatBinder.is_faithful b row n f) e r (has_a_type (type_of e) c.dtype-typed.result c.dtype-typed.ensures) h)
    c.bound_stats.ensures.bound

pub returns-clause-fits : goal.returns-clause-fits
returns-clause-fits g c =
    let b = c.args.binder.now in
    let answer = g.B.StatBinder.answer b in
    let missing = g.B.StatBinder.is_missing b in
    let e = c.args.e.now in
    ok-weaker (IsBinding (Replaces answer missing) e) (λ r. WhereFaithful (g.B.StatBinder.is_faithful_over b) (λ row n. has_bare_column e ≡ false → IsTrue (fits_row r row))) c.bound_stats.result
    (λ r h row n f k. bound-fits answer missing (g.B.StatBinder.value b row n) row n (g.B.StatBinder.is_faithful b row n f) e r (has_a_type (type_of e) c.dtype-typed.result c.dtype-typed.ensures) k h)
    c.bound_stats.ensures.bound

pub returns-clause-value : goal.returns-clause-value
returns-clause-value g c =
    let b = c.args.binder.now in
    let answer = g.B.StatBinder.answer b in
    let missing = g.B.StatBinder.is_missing b in
    let e = c.args.e.now in
    ok-weaker (IsBinding (Replaces answer missing) e)
    (λ r. WhereFaithful (g.B.StatBinder.is_faithful_over b) (λ row n. HasNoColumnOn e row → meaning r row n ≡ value_under (g.B.StatBinder.value b row n) n e)) c.bound_stats.result
    (λ r h row n f k. bound-value answer missing (g.B.StatBinder.value b row n) row n (g.B.StatBinder.is_faithful b row n f) e r (has_a_type (type_of e) c.dtype-typed.result c.dtype-typed.ensures) k h)
    c.bound_stats.ensures.bound

pub returns-clause-right_types : goal.returns-clause-right_types
returns-clause-right_types g c = λ row n f.
    let b = c.args.binder.now in
    not_wrong_type (g.B.StatBinder.answer b) (g.B.StatBinder.is_missing b) (g.B.StatBinder.value b row n) row n (g.B.StatBinder.is_faithful b row n f) (g.B.StatBinder.can_fault b) c.args.e.now c.bound_stats.result
    c.bound_stats.ensures.refusal
