use Rattle.std.proofs.Common.{◌<◌, ◌≤◌, ◌+◌, ◌^◌, All, ap, is_some, length, sym, subst, ◌∙◌, arith}
use Rattle.vortex_base.specs.Data.Scopes.{named_columns}
use Rattle.vortex_syntax.proofs.BadLemmas.{bad_fails}
use Rattle.vortex_text.proofs.LeftLemmas.{zones_are}
use Rattle.vortex_text.proofs.StoreLemmas.{chunk}
use Rattle.vortex_text.proofs.StoreSteps.{joined_is_store, joined_view, none_joined, some_joined, two_counts}
use Rattle.vortex_text.specs.Fitting.{IsPartOf}
use Rattle.vortex_text.specs.Rows.{joined_at}
use Rattle.vortex_text.specs.Stores.{StoreData, with_joined}
use Rattle.vortex_text.proofs.store.Store.join_at.Goals.{then-count-lt2-via-then-count-lt2, then-count-lt2-via-else-count-lt2+then-place-count}
use Rattle.vortex_text.proofs.store.Store.join_at.Goals as goal

pub returns-then-count-lt2-clause-joined : goal.returns-then-count-lt2-clause-joined
returns-then-count-lt2-clause-joined c =
    let s = c.self.inside in
    let k = chunk s.scope s.columns.items in
    let past : length s.log.zones ≤ c.args.place + 1 = elim c.then-count-lt2.branch [
      | then-count-lt2-via-then-count-lt2 w ↦ omega (arith, w.if-count-lt2.true, c.len-count.ensures)
      | then-count-lt2-via-else-count-lt2+then-place-count w ↦ omega (arith, w.if-count-lt2.false, w.if-place-count.true, c.len-count.ensures)
    ] in
    bad_fails c.at.result (with_joined c.args.place c.args.self.now) c.at.ensures
    (ap (with_joined c.args.place) (sym c.self.view_is) ∙ none_joined k s.log s.from s.is_open c.args.place past)

pub join_at-requires-clause-joinable : goal.join_at-requires-clause-joinable
join_at-requires-clause-joinable c =
    let s = c.self.inside in
    let k = chunk s.scope s.columns.items in
    let names = named_columns c.args.columns.now in
    let small : s.from < 2 ^ 64 = omega (arith, c.self.ranges) in
    let are = zones_are k names 0 s.log.zones (subst (λ (x : StoreData). All (IsPartOf names) x.ended) (sym c.self.view_is) c.requires) in
    λ left right first second. record {
      left_fits = are c.args.place left first;
      right_fits = are (c.args.place + 1) right second;
      rows = omega (arith, two_counts s.log.zones c.args.place left right first second, c.self.invariant.counted, small);
    }

pub returns-in_err-join_at-clause-memory : goal.returns-in_err-join_at-clause-memory
returns-in_err-join_at-clause-memory c =
    let s = c.self.inside in
    let k = chunk s.scope s.columns.items in
    let there : c.args.place + 1 < length s.log.zones = omega (arith, c.if-count-lt2.false, c.if-place-count.false, c.len-count.ensures) in
    λ _. ap (λ (x : StoreData). is_some (joined_at c.args.place x.ended)) (sym c.self.view_is) ∙ some_joined k s.log s.from s.is_open c.args.place there

pub invariant_of-self-2 : goal.invariant_of-self-2
invariant_of-self-2 c =
    let s = c.self.inside in
    let k = chunk s.scope s.columns.items in
    let there : c.args.place + 1 < length s.log.zones = omega (arith, c.if-count-lt2.false, c.if-place-count.false, c.len-count.ensures) in
    joined_is_store k s.log c.join_at.new.self s.from s.is_open c.args.place c.self.invariant there c.in_ok-join_at.ensures.joined c.in_ok-join_at.ensures.current

pub returns-clause-joined : goal.returns-clause-joined
returns-clause-joined c =
    let s = c.self.inside in
    let k = chunk s.scope s.columns.items in
    let there : c.args.place + 1 < length s.log.zones = omega (arith, c.if-count-lt2.false, c.if-place-count.false, c.len-count.ensures) in
    ap (with_joined c.args.place) (sym c.self.view_is) ∙ joined_view k s.log c.join_at.new.self s.from s.is_open c.args.place there c.in_ok-join_at.ensures.joined c.in_ok-join_at.ensures.current
