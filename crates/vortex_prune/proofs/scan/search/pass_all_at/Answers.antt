use Rattle.std.proofs.Common.{◌≡◌, ◌∙◌, Option, ap, arith, subst, sym, true, false}
use Rattle.std.specs.List.Sorted.{IsPartitionPoint}
use Rattle.std.specs.Prelude.{slice_get}
use Rattle.vortex_base.specs.Data.Columns.{value_at}
use Rattle.vortex_base.specs.declared.scalar_value.ScalarValue.{ScalarValue}
use Rattle.vortex_prune.proofs.Scanning.GapOrder.{all_before, by_first}
use Rattle.vortex_prune.specs.Scanning.Gaps.{gap_passes, is_past}
use Rattle.vortex_prune.specs.declared.scan.gaps.Gap.{Gap}
use Rattle.vortex_prune.proofs.scan.search.pass_all_at.Goals as goal

pub passes_next-requires : goal.passes_next-requires
passes_next-requires g c =
    let gs = c.args.gaps.now in
    let a = c.args.asked in
    let x = value_at (slice_get a.above.now.values c.args.place) in
    let place = c.count_past.result in
    let d = c.in-Some.gap.now in
    let point = subst (λ (v : Option ScalarValue). IsPartitionPoint (λ (f : Gap). is_past f v ≡ true) (λ (f : Gap). is_past f v ≡ false) gs place) (sym c.requires.first) c.count_past.ensures in
    let l = c.in-Some.ensures.lookup in
    ap (λ (f : Gap). is_past f x) (l.3.1 d) ∙ point.1 place d (omega arith) l.3.0

pub returns-in-Some : goal.returns-in-Some
returns-in-Some g c =
    let gs = c.args.gaps.now in
    let a = c.args.asked in
    let x = value_at (slice_get a.above.now.values c.args.place) in
    let y = value_at (slice_get a.below.now.values c.args.place) in
    let z = value_at (slice_get a.flag.now.values c.args.place) in
    let place = c.count_past.result in
    let d = c.in-Some.gap.now in
    let point = subst (λ (v : Option ScalarValue). IsPartitionPoint (λ (f : Gap). is_past f v ≡ true) (λ (f : Gap). is_past f v ≡ false) gs place) (sym c.requires.first) c.count_past.ensures in
    let l = c.in-Some.ensures.lookup in
    by_first gs x y z c.requires.order c.requires.sure place (λ k e m n. point.0 k e (omega arith) m) c.passes_next.result d l.3.0 (point.1 place d (omega arith) l.3.0)
    (c.passes_next.ensures ∙ ap (λ (f : Gap). gap_passes f x y z) (l.3.1 d))

pub returns-in-None : goal.returns-in-None
returns-in-None g c =
    let gs = c.args.gaps.now in
    let a = c.args.asked in
    let x = value_at (slice_get a.above.now.values c.args.place) in
    let y = value_at (slice_get a.below.now.values c.args.place) in
    let z = value_at (slice_get a.flag.now.values c.args.place) in
    let place = c.count_past.result in
    let point = subst (λ (v : Option ScalarValue). IsPartitionPoint (λ (f : Gap). is_past f v ≡ true) (λ (f : Gap). is_past f v ≡ false) gs place) (sym c.requires.first) c.count_past.ensures in
    all_before gs x y z c.requires.order c.requires.sure place (λ k e m n. point.0 k e (omega arith) m) c.in-None.ensures.lookup.3
