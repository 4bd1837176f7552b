use Rattle.std.proofs.Common.{◌≡◌, Some, sym, ap, ◌∙◌}
use Rattle.std.specs.Option.{option_map}
use Rattle.vortex_base.specs.Data.Values.{value_cmp}
use Rattle.vortex_stats.specs.declared.stat.Stat.TheVariants as stats
use Rattle.vortex_stats.specs.Sets.Entries.{entry_value}
use Rattle.vortex_stats.specs.Precision.{precision_map}
use Rattle.vortex_stats.specs.Bounds.LowerBound.{lower_union}
use Rattle.vortex_stats.proofs.Bounds.DerivedOrder.{derived_cmp, lower_union-read}
use Rattle.vortex_stats.proofs.Copied.{bound_copied-same}
use Rattle.vortex_stats.proofs.Sets.Revisions.{makes-same}
use Rattle.vortex_stats.proofs.merge.min_change.Goals as goal

pub returns-in-Some : goal.returns-in-Some
returns-in-Some c =
    let left = entry_value stats.Min c.args.left.now in
    let other = entry_value stats.Min c.args.other.now in
    let chosen : Some c.in-Some.bound ≡ lower_union (λ x y. derived_cmp x.now y.now) c.lift-first.result c.lift.result =
    ap (option_map (λ b. b)) (sym c.in-Some.is) ∙ c.in_ok-bound.ensures.value in
    let read_own : precision_map (λ v. v.now) c.lift-first.result ≡ left = ap (precision_map (λ v. v.now)) c.lift-first.ensures ∙ c.find-value.ensures in
    let read_other : precision_map (λ v. v.now) c.lift.result ≡ other = ap (precision_map (λ v. v.now)) c.lift.ensures ∙ c.find.ensures in
    let bound : Some (precision_map (λ v. v.now) c.in-Some.bound) ≡ lower_union value_cmp left other =
    ap (option_map (precision_map (λ v. v.now))) chosen ∙ lower_union-read (λ v. v.now) c.lift-first.result c.lift.result
    ∙ ap (λ p. lower_union value_cmp p (precision_map (λ v. v.now) c.lift.result)) read_own ∙ ap (λ q. lower_union value_cmp left q) read_other in
    let same : Some (precision_map (λ v. v.now) c.into_value.result) ≡ lower_union value_cmp left other = ap (λ b. Some (precision_map (λ v. v.now) b)) c.into_value.ensures ∙ bound in
    record {
      made = makes-same c.bound_change.result _ left _ (lower_union value_cmp left other) c.find-value.ensures same c.bound_change.ensures.made;
      refused = bound_copied-same c.bound_change.result _ left _ (lower_union value_cmp left other) c.find-value.ensures same c.bound_change.ensures.refused;
    }
