use Rattle.std.proofs.Common.{◌≡◌, Ok, false, sym, ap, ◌∙◌}
use Rattle.vortex_stats.specs.Precision.{precision_map, is_absent}
use Rattle.vortex_stats.proofs.Merging.Combining.{absent_map, met_written, met_kept, met_refused, refused_with}
use Rattle.vortex_stats.proofs.combine.entry_change.Goals as goal

pub returns-in_err-value : goal.returns-in_err-value
returns-in_err-value c =
    let left = precision_map (λ v. v.now) c.args.left in
    let other = precision_map (λ v. v.now) c.as_ref-other.result in
    let left_absent : is_absent left ≡ false = absent_map (λ v. v.now) c.args.left ∙ sym c.is_absent-2.ensures ∙ c.if-is_absent-3.false in
    let other_absent : is_absent other ≡ false = absent_map (λ v. v.now) c.as_ref-other.result ∙ sym c.is_absent.ensures ∙ c.if-is_absent.false in
    record {
      change = refused_with c.args.entry.now.0 left c.args.entry.now.1 c.from_residual-in_err-value.result c.in_err-value.field-0.0 c.from_residual-in_err-value.ensures.1
          (met_refused c.args.entry.now.0 left other c.args.entry.now.1 c.as_ref-other.ensures left_absent other_absent c.in_err-value.field-0.0 c.in_err-value.ensures);
    }

pub returns-in-Some : goal.returns-in-Some
returns-in-Some c =
    let left = precision_map (λ v. v.now) c.args.left in
    let other = precision_map (λ v. v.now) c.as_ref-other.result in
    let left_absent : is_absent left ≡ false = absent_map (λ v. v.now) c.args.left ∙ sym c.is_absent-2.ensures ∙ c.if-is_absent-3.false in
    let other_absent : is_absent other ≡ false = absent_map (λ v. v.now) c.as_ref-other.result ∙ sym c.is_absent.ensures ∙ c.if-is_absent.false in
    record {
      change = met_written c.args.entry.now.0 left other c.args.entry.now.1 c.as_ref-other.ensures left_absent other_absent c.in-Some.value (c.in_ok-value.ensures ∙ ap Ok c.in-Some.is);
    }

pub returns-in-None : goal.returns-in-None
returns-in-None c =
    let left = precision_map (λ v. v.now) c.args.left in
    let other = precision_map (λ v. v.now) c.as_ref-other.result in
    let left_absent : is_absent left ≡ false = absent_map (λ v. v.now) c.args.left ∙ sym c.is_absent-2.ensures ∙ c.if-is_absent-3.false in
    let other_absent : is_absent other ≡ false = absent_map (λ v. v.now) c.as_ref-other.result ∙ sym c.is_absent.ensures ∙ c.if-is_absent.false in
    record {
      change = met_kept c.args.entry.now.0 left other c.args.entry.now.1 c.as_ref-other.ensures left_absent other_absent (c.in_ok-value.ensures ∙ ap Ok c.in-None.is);
    }
