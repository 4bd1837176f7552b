use Rattle.std.proofs.Common.{◌≡◌, None, Some, sym, ap, ◌∙◌, subst, true}
use Rattle.vortex_expr.specs.Trees.Tree as tree
use Rattle.vortex_base.specs.Data.Values.{is_value}
use Rattle.vortex_base.specs.declared.scalar_value.ScalarValue.TheVariants as value
use Rattle.vortex_rewrite.proofs.Soundness.EndsCode.{coded_from}
use Rattle.vortex_rewrite.proofs.Soundness.MovedEnds.{of_one_type}
use Rattle.vortex_rewrite.specs.Rewriting.Falsifiers.{closed}
use Rattle.vortex_rewrite.proofs.rewrite.builtins.between.number_ends.Goals as goal

pub literal-requires : goal.literal-requires
literal-requires c =
    let k = coded_from c.args.options c.args.lower.0.now c.args.upper.0.now c.args.lower.1 c.args.upper.1
    (of_one_type c.args.lower.0.now c.args.upper.0.now c.args.lower.1 c.args.upper.1 c.dtype-low_type.ensures.is_constant c.dtype-high_type.ensures.is_constant c.requires.alike c.requires.lower c.requires.upper)
    c.ordered.result (Some (c.in-Some.low, c.in-Some.high)) c.raised.result c.lowered.result c.ordered.ensures c.raised.ensures c.lowered.ensures c.in-Some.is in
    subst (λ t. is_value (value.Primitive c.in-Some.low) t ≡ true) (sym c.dtype-low_type.ensures.value) k.0

pub literal-requires-in-Some : goal.literal-requires-in-Some
literal-requires-in-Some c =
    let k = coded_from c.args.options c.args.lower.0.now c.args.upper.0.now c.args.lower.1 c.args.upper.1
    (of_one_type c.args.lower.0.now c.args.upper.0.now c.args.lower.1 c.args.upper.1 c.dtype-low_type.ensures.is_constant c.dtype-high_type.ensures.is_constant c.requires.alike c.requires.lower c.requires.upper)
    c.ordered.result (Some (c.in-Some.low, c.in-Some.high)) c.raised.result c.lowered.result c.ordered.ensures c.raised.ensures c.lowered.ensures c.in-Some.is in
    subst (λ t. is_value (value.Primitive c.in-Some.high) t ≡ true) (sym c.dtype-high_type.ensures.value) k.1

pub returns-in-None : goal.returns-in-None
returns-in-None c =
    coded_from c.args.options c.args.lower.0.now c.args.upper.0.now c.args.lower.1 c.args.upper.1
    (of_one_type c.args.lower.0.now c.args.upper.0.now c.args.lower.1 c.args.upper.1 c.dtype-low_type.ensures.is_constant c.dtype-high_type.ensures.is_constant c.requires.alike c.requires.lower c.requires.upper)
    c.ordered.result None c.raised.result c.lowered.result c.ordered.ensures c.raised.ensures c.lowered.ensures c.in-None.is

pub returns-in_ok-high-in-Some : goal.returns-in_ok-high-in-Some
returns-in_ok-high-in-Some c =
    let k = coded_from c.args.options c.args.lower.0.now c.args.upper.0.now c.args.lower.1 c.args.upper.1
    (of_one_type c.args.lower.0.now c.args.upper.0.now c.args.lower.1 c.args.upper.1 c.dtype-low_type.ensures.is_constant c.dtype-high_type.ensures.is_constant c.requires.alike c.requires.lower c.requires.upper)
    c.ordered.result (Some (c.in-Some.low, c.in-Some.high)) c.raised.result c.lowered.result c.ordered.ensures c.raised.ensures c.lowered.ensures c.in-Some.is in
    (λ i. Some (record {
      options = closed;
      lower = (c.in_ok-low-in-Some.ensures ∙ ap (λ t. tree.literal (record { dtype = t; value = Some (value.Primitive c.in-Some.low) })) c.dtype-low_type.ensures.value) i;
      upper = (c.in_ok-high-in-Some.ensures ∙ ap (λ t. tree.literal (record { dtype = t; value = Some (value.Primitive c.in-Some.high) })) c.dtype-high_type.ensures.value) i;
    }))
    ∙ k.2
