use Rattle.std.proofs.Common.{◌≡◌, [], List, subst}
use Rattle.vortex_base.specs.Answer.{Answers}
use Rattle.vortex_base.specs.Data.Scalars.{Constant}
use Rattle.vortex_expr.specs.Meanings.Meaning.{can_evaluate, meaning}
use Rattle.vortex_expr.specs.Trees.Tree.{literal}
use Rattle.vortex_base.specs.declared.dtype.DType.TheVariants as dtype
use Rattle.vortex_base.specs.declared.scalar_value.ScalarValue.{ScalarValue}
use Rattle.vortex_base.specs.declared.types.Nullability.TheVariants.{Nullable}
use Rattle.vortex_rewrite.proofs.Logic.{made_value, memory_alone}
use Rattle.vortex_rewrite.specs.Answers.{Makes as MadeOrMemory}
use Rattle.std.proofs.Common.{Option}
use Rattle.vortex_normal.proofs.Folded.{empty_value, ok_typed, plain_fits}
use Rattle.vortex_normal.proofs.leaves.truth_of.Goals as goal

pub expect_memory_only-requires : goal.expect_memory_only-requires
expect_memory_only-requires c =
    let e = c.args.e.now in
    memory_alone _ _
    (empty_value e c.evaluate.result c.requires.constant c.requires.plain (subst (λ (r : List Constant). Answers (can_evaluate e r) (meaning e r 0) c.evaluate.result) c.empty.ensures c.evaluate.ensures.value))

pub nullable_truth-requires : goal.nullable_truth-requires
nullable_truth-requires c =
    let e = c.args.e.now in
    let made = empty_value e c.evaluate.result c.requires.constant c.requires.plain (subst (λ (r : List Constant). Answers (can_evaluate e r) (meaning e r 0) c.evaluate.result) c.empty.ensures c.evaluate.ensures.value) in
    plain_fits e c.in_ok-value.value c.requires.node c.requires.constant c.requires.plain (ok_typed e _ c.dtype-typed.ensures) (made_value (meaning e [] 0) c.in_ok-value.value c.evaluate.result made c.in_ok-value.ensures)

pub returns : goal.returns
returns c =
    let e = c.args.e.now in
    let made = empty_value e c.evaluate.result c.requires.constant c.requires.plain (subst (λ (r : List Constant). Answers (can_evaluate e r) (meaning e r 0) c.evaluate.result) c.empty.ensures c.evaluate.ensures.value) in
    let same : c.in_ok-value.value ≡ meaning e [] 0 = made_value (meaning e [] 0) c.in_ok-value.value c.evaluate.result made c.in_ok-value.ensures in
    subst (λ (v : Option ScalarValue). MadeOrMemory (literal (record { dtype = dtype.Bool Nullable; value = v })) c.nullable_truth.result) same c.nullable_truth.ensures
