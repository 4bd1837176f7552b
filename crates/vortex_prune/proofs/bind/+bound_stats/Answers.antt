use Rattle.std.proofs.Common.{◌≡◌, ap, sym, subst, ◌∙◌}
use Rattle.std.specs.Prelude.{IfOk}
use Rattle.vortex_expr.specs.Trees.Tree as tree
use Rattle.vortex_prune.specs.Binding.BoundTo.{IsBinding, Replaces, base_type}
use Rattle.vortex_prune.proofs.Binding.BoundTypes.{memory_alone, is_node, has_type, between_bound, binary-base_type, between-base_type, not-base_type, like-base_type}
use Rattle.vortex_prune.proofs.bind.+bound_stats.Goals as goal

pub expect_memory_only-requires-in-Binary : goal.expect_memory_only-requires-in-Binary
expect_memory_only-requires-in-Binary g t c =
    let l = c.in_ok-left-in-Binary.left in
    let r = c.in_ok-right-in-Binary.right in
    let o = c.in-Binary.operator in
    memory_alone c.args.e.now (tree.binary o l r) c.dtype-dtype.result c.binary.result c.dtype-dtype.ensures
    (binary-base_type o c.in-Binary.left.now c.in-Binary.right.now l r c.in_ok-left-in-Binary.ensures.typed c.in_ok-right-in-Binary.ensures.typed ∙ ap base_type (sym c.in-Binary.ensures))
    c.binary.ensures

pub expect_memory_only-requires-in-Between : goal.expect_memory_only-requires-in-Between
expect_memory_only-requires-in-Between g t c =
    let x = c.in_ok-x-in-Between.x in
    let l = c.in_ok-lower-in-Between.lower in
    let u = c.in_ok-upper-in-Between.upper in
    let o = c.in-Between.options in
    memory_alone c.args.e.now (tree.between o x l u) c.dtype-dtype.result c.between.result c.dtype-dtype.ensures
    (between-base_type o c.in-Between.x.now c.in-Between.lower.now c.in-Between.upper.now x l u c.in_ok-x-in-Between.ensures.typed c.in_ok-lower-in-Between.ensures.typed c.in_ok-upper-in-Between.ensures.typed ∙ ap base_type (sym c.in-Between.ensures))
    c.between.ensures

pub expect_memory_only-requires-in-Not : goal.expect_memory_only-requires-in-Not
expect_memory_only-requires-in-Not g t c =
    let x = c.in_ok-bound_stats-in-Not.field-0 in
    memory_alone c.args.e.now (tree.not x) c.dtype-dtype.result c.not.result c.dtype-dtype.ensures
    (not-base_type c.in-Not.x.now x c.in_ok-bound_stats-in-Not.ensures.typed ∙ ap base_type (sym c.in-Not.ensures))
    c.not.ensures

pub expect_memory_only-requires-in-Like : goal.expect_memory_only-requires-in-Like
expect_memory_only-requires-in-Like g t c =
    let x = c.in_ok-text-in-Like.text in
    let p = c.in_ok-pattern-in-Like.pattern in
    let o = c.in-Like.options in
    memory_alone c.args.e.now (tree.like o x p) c.dtype-dtype.result c.like_with.result c.dtype-dtype.ensures
    (like-base_type o c.in-Like.text.now c.in-Like.pattern.now x p c.in_ok-text-in-Like.ensures.typed c.in_ok-pattern-in-Like.ensures.typed ∙ ap base_type (sym c.in-Like.ensures))
    c.like_with.ensures

pub returns-in_ok-right-in-Binary-clause-typed : goal.returns-in_ok-right-in-Binary-clause-typed
returns-in_ok-right-in-Binary-clause-typed g t c =
    let l = c.in_ok-left-in-Binary.left in
    let r = c.in_ok-right-in-Binary.right in
    let o = c.in-Binary.operator in
    let e = c.args.e.now in
    let same : base_type (tree.binary o l r) ≡ base_type e = binary-base_type o c.in-Binary.left.now c.in-Binary.right.now l r c.in_ok-left-in-Binary.ensures.typed c.in_ok-right-in-Binary.ensures.typed ∙ ap base_type (sym c.in-Binary.ensures) in
    has_type e (tree.binary o l r) c.expect_memory_only-in-Binary.result same
    (is_node e (tree.binary o l r) c.dtype-dtype.result c.binary.result c.expect_memory_only-in-Binary.result c.dtype-dtype.ensures same c.binary.ensures c.expect_memory_only-in-Binary.ensures)

pub returns-in_ok-upper-in-Between-clause-typed : goal.returns-in_ok-upper-in-Between-clause-typed
returns-in_ok-upper-in-Between-clause-typed g t c =
    let x = c.in_ok-x-in-Between.x in
    let l = c.in_ok-lower-in-Between.lower in
    let u = c.in_ok-upper-in-Between.upper in
    let o = c.in-Between.options in
    let e = c.args.e.now in
    let same : base_type (tree.between o x l u) ≡ base_type e = between-base_type o c.in-Between.x.now c.in-Between.lower.now c.in-Between.upper.now x l u c.in_ok-x-in-Between.ensures.typed c.in_ok-lower-in-Between.ensures.typed c.in_ok-upper-in-Between.ensures.typed ∙ ap base_type (sym c.in-Between.ensures) in
    has_type e (tree.between o x l u) c.expect_memory_only-in-Between.result same
    (is_node e (tree.between o x l u) c.dtype-dtype.result c.between.result c.expect_memory_only-in-Between.result c.dtype-dtype.ensures same c.between.ensures c.expect_memory_only-in-Between.ensures)

pub returns-in_ok-upper-in-Between-clause-bound : goal.returns-in_ok-upper-in-Between-clause-bound
returns-in_ok-upper-in-Between-clause-bound g t c =
    let x = c.in_ok-x-in-Between.x in
    let l = c.in_ok-lower-in-Between.lower in
    let u = c.in_ok-upper-in-Between.upper in
    let o = c.in-Between.options in
    let e = c.args.e.now in
    let R = Replaces (g.B.StatBinder.answer c.args.binder.now) (g.B.StatBinder.is_missing c.args.binder.now) in
    let same : base_type (tree.between o x l u) ≡ base_type e = between-base_type o c.in-Between.x.now c.in-Between.lower.now c.in-Between.upper.now x l u c.in_ok-x-in-Between.ensures.typed c.in_ok-lower-in-Between.ensures.typed c.in_ok-upper-in-Between.ensures.typed ∙ ap base_type (sym c.in-Between.ensures) in
    let node = is_node e (tree.between o x l u) c.dtype-dtype.result c.between.result c.expect_memory_only-in-Between.result c.dtype-dtype.ensures same c.between.ensures c.expect_memory_only-in-Between.ensures in
    subst (λ e. IfOk c.expect_memory_only-in-Between.result (IsBinding R e)) (sym c.in-Between.ensures)
    (between_bound R o c.in-Between.x.now c.in-Between.lower.now c.in-Between.upper.now x l u c.expect_memory_only-in-Between.result c.in_ok-x-in-Between.ensures.bound c.in_ok-lower-in-Between.ensures.bound c.in_ok-upper-in-Between.ensures.bound node)
