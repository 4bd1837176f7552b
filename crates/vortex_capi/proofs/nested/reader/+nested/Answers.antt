use Rattle.std.proofs.Common.{◌≡◌, ◌+◌, ◌-◌, ◌∷◌, ◌++◌, [], ℕ, true, false, List, sym, ap, ◌∙◌, subst, arith, length}
use Rattle.vortex_expr.specs.Trees.Connectives.{is_and}
use Rattle.vortex_expr.specs.Trees.Tree.{Tree, Place}
use Rattle.vortex_rewrite.specs.Rewriting.Predicates.{is_predicate}
use Rattle.vortex_base.specs.Data.Scopes.{named_columns}
use Rattle.vortex_syntax.specs.Words.{words}
use Rattle.vortex_capi.specs.Nesting.Reads.{chain_within, joined_read, nested_within}
use Rattle.vortex_capi.specs.declared.nested.shape.Shape.TheVariants as shape
use Rattle.vortex_capi.proofs.Nesting.Left.{Left, chain_long, left_done, left_fails, left_item, left_opened, left_start, left_untrue}
use Rattle.vortex_capi.proofs.Nesting.Operands.{one_fails, left_operand_fails, right_operand_fails, two_ok, first_end_fails, second_end_fails, third_end_fails, between_fails, ends_ok}
use Rattle.vortex_capi.proofs.Nesting.Shapes.{by_shape}
use Rattle.vortex_capi.proofs.nested.reader.+nested.Goals as goal

-- ---- by the first word

pub read_nested-returns-in-Column-clause-read : goal.read_nested-returns-in-Column-clause-read
read_nested-returns-in-Column-clause-read t c =
    by_shape (named_columns c.args.columns.now) (words c.args.line.now) (words c.in-Ok.found.1.now) c.in-Ok.found.0.now c.in-Some.form shape.Column (c.args.below - 1) c.args.below (λ x. (x.0, words x.1.now)) c.read_column.result
    c.in-Ok.ensures.word (sym c.form_of.ensures ∙ c.in-Some.is) (sym c.in-Column.is ∙ c.shape_of.ensures) c.in-Ok.ensures.fewer (omega arith) (λ m h. c.read_column.ensures.read (c.args.below - 1 + 1) (omega arith))

pub read_nested-returns-in-Literal-clause-read : goal.read_nested-returns-in-Literal-clause-read
read_nested-returns-in-Literal-clause-read t c =
    by_shape (named_columns c.args.columns.now) (words c.args.line.now) (words c.in-Ok.found.1.now) c.in-Ok.found.0.now c.in-Some.form shape.Literal (c.args.below - 1) c.args.below (λ x. (x.0, words x.1.now)) c.read_literal.result
    c.in-Ok.ensures.word (sym c.form_of.ensures ∙ c.in-Some.is) (sym c.in-Literal.is ∙ c.shape_of.ensures) c.in-Ok.ensures.fewer (omega arith) (λ m h. c.read_literal.ensures.read (c.args.below - 1 + 1) (omega arith))

pub read_nested-returns-in-Chain-clause-read : goal.read_nested-returns-in-Chain-clause-read
read_nested-returns-in-Chain-clause-read t c =
    by_shape (named_columns c.args.columns.now) (words c.args.line.now) (words c.in-Ok.found.1.now) c.in-Ok.found.0.now c.in-Some.form (shape.Chain c.in-Chain.connective) (c.args.below - 1) c.args.below (λ x. (x.0, words x.1.now)) c.read_chain.result
    c.in-Ok.ensures.word (sym c.form_of.ensures ∙ c.in-Some.is) (sym c.in-Chain.is ∙ c.shape_of.ensures) c.in-Ok.ensures.fewer (omega arith) c.read_chain.ensures.read

pub read_nested-returns-in-Pair-clause-read : goal.read_nested-returns-in-Pair-clause-read
read_nested-returns-in-Pair-clause-read t c =
    by_shape (named_columns c.args.columns.now) (words c.args.line.now) (words c.in-Ok.found.1.now) c.in-Ok.found.0.now c.in-Some.form (shape.Pair c.in-Pair.pair) (c.args.below - 1) c.args.below (λ x. (x.0, words x.1.now)) c.read_pair.result
    c.in-Ok.ensures.word (sym c.form_of.ensures ∙ c.in-Some.is) (sym c.in-Pair.is ∙ c.shape_of.ensures) c.in-Ok.ensures.fewer (omega arith) c.read_pair.ensures.read

pub read_nested-returns-in-Between-clause-read : goal.read_nested-returns-in-Between-clause-read
read_nested-returns-in-Between-clause-read t c =
    by_shape (named_columns c.args.columns.now) (words c.args.line.now) (words c.in-Ok.found.1.now) c.in-Ok.found.0.now c.in-Some.form shape.Between (c.args.below - 1) c.args.below (λ x. (x.0, words x.1.now)) c.read_between.result
    c.in-Ok.ensures.word (sym c.form_of.ensures ∙ c.in-Some.is) (sym c.in-Between.is ∙ c.shape_of.ensures) c.in-Ok.ensures.fewer (omega arith) c.read_between.ensures.read

pub read_nested-returns-in-Unary-clause-read : goal.read_nested-returns-in-Unary-clause-read
read_nested-returns-in-Unary-clause-read t c =
    by_shape (named_columns c.args.columns.now) (words c.args.line.now) (words c.in-Ok.found.1.now) c.in-Ok.found.0.now c.in-Some.form (shape.Unary c.in-Unary.test) (c.args.below - 1) c.args.below (λ x. (x.0, words x.1.now)) c.read_unary.result
    c.in-Ok.ensures.word (sym c.form_of.ensures ∙ c.in-Some.is) (sym c.in-Unary.is ∙ c.shape_of.ensures) c.in-Ok.ensures.fewer (omega arith) c.read_unary.ensures.read

-- ---- one operand, and two

pub read_unary-returns-in-Err-clause-read : goal.read_unary-returns-in-Err-clause-read
read_unary-returns-in-Err-clause-read t c = λ most fits.
    one_fails (nested_within (named_columns c.args.columns.now) most) (words c.args.line.now) c.args.under c.in-Err.e c.args.test (c.in-Err.ensures.read most fits)

pub read_pair-returns-in-Err-clause-read : goal.read_pair-returns-in-Err-clause-read
read_pair-returns-in-Err-clause-read t c = λ most fits.
    left_operand_fails (nested_within (named_columns c.args.columns.now) most) (words c.args.line.now) c.args.under c.in-Err.e c.args.pair (c.in-Err.ensures.read most fits)

pub read_pair-returns-in-Err-read_nested-clause-read : goal.read_pair-returns-in-Err-read_nested-clause-read
read_pair-returns-in-Err-read_nested-clause-read t c = λ most fits.
    right_operand_fails (nested_within (named_columns c.args.columns.now) most) (words c.args.line.now) c.args.under c.in-Err-read_nested.e c.args.pair
    c.in-Ok.found.0 (words c.in-Ok.found.1.now) (c.in-Ok.ensures.read most fits).0
    (c.in-Err-read_nested.ensures.read most (omega (arith, fits, c.in-Ok.ensures.fewer)))

pub read_pair-pair-requires-clause-l_fits : goal.read_pair-pair-requires-clause-l_fits
read_pair-pair-requires-clause-l_fits t c =
    let below = (c.in-Ok.ensures.read (length (words c.args.line.now)) (omega arith)).1 in
    omega (arith, below, c.requires)

pub read_pair-pair-requires-clause-r_fits : goal.read_pair-pair-requires-clause-r_fits
read_pair-pair-requires-clause-r_fits t c =
    let below = (c.in-Ok-read_nested.ensures.read (length (words c.in-Ok.found.1.now)) (omega arith)).1 in
    omega (arith, below, c.requires)

pub read_pair-returns-in-Ok-pair-clause-read : goal.read_pair-returns-in-Ok-pair-clause-read
read_pair-returns-in-Ok-pair-clause-read t c = λ most fits.
    let l = c.in-Ok.ensures.read most fits in
    let r = c.in-Ok-read_nested.ensures.read most (omega (arith, fits, c.in-Ok.ensures.fewer)) in
    two_ok (nested_within (named_columns c.args.columns.now) most) (words c.args.line.now) c.args.under c.args.pair c.in-Ok.found.0 c.in-Ok-read_nested.found.0 c.in-Ok-pair.e
    (words c.in-Ok.found.1.now) (words c.in-Ok-read_nested.found.1.now) l.0 l.1 r.0 r.1 c.in-Ok-pair.ensures

-- ---- a BETWEEN

pub read_between-returns-in-Err-read_nested-clause-read : goal.read_between-returns-in-Err-read_nested-clause-read
read_between-returns-in-Err-read_nested-clause-read t c = λ most fits.
    first_end_fails (nested_within (named_columns c.args.columns.now) most) (words c.args.line.now) c.args.under c.in-Err-read_nested.e c.in-Ok.found.0 (words c.in-Ok.found.1.now) c.in-Ok.ensures.read
    (c.in-Err-read_nested.ensures.read most (omega (arith, fits, c.in-Ok.ensures.fewer)))

pub read_between-returns-in-Err-read_nested-2-clause-read : goal.read_between-returns-in-Err-read_nested-2-clause-read
read_between-returns-in-Err-read_nested-2-clause-read t c = λ most fits.
    second_end_fails (nested_within (named_columns c.args.columns.now) most) (words c.args.line.now) c.args.under c.in-Err-read_nested-2.e c.in-Ok.found.0 (words c.in-Ok.found.1.now) c.in-Ok.ensures.read c.in-Ok-read_nested.found.0 (words c.in-Ok-read_nested.found.1.now) (c.in-Ok-read_nested.ensures.read most (omega (arith, fits, c.in-Ok.ensures.fewer))).0
    (c.in-Err-read_nested-2.ensures.read most (omega (arith, fits, c.in-Ok.ensures.fewer, c.in-Ok-read_nested.ensures.fewer)))

pub read_between-returns-in-Err-read_nested-3-clause-read : goal.read_between-returns-in-Err-read_nested-3-clause-read
read_between-returns-in-Err-read_nested-3-clause-read t c = λ most fits.
    third_end_fails (nested_within (named_columns c.args.columns.now) most) (words c.args.line.now) c.args.under c.in-Err-read_nested-3.e c.in-Ok.found.0 (words c.in-Ok.found.1.now) c.in-Ok.ensures.read c.in-Ok-read_nested.found.0 (words c.in-Ok-read_nested.found.1.now) (c.in-Ok-read_nested.ensures.read most (omega (arith, fits, c.in-Ok.ensures.fewer))).0 c.in-Ok-read_nested-2.found.0 (words c.in-Ok-read_nested-2.found.1.now) (c.in-Ok-read_nested-2.ensures.read most (omega (arith, fits, c.in-Ok.ensures.fewer, c.in-Ok-read_nested.ensures.fewer))).0
    (c.in-Err-read_nested-3.ensures.read most (omega (arith, fits, c.in-Ok.ensures.fewer, c.in-Ok-read_nested.ensures.fewer, c.in-Ok-read_nested-2.ensures.fewer)))

pub read_between-returns-in-Err-between-clause-read : goal.read_between-returns-in-Err-between-clause-read
read_between-returns-in-Err-between-clause-read t c = λ most fits.
    between_fails (nested_within (named_columns c.args.columns.now) most) (words c.args.line.now) c.args.under c.in-Err-between.e c.in-Ok.found.0 (words c.in-Ok.found.1.now) c.in-Ok.ensures.read c.in-Ok-read_nested.found.0 (words c.in-Ok-read_nested.found.1.now) (c.in-Ok-read_nested.ensures.read most (omega (arith, fits, c.in-Ok.ensures.fewer))).0 c.in-Ok-read_nested-2.found.0 (words c.in-Ok-read_nested-2.found.1.now) (c.in-Ok-read_nested-2.ensures.read most (omega (arith, fits, c.in-Ok.ensures.fewer, c.in-Ok-read_nested.ensures.fewer))).0
    c.in-Ok-read_nested-3.found.0 (words c.in-Ok-read_nested-3.found.1.now) (c.in-Ok-read_nested-3.ensures.read most (omega (arith, fits, c.in-Ok.ensures.fewer, c.in-Ok-read_nested.ensures.fewer, c.in-Ok-read_nested-2.ensures.fewer))).0 c.in-Err-between.ensures

pub read_between-returns-in-Ok-between-clause-read : goal.read_between-returns-in-Ok-between-clause-read
read_between-returns-in-Ok-between-clause-read t c = λ most fits.
    let x = (c.in-Ok-read_nested.ensures.read most (omega (arith, fits, c.in-Ok.ensures.fewer))) in
    let l = (c.in-Ok-read_nested-2.ensures.read most (omega (arith, fits, c.in-Ok.ensures.fewer, c.in-Ok-read_nested.ensures.fewer))) in
    let u = (c.in-Ok-read_nested-3.ensures.read most (omega (arith, fits, c.in-Ok.ensures.fewer, c.in-Ok-read_nested.ensures.fewer, c.in-Ok-read_nested-2.ensures.fewer))) in
    ends_ok (nested_within (named_columns c.args.columns.now) most) (words c.args.line.now) c.args.under c.in-Ok.found.0 c.in-Ok-read_nested.found.0 c.in-Ok-read_nested-2.found.0 c.in-Ok-read_nested-3.found.0 c.in-Ok-between.e
    (words c.in-Ok.found.1.now) (words c.in-Ok-read_nested.found.1.now) (words c.in-Ok-read_nested-2.found.1.now) (words c.in-Ok-read_nested-3.found.1.now)
    c.in-Ok.ensures.read x.0 x.1 l.0 l.1 u.0 u.1 c.in-Ok-between.ensures

pub read_between-between-requires-clause-x_fits : goal.read_between-between-requires-clause-x_fits
read_between-between-requires-clause-x_fits t c =
    let below = (c.in-Ok-read_nested.ensures.read (length (words c.in-Ok.found.1.now)) (omega arith)).1 in
    omega (arith, below, c.requires)

pub read_between-between-requires-clause-lower_fits : goal.read_between-between-requires-clause-lower_fits
read_between-between-requires-clause-lower_fits t c =
    let below = (c.in-Ok-read_nested-2.ensures.read (length (words c.in-Ok-read_nested.found.1.now)) (omega arith)).1 in
    omega (arith, below, c.requires)

pub read_between-between-requires-clause-upper_fits : goal.read_between-between-requires-clause-upper_fits
read_between-between-requires-clause-upper_fits t c =
    let below = (c.in-Ok-read_nested-3.ensures.read (length (words c.in-Ok-read_nested-2.found.1.now)) (omega arith)).1 in
    omega (arith, below, c.requires)

-- ---- a chain

pub read_chain-joined-requires : goal.read_chain-joined-requires
read_chain-joined-requires t c =
    let most = length (words c.args.line.now) in
    let long = chain_long (named_columns c.args.columns.now) (is_and c.args.connective) (most ∷ most ∷ []) (words c.args.line.now) (c.in-Ok.found.0.items, words c.in-Ok.found.1.now) (c.in-Ok.ensures.read most (omega arith)) in
    omega (arith, long)

pub read_items-items-init : goal.read_items-items-init
read_items-items-init t c =
    let scope = named_columns c.args.columns.now in
    let ws = words c.args.line.now in
    record {
      left = λ most fits.
          let P : List (Tree Place) → Type 0 = λ es. Left scope (is_and c.args.connective) (chain_within scope (is_and c.args.connective) (most ∷ most ∷ []) ws) es 2 ws in
          subst P (sym c.new-items.ensures.items) (left_start scope (is_and c.args.connective) most ws fits);
      within = omega arith;
      fewer = omega arith;
    }

pub read_items-items-preserved-in-Some : goal.read_items-items-preserved-in-Some
read_items-items-preserved-in-Some t c =
    let scope = named_columns c.args.columns.now in
    let w = is_and c.args.connective in
    let ws = words c.args.line.now in
    let rest = words c.items.rest.now in
    let after = words c.in-Some.after.now in
    let es = c.items.items.items in
    let count = c.items.count in
    let more = c.in-Some-checked_add.ensures.1 in
    record {
      left = λ most fits.
          let whole = chain_within scope w (most ∷ most ∷ []) ws in
          let P : ℕ → Type 0 = λ n. Left scope w whole es n after in
          subst P (sym more) (left_opened scope w whole es count rest (c.items.invariant.left most fits) c.items-test.true after (sym c.in-Some.ensures.behind) c.in-Some.ensures.fewer);
      within = omega (arith, c.items.invariant.within, c.in-Some.ensures.fewer);
      fewer = omega (arith, c.items.invariant.fewer, c.in-Some.ensures.fewer, more);
    }

pub read_items-items-preserved : goal.read_items-items-preserved
read_items-items-preserved t c =
    let scope = named_columns c.args.columns.now in
    let w = is_and c.args.connective in
    let ws = words c.args.line.now in
    let rest = words c.items.rest.now in
    let after = words c.in-Ok.found.1.now in
    let e = c.in-Ok.found.0 in
    let es = c.items.items.items in
    let count = c.items.count in
    let truth : is_predicate e ≡ true = sym c.is_truth.ensures ∙ c.if-not-is_truth.false in
    let pushed : es ++ e ∷ [] ≡ c.push.new.self.items = ap (λ (d : Tree Place). es ++ d ∷ []) (sym c.new.ensures) ∙ sym c.in-Ok-push.ensures.items in
    record {
      left = λ most fits.
          let whole = chain_within scope w (most ∷ most ∷ []) ws in
          let P : List (Tree Place) → Type 0 = λ ds. Left scope w whole ds (count - 1) after in
          subst P pushed
          (left_item scope w whole es count rest (c.items.invariant.left most fits) c.items-test.true (sym c.in-None.ensures.behind) e after (λ m h. (c.in-Ok.ensures.read m h).0) truth c.in-Ok.ensures.fewer);
      within = omega (arith, c.items.invariant.within, c.in-Ok.ensures.fewer);
      fewer = omega (arith, c.items.invariant.fewer, c.in-Ok.ensures.fewer, c.items-test.true);
    }

pub read_items-returns-in-Err-clause-read : goal.read_items-returns-in-Err-clause-read
read_items-returns-in-Err-clause-read t c = λ most fits.
    let scope = named_columns c.args.columns.now in
    let w = is_and c.args.connective in
    let ws = words c.args.line.now in
    let whole = chain_within scope w (most ∷ most ∷ []) ws in
    left_fails scope w whole c.items.items.items c.items.count (words c.items.rest.now) (c.items.invariant.left most fits) c.items-test.true (sym c.in-None.ensures.behind)
    (chain_long scope w (most ∷ most ∷ []) ws) c.args.under c.in-Err.e c.in-Err.ensures.read

pub read_items-returns-then-not-is_truth-clause-read : goal.read_items-returns-then-not-is_truth-clause-read
read_items-returns-then-not-is_truth-clause-read t c = λ most fits.
    let scope = named_columns c.args.columns.now in
    let w = is_and c.args.connective in
    let ws = words c.args.line.now in
    let whole = chain_within scope w (most ∷ most ∷ []) ws in
    let truth : is_predicate c.in-Ok.found.0 ≡ false = sym c.is_truth.ensures ∙ c.if-not-is_truth.true in
    ap (joined_read w) (left_untrue scope w whole c.items.items.items c.items.count (words c.items.rest.now) (c.items.invariant.left most fits) c.items-test.true (sym c.in-None.ensures.behind)
    c.in-Ok.found.0 (words c.in-Ok.found.1.now) (λ m h. (c.in-Ok.ensures.read m h).0) truth)

pub read_items-returns-clause-read : goal.read_items-returns-clause-read
read_items-returns-clause-read t c = λ most fits.
    let scope = named_columns c.args.columns.now in
    let w = is_and c.args.connective in
    let ws = words c.args.line.now in
    let whole = chain_within scope w (most ∷ most ∷ []) ws in
    left_done scope w whole c.items.items.items c.items.count (words c.items.rest.now) (c.items.invariant.left most fits) (omega arith)
