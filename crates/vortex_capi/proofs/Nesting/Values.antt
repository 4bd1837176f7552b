-- What joining in halves keeps of a value that an expression has: its meaning, its type, what is told of its columns.
use Rattle.std.proofs.Common.{◌≡◌, ℕ, zero, suc, ◌≤◌, ◌<◌, Bool, true, false, List, [], ◌∷◌, ◌++◌, length, refl, sym, ap, ap₂, ◌∙◌, arith, length-append}
use Rattle.vortex_expr.specs.Trees.Tree.{Tree, Place, column, literal, binary, between, is_null, is_not_null, not, like, stat, row_count}
use Rattle.vortex_expr.specs.declared.scalar_fn.Operator.{Operator}
use Rattle.vortex_expr.specs.declared.scalar_fn.Operator.TheVariants.{And, Or}
use Rattle.vortex_expr.specs.declared.scalar_fn.BetweenOptions.{BetweenOptions}
use Rattle.vortex_expr.specs.declared.like.LikeOptions.{LikeOptions}
use Rattle.vortex_base.specs.declared.aggregate.AggregateFnRef.{AggregateFnRef}
use Rattle.vortex_rewrite.specs.Rewriting.Falsifiers.{bool_literal}
use Rattle.vortex_expr.specs.Trees.Connectives.{operator_of}
use Rattle.vortex_capi.specs.Nesting.Halves.{Halves, alone, chain_of, first_or, halved, halves, in_turns, joined, paired}
use Rattle.vortex_capi.proofs.Nesting.Pairs.{no_more}

-- A chain's value comes by back from what op makes of what view sees of the values of its operands.
module _ {A B : Type 0} (value : Tree Place → B) (view : B → A) (back : A → B) (op : Bool → A → A → A) (none : Bool → A)
    (assoc : (w : Bool) (a b c : A) → op w (op w a b) c ≡ op w a (op w b c))
    (unit_left : (w : Bool) (a : A) → op w (none w) a ≡ a)
    (unit_right : (w : Bool) (a : A) → op w a (none w) ≡ a)
    (seen : (a : A) → view (back a) ≡ a)
    (joins : (w : Bool) (a b : Tree Place) → value (binary (operator_of w) a b) ≡ back (op w (view (value a)) (view (value b)))) where
  -- what op makes of some expressions, from the last on
  abbrev pub over : Bool → List (Tree Place) → A
  over w [] = none w
  over w (e ∷ es) = op w (view (value e)) (over w es)

  pair_seen : (w : Bool) (a b : Tree Place) → view (value (binary (operator_of w) a b)) ≡ op w (view (value a)) (view (value b))
  pair_seen w a b = ap view (joins w a b) ∙ seen (op w (view (value a)) (view (value b)))

  over_append : (w : Bool) (es ds : List (Tree Place)) → over w (es ++ ds) ≡ op w (over w es) (over w ds)
  over_append w [] ds = sym (unit_left w (over w ds))
  over_append w (e ∷ es) ds = ap (op w (view (value e))) (over_append w es ds) ∙ sym (assoc w (view (value e)) (over w es) (over w ds))

  over_paired : (w : Bool) (es : List (Tree Place)) → over w (paired w es) ≡ over w es
  over_paired w [] = refl
  over_paired w (a ∷ []) = refl
  over_paired w (a ∷ b ∷ es) =
      ap₂ (op w) (pair_seen w a b) (over_paired w es)
      ∙ assoc w (view (value a)) (view (value b)) (over w es)

  -- what is left when a pair comes first
  turned : (w : Bool) (n : ℕ) (a b : Tree Place) (es : List (Tree Place)) → length es ≤ n
      → value (first_or (bool_literal w) (in_turns n w (binary (operator_of w) a b ∷ es))) ≡ back (over w (binary (operator_of w) a b ∷ es))
  turned w zero a b [] h =
      joins w a b ∙ ap back (sym (pair_seen w a b) ∙ sym (unit_right w (view (value (binary (operator_of w) a b)))))
  turned w zero a b (e ∷ es) h = absurd (omega (arith, h))
  turned w (suc n) a b [] h = turned w n a b [] (omega arith)
  turned w (suc n) a b (e ∷ es) h =
      let p = binary (operator_of w) a b in
      turned w n p e (paired w es) (omega (arith, h, no_more w es)) ∙ ap back (over_paired w (p ∷ e ∷ es))

  joined_value : (w : Bool) (a b : Tree Place) (es : List (Tree Place)) → value (joined w (a ∷ b ∷ es)) ≡ back (over w (a ∷ b ∷ es))
  joined_value w a b es =
      turned w (suc (length es)) a b (paired w es) (omega (arith, no_more w es)) ∙ ap back (over_paired w (a ∷ b ∷ es))

  both_values : (w : Bool) (es ds : List (Tree Place)) → 0 < length es → 0 < length ds → value (joined w (es ++ ds)) ≡ back (over w (es ++ ds))
  both_values w [] ds h k = absurd (omega (arith, h))
  both_values w es [] h k = absurd (omega (arith, k))
  both_values w (a ∷ []) (b ∷ ds) h k = joined_value w a b ds
  both_values w (a ∷ b ∷ es) (d ∷ ds) h k = joined_value w a b (es ++ d ∷ ds)

  -- an expression's parts have its value
  pub record Same (h : Halves) (e : Tree Place) : Type 0 where
    pub whole : value h.whole ≡ value e
    pub ands : over true h.ands ≡ view (value e)
    pub ors : over false h.ors ≡ view (value e)
    pub some_ands : 0 < length h.ands
    pub some_ors : 0 < length h.ors

  one_over : (w : Bool) (x e : Tree Place) → value x ≡ value e → over w (x ∷ []) ≡ view (value e)
  one_over w x e h = unit_right w (view (value x)) ∙ ap view h

  lone : (x e : Tree Place) → value x ≡ value e → Same (alone x) e
  lone x e h = record {
    whole = h;
    ands = one_over true x e h;
    ors = one_over false x e h;
    some_ands = omega arith;
    some_ors = omega arith;
  }

  module _ (w : Bool) (l r : Tree Place) (es ds : List (Tree Place)) (over_l : over w es ≡ view (value l)) (over_r : over w ds ≡ view (value r)) (some_l : 0 < length es) (some_r : 0 < length ds) where
    all_over : over w (es ++ ds) ≡ op w (view (value l)) (view (value r))
    all_over = over_append w es ds ∙ ap₂ (op w) over_l over_r

    whole_value : value (joined w (es ++ ds)) ≡ value (binary (operator_of w) l r)
    whole_value = both_values w es ds some_l some_r ∙ ap back all_over ∙ sym (joins w l r)

    items_value : over w (es ++ ds) ≡ view (value (binary (operator_of w) l r))
    items_value = all_over ∙ sym (pair_seen w l r)

    some : 0 < length (es ++ ds)
    some = omega (arith, length-append es ds, some_l)

  and_same : (l r : Tree Place) (h k : Halves) → Same h l → Same k r → Same (chain_of true (h.ands ++ k.ands)) (binary And l r)
  and_same l r h k x y =
      let whole = whole_value true l r h.ands k.ands x.ands y.ands x.some_ands y.some_ands in
      record {
        whole = whole;
        ands = items_value true l r h.ands k.ands x.ands y.ands x.some_ands y.some_ands;
        ors = one_over false (joined true (h.ands ++ k.ands)) (binary And l r) whole;
        some_ands = some true l r h.ands k.ands x.ands y.ands x.some_ands y.some_ands;
        some_ors = omega arith;
      }

  or_same : (l r : Tree Place) (h k : Halves) → Same h l → Same k r → Same (chain_of false (h.ors ++ k.ors)) (binary Or l r)
  or_same l r h k x y =
      let whole = whole_value false l r h.ors k.ors x.ors y.ors x.some_ors y.some_ors in
      record {
        whole = whole;
        ands = one_over true (joined false (h.ors ++ k.ors)) (binary Or l r) whole;
        ors = items_value false l r h.ors k.ors x.ors y.ors x.some_ors y.some_ors;
        some_ands = omega arith;
        some_ors = some false l r h.ors k.ors x.ors y.ors x.some_ors y.some_ors;
      }

  -- where a node's value comes from those of its children, joining in halves keeps that of every expression
  module _ (at_binary : (o : Operator) (l r m s : Tree Place) → value m ≡ value l → value s ≡ value r → value (binary o m s) ≡ value (binary o l r))
      (at_between : (o : BetweenOptions) (x l u y m v : Tree Place) → value y ≡ value x → value m ≡ value l → value v ≡ value u → value (between o y m v) ≡ value (between o x l u))
      (at_is_null : (x y : Tree Place) → value y ≡ value x → value (is_null y) ≡ value (is_null x))
      (at_is_not_null : (x y : Tree Place) → value y ≡ value x → value (is_not_null y) ≡ value (is_not_null x))
      (at_not : (x y : Tree Place) → value y ≡ value x → value (not y) ≡ value (not x))
      (at_like : (o : LikeOptions) (x p y q : Tree Place) → value y ≡ value x → value q ≡ value p → value (like o y q) ≡ value (like o x p))
      (at_stat : (f : AggregateFnRef) (x y : Tree Place) → value y ≡ value x → value (stat f y) ≡ value (stat f x)) where
    at_operands : (o : Operator) (l r : Tree Place) (h k : Halves) → Same h l → Same k r → value (binary o h.whole k.whole) ≡ value (binary o l r)
    at_operands o l r h k x y = at_binary o l r h.whole k.whole x.whole y.whole

    all_same : (e : Tree Place) → Same (halves e) e
    all_same (column c) = lone (column c) (column c) refl
    all_same (literal c) = lone (literal c) (literal c) refl
    all_same (binary And l r) = and_same l r (halves l) (halves r) (all_same l) (all_same r)
    all_same (binary Or l r) = or_same l r (halves l) (halves r) (all_same l) (all_same r)
    all_same (binary o l r) = lone (binary o (halved l) (halved r)) (binary o l r) (at_operands o l r (halves l) (halves r) (all_same l) (all_same r))
    all_same (between o x l u) =
        lone (between o (halved x) (halved l) (halved u)) (between o x l u)
        (at_between o x l u (halved x) (halved l) (halved u) (all_same x).whole (all_same l).whole (all_same u).whole)
    all_same (is_null x) = lone (is_null (halved x)) (is_null x) (at_is_null x (halved x) (all_same x).whole)
    all_same (is_not_null x) = lone (is_not_null (halved x)) (is_not_null x) (at_is_not_null x (halved x) (all_same x).whole)
    all_same (not x) = lone (not (halved x)) (not x) (at_not x (halved x) (all_same x).whole)
    all_same (like o x p) = lone (like o (halved x) (halved p)) (like o x p) (at_like o x p (halved x) (halved p) (all_same x).whole (all_same p).whole)
    all_same (stat f x) = lone (stat f (halved x)) (stat f x) (at_stat f x (halved x) (all_same x).whole)
    all_same row_count = lone row_count row_count refl

    pub kept : (e : Tree Place) → value (halved e) ≡ value e
    kept e = (all_same e).whole
