-- What the items of a chain are, read one after the other.
use Rattle.std.proofs.Common.{◌≡◌, ℕ, Bool, true, false, ◌&&◌, List, [], ◌∷◌, ◌++◌, Option, Some, None, Result, Ok, Err, is_ok, option_and_then, refl, ap, ap₂, sym, ◌∙◌, inl, inr, append_assoc, append-nil}
use Rattle.std.proofs.lemmas.Bool.{cases_Bool}
use Rattle.vortex_base.specs.Data.Scopes.{Named}
use Rattle.vortex_base.specs.declared.dtype.DType.{DType}
use Rattle.vortex_base.specs.declared.dtype.DType.TheVariants as dtype
use Rattle.vortex_base.specs.declared.error.BaseError.{BaseError}
use Rattle.vortex_expr.specs.Meanings.Typing.{connective_type, is_bool, type_of, with_types}
use Rattle.vortex_expr.specs.Trees.Tree.{Tree, Place, binary}
use Rattle.vortex_rewrite.specs.Rewriting.Predicates.{has_type, is_predicate}
use Rattle.vortex_syntax.specs.Expressions.{Read, expression_within, followed, read_two, typed}
use Rattle.vortex_syntax.specs.Fails.{when}
use Rattle.vortex_syntax.specs.Words.{Token}
use Rattle.vortex_expr.specs.Trees.Connectives.{operator_of}
use Rattle.vortex_capi.specs.Nesting.Halves.{halved, halves, items, joined}
use Rattle.vortex_capi.specs.Nesting.Reads.{chain_within, halved_read, joined_read}

-- ---- a chain has a type where both its operands are truths

abbrev pub Items : Type 0
Items = Option (List (Tree Place) × List Token)

connected_ok : (s t : Result DType BaseError) → is_ok (with_types connective_type s t) ≡ (has_type is_bool s && has_type is_bool t)
connected_ok (Ok (dtype.Bool n)) (Ok (dtype.Bool m)) = refl
connected_ok (Ok (dtype.Bool n)) (Ok t) = refl
connected_ok (Ok (dtype.Bool n)) (Err e) = refl
connected_ok (Ok s) (Ok t) = refl
connected_ok (Ok s) (Err e) = refl
connected_ok (Err e) t = refl

connected_truth : (s t : Result DType BaseError) → has_type is_bool (with_types connective_type s t) ≡ (has_type is_bool s && has_type is_bool t)
connected_truth (Ok (dtype.Bool n)) (Ok (dtype.Bool m)) = refl
connected_truth (Ok (dtype.Bool n)) (Ok t) = refl
connected_truth (Ok (dtype.Bool n)) (Err e) = refl
connected_truth (Ok s) (Ok t) = refl
connected_truth (Ok s) (Err e) = refl
connected_truth (Err e) t = refl

chain_ok : (w : Bool) (a b : Tree Place) → is_ok (type_of (binary (operator_of w) a b)) ≡ (is_predicate a && is_predicate b)
chain_ok true a b = connected_ok (type_of a) (type_of b)
chain_ok false a b = connected_ok (type_of a) (type_of b)

chain_truth : (w : Bool) (a b : Tree Place) → is_predicate (binary (operator_of w) a b) ≡ (is_predicate a && is_predicate b)
chain_truth true a b = connected_truth (type_of a) (type_of b)
chain_truth false a b = connected_truth (type_of a) (type_of b)

-- ---- its items are those of its operands

chain_items : (w : Bool) (a b : Tree Place) → items w (halves (binary (operator_of w) a b)) ≡ items w (halves a) ++ items w (halves b)
chain_items true a b = refl
chain_items false a b = refl

chain_joined : (w : Bool) (a b : Tree Place) → halved (binary (operator_of w) a b) ≡ joined w (items w (halves (binary (operator_of w) a b)))
chain_joined true a b = refl
chain_joined false a b = refl

module _ (scope : List Named) (w : Bool) where
  -- the items of an expression before those that follow
  abbrev pub before : Tree Place → Items → Items
  before e rest = option_and_then (λ (truth : Tree Place). option_and_then (λ (more : List (Tree Place) × List Token). Some (items w (halves truth) ++ more.0, more.1)) rest) (when (is_predicate e) e)

  -- the items of an expression and of those behind it
  abbrev pub after : List ℕ → Tree Place × List Token → Items
  after mosts x = before x.0 (chain_within scope w mosts x.1)

  before_none : (e : Tree Place) → before e None ≡ None
  before_none e = elim (cases_Bool (is_predicate e)) [ inl is ↦ rw is refl | inr isnt ↦ rw isnt refl ]

  before_both : (a b : Tree Place) (rest : Items) → is_predicate a ≡ true → is_predicate b ≡ true → before (binary (operator_of w) a b) rest ≡ before a (before b rest)
  before_both a b None x y = before_none (binary (operator_of w) a b) ∙ sym (ap (before a) (before_none b) ∙ before_none a)
  before_both a b (Some y) p q =
      let both : is_predicate (binary (operator_of w) a b) ≡ true = chain_truth w a b ∙ ap₂ ◌&&◌ p q in
      let e = ap (λ es. es ++ y.0) (chain_items w a b) ∙ append_assoc (items w (halves a)) (items w (halves b)) y.0 in
      rw (both, p, q) (ap (λ (es : List (Tree Place)). Some (es, y.1)) e)

  pub before_false : (e : Tree Place) (rest : Items) → is_predicate e ≡ false → before e rest ≡ None
  before_false e rest h = rw h refl

  module _ (mosts : List ℕ) where
    last : (l r : Tree Place) (ws : List Token) → option_and_then (after mosts) (followed (typed (binary (operator_of w) l r)) ws) ≡ before l (before r (chain_within scope w mosts ws))
    last l r ws = elim (cases_Bool (is_predicate l)) [
      | inl p ↦ (elim (cases_Bool (is_predicate r)) [
        | inl q ↦ (let ok : is_ok (type_of (binary (operator_of w) l r)) ≡ true = chain_ok w l r ∙ ap₂ ◌&&◌ p q in rw ok (before_both l r (chain_within scope w mosts ws) p q))
        | inr q ↦ (let ok : is_ok (type_of (binary (operator_of w) l r)) ≡ false = chain_ok w l r ∙ ap₂ ◌&&◌ p q in rw ok (sym (ap (before l) (before_false r (chain_within scope w mosts ws) q) ∙ before_none l)))
      ])
      | inr p ↦ (let ok : is_ok (type_of (binary (operator_of w) l r)) ≡ false = chain_ok w l r ∙ ap (λ a. a && is_predicate r) p in rw ok (sym (before_false l (before r (chain_within scope w mosts ws)) p)))
    ]

    middle : (l : Tree Place) (o : Read) → option_and_then (after mosts) (option_and_then (λ (r : Tree Place × List Token). followed (typed (binary (operator_of w) l r.0)) r.1) o) ≡ before l (option_and_then (after mosts) o)
    middle l None = sym (before_none l)
    middle l (Some r) = last l r.0 r.1

    first : (most : ℕ) (o : Read)
        → option_and_then (after mosts) (option_and_then (λ (l : Tree Place × List Token). option_and_then (λ (r : Tree Place × List Token). followed (typed (binary (operator_of w) l.0 r.0)) r.1) (expression_within scope most l.1)) o)
        ≡ option_and_then (after (most ∷ mosts)) o
    first most None = refl
    first most (Some l) = middle l.0 (expression_within scope most l.1)

    -- the two operands of a chain are read as its items are
    pub opened : (most : ℕ) (ws : List Token) → option_and_then (after mosts) (read_two (expression_within scope most) (binary (operator_of w)) ws) ≡ chain_within scope w (most ∷ most ∷ mosts) ws
    opened most ws = first most (expression_within scope most ws)

  abbrev whole : Read → Read
  whole o = joined_read w (option_and_then (after []) o)

  last_whole : (l r : Tree Place) (ws : List Token) → halved_read (followed (typed (binary (operator_of w) l r)) ws) ≡ whole (followed (typed (binary (operator_of w) l r)) ws)
  last_whole l r ws = elim (cases_Bool (is_ok (type_of (binary (operator_of w) l r)))) [
    | inl ok ↦ (let truth : is_predicate (binary (operator_of w) l r) ≡ true = chain_truth w l r ∙ sym (chain_ok w l r) ∙ ok in
        rw (ok, truth) (ap (λ (e : Tree Place). Some (e, ws)) (chain_joined w l r ∙ ap (joined w) (sym (append-nil (items w (halves (binary (operator_of w) l r))))))))
    | inr isnt ↦ rw isnt refl
  ]

  whole_after : (o : Read) (f : Tree Place × List Token → Read) → ((x : Tree Place × List Token) → halved_read (f x) ≡ whole (f x)) → halved_read (option_and_then f o) ≡ whole (option_and_then f o)
  whole_after None f h = refl
  whole_after (Some x) f h = h x

  -- a chain is what its items make up
  pub chain_read : (most : ℕ) (ws : List Token) → halved_read (read_two (expression_within scope most) (binary (operator_of w)) ws) ≡ joined_read w (chain_within scope w (most ∷ most ∷ []) ws)
  chain_read most ws =
      whole_after (expression_within scope most ws) _ (λ l. whole_after (expression_within scope most l.1) _ (λ r. last_whole l.0 r.0 r.1))
      ∙ ap (joined_read w) (opened [] most ws)
