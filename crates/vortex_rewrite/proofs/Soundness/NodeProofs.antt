-- The proofs at one node, from the tables.
use Rattle.std.proofs.Common.{◌≡◌, ◌||◌, ℕ, ◌+◌, min, arith, Some, option_map, option_to_list, if◌then◌else◌, Bool, true, false, List, [], ◌∷◌, ◌++◌, Option, None, Result, Ok, Err, IfOk, refl, sym, ap, ◌∙◌, append-nil}
use denote.Bor.{Bor}
use Rattle.std.specs.List.{cons_option}
use Rattle.vortex_expr.specs.Trees.Parts.{whole}
use Rattle.vortex_expr.specs.Trees.Tree.{Tree, Place, column, literal, binary, between, is_null, is_not_null, not, like, stat, row_count, scalar_fn_of}
use Rattle.std.proofs.lemmas.Option.{same_Some}
use Rattle.vortex_expr.specs.Trees.Between.{to_operator}
use Rattle.vortex_expr.specs.declared.scalar_fn.BetweenOptions.{BetweenOptions}
use Rattle.vortex_expr.specs.declared.scalar_fn.StrictComparison.{StrictComparison}
use Rattle.vortex_expr.specs.declared.scalar_fn.StrictComparison.TheVariants.{Strict, NonStrict}
use Rattle.vortex_expr.specs.declared.scalar_fn.Operator.{Operator}
use Rattle.vortex_expr.specs.declared.scalar_fn.Operator.TheVariants.{And, Or}
use Rattle.vortex_expr.specs.declared.bound_expression.parts.Parts.{Parts}
use Rattle.vortex_expr.specs.declared.bound_expression.parts.Parts.TheVariants as parts
use Rattle.vortex_rewrite.specs.Rewriting.Lawful.{OwnRule}
use Rattle.vortex_rewrite.specs.Rewriting.Falsifiers.{Ends, asked, binary_node, binary_visits, either_of, empty_proof, ends, ends_node, ends_visits, halves, halves_node, is_asked, is_function, node, own_proofs, proved, reduce_balanced, rewriting, table_proofs, visits}
use Rattle.vortex_rewrite.specs.Rewriting.BuiltIn.{listed}
use Rattle.vortex_rewrite.specs.Rewriting.Sides.{proof_of}
use Rattle.vortex_rewrite.specs.declared.rewrite.side.Side.{Side}
use Rattle.vortex_rewrite.specs.declared.rewrite.side.Side.TheVariants.{Falsify, Satisfy}
use Rattle.vortex_rewrite.proofs.Logic.{answer_is}
use Rattle.vortex_rewrite.specs.Answers.{Makes}
use Rattle.vortex_stats.specs.declared.error.StatsError.{StatsError}

module _ (prove : OwnRule → Tree Place → Option (Tree Place)) where
  -- no rule is asked at a column
  none_asked : (rules : List OwnRule) (p : Tree Place) → ((rule : OwnRule) → asked prove p rule ≡ None) → own_proofs prove rules p ≡ []
  none_asked [] p h = refl
  none_asked (rule ∷ rules) p h = rw (h rule) (none_asked rules p h)

  column_node : (rules : List OwnRule) (c : Place) → node prove rules (column c) [] ≡ None
  unfolding node reduce_balanced
  column_node rules c = ap (λ ps. reduce_balanced ps) (none_asked rules (column c) (λ rule. refl))

-- whether a node has two operands to compare or connect, or ends, and so no proofs in the tables
abbrev pub is_rewritten : Tree Place → Bool
is_rewritten (column c) = false
is_rewritten (literal c) = false
is_rewritten (binary o l r) = true
is_rewritten (between o x l u) = true
is_rewritten (is_null x) = false
is_rewritten (is_not_null x) = false
is_rewritten (not x) = false
is_rewritten (like o x p) = false
is_rewritten (stat f x) = false
is_rewritten row_count = false

of_table : (side : Side) (rules : List OwnRule) (p : Tree Place) → is_rewritten p ≡ false → rewriting side rules p ≡ proved side rules p (table_proofs side p)
of_table Falsify rules (column c) h = sym (column_node (proof_of Falsify) rules c)
of_table Satisfy rules (column c) h = sym (column_node (proof_of Satisfy) rules c)
of_table side rules (literal c) h = refl
of_table side rules (binary o l r) h = cc
of_table side rules (between o x l u) h = cc
of_table side rules (is_null x) h = refl
of_table side rules (is_not_null x) h = refl
of_table side rules (not x) h = refl
of_table side rules (like o x p) h = refl
of_table side rules (stat f x) h = refl
of_table side rules row_count h = refl

-- such a node takes one turn
pub plain_visits : (p : Tree Place) → is_rewritten p ≡ false → visits p ≡ 1
plain_visits (column c) h = refl
plain_visits (literal c) h = refl
plain_visits (binary o l r) h = cc
plain_visits (between o x l u) h = cc
plain_visits (is_null x) h = refl
plain_visits (is_not_null x) h = refl
plain_visits (not x) h = refl
plain_visits (like o x p) h = refl
plain_visits (stat f x) h = refl
plain_visits row_count h = refl

parts_plain : (q : Parts) → ((o : Operator) (l r : Bor (Tree Place)) → q ≡ parts.Binary o l r → ⊥) → ((o : BetweenOptions) (x l u : Bor (Tree Place)) → q ≡ parts.Between o x l u → ⊥) → is_rewritten (whole q) ≡ false
parts_plain (parts.Column i t) h k = refl
parts_plain (parts.Literal c) h k = refl
parts_plain (parts.Binary o l r) h k = absurd (h o l r refl)
parts_plain (parts.Between o x l u) h k = absurd (k o x l u refl)
parts_plain (parts.IsNull x) h k = refl
parts_plain (parts.IsNotNull x) h k = refl
parts_plain (parts.Not x) h k = refl
parts_plain (parts.Like o x p) h k = refl
parts_plain (parts.Stat f x) h k = refl
parts_plain parts.RowCount h k = refl

-- what is neither a node of two operands nor a BETWEEN is none of these
pub others_plain : (p : Tree Place) (q : Parts) → p ≡ whole q → ((o : Operator) (l r : Bor (Tree Place)) → q ≡ parts.Binary o l r → ⊥) → ((o : BetweenOptions) (x l u : Bor (Tree Place)) → q ≡ parts.Between o x l u → ⊥) → is_rewritten p ≡ false
others_plain p q e h k = ap is_rewritten e ∙ parts_plain q h k

answer_along : {E : Type 0} (r : Result (Option (Tree Place)) E) (a b : Option (Tree Place)) → a ≡ b → IfOk r (λ o. o ≡ a) → IfOk r (λ o. o ≡ b)
answer_along (Ok o) a b e k = k ∙ e
answer_along (Err f) a b e k = tt

-- the answer at a node that the tables decide
pub table_answer : {E : Type 0} (side : Side) (rules : List OwnRule) (p : Tree Place) (built_in : List (Tree Place)) (r : Result (Option (Tree Place)) E) → is_rewritten p ≡ false → built_in ≡ table_proofs side p
    → IfOk r (λ o. o ≡ proved side rules p built_in) → IfOk r (λ o. o ≡ rewriting side rules p)
table_answer side rules p built_in r h e =
    answer_along r (proved side rules p built_in) (rewriting side rules p) (ap (proved side rules p) e ∙ sym (of_table side rules p h))

-- the proofs at a node, joined
pub node_answer : (prove : OwnRule → Tree Place → Option (Tree Place)) (rules : List OwnRule) (p : Tree Place) (built_in proofs : List (Tree Place)) (r : Result (Option (Tree Place)) StatsError)
    → proofs ≡ built_in ++ own_proofs prove rules p → Makes (reduce_balanced proofs) r → IfOk r (λ o. o ≡ node prove rules p built_in)
unfolding node
node_answer prove rules p built_in proofs r e m =
    answer_along r (reduce_balanced proofs) (reduce_balanced (built_in ++ own_proofs prove rules p)) (ap reduce_balanced e) (answer_is (λ (o : Option (Tree Place)). o ≡ reduce_balanced proofs) r m)

-- two proofs at the most that are listed, one after the other
pub listed_is : (a b : Option (Tree Place)) → ([] ++ option_to_list a) ++ option_to_list b ≡ listed a b
listed_is a None = append-nil (option_to_list a)
listed_is None (Some q) = refl
listed_is (Some p) (Some q) = refl

two_joined : (a b : Option (Tree Place)) → reduce_balanced (listed a b) ≡ either_of (binary Or) a b
unfolding reduce_balanced
two_joined None None = refl
two_joined (Some p) None = refl
two_joined None (Some q) = refl
two_joined (Some p) (Some q) = refl

-- where no rule of the user is asked, none proves anything
unasked : (prove : OwnRule → Tree Place → Option (Tree Place)) (rules : List OwnRule) (p : Tree Place) → is_asked rules p ≡ false → own_proofs prove rules p ≡ []
unasked prove [] p h = refl
unasked prove (rule ∷ rules) p h = one (is_function (scalar_fn_of p) rule.id) (unasked prove rules p) h
  where
    one : (b : Bool) → (is_asked rules p ≡ false → own_proofs prove rules p ≡ []) → (b || is_asked rules p) ≡ false → cons_option (if b then prove rule p else None) (own_proofs prove rules p) ≡ []
    one true rest k = absurd cc
    one false rest k = rest k

-- and the built-in proofs joined are the answer
pub alone : (prove : OwnRule → Tree Place → Option (Tree Place)) (rules : List OwnRule) (p : Tree Place) (a b : Option (Tree Place)) (r : Result (Option (Tree Place)) StatsError) → is_asked rules p ≡ false
    → Makes (either_of (binary Or) a b) r → IfOk r (λ o. o ≡ node prove rules p (listed a b))
unfolding node
alone prove rules p a b r none m =
    answer_along r (either_of (binary Or) a b) (reduce_balanced (listed a b ++ own_proofs prove rules p))
    (sym (ap (λ ps. reduce_balanced (listed a b ++ ps)) (unasked prove rules p none) ∙ ap reduce_balanced (append-nil (listed a b)) ∙ two_joined a b))
    (answer_is (λ (o : Option (Tree Place)). o ≡ either_of (binary Or) a b) r m)

-- ---- a BETWEEN

module _ (side : Side) (rules : List OwnRule) (o : BetweenOptions) (x l u : Tree Place) where
  abbrev and_of : Ends → Tree Place
  and_of e = halves e.options x e.lower e.upper

  ends_none : (es : Option Ends) → None ≡ option_map and_of es → empty_proof side ≡ ends_node side rules x es
  ends_none None h = refl
  ends_none (Some e) h = cc

  end_node : (s : StrictComparison) (l r : Tree Place) (f g : Option (Tree Place)) → binary_node side rules (to_operator s) l r f g ≡ binary_node side rules (to_operator s) l r None None
  end_node Strict l r f g = refl
  end_node NonStrict l r f g = refl

  halves_are : (e : Ends) → rewriting side rules (and_of e) ≡ halves_node side rules e.options x e.lower e.upper
  halves_are e = λ i. binary_node side rules And (binary (to_operator e.options.lower_strict) e.lower x) (binary (to_operator e.options.upper_strict) x e.upper)
      (end_node e.options.lower_strict e.lower x (rewriting side rules e.lower) (rewriting side rules x) i) (end_node e.options.upper_strict x e.upper (rewriting side rules x) (rewriting side rules e.upper) i)

  ends_some : (h : Tree Place) (es : Option Ends) → Some h ≡ option_map and_of es → rewriting side rules h ≡ ends_node side rules x es
  ends_some h None e = cc
  ends_some h (Some f) e = ap (rewriting side rules) (same_Some _ _ e) ∙ halves_are f

  end_visits : (s : StrictComparison) (m n : ℕ) → binary_visits (to_operator s) m n ≡ 1
  end_visits Strict m n = refl
  end_visits NonStrict m n = refl

  and_visits : (e : Ends) → visits (and_of e) ≡ 3
  and_visits e = λ i. 1 + (end_visits e.options.lower_strict (visits e.lower) (visits x) i + end_visits e.options.upper_strict (visits x) (visits e.upper) i)

  visits_some : (h : Tree Place) (es : Option Ends) → Some h ≡ option_map and_of es → (ends_visits es ≡ 4) × (visits h ≡ 3)
  visits_some h None e = cc
  visits_some h (Some f) e = (refl, ap visits (same_Some _ _ e) ∙ and_visits f)

  visits_none : (es : Option Ends) → None ≡ option_map and_of es → ends_visits es ≡ 1
  visits_none None e = refl
  visits_none (Some f) e = cc

  module _ (p : Tree Place) (p_is : p ≡ between o x l u) where
    pub between_answer : {E : Type 0} (proof : Option (Tree Place)) (r : Result (Option (Tree Place)) E) → proof ≡ ends_node side rules x (ends o l u)
        → IfOk r (λ a. a ≡ proved side rules p (option_to_list proof)) → IfOk r (λ a. a ≡ rewriting side rules p)
    between_answer proof r h =
        answer_along r (proved side rules p (option_to_list proof)) (rewriting side rules p)
        ((λ i. proved side rules (p_is i) (option_to_list (h i))) ∙ sym (ap (rewriting side rules) p_is))

    pub empty_node : None ≡ option_map and_of (ends o l u) → empty_proof side ≡ ends_node side rules x (ends o l u)
    empty_node h = ends_none (ends o l u) h

    pub moved_node : (h : Tree Place) → Some h ≡ option_map and_of (ends o l u) → rewriting side rules h ≡ ends_node side rules x (ends o l u)
    moved_node h e = ends_some h (ends o l u) e

    pub empty_visits : None ≡ option_map and_of (ends o l u) → visits p ≡ 1
    empty_visits h = ap visits p_is ∙ visits_none (ends o l u) h

    pub moved_visits : (h : Tree Place) → Some h ≡ option_map and_of (ends o l u) → (visits p ≡ 4) × (visits h ≡ 3)
    moved_visits h e = let k = visits_some h (ends o l u) e in (ap visits p_is ∙ k.0, k.1)

pub always_ok : {X E : Type 0} (r : Result X E) (P : Type 0) → P → IfOk r (λ x. P)
always_ok (Ok x) P h = h
always_ok (Err e) P h = tt

-- a BETWEEN's turns are its own and those of the AND
pub empty_turns : (old turned now e most : ℕ) → turned ≡ min (old + 1) most → now ≡ turned → e ≡ 1 → now ≡ min (old + e) most
empty_turns old turned now e most h k l = omega arith

pub moved_turns : (old turned now a e most : ℕ) → turned ≡ min (old + 1) most → now ≡ min (turned + a) most → a ≡ 3 → e ≡ 4 → now ≡ min (old + e) most
moved_turns old turned now a e most h k l m = omega arith
