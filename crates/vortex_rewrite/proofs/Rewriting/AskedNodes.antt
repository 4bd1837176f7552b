-- What rules may cause at some nodes they may cause at more of them, and which nodes a predicate has more than its parts.
use Rattle.std.proofs.Common.{◌≡◌, List, [], ◌∷◌, ◌++◌, Option, Some, None, refl, sym, ap, ap₂, subst, ◌∙◌, arith, option_map}
use Rattle.std.specs.Prelude.{Contains}
use Rattle.std.proofs.lemmas.List.Elements.{Contains-append_left, Contains-append_right}
use Rattle.vortex_expr.specs.Trees.Between.{to_operator}
use Rattle.vortex_expr.specs.Trees.Tree.{Tree, Place, column, literal, binary, between, is_null, is_not_null, not, like, stat, row_count}
use Rattle.vortex_expr.specs.declared.scalar_fn.BetweenOptions.{BetweenOptions}
use Rattle.vortex_expr.specs.declared.scalar_fn.StrictComparison.{StrictComparison}
use Rattle.vortex_expr.specs.declared.scalar_fn.StrictComparison.TheVariants.{Strict, NonStrict}
use Rattle.vortex_expr.specs.declared.scalar_fn.Operator.TheVariants.{And, Or}
use Rattle.vortex_rewrite.proofs.Rewriting.CauseLemmas.{BringAbout}
use Rattle.vortex_rewrite.specs.Rewriting.Lawful.{OwnRule}
use Rattle.vortex_rewrite.specs.Rewriting.Falsifiers.{Ends, ends, halves}
use Rattle.vortex_rewrite.specs.Rewriting.RuleRefusals.{rule_causes}
use Rattle.vortex_rewrite.specs.Rewriting.Visited.{halves_visited, visited}
use Rattle.vortex_rewrite.proofs.Logic.{only_one}

-- ---- more rules, and more nodes

module _ (prove : OwnRule → Tree Place → Option (Tree Place)) where
  pub rules-more : (rules more : List OwnRule) (nodes : List (Tree Place)) → ((r : OwnRule) → Contains rules r → Contains more r) → BringAbout (rule_causes prove rules nodes) (rule_causes prove more nodes)
  rules-more rules more nodes w = record {
    rule = λ k s. (s.0, s.1, s.2, w s.1 s.3, s.4, s.5);
    not_bool = λ s. (s.0, s.1, s.2, w s.1 s.3, s.4, s.5);
    binder = λ k x. x;
    wrong_type = λ x. x;
    open_proof = λ x. x;
  }

  pub nodes-more : (rules : List OwnRule) (nodes more : List (Tree Place)) → ((p : Tree Place) → Contains nodes p → Contains more p) → BringAbout (rule_causes prove rules nodes) (rule_causes prove rules more)
  nodes-more rules nodes more w = record {
    rule = λ k s. (s.0, s.1, w s.0 s.2, s.3, s.4, s.5);
    not_bool = λ s. (s.0, s.1, w s.0 s.2, s.3, s.4, s.5);
    binder = λ k x. x;
    wrong_type = λ x. x;
    open_proof = λ x. x;
  }

-- ---- the nodes of a predicate

pub the_one : {X : Type 0} (x : X) → Contains (x ∷ []) x
the_one x = (0, omega arith, refl)

itself : (p : Tree Place) → Contains (visited p) p
itself (column c) = the_one (column c)
itself (literal c) = the_one (literal c)
itself (binary o l r) = Contains-append_right _ (binary o l r ∷ []) (binary o l r) (the_one (binary o l r))
itself (between o x l u) = Contains-append_right _ (between o x l u ∷ []) (between o x l u) (the_one (between o x l u))
itself (is_null x) = the_one (is_null x)
itself (is_not_null x) = the_one (is_not_null x)
itself (not x) = the_one (not x)
itself (like o x p) = the_one (like o x p)
itself (stat f x) = the_one (stat f x)
itself row_count = the_one row_count

left_in : (l r : List (Tree Place)) (p q : Tree Place) → Contains l q → Contains ((l ++ r) ++ p ∷ []) q
left_in l r p q h = Contains-append_left (l ++ r) (p ∷ []) q (Contains-append_left l r q h)

right_in : (l r : List (Tree Place)) (p q : Tree Place) → Contains r q → Contains ((l ++ r) ++ p ∷ []) q
right_in l r p q h = Contains-append_left (l ++ r) (p ∷ []) q (Contains-append_right l r q h)

comparison_visited : (s : StrictComparison) (a b : Tree Place) → visited (binary (to_operator s) a b) ≡ binary (to_operator s) a b ∷ []
comparison_visited Strict a b = refl
comparison_visited NonStrict a b = refl

visited_halves : (o : BetweenOptions) (x l u : Tree Place) → visited (halves o x l u) ≡ halves_visited x (Some (record { options = o; lower = l; upper = u }))
visited_halves o x l u =
    ap₂ (λ (v w : List (Tree Place)). (v ++ w) ++ halves o x l u ∷ []) (comparison_visited o.lower_strict l x) (comparison_visited o.upper_strict x u)

moved_in : (x h q : Tree Place) (es : Option Ends) → Some h ≡ option_map (λ e. halves e.options x e.lower e.upper) es → Contains (visited h) q → Contains (halves_visited x es) q
moved_in x h q None is held = absurd cc
moved_in x h q (Some e) is held =
    let same : h ≡ halves e.options x e.lower e.upper = cc in
    subst (λ (nodes : List (Tree Place)). Contains nodes q) (ap visited same ∙ visited_halves e.options x e.lower e.upper) held

module _ (prove : OwnRule → Tree Place → Option (Tree Place)) (rules : List OwnRule) (p : Tree Place) where
  -- at the node alone
  pub at_node : BringAbout (rule_causes prove rules (p ∷ [])) (rule_causes prove rules (visited p))
  at_node = nodes-more prove rules (p ∷ []) (visited p) (λ q h. subst (Contains (visited p)) (only_one p q h) (itself p))

  -- at the sides of a connective
  pub at_and_left : (l r : Tree Place) → p ≡ binary And l r → BringAbout (rule_causes prove rules (visited l)) (rule_causes prove rules (visited p))
  at_and_left l r is = nodes-more prove rules (visited l) (visited p) (λ q h. subst (λ e. Contains (visited e) q) (sym is) (left_in (visited l) (visited r) (binary And l r) q h))

  pub at_and_right : (l r : Tree Place) → p ≡ binary And l r → BringAbout (rule_causes prove rules (visited r)) (rule_causes prove rules (visited p))
  at_and_right l r is = nodes-more prove rules (visited r) (visited p) (λ q h. subst (λ e. Contains (visited e) q) (sym is) (right_in (visited l) (visited r) (binary And l r) q h))

  pub at_or_left : (l r : Tree Place) → p ≡ binary Or l r → BringAbout (rule_causes prove rules (visited l)) (rule_causes prove rules (visited p))
  at_or_left l r is = nodes-more prove rules (visited l) (visited p) (λ q h. subst (λ e. Contains (visited e) q) (sym is) (left_in (visited l) (visited r) (binary Or l r) q h))

  pub at_or_right : (l r : Tree Place) → p ≡ binary Or l r → BringAbout (rule_causes prove rules (visited r)) (rule_causes prove rules (visited p))
  at_or_right l r is = nodes-more prove rules (visited r) (visited p) (λ q h. subst (λ e. Contains (visited e) q) (sym is) (right_in (visited l) (visited r) (binary Or l r) q h))

  -- at the AND by which a BETWEEN is rewritten
  pub at_halves : (o : BetweenOptions) (x l u h : Tree Place) → p ≡ between o x l u → Some h ≡ option_map (λ e. halves e.options x e.lower e.upper) (ends o l u)
      → BringAbout (rule_causes prove rules (visited h)) (rule_causes prove rules (visited p))
  at_halves o x l u h is moved =
      nodes-more prove rules (visited h) (visited p)
      (λ q held. subst (λ e. Contains (visited e) q) (sym is) (Contains-append_left (halves_visited x (ends o l u)) (between o x l u ∷ []) q (moved_in x h q (ends o l u) moved held)))
