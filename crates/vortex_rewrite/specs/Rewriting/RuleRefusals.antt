-- What the rules of a user may cause, at the nodes where they are asked.
use Rattle.std.specs.Prelude.{◌≡◌, false, List, Option, Contains, IsSomeAnd, IsTrue}
use Rattle.vortex_expr.specs.Trees.Tree.{Tree, Place, scalar_fn_of}
use Rattle.vortex_rewrite.specs.Causes.{Causes, no_causes}
use Rattle.vortex_rewrite.specs.Rewriting.Lawful.{OwnRule}
use Rattle.vortex_rewrite.specs.Rewriting.Predicates.{is_predicate}
use Rattle.vortex_rewrite.specs.Rewriting.Falsifiers.{is_function}

-- some rule is asked at some of the nodes, one of its function, and this is so of the two
abbrev pub SomeAsked : (Tree Place → OwnRule → Type 0) → List OwnRule → (nodes : List (Tree Place)) → Type 0
SomeAsked P rules nodes = (p : Tree Place) × (rule : OwnRule) × Contains nodes p × Contains rules rule × IsTrue (is_function (scalar_fn_of p) rule.id) × P p rule

-- what the rules may cause that are asked at these nodes: a fault that a rule asked there names, and a proof that one names there and that isn't of type Bool
abbrev pub rule_causes : (OwnRule → Tree Place → Option (Tree Place)) → List OwnRule → (nodes : List (Tree Place)) → Causes
rule_causes prove rules nodes = record no_causes {
  rule = λ k. SomeAsked (λ p rule. IsTrue (rule.can_fault k)) rules nodes;
  not_bool = SomeAsked (λ p rule. IsSomeAnd (prove rule p) (λ e. is_predicate e ≡ false)) rules nodes;
}
