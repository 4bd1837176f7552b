-- Expressions whose chains of AND and of OR are joined in halves.
use Rattle.std.specs.Prelude.{ℕ, zero, suc, Bool, true, false, List, [], ◌∷◌, ◌++◌, length}
use Rattle.vortex_expr.specs.Trees.Connectives.{operator_of}
use Rattle.vortex_expr.specs.Trees.Tree.{Tree, Place, column, literal, binary, between, is_null, is_not_null, not, like, stat, row_count}
use Rattle.vortex_expr.specs.declared.scalar_fn.Operator.{Operator}
use Rattle.vortex_expr.specs.declared.scalar_fn.Operator.TheVariants.{And, Or}
use Rattle.vortex_rewrite.specs.Rewriting.Falsifiers.{bool_literal}

-- ---- joining

-- neighbours joined, in their order; the last of an odd number stays as it is
abbrev pub paired : (is_and : Bool) → List (Tree Place) → List (Tree Place)
paired w [] = []
paired w (a ∷ []) = a ∷ []
paired w (a ∷ b ∷ es) = binary (operator_of w) a b ∷ paired w es

-- so for some turns
abbrev pub in_turns : (turns : ℕ) → (is_and : Bool) → List (Tree Place) → List (Tree Place)
in_turns zero w es = es
in_turns (suc n) w es = in_turns n w (paired w es)

abbrev pub first_or : Tree Place → List (Tree Place) → Tree Place
first_or e [] = e
first_or e (a ∷ es) = a

-- the one that is left: as many turns as there are items are more than enough; no chain has no item
abbrev pub joined : (is_and : Bool) → List (Tree Place) → Tree Place
joined w es = first_or (bool_literal w) (in_turns (length es) w es)

-- ---- chains

-- an expression whose chains are joined in halves: itself, and its items as those of a chain of AND and as those of a chain of OR
pub record Halves : Type 0 where
  pub whole : Tree Place
  pub ands : List (Tree Place)
  pub ors : List (Tree Place)

-- one that is no chain is its own only item
abbrev pub alone : Tree Place → Halves
alone e = record { whole = e; ands = e ∷ []; ors = e ∷ [] }

abbrev pub chain_of : (is_and : Bool) → List (Tree Place) → Halves
chain_of true es = record { whole = joined true es; ands = es; ors = joined true es ∷ [] }
chain_of false es = record { whole = joined false es; ands = joined false es ∷ []; ors = es }

-- two operands: the items of an AND are those of both its operands, and so with OR
abbrev pub combined : Operator → Halves → Halves → Halves
combined And l r = chain_of true (l.ands ++ r.ands)
combined Or l r = chain_of false (l.ors ++ r.ors)
combined o l r = alone (binary o l.whole r.whole)

abbrev pub halves : Tree Place → Halves
halves (column c) = alone (column c)
halves (literal c) = alone (literal c)
halves (binary o l r) = combined o (halves l) (halves r)
halves (between o x l u) = alone (between o (halves x).whole (halves l).whole (halves u).whole)
halves (is_null x) = alone (is_null (halves x).whole)
halves (is_not_null x) = alone (is_not_null (halves x).whole)
halves (not x) = alone (not (halves x).whole)
halves (like o x p) = alone (like o (halves x).whole (halves p).whole)
halves (stat f x) = alone (stat f (halves x).whole)
halves row_count = alone row_count

-- the items of an expression as those of a chain
abbrev pub items : (is_and : Bool) → Halves → List (Tree Place)
items true h = h.ands
items false h = h.ors

-- the expression with each of its chains joined in halves
abbrev pub halved : Tree Place → Tree Place
halved e = (halves e).whole
