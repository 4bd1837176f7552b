-- The nodes at which the rules are asked for a proof of a predicate, that no row satisfies it or that every row does.
use Rattle.std.specs.Prelude.{List, [], ◌∷◌, ◌++◌, Option, Some, None}
use Rattle.vortex_expr.specs.declared.scalar_fn.Operator.{Operator}
use Rattle.vortex_expr.specs.declared.scalar_fn.Operator.TheVariants.{And, Or}
use Rattle.vortex_expr.specs.Trees.Between.{to_operator}
use Rattle.vortex_expr.specs.Trees.Tree.{Tree, Place, column, literal, binary, between, is_null, is_not_null, not, like, stat, row_count}
use Rattle.vortex_rewrite.specs.Rewriting.Falsifiers.{Ends, ends, halves}

-- the nodes of the sides of a connective, left before right; the operands of a comparison are not visited
abbrev pub sides_visited : Operator → (l r : List (Tree Place)) → List (Tree Place)
sides_visited And l r = l ++ r
sides_visited Or l r = l ++ r
sides_visited o l r = []

-- the two comparisons by which a BETWEEN is rewritten and their AND, if it is rewritten
abbrev pub halves_visited : (x : Tree Place) → Option Ends → List (Tree Place)
halves_visited x None = []
halves_visited x (Some e) =
    binary (to_operator e.options.lower_strict) e.lower x ∷ binary (to_operator e.options.upper_strict) x e.upper ∷ halves e.options x e.lower e.upper ∷ []

-- the nodes in their order, each after those that it's proved by
abbrev pub visited : Tree Place → List (Tree Place)
visited (column c) = column c ∷ []
visited (literal c) = literal c ∷ []
visited (binary o l r) = sides_visited o (visited l) (visited r) ++ binary o l r ∷ []
visited (between o x l u) = halves_visited x (ends o l u) ++ between o x l u ∷ []
visited (is_null x) = is_null x ∷ []
visited (is_not_null x) = is_not_null x ∷ []
visited (not x) = not x ∷ []
visited (like o x p) = like o x p ∷ []
visited (stat f x) = stat f x ∷ []
visited row_count = row_count ∷ []
