-- Predicates joined two by two, so that the whole is no deeper than the logarithm of their number above them.
use Rattle.std.specs.Prelude.{ℕ, zero, suc, ◌+◌, Bool, List, [], ◌∷◌, length, max}
use Rattle.vortex_expr.specs.Trees.Tree.{Tree, Place, column, literal, binary, between, is_null, is_not_null, not, like, stat, row_count}
use Rattle.vortex_rewrite.specs.Rewriting.Falsifiers.{bool_literal}
use Rattle.vortex_normal.specs.Pushed.{connected}

-- neighbours joined, in their order; the last of an odd number stays as it is
abbrev pub paired : (is_and : Bool) → List (Tree Place) → List (Tree Place)
paired w [] = []
paired w (a ∷ []) = a ∷ []
paired w (a ∷ b ∷ es) = connected w a b ∷ paired w es

-- so for some turns
abbrev pub in_turns : (turns : ℕ) → (is_and : Bool) → List (Tree Place) → List (Tree Place)
in_turns zero w es = es
in_turns (suc n) w es = in_turns n w (paired w es)

abbrev pub first_or : Tree Place → List (Tree Place) → Tree Place
first_or e [] = e
first_or e (a ∷ es) = a

-- the one that is left: as many turns as there are predicates are more than enough; of none, the truth that joining adds nothing to
abbrev pub balanced : (is_and : Bool) → List (Tree Place) → Tree Place
balanced w es = first_or (bool_literal w) (in_turns (length es) w es)

-- the most nodes above a leaf
abbrev pub depth : Tree Place → ℕ
depth (column c) = 0
depth (literal c) = 0
depth (binary o l r) = max (depth l) (depth r) + 1
depth (between o x l u) = max (depth x) (max (depth l) (depth u)) + 1
depth (is_null x) = depth x + 1
depth (is_not_null x) = depth x + 1
depth (not x) = depth x + 1
depth (like o x p) = max (depth x) (depth p) + 1
depth (stat f x) = depth x + 1
depth row_count = 0
