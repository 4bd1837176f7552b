-- Expressions joined in halves by OR.
use Rattle.std.specs.Prelude.{ℕ, zero, suc, Option, Some, None, List, [], ◌∷◌, length}
use Rattle.vortex_expr.specs.declared.scalar_fn.Operator.TheVariants.{Or}
use Rattle.vortex_expr.specs.Trees.Tree.{Tree, Place, binary}

-- neighbours joined, in their order; the last of an odd number stays as it is
abbrev pub paired : List (Tree Place) → List (Tree Place)
paired [] = []
paired (a ∷ []) = a ∷ []
paired (a ∷ b ∷ es) = binary Or a b ∷ paired es

-- so for some turns
abbrev pub in_turns : (turns : ℕ) → List (Tree Place) → List (Tree Place)
in_turns zero es = es
in_turns (suc n) es = in_turns n (paired es)

abbrev pub first_of : List (Tree Place) → Option (Tree Place)
first_of [] = None
first_of (a ∷ es) = Some a

-- the one that is left: as many turns as there are expressions are more than enough
abbrev pub joined : List (Tree Place) → Option (Tree Place)
joined es = first_of (in_turns (length es) es)
