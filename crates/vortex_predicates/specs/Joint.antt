-- Two proofs as one, which is true where either is.
use Rattle.std.specs.Prelude.{Bool, ◌&&◌, ◌||◌, Option, Some, None, if◌then◌else◌}
use Rattle.vortex_expr.specs.Trees.Tree.{Tree, Place, binary}
use Rattle.vortex_expr.specs.Trees.TreeEq.{tree_eq}
use Rattle.vortex_expr.specs.declared.scalar_fn.Operator.TheVariants.{And, Or}

-- the shapes of two proofs show that the first is true where the second is: they are one, or the second stands in the first beside more
abbrev pub covers : (proof other : Tree Place) → Bool
covers (binary Or a b) (binary Or c d) = tree_eq (binary Or a b) (binary Or c d) || (tree_eq a (binary Or c d) || (covers a c && covers b d))
covers (binary Or a b) f = tree_eq a f
covers (binary And a b) (binary And c d) = tree_eq (binary And a b) (binary And c d) || (covers a c && covers b d)
covers e f = tree_eq e f

-- the second proof alone where it covers the first
abbrev pub joint : (first second : Option (Tree Place)) → Option (Tree Place)
joint None g = g
joint (Some f) None = Some f
joint (Some f) (Some g) = if covers g f then Some g else Some (binary Or f g)
