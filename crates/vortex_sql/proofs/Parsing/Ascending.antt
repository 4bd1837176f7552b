-- Leaves that ascend, put together.
use Rattle.std.proofs.Common.{ℕ, ◌≤◌, List, [], ◌∷◌, ◌++◌, arith}
use Rattle.vortex_sql.specs.declared.syntax.tree.Leaf.{Leaf}
use Rattle.vortex_sql.specs.Parsing.Places.{Ascends}

later : (a b to : ℕ) (ls : List Leaf) → a ≤ b → Ascends b ls to → Ascends a ls to
later a b to [] h k = omega arith
later a b to (l ∷ ls) h k = let first : a ≤ l.start = omega (arith, k.0) in (first, k.1, k.2)

pub along : (from middle to : ℕ) (xs ys : List Leaf) → Ascends from xs middle → Ascends middle ys to → Ascends from (xs ++ ys) to
along from middle to [] ys h k = later from middle to ys h k
along from middle to (l ∷ ls) ys h k = (h.0, h.1, along l.end middle to ls ys h.2 k)

pub wider : (from end to : ℕ) (ls : List Leaf) → Ascends from ls end → end ≤ to → Ascends from ls to
wider from end to [] h k = omega arith
wider from end to (l ∷ ls) h k = (h.0, h.1, wider l.end end to ls h.2 k)
