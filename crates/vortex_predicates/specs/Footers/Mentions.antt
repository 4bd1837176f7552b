-- The names of columns in a condition.
use Rattle.std.specs.Prelude.{ℕ, List, [], ◌∷◌, ◌++◌, map}
use Rattle.vortex_sql.specs.declared.syntax.tree.Condition.{Condition}
use Rattle.vortex_sql.specs.declared.syntax.tree.Condition.TheVariants.{Leaf as Leaf', Not', And', Or', IsNull', IsTrue', IsFalse'}
use Rattle.vortex_sql.specs.declared.syntax.tree.Leaf.{Leaf}
use Rattle.vortex_sql.specs.declared.syntax.tree.Operand.{Operand}
use Rattle.vortex_sql.specs.declared.syntax.tree.Operand.TheVariants as operand
use Rattle.vortex_sql.specs.declared.syntax.tree.Test.{Test}
use Rattle.vortex_sql.specs.declared.syntax.tree.Test.TheVariants as test
use Rattle.vortex_predicates.specs.declared.parquet.mentions.Mention.{Mention}

-- a name, and the bytes of the text in which the test stands that has it
pub record MentionData : Type 0 where
  pub name : List ℕ
  pub start : ℕ
  pub end : ℕ

abbrev pub view : Mention → MentionData
view m = record { name = m.name.now; start = m.start; end = m.end }

abbrev pub views : List Mention → List MentionData
views ms = map view ms

-- the name that an operand is
abbrev pub of_operand : Leaf → Operand → List MentionData
of_operand l (operand.Column name) = record { name = name; start = l.start; end = l.end } ∷ []
of_operand l operand.Null = []
of_operand l (operand.Truth b) = []
of_operand l (operand.Exact x) = []
of_operand l (operand.Float b) = []
of_operand l (operand.Text bs) = []
of_operand l (operand.Binary bs) = []
of_operand l operand.Other = []

abbrev pub of_operands : Leaf → List Operand → List MentionData
of_operands l [] = []
of_operands l (x ∷ xs) = of_operand l x ++ of_operands l xs

abbrev pub of_test : Leaf → Test → List MentionData
of_test l (test.Truth x) = of_operand l x
of_test l (test.Compare c x y) = of_operand l x ++ of_operand l y
of_test l (test.Distinct x y) = of_operand l x ++ of_operand l y
of_test l (test.IsNull x) = of_operand l x
of_test l (test.Between x y z) = of_operand l x ++ of_operand l y ++ of_operand l z
of_test l (test.BetweenSymmetric x y z) = of_operand l x ++ of_operand l y ++ of_operand l z
of_test l (test.In x ys) = of_operand l x ++ of_operands l ys
of_test l (test.Like x p e) = of_operand l x ++ of_operand l p
of_test l test.Other = []

-- the names in a condition, from the left
abbrev pub mentions : Condition → List MentionData
mentions (Leaf' l) = of_test l l.test
mentions (Not' p x) = mentions x
mentions (And' p x q y) = mentions x ++ mentions y
mentions (Or' p x q y) = mentions x ++ mentions y
mentions (IsNull' p x) = mentions x
mentions (IsTrue' p x) = mentions x
mentions (IsFalse' p x) = mentions x
