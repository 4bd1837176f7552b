-- Names in two parts of a condition, put together.
use Rattle.std.proofs.Common.{ℕ, List, ◌++◌}
use Rattle.std.proofs.lemmas.List.Elements.{All-append}
use Rattle.std.specs.Prelude.{All}
use Rattle.vortex_sql.specs.Parsing.Naming.{IsLeafNamed}
use Rattle.vortex_sql.specs.declared.syntax.cursor.Names.{Names}
use Rattle.vortex_sql.specs.declared.syntax.tree.Leaf.{Leaf}

pub of_pair : (text : List ℕ) (names : Names) (xs ys : List Leaf) → All (IsLeafNamed text names) xs → All (IsLeafNamed text names) ys → All (IsLeafNamed text names) (xs ++ ys)
of_pair text names xs ys h k = All-append (IsLeafNamed text names) xs ys h k
