-- When a condition is that of a text.
use Rattle.std.specs.Prelude.{ℕ, List, ◌∷◌, false, length}
use Rattle.vortex_sql.specs.Parsing.Joining.{Joins, ands}
use Rattle.vortex_sql.specs.Parsing.Naming.{AreNamed}
use Rattle.vortex_sql.specs.Parsing.Places.{Ascends, leaves}
use Rattle.vortex_sql.specs.declared.syntax.cursor.Names.{Names}
use Rattle.vortex_sql.specs.declared.syntax.tree.Condition.{Condition}

-- its leaves ascend within the text, AND stands between two of them exactly where AND joins them, and names of several parts are read as they are wanted
pub record IsReadAs (text : List ℕ) (names : Names) (c : Condition) : Type 0 where
  pub places : Ascends 0 (leaves c) (length text)
  pub joined : Joins text 0 (leaves c) (false ∷ ands c)
  pub named : AreNamed text names c
