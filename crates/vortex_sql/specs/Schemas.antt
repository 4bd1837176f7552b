-- The columns that a condition may name, with what their cells stand for.
use Rattle.std.specs.Prelude.{ℕ, List, [], Option, Some, None, slice_get}
use Rattle.vortex_base.specs.Data.Scopes.{Named}
use Rattle.vortex_expr.specs.Meanings.Binding.{find_column}
use Rattle.vortex_expr.specs.Trees.Tree.{Place}
use Rattle.vortex_sql.specs.declared.cells.Cells.{Cells}
use Rattle.vortex_sql.specs.declared.cells.Cells.TheVariants.{Values}

-- the columns, and what the cells of the first of them stand for; where nothing stands, a cell is the value itself
pub record SchemaData : Type 0 where
  pub scope : List Named
  pub cells : List Cells

-- columns whose cells are the values themselves
abbrev pub plain_schema : List Named → SchemaData
plain_schema scope = record { scope = scope; cells = [] }

-- a column, and what its cells stand for
pub record Field : Type 0 where
  pub place : Place
  pub cells : Cells

abbrev pub listed : Option Cells → Cells
listed None = Values
listed (Some k) = k

abbrev pub field_at : SchemaData → Option Place → Option Field
field_at s None = None
field_at s (Some p) = Some (record { place = p; cells = listed (slice_get s.cells p.index) })

-- the column of a name
abbrev pub find_field : SchemaData → List ℕ → Option Field
find_field s name = field_at s (find_column s.scope name)
