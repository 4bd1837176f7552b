-- When a condition is refused.
use Rattle.std.specs.Prelude.{◌≡◌, ◌⊎◌, ◌++◌, ◌&&◌, ℕ, Bool, List, [], ◌∷◌, Ok, Err, true, false, length, map}
use Rattle.vortex_base.specs.Data.Scopes.{Named, has_duplicate}
use Rattle.vortex_expr.specs.Meanings.Fitting.{fits_scope}
use Rattle.vortex_expr.specs.Trees.Tree.{Place, Tree, is_plain}
use Rattle.vortex_sql.specs.Parsing.Joining.{Joins, ands}
use Rattle.vortex_sql.specs.Parsing.Places.{Ascends, leaves}
use Rattle.vortex_sql.specs.Parsing.Refusals.{IsPlaced}
use Rattle.vortex_sql.specs.declared.syntax.tree.Leaf.{Leaf}
use Rattle.vortex_sql.specs.declared.syntax.tree.Condition.{Condition}
use Rattle.vortex_sql.specs.declared.syntax.tree.Condition.TheVariants.{Leaf as Leaf', Not', And', Or', IsNull', IsTrue', IsFalse'}
use Rattle.vortex_sql.specs.declared.lower.LowerError.{LowerError}
use Rattle.vortex_sql.specs.declared.lower.LowerError.TheVariants.{Memory, Misfit}
use Rattle.vortex_sql.specs.declared.error.SqlError.{SqlError}
use Rattle.vortex_sql.specs.declared.error.SqlError.TheVariants as sql
use Rattle.vortex_sql.specs.Lowering.{is_of_bool, leaf_columns, lowered, opaques, span_of}
use Rattle.vortex_sql.specs.Readings.{Reading, reading}
use Rattle.vortex_sql.specs.Schemas.{SchemaData}

-- the leaves of which the types of the operands don't fit, in their order
abbrev pub misfit_if : Reading → Leaf → List Leaf
misfit_if (Ok t) l = []
misfit_if (Err f) l = l ∷ []

abbrev pub misfits : SchemaData → Condition → List Leaf
misfits s (Leaf' l) = misfit_if (reading s l.test) l
misfits s (Not' p x) = misfits s x
misfits s (And' p x q y) = misfits s x ++ misfits s y
misfits s (Or' p x q y) = misfits s x ++ misfits s y
misfits s (IsNull' p x) = misfits s x
misfits s (IsTrue' p x) = misfits s x
misfits s (IsFalse' p x) = misfits s x

-- a misfit is told at the first of these leaves, so never where there is none
abbrev pub IsRefusal : List Leaf → LowerError → Type 0
IsRefusal ls Memory = Unit {0}
IsRefusal [] (Misfit s e) = ⊥
IsRefusal (l ∷ ls) (Misfit s e) = (s ≡ l.start) × (e ≡ l.end)

-- the text is a condition by its leaves and what joins them, of which the first leaf whose types don't fit stands between these places
pub record HasMisfit (text : List ℕ) (s : SchemaData) (start end : ℕ) : Type 0 where
  pub condition : Condition
  pub places : Ascends 0 (leaves condition) (length text)
  pub joined : Joins text 0 (leaves condition) (false ∷ ands condition)
  pub first : IsRefusal (misfits s condition) (Misfit start end)

-- memory, or two of these columns have one name
abbrev pub IsNameRefusal : List Named → SqlError → Type 0
IsNameRefusal cs sql.Memory = Unit {0}
IsNameRefusal cs (sql.Syntax e) = ⊥
IsNameRefusal cs (sql.Misfit s e) = ⊥
IsNameRefusal cs sql.Name = has_duplicate cs ≡ true

-- the columns of a schema, and behind them one for each leaf of a condition that isn't read
abbrev pub wide_scope : List ℕ → SchemaData → Condition → List Named
wide_scope text s c = s.scope ++ leaf_columns text (map span_of (opaques s c))

-- an expression is a plain predicate over a scope
abbrev pub is_fit : Tree Place → List Named → Bool
is_fit e scope = is_of_bool e && (is_plain e && fits_scope e scope)

-- a column has the name of a leaf that isn't read, or the expression of the condition is no plain predicate over the columns
abbrev pub IsUnnamed : List ℕ → SchemaData → Condition → Type 0
IsUnnamed text s c = (has_duplicate (wide_scope text s c) ≡ true) ⊎ (is_fit (lowered s (length s.scope) c) (wide_scope text s c) ≡ false)

-- what the condition of a text over the columns of a schema is refused for: memory, its first misfit, or the name of a leaf
abbrev pub IsSchemaRefusal : List ℕ → SchemaData → Condition → SqlError → Type 0
IsSchemaRefusal text s c sql.Memory = Unit {0}
IsSchemaRefusal text s c (sql.Syntax e) = ⊥
IsSchemaRefusal text s c (sql.Misfit b e) = IsRefusal (misfits s c) (Misfit b e)
IsSchemaRefusal text s c sql.Name = IsUnnamed text s c

-- the text is a condition by its leaves and what joins them, of which a leaf has the name of a column
pub record HasTakenName (text : List ℕ) (s : SchemaData) : Type 0 where
  pub condition : Condition
  pub places : Ascends 0 (leaves condition) (length text)
  pub joined : Joins text 0 (leaves condition) (false ∷ ands condition)
  pub unnamed : IsUnnamed text s condition

-- what a text is refused for: memory, a place in it, a misfit there, or the name of a leaf
abbrev pub IsTextRefusal : List ℕ → SchemaData → SqlError → Type 0
IsTextRefusal text s sql.Memory = Unit {0}
IsTextRefusal text s (sql.Syntax e) = IsPlaced (length text) e
IsTextRefusal text s (sql.Misfit b e) = HasMisfit text s b e
IsTextRefusal text s sql.Name = HasTakenName text s

-- why a text is refused, by why its condition isn't said
abbrev pub of_lower : LowerError → SqlError
of_lower Memory = sql.Memory
of_lower (Misfit s e) = sql.Misfit s e
