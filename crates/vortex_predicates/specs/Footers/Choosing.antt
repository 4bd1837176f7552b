-- Which columns of a file a condition is read over, and which names refuse it.
use Rattle.std.specs.Prelude.{◌≡◌, ◌⊎◌, ◌++◌, ℕ, Bool, true, false, List, [], ◌∷◌, Option, Some, None, Contains, is_none, map, if◌then◌else◌}
use Rattle.std.specs.List.{list_all, list_any}
use Rattle.vortex_base.specs.Data.Scopes.{Named, has_duplicate, is_state_column}
use Rattle.vortex_base.specs.declared.dtype.DType.TheVariants as dtype
use Rattle.vortex_base.specs.declared.types.Nullability.TheVariants.{Nullable}
use Rattle.vortex_sql.specs.declared.cells.Cells.{Cells}
use Rattle.vortex_sql.specs.declared.cells.Cells.TheVariants as cells
use Rattle.vortex_sql.specs.Schemas.{SchemaData}
use Rattle.vortex_parquet.specs.Columns.{AreNamed, ColumnView, leaf_dtype, lookup}
use Rattle.vortex_parquet.specs.declared.columns.Content.{Content}
use Rattle.vortex_parquet.specs.declared.columns.Content.TheVariants as content
use Rattle.vortex_parquet.specs.declared.columns.Form.TheVariants as form
use Rattle.vortex_parquet.specs.declared.columns.Leaf.{Leaf}
use Rattle.vortex_parquet.specs.declared.columns.LeftOut.{LeftOut}
use Rattle.vortex_parquet.specs.declared.meaning.LeafMeaning.{LeafMeaning}
use Rattle.vortex_parquet.specs.declared.meaning.LeafMeaning.TheVariants as meaning
use Rattle.vortex_parquet.specs.declared.columns.LeftOut.TheVariants as left_out
use Rattle.vortex_predicates.specs.Footers.Mentions.{MentionData}

-- ---- names that refuse a condition

-- A column of a type that isn't read is unread, as one that the file lacks: its test tells nothing. Of the others no test could be meant.
abbrev pub reason : Option Content → Option LeftOut
reason (Some (content.LeftOut left_out.Nested)) = Some left_out.Nested
reason (Some (content.LeftOut left_out.Repeated)) = Some left_out.Repeated
reason (Some (content.LeftOut left_out.Duplicate)) = Some left_out.Duplicate
reason (Some (content.LeftOut left_out.Type)) = None
reason (Some (content.Leaf l)) = None
reason None = None

abbrev pub why_not : List ColumnView → MentionData → Option LeftOut
why_not cs m = reason (lookup m.name cs)

abbrev pub is_taken : List ColumnView → MentionData → Bool
is_taken cs m = is_none (why_not cs m)

-- the first name that refuses a condition, with its test and the reason
pub record IsFirstLeftOut (cs : List ColumnView) (ms : List MentionData) (start end : ℕ) (why : LeftOut) : Type 0 where
  pub front : List MentionData
  pub here : MentionData
  pub back : List MentionData
  pub parts : ms ≡ front ++ here ∷ back
  pub taken : list_all (is_taken cs) front ≡ true
  pub left_out : why_not cs here ≡ Some why
  pub starts : start ≡ here.start
  pub ends : end ≡ here.end

-- ---- the columns that are read

abbrev pub is_known : LeafMeaning → Bool
is_known meaning.Plain = true
is_known (meaning.Logical t) = true
is_known (meaning.Float t) = true
is_known meaning.Opaque = false

-- it is known what its cells stand for
abbrev pub is_read : Leaf → Bool
is_read l = is_known l.meaning

-- the leaf of a column whose tests are read
abbrev pub read_leaf : Leaf → Option Leaf
read_leaf l = if is_read l then Some l else None

abbrev pub cells_in : LeafMeaning → Cells
cells_in meaning.Plain = cells.Values
cells_in (meaning.Logical t) = cells.Exact t
cells_in (meaning.Float t) = cells.Floats t None
cells_in meaning.Opaque = cells.Values

-- what the cells of a leaf column stand for; nothing is said of NaN
abbrev pub cells_of : Leaf → Cells
cells_of l = cells_in l.meaning

abbrev pub leaf_in : Option Content → Option Leaf
leaf_in (Some (content.Leaf l)) = read_leaf l
leaf_in (Some (content.LeftOut why)) = None
leaf_in None = None

abbrev pub IsReadAs : List ColumnView → List ℕ → Leaf → Type 0
IsReadAs cs name l = (lookup name cs ≡ Some (content.Leaf l)) × (is_read l ≡ true)

-- these columns of the file, beside their leaves, are those whose tests are read and that are named; no name refuses the condition
pub record AreChosen (cs : List ColumnView) (ms : List MentionData) (scope : List Named) (ls : List Leaf) : Type 0 where
  pub named : AreNamed cs scope ls
  pub are_read : list_all is_read ls ≡ true
  pub each : (m : MentionData) (l : Leaf) → Contains ms m → IsReadAs cs m.name l → Contains scope (m.name, leaf_dtype l)
  pub only : (c : Named) → Contains scope c → (m : MentionData) × Contains ms m × (m.name ≡ c.0)
  pub taken : list_all (is_taken cs) ms ≡ true
  pub distinct : has_duplicate scope ≡ false
  pub storable : list_any is_state_column scope ≡ false

-- a column of no name, of which nothing is known, for conditions that name no column whose tests are read: a scope has a column
abbrev pub no_column : Named
no_column = ([], dtype.Bool Nullable)

-- the leaf beside it stands behind those of the file
abbrev pub no_leaf : ℕ → Leaf
no_leaf count = record { place = count; physical = 0; form = form.Bool; meaning = meaning.Plain; nullability = Nullable }

-- the columns of a file with so many leaf columns that a condition is read over
abbrev pub IsScopeFor : List ColumnView → ℕ → List MentionData → List Named → List Leaf → Type 0
IsScopeFor cs count ms scope ls = AreChosen cs ms scope ls ⊎ (AreChosen cs ms [] [] × (scope ≡ no_column ∷ []) × (ls ≡ no_leaf count ∷ []))

-- so with what the cells of their leaves stand for
abbrev pub IsSchemaFor : List ColumnView → ℕ → List MentionData → SchemaData → List Leaf → Type 0
IsSchemaFor cs count ms s ls = IsScopeFor cs count ms s.scope ls × (s.cells ≡ map cells_of ls)
