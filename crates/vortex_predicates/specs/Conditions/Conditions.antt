-- What the proofs of a condition's predicate, and pruning by them, say of the condition itself.
use Rattle.std.specs.Prelude.{◌≡◌, ◌<◌, ◌++◌, ℕ, true, Contains, IsTrue, List, [], Option, Some, map, replicate, slice_get}
use Rattle.vortex_base.specs.Data.Columns.{row_count as rows_of}
use Rattle.vortex_base.specs.Data.Scopes.{IsScope, Named}
use Rattle.vortex_expr.specs.Meanings.Fitting.{fits_scope}
use Rattle.vortex_expr.specs.Trees.Tree.{Tree, Place}
use Rattle.vortex_predicates.specs.Pruning.{IsRight, Pruning}
use Rattle.vortex_prune.specs.Binding.PartAnswers.{told_values}
use Rattle.vortex_prune.specs.Part.{IsPartOf, IsTruePart, PartData}
use Rattle.vortex_zone_map.specs.Zone.{ZoneData}
use Rattle.vortex_prune.specs.Scanning.Selection.{proves_of}
use Rattle.vortex_sql.specs.declared.syntax.tree.Leaf.{Leaf}
use Rattle.vortex_sql.specs.declared.syntax.tree.Condition.{Condition}
use Rattle.vortex_sql.specs.Lowering.{Says, opaques, types_of}
use Rattle.vortex_sql.specs.Pruning.{Confirmed, Refuted}
use Rattle.vortex_sql.specs.declared.cells.Cells.{Cells}
use Rattle.vortex_sql.specs.Readings.{bool_or_null}
use Rattle.vortex_sql.specs.Schemas.{SchemaData}

-- ---- the columns of the leaves that aren't read

-- a nullable column of type Bool for each leaf
abbrev pub AreColumnsOf : List Named → List Leaf → Type 0
AreColumnsOf more ls = types_of more ≡ map (λ l. bool_or_null) ls

-- the zone over a scope with k more columns, of which nothing is known
abbrev pub widened_zone : ℕ → ZoneData → ZoneData
widened_zone k zone = record { rows = zone.rows; stats = zone.stats ++ replicate k [] }

-- ---- what proofs tell by the statistics of a zone, over the condition's own scope

-- if the statistics of a zone are true of the rows in it and the proof, if there is one, is true by them, no row satisfies the condition, whatever the leaves that aren't read mean
abbrev pub Refutes : SchemaData → Condition → (proof : Option (Tree Place)) → Type 0
Refutes s c proof =
    (zone : ZoneData) (part : PartData) → IsPartOf s.scope zone part → IsTruePart part → proves_of proof zone.rows (told_values s.scope zone) ≡ true
    → (r : ℕ) → r < rows_of part.chunk.columns → Refuted s c part.chunk.columns r

-- and so each row satisfies it
abbrev pub Confirms : SchemaData → Condition → (proof : Option (Tree Place)) → Type 0
Confirms s c proof =
    (zone : ZoneData) (part : PartData) → IsPartOf s.scope zone part → IsTruePart part → proves_of proof zone.rows (told_values s.scope zone) ≡ true
    → (r : ℕ) → r < rows_of part.chunk.columns → Confirmed s c part.chunk.columns r

-- proofs that are right of the predicate of a condition, over its scope with a column for each leaf that isn't read, tell so of the condition by statistics of its own scope alone
abbrev pub ProofsTell : Type 0
ProofsTell =
    (s : SchemaData) (more : List Named) (c : Condition) (x : Pruning) → IsScope (s.scope ++ more) → Says s c x.predicate → AreColumnsOf more (opaques s c)
    → IsTrue (fits_scope x.predicate (s.scope ++ more)) → IsRight x → Refutes s c x.falsifier × Confirms s c x.satisfier

-- ---- a condition with its proofs

-- the most levels of a form that takes part in the proofs
abbrev pub max_levels : ℕ
max_levels = 128

-- the predicate is the one that its proofs were made of
pub record ProvedCondition : Type 0 where
  pub scope : List Named
  pub cells : List Cells
  pub condition : Condition
  pub predicate : Tree Place
  pub falsifier : Option (Tree Place)
  pub satisfier : Option (Tree Place)

-- the columns that it may name
abbrev pub schema_of : ProvedCondition → SchemaData
schema_of x = record { scope = x.scope; cells = x.cells }

abbrev pub pruning_of : ProvedCondition → Pruning
pruning_of x = record { predicate = x.predicate; falsifier = x.falsifier; satisfier = x.satisfier }

pub record AreProofsOf (x : ProvedCondition) : Type 0 where
  pub says : Says (schema_of x) x.condition x.predicate
  pub refutes : Refutes (schema_of x) x.condition x.falsifier
  pub confirms : Confirms (schema_of x) x.condition x.satisfier

-- ---- pruning

-- whatever rows stand in a zone, if its statistics are true of them, and whatever the leaves that aren't read mean: none satisfies the condition where the zone is skipped, and each does where it is whole
abbrev pub IsSoundFor : SchemaData → Condition → List ZoneData → (skipped whole : List ℕ) → Type 0
IsSoundFor s c zones skipped whole =
    (i : ℕ) (zone : ZoneData) (part : PartData) → slice_get zones i ≡ Some zone → IsPartOf s.scope zone part → IsTruePart part
    → (Contains skipped i → (r : ℕ) → r < rows_of part.chunk.columns → Refuted s c part.chunk.columns r)
    × (Contains whole i → (r : ℕ) → r < rows_of part.chunk.columns → Confirmed s c part.chunk.columns r)
