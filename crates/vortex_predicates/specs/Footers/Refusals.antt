-- What making a condition over a file's columns is refused for.
use Rattle.std.specs.Prelude.{◌≡◌, ℕ, ◌∷◌, false, List, Some, Result, Ok, Err, length, map}
use Rattle.vortex_sql.specs.Schemas.{SchemaData}
use Rattle.vortex_parquet.specs.Columns.{ColumnView}
use Rattle.vortex_parquet.specs.Stats.{GroupData}
use Rattle.vortex_parquet.specs.declared.fault.Fault.{Fault}
use Rattle.vortex_parquet.specs.declared.fault.ReadError.{ReadError}
use Rattle.vortex_parquet.specs.declared.fault.ReadError.TheVariants as read
use Rattle.vortex_sql.specs.declared.error.SqlError.{SqlError}
use Rattle.vortex_sql.specs.declared.error.SqlError.TheVariants as sql
use Rattle.vortex_predicates.specs.declared.sql.error.ConditionError.{ConditionError}
use Rattle.vortex_predicates.specs.declared.sql.error.ConditionError.TheVariants as condition
use Rattle.vortex_sql.specs.Parsing.Joining.{Joins, ands}
use Rattle.vortex_sql.specs.Parsing.Places.{Ascends, leaves}
use Rattle.vortex_sql.specs.declared.syntax.tree.Condition.{Condition}
use Rattle.vortex_stats.specs.declared.error.StatsError.{StatsError}
use Rattle.vortex_stats.specs.declared.error.StatsError.TheVariants as stats
use Rattle.vortex_prune.specs.Scanning.ZoneScans.{open_causes}
use Rattle.vortex_rewrite.specs.Causes.{IsRefusal, either_causes}
use Rattle.vortex_rewrite.specs.Rewriting.Lawful.{OwnRule}
use Rattle.vortex_zone_map.specs.Zone.{ZoneData, zones_fit}
use Rattle.vortex_parquet.specs.declared.columns.Leaf.{Leaf}
use Rattle.vortex_sql.specs.Parsing.Refusals.{IsPlaced}
use Rattle.vortex_sql.specs.Refusals.{HasMisfit, HasTakenName}
use Rattle.vortex_predicates.specs.Conditions.Conditions.{ProvedCondition}
use Rattle.vortex_predicates.specs.Conditions.Refusals.{AreProofsRefused}
use Rattle.vortex_predicates.specs.RowGroups.Pruning.{known_zone}
use Rattle.vortex_predicates.specs.Footers.Choosing.{IsFirstLeftOut, IsSchemaFor, why_not}
use Rattle.vortex_predicates.specs.Footers.Mentions.{MentionData, mentions}
use Rattle.vortex_predicates.specs.declared.parquet.error.FooterError.{FooterError}
use Rattle.vortex_predicates.specs.declared.parquet.error.FooterError.TheVariants as error

-- ---- errors of the layers below

abbrev pub of_read : ReadError → FooterError
of_read read.Memory = error.Memory
of_read (read.Fault f) = error.Footer f

abbrev pub of_sql : SqlError → FooterError
of_sql sql.Memory = error.Memory
of_sql (sql.Syntax e) = error.Sql (sql.Syntax e)
of_sql (sql.Misfit s e) = error.Sql (sql.Misfit s e)
of_sql sql.Name = error.Sql sql.Name

abbrev pub of_stats : StatsError → FooterError
of_stats e = error.Stats e

abbrev pub of_condition : ConditionError → FooterError
of_condition (condition.Sql e) = of_sql e
of_condition (condition.Stats e) = of_stats e

-- ---- refusals

-- a name refuses a condition, and is told by its test and the reason
abbrev pub IsLeftOutBy : List ColumnView → MentionData → FooterError → Type 0
IsLeftOutBy cs m (error.LeftOut s e why) = (why_not cs m ≡ Some why) × (s ≡ m.start) × (e ≡ m.end)
IsLeftOutBy cs m error.Memory = Unit {0}
IsLeftOutBy cs m (error.Footer f) = ⊥
IsLeftOutBy cs m (error.Sql e) = ⊥
IsLeftOutBy cs m (error.Stats e) = ⊥

-- the first of these names that refuses a condition is told, by its test and the reason
abbrev pub IsLeftOutOf : List ColumnView → List MentionData → FooterError → Type 0
IsLeftOutOf cs ms (error.LeftOut s e why) = IsFirstLeftOut cs ms s e why
IsLeftOutOf cs ms error.Memory = Unit {0}
IsLeftOutOf cs ms (error.Footer f) = ⊥
IsLeftOutOf cs ms (error.Sql e) = ⊥
IsLeftOutOf cs ms (error.Stats e) = ⊥

-- the text is a condition over the columns of a file that it names and that are read; the first leaf of it whose types don't fit stands between these places
pub record IsMisfitOf (cs : List ColumnView) (count : ℕ) (text : List ℕ) (start end : ℕ) : Type 0 where
  pub condition : Condition
  pub schema : SchemaData
  pub leaves : List Leaf
  pub chosen : IsSchemaFor cs count (mentions condition) schema leaves
  pub misfit : HasMisfit text schema start end

-- the text is a condition over the columns of a file that it names and that are read, of which a leaf has the name of a column
pub record IsNameTaken (cs : List ColumnView) (count : ℕ) (text : List ℕ) : Type 0 where
  pub condition : Condition
  pub schema : SchemaData
  pub leaves : List Leaf
  pub chosen : IsSchemaFor cs count (mentions condition) schema leaves
  pub taken : HasTakenName text schema

-- a text is no condition at this place of it, or one whose types don't fit, or one of which a leaf has the name of a column
abbrev pub IsSqlRefusal : List ColumnView → ℕ → List ℕ → SqlError → Type 0
IsSqlRefusal cs count text sql.Memory = ⊥
IsSqlRefusal cs count text (sql.Syntax e) = IsPlaced (length text) e
IsSqlRefusal cs count text (sql.Misfit s e) = IsMisfitOf cs count text s e
IsSqlRefusal cs count text sql.Name = IsNameTaken cs count text

-- the proofs are refused of a condition over the columns that it names and that are read: for memory, or for a rule of the user
pub record AreProofsOfRefused (own : List OwnRule) (cs : List ColumnView) (count : ℕ) (text : List ℕ) (f : StatsError) : Type 0 where
  pub condition : Condition
  pub schema : SchemaData
  pub leaves : List Leaf
  pub chosen : IsSchemaFor cs count (mentions condition) schema leaves
  pub refused : AreProofsRefused own text schema f

-- so of the condition that a text was read as
abbrev pub IsToldOf : List OwnRule → List ColumnView → ℕ → List ℕ → FooterError → Type 0
IsToldOf own cs count text (error.LeftOut s e why) = (c : Condition) × Ascends 0 (leaves c) (length text) × Joins text 0 (leaves c) (false ∷ ands c) × IsFirstLeftOut cs (mentions c) s e why
IsToldOf own cs count text error.Memory = Unit {0}
IsToldOf own cs count text (error.Footer f) = ⊥
IsToldOf own cs count text (error.Sql e) = IsSqlRefusal cs count text e
IsToldOf own cs count text (error.Stats e) = AreProofsOfRefused own cs count text e

-- judging zones by the proofs of a condition is refused for sets that don't fit the condition's scope, for a proof that a user's rule left open, or for memory
abbrev pub IsZoneRefusal : ProvedCondition → List ZoneData → StatsError → Type 0
IsZoneRefusal x zones stats.Mismatch = zones_fit x.scope zones ≡ false
IsZoneRefusal x zones e = IsRefusal (either_causes (open_causes x.falsifier (map (λ zone. zone.rows) zones)) (open_causes x.satisfier (map (λ zone. zone.rows) zones))) e

-- the fault that is told is the first of the row groups; else they were read
abbrev pub IsGroupFault : ProvedCondition → Result (List GroupData) Fault → FooterError → Type 0
IsGroupFault x read (error.Footer f) = read ≡ Err f
IsGroupFault x read error.Memory = Unit {0}
IsGroupFault x read (error.Sql e) = ⊥
IsGroupFault x read (error.LeftOut s e why) = ⊥
IsGroupFault x read (error.Stats e) = (known : List GroupData) × (read ≡ Ok known) × IsZoneRefusal x (map known_zone known) e
