-- What making the proofs of a condition is refused for.
use Rattle.std.specs.Prelude.{ℕ, ◌∷◌, List, false, length}
use Rattle.vortex_sql.specs.Schemas.{SchemaData}
use Rattle.vortex_expr.specs.Trees.Tree.{Place, Tree}
use Rattle.vortex_rewrite.specs.Answers.{IsMemory}
use Rattle.vortex_rewrite.specs.Causes.{IsRefusal}
use Rattle.vortex_rewrite.specs.Rewriting.Lawful.{OwnRule}
use Rattle.vortex_sql.specs.Lowering.{Says}
use Rattle.vortex_sql.specs.Refusals.{IsSchemaRefusal, IsTextRefusal}
use Rattle.vortex_sql.specs.Parsing.Joining.{Joins, ands}
use Rattle.vortex_sql.specs.Parsing.Places.{Ascends, leaves}
use Rattle.vortex_sql.specs.declared.syntax.tree.Condition.{Condition}
use Rattle.vortex_stats.specs.declared.error.StatsError.{StatsError}
use Rattle.vortex_predicates.specs.Pruning.{making_causes}
use Rattle.vortex_predicates.specs.declared.sql.error.ConditionError.{ConditionError}
use Rattle.vortex_predicates.specs.declared.sql.error.ConditionError.TheVariants.{Sql, Stats}

-- for the proofs of a condition's predicate memory was refused, or a rule of the user failed that is asked at a node of it or of a form of it
pub record IsUnproved (own : List OwnRule) (s : SchemaData) (c : Condition) (f : StatsError) : Type 0 where
  pub predicate : Tree Place
  pub says : Says s c predicate
  pub cause : IsRefusal (making_causes own predicate) f

-- the condition of a text is refused over the columns of a schema, or its proofs are
abbrev pub IsProvingRefusal : List OwnRule → List ℕ → SchemaData → Condition → ConditionError → Type 0
IsProvingRefusal own text s c (Sql e) = IsSchemaRefusal text s c e
IsProvingRefusal own text s c (Stats f) = IsUnproved own s c f

-- the text is a condition by its leaves and what joins them, whose proofs are refused
pub record AreProofsRefused (own : List OwnRule) (text : List ℕ) (s : SchemaData) (f : StatsError) : Type 0 where
  pub condition : Condition
  pub places : Ascends 0 (leaves condition) (length text)
  pub joined : Joins text 0 (leaves condition) (false ∷ ands condition)
  pub unproved : IsUnproved own s condition f

-- the text is refused for what a condition over the schema is refused for, or the proofs are
abbrev pub IsConditionRefusal : List OwnRule → List ℕ → SchemaData → ConditionError → Type 0
IsConditionRefusal own text s (Sql e) = IsTextRefusal text s e
IsConditionRefusal own text s (Stats f) = AreProofsRefused own text s f

-- the text was refused, or memory for the proofs
abbrev pub IsOfTextOrMemory : ConditionError → Type 0
IsOfTextOrMemory (Sql e) = Unit {0}
IsOfTextOrMemory (Stats f) = IsMemory f
