-- The columns that a caller names, and the predicate over them.
use Rattle.std.specs.Prelude.{◌≡◌, ◌≢◌, ◌≤◌, ◌⊎◌, ⊤, ℕ, true, false, nat_le, List, [], ◌∷◌, ◌++◌, Option, None, Some, Result, Ok, Err, if◌then◌else◌, length, map, slice_get}
use Rattle.std.specs.Str.{is_utf8}
use Rattle.vortex_base.specs.declared.dtype.DType.{DType}
use Rattle.vortex_base.specs.Data.Scopes.{Named, is_empty}
use Rattle.vortex_expr.specs.Trees.Tree.{Place, Tree}
use Rattle.vortex_rewrite.specs.Rewriting.Predicates.{is_predicate}
use Rattle.vortex_normal.specs.Balanced.{depth}
use Rattle.vortex_capi.specs.Nesting.Halves.{halved}
use Rattle.vortex_capi.specs.Nesting.Texts.{IsDeeper, IsHalvedOf}
use Rattle.vortex_capi.specs.declared.nested.error.NestedError.{NestedError}
use Rattle.vortex_capi.specs.declared.nested.error.NestedError.TheVariants as nested
use Rattle.vortex_syntax.specs.Expressions.{expression_of}
use Rattle.vortex_syntax.specs.Fails.{when, ◌>>=◌}
use Rattle.vortex_syntax.specs.Words.{words}
use Rattle.vortex_syntax.specs.Names.{is_new}
use Rattle.vortex_capi.specs.declared.fault.Refusal.{Refusal}
use Rattle.vortex_capi.specs.declared.field.Field.{Field}
use Rattle.vortex_capi.specs.declared.status.Status.{Status}
use Rattle.vortex_capi.specs.declared.status.Status.TheVariants.{BadKind, BadLength, BadLine, BadName, NoMemory, NotAPredicate, TooDeep}
use Rattle.vortex_capi.specs.declared.logical.Kinds.{Kinds}
use Rattle.vortex_capi.specs.declared.logical.Kinds.TheVariants.{Logical, Plain}
use Rattle.vortex_capi.specs.LogicalKinds.{logical_of, cells_told}
use Rattle.vortex_capi.specs.Refusals.{followed, placed, stepped}
use Rattle.vortex_capi.specs.Statuses.{at_column, nowhere}
use Rattle.vortex_capi.specs.Types.{dtype_of}
use Rattle.vortex_logical.specs.declared.logical_type.LogicalType.{LogicalType}
use Rattle.vortex_sql.specs.Schemas.{SchemaData}

-- ---- the scope

-- one more column of a type, whose name is one that no column has yet
abbrev pub with_typed : List Named → List ℕ → Result DType Status → Result (List Named) Status
with_typed scope name (Err s) = Err s
with_typed scope name (Ok t) = if is_new scope name then Ok (scope ++ (name, t) ∷ []) else Err BadName

-- a call that takes plain kinds refuses a column whose values stand for others
abbrev pub taken : Kinds → Field → Option LogicalType → Result DType Status
taken Plain f (Some t) = Err BadKind
taken Plain f None = dtype_of f.kind f.nullable
taken Logical f t = dtype_of f.kind f.nullable

abbrev pub dtype_by : Kinds → Field → Result (Option LogicalType) Status → Result DType Status
dtype_by k f (Err s) = Err s
dtype_by k f (Ok t) = taken k f t

-- the type that a column's values are kept as
abbrev pub field_dtype : Kinds → Field → Result DType Status
field_dtype k f = dtype_by k f (logical_of f)

abbrev pub with_field : Kinds → List Named → Field → Result (List Named) Status
with_field k scope f = with_typed scope f.name.now (field_dtype k f)

abbrev pub with_field_or : Kinds → List Named → Option Field → Result (List Named) Status
with_field_or k scope None = Err BadLength
with_field_or k scope (Some f) = with_field k scope f

abbrev pub next_field : Kinds → List Field → ℕ → List Named → Result (List Named) Refusal
next_field k fields i scope = placed (λ s. at_column s i) (with_field_or k scope (slice_get fields i))

-- the columns in order, or the first that is refused
abbrev pub scope_given : Kinds → List Field → Result (List Named) Refusal
scope_given k fields = stepped (next_field k fields) [] (length fields)

-- a scope has a column
abbrev pub filled : List Named → Result (List Named) Refusal
filled [] = Err (nowhere BadLength)
filled (c ∷ cs) = Ok (c ∷ cs)

abbrev pub filled_scope_given : Kinds → List Field → Result (List Named) Refusal
filled_scope_given k fields = followed (scope_given k fields) filled

-- the columns with what their values stand for
abbrev pub schema_given : List Field → Result SchemaData Refusal
schema_given fields = followed (filled_scope_given Logical fields) (λ scope. Ok (record { scope = scope; cells = map cells_told fields }))

-- ---- the predicate

-- what a `where` line with this text behind its first word asks for, of whatever number of words
abbrev pub expression_in : List Named → List ℕ → Option (Tree Place)
expression_in scope text = do
  line ← when (if is_utf8 text then (if is_empty scope then false else true) else false) text
  expression_of scope (words line)

-- the most levels that a predicate may have
abbrev pub max_depth : ℕ
max_depth = 128

-- a predicate that has no more levels
abbrev pub shallow : Tree Place → Result (Tree Place) Refusal
shallow p = if nat_le (depth p) max_depth then Ok p else Err (nowhere TooDeep)

abbrev pub if_predicate : Option (Tree Place) → Result (Tree Place) Refusal
if_predicate None = Err (nowhere BadLine)
if_predicate (Some e) = followed (shallow (halved e)) (λ p. if is_predicate e then Ok e else Err (nowhere NotAPredicate))

-- the predicate as it is written; the levels are those that it has once its chains of AND and of OR are joined in halves
abbrev pub predicate_given : List Named → List ℕ → Result (Tree Place) Refusal
predicate_given scope text = if_predicate (expression_in scope text)

-- ---- what is answered

-- what was read is the expression that was wanted, its chains joined in halves and with no more levels; or there is none, or it has more
abbrev pub IsNested : Option (Tree Place) → Result (Tree Place) NestedError → Type 0
IsNested wanted (Ok b) = IsHalvedOf wanted b × (depth b ≤ max_depth)
IsNested wanted (Err nested.Memory) = ⊤
IsNested wanted (Err nested.Bad) = wanted ≡ None
IsNested wanted (Err nested.TooDeep) = IsDeeper max_depth wanted

-- a refusal is the one that is to be told; a text that is no expression may be refused as one that is too deep
abbrev pub IsRefusedText : {X : Type 0} → Result X Refusal → Refusal → Type 0
IsRefusedText read r = (read ≡ Err r) ⊎ ((r ≡ nowhere TooDeep) × (read ≡ Err (nowhere BadLine)))

-- a call of a text returned what is to be read, seen by view; memory may be refused
abbrev pub AnswersText : {X Y : Type 0} → (X → Y) → Result X Refusal → Result Y Refusal → Type 0
AnswersText view (Ok x) read = read ≡ Ok (view x)
AnswersText view (Err r) read = r.status ≢ NoMemory → IsRefusedText read r

-- a call returned the predicate that is to be read, its chains joined in halves
abbrev pub IsPredicateGiven : Result (Tree Place) Refusal → Result (Tree Place) Refusal → Type 0
IsPredicateGiven read (Ok b) = (e : Tree Place) × (read ≡ Ok e) × (b ≡ halved e)
IsPredicateGiven read (Err r) = r.status ≢ NoMemory → IsRefusedText read r
