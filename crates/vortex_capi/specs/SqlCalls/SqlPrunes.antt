-- What a caller asks to be pruned by a condition in SQL, and what is answered.
use Rattle.std.specs.Prelude.{◌≡◌, ◌≢◌, ◌<◌, ◌++◌, ◌==◌, ◌⊎◌, ℕ, List, [], ◌∷◌, Some, Result, Ok, Err, IfOk, IsOk, drop, false, if◌then◌else◌, length, map}
use Rattle.std.specs.Str.{IsUtf8, IsValidUpTo}
use Rattle.vortex_capi.specs.Spans.{leaf_span}
use Rattle.vortex_capi.specs.Prunes.{IsToldAs, answered, with_places, zone_answers, zones_asked}
use Rattle.vortex_capi.specs.Refusals.{followed}
use Rattle.vortex_capi.specs.Scopes.{schema_given}
use Rattle.vortex_capi.specs.Statuses.{nowhere}
use Rattle.vortex_capi.specs.declared.fault.Fault.{Fault}
use Rattle.vortex_capi.specs.declared.fault.Refusal.{Refusal}
use Rattle.vortex_capi.specs.declared.field.Field.{Field}
use Rattle.vortex_capi.specs.declared.statistic.Statistic.{Statistic}
use Rattle.vortex_capi.specs.declared.status.Status.TheVariants.{BadFlag, BadName, BadSql, Misfit, NoMemory, TooDeep}
use Rattle.vortex_predicates.specs.Pruning.{IsMadeBy}
use Rattle.vortex_zone_map.specs.Zone.{ZoneData}
use Rattle.vortex_sql.specs.Lowering.{opaques}
use Rattle.vortex_sql.specs.Refusals.{IsTextRefusal, misfits}
use Rattle.vortex_sql.specs.Schemas.{SchemaData}
use Rattle.vortex_sql.specs.declared.error.SqlError.{SqlError}
use Rattle.vortex_sql.specs.declared.error.SqlError.TheVariants as sql
use Rattle.vortex_predicates.specs.declared.sql.error.ConditionError.{ConditionError}
use Rattle.vortex_predicates.specs.declared.sql.error.ConditionError.TheVariants.{Sql, Stats}
use Rattle.vortex_predicates.specs.Conditions.Conditions.{AreProofsOf, IsSoundFor, ProvedCondition, max_levels, pruning_of, schema_of}
use Rattle.vortex_sql.specs.Parsing.Joining.{Joins, ands}
use Rattle.vortex_sql.specs.Parsing.Naming.{AreNamed}
use Rattle.vortex_sql.specs.Parsing.Places.{Ascends, leaves}
use Rattle.vortex_sql.specs.declared.syntax.cursor.Names.{Names}
use Rattle.vortex_sql.specs.declared.syntax.cursor.Names.TheVariants.{Last, Plain}
use Rattle.vortex_sql.specs.declared.syntax.error.ParseError.{ParseError}
use Rattle.vortex_sql.specs.declared.syntax.error.ParseError.TheVariants as syntax
use Rattle.vortex_sql.specs.declared.syntax.tree.Leaf.{Leaf}
use Rattle.vortex_capi.specs.declared.span.Span.{Span}

-- ---- what is asked

-- 0 for names of one part, 2 for those of several of which the last one counts
abbrev pub names_of : ℕ → Result Names Refusal
names_of flags = if flags == 0 then Ok Plain else (if flags == 2 then Ok Last else Err (nowhere BadFlag))

-- over which columns a condition is read, and how names of several parts
pub record Columns : Type 0 where
  pub schema : SchemaData
  pub names : Names

abbrev pub columns_by : SchemaData → Names → Columns
columns_by schema names = record { schema = schema; names = names }

-- the columns of the condition, or the first that is refused of the flags, the room for the answers and the columns
abbrev pub columns_asked : List Field → (rows : List ℕ) → (flags room : ℕ) → Result Columns Refusal
columns_asked fields rows flags room =
    followed (names_of flags) (λ names. followed (with_places room rows) (λ there. followed (schema_given fields) (λ schema. Ok (columns_by schema names))))

-- ---- the condition

-- a condition over columns that a text is, by its leaves and what joins them, with names read so, whose types fit, with the proofs by built-in rules of a predicate that means the same
pub record IsConditionOf (text : List ℕ) (columns : Columns) (x : ProvedCondition) : Type 0 where
  pub utf8 : IsUtf8 text
  pub over : schema_of x ≡ columns.schema
  pub named : AreNamed text columns.names x.condition
  pub places : Ascends 0 (leaves x.condition) (length text)
  pub joined : Joins text 0 (leaves x.condition) (false ∷ ands x.condition)
  pub typed : misfits columns.schema x.condition ≡ []
  pub proofs : AreProofsOf x
  pub made : IsMadeBy [] (Some max_levels) (pruning_of x)

-- the leaves of it that aren't read
abbrev pub unread_of : ProvedCondition → List Leaf
unread_of x = opaques (schema_of x) x.condition

-- ---- refusals of the text

-- refused from a byte of the text on up to another, or 0 where that isn't told, with a number that says why
abbrev pub in_text : (start end why : ℕ) → Fault
in_text start end why = record { row = end; column = why; entry = start }

abbrev pub no_condition : (at why : ℕ) → Refusal
no_condition at why = record { status = BadSql; fault = in_text at 0 why }

-- why a text is no condition, by number; one that nests too deep and refused memory have statuses of their own
abbrev pub of_syntax : ParseError → Refusal
of_syntax syntax.Memory = nowhere NoMemory
of_syntax (syntax.Unexpected at) = no_condition at 0
of_syntax (syntax.Unclosed at) = no_condition at 1
of_syntax (syntax.Comment at) = no_condition at 2
of_syntax (syntax.Prefixed at) = no_condition at 3
of_syntax (syntax.Dollar at) = no_condition at 4
of_syntax (syntax.Glued at) = no_condition at 5
of_syntax (syntax.Adjacent at) = no_condition at 6
of_syntax (syntax.TooDeep at) = record { status = TooDeep; fault = in_text at 0 0 }

abbrev pub of_sql : SqlError → Refusal
of_sql sql.Memory = nowhere NoMemory
of_sql (sql.Syntax e) = of_syntax e
of_sql (sql.Misfit start end) = record { status = Misfit; fault = in_text start end 0 }
of_sql sql.Name = nowhere BadName

-- of proofs by built-in rules memory alone is refused
abbrev pub of_condition : ConditionError → Refusal
of_condition (Sql e) = of_sql e
of_condition (Stats f) = nowhere NoMemory

-- not UTF-8 from a byte on
abbrev pub no_text : ℕ → Refusal
no_text at = no_condition at 7

pub record IsNoText (text : List ℕ) (r : Refusal) : Type 0 where
  pub at : ℕ
  pub until : IsValidUpTo text at
  pub no_utf8 : ¬ (IsUtf8 text)
  pub told : r ≡ no_text at

-- refused as a condition over the columns is, at the place
pub record IsSqlRefusal (text : List ℕ) (schema : SchemaData) (r : Refusal) : Type 0 where
  pub error : SqlError
  pub refused : IsTextRefusal text schema error
  pub told : r ≡ of_sql error

abbrev pub IsTextFault : List ℕ → SchemaData → Refusal → Type 0
IsTextFault text schema r = IsNoText text r ⊎ IsSqlRefusal text schema r

-- ---- what a call says

-- two arrays of a caller's
pub record Arrays : Type 0 where
  pub answers : List ℕ
  pub unread : List Span

-- the call answered: the text is a condition over the columns, and the arrays have the answer for each zone that its proofs give, and where each leaf stands that isn't read, at the front
pub record IsAnswered (text : List ℕ) (columns : Columns) (zones : List ZoneData) (old new : Arrays) (count : ℕ) : Type 0 where
  pub condition : ProvedCondition
  pub of_text : IsConditionOf text columns condition
  pub answers : new.answers ≡ zone_answers condition.falsifier condition.satisfier columns.schema.scope zones
  pub sound : IsSoundFor columns.schema condition.condition zones (answered 1 new.answers) (answered 2 new.answers)
  pub unread : new.unread ≡ map leaf_span (unread_of condition) ++ drop count old.unread
  pub len : count ≡ length (unread_of condition)

-- the room is less than the leaves that aren't read
pub record IsShort (text : List ℕ) (columns : Columns) (room count : ℕ) : Type 0 where
  pub condition : ProvedCondition
  pub of_text : IsConditionOf text columns condition
  pub short : room < length (unread_of condition)
  pub len : count ≡ length (unread_of condition)

-- the text is a condition over the columns, and the statistics are refused
pub record AreZonesRefused (text : List ℕ) (columns : Columns) (zones : Result (List ZoneData) Refusal) (result : ℕ) (fault : Fault) : Type 0 where
  pub condition : ProvedCondition
  pub of_text : IsConditionOf text columns condition
  pub refusal : Refusal
  pub refused : zones ≡ Err refusal
  pub told : IsToldAs refusal result fault

-- a fault of the text is told
pub record IsTextTold (text : List ℕ) (schema : SchemaData) (result : ℕ) (fault : Fault) : Type 0 where
  pub refusal : Refusal
  pub of_text : IsTextFault text schema refusal
  pub told : IsToldAs refusal result fault

-- the arguments ask for these zones of columns, and are answered
pub record AreAnswered (fields : List Field) (rows : List ℕ) (stats : List Statistic) (text : List ℕ) (flags : ℕ) (old new : Arrays) (len : ℕ) : Type 0 where
  pub columns : Columns
  pub zones : List ZoneData
  pub asked : columns_asked fields rows flags (length old.answers) ≡ Ok columns
  pub given : zones_asked columns.schema.scope rows stats ≡ Ok zones
  pub answered : IsAnswered text columns zones old new len

-- why a call was refused but for memory, in this order: the flags, the room for the answers or the columns; the text; too little room for the places of what isn't read; the statistics and their values
abbrev pub IsRefusedFor : Result Columns Refusal → List ℕ → List Statistic → List ℕ → (room result len : ℕ) → Fault → Type 0
IsRefusedFor (Err r) rows stats text room result len fault = IsToldAs r result fault
IsRefusedFor (Ok columns) rows stats text room result len fault =
    IsTextTold text columns.schema result fault ⊎ (((result ≡ 3) × IsShort text columns room len) ⊎ AreZonesRefused text columns (zones_asked columns.schema.scope rows stats) result fault)

-- ---- by a condition

-- the answers for the zones by its proofs, and where each leaf stands that isn't read, at the front
pub record AreWritten (x : ProvedCondition) (zones : List ZoneData) (old new : Arrays) (count : ℕ) : Type 0 where
  pub answers : new.answers ≡ zone_answers x.falsifier x.satisfier x.scope zones
  pub unread : new.unread ≡ map leaf_span (unread_of x) ++ drop count old.unread
  pub len : count ≡ length (unread_of x)

-- too little room, or what is refused of the zones
abbrev pub IsLack : ProvedCondition → Result (List ZoneData) Refusal → (room result len : ℕ) → Fault → Type 0
IsLack x zones room result len fault =
    ((result ≡ 3) × (room < length (unread_of x)) × (len ≡ length (unread_of x))) ⊎ ((r : Refusal) × (zones ≡ Err r) × IsToldAs r result fault)

-- what a call makes of the arrays by a condition
pub record IsAnsweredBy (x : ProvedCondition) (zones : Result (List ZoneData) Refusal) (old new : Arrays) (old_len len result : ℕ) (old_fault fault : Fault) : Type 0 where
  pub written : result ≡ 0 → IfOk zones (λ given. AreWritten x given old new len)
  pub given : result ≡ 0 → IsOk zones
  pub unchanged : result ≢ 0 → new ≡ old
  pub counted : result ≢ 0 → result ≢ 3 → len ≡ old_len
  pub told : result ≡ 0 → fault ≡ old_fault
  pub lack : result ≢ 0 → result ≢ 4 → IsLack x zones (length old.unread) result len fault
