-- What a caller asks to be pruned by a footer, and what is answered.
use Rattle.std.specs.Prelude.{◌≡◌, ◌≢◌, ◌<◌, ◌++◌, ◌⊎◌, ℕ, List, [], ◌∷◌, Option, Some, None, Ok, Err, drop, false, length, map}
use Rattle.std.specs.Str.{IsUtf8}
use Rattle.vortex_capi.specs.Spans.{leaf_span}
use Rattle.vortex_capi.specs.Prunes.{IsToldAs, answer_of}
use Rattle.vortex_capi.specs.declared.fault.Fault.{Fault}
use Rattle.vortex_predicates.specs.Pruning.{IsMadeBy, skipped_places, whole_places}
use Rattle.vortex_parquet.specs.Columns.{ColumnView, columns_of}
use Rattle.vortex_parquet.specs.Footer.{length_of}
use Rattle.vortex_parquet.specs.Records.{FileData, file_of}
use Rattle.vortex_parquet.specs.Stats.{GroupData, groups_of}
use Rattle.vortex_parquet.specs.declared.columns.Leaf.{Leaf}
use Rattle.vortex_parquet.specs.declared.fault.Fault.{Fault as FooterFault}
use Rattle.vortex_predicates.specs.Footers.Choosing.{IsSchemaFor}
use Rattle.vortex_predicates.specs.Footers.Mentions.{mentions}
use Rattle.vortex_predicates.specs.Footers.Pruning.{PrunesCondition}
use Rattle.vortex_predicates.specs.Footers.Refusals.{IsGroupFault, IsToldOf}
use Rattle.vortex_predicates.specs.declared.parquet.error.FooterError.{FooterError}
use Rattle.vortex_predicates.specs.RowGroups.Pruning.{known_zone}
use Rattle.vortex_prune.specs.Scanning.ZoneScans.{zone_verdicts}
use Rattle.vortex_prune.specs.declared.scan.verdict.Verdict.{Verdict}
use Rattle.vortex_sql.specs.Lowering.{Says, opaques}
use Rattle.vortex_sql.specs.Refusals.{misfits}
use Rattle.vortex_predicates.specs.Conditions.Conditions.{ProvedCondition, max_levels, pruning_of, schema_of}
use Rattle.vortex_sql.specs.Parsing.Joining.{Joins, ands}
use Rattle.vortex_sql.specs.Parsing.Naming.{AreNamed}
use Rattle.vortex_sql.specs.Parsing.Places.{Ascends, leaves}
use Rattle.vortex_sql.specs.declared.syntax.cursor.Names.{Names}
use Rattle.vortex_sql.specs.declared.syntax.tree.Leaf.{Leaf as Leaf'}
use Rattle.vortex_capi.specs.ParquetCalls.Refusals.{bad_footer, of_footer}
use Rattle.vortex_capi.specs.SqlCalls.SqlPrunes.{IsNoText, names_of}
use Rattle.vortex_capi.specs.declared.fault.Refusal.{Refusal}
use Rattle.vortex_capi.specs.declared.parquet.row_group.RowGroup.{RowGroup}
use Rattle.vortex_capi.specs.declared.span.Span.{Span}

-- ---- the end of a file

-- the length of the footer is told by the last eight bytes, or it stays as it was
pub record IsLengthTold (tail : List ℕ) (old new : ℕ) (result : ℕ) (old_fault fault : Fault) : Type 0 where
  pub told : result ≡ 0 → length_of tail ≡ Ok new
  pub silent : result ≡ 0 → fault ≡ old_fault
  pub unchanged : result ≢ 0 → new ≡ old
  pub refused : result ≢ 0 → result ≢ 4 → (f : FooterFault) × (length_of tail ≡ Err f) × IsToldAs (bad_footer f) result fault

-- ---- what is asked

abbrev pub IsText : List ℕ → Type 0
IsText bytes = IsUtf8 bytes

-- the bytes are a footer, and the text is a condition over its columns: over those that are named and read, beside their leaves; no name refuses it, and its types fit. Names of several parts are read as the flags say. Its proofs are those by built-in rules of a predicate that means the same
pub record IsAsked (footer text : List ℕ) (flags : ℕ) (file : FileData) (count : ℕ) (ls : List Leaf) (x : ProvedCondition) : Type 0 where
  pub read : file_of footer ≡ Ok file
  pub columns : List ColumnView
  pub are_columns : columns_of file.schema ≡ Ok (columns, count)
  pub utf8 : IsText text
  pub chosen : IsSchemaFor columns count (mentions x.condition) (schema_of x) ls
  pub places : Ascends 0 (leaves x.condition) (length text)
  pub joined : Joins text 0 (leaves x.condition) (false ∷ ands x.condition)
  pub typed : misfits (schema_of x) x.condition ≡ []
  pub names : Names
  pub are_names : names_of flags ≡ Ok names
  pub named : AreNamed text names x.condition
  pub says : Says (schema_of x) x.condition x.predicate
  pub made : IsMadeBy [] (Some max_levels) (pruning_of x)

-- the bytes are no footer, or one whose schema is no tree
pub record IsFooterRefusal (footer : List ℕ) (r : Refusal) : Type 0 where
  pub fault : FooterFault
  pub told : r ≡ bad_footer fault
  pub cause : (file_of footer ≡ Err fault) ⊎ ((file : FileData) × (file_of footer ≡ Ok file) × (columns_of file.schema ≡ Err fault))

-- the bytes are a footer, and the text is no condition over its columns
pub record IsTextRefusal (footer text : List ℕ) (r : Refusal) : Type 0 where
  pub file : FileData
  pub read : file_of footer ≡ Ok file
  pub columns : List ColumnView
  pub count : ℕ
  pub are_columns : columns_of file.schema ≡ Ok (columns, count)
  pub cause : IsNoText text r ⊎ (IsText text × (e : FooterError) × IsToldOf [] columns count text e × (r ≡ of_footer e))

-- why nothing is asked, in this order: the flags, the footer, the text
abbrev pub IsAskRefusal : (footer text : List ℕ) → ℕ → Refusal → Type 0
IsAskRefusal footer text flags r = (names_of flags ≡ Err r) ⊎ (IsFooterRefusal footer r ⊎ IsTextRefusal footer text r)

-- ---- what isn't read

-- the leaves of a condition that aren't read
abbrev pub unread_leaves : ProvedCondition → List Leaf'
unread_leaves x = opaques (schema_of x) x.condition

-- ---- what is told of row groups

abbrev pub or_zero : Option ℕ → ℕ
or_zero None = 0
or_zero (Some n) = n

abbrev pub told_of : GroupData → Verdict → RowGroup
told_of g v = record { rows = g.rows; size = or_zero g.size; answer = answer_of v }

abbrev pub all_told : List GroupData → List Verdict → List RowGroup
all_told (g ∷ gs) (v ∷ vs) = told_of g v ∷ all_told gs vs
all_told gs vs = []

-- these are told of the row groups: what the footer says of each and the verdict on it by the proofs of the condition, which are sound for it
pub record AreFound (file : FileData) (count : ℕ) (ls : List Leaf) (x : ProvedCondition) (told : List RowGroup) : Type 0 where
  pub known : List GroupData
  pub are_known : groups_of ls count file ≡ Ok known
  pub verdicts : List Verdict
  pub judged : verdicts ≡ zone_verdicts x.falsifier x.satisfier x.scope (map known_zone known)
  pub sound : PrunesCondition (schema_of x) x.condition ls file (skipped_places verdicts) (whole_places verdicts)
  pub are_told : told ≡ all_told known verdicts
  pub many : length told ≡ file.groups.count

-- ---- what a call says

-- what a caller hands in to be written
pub record Places : Type 0 where
  pub groups : List RowGroup
  pub unread : List Span
  pub found_len : ℕ
  pub unread_len : ℕ
  pub fault : Fault

-- what is told of the row groups and where each leaf stands that isn't read stand at the front of the arrays
pub record AreWritten (file : FileData) (count : ℕ) (ls : List Leaf) (x : ProvedCondition) (old_groups : List RowGroup) (old_unread : List Span) (groups : List RowGroup) (unread_spans : List Span) (found_len unread_len : ℕ) : Type 0 where
  pub told : List RowGroup
  pub found : AreFound file count ls x told
  pub groups_are : groups ≡ told ++ drop found_len old_groups
  pub unread_are : unread_spans ≡ map leaf_span (unread_leaves x) ++ drop unread_len old_unread
  pub found_len_is : found_len ≡ length told
  pub unread_len_is : unread_len ≡ length (unread_leaves x)

-- there is too little room for one of the two
pub record IsShort (file : FileData) (x : ProvedCondition) (groups : List RowGroup) (spans : List Span) (found_len unread_len : ℕ) : Type 0 where
  pub short : (length groups < file.groups.count) ⊎ (length spans < length (unread_leaves x))
  pub found_len_is : found_len ≡ file.groups.count
  pub unread_len_is : unread_len ≡ length (unread_leaves x)

-- a fault of the row groups is told
pub record AreGroupsRefused (file : FileData) (count : ℕ) (ls : List Leaf) (x : ProvedCondition) (result : ℕ) (fault : Fault) : Type 0 where
  pub error : FooterError
  pub refused : IsGroupFault x (groups_of ls count file) error
  pub told : IsToldAs (of_footer error) result fault

abbrev pub IsLack : FileData → ℕ → List Leaf → ProvedCondition → Places → ℕ → Places → Type 0
IsLack file count ls x old result new =
    ((result ≡ 3) × IsShort file x old.groups old.unread new.found_len new.unread_len) ⊎ AreGroupsRefused file count ls x result new.fault

-- what a call makes of the places where it is asked so
pub record IsAnsweredBy (file : FileData) (count : ℕ) (ls : List Leaf) (x : ProvedCondition) (old new : Places) (result : ℕ) : Type 0 where
  pub written : result ≡ 0 → AreWritten file count ls x old.groups old.unread new.groups new.unread new.found_len new.unread_len
  pub groups : result ≢ 0 → new.groups ≡ old.groups
  pub unread : result ≢ 0 → new.unread ≡ old.unread
  pub found_len : result ≢ 0 → result ≢ 3 → new.found_len ≡ old.found_len
  pub unread_len : result ≢ 0 → result ≢ 3 → new.unread_len ≡ old.unread_len
  pub told : result ≡ 0 → new.fault ≡ old.fault
  pub lack : result ≢ 0 → result ≢ 4 → IsLack file count ls x old result new

-- a call answered what was asked
pub record AreAnswered (footer text : List ℕ) (flags : ℕ) (old_groups : List RowGroup) (old_unread : List Span) (groups : List RowGroup) (unread : List Span) (found_len unread_len : ℕ) : Type 0 where
  pub file : FileData
  pub count : ℕ
  pub ls : List Leaf
  pub condition : ProvedCondition
  pub asked : IsAsked footer text flags file count ls condition
  pub written : AreWritten file count ls condition old_groups old_unread groups unread found_len unread_len

-- it was asked, and there is too little room or a fault of the row groups
pub record IsLackOfAsked (footer text : List ℕ) (flags : ℕ) (groups : List RowGroup) (unread : List Span) (result found_len unread_len : ℕ) (fault : Fault) : Type 0 where
  pub file : FileData
  pub count : ℕ
  pub ls : List Leaf
  pub condition : ProvedCondition
  pub asked : IsAsked footer text flags file count ls condition
  pub lack : ((result ≡ 3) × IsShort file condition groups unread found_len unread_len) ⊎ AreGroupsRefused file count ls condition result fault

pub record IsAskTold (footer text : List ℕ) (flags result : ℕ) (fault : Fault) : Type 0 where
  pub refusal : Refusal
  pub cause : IsAskRefusal footer text flags refusal
  pub told : IsToldAs refusal result fault

-- why a call was refused but for memory, in this order: what is asked, too little room, the row groups
abbrev pub IsRefusedFor : (footer text : List ℕ) → ℕ → List RowGroup → List Span → (result found_len unread_len : ℕ) → Fault → Type 0
IsRefusedFor footer text flags groups unread result found_len unread_len fault =
    IsAskTold footer text flags result fault ⊎ IsLackOfAsked footer text flags groups unread result found_len unread_len fault

-- what a call makes of the places
pub record IsPruned (footer text : List ℕ) (flags : ℕ) (old new : Places) (result : ℕ) : Type 0 where
  pub answered : result ≡ 0 → AreAnswered footer text flags old.groups old.unread new.groups new.unread new.found_len new.unread_len
  pub groups : result ≢ 0 → new.groups ≡ old.groups
  pub unread : result ≢ 0 → new.unread ≡ old.unread
  pub found_len : result ≢ 0 → result ≢ 3 → new.found_len ≡ old.found_len
  pub unread_len : result ≢ 0 → result ≢ 3 → new.unread_len ≡ old.unread_len
  pub told : result ≡ 0 → new.fault ≡ old.fault
  pub refused : result ≢ 0 → result ≢ 4 → IsRefusedFor footer text flags old.groups old.unread result new.found_len new.unread_len new.fault
