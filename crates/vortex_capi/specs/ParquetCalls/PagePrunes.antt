-- What a caller asks to be pruned by the pages of a file, and what is answered.
use Rattle.std.specs.Prelude.{◌≡◌, ◌≢◌, ◌<◌, ◌++◌, ◌⊎◌, ℕ, List, [], ◌∷◌, Ok, drop, length, map}
use Rattle.vortex_capi.specs.Spans.{leaf_span}
use Rattle.vortex_capi.specs.Prunes.{IsToldAs, answer_of}
use Rattle.vortex_capi.specs.declared.fault.Fault.{Fault}
use Rattle.vortex_predicates.specs.Pruning.{skipped_places, whole_places}
use Rattle.vortex_parquet.specs.GroupPages.{TailData}
use Rattle.vortex_parquet.specs.Records.{FileData}
use Rattle.vortex_parquet.specs.Stats.{GroupData, groups_of}
use Rattle.vortex_parquet.specs.declared.columns.Leaf.{Leaf}
use Rattle.vortex_predicates.specs.Footers.PagePruning.{DecidesNoFewer, IsPageFault, PrunesPages, by_groups}
use Rattle.vortex_predicates.specs.Footers.PagedGroups.{AreStretchesIn}
use Rattle.vortex_predicates.specs.declared.parquet.error.FooterError.{FooterError}
use Rattle.vortex_predicates.specs.declared.parquet.page_ranges.PageRange.{PageRange}
use Rattle.vortex_prune.specs.Scanning.ZoneScans.{zone_verdicts}
use Rattle.vortex_prune.specs.declared.scan.verdict.Verdict.{Verdict}
use Rattle.vortex_predicates.specs.Conditions.Conditions.{ProvedCondition, schema_of}
use Rattle.vortex_capi.specs.ParquetCalls.FooterPrunes.{IsAskTold, IsAsked, unread_leaves}
use Rattle.vortex_predicates.specs.RowGroups.Pruning.{known_zone}
use Rattle.vortex_capi.specs.ParquetCalls.Refusals.{of_footer}
use Rattle.vortex_capi.specs.declared.parquet.row_range.RowRange.{RowRange}
use Rattle.vortex_capi.specs.declared.span.Span.{Span}

-- ---- what is told of stretches

abbrev pub told_range : PageRange → Verdict → RowRange
told_range r v = record { group = r.group; first = r.first; end = r.end; answer = answer_of v }

abbrev pub all_ranges : List PageRange → List Verdict → List RowRange
all_ranges (r ∷ rs) (v ∷ vs) = told_range r v ∷ all_ranges rs vs
all_ranges rs vs = []

-- these are told of the stretches of a file: where each stands and the verdict on it by the proofs of the condition, which are sound for it: that on its row group by the footer where this is skipped or whole
pub record AreRangesFound (t : TailData) (file : FileData) (count : ℕ) (ls : List Leaf) (x : ProvedCondition) (told : List RowRange) : Type 0 where
  pub ranges : List PageRange
  pub known : List GroupData
  pub are_known : AreStretchesIn t ls count file ranges known
  pub verdicts : List Verdict
  pub groups : List GroupData
  pub are_groups : groups_of ls count file ≡ Ok groups
  pub group_verdicts : List Verdict
  pub groups_judged : group_verdicts ≡ zone_verdicts x.falsifier x.satisfier x.scope (map known_zone groups)
  pub judged : verdicts ≡ by_groups group_verdicts ranges (zone_verdicts x.falsifier x.satisfier x.scope (map known_zone known))
  pub no_fewer : DecidesNoFewer group_verdicts ranges verdicts
  pub sound : PrunesPages (schema_of x) x.condition t ls file ranges (skipped_places verdicts) (whole_places verdicts)
  pub are_told : told ≡ all_ranges ranges verdicts
  pub many : length told ≡ length known

-- ---- what a call says

-- what a caller hands in to be written
pub record PagePlaces : Type 0 where
  pub ranges : List RowRange
  pub unread : List Span
  pub found_len : ℕ
  pub unread_len : ℕ
  pub fault : Fault

-- what is told of the stretches and where each leaf stands that isn't read stand at the front of the arrays
pub record AreRangesWritten (t : TailData) (file : FileData) (count : ℕ) (ls : List Leaf) (x : ProvedCondition) (old new : PagePlaces) : Type 0 where
  pub told : List RowRange
  pub found : AreRangesFound t file count ls x told
  pub ranges_are : new.ranges ≡ told ++ drop new.found_len old.ranges
  pub unread_are : new.unread ≡ map leaf_span (unread_leaves x) ++ drop new.unread_len old.unread
  pub found_len_is : new.found_len ≡ length told
  pub unread_len_is : new.unread_len ≡ length (unread_leaves x)

-- there is too little room for one of the two
pub record AreTooMany (t : TailData) (file : FileData) (count : ℕ) (ls : List Leaf) (x : ProvedCondition) (old new : PagePlaces) : Type 0 where
  pub told : List RowRange
  pub found : AreRangesFound t file count ls x told
  pub short : (length old.ranges < length told) ⊎ (length old.unread < length (unread_leaves x))
  pub found_len_is : new.found_len ≡ length told
  pub unread_len_is : new.unread_len ≡ length (unread_leaves x)

-- a fault of the row groups or their pages is told, the first
pub record ArePagesRefused (t : TailData) (file : FileData) (count : ℕ) (ls : List Leaf) (x : ProvedCondition) (result : ℕ) (fault : Fault) : Type 0 where
  pub error : FooterError
  pub refused : IsPageFault x t ls count file error
  pub told : IsToldAs (of_footer error) result fault

abbrev pub IsPageLack : TailData → FileData → ℕ → List Leaf → ProvedCondition → PagePlaces → ℕ → PagePlaces → Type 0
IsPageLack t file count ls x old result new = ((result ≡ 3) × AreTooMany t file count ls x old new) ⊎ ArePagesRefused t file count ls x result new.fault

-- what a call makes of the places where it is asked so
pub record IsAnsweredByPages (t : TailData) (file : FileData) (count : ℕ) (ls : List Leaf) (x : ProvedCondition) (old new : PagePlaces) (result : ℕ) : Type 0 where
  pub written : result ≡ 0 → AreRangesWritten t file count ls x old new
  pub ranges : result ≢ 0 → new.ranges ≡ old.ranges
  pub unread : result ≢ 0 → new.unread ≡ old.unread
  pub found_len : result ≢ 0 → result ≢ 3 → new.found_len ≡ old.found_len
  pub unread_len : result ≢ 0 → result ≢ 3 → new.unread_len ≡ old.unread_len
  pub told : result ≡ 0 → new.fault ≡ old.fault
  pub lack : result ≢ 0 → result ≢ 4 → IsPageLack t file count ls x old result new

-- a call answered what was asked
pub record ArePagesAnswered (footer text : List ℕ) (flags : ℕ) (t : TailData) (old new : PagePlaces) : Type 0 where
  pub file : FileData
  pub count : ℕ
  pub ls : List Leaf
  pub condition : ProvedCondition
  pub asked : IsAsked footer text flags file count ls condition
  pub written : AreRangesWritten t file count ls condition old new

-- it was asked, and the row groups or their pages have a fault, or there is too little room
pub record IsPageLackOfAsked (footer text : List ℕ) (flags : ℕ) (t : TailData) (old : PagePlaces) (result : ℕ) (new : PagePlaces) : Type 0 where
  pub file : FileData
  pub count : ℕ
  pub ls : List Leaf
  pub condition : ProvedCondition
  pub asked : IsAsked footer text flags file count ls condition
  pub lack : IsPageLack t file count ls condition old result new

-- what a call makes of the places; why it was refused but for memory comes in this order: what is asked, the row groups and their pages, too little room
pub record ArePagesPruned (footer text : List ℕ) (t : TailData) (flags : ℕ) (old new : PagePlaces) (result : ℕ) : Type 0 where
  pub answered : result ≡ 0 → ArePagesAnswered footer text flags t old new
  pub ranges : result ≢ 0 → new.ranges ≡ old.ranges
  pub unread : result ≢ 0 → new.unread ≡ old.unread
  pub found_len : result ≢ 0 → result ≢ 3 → new.found_len ≡ old.found_len
  pub unread_len : result ≢ 0 → result ≢ 3 → new.unread_len ≡ old.unread_len
  pub told : result ≡ 0 → new.fault ≡ old.fault
  pub refused : result ≢ 0 → result ≢ 4 → IsAskTold footer text flags result new.fault ⊎ IsPageLackOfAsked footer text flags t old result new
