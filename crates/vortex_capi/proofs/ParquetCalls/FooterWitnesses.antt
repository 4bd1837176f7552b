-- Witnesses of the clauses of the calls about the footer of a Parquet file.
use Rattle.std.proofs.Common.{◌≡◌, ◌+◌, ◌<◌, ℕ, List, [], ◌∷◌, Err, None, Ok, Option, Result, Some, ap, arith, inl, inr, length, map, refl, subst, sym, ◌∙◌}
use Rattle.std.proofs.lemmas.List.{length-append, length-drop, length-map}
use Rattle.std.specs.Option.{unwrap_or}
use Rattle.std.specs.Prelude.{◌-◌, ◌^◌, ◌⊎◌, drop}
use Rattle.vortex_capi.proofs.WorkedRows.Witnesses.{fault_at}
use Rattle.vortex_capi.specs.ParquetCalls.DataPages.{ArePagesWritten, AreTooManyPages, PageArray, told_pages}
use Rattle.vortex_capi.specs.ParquetCalls.FooterPrunes.{AreAnswered, IsAskRefusal, IsAskTold, IsRefusedFor, Places, unread_leaves}
use Rattle.vortex_capi.specs.ParquetCalls.IndexBegins.{IsBeginTold, IsIndexFault}
use Rattle.vortex_capi.specs.ParquetCalls.PagePrunes.{ArePagesAnswered, IsPageLackOfAsked, PagePlaces}
use Rattle.vortex_capi.specs.ParquetCalls.Refusals.{bad_footer}
use Rattle.vortex_capi.specs.Prunes.{IsToldAs}
use Rattle.vortex_capi.specs.Spans.{leaf_span}
use Rattle.vortex_capi.specs.SqlCalls.SqlPrunes.{names_of}
use Rattle.vortex_capi.specs.declared.fault.Fault.{Fault}
use Rattle.vortex_capi.specs.declared.fault.Refusal.{Refusal}
use Rattle.vortex_capi.specs.declared.parquet.row_group.RowGroup.{RowGroup}
use Rattle.vortex_capi.specs.declared.parquet.row_range.RowRange.{RowRange}
use Rattle.vortex_capi.specs.declared.span.Span.{Span}
use Rattle.vortex_parquet.proofs.Sound.{one_ok}
use Rattle.vortex_parquet.proofs.Witness.{a_file_is_true}
use Rattle.vortex_parquet.specs.Compact.{binary_at, count_at, head_at, id_at, items_at, jump, kind_at, kinds_at, map_at, natural_at, varint_at, varint_from, varint_in}
use Rattle.vortex_parquet.specs.Fields.{binary_in, is_told, items_in, items_of, last_found, many, natural_in, number_in, spans_in, struct_of}
use Rattle.vortex_parquet.specs.Footer.{length_of}
use Rattle.vortex_parquet.specs.GroupPages.{TailData}
use Rattle.vortex_parquet.specs.PageIndex.{places_of}
use Rattle.vortex_parquet.specs.PageIndexes.{IsIndexesBegin, IsLeast, file_offsets, group_places, index_places}
use Rattle.vortex_parquet.specs.Records.{FileData, chunk_of, file_of, meta_of, row_group_of, spans_of, statistics_in, statistics_of}
use Rattle.vortex_parquet.specs.Stats.{all_of}
use Rattle.vortex_parquet.specs.Skip.{fields_in, skip_at, skip_entry, skip_value, struct_at, times}
use Rattle.vortex_parquet.specs.Witness.{file, footer}
use Rattle.vortex_parquet.specs.declared.offset_index.IndexPlaces.{IndexPlaces}
use Rattle.vortex_parquet.specs.declared.data_pages.DataPage.{DataPage}
use Rattle.vortex_parquet.specs.declared.fault.Fault.{Fault as FooterFault}
use Rattle.vortex_prune.proofs.WorkedRows.ShutRows.{neither}
use Rattle.vortex_zone_map.proofs.WorkedRows.Witnesses.{IsWitness}

-- ---- what calls tell: a status, a number, and the place of a refusal

not_zero : ◌≡◌ {A = ℕ} 5 0 → ⊥
not_zero h = absurd (omega (arith, h))

not_three : ◌≡◌ {A = ℕ} 5 3 → ⊥
not_three h = absurd (omega (arith, h))

not_four : ◌≡◌ {A = ℕ} 5 4 → ⊥
not_four h = absurd (omega (arith, h))

eight_is_not_seven : ◌≡◌ {A = ℕ} 8 7 → ⊥
eight_is_not_seven h = absurd (omega (arith, h))

-- a place is told of a call that isn't refused
abbrev StaysSilent : Fault → Type 0
StaysSilent fault = fault ≡ fault_at 0

place_is_told : StaysSilent (fault_at 1) → ⊥
place_is_told h = let same : ◌≡◌ {A = ℕ} 1 0 = ap (λ (f : Fault). f.row) h in absurd (omega arith)

-- a footer has no rows
other_row : (column : ℕ) → fault_at 1 ≡ record { row = 0; column = column; entry = 0 } → ⊥
other_row column h = let same : ◌≡◌ {A = ℕ} 1 0 = ap (λ (f : Fault). f.row) h in absurd (omega arith)

silent : IsWitness (◌≡◌ {A = ℕ} 0 0) StaysSilent (fault_at 1)
silent = record { met = refl; refuted = place_is_told }

-- a number is written where none is to be
unchanged : IsWitness (◌≡◌ {A = ℕ} 5 0 → ⊥) (λ (new : ℕ). new ≡ 7) 8
unchanged = record { met = not_zero; refuted = eight_is_not_seven }

uncounted : IsWitness ((◌≡◌ {A = ℕ} 5 0 → ⊥) × (◌≡◌ {A = ℕ} 5 3 → ⊥)) (λ (new : ℕ). new ≡ 7) 8
uncounted = record { met = (not_zero, not_three); refuted = eight_is_not_seven }

-- something is, in place of nothing
one_for_none : {X : Type 0} (x : X) → x ∷ [] ≡ [] → ⊥
one_for_none x h = cc

-- ---- the length of a footer

abbrev tail : List ℕ
tail = 5 ∷ 0 ∷ 0 ∷ 0 ∷ 80 ∷ 65 ∷ 82 ∷ 49 ∷ []

abbrev as_length : ℕ → Result ℕ FooterFault
as_length n = Ok n

abbrev length_or : Result ℕ FooterFault → ℕ
length_or (Ok n) = n
length_or (Err f) = 0

five_is_not_eight : ◌≡◌ {A = ℕ} 5 8 → ⊥
five_is_not_eight h = absurd (omega (arith, h))

pub footer_length_told : IsWitness (◌≡◌ {A = ℕ} 0 0) (λ (new : ℕ). length_of tail ≡ as_length new) 8
unfolding length_of
footer_length_told = record { met = refl; refuted = λ h. five_is_not_eight (ap length_or h) }

pub footer_length_silent : IsWitness (◌≡◌ {A = ℕ} 0 0) StaysSilent (fault_at 1)
footer_length_silent = silent

pub footer_length_unchanged : IsWitness (◌≡◌ {A = ℕ} 5 0 → ⊥) (λ (new : ℕ). new ≡ 7) 8
footer_length_unchanged = unchanged

pub footer_length_refused : IsWitness ((◌≡◌ {A = ℕ} 5 0 → ⊥) × (◌≡◌ {A = ℕ} 5 4 → ⊥)) (λ (fault : Fault). (f : FooterFault) × (length_of [] ≡ Err f) × IsToldAs (bad_footer f) 20 fault) (fault_at 1)
footer_length_refused = record { met = (not_zero, not_four); refuted = λ h. other_row _ h.2.1 }

-- ---- where the page indexes begin: the footer names none

abbrev offsets_of : Result (List (List IndexPlaces)) FooterFault → List ℕ
offsets_of (Ok ps) = file_offsets ps
offsets_of (Err f) = []

no_offsets : (places : List (List IndexPlaces)) → index_places file ≡ Ok places → file_offsets places ≡ []
unfolding kind_at jump varint_from varint_in varint_at natural_at binary_at id_at head_at count_at items_at kinds_at map_at times skip_entry fields_in struct_at skip_value skip_at struct_of last_found binary_in number_in natural_in is_told spans_in items_of items_in many statistics_of statistics_in meta_of chunk_of spans_of row_group_of all_of places_of group_places index_places
no_offsets places h = sym (ap offsets_of h)

greatest_for_none : (found : Option ℕ) → IsLeast [] found → unwrap_or found (2 ^ 64 - 1) ≡ 2 ^ 64 - 1
greatest_for_none None h = refl
greatest_for_none (Some n) h = absurd (omega (arith, h.0.1))

none_begins : (found : Option ℕ) → IsIndexesBegin file found → unwrap_or found (2 ^ 64 - 1) ≡ 2 ^ 64 - 1
none_begins found h = greatest_for_none found (subst (λ (ns : List ℕ). IsLeast ns found) (no_offsets h.places h.read) h.least)

seven_is_not_greatest : ◌≡◌ {A = ℕ} 7 (2 ^ 64 - 1) → ⊥
seven_is_not_greatest h = absurd (omega (arith, h))

pub indexes_begin_told : IsWitness (◌≡◌ {A = ℕ} 0 0) (λ (new : ℕ). IsBeginTold footer new) 7
indexes_begin_told = record {
  met = refl;
  refuted = λ h.
      let same = one_ok file h.is_found.file (sym a_file_is_true.read ∙ h.is_found.read) in
      seven_is_not_greatest (h.told_is ∙ none_begins h.found (subst (λ (f : FileData). IsIndexesBegin f h.found) (sym same) h.is_found.begins));
}

pub indexes_begin_silent : IsWitness (◌≡◌ {A = ℕ} 0 0) StaysSilent (fault_at 1)
indexes_begin_silent = silent

pub indexes_begin_unchanged : IsWitness (◌≡◌ {A = ℕ} 5 0 → ⊥) (λ (new : ℕ). new ≡ 7) 8
indexes_begin_unchanged = unchanged

pub indexes_begin_refused : IsWitness ((◌≡◌ {A = ℕ} 5 0 → ⊥) × (◌≡◌ {A = ℕ} 5 4 → ⊥)) (λ (fault : Fault). (f : FooterFault) × IsIndexFault [] f × IsToldAs (bad_footer f) 20 fault) (fault_at 1)
indexes_begin_refused = record { met = (not_zero, not_four); refuted = λ h. other_row _ h.2.1 }

-- ---- data pages: one is written, and none is told

abbrev page : DataPage
page = record { group = 0; column = 0; first = 0; end = 3; offset = 4; size = 10 }

abbrev holding : List DataPage → ℕ → PageArray
holding pages n = record { pages = pages; found_len = n; fault = fault_at 0 }

abbrev no_tail : TailData
no_tail = record { begin = 0; bytes = [] }

pub data_pages_told : IsWitness (◌≡◌ {A = ℕ} 0 0) (λ (new : PageArray). ArePagesWritten footer no_tail (holding [] 0) new) (holding (page ∷ []) 0)
data_pages_told = record {
  met = refl;
  refuted = λ h.
      let long : 1 ≡ length h.told + length (drop (length h.told) []) = ap length h.pages_are ∙ length-append h.told (drop (length h.told) []) in
      omega (arith, long, length-drop {A = DataPage} (length h.told) [], h.found_len_is);
}

pub data_pages_silent : IsWitness (◌≡◌ {A = ℕ} 0 0) StaysSilent (fault_at 1)
data_pages_silent = silent

pub data_pages_pages : IsWitness (◌≡◌ {A = ℕ} 5 0 → ⊥) (λ (new : List DataPage). new ≡ []) (page ∷ [])
data_pages_pages = record { met = not_zero; refuted = one_for_none page }

pub data_pages_found_len : IsWitness ((◌≡◌ {A = ℕ} 5 0 → ⊥) × (◌≡◌ {A = ℕ} 5 3 → ⊥)) (λ (new : ℕ). new ≡ 7) 8
data_pages_found_len = uncounted

-- there is room for the one page that is told
pub data_pages_short : IsWitness (◌≡◌ {A = ℕ} 3 3) (λ (new : PageArray). AreTooManyPages footer no_tail (holding (page ∷ []) 0) new) (holding (page ∷ []) 1)
data_pages_short = record { met = refl; refuted = λ h. let more : 1 < length h.told = h.short in omega (arith, more, h.found_len_is) }

pub data_pages_refused : IsWitness ((◌≡◌ {A = ℕ} 5 0 → ⊥) × (◌≡◌ {A = ℕ} 5 3 → ⊥) × (◌≡◌ {A = ℕ} 5 4 → ⊥))
    (λ (fault : Fault). (f : FooterFault) × (told_pages [] no_tail ≡ Err f) × IsToldAs (bad_footer f) 20 fault) (fault_at 1)
data_pages_refused = record { met = (not_zero, not_three, not_four); refuted = λ h. other_row _ h.2.1 }

-- ---- pruning by the footer: the place of a leaf is written, and none is told

abbrev somewhere : Span
somewhere = record { start = 0; end = 1 }

abbrev with_spans : List Span → Places
with_spans spans = record { groups = []; unread = spans; found_len = 0; unread_len = 0; fault = fault_at 0 }

pub prune_footer_answered : IsWitness (◌≡◌ {A = ℕ} 0 0) (λ (new : Places). AreAnswered footer [] 0 [] [] new.groups new.unread new.found_len new.unread_len) (with_spans (somewhere ∷ []))
prune_footer_answered = record {
  met = refl;
  refuted = λ h.
      let leaves = unread_leaves h.condition in
      let long : 1 ≡ length (map leaf_span leaves) + 0 = ap length h.written.unread_are ∙ length-append (map leaf_span leaves) (drop 0 []) in
      omega (arith, long, length-map leaves leaf_span, h.written.unread_len_is);
}

abbrev group : RowGroup
group = record { rows = 3; size = 40; answer = 0 }

pub prune_footer_groups : IsWitness (◌≡◌ {A = ℕ} 5 0 → ⊥) (λ (new : List RowGroup). new ≡ []) (group ∷ [])
prune_footer_groups = record { met = not_zero; refuted = one_for_none group }

pub prune_footer_unread : IsWitness (◌≡◌ {A = ℕ} 5 0 → ⊥) (λ (new : List Span). new ≡ []) (somewhere ∷ [])
prune_footer_unread = record { met = not_zero; refuted = one_for_none somewhere }

pub prune_footer_found_len : IsWitness ((◌≡◌ {A = ℕ} 5 0 → ⊥) × (◌≡◌ {A = ℕ} 5 3 → ⊥)) (λ (new : ℕ). new ≡ 7) 8
prune_footer_found_len = uncounted

pub prune_footer_unread_len : IsWitness ((◌≡◌ {A = ℕ} 5 0 → ⊥) × (◌≡◌ {A = ℕ} 5 3 → ⊥)) (λ (new : ℕ). new ≡ 7) 8
prune_footer_unread_len = uncounted

pub prune_footer_told : IsWitness (◌≡◌ {A = ℕ} 0 0) StaysSilent (fault_at 1)
prune_footer_told = silent

-- no bytes are no footer
no_footer : (f : FileData) → file_of [] ≡ Ok f → ⊥
unfolding kind_at jump varint_from varint_in varint_at natural_at id_at head_at fields_in struct_at skip_value skip_at struct_of file_of
no_footer f h = absurd cc

no_other_flags : (r : Refusal) → names_of 0 ≡ Err r → ⊥
no_other_flags r h = absurd cc

-- so that is what is refused, at no row
refused_at_a_row : (r : Refusal) → IsAskRefusal [] [] 0 r → fault_at 1 ≡ r.fault → ⊥
refused_at_a_row r (inl flags) told = no_other_flags r flags
refused_at_a_row r (inr (inl refused)) told = other_row _ (told ∙ ap (λ (x : Refusal). x.fault) refused.told)
refused_at_a_row r (inr (inr text)) told = no_footer text.file text.read

ask_is_told : IsAskTold [] [] 0 20 (fault_at 1) → ⊥
ask_is_told h = refused_at_a_row h.refusal h.cause h.told.1

pub prune_footer_refused : IsWitness ((◌≡◌ {A = ℕ} 5 0 → ⊥) × (◌≡◌ {A = ℕ} 5 4 → ⊥)) (λ (fault : Fault). IsRefusedFor [] [] 0 [] [] 20 0 0 fault) (fault_at 1)
prune_footer_refused = record { met = (not_zero, not_four); refuted = λ h. neither ask_is_told (λ lack. no_footer lack.file lack.asked.read) h }

-- ---- pruning by the pages: the same

abbrev page_places : List Span → Fault → PagePlaces
page_places spans fault = record { ranges = []; unread = spans; found_len = 0; unread_len = 0; fault = fault }

pub prune_pages_answered : IsWitness (◌≡◌ {A = ℕ} 0 0) (λ (new : PagePlaces). ArePagesAnswered footer [] 0 no_tail (page_places [] (fault_at 0)) new) (page_places (somewhere ∷ []) (fault_at 0))
prune_pages_answered = record {
  met = refl;
  refuted = λ h.
      let leaves = unread_leaves h.condition in
      let long : 1 ≡ length (map leaf_span leaves) + 0 = ap length h.written.unread_are ∙ length-append (map leaf_span leaves) (drop 0 []) in
      omega (arith, long, length-map leaves leaf_span, h.written.unread_len_is);
}

abbrev stretch : RowRange
stretch = record { group = 0; first = 0; end = 3; answer = 0 }

pub prune_pages_ranges : IsWitness (◌≡◌ {A = ℕ} 5 0 → ⊥) (λ (new : List RowRange). new ≡ []) (stretch ∷ [])
prune_pages_ranges = record { met = not_zero; refuted = one_for_none stretch }

pub prune_pages_unread : IsWitness (◌≡◌ {A = ℕ} 5 0 → ⊥) (λ (new : List Span). new ≡ []) (somewhere ∷ [])
prune_pages_unread = prune_footer_unread

pub prune_pages_found_len : IsWitness ((◌≡◌ {A = ℕ} 5 0 → ⊥) × (◌≡◌ {A = ℕ} 5 3 → ⊥)) (λ (new : ℕ). new ≡ 7) 8
prune_pages_found_len = uncounted

pub prune_pages_unread_len : IsWitness ((◌≡◌ {A = ℕ} 5 0 → ⊥) × (◌≡◌ {A = ℕ} 5 3 → ⊥)) (λ (new : ℕ). new ≡ 7) 8
prune_pages_unread_len = uncounted

pub prune_pages_told : IsWitness (◌≡◌ {A = ℕ} 0 0) StaysSilent (fault_at 1)
prune_pages_told = silent

pub prune_pages_refused : IsWitness ((◌≡◌ {A = ℕ} 5 0 → ⊥) × (◌≡◌ {A = ℕ} 5 4 → ⊥))
    (λ (fault : Fault). IsAskTold [] [] 0 20 fault ⊎ IsPageLackOfAsked [] [] 0 no_tail (page_places [] (fault_at 0)) 20 (page_places [] fault)) (fault_at 1)
prune_pages_refused = record { met = (not_zero, not_four); refuted = λ h. neither ask_is_told (λ lack. no_footer lack.file lack.asked.read) h }
