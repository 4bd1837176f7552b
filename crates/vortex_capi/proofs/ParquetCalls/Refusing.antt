-- What a refused call says.
use Rattle.std.proofs.Common.{◌≡◌, ◌≢◌, ℕ, List, [], Ok, inl, inr, refl, ap, sym, ◌∙◌, arith}
use Rattle.vortex_capi.specs.declared.fault.Fault.{Fault}
use Rattle.vortex_parquet.specs.Columns.{ColumnView, columns_of}
use Rattle.vortex_parquet.specs.Footer.{length_of}
use Rattle.vortex_parquet.specs.Reading.{Fails}
use Rattle.vortex_parquet.specs.Records.{FileData, file_of}
use Rattle.vortex_parquet.specs.Stats.{groups_of}
use Rattle.vortex_parquet.specs.declared.columns.Leaf.{Leaf}
use Rattle.vortex_parquet.specs.declared.fault.ReadError.{ReadError}
use Rattle.vortex_parquet.specs.declared.fault.ReadError.TheVariants as read
use Rattle.vortex_predicates.specs.Footers.Refusals.{IsGroupFault, IsToldOf}
use Rattle.vortex_predicates.specs.declared.parquet.error.FooterError.{FooterError}
use Rattle.vortex_predicates.specs.declared.parquet.error.FooterError.TheVariants as error
use Rattle.vortex_predicates.specs.Conditions.Conditions.{ProvedCondition}
use Rattle.vortex_capi.specs.ParquetCalls.FooterPrunes.{IsAnsweredBy, IsAskRefusal, IsAsked, IsLack, IsLackOfAsked, IsLengthTold, IsPruned, IsText, Places}
use Rattle.vortex_capi.proofs.PruneLemmas.{not_zero}
use Rattle.vortex_capi.specs.ParquetCalls.Refusals.{of_footer, of_read}
use Rattle.vortex_capi.specs.Prunes.{IsToldAs}
use Rattle.vortex_capi.specs.SqlCalls.SqlPrunes.{IsNoText}
use Rattle.vortex_capi.specs.Statuses.{status_number}
use Rattle.vortex_capi.specs.declared.fault.Refusal.{Refusal}
use Rattle.vortex_capi.specs.declared.status.Status.TheVariants.{NoMemory}

-- ---- the length of a footer

pub length_refused : (e : ReadError) (tail : List ℕ) (old : ℕ) (result : ℕ) (old_fault fault : Fault) → IsToldAs (of_read e) result fault → Fails e (length_of tail) → IsLengthTold tail old old result old_fault fault
length_refused read.Memory tail old result old_fault fault put h =
    let four : result ≡ 4 = put.0 in
    record {
      told = λ z. absurd (omega arith);
      silent = λ z. absurd (omega arith);
      unchanged = λ z. refl;
      refused = λ z n. absurd (n four);
    }
length_refused (read.Fault f) tail old result old_fault fault put h =
    let twenty : result ≡ 20 = put.0 in
    record {
      told = λ z. absurd (omega arith);
      silent = λ z. absurd (omega arith);
      unchanged = λ z. refl;
      refused = λ z n. (f, h, put);
    }

-- ---- what is asked

pub file_refused : (footer text : List ℕ) (flags : ℕ) (e : ReadError) (r : Refusal) → r ≡ of_read e → Fails e (file_of footer) → r.status ≢ NoMemory → IsAskRefusal footer text flags r
file_refused footer text flags read.Memory r is h n = absurd (n (ap (λ (x : Refusal). x.status) is))
file_refused footer text flags (read.Fault f) r is h n = inr (inl (record { fault = f; told = is; cause = inl h }))

pub columns_refused : (footer text : List ℕ) (flags : ℕ) (file : FileData) (e : ReadError) (r : Refusal) → r ≡ of_read e → file_of footer ≡ Ok file → Fails e (columns_of file.schema) → r.status ≢ NoMemory → IsAskRefusal footer text flags r
columns_refused footer text flags file read.Memory r is found h n = absurd (n (ap (λ (x : Refusal). x.status) is))
columns_refused footer text flags file (read.Fault f) r is found h n = inr (inl (record { fault = f; told = is; cause = inr (file, found, h) }))

pub text_refused : (footer text : List ℕ) (flags : ℕ) (file : FileData) (cs : List ColumnView) (count : ℕ) (r : Refusal) → file_of footer ≡ Ok file → columns_of file.schema ≡ Ok (cs, count) → IsNoText text r → IsAskRefusal footer text flags r
text_refused footer text flags file cs count r found columns h = inr (inr (record { file = file; read = found; columns = cs; count = count; are_columns = columns; cause = inl h }))

pub condition_refused : (footer text : List ℕ) (flags : ℕ) (file : FileData) (cs : List ColumnView) (count : ℕ) (e : FooterError) (r : Refusal) → file_of footer ≡ Ok file → columns_of file.schema ≡ Ok (cs, count) → IsText text → IsToldOf [] cs count text e → r ≡ of_footer e
    → IsAskRefusal footer text flags r
condition_refused footer text flags file cs count e r found columns utf8 told is =
    inr (inr (record { file = file; read = found; columns = cs; count = count; are_columns = columns; cause = inr (utf8, e, told, is) }))

-- ---- what is answered

-- a fault of the row groups is told
pub groups_refused : (file : FileData) (count : ℕ) (ls : List Leaf) (x : ProvedCondition) (old new : Places) (result : ℕ) (e : FooterError) → IsGroupFault x (groups_of ls count file) e → IsToldAs (of_footer e) result new.fault
    → new.groups ≡ old.groups → new.unread ≡ old.unread → new.found_len ≡ old.found_len → new.unread_len ≡ old.unread_len → IsAnsweredBy file count ls x old new result
groups_refused file count ls x old new result e fault put groups unread found unread_len =
    record {
      written = λ z. absurd (not_zero (of_footer e).status (sym put.0 ∙ z));
      groups = λ z. groups;
      unread = λ z. unread;
      found_len = λ z n. found;
      unread_len = λ z n. unread_len;
      told = λ z. absurd (not_zero (of_footer e).status (sym put.0 ∙ z));
      lack = λ z n. inr (record { error = e; refused = fault; told = put });
    }

lack_of_asked : (footer text : List ℕ) (flags : ℕ) (file : FileData) (count : ℕ) (ls : List Leaf) (x : ProvedCondition) (old new : Places) (result : ℕ) → IsAsked footer text flags file count ls x → IsLack file count ls x old result new
    → IsLackOfAsked footer text flags old.groups old.unread result new.found_len new.unread_len new.fault
lack_of_asked footer text flags file count ls x old new result asked lack = record { file = file; count = count; ls = ls; condition = x; asked = asked; lack = lack }

pub answered_as : (footer text : List ℕ) (flags : ℕ) (file : FileData) (count : ℕ) (ls : List Leaf) (x : ProvedCondition) (old new : Places) (result : ℕ) → IsAsked footer text flags file count ls x → IsAnsweredBy file count ls x old new result
    → IsPruned footer text flags old new result
answered_as footer text flags file count ls x old new result asked h =
    record {
      answered = λ z. record { file = file; count = count; ls = ls; condition = x; asked = asked; written = h.written z };
      groups = h.groups;
      unread = h.unread;
      found_len = h.found_len;
      unread_len = h.unread_len;
      told = h.told;
      refused = λ z n. inr (lack_of_asked footer text flags file count ls x old new result asked (h.lack z n));
    }

pub refused_as : (footer text : List ℕ) (flags : ℕ) (old : Places) (r : Refusal) (result : ℕ) (fault : Fault) → (r.status ≢ NoMemory → IsAskRefusal footer text flags r) → IsToldAs r result fault
    → IsPruned footer text flags old (record { groups = old.groups; unread = old.unread; found_len = old.found_len; unread_len = old.unread_len; fault = fault }) result
refused_as footer text flags old r result fault cause put =
    record {
      answered = λ z. absurd (not_zero r.status (sym put.0 ∙ z));
      groups = λ z. refl;
      unread = λ z. refl;
      found_len = λ z n. refl;
      unread_len = λ z n. refl;
      told = λ z. absurd (not_zero r.status (sym put.0 ∙ z));
      refused = λ z n. inl (record { refusal = r; cause = cause (λ memory. n (put.0 ∙ ap status_number memory)); told = put });
    }
