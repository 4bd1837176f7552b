-- What is told of where page indexes begin.
use Rattle.std.proofs.Common.{◌≡◌, ◌-◌, ◌^◌, ℕ, List, Option, Result, Ok, Err, inl, inr, refl, arith}
use Rattle.std.specs.Prelude.{IfErr, IfOk}
use Rattle.std.specs.Option.{unwrap_or}
use Rattle.vortex_capi.specs.declared.fault.Fault.{Fault}
use Rattle.vortex_parquet.specs.PageIndexes.{IsIndexesBegin, index_places}
use Rattle.vortex_parquet.specs.Reading.{Fails}
use Rattle.vortex_parquet.specs.Records.{FileData, file_of}
use Rattle.vortex_parquet.specs.declared.fault.ReadError.{ReadError}
use Rattle.vortex_parquet.specs.declared.fault.ReadError.TheVariants as read
use Rattle.vortex_capi.specs.ParquetCalls.IndexBegins.{IsBeginFound, IsIndexAnswer, IsIndexRefusal}
use Rattle.vortex_capi.specs.ParquetCalls.Refusals.{of_read}
use Rattle.vortex_capi.specs.Prunes.{IsToldAs}

pub no_footer : (footer : List ℕ) (e : ReadError) → Fails e (file_of footer) → IsIndexRefusal footer e
no_footer footer read.Memory h = tt
no_footer footer (read.Fault f) h = inl h

pub begin_found : (footer : List ℕ) (file : FileData) (r : Result (Option ℕ) ReadError) → file_of footer ≡ Ok file → IfOk r (IsIndexesBegin file) → IfOk r (IsBeginFound footer)
begin_found footer file (Ok found) is h = record { file = file; read = is; begins = h }
begin_found footer file (Err e) is h = tt

refused_of : (footer : List ℕ) (file : FileData) (e : ReadError) → file_of footer ≡ Ok file → Fails e (index_places file) → IsIndexRefusal footer e
refused_of footer file read.Memory is h = tt
refused_of footer file (read.Fault f) is h = inr (file, is, h)

pub begin_refused : (footer : List ℕ) (file : FileData) (r : Result (Option ℕ) ReadError) → file_of footer ≡ Ok file → IfErr r (λ e. Fails e (index_places file)) → IfErr r (IsIndexRefusal footer)
begin_refused footer file (Ok found) is h = tt
begin_refused footer file (Err e) is h = refused_of footer file e is h

pub begin_told : (footer : List ℕ) (found : Option ℕ) (old new : ℕ) (fault : Fault) → IsBeginFound footer found → new ≡ unwrap_or found (2 ^ 64 - 1) → IsIndexAnswer footer old new 0 fault fault
begin_told footer found old new fault h is = record {
  told = λ z. record { found = found; is_found = h; told_is = is };
  silent = λ z. refl;
  unchanged = λ n. absurd (n refl);
  refused = λ n m. absurd (n refl);
}

pub begin_untold : (footer : List ℕ) (e : ReadError) (old result : ℕ) (old_fault fault : Fault) → IsToldAs (of_read e) result fault → IsIndexRefusal footer e → IsIndexAnswer footer old old result old_fault fault
begin_untold footer read.Memory old result old_fault fault put h =
    let four : result ≡ 4 = put.0 in
    record {
      told = λ z. absurd (omega arith);
      silent = λ z. absurd (omega arith);
      unchanged = λ z. refl;
      refused = λ z n. absurd (n four);
    }
begin_untold footer (read.Fault f) old result old_fault fault put h =
    let twenty : result ≡ 20 = put.0 in
    record {
      told = λ z. absurd (omega arith);
      silent = λ z. absurd (omega arith);
      unchanged = λ z. refl;
      refused = λ z n. (f, h, put);
    }
