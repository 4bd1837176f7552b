-- Where the page indexes of a file begin, as a caller is told.
use Rattle.std.specs.Prelude.{◌≡◌, ◌≢◌, ◌⊎◌, ◌-◌, ◌^◌, ℕ, List, Option, Ok, Err}
use Rattle.std.specs.Option.{unwrap_or}
use Rattle.vortex_capi.specs.declared.fault.Fault.{Fault}
use Rattle.vortex_parquet.specs.PageIndexes.{IsIndexesBegin, index_places}
use Rattle.vortex_parquet.specs.Records.{FileData, file_of}
use Rattle.vortex_parquet.specs.declared.fault.Fault.{Fault as FooterFault}
use Rattle.vortex_parquet.specs.declared.fault.ReadError.{ReadError}
use Rattle.vortex_parquet.specs.declared.fault.ReadError.TheVariants as read
use Rattle.vortex_capi.specs.Prunes.{IsToldAs}
use Rattle.vortex_capi.specs.ParquetCalls.Refusals.{bad_footer}

-- the bytes are a footer, and this is the least offset of an index that it names, or none where it names none
pub record IsBeginFound (footer : List ℕ) (found : Option ℕ) : Type 0 where
  pub file : FileData
  pub read : file_of footer ≡ Ok file
  pub begins : IsIndexesBegin file found

-- the bytes are no footer, or one whose row groups have this as their first fault
abbrev pub IsIndexFault : List ℕ → FooterFault → Type 0
IsIndexFault footer f = (file_of footer ≡ Err f) ⊎ ((file : FileData) × (file_of footer ≡ Ok file) × (index_places file ≡ Err f))

abbrev pub IsIndexRefusal : List ℕ → ReadError → Type 0
IsIndexRefusal footer read.Memory = Unit {0}
IsIndexRefusal footer (read.Fault f) = IsIndexFault footer f

-- the offset of a footer is told, or the greatest number of 64 bits where there is none
pub record IsBeginTold (footer : List ℕ) (told : ℕ) : Type 0 where
  pub found : Option ℕ
  pub is_found : IsBeginFound footer found
  pub told_is : told ≡ unwrap_or found (2 ^ 64 - 1)

-- the offset is told, or it stays as it was and the first fault is told
pub record IsIndexAnswer (footer : List ℕ) (old new : ℕ) (result : ℕ) (old_fault fault : Fault) : Type 0 where
  pub told : result ≡ 0 → IsBeginTold footer new
  pub silent : result ≡ 0 → fault ≡ old_fault
  pub unchanged : result ≢ 0 → new ≡ old
  pub refused : result ≢ 0 → result ≢ 4 → (f : FooterFault) × IsIndexFault footer f × IsToldAs (bad_footer f) result fault
