-- The data pages of a file, as a caller is told of them.
use Rattle.std.specs.Prelude.{◌≡◌, ◌≢◌, ◌<◌, ◌++◌, ℕ, List, Result, Ok, Err, drop, length}
use Rattle.vortex_capi.specs.declared.fault.Fault.{Fault}
use Rattle.vortex_parquet.specs.Columns.{columns_of}
use Rattle.vortex_parquet.specs.DataPages.{data_pages}
use Rattle.vortex_parquet.specs.GroupPages.{TailData}
use Rattle.vortex_parquet.specs.Reading.{◌>>=◌}
use Rattle.vortex_parquet.specs.Records.{ElementData, file_of}
use Rattle.vortex_parquet.specs.declared.data_pages.DataPage.{DataPage}
use Rattle.vortex_parquet.specs.declared.fault.Fault.{Fault as FooterFault}
use Rattle.vortex_capi.specs.Prunes.{IsToldAs}
use Rattle.vortex_capi.specs.ParquetCalls.Refusals.{bad_footer}

-- how many leaf columns a schema has
unfoldable pub leaf_count : List ElementData → Result ℕ FooterFault
leaf_count elements = columns_of elements >>= λ columns. Ok columns.1

-- those that the offset indexes of a footer tell, as far as these are among the last bytes of the file
unfoldable pub told_pages : List ℕ → TailData → Result (List DataPage) FooterFault
told_pages footer t = file_of footer >>= λ file. leaf_count file.schema >>= λ count. data_pages t count file

-- what a caller hands in to be written
pub record PageArray : Type 0 where
  pub pages : List DataPage
  pub found_len : ℕ
  pub fault : Fault

-- the pages stand at the front of the array
pub record ArePagesWritten (footer : List ℕ) (t : TailData) (old new : PageArray) : Type 0 where
  pub told : List DataPage
  pub read : told_pages footer t ≡ Ok told
  pub pages_are : new.pages ≡ told ++ drop (length told) old.pages
  pub found_len_is : new.found_len ≡ length told

-- there is too little room for them
pub record AreTooManyPages (footer : List ℕ) (t : TailData) (old new : PageArray) : Type 0 where
  pub told : List DataPage
  pub read : told_pages footer t ≡ Ok told
  pub short : length old.pages < length told
  pub found_len_is : new.found_len ≡ length told

-- what a call makes of the places; why it was refused but for memory comes in this order: the footer and the offset indexes, too little room
pub record ArePagesTold (footer : List ℕ) (t : TailData) (old new : PageArray) (result : ℕ) : Type 0 where
  pub told : result ≡ 0 → ArePagesWritten footer t old new
  pub silent : result ≡ 0 → new.fault ≡ old.fault
  pub pages : result ≢ 0 → new.pages ≡ old.pages
  pub found_len : result ≢ 0 → result ≢ 3 → new.found_len ≡ old.found_len
  pub short : result ≡ 3 → AreTooManyPages footer t old new
  pub refused : result ≢ 0 → result ≢ 3 → result ≢ 4 → (f : FooterFault) × (told_pages footer t ≡ Err f) × IsToldAs (bad_footer f) result new.fault
