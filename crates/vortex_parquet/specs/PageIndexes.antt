-- Where in a file the page indexes stand, and where the first of them begins.
use Rattle.std.specs.Prelude.{◌≡◌, ◌≤◌, ◌++◌, ℕ, List, [], ◌∷◌, Option, Some, None, Result, Ok, All, Contains, min}
use Rattle.std.specs.List.{flat_map}
use Rattle.vortex_parquet.specs.declared.fault.Fault.{Fault}
use Rattle.vortex_parquet.specs.declared.offset_index.IndexPlaces.{IndexPlaces}
use Rattle.vortex_parquet.specs.Fields.{many}
use Rattle.vortex_parquet.specs.PageIndex.{places_of}
use Rattle.vortex_parquet.specs.Reading.{◌>>=◌, Read}
use Rattle.vortex_parquet.specs.Records.{FileData, row_group_of}
use Rattle.vortex_parquet.specs.Stats.{all_of}

-- where the indexes of each column chunk of the row group with which the bytes begin stand, and the bytes behind it
unfoldable pub group_places : List ℕ → Read (List IndexPlaces)
group_places bytes = row_group_of bytes >>= λ g. all_of places_of g.0.columns >>= λ ps. Ok (ps, g.1)

-- of each column chunk of each row group of a file
unfoldable pub index_places : FileData → Result (List (List IndexPlaces)) Fault
index_places f = many group_places f.groups.count f.groups.from

abbrev pub listed : Option ℕ → List ℕ
listed None = []
listed (Some n) = n ∷ []

-- the offsets of the indexes of a column chunk, those of row groups' column chunks
abbrev pub chunk_offsets : IndexPlaces → List ℕ
chunk_offsets p = listed p.column_index ++ listed p.offset_index

abbrev pub group_offsets : List IndexPlaces → List ℕ
group_offsets ps = flat_map chunk_offsets ps

abbrev pub file_offsets : List (List IndexPlaces) → List ℕ
file_offsets gs = flat_map group_offsets gs

-- the least number of a list, or none of an empty one
abbrev pub IsLeast : List ℕ → Option ℕ → Type 0
IsLeast ns None = ns ≡ []
IsLeast ns (Some n) = Contains ns n × All (λ m. n ≤ m) ns

-- the least offset of an index of a column chunk of these
pub record IsChunksBegin (chunks : List (List ℕ)) (found : Option ℕ) : Type 0 where
  pub places : List IndexPlaces
  pub read : all_of places_of chunks ≡ Ok places
  pub least : IsLeast (group_offsets places) found

-- the least one of the row group with which the bytes begin, and the bytes behind it
pub record IsGroupBegin (bytes : List ℕ) (found : Option ℕ) (rest : List ℕ) : Type 0 where
  pub places : List IndexPlaces
  pub read : group_places bytes ≡ Ok (places, rest)
  pub least : IsLeast (group_offsets places) found

-- the least one of so many row groups, one behind the other
pub record IsGroupsBegin (count : ℕ) (bytes : List ℕ) (found : Option ℕ) : Type 0 where
  pub places : List (List IndexPlaces)
  pub read : many group_places count bytes ≡ Ok places
  pub least : IsLeast (file_offsets places) found

-- the least offset of an index that the footer of a file names, or none where it names none
pub record IsIndexesBegin (f : FileData) (found : Option ℕ) : Type 0 where
  pub places : List (List IndexPlaces)
  pub read : index_places f ≡ Ok places
  pub least : IsLeast (file_offsets places) found

-- the lesser of two numbers, as far as they are there
abbrev pub lesser : Option ℕ → Option ℕ → Option ℕ
lesser None b = b
lesser (Some n) None = Some n
lesser (Some n) (Some m) = Some (min n m)
