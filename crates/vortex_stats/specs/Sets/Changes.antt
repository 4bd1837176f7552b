-- What becomes of each entry in a merge, once the new values are known.
use Rattle.std.specs.Prelude.{◌≡◌, List, [], ◌∷◌, Option, Some, None}
use Rattle.vortex_base.specs.declared.scalar_value.ScalarValue.{ScalarValue}
use Rattle.vortex_stats.specs.declared.merge.Change.{Change}
use Rattle.vortex_stats.specs.declared.merge.Change.TheVariants.{Kept, Set, Cleared}
use Rattle.vortex_stats.specs.declared.merge.Changes.{Changes}
use Rattle.vortex_stats.specs.declared.precision.Precision.{Precision}
use Rattle.vortex_stats.specs.declared.stat.Stat.{Stat}
use Rattle.vortex_stats.specs.declared.stat.Stat.TheVariants.{IsConstant, IsSorted, IsStrictSorted, Max, Min, Sum, NullCount, UncompressedSizeInBytes, NaNCount}
use Rattle.vortex_stats.specs.Sets.Entries.{entry_value, with_entry, without_entry}
use Rattle.vortex_stats.specs.Merging.Merges.{revised}

-- the value that the change makes of the left one; None clears the entry
abbrev pub made : Change → Precision ScalarValue → Option (Precision ScalarValue)
made Kept left = Some left
made (Set new) left = Some new
made Cleared left = None

-- the entries after the change of the statistic's entry
abbrev pub changed : Stat → Change → List (Stat × Precision ScalarValue) → List (Stat × Precision ScalarValue)
changed s Kept es = es
changed s (Set new) es = with_entry s new es
changed s Cleared es = without_entry s es

-- the entries after each change of a list in turn
abbrev pub changed_by : List (Stat × Change) → List (Stat × Precision ScalarValue) → List (Stat × Precision ScalarValue)
changed_by [] es = es
changed_by (x ∷ xs) es = changed_by xs (changed x.0 x.1 es)

-- the entries after all changes, by number
abbrev pub all_changed : Changes → List (Stat × Precision ScalarValue) → List (Stat × Precision ScalarValue)
all_changed c es =
    changed NaNCount Cleared (changed UncompressedSizeInBytes c.uncompressed_size_in_bytes (changed NullCount c.null_count
    (changed Sum c.sum (changed Min c.min (changed Max c.max
    (changed IsStrictSorted c.is_strict_sorted (changed IsSorted c.is_sorted (revised IsConstant c.is_constant es))))))))

-- the changes make the values v of the left entries
pub record MakesAll (c : Changes) (v : Stat → Option (Precision ScalarValue)) (left : List (Stat × Precision ScalarValue)) : Type 0 where
  pub is_constant : c.is_constant ≡ v IsConstant
  pub is_sorted : made c.is_sorted (entry_value IsSorted left) ≡ v IsSorted
  pub is_strict_sorted : made c.is_strict_sorted (entry_value IsStrictSorted left) ≡ v IsStrictSorted
  pub max : made c.max (entry_value Max left) ≡ v Max
  pub min : made c.min (entry_value Min left) ≡ v Min
  pub sum : made c.sum (entry_value Sum left) ≡ v Sum
  pub null_count : made c.null_count (entry_value NullCount left) ≡ v NullCount
  pub uncompressed_size_in_bytes : made c.uncompressed_size_in_bytes (entry_value UncompressedSizeInBytes left) ≡ v UncompressedSizeInBytes
