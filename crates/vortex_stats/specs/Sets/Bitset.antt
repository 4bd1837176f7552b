-- Sets of statistics as bytes: number n is in a list of bytes if bit n mod 8 of byte n div 8 exists and is set.
use Rattle.std.specs.Prelude.{◌≡◌, ℕ, zero, suc, ◌+◌, ◌*◌, ◌/◌, ◌%◌, ◌^◌, ◌==◌, Bool, false, if◌then◌else◌, List, [], ◌∷◌, length, slice_index}
use Rattle.std.specs.List.{filter, list_any}
use Rattle.std.proofs.Common.{ap}
use Rattle.vortex_stats.specs.declared.stat.Stat.{Stat}
use Rattle.vortex_stats.specs.declared.stat.Stat.TheVariants.{IsConstant, IsSorted, IsStrictSorted, Max, Min, Sum, NullCount, UncompressedSizeInBytes, NaNCount}
use Rattle.vortex_stats.specs.Stat.{stat_number, stat_eq, all_stats}

-- bit k of a number, counted from the least
abbrev pub bit_of : ℕ → ℕ → Bool
bit_of x k = x / 2 ^ k % 2 == 1

-- bit n mod 8 of byte n div 8; past the last byte no bit is set
abbrev pub is_set : List ℕ → ℕ → Bool
is_set bytes n = bit_of (slice_index bytes (n / 8)) (n % 8)

-- the statistics whose numbers are set, ascending
abbrev pub stats_in : List ℕ → List Stat
stats_in bytes = filter (λ s. is_set bytes (stat_number s)) all_stats

-- a statistic of the list has this number
abbrev pub has_number : List Stat → ℕ → Bool
has_number stats n = list_any (λ s. stat_number s == n) stats

-- two bytes, whose bits are exactly the numbers of the statistics
pub record IsBitsetOf (stats : List Stat) (bytes : List ℕ) : Type 0 where
  pub two : length bytes ≡ 2
  pub bits : (n : ℕ) → is_set bytes n ≡ has_number stats n

-- the statistics of the list, each once, ascending
abbrev pub distinct_ascending : List Stat → List Stat
distinct_ascending stats = filter (λ s. list_any (λ r. stat_eq r s) stats) all_stats

-- what was written is read back, each statistic once and ascending
pub stats_in_written : (stats : List Stat) (bytes : List ℕ) → IsBitsetOf stats bytes → stats_in bytes ≡ distinct_ascending stats
stats_in_written stats bytes w = ap (λ p. filter p all_stats) (λ i s. w.bits (stat_number s) i)

-- ---- the two bytes as they are made

-- 1 or 0
abbrev pub bit : Bool → ℕ
bit b = if b then 1 else 0

-- the number of these bits, from the least
abbrev pub number_of : List Bool → ℕ
number_of [] = 0
number_of (b ∷ bs) = bit b + 2 * number_of bs

-- bit k of these
abbrev pub bit_at : List Bool → ℕ → Bool
bit_at [] k = false
bit_at (b ∷ bs) zero = b
bit_at (b ∷ bs) (suc k) = bit_at bs k

-- whether the statistic is listed
abbrev pub is_listed : List Stat → Stat → Bool
is_listed stats s = list_any (λ r. stat_eq r s) stats

abbrev pub low_bits : List Stat → List Bool
low_bits stats =
    is_listed stats IsConstant ∷ is_listed stats IsSorted ∷ is_listed stats IsStrictSorted ∷ is_listed stats Max
    ∷ is_listed stats Min ∷ is_listed stats Sum ∷ is_listed stats NullCount ∷ is_listed stats UncompressedSizeInBytes ∷ []

abbrev pub high_bits : List Stat → List Bool
high_bits stats = is_listed stats NaNCount ∷ []
