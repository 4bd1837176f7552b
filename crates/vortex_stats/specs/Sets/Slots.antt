-- The entries of a set in nine slots, one a statistic, and the order of those that are filled.
use Rattle.std.specs.Prelude.{◌≡◌, ℕ, Bool, true, false, List, [], ◌∷◌, Option, Some, None, length, slice_index_or, ⊤}
use Rattle.vortex_stats.specs.declared.stat.Stat.{Stat}
use Rattle.vortex_stats.specs.declared.precision.Precision.{Precision}
use Rattle.vortex_stats.specs.declared.precision.Precision.TheVariants.{Absent}
use Rattle.vortex_stats.specs.Sets.Entries.{has_entry, AreDistinct}
use Rattle.vortex_stats.specs.Stat.{stat_number}

module _ {V : Type 0} where
  -- the slot of a statistic is the one of its number
  abbrev pub slot_of : List (Option (Stat × Precision V)) → Stat → Option (Stat × Precision V)
  slot_of slots s = slice_index_or slots (stat_number s) None

  abbrev pub value_in : Option (Stat × Precision V) → Precision V
  value_in None = Absent
  value_in (Some e) = e.1

  -- the entries of the statistics that the order names, in that order
  abbrev pub slot_entries : List (Option (Stat × Precision V)) → List Stat → List (Stat × Precision V)
  slot_entries slots [] = []
  slot_entries slots (s ∷ ss) = (s, value_in (slot_of slots s)) ∷ slot_entries slots ss

  -- the slot is empty, and the statistic isn't listed; or it holds the statistic's entry, and the statistic is listed
  abbrev pub IsHeld : Option (Stat × Precision V) → Stat → Bool → Type 0
  IsHeld None s is_listed = is_listed ≡ false
  IsHeld (Some e) s is_listed = (e.0 ≡ s) × (is_listed ≡ true)

  -- the order names exactly the statistics of the filled slots, each once, and each slot's entry has its number
  pub record IsSound (slots : List (Option (Stat × Precision V))) (order : List Stat) (capacity : ℕ) : Type 0 where
    pub nine : length slots ≡ 9
    pub inline : capacity ≡ 9
    pub held : (s : Stat) → IsHeld (slot_of slots s) s (has_entry s (slot_entries slots order))
    pub distinct : AreDistinct (slot_entries slots order)

  -- the slot holds the statistic's entry
  abbrev pub IsFiled : Option (Stat × Precision V) → Stat → Type 0
  IsFiled None s = ⊥
  IsFiled (Some e) s = e.0 ≡ s

  -- each statistic of the order has its entry in its slot
  abbrev pub AreFiled : List (Option (Stat × Precision V)) → List Stat → Type 0
  AreFiled slots [] = ⊤
  AreFiled slots (s ∷ ss) = IsFiled (slot_of slots s) s × AreFiled slots ss

  -- what an iterator over slots knows of what is left
  pub record AreLeft (slots : List (Option (Stat × Precision V))) (order : List Stat) : Type 0 where
    pub nine : length slots ≡ 9
    pub filed : AreFiled slots order
    pub distinct : AreDistinct (slot_entries slots order)
