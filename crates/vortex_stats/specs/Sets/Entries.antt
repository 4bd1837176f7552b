-- Lists of entries: a statistic and its value with a precision.
use Rattle.std.specs.Prelude.{◌≡◌, Bool, true, false, not, ◌||◌, List, [], ◌∷◌, Option, Some, None, if◌then◌else◌, ⊤}
use Rattle.std.specs.List.{filter, list_any, list_all}
use Rattle.std.specs.Iterator.{Drains}
use Rattle.vortex_base.specs.declared.dtype.DType.{DType}
use Rattle.vortex_base.specs.declared.scalar_value.ScalarValue.{ScalarValue}
use Rattle.vortex_base.specs.Data.Values.{is_value}
use Rattle.vortex_stats.specs.declared.stat.Stat.{Stat}
use Rattle.vortex_stats.specs.declared.precision.Precision.{Precision}
use Rattle.vortex_stats.specs.declared.precision.Precision.TheVariants.{Exact, Inexact, Absent}
use Rattle.vortex_stats.specs.Stat.{stat_eq, stat_dtype}

module _ {V : Type 0} where
  -- the entry is one of the statistic
  abbrev pub is_entry_of : Stat → Stat × Precision V → Bool
  is_entry_of s e = stat_eq e.0 s

  abbrev pub has_entry : Stat → List (Stat × Precision V) → Bool
  has_entry s [] = false
  has_entry s (e ∷ es) = is_entry_of s e || has_entry s es

  -- the value of the statistic, Absent where there is no entry
  abbrev pub entry_value : Stat → List (Stat × Precision V) → Precision V
  entry_value s [] = Absent
  entry_value s (e ∷ es) = if is_entry_of s e then e.1 else entry_value s es

  -- the statistic has this value from here on: at its place, or last where there was no entry
  abbrev pub with_entry : Stat → Precision V → List (Stat × Precision V) → List (Stat × Precision V)
  with_entry s p [] = (s, p) ∷ []
  with_entry s p (e ∷ es) = if is_entry_of s e then (s, p) ∷ es else e ∷ with_entry s p es

  -- each item in turn has its value from here on
  abbrev pub with_entries : List (Stat × Precision V) → List (Stat × Precision V) → List (Stat × Precision V)
  with_entries [] es = es
  with_entries (x ∷ xs) es = with_entries xs (with_entry x.0 x.1 es)

  -- the entries of the other statistics, in order
  abbrev pub without_entry : Stat → List (Stat × Precision V) → List (Stat × Precision V)
  without_entry s es = filter (λ e. not (is_entry_of s e)) es

  -- the entry is one of a statistic of the list
  abbrev pub is_kept : List Stat → Stat × Precision V → Bool
  is_kept stats e = list_any (λ s. is_entry_of s e) stats

  -- the entries of the list's statistics, in order
  abbrev pub retained_entries : List Stat → List (Stat × Precision V) → List (Stat × Precision V)
  retained_entries stats es = filter (is_kept stats) es

  -- no two entries are of one statistic
  abbrev pub AreDistinct : List (Stat × Precision V) → Type 0
  AreDistinct [] = ⊤
  AreDistinct (e ∷ es) = (has_entry e.0 es ≡ false) × AreDistinct es

-- what setting the items of an iterator makes of a list; `steps` is what a call of `next` gives
module _ {S V : Type 0} (steps : S → Option (Stat × Precision V) → S → Type 0) where
  -- each item was set, in order
  abbrev pub SetsAll : S → List (Stat × Precision V) → List (Stat × Precision V) → Type 0
  SetsAll s old new = (items : List (Stat × Precision V)) × Drains steps s items × (new ≡ with_entries items old)

-- a value of the type, if there is one
abbrev pub is_value_of : Option DType → ScalarValue → Bool
is_value_of None v = false
is_value_of (Some t) v = is_value v t

-- the value, if present, is one of the statistic's type in a column of type t
abbrev pub value_fits : Stat → DType → Precision ScalarValue → Bool
value_fits s t (Exact v) = is_value_of (stat_dtype s t) v
value_fits s t (Inexact v) = is_value_of (stat_dtype s t) v
value_fits s t Absent = true

-- each value of the list
abbrev pub entries_fit : List (Stat × Precision ScalarValue) → DType → Bool
entries_fit es t = list_all (λ e. value_fits e.0 t e.1) es
