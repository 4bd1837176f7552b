-- The arrays that Arrow's buffers are read into.
use Rattle.std.specs.Prelude.{◌≡◌, ◌≢◌, ℕ, true, List, [], ◌∷◌, Result, Ok, Err, if◌then◌else◌, map}
use Rattle.std.specs.List.{range_with_len}
use Rattle.vortex_base.specs.declared.dtype.DType.{DType}
use Rattle.vortex_base.specs.declared.dtype.DType.TheVariants as dtype
use Rattle.vortex_capi.specs.declared.arrow.ArrowValues.{ArrowValues}
use Rattle.vortex_capi.specs.declared.arrow.Unpacked.{Unpacked}
use Rattle.vortex_capi.specs.declared.fault.Refusal.{Refusal}
use Rattle.vortex_capi.specs.declared.status.Status.TheVariants.{NoMemory}
use Rattle.vortex_capi.specs.declared.values.Values.{Values}
use Rattle.vortex_capi.specs.Arrow.{bit_of, ends, offset_at, read_column as read_arrow}
use Rattle.vortex_capi.specs.Values.{are_filled, read_column}

-- one byte for a bit that is set, another for one that isn't
abbrev pub byte_of : (set clear : ℕ) → List ℕ → ℕ → ℕ
byte_of set clear bits i = if bit_of bits i then set else clear

-- a byte for each of so many bits from a place on
abbrev pub bytes_of : (set clear : ℕ) → List ℕ → (from count : ℕ) → List ℕ
bytes_of set clear bits from count = map (byte_of set clear bits) (range_with_len from count)

-- a byte for each row that is 1 for null, or none where there is no bitmap
abbrev pub marks_of : List ℕ → (from count : ℕ) → List ℕ
marks_of [] from count = []
marks_of (b ∷ bits) from count = bytes_of 0 1 (b ∷ bits) from count

-- the nulls of a column; those of a column of nulls aren't marked
abbrev pub nulls_of : DType → ArrowValues → List ℕ
nulls_of dtype.Null a = []
nulls_of t a = marks_of a.validity.now a.offset a.rows

-- a byte for each truth, in a column of truths
abbrev pub truths_of : DType → ArrowValues → List ℕ
truths_of (dtype.Bool n) a = bytes_of 1 0 a.values.now a.offset a.rows
truths_of t a = []

-- these arrays are read out of the buffers
pub record AreUnpacked (t : DType) (a : ArrowValues) (u : Unpacked) : Type 0 where
  pub ends : ends t a ≡ Ok u.ends.items
  pub nulls : u.nulls.items ≡ nulls_of t a
  pub truths : u.truths.items ≡ truths_of t a

-- arrays were read out of the buffers, or these are refused; memory may be refused
abbrev pub Unpacks : DType → ArrowValues → Result Unpacked Refusal → Type 0
Unpacks t a (Ok u) = AreUnpacked t a u
Unpacks t a (Err r) = r.status ≢ NoMemory → ends t a ≡ Err r

-- the arrays of a column in Arrow's layout, with some values
pub record AreWith (u : Unpacked) (a : ArrowValues) (bytes : List ℕ) (v : Values) : Type 0 where
  pub rows : v.rows ≡ a.rows
  pub size : v.size ≡ a.size
  pub start : v.start ≡ offset_at a.offset_width a.offsets.now a.offset
  pub values : v.values.now ≡ bytes
  pub ends : v.ends.now ≡ u.ends.items
  pub nulls : v.nulls.now ≡ u.nulls.items

-- the arrays have an element for each row, and are read as the column in Arrow's layout
pub record IsReadFrom (t : DType) (a : ArrowValues) (v : Values) : Type 0 where
  pub filled : are_filled t v ≡ true
  pub column : read_column t v ≡ read_arrow t a
  pub size : v.size ≡ a.size
