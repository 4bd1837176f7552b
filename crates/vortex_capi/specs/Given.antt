-- Values that stand one behind the other in an array of bytes.
use Rattle.std.specs.Prelude.{ℕ, zero, suc, ◌+◌, ◌*◌, ◌==◌, ◌&&◌, Bool, List, Option, None, Some, Result, Ok, Err, if◌then◌else◌, length, nat_le, slice_get, slice_index, slice_range}
use Rattle.vortex_base.specs.declared.dtype.DType.{DType}
use Rattle.vortex_capi.specs.declared.status.Status.{Status}
use Rattle.vortex_capi.specs.declared.status.Status.TheVariants.{BadLength, BadEnds}
use Rattle.vortex_capi.specs.Types.{width}

-- the bytes from one place up to another, where they are there
abbrev pub part_of : List ℕ → ℕ → ℕ → Option (List ℕ)
part_of values from to = if nat_le from to && nat_le to (length values) then Some (slice_range values from to) else None

-- value i of those that take w bytes each
abbrev pub fixed : List ℕ → (w i : ℕ) → Option (List ℕ)
fixed values w i = part_of values (i * w) (i * w + w)

-- where text i begins: where the one before ends, and the first at `start`
abbrev pub begin : ℕ → List ℕ → ℕ → ℕ
begin start ends zero = start
begin start ends (suc i) = slice_index ends i

abbrev pub or_refused : {X : Type 0} → Status → Option X → Result X Status
or_refused s None = Err s
or_refused s (Some x) = Ok x

-- a text from where it begins up to its end
abbrev pub up_to : List ℕ → ℕ → Option ℕ → Result (List ℕ) Status
up_to values from None = Err BadLength
up_to values from (Some to) = or_refused BadEnds (part_of values from to)

-- text i
abbrev pub long : List ℕ → ℕ → List ℕ → ℕ → Result (List ℕ) Status
long values start ends i = up_to values (begin start ends i) (slice_get ends i)

-- a value by the room that each takes
abbrev pub by_width : List ℕ → ℕ → List ℕ → ℕ → Option ℕ → Result (List ℕ) Status
by_width values start ends i None = long values start ends i
by_width values start ends i (Some w) = or_refused BadLength (fixed values w i)

-- the bytes of value i of a type
abbrev pub bytes_at : DType → List ℕ → ℕ → List ℕ → ℕ → Result (List ℕ) Status
bytes_at t values start ends i = by_width values start ends i (width t)

-- arrays hold a value for each of n places and no more, by the room that each takes: so many bytes each and no ends, or an end for each
abbrev pub fill_by : (n : ℕ) → (values ends : List ℕ) → Option ℕ → Bool
fill_by n values ends (Some w) = length values == n * w && length ends == 0
fill_by n values ends None = length ends == n

-- so for values of a type
abbrev pub fill : DType → (n : ℕ) → (values ends : List ℕ) → Bool
fill t n values ends = fill_by n values ends (width t)
