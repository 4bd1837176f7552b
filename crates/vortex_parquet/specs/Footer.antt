-- Where the footer of a file stands.
use Rattle.std.specs.Prelude.{ℕ, ◌-◌, List, length, take, drop, Result, Ok, Err, nat_lt, codes, not, ◌==◌, if◌then◌else◌}
use Rattle.std.specs.Int.{w32, from_le_bytes}
use lib.Pointwise.{pointwise}
use Rattle.vortex_parquet.specs.declared.fault.Fault.{Fault}
use Rattle.vortex_parquet.specs.declared.fault.Fault.TheVariants as fault
use Rattle.vortex_parquet.specs.Reading.{◌>>=◌}

-- the length of a footer by the last eight bytes of its file: the length, lowest byte first, and a mark
unfoldable pub length_of : List ℕ → Result ℕ Fault
length_of tail = if not (length tail == 8) then Err fault.NotParquet else (
    if pointwise ◌==◌ (drop 4 tail) (codes "PARE") then Err fault.Encrypted else (
    if not (pointwise ◌==◌ (drop 4 tail) (codes "PAR1")) then Err fault.NotParquet else
    Ok (from_le_bytes w32 (take 4 tail))))

-- the last so many bytes, if there are so many
unfoldable pub last_of : ℕ → List ℕ → Result (List ℕ) Fault
last_of n bytes = if nat_lt (length bytes) n then Err fault.FooterLength else Ok (drop (length bytes - n) bytes)

-- the footer stands before the last eight bytes
unfoldable pub footer_of : List ℕ → Result (List ℕ) Fault
footer_of file = if nat_lt (length file) 8 then Err fault.NotParquet else (
    length_of (drop (length file - 8) file) >>= λ n. last_of n (take (length file - 8) file))
