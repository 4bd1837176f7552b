-- What is known of one row group after the other.
use Rattle.std.proofs.Common.{◌≡◌, ℕ, Bool, List, Ok, refl}
use Rattle.vortex_parquet.specs.declared.columns.Leaf.{Leaf}
use Rattle.vortex_parquet.specs.declared.fault.ReadError.{ReadError}
use Rattle.vortex_parquet.specs.declared.fault.ReadError.TheVariants as errors
use Rattle.vortex_parquet.specs.Reading.{Fails}
use Rattle.vortex_parquet.specs.Records.{RowGroupData, row_group_of}
use Rattle.vortex_parquet.specs.Stats.{GroupData, group_at, group_of}

pub no_row_group : (e : ReadError) (ls : List Leaf) (count : ℕ) (orders : List Bool) (bytes : List ℕ) → Fails e (row_group_of bytes) → Fails e (group_at ls count orders bytes)
unfolding group_at
no_row_group errors.Memory ls count orders bytes h = tt
no_row_group (errors.Fault d) ls count orders bytes h = rw h refl

pub not_known : (e : ReadError) (ls : List Leaf) (count : ℕ) (orders : List Bool) (bytes : List ℕ) (g : RowGroupData) (next : List ℕ) → row_group_of bytes ≡ Ok (g, next) → Fails e (group_of ls count orders g)
    → Fails e (group_at ls count orders bytes)
unfolding group_at
not_known errors.Memory ls count orders bytes g next r h = tt
not_known (errors.Fault d) ls count orders bytes g next r h = rw (r, h) refl

pub is_known : (ls : List Leaf) (count : ℕ) (orders : List Bool) (bytes : List ℕ) (g : RowGroupData) (next : List ℕ) (k : GroupData) → row_group_of bytes ≡ Ok (g, next) → group_of ls count orders g ≡ Ok k
    → group_at ls count orders bytes ≡ Ok (k, next)
unfolding group_at
is_known ls count orders bytes g next k r h = rw (r, h) refl
