-- Worked rows: the parts that stand in the columns and the log of a store, computed.
use Rattle.std.proofs.Common.{◌≡◌, ℕ, List, [], ◌∷◌, Option, None, Some, codes, refl, true, false}
use Rattle.vortex_base.specs.Data.Columns.{ChunkData, ColumnData}
use Rattle.vortex_base.specs.Data.Scopes.{Named}
use Rattle.vortex_base.specs.declared.dtype.DType.TheVariants as dtype
use Rattle.vortex_base.specs.declared.scalar_value.ScalarValue.{ScalarValue}
use Rattle.vortex_base.specs.declared.scalar_value.ScalarValue.TheVariants as value
use Rattle.vortex_base.specs.declared.types.Nullability.TheVariants.{NonNullable, Nullable}
use Rattle.vortex_prune.specs.Part.{PartData}
use Rattle.vortex_zone_map.specs.Zone.{Entries, ZoneData}
use Rattle.vortex_stats.specs.declared.precision.Precision.TheVariants.{Exact}
use Rattle.vortex_stats.specs.declared.stat.Stat.TheVariants as stat
use Rattle.vortex_text.specs.Stores.{parts_in, with_joined}
use Rattle.vortex_zone_map.specs.Logs.{LogData, ended, joined_at}

abbrev truth : Option ScalarValue
truth = Some (value.Bool true)

abbrev lie : Option ScalarValue
lie = Some (value.Bool false)

-- two columns of truths, the second with nulls
abbrev scope : List Named
scope = (codes "a", dtype.Bool NonNullable) ∷ (codes "b", dtype.Bool Nullable) ∷ []

abbrev a_column : List (Option ScalarValue) → ColumnData
a_column vs = record { dtype = dtype.Bool NonNullable; values = vs; size = 0 }

abbrev b_column : List (Option ScalarValue) → ColumnData
b_column vs = record { dtype = dtype.Bool Nullable; values = vs; size = 0 }

-- three rows
abbrev three : ChunkData
three = record { scope = scope; columns = a_column (truth ∷ lie ∷ truth ∷ []) ∷ b_column (None ∷ truth ∷ lie ∷ []) ∷ [] }

abbrev part : List (Option ScalarValue) → List (Option ScalarValue) → List Entries → PartData
part as' bs sets = record { chunk = record { scope = scope; columns = a_column as' ∷ b_column bs ∷ [] }; stats = sets }

abbrev untold : List Entries
untold = [] ∷ [] ∷ []

-- the least value of the first column is known
abbrev least : List Entries
least = ((stat.Min, Exact (value.Bool false)) ∷ []) ∷ [] ∷ []

abbrev zone : ℕ → List Entries → ZoneData
zone rows sets = record { rows = rows; stats = sets }

-- a part of two rows has ended, and the third row stands in the open one, of which something is known
abbrev second_open : LogData
second_open = record { zones = zone 2 untold ∷ []; current = least }

two_parts : parts_in three second_open 2 true ≡ record { ended = part (truth ∷ lie ∷ []) (None ∷ truth ∷ []) untold ∷ []; current = Some (part (truth ∷ []) (lie ∷ []) least) }
two_parts = refl

-- it ends
both_ended : parts_in three (ended 1 second_open) 3 false ≡ record { ended = part (truth ∷ lie ∷ []) (None ∷ truth ∷ []) untold ∷ part (truth ∷ []) (lie ∷ []) least ∷ []; current = None }
both_ended = refl

-- one without rows stands between them
none_between : parts_in three (record { zones = zone 2 untold ∷ zone 0 least ∷ zone 1 untold ∷ []; current = untold }) 3 true
    ≡ record { ended = part (truth ∷ lie ∷ []) (None ∷ truth ∷ []) untold ∷ part [] [] least ∷ part (truth ∷ []) (lie ∷ []) untold ∷ []; current = Some (part [] [] untold) }
none_between = refl

-- three parts of one row; the second and the third become one, of whose least value nothing is known
abbrev one_each : List ZoneData
one_each = zone 1 untold ∷ zone 1 least ∷ zone 1 untold ∷ []

last_joined : joined_at 1 one_each ≡ Some (zone 1 untold ∷ zone 2 untold ∷ [])
last_joined = refl

after_a_join : parts_in three (record { zones = zone 1 untold ∷ zone 2 untold ∷ []; current = untold }) 3 false ≡ record { ended = part (truth ∷ []) (None ∷ []) untold ∷ part (lie ∷ truth ∷ []) (truth ∷ lie ∷ []) untold ∷ []; current = None }
after_a_join = refl

-- so the parts are joined
parts_joined : with_joined 1 (parts_in three (record { zones = one_each; current = untold }) 3 false)
    ≡ Some (record { ended = part (truth ∷ []) (None ∷ []) untold ∷ part (lie ∷ truth ∷ []) (truth ∷ lie ∷ []) untold ∷ []; current = None })
parts_joined = refl
