-- A file whose statistics are true: one column of whole numbers, and one row group of 3, null and 7.
use Rattle.std.specs.Prelude.{◌≡◌, ℕ, true, false, pos, negsuc, codes, drop, List, [], ◌∷◌, Some, None, Ok}
use Rattle.vortex_base.specs.declared.dtype.DType.TheVariants as dtype
use Rattle.vortex_base.specs.declared.pvalue.PValue.TheVariants as number
use Rattle.vortex_base.specs.declared.scalar_value.ScalarValue.TheVariants as value
use Rattle.vortex_base.specs.declared.types.Nullability.TheVariants.{Nullable}
use Rattle.vortex_base.specs.declared.types.PType.TheVariants as ptype
use Rattle.vortex_base.specs.Data.Columns.{ColumnData}
use Rattle.vortex_stats.specs.declared.precision.Precision.TheVariants.{Exact, Inexact}
use Rattle.vortex_stats.specs.declared.stat.Stat.TheVariants.{Max, Min, NullCount}
use Rattle.vortex_parquet.specs.declared.columns.Content.TheVariants as content
use Rattle.vortex_parquet.specs.declared.columns.Form.TheVariants as form
use Rattle.vortex_parquet.specs.declared.columns.Leaf.{Leaf}
use Rattle.vortex_parquet.specs.declared.meaning.LeafMeaning.TheVariants as meaning
use Rattle.vortex_parquet.specs.Columns.{columns_of}
use Rattle.vortex_parquet.specs.Records.{ColumnChunkData, ElementData, FileData, RowGroupData, StatisticsData, chunk_of, file_of, row_groups_of}
use Rattle.vortex_parquet.specs.Stats.{Entries, groups_of}
use Rattle.vortex_parquet.specs.Truth.{AreTrueSets, Fit, IsTrueGroup}

abbrev pub footer : List ℕ
footer = 21 ∷ 4 ∷ 25 ∷ 44 ∷ 72 ∷ 1 ∷ 115 ∷ 21 ∷ 2 ∷ 0 ∷ 21 ∷ 2 ∷ 37 ∷ 2 ∷ 24 ∷ 3 ∷ 113 ∷ 116 ∷ 121 ∷ 0 ∷ 22 ∷ 6 ∷ 25 ∷ 28 ∷ 25 ∷ 28 ∷ 38 ∷ 8 ∷ 28 ∷ 21 ∷ 2 ∷ 188 ∷ 54 ∷ 2 ∷ 40 ∷ 4 ∷ 7 ∷ 0 ∷ 0 ∷ 0 ∷ 24 ∷ 4 ∷ 255 ∷ 255 ∷ 255 ∷ 255 ∷ 17 ∷ 0 ∷ 0 ∷ 0 ∷ 22 ∷ 198 ∷ 1 ∷ 22 ∷ 6 ∷ 54 ∷ 80 ∷ 0 ∷ 57 ∷ 28 ∷ 28 ∷ 0 ∷ 0 ∷ 0 ∷ []

abbrev pub qty : ElementData
qty = record { physical = Some 1; repetition = Some 1; name = codes "qty"; children = None; converted = None; scale = None; precision = None; annotation = None }

abbrev pub root : ElementData
root = record { physical = None; repetition = None; name = codes "s"; children = Some 1; converted = None; scale = None; precision = None; annotation = None }

abbrev pub file : FileData
file = record { schema = root ∷ qty ∷ []; orders = true ∷ []; groups = record { count = 1; from = drop 24 footer } }

-- the bytes from the column chunk on
abbrev pub span : List ℕ
span = drop 26 footer

abbrev pub group : RowGroupData
group = record { rows = 3; size = Some 40; columns = span ∷ [] }

abbrev pub statistics : StatisticsData
statistics = record { old_max = None; old_min = None; null_count = Some 1; max = Some (7 ∷ 0 ∷ 0 ∷ 0 ∷ []); min = Some (255 ∷ 255 ∷ 255 ∷ 255 ∷ []); is_max_exact = true; is_min_exact = false }

abbrev pub chunk : ColumnChunkData
chunk = record { physical = Some 1; statistics = Some statistics }

abbrev pub leaf : Leaf
leaf = record { place = 0; physical = 1; form = form.Four ptype.I32; meaning = meaning.Plain; nullability = Nullable }

abbrev pub rows : ColumnData
rows = record { dtype = dtype.Primitive ptype.I32 Nullable; values = Some (value.Primitive (number.I32 (pos 3))) ∷ None ∷ Some (value.Primitive (number.I32 (pos 7))) ∷ []; size = 0 }

abbrev pub set : Entries
set = (Max, Exact (value.Primitive (number.I32 (pos 7)))) ∷ (Min, Inexact (value.Primitive (number.I32 (negsuc 0)))) ∷ (NullCount, Exact (value.Primitive (number.U64 1))) ∷ []

-- the footer is read, its statistics are true of the rows, and so is the set that is made of them
pub record TrueFile : Type 0 where
  pub read : file_of footer ≡ Ok file
  pub groups : row_groups_of file ≡ Ok (group ∷ [])
  pub columns : columns_of file.schema ≡ Ok (record { name = codes "qty"; content = content.Leaf leaf } ∷ [], 1)
  pub chunk_read : chunk_of span ≡ Ok chunk
  pub truth : IsTrueGroup file.orders group.columns (leaf ∷ []) (rows ∷ [])
  pub known : groups_of (leaf ∷ []) 1 file ≡ Ok (record { rows = 3; size = Some 40; stats = set ∷ [] } ∷ [])
  pub fit : Fit (rows ∷ []) (set ∷ [])
  pub sets : AreTrueSets (rows ∷ []) (set ∷ [])
