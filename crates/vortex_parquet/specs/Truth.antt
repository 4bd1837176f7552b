-- When the statistics of a footer are true of the rows of a row group.
use Rattle.std.specs.Prelude.{◌≡◌, ℕ, Bool, true, List, [], ◌∷◌, Ok, Option, Some, None, Contains, IsTrue, slice_get, ⊤}
use Rattle.vortex_base.specs.declared.scalar_value.ScalarValue.{ScalarValue}
use Rattle.vortex_base.specs.Data.Columns.{ColumnData}
use Rattle.vortex_stats.specs.Sets.Entries.{entries_fit}
use Rattle.vortex_stats.specs.Sets.Claims.{IsTrueOf, NoneAbove, NoneBelow, null_count}
use Rattle.vortex_parquet.specs.declared.columns.Form.{Form}
use Rattle.vortex_parquet.specs.declared.columns.Leaf.{Leaf}
use Rattle.vortex_parquet.specs.Records.{ColumnChunkData, FileData, RowGroupData, StatisticsData, chunk_of, is_number, row_groups_of}
use Rattle.vortex_parquet.specs.Columns.{is_signed}
use Rattle.vortex_parquet.specs.Stats.{Entries, GroupData, all_of, group_of, groups_of, greatest_value, leaf_set, or_false, statistics_by, value_of}

-- The statistics are true of the values of a column: the bounds in the order of its type, which they are in only where it is told so; the deprecated ones in that of signed numbers; a bound that is told to be exact is one of the values. NaN is left out of the bounds of floats, so their greatest tells nothing.
pub record AreTrue (f : Form) (ordered : Bool) (s : StatisticsData) (xs : List (Option ScalarValue)) : Type 0 where
  pub max : ordered ≡ true → (b : List ℕ) (v : ScalarValue) → s.max ≡ Some b → greatest_value f b ≡ Some v → NoneAbove v xs × (s.is_max_exact ≡ true → Contains xs (Some v))
  pub min : ordered ≡ true → (b : List ℕ) (v : ScalarValue) → s.min ≡ Some b → value_of f b ≡ Some v → NoneBelow v xs × (s.is_min_exact ≡ true → Contains xs (Some v))
  pub old_max : is_signed f ≡ true → (b : List ℕ) (v : ScalarValue) → s.old_max ≡ Some b → greatest_value f b ≡ Some v → NoneAbove v xs
  pub old_min : is_signed f ≡ true → (b : List ℕ) (v : ScalarValue) → s.old_min ≡ Some b → value_of f b ≡ Some v → NoneBelow v xs
  pub null_count : (n : ℕ) → s.null_count ≡ Some n → null_count xs ≡ n

-- those of the column chunk with which the bytes begin, if it is there, has statistics and is of the schema's physical type; of a column that the schema has without nulls, that it has none is one of them
abbrev pub AreTrueOf : Leaf → Bool → Option (List ℕ) → List (Option ScalarValue) → Type 0
AreTrueOf l ordered None xs = ⊤
AreTrueOf l ordered (Some bytes) xs = (c : ColumnChunkData) (s : StatisticsData) → chunk_of bytes ≡ Ok c → is_number l.physical c.physical ≡ true → statistics_by l.nullability c.statistics ≡ Some s → AreTrue l.form ordered s xs

-- those of each leaf column that is read of a row group, beside the columns of its rows
abbrev pub IsTrueGroup : List Bool → List (List ℕ) → List Leaf → List ColumnData → Type 0
IsTrueGroup orders chunks [] [] = ⊤
IsTrueGroup orders chunks (l ∷ ls) (c ∷ cs) = AreTrueOf l (or_false (slice_get orders l.place)) (slice_get chunks l.place) c.values × IsTrueGroup orders chunks ls cs
IsTrueGroup orders chunks ls cs = ⊥

-- each set is true of the column beside it
abbrev pub AreTrueSets : List ColumnData → List Entries → Type 0
AreTrueSets [] [] = ⊤
AreTrueSets (c ∷ cs) (es ∷ ss) = IsTrueOf es c × AreTrueSets cs ss
AreTrueSets cs ss = ⊥

-- there is one set a column, and each fits it
abbrev pub Fit : List ColumnData → List Entries → Type 0
Fit [] [] = ⊤
Fit (c ∷ cs) (es ∷ ss) = IsTrue (entries_fit es c.dtype) × Fit cs ss
Fit cs ss = ⊥

-- where the statistics of a row group are true of its rows, so are the sets that are made of them
abbrev pub TrueGroups : Type 0
TrueGroups =
    (orders : List Bool) (chunks : List (List ℕ)) (ls : List Leaf) (cs : List ColumnData) (sets : List Entries) → all_of (leaf_set orders chunks) ls ≡ Ok sets
    → Fit cs sets → IsTrueGroup orders chunks ls cs → AreTrueSets cs sets

-- what is known of the row groups of a file tells of each what is known of it
abbrev pub KnownGroups : Type 0
KnownGroups =
    (ls : List Leaf) (count : ℕ) (file : FileData) (known : List GroupData) (groups : List RowGroupData) → groups_of ls count file ≡ Ok known → row_groups_of file ≡ Ok groups
    → (i : ℕ) (g : RowGroupData) → slice_get groups i ≡ Some g → (k : GroupData) × (slice_get known i ≡ Some k) × (group_of ls count file.orders g ≡ Ok k)
