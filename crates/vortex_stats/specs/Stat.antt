-- The table of the statistics.
use Rattle.std.specs.Prelude.{◌≡◌, ℕ, Bool, true, false, List, [], ◌∷◌, Option, Some, None, MatchOption, ◌==◌, if◌then◌else◌, ⊤, codes, refl}
use Rattle.std.proofs.Common.{sym, ap, ◌∙◌, eq-eqb}
use borrow.Author.Tests.{eqb-true}
use Rattle.vortex_base.specs.declared.aggregate.AggregateFnRef.{AggregateFnRef}
use Rattle.vortex_base.specs.declared.aggregate.AggregateFnRef.TheVariants as aggregate
use Rattle.vortex_base.specs.declared.dtype.DType.{DType}
use Rattle.vortex_base.specs.declared.dtype.DType.TheVariants as dtype
use Rattle.vortex_base.specs.declared.types.Nullability.TheVariants.{Nullable, NonNullable}
use Rattle.vortex_base.specs.declared.types.PType.{PType}
use Rattle.vortex_base.specs.declared.types.PType.TheVariants as ptype
use Rattle.vortex_base.specs.Data.Types.{as_nullable}
use Rattle.vortex_base.specs.Data.States.{state_dtype}
use Rattle.vortex_stats.specs.declared.stat.Stat.{Stat}
use Rattle.vortex_stats.specs.declared.stat.Stat.TheVariants.{IsConstant, IsSorted, IsStrictSorted, Max, Min, Sum, NullCount, UncompressedSizeInBytes, NaNCount}

abbrev pub stat_number : Stat → ℕ
stat_number IsConstant = 0
stat_number IsSorted = 1
stat_number IsStrictSorted = 2
stat_number Max = 3
stat_number Min = 4
stat_number Sum = 5
stat_number NullCount = 6
stat_number UncompressedSizeInBytes = 7
stat_number NaNCount = 8

-- the statistics, ascending
unfoldable pub all_stats : List Stat
all_stats = IsConstant ∷ IsSorted ∷ IsStrictSorted ∷ Max ∷ Min ∷ Sum ∷ NullCount ∷ UncompressedSizeInBytes ∷ NaNCount ∷ []

-- the statistics that pruning reads
abbrev pub pruning_stats : List Stat
pruning_stats = Min ∷ Max ∷ Sum ∷ NullCount ∷ NaNCount ∷ []

-- the same statistic
abbrev pub stat_eq : Stat → Stat → Bool
stat_eq a b = stat_number a == stat_number b

-- the statistic of a number, if it is one's
abbrev pub stat_at : ℕ → Option Stat
stat_at n =
    if n == 0 then Some IsConstant else (
    if n == 1 then Some IsSorted else (
    if n == 2 then Some IsStrictSorted else (
    if n == 3 then Some Max else (
    if n == 4 then Some Min else (
    if n == 5 then Some Sum else (
    if n == 6 then Some NullCount else (
    if n == 7 then Some UncompressedSizeInBytes else (
    if n == 8 then Some NaNCount else None))))))))

abbrev pub stat_name : Stat → List ℕ
stat_name IsConstant = codes "is_constant"
stat_name IsSorted = codes "is_sorted"
stat_name IsStrictSorted = codes "is_strict_sorted"
stat_name Max = codes "max"
stat_name Min = codes "min"
stat_name Sum = codes "sum"
stat_name NullCount = codes "null_count"
stat_name UncompressedSizeInBytes = codes "uncompressed_size_in_bytes"
stat_name NaNCount = codes "nan_count"

-- whether parts may be merged in any order
abbrev pub is_commutative : Stat → Bool
is_commutative IsSorted = false
is_commutative IsStrictSorted = false
is_commutative s = true

-- whether the value is of the column's type
abbrev pub has_same_dtype_as_array : Stat → Bool
has_same_dtype_as_array Max = true
has_same_dtype_as_array Min = true
has_same_dtype_as_array s = false

-- the type of a sum of numbers of this type
abbrev pub sum_ptype : PType → PType
sum_ptype ptype.U8 = ptype.U64
sum_ptype ptype.U16 = ptype.U64
sum_ptype ptype.U32 = ptype.U64
sum_ptype ptype.U64 = ptype.U64
sum_ptype ptype.I8 = ptype.I64
sum_ptype ptype.I16 = ptype.I64
sum_ptype ptype.I32 = ptype.I64
sum_ptype ptype.I64 = ptype.I64

-- the type of the sum of a column of this type, if it has one
abbrev pub sum_dtype : DType → Option DType
sum_dtype (dtype.Bool n) = Some (dtype.Primitive ptype.U64 Nullable)
sum_dtype (dtype.Primitive p n) = Some (dtype.Primitive (sum_ptype p) Nullable)
sum_dtype t = None

-- the type itself, but none for Null
abbrev pub extreme_dtype : DType → Option DType
extreme_dtype dtype.Null = None
extreme_dtype t = Some t

-- the type of the statistic of a column of this type, if it has one
abbrev pub stat_dtype : Stat → DType → Option DType
stat_dtype IsConstant t = Some (dtype.Bool NonNullable)
stat_dtype IsSorted t = Some (dtype.Bool NonNullable)
stat_dtype IsStrictSorted t = Some (dtype.Bool NonNullable)
stat_dtype Max t = extreme_dtype t
stat_dtype Min t = extreme_dtype t
stat_dtype Sum t = sum_dtype t
stat_dtype NullCount t = Some (dtype.Primitive ptype.U64 NonNullable)
stat_dtype UncompressedSizeInBytes t = Some (dtype.Primitive ptype.U64 NonNullable)
stat_dtype NaNCount t = None

-- the aggregate that computes the statistic, if there is one
abbrev pub stat_aggregate : Stat → Option AggregateFnRef
stat_aggregate IsConstant = None
stat_aggregate IsSorted = None
stat_aggregate IsStrictSorted = None
stat_aggregate Max = Some aggregate.Max
stat_aggregate Min = Some aggregate.Min
stat_aggregate Sum = Some aggregate.Sum
stat_aggregate NullCount = Some aggregate.NullCount
stat_aggregate UncompressedSizeInBytes = Some aggregate.UncompressedSizeInBytes
stat_aggregate NaNCount = Some aggregate.NanCount

-- the statistic that the aggregate computes, if there is one
abbrev pub aggregate_stat : AggregateFnRef → Option Stat
aggregate_stat aggregate.Max = Some Max
aggregate_stat aggregate.Min = Some Min
aggregate_stat aggregate.Sum = Some Sum
aggregate_stat aggregate.NullCount = Some NullCount
aggregate_stat aggregate.NanCount = Some NaNCount
aggregate_stat aggregate.UncompressedSizeInBytes = Some UncompressedSizeInBytes
aggregate_stat aggregate.AllNull = None
aggregate_stat aggregate.AllNonNull = None
aggregate_stat aggregate.MinMax = None

-- ---- laws of the table

-- both are none, or both are one type, nullability aside
abbrev pub AreOneType : Option DType → Option DType → Type 0
AreOneType None None = ⊤
AreOneType (Some s) (Some t) = as_nullable s ≡ as_nullable t
AreOneType s t = ⊥

-- a type of columns: any but that of a pair of a least and a greatest value
abbrev pub IsColumnType : DType → Type 0
IsColumnType (dtype.MinMaxState e n) = ⊥
IsColumnType t = ⊤

-- the statistic's type, and the type of its aggregate's state
abbrev pub AgreesWithAggregate : Stat → DType → Type 0
AgreesWithAggregate s t = MatchOption (stat_aggregate s) ⊤ (λ a. AreOneType (stat_dtype s t) (state_dtype a t))

-- the statistic of its own number, and of its own aggregate, is the statistic
pub record IsTold (s : Stat) : Type 0 where
  pub number : stat_at (stat_number s) ≡ Some s
  pub aggregate : MatchOption (stat_aggregate s) ⊤ (λ a. aggregate_stat a ≡ Some s)

pub stats_are_told : (s : Stat) → IsTold s
stats_are_told IsConstant = record { number = refl; aggregate = tt }
stats_are_told IsSorted = record { number = refl; aggregate = tt }
stats_are_told IsStrictSorted = record { number = refl; aggregate = tt }
stats_are_told Max = record { number = refl; aggregate = refl }
stats_are_told Min = record { number = refl; aggregate = refl }
stats_are_told Sum = record { number = refl; aggregate = refl }
stats_are_told NullCount = record { number = refl; aggregate = refl }
stats_are_told UncompressedSizeInBytes = record { number = refl; aggregate = refl }
stats_are_told NaNCount = record { number = refl; aggregate = refl }

extreme_agrees : (t : DType) → IsColumnType t → AreOneType (extreme_dtype t) (state_dtype aggregate.Max t)
extreme_agrees dtype.Null c = tt
extreme_agrees (dtype.Bool n) c = refl
extreme_agrees (dtype.Primitive p n) c = refl
extreme_agrees (dtype.Utf8 n) c = refl
extreme_agrees (dtype.Binary n) c = refl
extreme_agrees (dtype.MinMaxState e n) c = absurd c

sum_ptype_agrees : (p : PType) → AreOneType (sum_dtype (dtype.Primitive p Nullable)) (state_dtype aggregate.Sum (dtype.Primitive p Nullable))
sum_ptype_agrees ptype.U8 = refl
sum_ptype_agrees ptype.U16 = refl
sum_ptype_agrees ptype.U32 = refl
sum_ptype_agrees ptype.U64 = refl
sum_ptype_agrees ptype.I8 = refl
sum_ptype_agrees ptype.I16 = refl
sum_ptype_agrees ptype.I32 = refl
sum_ptype_agrees ptype.I64 = refl

sum_agrees : (t : DType) → AreOneType (sum_dtype t) (state_dtype aggregate.Sum t)
sum_agrees dtype.Null = tt
sum_agrees (dtype.Bool n) = refl
sum_agrees (dtype.Primitive p n) = sum_ptype_agrees p
sum_agrees (dtype.Utf8 n) = tt
sum_agrees (dtype.Binary n) = tt
sum_agrees (dtype.MinMaxState e n) = tt

pub stats_agree : (s : Stat) (t : DType) → IsColumnType t → AgreesWithAggregate s t
stats_agree IsConstant t c = tt
stats_agree IsSorted t c = tt
stats_agree IsStrictSorted t c = tt
stats_agree Max t c = extreme_agrees t c
stats_agree Min t c = extreme_agrees t c
stats_agree Sum t c = sum_agrees t
stats_agree NullCount t c = refl
stats_agree UncompressedSizeInBytes t c = refl
stats_agree NaNCount t c = tt

abbrev first_of : Option Stat → Stat
first_of (Some s) = s
first_of None = IsConstant

pub same_from_stat_eq : (a b : Stat) → stat_eq a b ≡ true → a ≡ b
same_from_stat_eq a b e =
    let told : (s : Stat) → first_of (stat_at (stat_number s)) ≡ s = λ s. ap first_of ((stats_are_told s).number) in
    sym (told a) ∙ ap (λ n. first_of (stat_at n)) (eqb-true (stat_number a) (stat_number b) e) ∙ told b

pub stat_eq-itself : (a : Stat) → stat_eq a a ≡ true
stat_eq-itself a = eq-eqb (stat_number a) (stat_number a) refl
