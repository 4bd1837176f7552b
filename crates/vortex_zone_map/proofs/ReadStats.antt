-- What a set answers is what the one statistic does that is read.
use Rattle.std.proofs.Common.{◌≡◌, ℕ, Some, None, refl, sym}
use Rattle.vortex_base.specs.declared.aggregate.AggregateFnRef.{AggregateFnRef}
use Rattle.vortex_base.specs.declared.aggregate.AggregateFnRef.TheVariants as aggregate
use Rattle.vortex_stats.specs.declared.precision.Precision.TheVariants.{Absent}
use Rattle.vortex_stats.specs.declared.stat.Stat.{Stat}
use Rattle.vortex_stats.specs.declared.stat.Stat.TheVariants.{Max, Min, Sum, NullCount, UncompressedSizeInBytes}
use Rattle.vortex_stats.specs.Sets.Entries.{entry_value}
use Rattle.vortex_zone_map.specs.StatValues.{read_stat, stat_value, told_value}
use Rattle.vortex_zone_map.specs.Zone.{Entries}

module _ (es : Entries) (n : ℕ) where
  pub stat_value-reads : (f : AggregateFnRef) (s : Stat) → read_stat f ≡ Some s → stat_value f es n ≡ told_value f (entry_value s es) n
  stat_value-reads aggregate.Max s h = let same : Max ≡ s = cc in rw (sym same) refl
  stat_value-reads aggregate.Min s h = let same : Min ≡ s = cc in rw (sym same) refl
  stat_value-reads aggregate.Sum s h = let same : Sum ≡ s = cc in rw (sym same) refl
  stat_value-reads aggregate.NullCount s h = let same : NullCount ≡ s = cc in rw (sym same) refl
  stat_value-reads aggregate.UncompressedSizeInBytes s h = let same : UncompressedSizeInBytes ≡ s = cc in rw (sym same) refl
  stat_value-reads aggregate.AllNull s h = let same : NullCount ≡ s = cc in rw (sym same) refl
  stat_value-reads aggregate.AllNonNull s h = let same : NullCount ≡ s = cc in rw (sym same) refl
  stat_value-reads aggregate.MinMax s h = absurd cc
  stat_value-reads aggregate.NanCount s h = absurd cc

  pub stat_value-reads_none : (f : AggregateFnRef) → read_stat f ≡ None → stat_value f es n ≡ None
  stat_value-reads_none aggregate.Max h = absurd cc
  stat_value-reads_none aggregate.Min h = absurd cc
  stat_value-reads_none aggregate.Sum h = absurd cc
  stat_value-reads_none aggregate.NullCount h = absurd cc
  stat_value-reads_none aggregate.UncompressedSizeInBytes h = absurd cc
  stat_value-reads_none aggregate.AllNull h = absurd cc
  stat_value-reads_none aggregate.AllNonNull h = absurd cc
  stat_value-reads_none aggregate.MinMax h = refl
  stat_value-reads_none aggregate.NanCount h = refl

-- a value that is absent tells nothing
pub told_value-absent : (f : AggregateFnRef) (n : ℕ) → told_value f Absent n ≡ None
told_value-absent aggregate.Max n = refl
told_value-absent aggregate.Min n = refl
told_value-absent aggregate.Sum n = refl
told_value-absent aggregate.NullCount n = refl
told_value-absent aggregate.UncompressedSizeInBytes n = refl
told_value-absent aggregate.AllNull n = refl
told_value-absent aggregate.AllNonNull n = refl
told_value-absent aggregate.MinMax n = refl
told_value-absent aggregate.NanCount n = refl
