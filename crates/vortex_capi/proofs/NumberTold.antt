-- What numbers tell: themselves for some aggregates, and truths about them for the others.
use Rattle.std.proofs.Common.{◌≡◌, ℕ, Bool, true, false, Option, Some, None, nat_lt, refl}
use Rattle.std.specs.Prelude.{◌==◌, if◌then◌else◌}
use Rattle.vortex_base.specs.declared.aggregate.AggregateFnRef.{AggregateFnRef}
use Rattle.vortex_base.specs.declared.aggregate.AggregateFnRef.TheVariants as aggregate
use Rattle.vortex_base.specs.declared.pvalue.PValue.{PValue}
use Rattle.vortex_base.specs.declared.scalar_value.ScalarValue.{ScalarValue}
use Rattle.vortex_base.specs.declared.scalar_value.ScalarValue.TheVariants as value
use Rattle.vortex_stats.specs.Sets.Claims.{count_value}
use Rattle.vortex_stats.specs.declared.precision.Precision.{Precision}
use Rattle.vortex_capi.specs.MapCells.{tells_value}
use Rattle.vortex_zone_map.specs.StatValues.{count_of, of_count, told_value}
use Rattle.vortex_zone_map.specs.Told.{known_as}

-- where a number itself is told, how many rows there are doesn't matter
pub rows_aside : (f : AggregateFnRef) (p : Precision ScalarValue) (m n : ℕ) → tells_value f ≡ true → told_value f p m ≡ told_value f p n
rows_aside aggregate.Max p m n h = refl
rows_aside aggregate.Min p m n h = refl
rows_aside aggregate.Sum p m n h = refl
rows_aside aggregate.NullCount p m n h = refl
rows_aside aggregate.UncompressedSizeInBytes p m n h = refl
rows_aside aggregate.AllNull p m n h = absurd cc
rows_aside aggregate.AllNonNull p m n h = absurd cc
rows_aside aggregate.MinMax p m n h = absurd cc
rows_aside aggregate.NanCount p m n h = absurd cc

-- of a count is told what of some count may be told
of_some : (o : Option ℕ) (g : ℕ → Option ScalarValue) (v : ScalarValue) → ((c : ℕ) → Some v ≡ g c → ⊥) → Some v ≡ of_count o g → ⊥
of_some None g v never h = cc
of_some (Some c) g v never h = never c h

if_some : (b : Bool) (v w : ScalarValue) → (Some v ≡ Some w → ⊥) → Some v ≡ (if b then Some w else None) → ⊥
if_some true v w never h = never h
if_some false v w never h = cc

truth_is_no_number : (x : Bool) (k : PValue) → Some (value.Bool x) ≡ Some (value.Primitive k) → ⊥
truth_is_no_number x k h = cc

number_is_no_truth : (k : PValue) (x : Bool) → Some (value.Primitive k) ≡ Some (value.Bool x) → ⊥
number_is_no_truth k x h = cc

-- so no truth is told there
pub tells_no_truth : (f : AggregateFnRef) (b : Bool) (k : PValue) (n : ℕ) (x : Bool) → tells_value f ≡ true → Some (value.Bool x) ≡ told_value f (known_as b (value.Primitive k)) n → ⊥
tells_no_truth aggregate.Max true k n x t h = truth_is_no_number x k h
tells_no_truth aggregate.Max false k n x t h = truth_is_no_number x k h
tells_no_truth aggregate.Min true k n x t h = truth_is_no_number x k h
tells_no_truth aggregate.Min false k n x t h = truth_is_no_number x k h
tells_no_truth aggregate.Sum true k n x t h = truth_is_no_number x k h
tells_no_truth aggregate.Sum false k n x t h = cc
tells_no_truth aggregate.NullCount true k n x t h = truth_is_no_number x k h
tells_no_truth aggregate.NullCount false k n x t h =
    of_some (count_of (value.Primitive k)) (λ c. if c == 0 then Some (count_value 0) else None) (value.Bool x) (λ c e. if_some (c == 0) (value.Bool x) (count_value 0) (λ g. cc) e) h
tells_no_truth aggregate.UncompressedSizeInBytes true k n x t h = truth_is_no_number x k h
tells_no_truth aggregate.UncompressedSizeInBytes false k n x t h = cc
tells_no_truth aggregate.AllNull b k n x t h = cc
tells_no_truth aggregate.AllNonNull b k n x t h = cc
tells_no_truth aggregate.MinMax b k n x t h = cc
tells_no_truth aggregate.NanCount b k n x t h = cc

-- and for the others no number is
pub tells_no_number : (f : AggregateFnRef) (b : Bool) (k : PValue) (n : ℕ) → tells_value f ≡ false → Some (value.Primitive k) ≡ told_value f (known_as b (value.Primitive k)) n → ⊥
tells_no_number aggregate.Max b k n t h = cc
tells_no_number aggregate.Min b k n t h = cc
tells_no_number aggregate.Sum b k n t h = cc
tells_no_number aggregate.NullCount b k n t h = cc
tells_no_number aggregate.UncompressedSizeInBytes b k n t h = cc
tells_no_number aggregate.AllNull true k n t h = of_some (count_of (value.Primitive k)) (λ c. Some (value.Bool (c == n))) (value.Primitive k) (λ c e. number_is_no_truth k (c == n) e) h
tells_no_number aggregate.AllNull false k n t h =
    of_some (count_of (value.Primitive k)) (λ c. if nat_lt c n then Some (value.Bool false) else None) (value.Primitive k) (λ c e. if_some (nat_lt c n) (value.Primitive k) (value.Bool false) (number_is_no_truth k false) e) h
tells_no_number aggregate.AllNonNull true k n t h = of_some (count_of (value.Primitive k)) (λ c. Some (value.Bool (c == 0))) (value.Primitive k) (λ c e. number_is_no_truth k (c == 0) e) h
tells_no_number aggregate.AllNonNull false k n t h =
    of_some (count_of (value.Primitive k)) (λ c. if c == 0 then Some (value.Bool true) else None) (value.Primitive k) (λ c e. if_some (c == 0) (value.Primitive k) (value.Bool true) (number_is_no_truth k true) e) h
tells_no_number aggregate.MinMax b k n t h = cc
tells_no_number aggregate.NanCount b k n t h = cc
