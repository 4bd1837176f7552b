-- What a truth or a number that is kept tells, and that null tells nothing.
use Rattle.std.proofs.Common.{◌≡◌, ℕ, Bool, true, false, [], Option, Some, None, refl, sym, ap, ◌∙◌}
use Rattle.vortex_base.specs.declared.aggregate.AggregateFnRef.{AggregateFnRef}
use Rattle.vortex_base.specs.declared.aggregate.AggregateFnRef.TheVariants as aggregate
use Rattle.vortex_base.specs.declared.scalar_value.ScalarValue.{ScalarValue}
use Rattle.vortex_base.specs.declared.scalar_value.ScalarValue.TheVariants as value
use Rattle.vortex_stats.specs.declared.precision.Precision.{Precision}
use Rattle.vortex_zone_map.proofs.ReadStats.{told_value-absent}
use Rattle.vortex_zone_map.specs.Kept.{exact, inexact}
use Rattle.vortex_zone_map.specs.StatValues.{count_of, told_value}
use Rattle.vortex_zone_map.specs.Told.{IsToldOf, known_as, told_cell}
use Rattle.vortex_zone_map.specs.declared.told.Told.{Told}
use Rattle.vortex_zone_map.specs.declared.told.Told.TheVariants as told

-- a value that may be there, as it is kept
abbrev pub kept_as : (is_exact : Bool) → Option ScalarValue → Precision ScalarValue
kept_as true o = exact o
kept_as false o = inexact o

absent : (b : Bool) (f : AggregateFnRef) (n : ℕ) → told_value f (kept_as b None) n ≡ None
absent true f n = told_value-absent f n
absent false f n = told_value-absent f n

there : (b : Bool) (v : ScalarValue) → known_as b v ≡ kept_as b (Some v)
there true v = refl
there false v = refl

-- of a text no truth is told
no_truth : (f : AggregateFnRef) (b : Bool) (n : ℕ) (x : Bool) → Some (value.Bool x) ≡ told_value f (known_as b (value.Utf8 [])) n → ⊥
no_truth aggregate.Max true n x h = cc
no_truth aggregate.Max false n x h = cc
no_truth aggregate.Min true n x h = cc
no_truth aggregate.Min false n x h = cc
no_truth aggregate.Sum true n x h = cc
no_truth aggregate.Sum false n x h = cc
no_truth aggregate.NullCount true n x h = cc
no_truth aggregate.NullCount false n x h = cc
no_truth aggregate.UncompressedSizeInBytes true n x h = cc
no_truth aggregate.UncompressedSizeInBytes false n x h = cc
no_truth aggregate.AllNull true n x h = cc
no_truth aggregate.AllNull false n x h = cc
no_truth aggregate.AllNonNull true n x h = cc
no_truth aggregate.AllNonNull false n x h = cc
no_truth aggregate.MinMax true n x h = cc
no_truth aggregate.MinMax false n x h = cc
no_truth aggregate.NanCount true n x h = cc
no_truth aggregate.NanCount false n x h = cc

module _ (f : AggregateFnRef) (b : Bool) (c : Option ℕ) (n : ℕ) (t : Told) (is : IsToldOf f b c n t) where
  -- where the value is told, its cell is
  pub value_told : (o : Option ScalarValue) → ((v : ScalarValue) → o ≡ Some v → c ≡ count_of v) → t ≡ told.Value → o ≡ told_value f (kept_as b o) n
  value_told None counted e = sym (absent b f n)
  value_told (Some v) counted e = ap (told_cell v) (sym e) ∙ is v (counted v refl) ∙ ap (λ p. told_value f p n) (there b v)

  -- where a truth is told, it is
  pub truth_told : (o : Option ScalarValue) (x : Bool) → ((v : ScalarValue) → o ≡ Some v → c ≡ count_of v) → (o ≡ None → c ≡ None) → t ≡ told.Truth x → Some (value.Bool x) ≡ told_value f (kept_as b o) n
  truth_told None x counted none e = absurd (no_truth f b n x (ap (told_cell (value.Utf8 [])) (sym e) ∙ is (value.Utf8 []) (none refl)))
  truth_told (Some v) x counted none e = ap (told_cell v) (sym e) ∙ is v (counted v refl) ∙ ap (λ p. told_value f p n) (there b v)
