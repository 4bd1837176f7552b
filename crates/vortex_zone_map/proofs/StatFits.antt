-- What a set that fits a column's type answers to an aggregate may stand under the placeholder's type.
use Rattle.std.proofs.Common.{◌≡◌, ℕ, Bool, true, false, Option, Some, None, cond, refl, sym, ap, subst, ◌∙◌}
use Rattle.std.specs.Prelude.{IsTrue, Result, Ok, Err, ◌==◌, nat_lt}
use Rattle.vortex_base.specs.declared.aggregate.AggregateFnRef.{AggregateFnRef}
use Rattle.vortex_base.specs.declared.aggregate.AggregateFnRef.TheVariants as aggregate
use Rattle.vortex_base.specs.declared.dtype.DType.{DType}
use Rattle.vortex_base.specs.declared.dtype.DType.TheVariants as dtype
use Rattle.vortex_base.specs.declared.error.BaseError.{BaseError}
use Rattle.vortex_base.specs.declared.error.BaseError.TheVariants.{Mismatch}
use Rattle.vortex_base.specs.declared.types.Nullability.TheVariants.{Nullable, NonNullable}
use Rattle.vortex_base.specs.declared.types.PType.TheVariants as ptype
use Rattle.vortex_base.specs.declared.scalar_value.ScalarValue.{ScalarValue}
use Rattle.vortex_base.specs.declared.scalar_value.ScalarValue.TheVariants as value
use Rattle.vortex_base.specs.Data.Scalars.{Constant, constant_of, is_optional_value}
use Rattle.vortex_base.specs.Data.Types.{as_nullable, is_nullable}
use Rattle.vortex_base.specs.Data.States.{state_dtype}
use Rattle.vortex_expr.specs.Meanings.Typing.{placeholder_type, stat_type}
use Rattle.vortex_base.specs.Data.Values.{is_value}
use Rattle.vortex_expr.proofs.Meanings.MeaningFits.{is_value-as_nullable}
use Rattle.vortex_stats.specs.declared.error.StatsError.{StatsError}
use Rattle.vortex_stats.specs.declared.precision.Precision.{Precision}
use Rattle.vortex_stats.specs.declared.precision.Precision.TheVariants.{Exact, Inexact, Absent}
use Rattle.vortex_stats.specs.declared.stat.Stat.{Stat}
use Rattle.vortex_stats.specs.declared.stat.Stat.TheVariants.{Max, Min, Sum, NullCount, UncompressedSizeInBytes}
use Rattle.vortex_stats.specs.Sets.Claims.{count_value}
use Rattle.vortex_stats.specs.Sets.Entries.{entry_value, entries_fit, is_value_of, value_fits}
use Rattle.vortex_stats.specs.Precision.{present_value}
use Rattle.vortex_stats.specs.Stat.{AreOneType, extreme_dtype, stat_dtype, stats_agree, sum_dtype}
use Rattle.vortex_stats.proofs.Kit.{entry_value-fits}
use Rattle.vortex_rewrite.specs.Answers.{IfSupported, supported}
use Rattle.vortex_zone_map.specs.Zone.{Entries}
use Rattle.vortex_zone_map.specs.StatValues.{count_of, of_count, all_null_value, all_non_null_value, null_count_value, exact_value, stat_value}
use Rattle.vortex_rewrite.proofs.Logic.{ok, same_ok}
use Rattle.vortex_rewrite.proofs.NullErasure.{placeholder_null}

abbrev constant : Constant → Result Constant BaseError
constant c = Ok c

abbrev answer : Constant → Result Constant StatsError
answer c = Ok c

-- where the statistic's type and the aggregate's agree, a value of the one may stand under the other
alike_fits : (o q : Option DType) (u : DType) (v : ScalarValue) → AreOneType o q → placeholder_type q ≡ Ok u → is_value_of o v ≡ true → is_value v u ≡ true
alike_fits None None u v a e h = cc
alike_fits None (Some t) u v a e h = cc
alike_fits (Some s) None u v a e h = cc
alike_fits (Some s) (Some t) u v a e h = ap (is_value v) (sym (same_ok (as_nullable t) u e) ∙ sym a) ∙ is_value-as_nullable v s ∙ h

extreme_fits : (t u : DType) (v : ScalarValue) → stat_type aggregate.Max t ≡ Ok u → is_value_of (extreme_dtype t) v ≡ true → is_value v u ≡ true
extreme_fits dtype.Null u v e h = cc
extreme_fits (dtype.Bool n) u v e h = alike_fits (Some (dtype.Bool n)) (Some (dtype.Bool Nullable)) u v refl e h
extreme_fits (dtype.Primitive p n) u v e h = alike_fits (Some (dtype.Primitive p n)) (Some (dtype.Primitive p Nullable)) u v refl e h
extreme_fits (dtype.Utf8 n) u v e h = alike_fits (Some (dtype.Utf8 n)) (Some (dtype.Utf8 Nullable)) u v refl e h
extreme_fits (dtype.Binary n) u v e h = alike_fits (Some (dtype.Binary n)) (Some (dtype.Binary Nullable)) u v refl e h
extreme_fits (dtype.MinMaxState x n) u v e h = cc

sum_fits : (t u : DType) (v : ScalarValue) → stat_type aggregate.Sum t ≡ Ok u → is_value_of (sum_dtype t) v ≡ true → is_value v u ≡ true
sum_fits dtype.Null u v e h = cc
sum_fits (dtype.Bool n) u v e h = alike_fits (stat_dtype Sum (dtype.Bool n)) (state_dtype aggregate.Sum (dtype.Bool n)) u v (stats_agree Sum (dtype.Bool n) tt) e h
sum_fits (dtype.Primitive p n) u v e h = alike_fits (stat_dtype Sum (dtype.Primitive p n)) (state_dtype aggregate.Sum (dtype.Primitive p n)) u v (stats_agree Sum (dtype.Primitive p n) tt) e h
sum_fits (dtype.Utf8 n) u v e h = cc
sum_fits (dtype.Binary n) u v e h = cc
sum_fits (dtype.MinMaxState x n) u v e h = cc

-- of a precision whose value fits
module _ (s : Stat) (t u : DType) (null : is_nullable u ≡ true) (fits : (v : ScalarValue) → is_value_of (stat_dtype s t) v ≡ true → is_value v u ≡ true) where
  present_fits : (p : Precision ScalarValue) → value_fits s t p ≡ true → is_optional_value (present_value p) u ≡ true
  present_fits (Exact v) h = fits v h
  present_fits (Inexact v) h = fits v h
  present_fits Absent h = null

  exact_fits : (p : Precision ScalarValue) → value_fits s t p ≡ true → is_optional_value (exact_value p) u ≡ true
  exact_fits (Exact v) h = fits v h
  exact_fits (Inexact v) h = null
  exact_fits Absent h = null

-- a count, and a truth that is made of one
count_fits : (v : ScalarValue) → is_value v (dtype.Primitive ptype.U64 NonNullable) ≡ true → is_value v (dtype.Primitive ptype.U64 Nullable) ≡ true
count_fits v h = is_value-as_nullable v (dtype.Primitive ptype.U64 NonNullable) ∙ h

zero_fits : (c : Option ℕ) → is_optional_value (of_count c (λ n. cond (n == 0) (Some (count_value 0)) None)) (dtype.Primitive ptype.U64 Nullable) ≡ true
zero_fits None = refl
zero_fits (Some n) = elim (n == 0) as (λ b. is_optional_value (cond b (Some (count_value 0)) None) (dtype.Primitive ptype.U64 Nullable) ≡ true) [ true ↦ refl | false ↦ refl ]

null_count_fits : (t : DType) (p : Precision ScalarValue) → value_fits NullCount t p ≡ true → is_optional_value (null_count_value p) (dtype.Primitive ptype.U64 Nullable) ≡ true
null_count_fits t (Exact v) h = count_fits v h
null_count_fits t (Inexact v) h = zero_fits (count_of v)
null_count_fits t Absent h = refl

truth_fits : (c : Option ℕ) (f : ℕ → Bool) → is_optional_value (of_count c (λ n. Some (value.Bool (f n)))) (dtype.Bool Nullable) ≡ true
truth_fits None f = refl
truth_fits (Some n) f = refl

truth_if_fits : (c : Option ℕ) (f : ℕ → Bool) (b : Bool) → is_optional_value (of_count c (λ n. cond (f n) (Some (value.Bool b)) None)) (dtype.Bool Nullable) ≡ true
truth_if_fits None f b = refl
truth_if_fits (Some n) f b = elim (f n) as (λ a. is_optional_value (cond a (Some (value.Bool b)) None) (dtype.Bool Nullable) ≡ true) [ true ↦ refl | false ↦ refl ]

all_null_fits : (p : Precision ScalarValue) (n : ℕ) → is_optional_value (all_null_value p n) (dtype.Bool Nullable) ≡ true
all_null_fits (Exact v) n = truth_fits (count_of v) (λ c. c == n)
all_null_fits (Inexact v) n = truth_if_fits (count_of v) (λ c. nat_lt c n) false
all_null_fits Absent n = refl

all_non_null_fits : (p : Precision ScalarValue) → is_optional_value (all_non_null_value p) (dtype.Bool Nullable) ≡ true
all_non_null_fits (Exact v) = truth_fits (count_of v) (λ c. c == 0)
all_non_null_fits (Inexact v) = truth_if_fits (count_of v) (λ c. c == 0) true
all_non_null_fits Absent = refl

-- the type of a placeholder may be given by an equation
under : (v : Option ScalarValue) (s u : DType) → ok s ≡ Ok u → is_optional_value v s ≡ true → is_optional_value v u ≡ true
under v s u e h = ap (is_optional_value v) (sym (same_ok s u e)) ∙ h

pub stat_value-fits : (f : AggregateFnRef) (es : Entries) (n : ℕ) (t u : DType) → entries_fit es t ≡ true → stat_type f t ≡ Ok u → is_optional_value (stat_value f es n) u ≡ true
stat_value-fits aggregate.Max es n t u h e = present_fits Max t u (placeholder_null (state_dtype aggregate.Max t) u e) (λ v. extreme_fits t u v e) (entry_value Max es) (entry_value-fits Max t es h)
stat_value-fits aggregate.Min es n t u h e = present_fits Min t u (placeholder_null (state_dtype aggregate.Min t) u e) (λ v. extreme_fits t u v e) (entry_value Min es) (entry_value-fits Min t es h)
stat_value-fits aggregate.Sum es n t u h e = exact_fits Sum t u (placeholder_null (state_dtype aggregate.Sum t) u e) (λ v. sum_fits t u v e) (entry_value Sum es) (entry_value-fits Sum t es h)
stat_value-fits aggregate.NullCount es n t u h e = under (null_count_value (entry_value NullCount es)) (dtype.Primitive ptype.U64 Nullable) u e (null_count_fits t (entry_value NullCount es) (entry_value-fits NullCount t es h))
stat_value-fits aggregate.UncompressedSizeInBytes es n t u h e =
    under (exact_value (entry_value UncompressedSizeInBytes es)) (dtype.Primitive ptype.U64 Nullable) u e
    (exact_fits UncompressedSizeInBytes t (dtype.Primitive ptype.U64 Nullable) refl count_fits (entry_value UncompressedSizeInBytes es) (entry_value-fits UncompressedSizeInBytes t es h))
stat_value-fits aggregate.AllNull es n t u h e = under (all_null_value (entry_value NullCount es) n) (dtype.Bool Nullable) u e (all_null_fits (entry_value NullCount es) n)
stat_value-fits aggregate.AllNonNull es n t u h e = under (all_non_null_value (entry_value NullCount es)) (dtype.Bool Nullable) u e (all_non_null_fits (entry_value NullCount es))
stat_value-fits aggregate.MinMax es n t u h e = placeholder_null (state_dtype aggregate.MinMax t) u e
stat_value-fits aggregate.NanCount es n t u h e = placeholder_null (state_dtype aggregate.NanCount t) u e

typed_as : (r : Result DType BaseError) (u : DType) → supported r ≡ Ok u → r ≡ Ok u
typed_as (Ok t) u e = cc
typed_as (Err f) u e = cc

if_fits : (b : Bool) (c : Constant) → b ≡ true → cond b (constant c) (Err Mismatch) ≡ Ok c
if_fits true c h = refl
if_fits false c h = cc

-- the value makes a constant of the type
pub made-constant_of : (f : AggregateFnRef) (es : Entries) (n : ℕ) (t u : DType) → IsTrue (entries_fit es t) → supported (stat_type f t) ≡ Ok u → constant_of u (stat_value f es n) ≡ Ok (record { dtype = u; value = stat_value f es n })
made-constant_of f es n t u h e =
    if_fits (is_optional_value (stat_value f es n) u) (record { dtype = u; value = stat_value f es n }) (stat_value-fits f es n t u h (typed_as (stat_type f t) u e))

-- so the constant that is made of the answers is the one that is wanted
pub constant-supported : (f : AggregateFnRef) (es : Entries) (n : ℕ) (t u : DType) (v : Option ScalarValue) (c : Constant) → IsTrue (entries_fit es t) → supported (stat_type f t) ≡ Ok u → v ≡ stat_value f es n → constant_of u v ≡ Ok c
    → IfSupported (stat_type f t) (λ t. record { dtype = t; value = stat_value f es n }) (answer c)
constant-supported f es n t u v c h e k m =
    let w = ap (constant_of u) k in
    let made = made-constant_of f es n t u h e in
    let same : c ≡ record { dtype = u; value = stat_value f es n } = cc in
    subst (λ r. IfSupported r (λ t. record { dtype = t; value = stat_value f es n }) (answer c)) (sym (typed_as (stat_type f t) u e)) same
