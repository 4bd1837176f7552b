-- The worked rows of what the cells of leaf columns stand for.
use Rattle.std.proofs.Common.{◌≡◌, refl, ap, Some, None}
use Rattle.vortex_base.specs.declared.types.Nullability.TheVariants.{Nullable}
use Rattle.vortex_parquet.specs.declared.columns.Form.TheVariants as form
use Rattle.vortex_parquet.specs.declared.columns.Leaf.{Leaf}
use Rattle.vortex_parquet.specs.declared.meaning.LeafMeaning.{LeafMeaning}
use Rattle.vortex_parquet.specs.declared.meaning.LeafMeaning.TheVariants as meaning
use Rattle.vortex_parquet.specs.Columns.{converted, eight, fixed_form, form_of, four, leaf_of, nullability}
use Rattle.vortex_parquet.specs.Meanings.{decimal_type, decimals_or, meaning_of}
use Rattle.vortex_parquet.specs.MeaningWorked.{MeaningExamples}
use Rattle.vortex_parquet.proofs.DecimalTypes.{of_digits}

-- a leaf of decimals in bytes
decimals_leaf : LeafMeaning → Leaf
decimals_leaf m = record { place = 3; physical = 7; form = form.Decimal; meaning = m; nullability = Nullable }

none_past_38 : decimal_type 9 39 ≡ None
unfolding decimal_type
none_past_38 = refl

none_of_0 : decimal_type 0 2 ≡ None
unfolding decimal_type
none_of_0 = refl

whole_none_of_0 : decimal_type 0 0 ≡ None
unfolding decimal_type
whole_none_of_0 = refl

pub meanings : MeaningExamples
unfolding meaning_of converted form_of four eight fixed_form nullability leaf_of decimals_leaf
meanings = record {
  numbers = refl;
  long_numbers = refl;
  truths = refl;
  texts = refl;
  bytes = refl;
  signed = refl;
  unsigned = refl;
  others = refl;
  floats = refl;
  doubles = refl;
  bytes_untold = refl;
  dates = refl;
  long_dates = refl;
  dates_in_bytes = refl;
  times_of_milliseconds = refl;
  times_of_microseconds = refl;
  times_of_nanoseconds = refl;
  long_times_of_milliseconds = refl;
  short_times_of_microseconds = refl;
  short_times_of_nanoseconds = refl;
  short_times_of_seconds = refl;
  times_of_seconds = refl;
  times_of_no_unit = refl;
  short_times_of_no_unit = refl;
  instants_of_milliseconds = refl;
  instants_of_microseconds = refl;
  instants_of_nanoseconds = refl;
  clocks_of_milliseconds = refl;
  clocks_of_microseconds = refl;
  clocks_of_nanoseconds = refl;
  timestamps_untold = refl;
  timestamps_of_no_unit = refl;
  short_timestamps = refl;
  short_clocks = refl;
  decimals = λ d a b. ap (decimals_or meaning.Opaque) (of_digits 9 2 d a b);
  decimals_behind = λ d a b. ap (decimals_or meaning.Opaque) (of_digits 2 9 d a b);
  whole_decimals = λ d a b. ap (decimals_or meaning.Plain) (of_digits 5 0 d a b);
  least_decimals = λ d a b. ap (decimals_or meaning.Opaque) (of_digits 1 38 d a b);
  decimals_past_9_digits = refl;
  whole_decimals_past_9_digits = refl;
  decimals_past_38_behind = ap (decimals_or meaning.Opaque) none_past_38;
  decimals_of_no_digit = ap (decimals_or meaning.Opaque) none_of_0;
  whole_decimals_of_no_digit = ap (decimals_or meaning.Plain) whole_none_of_0;
  decimals_without_scale = refl;
  decimals_without_digits = refl;
  whole_decimals_without_digits = refl;
  decimals_without_either = refl;
  long_decimals = λ d a b. ap (decimals_or meaning.Opaque) (of_digits 18 4 d a b);
  long_decimals_past_18_digits = refl;
  long_whole_decimals_past_18_digits = refl;
  decimals_in_bytes = λ d a b. ap (decimals_or meaning.Opaque) (of_digits 18 4 d a b);
  decimals_in_fixed_bytes = λ d a b. ap (decimals_or meaning.Opaque) (of_digits 18 4 d a b);
  long_decimals_in_bytes = refl;
  date_leaf = refl;
  time_leaf = refl;
  instant_leaf = refl;
  clock_leaf = refl;
  opaque_leaf = refl;
  decimal_leaf = λ d a b. ap (λ o. Some (decimals_leaf (decimals_or meaning.Opaque o))) (of_digits 9 2 d a b);
}
