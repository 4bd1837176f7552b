-- Worked rows: `stat` lines in plain form, and the places of columns, computed.
use Rattle.std.proofs.Common.{◌≡◌, negsuc, pos, true, false, [], ◌∷◌, None, Some, codes, refl, arith}
use Rattle.vortex_base.specs.Data.Scopes.{Named}
use Rattle.vortex_base.specs.declared.dtype.DType.TheVariants as dtype
use Rattle.vortex_base.specs.declared.pvalue.PValue.TheVariants as number
use Rattle.vortex_base.specs.declared.scalar_value.ScalarValue.TheVariants as value
use Rattle.vortex_base.specs.declared.types.Nullability.TheVariants.{NonNullable, Nullable}
use Rattle.vortex_base.specs.declared.types.PType.TheVariants as ptype
use Rattle.vortex_stats.specs.declared.precision.Precision.TheVariants.{Exact, Inexact}
use Rattle.vortex_stats.specs.declared.stat.Stat.TheVariants as stat
use Rattle.vortex_syntax.specs.Plain.{truth_name}
use Rattle.vortex_syntax.specs.PlainStatistics.{BeginsClaim, BeginsPlainValue, BeginsSpaced, BeginsSpacedStat, BeginsSpacedValue, BeginsStat, BeginsWords, precise, precision_name, told_by}
use Rattle.vortex_syntax.specs.Words.{words}
use Rattle.std.proofs.Common.{List}

-- a column of numbers and one of truths
abbrev two : List Named
two = (codes "a", dtype.Primitive ptype.I8 Nullable) ∷ (codes "ab", dtype.Bool NonNullable) ∷ []

word_behind_a_space : BeginsSpaced (codes " min exact") (codes "min") (codes " exact")
word_behind_a_space = (codes "min exact", refl, record { split = refl; some = omega arith; is_plain = refl })

-- the rest of a word may follow
front_of_a_word : BeginsSpaced (codes " exactly") (codes "exact") (codes "ly")
front_of_a_word = (codes "exactly", refl, record { split = refl; some = omega arith; is_plain = refl })

no_words : BeginsWords (codes "x\n") [] (codes "x\n")
no_words = refl

two_words : BeginsWords (codes " a min x") (codes "a" ∷ codes "min" ∷ []) (codes " x")
two_words = (
  codes " min x",
  (codes "a min x", refl, record { split = refl; some = omega arith; is_plain = refl }),
  (codes " x", (codes "min x", refl, record { split = refl; some = omega arith; is_plain = refl }), refl),
)

exact_name : precision_name true ≡ codes "exact"
exact_name = refl

inexact_name : precision_name false ≡ codes "inexact"
inexact_name = refl

true_name : truth_name true ≡ codes "true"
true_name = refl

false_name : truth_name false ≡ codes "false"
false_name = refl

exact_value : precise true (value.Bool false) ≡ Exact (value.Bool false)
exact_value = refl

inexact_value : precise false (value.Bool false) ≡ Inexact (value.Bool false)
inexact_value = refl

number_below_zero : BeginsSpacedValue (dtype.Primitive ptype.I8 Nullable) (codes " -5\npart") (value.Primitive (number.I8 (negsuc 4))) (codes "\npart")
number_below_zero = (codes "-5\npart", refl, (codes "-5", record { split = refl; some = omega arith; is_plain = refl }, refl))

truth : BeginsPlainValue (dtype.Bool NonNullable) (codes "true\n") (value.Bool true) (codes "\n")
truth = (codes "true", record { split = refl; some = omega arith; is_plain = refl }, refl)

name_of_a_statistic : BeginsSpacedStat (codes " is_sorted exact") stat.IsSorted (codes " exact")
name_of_a_statistic = (codes "is_sorted", (codes "is_sorted exact", refl, record { split = refl; some = omega arith; is_plain = refl }), refl)

second_column : BeginsClaim two (codes " ab min exact") (1, stat.Min, dtype.Bool NonNullable) (codes " exact")
second_column = (
  codes "ab",
  codes "min",
  (
    codes " min exact",
    (codes "ab min exact", refl, record { split = refl; some = omega arith; is_plain = refl }),
    (codes " exact", (codes "min exact", refl, record { split = refl; some = omega arith; is_plain = refl }), refl),
  ),
  λ later. refl,
)

maximum : told_by two (words (codes "a max exact -5")) ≡ Some (0, stat.Max, Exact (value.Primitive (number.I8 (negsuc 4))))
maximum = refl

inexact_minimum : told_by two (words (codes " ab  min inexact false ")) ≡ Some (1, stat.Min, Inexact (value.Bool false))
inexact_minimum = refl

null_count : told_by two (words (codes "ab null_count exact 300")) ≡ Some (1, stat.NullCount, Exact (value.Primitive (number.U64 300)))
null_count = refl

no_column : told_by two (words (codes "b max exact 5")) ≡ None
no_column = refl

no_statistic : told_by two (words (codes "a least exact 5")) ≡ None
no_statistic = refl

no_precision : told_by two (words (codes "a max about 5")) ≡ None
no_precision = refl

no_value : told_by two (words (codes "a max exact 128")) ≡ None
no_value = refl

null_is_none : told_by two (words (codes "a max exact null")) ≡ None
null_is_none = refl

word_missing : told_by two (words (codes "a max exact")) ≡ None
word_missing = refl

word_too_many : told_by two (words (codes "a max exact 5 5")) ≡ None
word_too_many = refl

quoted_number : told_by two (words (codes "a max exact \"5\"")) ≡ None
quoted_number = refl

line_in_plain_form : BeginsStat two (codes " a max inexact 7\nrow 1") (0, stat.Max, Inexact (value.Primitive (number.I8 (pos 7)))) (codes "row 1")
line_in_plain_form = (
  codes "a" ∷ codes "max" ∷ codes "inexact" ∷ codes "7" ∷ [],
  (
    codes " max inexact 7\nrow 1",
    (codes "a max inexact 7\nrow 1", refl, record { split = refl; some = omega arith; is_plain = refl }),
    (
      codes " inexact 7\nrow 1",
      (codes "max inexact 7\nrow 1", refl, record { split = refl; some = omega arith; is_plain = refl }),
      (
        codes " 7\nrow 1",
        (codes "inexact 7\nrow 1", refl, record { split = refl; some = omega arith; is_plain = refl }),
        (codes "\nrow 1", (codes "7\nrow 1", refl, record { split = refl; some = omega arith; is_plain = refl }), refl),
      ),
    ),
  ),
  refl,
)
