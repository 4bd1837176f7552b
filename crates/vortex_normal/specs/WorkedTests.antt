-- Worked tests of truths, and worked strict predicates.
use Rattle.std.specs.Prelude.{◌≡◌, Bool, false, true, Some, None, codes}
use Rattle.vortex_base.specs.declared.aggregate.AggregateFnRef.TheVariants as aggregate
use Rattle.vortex_base.specs.declared.dtype.DType.TheVariants as dtype
use Rattle.vortex_base.specs.declared.types.PType.TheVariants.{U8}
use Rattle.vortex_base.specs.declared.types.Nullability.TheVariants.{Nullable, NonNullable}
use Rattle.vortex_expr.specs.declared.scalar_fn.BetweenOptions.{BetweenOptions}
use Rattle.vortex_expr.specs.declared.scalar_fn.Operator.TheVariants.{Eq, NotEq, Gt, Gte, Lt, Lte, And, Or}
use Rattle.vortex_expr.specs.declared.scalar_fn.StrictComparison.TheVariants.{Strict, NonStrict}
use Rattle.vortex_expr.specs.Trees.Tree.{Tree, Place, column, literal, binary, between, is_null, is_not_null, not, stat}
use Rattle.vortex_rewrite.specs.Rewriting.Falsifiers.{bool_literal}
use Rattle.vortex_normal.specs.Strict.{strict, strict_test}
use Rattle.vortex_normal.specs.Tested.{passes, tested, truth_wanted}
use Rattle.vortex_normal.specs.Worked.{a, all, any, b, byte_literal, c, closed, compare, like_of, range, t, text, truth_literal}

-- that a predicate is true, that it is false, that it isn't true, that it isn't false
abbrev pub when_true : Tree Place → Tree Place
when_true e = tested 3 true false e

abbrev pub when_false : Tree Place → Tree Place
when_false e = tested 3 false false e

abbrev pub unless_true : Tree Place → Tree Place
unless_true e = tested 3 false true e

abbrev pub unless_false : Tree Place → Tree Place
unless_false e = tested 3 true true e

abbrev pub null_truth : Tree Place
null_truth = literal (record { dtype = dtype.Bool Nullable; value = None })

-- open at its lower end
abbrev pub half_open : BetweenOptions
half_open = record { lower_strict = Strict; upper_strict = NonStrict }

abbrev pub above_five : Tree Place
above_five = compare Gt a 5

abbrev pub below_one : Tree Place
below_one = compare Lt b 1

-- of a number and a column: one of them is null, or so
abbrev pub or_operand_null : (l r e : Tree Place) → Tree Place
or_operand_null l r e = any (any (is_null l) (is_null r)) e

abbrev pub above_five_or_null : Tree Place
above_five_or_null = or_operand_null a (byte_literal 5) above_five

abbrev pub not_above_five_or_null : Tree Place
not_above_five_or_null = or_operand_null a (byte_literal 5) (not above_five)

abbrev pub pattern : Tree Place
pattern = text (dtype.Utf8 NonNullable) (codes "ab_")

pub record TestExamples : Type 0 where
  pub true_is_true : passes true false (Some true) ≡ true
  pub false_is_not_true : passes true false (Some false) ≡ false
  pub null_is_not_true : passes true false None ≡ false
  pub null_counts : passes true true None ≡ true
  pub false_is_false : passes false false (Some false) ≡ true
  pub true_is_not_false : passes false true (Some true) ≡ false
  pub null_is_not_false : passes false false None ≡ false
  pub column_true : when_true c ≡ c
  pub column_false : when_false c ≡ not c
  pub column_not_true : unless_true c ≡ any (is_null c) (not c)
  pub column_not_false : unless_false c ≡ any (is_null c) c
  pub literal_true : when_true (truth_literal true) ≡ truth_literal true
  pub literal_not_true : unless_true (truth_literal true) ≡ any (is_null (truth_literal true)) (not (truth_literal true))
  pub statistic_false : when_false (stat aggregate.AllNull a) ≡ not (stat aggregate.AllNull a)
  pub statistic_not_false : unless_false (stat aggregate.AllNull a) ≡ any (is_null (stat aggregate.AllNull a)) (stat aggregate.AllNull a)
  pub comparison_true : when_true above_five ≡ above_five
  pub comparison_false : when_false above_five ≡ not above_five
  pub comparison_not_true : unless_true above_five ≡ not_above_five_or_null
  pub comparison_not_false : unless_false above_five ≡ above_five_or_null
  pub columns_not_true : unless_true (binary Lt a b) ≡ or_operand_null a b (not (binary Lt a b))
  pub and_true : when_true (all above_five below_one) ≡ all above_five below_one
  pub and_false : when_false (all above_five below_one) ≡ any (not above_five) (not below_one)
  pub and_not_true : unless_true (all above_five c) ≡ any not_above_five_or_null (any (is_null c) (not c))
  pub and_not_false : unless_false (all above_five c) ≡ all above_five_or_null (any (is_null c) c)
  pub or_true : when_true (any above_five below_one) ≡ any above_five below_one
  pub or_false : when_false (any above_five below_one) ≡ all (not above_five) (not below_one)
  pub or_not_true : unless_true (any above_five c) ≡ all not_above_five_or_null (any (is_null c) (not c))
  pub or_not_false : unless_false (any above_five c) ≡ any above_five_or_null (any (is_null c) c)
  pub not_true : when_true (not above_five) ≡ not above_five
  pub not_false : when_false (not (all above_five below_one)) ≡ all above_five below_one
  pub not_not_true : unless_true (not above_five) ≡ above_five_or_null
  pub range_true : when_true (range 4 6) ≡ range 4 6
  pub range_false : when_false (range 4 6) ≡ not (range 4 6)
  pub range_not_true : unless_true (between half_open a (byte_literal 4) b) ≡ any (or_operand_null (byte_literal 4) a (not (binary Lt (byte_literal 4) a))) (or_operand_null a b (not (binary Lte a b)))
  pub range_not_false : unless_false (between half_open a (byte_literal 4) b) ≡ all (or_operand_null (byte_literal 4) a (binary Lt (byte_literal 4) a)) (or_operand_null a b (binary Lte a b))
  pub like_true : when_true (like_of true (codes "ab_")) ≡ like_of true (codes "ab_")
  pub like_not_true : unless_true (like_of true (codes "ab_")) ≡ or_operand_null t pattern (not (like_of true (codes "ab_")))
  pub is_true : when_true (binary Eq above_five (truth_literal true)) ≡ above_five
  pub is_false : when_true (binary Eq above_five (truth_literal false)) ≡ not above_five
  pub is_other : when_true (binary NotEq above_five (truth_literal false)) ≡ above_five
  pub is_true_false : when_false (binary Eq above_five (truth_literal true)) ≡ not above_five
  pub is_false_not_true : unless_true (binary Eq above_five (truth_literal false)) ≡ above_five_or_null
  pub truth_first : when_true (binary Gt (truth_literal true) above_five) ≡ not above_five
  pub truth_first_below : when_true (binary Lt (truth_literal false) above_five) ≡ above_five
  pub either_truth : when_true (binary Gte above_five (truth_literal false)) ≡ binary Gte above_five (truth_literal false)
  pub beside_null : when_true (binary Eq above_five null_truth) ≡ binary Eq above_five null_truth
  pub column_is_true : when_true (binary Eq c (truth_literal true)) ≡ binary Eq c (truth_literal true)
  pub two_predicates : when_true (binary Eq above_five below_one) ≡ binary Eq above_five below_one
  pub chain_is_true : when_true (binary Eq (all above_five c) (truth_literal false)) ≡ any (not above_five) (not c)
  pub column_null : when_true (is_null c) ≡ is_null c
  pub column_null_false : unless_true (is_null c) ≡ is_not_null c
  pub column_valued : unless_false (is_not_null c) ≡ is_not_null c
  pub column_valued_false : when_false (is_not_null c) ≡ is_null c
  pub predicate_null : when_true (is_null above_five) ≡ all not_above_five_or_null above_five_or_null
  pub predicate_null_false : unless_true (is_null above_five) ≡ any (not above_five) above_five
  pub predicate_valued : unless_false (is_not_null above_five) ≡ any (not above_five) above_five
  pub predicate_valued_false : when_false (is_not_null above_five) ≡ all not_above_five_or_null above_five_or_null
  pub number_null : when_true (is_null (byte_literal 5)) ≡ is_null (byte_literal 5)
  pub no_level : tested 0 true false (is_null above_five) ≡ is_null above_five
  pub one_level : tested 1 true false (is_null (is_null above_five)) ≡ all (is_not_null above_five) (is_null above_five)
  pub wanted_equal : (x : Bool) → truth_wanted Eq x ≡ Some x
  pub wanted_other : (truth_wanted NotEq true ≡ Some false) × (truth_wanted NotEq false ≡ Some true)
  pub wanted_above : (truth_wanted Gt true ≡ None) × (truth_wanted Gt false ≡ Some true)
  pub wanted_from : (truth_wanted Gte true ≡ Some true) × (truth_wanted Gte false ≡ None)
  pub wanted_below : (truth_wanted Lt true ≡ Some false) × (truth_wanted Lt false ≡ None)
  pub wanted_up_to : (truth_wanted Lte true ≡ None) × (truth_wanted Lte false ≡ Some false)
  pub wanted_by_connective : (x : Bool) → (truth_wanted And x ≡ None) × (truth_wanted Or x ≡ None)

-- a column of another type at the place of a
abbrev pub other_a : Tree Place
other_a = column (record { index = 0; dtype = dtype.Primitive U8 NonNullable })

pub record StrictExamples : Type 0 where
  pub one : strict above_five ≡ all above_five (is_not_null a)
  pub number_first : strict (binary Lt (byte_literal 5) a) ≡ all (binary Lt (byte_literal 5) a) (is_not_null a)
  pub ranged : strict (range 4 6) ≡ all (range 4 6) (is_not_null a)
  pub matched : strict (like_of true (codes "ab_")) ≡ all (like_of true (codes "ab_")) (is_not_null t)
  pub either_value : strict (any (compare Eq a 1) (compare Eq a 2)) ≡ all (any (compare Eq a 1) (compare Eq a 2)) (is_not_null a)
  pub both_values : strict (all (compare Gt a 1) (compare NotEq a 2)) ≡ all (all (compare Gt a 1) (compare NotEq a 2)) (is_not_null a)
  pub two_columns : strict (all above_five below_one) ≡ all (all above_five (is_not_null a)) (all below_one (is_not_null b))
  pub either_column : strict (any above_five below_one) ≡ any (all above_five (is_not_null a)) (all below_one (is_not_null b))
  pub below_another : strict (all (any (compare Eq a 1) (compare Eq a 2)) below_one) ≡ all (all (any (compare Eq a 1) (compare Eq a 2)) (is_not_null a)) (all below_one (is_not_null b))
  pub beside_null : strict (any (is_null a) above_five) ≡ any (is_null a) (all above_five (is_not_null a))
  pub of_columns : strict (binary Lt a b) ≡ all (all (binary Lt a b) (is_not_null a)) (is_not_null b)
  pub of_column_ends : strict (between closed a b (byte_literal 6)) ≡ between closed a b (byte_literal 6)
  pub of_upper_column : strict (between closed a (byte_literal 4) b) ≡ between closed a (byte_literal 4) b
  pub null_alone : strict (is_null a) ≡ is_null a
  pub valued_alone : strict (is_not_null a) ≡ is_not_null a
  pub truth_alone : strict (bool_literal true) ≡ bool_literal true
  pub numbers_alone : strict (binary Lt (byte_literal 4) (byte_literal 5)) ≡ binary Lt (byte_literal 4) (byte_literal 5)
  pub other_types : strict (any (compare Eq a 1) (compare Eq other_a 2)) ≡ any (all (compare Eq a 1) (is_not_null a)) (all (compare Eq other_a 2) (is_not_null other_a))
  pub negated : strict (not above_five) ≡ not above_five
  pub test_true : strict_test true false above_five ≡ all above_five (is_not_null a)
  pub test_not_true : strict_test false true above_five ≡ any (is_null a) (all (compare Lte a 5) (is_not_null a))
  pub test_of_range : strict_test false true (range 4 6) ≡ any (is_null a) (all (any (compare Lt a 4) (compare Gt a 6)) (is_not_null a))
  pub test_of_null : strict_test true false (is_null above_five) ≡ is_null a
  pub test_of_valued : strict_test true false (is_not_null above_five) ≡ is_not_null a
  pub test_of_truth : strict_test true false (binary Eq above_five (truth_literal true)) ≡ all above_five (is_not_null a)
