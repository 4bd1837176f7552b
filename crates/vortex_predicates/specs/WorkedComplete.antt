-- Predicates that bounds decide, and some that they don't.
use Rattle.std.specs.Prelude.{◌≡◌, Bool, false, true, None, Some, codes}
use Rattle.vortex_base.specs.declared.aggregate.AggregateFnRef.TheVariants.{AllNull}
use Rattle.vortex_base.specs.declared.dtype.DType.TheVariants as dtype
use Rattle.vortex_base.specs.declared.types.Nullability.TheVariants.{Nullable}
use Rattle.vortex_expr.specs.Trees.Tree.{Tree, Place, binary, is_not_null, is_null, literal, not, row_count, stat}
use Rattle.vortex_expr.specs.declared.scalar_fn.Operator.TheVariants.{Eq, Gt, Gte, Lt, Lte, NotEq}
use Rattle.vortex_normal.specs.Worked.{a, all, any, b, byte_literal, c, compare, compare_text, from_below, ignoring_case, like_of, null_number, range, truth_literal}
use Rattle.vortex_predicates.specs.Complete.{is_decided}

-- by forms of any depth, and by the predicate as it is alone
abbrev pub decided : Tree Place → Bool
decided p = is_decided None p

abbrev pub decided_as_given : Tree Place → Bool
decided_as_given p = is_decided (Some 0) p

-- one of a and one of b
abbrev pub above : Tree Place
above = compare Gt a 5

abbrev pub below : Tree Place
below = compare Lt b 3

-- of both columns, in either order
abbrev pub a_or_b : Tree Place
a_or_b = any above below

abbrev pub b_or_a : Tree Place
b_or_a = any below above

abbrev pub null_truth : Tree Place
null_truth = literal (record { dtype = dtype.Bool Nullable; value = None })

pub record CompleteExamples : Type 0 where
  -- ANDs of different columns, and of one that stands on both sides
  pub one_comparison : decided above ≡ true
  pub two_columns : decided (all above below) ≡ true
  pub shared_first : decided (all a_or_b (compare Gt a 7)) ≡ false
  pub shared_second : decided (all b_or_a (compare Gt a 7)) ≡ false
  pub shares_first : decided (all (compare Gt a 7) a_or_b) ≡ false
  pub shares_second : decided (all (compare Gt a 7) b_or_a) ≡ false
  pub of_other_columns : decided (all a_or_b (binary Eq c (truth_literal true))) ≡ true
  pub shared_within_left : decided (any (all a_or_b (compare Gt a 7)) (binary Eq c (truth_literal true))) ≡ false
  pub shared_within_right : decided (any (binary Eq c (truth_literal true)) (all a_or_b (compare Gt a 7))) ≡ false
  pub shared_below_an_and : decided (all (binary Eq c (truth_literal true)) (any below (all a_or_b (compare Gt a 7)))) ≡ false
  -- an OR may share a column
  pub or_shares : decided (any (all above below) (all (compare Lt a 2) (compare Gt b 9))) ≡ true
  pub or_shares_all : decided (any a_or_b (all (compare Lt a 2) (compare Gt b 9))) ≡ true
  -- a comparison names two columns
  pub of_columns : decided (binary Lt a b) ≡ true
  pub of_itself : decided_as_given (any (binary Lt a a) below) ≡ false
  pub of_itself_settled : decided (any (binary Lt a a) below) ≡ true
  pub left_column_shared : decided (all (binary Lt a b) above) ≡ false
  pub right_column_shared : decided (all (binary Lt b a) above) ≡ false
  -- one column under several connectives
  pub one_column : decided (any (all above (compare Lt a 9)) (not (compare Lte a 20))) ≡ true
  pub one_column_twice : decided (all (any (compare Lt a 2) above) (compare NotEq a 7)) ≡ true
  -- as it is, or by its normal form, unless that is too deep
  pub given_alone : decided (any (compare Lt a 5) (compare Gte a 3)) ≡ true
  pub given_needs_no_level : decided_as_given (all above below) ≡ true
  pub form_alone : decided (all above (compare Lt a 9)) ≡ true
  pub form_needs_levels : decided_as_given (all above (compare Lt a 9)) ≡ false
  pub form_within_levels : is_decided (Some 1) (all above (compare Lt a 9)) ≡ true
  -- constants
  pub always : decided (truth_literal true) ≡ true
  pub never : decided (truth_literal false) ≡ true
  pub null : decided_as_given (any null_truth above) ≡ false
  pub null_settled : decided (any null_truth above) ≡ true
  pub null_end : decided_as_given (any (binary Gt b null_number) above) ≡ false
  pub null_before : decided_as_given (any (binary Gt null_number b) above) ≡ false
  pub null_end_settled : decided (any (binary Gt b null_number) above) ≡ true
  pub of_literals : decided_as_given (binary Lt (byte_literal 2) (byte_literal 3)) ≡ true
  -- nulls, texts and ranges
  pub null_test : decided (is_null a) ≡ false
  pub value_test : decided (is_not_null a) ≡ false
  pub or_null : decided (any above (is_null a)) ≡ false
  pub every_value : decided (compare Gte a 0) ≡ true
  pub unsettled_value : decided (not (compare Gt a 255)) ≡ false
  pub ranged : decided (range 4 6) ≡ true
  pub of_texts : decided (from_below (codes "ab") (codes "ac")) ≡ true
  pub between_texts : decided (all (compare_text Gt (codes "ab")) (compare_text Lt (codes "ac"))) ≡ false
  pub beginning : decided (like_of true (codes "ab%")) ≡ true
  pub other_pattern : decided (like_of true (codes "a_b")) ≡ false
  pub any_case : decided (ignoring_case (codes "ab%")) ≡ false
  pub no_text : decided (like_of true (codes "%")) ≡ false
  -- placeholders
  pub statistic : decided (stat AllNull a) ≡ false
  pub of_rows : decided (binary Eq (stat AllNull a) row_count) ≡ false
