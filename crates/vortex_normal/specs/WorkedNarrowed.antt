-- Worked narrowed predicates.
use Rattle.std.specs.Prelude.{◌≡◌, true, false, [], ◌∷◌, codes, replicate}
use Rattle.vortex_expr.specs.Trees.Tree.{Tree, Place, binary, is_null, is_not_null, not}
use Rattle.vortex_expr.specs.declared.scalar_fn.Operator.TheVariants.{Eq, NotEq, Gt, Gte, Lt, Lte}
use Rattle.vortex_normal.specs.Narrowed.{known_within, narrow, narrowed}
use Rattle.vortex_normal.specs.Strict.{strict_test}
use Rattle.vortex_normal.specs.Worked.{a, all, any, b, byte_literal, c, compare, compare_text, like_of, open_range, range, truth_literal}
use Rattle.vortex_normal.specs.WorkedTests.{above_five, below_one, other_a}

abbrev pub below_three : Tree Place
below_three = compare Lt a 3

abbrev pub above_two : Tree Place
above_two = compare Gt b 2

abbrev pub valued_c : Tree Place
valued_c = is_not_null c

abbrev pub three_or_two : Tree Place
three_or_two = any below_three above_two

-- a leaf of a with what is known of a
abbrev pub three_beside : (fact : Tree Place) → Tree Place
three_beside f = any (all below_three f) above_two

pub record NarrowedExamples : Type 0 where
  -- each kind of fact, and leaves that are none
  pub by_comparison : narrowed (all above_five three_or_two) ≡ all above_five (three_beside above_five)
  pub by_number_first : narrowed (all (binary Lt (byte_literal 5) a) three_or_two) ≡ all (binary Lt (byte_literal 5) a) (three_beside (binary Lt (byte_literal 5) a))
  pub by_unequal : narrowed (all (compare NotEq a 1) three_or_two) ≡ all (compare NotEq a 1) (three_beside (compare NotEq a 1))
  pub by_range : narrowed (all (range 4 6) three_or_two) ≡ all (range 4 6) (three_beside (range 4 6))
  pub by_null : narrowed (all (is_null a) three_or_two) ≡ all (is_null a) (three_beside (is_null a))
  pub by_value : narrowed (all (is_not_null a) three_or_two) ≡ all (is_not_null a) (three_beside (is_not_null a))
  pub by_truth : narrowed (all (binary Eq c (truth_literal true)) (any (binary Eq c (truth_literal false)) above_two)) ≡ all (binary Eq c (truth_literal true)) (any (all (binary Eq c (truth_literal false)) (binary Eq c (truth_literal true))) above_two)
  pub not_by_columns : narrowed (all (binary Gt a b) three_or_two) ≡ all (binary Gt a b) three_or_two
  pub not_by_negation : narrowed (all (not below_three) three_or_two) ≡ all (not below_three) three_or_two
  pub not_by_pattern : narrowed (all (like_of true (codes "ab_")) (any (compare_text Eq (codes "x")) above_two)) ≡ all (like_of true (codes "ab_")) (any (compare_text Eq (codes "x")) above_two)
  -- each kind of leaf
  pub of_range : narrowed (all above_five (any (range 4 6) above_two)) ≡ all above_five (any (all (range 4 6) above_five) above_two)
  pub of_null : narrowed (all above_five (any (is_null a) above_two)) ≡ all above_five (any (all (is_null a) above_five) above_two)
  pub of_value : narrowed (all above_five (any (is_not_null a) above_two)) ≡ all above_five (any (all (is_not_null a) above_five) above_two)
  pub of_number_first : narrowed (all above_five (any (binary Gt (byte_literal 3) a) above_two)) ≡ all above_five (any (all (binary Gt (byte_literal 3) a) above_five) above_two)
  -- each side
  pub fact_behind : narrowed (all three_or_two above_five) ≡ all (three_beside above_five) above_five
  pub fact_between : narrowed (all (all valued_c above_five) three_or_two) ≡ all (all valued_c above_five) (three_beside above_five)
  pub leaf_behind : narrowed (all above_five (any above_two below_three)) ≡ all above_five (any above_two (all below_three above_five))
  pub both_sides : narrowed (all above_five (any below_three (compare Eq a 7))) ≡ all above_five (any (all below_three above_five) (all (compare Eq a 7) above_five))
  pub two_facts : narrowed (all (all above_five below_one) three_or_two) ≡ all (all above_five below_one) (any (all below_three above_five) (all above_two below_one))
  pub two_ors : narrowed (all three_or_two (all above_five three_or_two)) ≡ all (three_beside above_five) (all above_five (three_beside above_five))
  -- no more than what is known there
  pub one_and : narrowed (all above_five below_three) ≡ all above_five below_three
  pub one_or : narrowed (any above_five below_three) ≡ any above_five below_three
  pub not_from_an_or : narrowed (all three_or_two (any above_five below_one)) ≡ all three_or_two (any above_five below_one)
  pub not_for_the_other_side : narrowed (any (all above_five three_or_two) below_three) ≡ any (all above_five (three_beside above_five)) below_three
  pub not_behind_the_side : narrowed (any below_three (all above_five three_or_two)) ≡ any below_three (all above_five (three_beside above_five))
  pub another_column : narrowed (all below_one (any below_three valued_c)) ≡ all below_one (any below_three valued_c)
  pub other_type : narrowed (all above_five (any (compare Lt other_a 3) above_two)) ≡ all above_five (any (compare Lt other_a 3) above_two)
  pub below_not : narrowed (all above_five (any (not below_three) above_two)) ≡ all above_five (any (not below_three) above_two)
  -- within one another
  pub twice : narrowed (all above_five (any (all valued_c three_or_two) above_two)) ≡ all above_five (any (all valued_c (three_beside above_five)) above_two)
  pub inner_and : narrowed (all above_five (any (all below_three valued_c) above_two)) ≡ all above_five (any (all (all below_three above_five) valued_c) above_two)
  pub inner_fact_first : narrowed (all above_five (any (all (compare NotEq a 7) three_or_two) valued_c)) ≡ all above_five (any (all (all (compare NotEq a 7) above_five) (three_beside (compare NotEq a 7))) valued_c)
  pub outer_fact_too : narrowed (all above_five (any (all below_one three_or_two) valued_c)) ≡ all above_five (any (all below_one (any (all below_three above_five) (all above_two below_one))) valued_c)
  pub or_in_or : narrowed (all above_five (any (any below_three valued_c) above_two)) ≡ all above_five (any (any (all below_three above_five) valued_c) above_two)
  -- what is known
  pub first_of_a_column : narrowed (all (all above_five (compare NotEq a 7)) three_or_two) ≡ all (all above_five (compare NotEq a 7)) (three_beside above_five)
  pub known_without_or : known_within (all above_five below_one) [] ≡ []
  pub known_in_order : known_within (all (all above_five below_one) three_or_two) (valued_c ∷ []) ≡ above_five ∷ below_one ∷ valued_c ∷ []
  pub known_of_many : known_within (all above_five three_or_two) (replicate 40 below_one) ≡ above_five ∷ replicate 31 below_one
  -- grouped anew
  pub dropped : narrow (all above_five three_or_two) ≡ all above_five above_two
  pub met : narrow (all above_five (any (compare Lt a 8) above_two)) ≡ all above_five (any (open_range 5 8) above_two)
  pub left_alone : narrow (all above_five below_three) ≡ all above_five below_three
  pub strict_form : strict_test true false (all above_five three_or_two) ≡ all (all above_five (is_not_null a)) (all above_two (is_not_null b))
  pub strict_form_false : strict_test false false (any (compare Lte a 5) (all (compare Gte a 3) (compare Lte b 2))) ≡ all (all above_five (is_not_null a)) (all above_two (is_not_null b))
