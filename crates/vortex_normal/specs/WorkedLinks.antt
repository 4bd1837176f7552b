-- Worked consequences of comparisons of columns.
use Rattle.std.specs.Prelude.{◌≡◌, ℕ, zero, suc, false, true, [], ◌∷◌, length, None, Option, Some, replicate}
use Rattle.vortex_expr.specs.Trees.Tree.{Tree, Place, binary, column}
use Rattle.vortex_expr.specs.declared.scalar_fn.Operator.{Operator}
use Rattle.vortex_expr.specs.declared.scalar_fn.Operator.TheVariants.{Eq, NotEq, Gt, Gte, Lt, Lte, And, Or}
use Rattle.vortex_normal.specs.Links.{chained, consequences, linked}
use Rattle.vortex_normal.specs.Narrowed.{narrow, narrowed}
use Rattle.vortex_normal.specs.Worked.{a, all, any, b, byte, byte_literal, c, compare, range, truth_literal}
use Rattle.vortex_normal.specs.WorkedTests.{above_five, other_a}
use Rattle.vortex_rewrite.specs.Rewriting.Falsifiers.{bool_literal}

-- a third column of bytes
abbrev pub e : Tree Place
e = column (record { index = 5; dtype = byte })

-- that holds of it, a number of times, before another
abbrev pub times : ℕ → Tree Place → Tree Place → Tree Place
times zero x y = y
times (suc n) x y = all x (times n x y)

abbrev pub a_below_b : Tree Place
a_below_b = binary Lt a b

abbrev pub b_below_e : Tree Place
b_below_e = binary Lt b e

abbrev pub chained_to : Operator → (eq not_eq gt gte lt lte : Option Operator) → Type 0
chained_to o p q r s t u =
    (chained o Eq ≡ p) × (chained o NotEq ≡ q) × (chained o Gt ≡ r) × (chained o Gte ≡ s) × (chained o Lt ≡ t) × (chained o Lte ≡ u) × (chained o And ≡ None) × (chained o Or ≡ None)

abbrev pub no_operator : Option Operator
no_operator = None

abbrev pub some : Operator → Option Operator
some o = Some o

pub record LinkExamples : Type 0 where
  pub behind_equal : chained_to Eq (some Eq) (some NotEq) (some Gt) (some Gte) (some Lt) (some Lte)
  pub behind_unequal : chained_to NotEq no_operator no_operator no_operator no_operator no_operator no_operator
  pub behind_greater : chained_to Gt (some Gt) no_operator (some Gt) (some Gt) no_operator no_operator
  pub behind_at_least : chained_to Gte (some Gte) no_operator (some Gt) (some Gte) no_operator no_operator
  pub behind_less : chained_to Lt (some Lt) no_operator no_operator no_operator (some Lt) (some Lt)
  pub behind_at_most : chained_to Lte (some Lte) no_operator no_operator no_operator (some Lt) (some Lte)
  pub behind_and : chained_to And no_operator no_operator no_operator no_operator no_operator no_operator
  pub behind_or : chained_to Or no_operator no_operator no_operator no_operator no_operator no_operator
  -- a column and a number
  pub above : consequences (all a_below_b above_five) ≡ compare Gt b 5 ∷ []
  pub above_first : consequences (all above_five a_below_b) ≡ compare Gt b 5 ∷ []
  pub below : consequences (all a_below_b (compare Lte b 5)) ≡ compare Lt a 5 ∷ []
  pub number_first : consequences (all a_below_b (binary Lt (byte_literal 5) a)) ≡ compare Gt b 5 ∷ []
  pub columns_turned : consequences (all (binary Gte b a) above_five) ≡ compare Gt b 5 ∷ []
  pub in_range : consequences (all (binary Lte a b) (range 4 6)) ≡ compare Gte b 4 ∷ []
  pub below_range : consequences (all (binary Lte b a) (range 4 6)) ≡ compare Lte b 6 ∷ []
  pub equal_to_range : consequences (all (binary Eq a b) (range 4 6)) ≡ compare Gte b 4 ∷ compare Lte b 6 ∷ []
  pub unequal : consequences (all (binary Eq a b) (compare NotEq a 5)) ≡ compare NotEq b 5 ∷ []
  pub from_both : consequences (all (all (binary Eq a b) above_five) (compare Lt b 7)) ≡ compare Lt a 7 ∷ compare Gt b 5 ∷ []
  pub other_way : consequences (all a_below_b (compare Lt a 5)) ≡ []
  pub not_by_unequal : consequences (all (binary NotEq a b) (compare Eq a 5)) ≡ []
  pub other_column : consequences (all a_below_b (compare Gt e 5)) ≡ []
  pub other_type : consequences (all a_below_b (compare Gt other_a 5)) ≡ []
  pub other_kind : consequences (all a_below_b (binary Gt a (truth_literal true))) ≡ []
  -- three columns
  pub three_columns : consequences (all a_below_b b_below_e) ≡ binary Lt a e ∷ []
  pub three_at_most : consequences (all (binary Lte a b) (binary Lte b e)) ≡ binary Lte a e ∷ []
  pub listed_backward : consequences (all b_below_e a_below_b) ≡ binary Gt e a ∷ []
  pub three_unequal : consequences (all (binary Eq a b) (binary NotEq b e)) ≡ binary NotEq a e ∷ []
  pub beside_one_column : consequences (all a_below_b (binary Lt a e)) ≡ []
  -- two columns, twice
  pub below_itself : consequences (all a_below_b (binary Lt b a)) ≡ binary Lt a a ∷ binary Gt b b ∷ []
  pub at_most_itself : consequences (all (binary Lte a b) (binary Lte b a)) ≡ []
  pub equal_alone : consequences (binary Eq a b) ≡ []
  -- of one AND
  pub of_either : consequences (any a_below_b above_five) ≡ []
  pub below_or : consequences (all a_below_b (any above_five c)) ≡ []
  pub eight_comparisons : consequences (times 7 a_below_b b_below_e) ≡ replicate 7 (binary Lt a e)
  pub ninth_comparison : consequences (times 8 a_below_b b_below_e) ≡ []
  pub many_bounds : consequences (all a_below_b (times 31 (compare Lt e 9) above_five)) ≡ compare Gt b 5 ∷ []
  pub more_bounds : consequences (all a_below_b (times 32 (compare Lt e 9) above_five)) ≡ []
  pub many_consequences : length (consequences (times 7 a_below_b (times 8 above_five a_below_b))) ≡ 32
  -- joined
  pub joins_none : linked above_five c ≡ c
  pub joins_one : linked (all a_below_b above_five) c ≡ all c (compare Gt b 5)
  pub joins_two : linked (all (binary Eq a b) (range 4 6)) c ≡ all c (all (compare Gte b 4) (compare Lte b 6))
  pub at_the_top : narrowed (all a_below_b above_five) ≡ all (all a_below_b above_five) (compare Gt b 5)
  pub below_an_or : narrowed (any c (all a_below_b above_five)) ≡ any c (all (all a_below_b above_five) (compare Gt b 5))
  pub contradiction : narrow (all a_below_b (all above_five (compare Lt b 3))) ≡ bool_literal false
  pub between_columns : narrow (all (binary Lte b a) (binary Lte a e)) ≡ all (all (binary Lte b a) (binary Lte a e)) (binary Lte b e)
  pub both_ways : narrow (all a_below_b (binary Lt b a)) ≡ bool_literal false
  pub both_ways_at_most : narrow (all a_below_b (binary Lte b a)) ≡ bool_literal false
