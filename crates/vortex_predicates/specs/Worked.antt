-- Worked joint proofs, and the proofs of worked predicates.
use Rattle.std.specs.Prelude.{◌≡◌, false, true, [], None, Option, Some}
use Rattle.vortex_base.specs.declared.aggregate.AggregateFnRef.TheVariants.{AllNonNull, AllNull, Max, Min, NullCount}
use Rattle.vortex_expr.specs.Trees.Tree.{Tree, Place, binary, is_null, row_count, stat}
use Rattle.vortex_expr.specs.declared.scalar_fn.Operator.TheVariants.{Eq, Gt, Lte}
use Rattle.vortex_normal.specs.Worked.{a, all, any, byte_literal, compare, link}
use Rattle.vortex_predicates.specs.Joint.{covers, joint}
use Rattle.vortex_predicates.specs.Pruning.{skip_proof, whole_proof}
use Rattle.vortex_rewrite.specs.Rewriting.Falsifiers.{count_literal}

abbrev pub no_proof : Option (Tree Place)
no_proof = None

pub record JointExamples : Type 0 where
  pub covers_itself : covers (link 0) (link 0) ≡ true
  pub covers_no_other : covers (link 0) (link 1) ≡ false
  pub or_covers_itself : covers (any (link 0) (link 1)) (any (link 0) (link 1)) ≡ true
  pub and_covers_itself : covers (all (link 0) (link 1)) (all (link 0) (link 1)) ≡ true
  pub or_covers_first : covers (any (link 0) (link 1)) (link 0) ≡ true
  pub or_covers_no_second : covers (any (link 0) (link 1)) (link 1) ≡ false
  pub or_covers_first_or : covers (any (any (link 0) (link 1)) (link 2)) (any (link 0) (link 1)) ≡ true
  pub or_covers_sides : covers (any (any (link 0) (link 1)) (any (link 2) (link 3))) (any (link 0) (link 2)) ≡ true
  pub or_lacks_left : covers (any (any (link 0) (link 1)) (any (link 2) (link 3))) (any (link 4) (link 2)) ≡ false
  pub or_lacks_right : covers (any (any (link 0) (link 1)) (any (link 2) (link 3))) (any (link 0) (link 4)) ≡ false
  pub and_covers_sides : covers (all (any (link 0) (link 1)) (any (link 2) (link 3))) (all (link 0) (link 2)) ≡ true
  pub and_lacks_left : covers (all (any (link 0) (link 1)) (any (link 2) (link 3))) (all (link 4) (link 2)) ≡ false
  pub and_lacks_right : covers (all (any (link 0) (link 1)) (any (link 2) (link 3))) (all (link 0) (link 4)) ≡ false
  pub and_covers_no_side : covers (all (link 0) (link 1)) (link 0) ≡ false
  pub and_covers_no_or : covers (all (any (link 0) (link 1)) (link 2)) (any (link 0) (link 2)) ≡ false
  pub or_covers_no_and : covers (any (any (link 0) (link 1)) (link 2)) (all (link 0) (link 2)) ≡ false
  pub neither : joint no_proof no_proof ≡ None
  pub second_alone : joint no_proof (Some (link 0)) ≡ Some (link 0)
  pub first_alone : joint (Some (link 0)) no_proof ≡ Some (link 0)
  pub covered : joint (Some (link 0)) (Some (any (link 0) (link 1))) ≡ Some (any (link 0) (link 1))
  pub both : joint (Some (link 1)) (Some (any (link 0) (link 1))) ≡ Some (any (link 1) (any (link 0) (link 1)))
  pub not_covered_back : joint (Some (any (link 0) (link 1))) (Some (link 0)) ≡ Some (any (any (link 0) (link 1)) (link 0))

-- all values of a are null, or none is
abbrev pub all_null_a : Tree Place
all_null_a = any (binary Eq (stat NullCount a) row_count) (stat AllNull a)

abbrev pub no_null_a : Tree Place
no_null_a = any (binary Eq (stat NullCount a) (count_literal 0)) (stat AllNonNull a)

abbrev pub above_five : Tree Place
above_five = compare Gt a 5

abbrev pub all_above_five : Tree Place
all_above_five = binary Gt (stat Min a) (byte_literal 5)

pub record ProofExamples : Type 0 where
  -- where the bounds leave no value above, and where no value is known to be there
  pub skipped : skip_proof [] None above_five ≡ Some (any (compare Lte (stat Max a) 5) all_null_a)
  -- by the predicate itself, or since there is no null, and no value up to five
  pub whole : whole_proof [] None above_five ≡ Some (any (all all_above_five (stat AllNonNull a)) (all no_null_a (any all_above_five all_null_a)))
  -- a null test of the comparison, by what the placeholders of that tell, or by the nulls of its column
  pub skipped_by_nulls : skip_proof [] None (is_null above_five) ≡ Some (any (any (binary Eq (stat NullCount above_five) (count_literal 0)) (stat AllNonNull above_five)) no_null_a)
  -- forms of no level are left out, and those of one are used
  pub skipped_within_none : skip_proof [] (Some 0) above_five ≡ Some (compare Lte (stat Max a) 5)
  pub whole_within_none : whole_proof [] (Some 0) above_five ≡ Some (all all_above_five (stat AllNonNull a))
  pub skipped_within_one : skip_proof [] (Some 1) above_five ≡ skip_proof [] None above_five
  pub whole_within_one : whole_proof [] (Some 1) above_five ≡ Some (all all_above_five (stat AllNonNull a))
  pub whole_within_two : whole_proof [] (Some 2) above_five ≡ whole_proof [] None above_five
