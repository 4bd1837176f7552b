-- Worked rows, found by computation alone.
use Rattle.std.proofs.Common.{refl}
use Rattle.std.specs.Str.{chars}
use Rattle.vortex_normal.specs.Pushed.{all_of, any_of, comparison, comparison_of, folded, liked, settled}
use Rattle.vortex_predicates.specs.Worked.{JointExamples, ProofExamples}
use Rattle.vortex_predicates.specs.WorkedLikes.{LikeExamples, LikeProofExamples}
use Rattle.vortex_rewrite.specs.Rewriting.Falsifiers.{node, reduce_balanced}

pub joint_examples : JointExamples
joint_examples = record {
  covers_itself = refl;
  covers_no_other = refl;
  or_covers_itself = refl;
  and_covers_itself = refl;
  or_covers_first = refl;
  or_covers_no_second = refl;
  or_covers_first_or = refl;
  or_covers_sides = refl;
  or_lacks_left = refl;
  or_lacks_right = refl;
  and_covers_sides = refl;
  and_lacks_left = refl;
  and_lacks_right = refl;
  and_covers_no_side = refl;
  and_covers_no_or = refl;
  or_covers_no_and = refl;
  neither = refl;
  second_alone = refl;
  first_alone = refl;
  covered = refl;
  both = refl;
  not_covered_back = refl;
}

pub proof_examples : ProofExamples
unfolding all_of any_of comparison comparison_of folded settled node reduce_balanced
proof_examples = record {
  skipped = refl;
  whole = refl;
  skipped_by_nulls = refl;
  skipped_within_none = refl;
  whole_within_none = refl;
  skipped_within_one = refl;
  whole_within_one = refl;
  whole_within_two = refl;
}

pub like_examples : LikeExamples
unfolding node reduce_balanced chars lib.Utf8.encode
like_examples = record {
  negated = refl;
  not_negated = refl;
  of_column = refl;
  of_negated = refl;
  of_literal = refl;
  of_columns = refl;
  of_literals = refl;
  itself = refl;
  left_of_and = refl;
  right_of_and = refl;
  left_of_or = refl;
  right_of_or = refl;
  below_not = refl;
  no_like = refl;
  literal_text = refl;
  joined_by_and = refl;
  joined_by_or = refl;
  one_side_of_or = refl;
  beside_range = refl;
  without_own = λ f g. refl;
  with_own = λ rule. refl;
  by_rules = refl;
  by_leaves = refl;
}

pub like_proof_examples : LikeProofExamples
unfolding all_of any_of comparison comparison_of folded liked settled node reduce_balanced chars lib.Utf8.encode
like_proof_examples = record {
  skipped = refl;
  whole = refl;
}
