-- Worked proofs of LIKE for a column that has one value alone.
use Rattle.std.specs.Prelude.{◌≡◌, Bool, false, true, [], ◌∷◌, None, Option, Some, codes}
use Rattle.vortex_base.specs.declared.aggregate.AggregateFnRef.TheVariants.{AllNonNull, AllNull, Max, Min, NullCount}
use Rattle.vortex_base.specs.declared.dtype.DType.TheVariants as dtype
use Rattle.vortex_base.specs.declared.types.Nullability.TheVariants.{NonNullable}
use Rattle.vortex_expr.specs.Patterns.Like.{plain}
use Rattle.vortex_expr.specs.Trees.Tree.{Tree, Place, binary, like, not, row_count, stat}
use Rattle.vortex_expr.specs.declared.like.LikeOptions.{LikeOptions}
use Rattle.vortex_expr.specs.declared.scalar_fn.Operator.TheVariants.{Eq, Gt, Gte, Lt, Lte}
use Rattle.vortex_normal.specs.Worked.{a, all, any, compare, like_of, link, t, text}
use Rattle.vortex_predicates.specs.EqualBounds.{form_proof, has_column_like, joint_unless_built_in, leaf_proof, opposite, value_proof}
use Rattle.vortex_predicates.specs.Pruning.{skip_proof, whole_proof}
use Rattle.vortex_rewrite.specs.Rewriting.Falsifiers.{count_literal}
use Rattle.vortex_rewrite.specs.Rewriting.Lawful.{OwnRule}

abbrev pub options : (negated case_insensitive : Bool) → LikeOptions
options n i = record { negated = n; case_insensitive = i }

abbrev pub pattern : Tree Place
pattern = text (dtype.Utf8 NonNullable) (codes "%c")

-- a text ends in c, and the only text doesn't, or does
abbrev pub ends_in_c : Tree Place
ends_in_c = like_of true (codes "%c")

abbrev pub one_text : Tree Place
one_text = binary Eq (stat Min t) (stat Max t)

abbrev pub other_end : Tree Place
other_end = all one_text (like (options true false) (stat Min t) pattern)

abbrev pub that_end : Tree Place
that_end = all one_text (like (options false false) (stat Min t) pattern)

abbrev pub above_five : Tree Place
above_five = compare Gt a 5

abbrev pub none_above : Tree Place
none_above = compare Lte (stat Max a) 5

abbrev pub all_null_t : Tree Place
all_null_t = any (binary Eq (stat NullCount t) row_count) (stat AllNull t)

abbrev pub no_null_t : Tree Place
no_null_t = any (binary Eq (stat NullCount t) (count_literal 0)) (stat AllNonNull t)

pub record LikeExamples : Type 0 where
  pub negated : opposite (options false true) ≡ options true true
  pub not_negated : opposite (options true false) ≡ options false false
  pub of_column : value_proof plain t pattern ≡ Some other_end
  pub of_negated : value_proof (options true false) t pattern ≡ Some that_end
  pub of_literal : value_proof plain pattern t ≡ None
  pub of_columns : value_proof plain t t ≡ None
  pub of_literals : value_proof plain pattern pattern ≡ None
  pub itself : has_column_like ends_in_c ≡ true
  pub left_of_and : has_column_like (all ends_in_c above_five) ≡ true
  pub right_of_and : has_column_like (all above_five ends_in_c) ≡ true
  pub left_of_or : has_column_like (any ends_in_c above_five) ≡ true
  pub right_of_or : has_column_like (any above_five ends_in_c) ≡ true
  pub below_not : has_column_like (not ends_in_c) ≡ false
  pub no_like : has_column_like (any above_five above_five) ≡ false
  pub literal_text : has_column_like (like plain pattern t) ≡ false
  pub joined_by_and : leaf_proof [] (all ends_in_c above_five) ≡ Some (any other_end none_above)
  pub joined_by_or : leaf_proof [] (any ends_in_c above_five) ≡ Some (all other_end none_above)
  pub one_side_of_or : leaf_proof [] (any ends_in_c (not above_five)) ≡ None
  pub beside_range : leaf_proof [] (like_of true (codes "a%c")) ≡ Some (any (any (binary Gte (stat Min t) (text (dtype.Utf8 NonNullable) (codes "b"))) (binary Lt (stat Max t) (text (dtype.Utf8 NonNullable) (codes "a"))))
      (all one_text (like (options true false) (stat Min t) (text (dtype.Utf8 NonNullable) (codes "a%c")))))
  pub without_own : (f g : Option (Tree Place)) → joint_unless_built_in [] f g ≡ g
  pub with_own : (rule : OwnRule) → joint_unless_built_in (rule ∷ []) (Some (link 0)) (Some (link 1)) ≡ Some (any (link 0) (link 1))
  pub by_rules : form_proof [] above_five ≡ Some none_above
  pub by_leaves : form_proof [] ends_in_c ≡ Some other_end

-- the proofs of a predicate that is such a LIKE
pub record LikeProofExamples : Type 0 where
  pub skipped : skip_proof [] None ends_in_c ≡ Some (any other_end all_null_t)
  pub whole : whole_proof [] None ends_in_c ≡ Some (all no_null_t (any that_end all_null_t))
