-- Worked rows of the names in a condition, and of why a name refuses it, by computing.
use Rattle.std.proofs.Common.{◌≡◌, List, [], ◌∷◌, Some, None, codes, refl}
use Rattle.std.specs.Prelude.{pos}
use Rattle.vortex_base.specs.declared.types.Nullability.TheVariants.{Nullable}
use Rattle.vortex_parquet.specs.Columns.{ColumnView, lookup}
use Rattle.vortex_parquet.specs.declared.columns.Content.TheVariants as content
use Rattle.vortex_parquet.specs.declared.columns.Form.TheVariants as form
use Rattle.vortex_parquet.specs.declared.columns.Leaf.{Leaf}
use Rattle.vortex_parquet.specs.declared.meaning.LeafMeaning.TheVariants.{Plain}
use Rattle.vortex_parquet.specs.declared.columns.LeftOut.TheVariants as left_out
use Rattle.vortex_predicates.specs.Footers.Choosing.{reason, why_not}
use Rattle.vortex_predicates.specs.Footers.Mentions.{of_test}
use Rattle.vortex_logical.specs.declared.comparison.Comparison.TheVariants.{Gt}
use Rattle.vortex_sql.specs.declared.syntax.tree.Escape.TheVariants.{Backslash}
use Rattle.vortex_sql.specs.declared.syntax.tree.Leaf.{Leaf as Test'}
use Rattle.vortex_logical.specs.declared.logical_type.ExactKind.TheVariants.{Number}
use Rattle.vortex_sql.specs.declared.syntax.tree.Operand.TheVariants as operand
use Rattle.vortex_sql.specs.declared.syntax.tree.Test.{Test}
use Rattle.vortex_sql.specs.declared.syntax.tree.Test.TheVariants as test

-- ---- the names of a test

abbrev tested : Test → Test'
tested t = record { test = t; start = 3; end = 9 }

names_of_a_truth : of_test (tested (test.Truth (operand.Column (codes "a")))) (test.Truth (operand.Column (codes "a"))) ≡ record { name = codes "a"; start = 3; end = 9 } ∷ []
names_of_a_truth = refl

names_of_a_comparison : of_test (tested (test.Compare Gt (operand.Column (codes "a")) (operand.Column (codes "b")))) (test.Compare Gt (operand.Column (codes "a")) (operand.Column (codes "b"))) ≡ record { name = codes "a"; start = 3; end = 9 } ∷ record { name = codes "b"; start = 3; end = 9 } ∷ []
names_of_a_comparison = refl

names_of_a_distinction : of_test (tested (test.Distinct (operand.Column (codes "a")) (operand.Column (codes "b")))) (test.Distinct (operand.Column (codes "a")) (operand.Column (codes "b"))) ≡ record { name = codes "a"; start = 3; end = 9 } ∷ record { name = codes "b"; start = 3; end = 9 } ∷ []
names_of_a_distinction = refl

second_name_of_a_distinction : of_test (tested (test.Distinct operand.Null (operand.Column (codes "b")))) (test.Distinct operand.Null (operand.Column (codes "b"))) ≡ record { name = codes "b"; start = 3; end = 9 } ∷ []
second_name_of_a_distinction = refl

name_of_a_test_of_null : of_test (tested (test.IsNull (operand.Column (codes "a")))) (test.IsNull (operand.Column (codes "a"))) ≡ record { name = codes "a"; start = 3; end = 9 } ∷ []
name_of_a_test_of_null = refl

names_of_a_range : of_test (tested (test.Between (operand.Column (codes "a")) (operand.Column (codes "b")) (operand.Column (codes "c")))) (test.Between (operand.Column (codes "a")) (operand.Column (codes "b")) (operand.Column (codes "c"))) ≡ record { name = codes "a"; start = 3; end = 9 } ∷ record { name = codes "b"; start = 3; end = 9 } ∷ record { name = codes "c"; start = 3; end = 9 } ∷ []
names_of_a_range = refl

names_of_a_range_either_way : of_test (tested (test.BetweenSymmetric (operand.Column (codes "a")) (operand.Column (codes "b")) (operand.Column (codes "c")))) (test.BetweenSymmetric (operand.Column (codes "a")) (operand.Column (codes "b")) (operand.Column (codes "c"))) ≡ record { name = codes "a"; start = 3; end = 9 } ∷ record { name = codes "b"; start = 3; end = 9 } ∷ record { name = codes "c"; start = 3; end = 9 } ∷ []
names_of_a_range_either_way = refl

names_of_a_list : of_test (tested (test.In (operand.Column (codes "a")) ((operand.Column (codes "b")) ∷ operand.Exact (record { kind = Number; top = pos 1; scale = 0 }) ∷ (operand.Column (codes "c")) ∷ []))) (test.In (operand.Column (codes "a")) ((operand.Column (codes "b")) ∷ operand.Exact (record { kind = Number; top = pos 1; scale = 0 }) ∷ (operand.Column (codes "c")) ∷ [])) ≡ record { name = codes "a"; start = 3; end = 9 } ∷ record { name = codes "b"; start = 3; end = 9 } ∷ record { name = codes "c"; start = 3; end = 9 } ∷ []
names_of_a_list = refl

names_of_a_pattern : of_test (tested (test.Like (operand.Column (codes "a")) (operand.Column (codes "b")) Backslash)) (test.Like (operand.Column (codes "a")) (operand.Column (codes "b")) Backslash) ≡ record { name = codes "a"; start = 3; end = 9 } ∷ record { name = codes "b"; start = 3; end = 9 } ∷ []
names_of_a_pattern = refl

names_of_another_test : of_test (tested (test.Other)) (test.Other) ≡ []
names_of_another_test = refl

-- ---- why a name refuses a condition

abbrev a_leaf : Leaf
a_leaf = record { place = 0; physical = 1; form = form.Bool; meaning = Plain; nullability = Nullable }

nested_refuses : reason (Some (content.LeftOut left_out.Nested)) ≡ Some left_out.Nested
nested_refuses = refl

repeated_refuses : reason (Some (content.LeftOut left_out.Repeated)) ≡ Some left_out.Repeated
repeated_refuses = refl

duplicate_refuses : reason (Some (content.LeftOut left_out.Duplicate)) ≡ Some left_out.Duplicate
duplicate_refuses = refl

unknown_type_is_unread : reason (Some (content.LeftOut left_out.Type)) ≡ None
unknown_type_is_unread = refl

leaf_is_read : reason (Some (content.Leaf a_leaf)) ≡ None
leaf_is_read = refl

missing_column_is_unread : reason None ≡ None
missing_column_is_unread = refl

-- two columns of one name
abbrev twins : List ColumnView
twins = record { name = codes "a"; content = content.Leaf a_leaf } ∷ record { name = codes "b"; content = content.Leaf a_leaf } ∷ record { name = codes "a"; content = content.Leaf a_leaf } ∷ []

twin_refuses : why_not twins (record { name = codes "a"; start = 3; end = 9 }) ≡ Some left_out.Duplicate
unfolding lookup
twin_refuses = refl

single_is_read : why_not twins (record { name = codes "b"; start = 3; end = 9 }) ≡ None
unfolding lookup
single_is_read = refl
