-- The proofs of rules of the tests that may be true, and that these are lawful.
use Rattle.std.specs.Prelude.{◌≡◌, Bool, true, false, Option, Some, None, refl}
use Rattle.std.proofs.Common.{ap, subst, sym}
use Rattle.vortex_base.specs.declared.scalar_value.ScalarValue.{ScalarValue}
use Rattle.vortex_base.specs.declared.scalar_value.ScalarValue.TheVariants as value
use Rattle.vortex_expr.specs.Meanings.Meaning.{is_true, opposite, truth, truth_value}
use Rattle.vortex_base.specs.Data.Columns.{row_count as rows_of}
use Rattle.vortex_expr.specs.Trees.Tree.{Tree, Place, column, is_null, literal, not, stat}
use Rattle.vortex_base.specs.declared.aggregate.AggregateFnRef.{AggregateFnRef}
use Rattle.vortex_base.specs.declared.aggregate.AggregateFnRef.TheVariants.{AllNull, AllNonNull}
use Rattle.vortex_rewrite.proofs.Soundness.RowFacts.{right_at}
use Rattle.vortex_rewrite.proofs.Soundness.RowRules.{true_value}
use Rattle.vortex_rewrite.specs.Rewriting.Proof.{proves}
use Rattle.vortex_rewrite.specs.Rewriting.Lawful.{IsLawful, IsSoundFalsifier, IsSoundSatisfier}
use Rattle.vortex_rewrite.specs.Rewriting.Falsifiers.{bool_literal}

-- the answer, where the value is this truth
abbrev pub at_truth : (of answer : Bool) → Option ScalarValue → Option (Tree Place)
at_truth true answer (Some (value.Bool true)) = Some (bool_literal answer)
at_truth true answer v = None
at_truth false answer (Some (value.Bool false)) = Some (bool_literal answer)
at_truth false answer v = None

abbrev pub at_literal : (of answer : Bool) → Tree Place → Option (Tree Place)
at_literal of answer (literal c) = at_truth of answer c.value
at_literal of answer e = None

-- the answer, at NOT of a literal that is this truth
abbrev pub at_opposite : (of answer : Bool) → Tree Place → Option (Tree Place)
at_opposite of answer (not x) = at_literal of answer x
at_opposite of answer e = None

of_true : (answer : Bool) (v : Option ScalarValue) (e : Tree Place) → at_truth true answer v ≡ Some e → is_true (truth_value (opposite (truth v))) ≡ false
of_true answer (Some (value.Bool true)) e h = refl
of_true answer (Some (value.Bool false)) e h = cc
of_true answer (Some (value.Primitive p)) e h = cc
of_true answer (Some (value.Utf8 bs)) e h = cc
of_true answer (Some (value.Binary bs)) e h = cc
of_true answer None e h = cc

of_false : (answer : Bool) (v : Option ScalarValue) (e : Tree Place) → at_truth false answer v ≡ Some e → is_true (truth_value (opposite (truth v))) ≡ true
of_false answer (Some (value.Bool true)) e h = cc
of_false answer (Some (value.Bool false)) e h = refl
of_false answer (Some (value.Primitive p)) e h = cc
of_false answer (Some (value.Utf8 bs)) e h = cc
of_false answer (Some (value.Binary bs)) e h = cc
of_false answer None e h = cc

inner_falsifies : (answer : Bool) (x e : Tree Place) → at_literal true answer x ≡ Some e → IsSoundFalsifier (not x) e
inner_falsifies answer (literal c) e h k A chunk over honest t i within = of_true answer c.value e h
inner_falsifies answer x e h k A chunk over honest t i within = cc

inner_satisfies : (answer : Bool) (x e : Tree Place) → at_literal false answer x ≡ Some e → IsSoundSatisfier (not x) e
inner_satisfies answer (literal c) e h k A chunk over honest t i within = of_false answer c.value e h
inner_satisfies answer x e h k A chunk over honest t i within = cc

opposite_falsifies : (answer : Bool) (p e : Tree Place) → at_opposite true answer p ≡ Some e → IsSoundFalsifier p e
opposite_falsifies answer (not x) e h = inner_falsifies answer x e h
opposite_falsifies answer p e h = absurd cc

opposite_satisfies : (answer : Bool) (p e : Tree Place) → at_opposite false answer p ≡ Some e → IsSoundSatisfier p e
opposite_satisfies answer (not x) e h = inner_satisfies answer x e h
opposite_satisfies answer p e h = absurd cc

pub opposite_is_lawful : (answer : Bool) → IsLawful (at_opposite true answer) (at_opposite false answer)
opposite_is_lawful answer = record { falsifies = opposite_falsifies answer; satisfies = opposite_satisfies answer }

-- ---- a rule whose proofs are true by facts: that all rows of a column are null, or that none is

abbrev pub at_column : AggregateFnRef → Tree Place → Option (Tree Place)
at_column f (column c) = Some (stat f (column c))
at_column f e = None

abbrev pub at_null_test : AggregateFnRef → Tree Place → Option (Tree Place)
at_null_test f (is_null x) = at_column f x
at_null_test f e = None

-- the aggregate of a column, at NOT of its null test
abbrev pub at_value_test : AggregateFnRef → Tree Place → Option (Tree Place)
at_value_test f (not x) = at_null_test f x
at_value_test f e = None

-- NOT of a null test, by whether it is one of null
abbrev not_of : Bool → Bool
not_of b = is_true (truth_value (opposite (truth (Some (value.Bool b)))))

column_falsifies : (x e : Tree Place) → at_column AllNull x ≡ Some e → IsSoundFalsifier (not (is_null x)) e
column_falsifies (column c) e h k A chunk over honest t i within =
    let is : stat AllNull (column c) ≡ e = cc in
    let told : is_true (A AllNull (column c)) ≡ true = subst (λ (d : Tree Place). proves d A (rows_of k.columns) ≡ true) (sym is) t in
    ap not_of ((right_at A k.columns honest i within).every_null (column c) (true_value (A AllNull (column c)) told))
column_falsifies x e h k A chunk over honest t i within = cc

column_satisfies : (x e : Tree Place) → at_column AllNonNull x ≡ Some e → IsSoundSatisfier (not (is_null x)) e
column_satisfies (column c) e h k A chunk over honest t i within =
    let is : stat AllNonNull (column c) ≡ e = cc in
    let told : is_true (A AllNonNull (column c)) ≡ true = subst (λ (d : Tree Place). proves d A (rows_of k.columns) ≡ true) (sym is) t in
    ap not_of ((right_at A k.columns honest i within).none_null (column c) (true_value (A AllNonNull (column c)) told))
column_satisfies x e h k A chunk over honest t i within = cc

test_falsifies : (x e : Tree Place) → at_null_test AllNull x ≡ Some e → IsSoundFalsifier (not x) e
test_falsifies (is_null x) e h = column_falsifies x e h
test_falsifies x e h = absurd cc

test_satisfies : (x e : Tree Place) → at_null_test AllNonNull x ≡ Some e → IsSoundSatisfier (not x) e
test_satisfies (is_null x) e h = column_satisfies x e h
test_satisfies x e h = absurd cc

value_test_falsifies : (p e : Tree Place) → at_value_test AllNull p ≡ Some e → IsSoundFalsifier p e
value_test_falsifies (not x) e h = test_falsifies x e h
value_test_falsifies p e h = absurd cc

value_test_satisfies : (p e : Tree Place) → at_value_test AllNonNull p ≡ Some e → IsSoundSatisfier p e
value_test_satisfies (not x) e h = test_satisfies x e h
value_test_satisfies p e h = absurd cc

pub value_test_is_lawful : IsLawful (at_value_test AllNull) (at_value_test AllNonNull)
value_test_is_lawful = record { falsifies = value_test_falsifies; satisfies = value_test_satisfies }
