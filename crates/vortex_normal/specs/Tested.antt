-- Tests of a predicate's truth, pushed down to what it is about: the truth is the wanted one, or null where that counts.
use Rattle.std.specs.Prelude.{◌≡◌, ◌<◌, ◌^◌, ℕ, zero, suc, Bool, true, false, not as not_b, ◌&&◌, List, Option, Some, None, IsTrue, if◌then◌else◌}
use Rattle.vortex_base.specs.Data.Columns.{IsRow}
use Rattle.vortex_base.specs.Data.Scalars.{Constant}
use Rattle.vortex_expr.specs.Meanings.Fitting.{fits_row}
use Rattle.vortex_expr.specs.Meanings.Meaning.{meaning, satisfies, truth}
use Rattle.vortex_expr.specs.Meanings.RowTest.{is_wanted}
use Rattle.vortex_expr.specs.Trees.Between.{to_operator}
use Rattle.vortex_expr.specs.Trees.Tree.{Tree, Place, column, literal, binary, between, is_null, is_not_null, not, like, stat, row_count}
use Rattle.vortex_expr.specs.declared.scalar_fn.BetweenOptions.{BetweenOptions}
use Rattle.vortex_expr.specs.declared.scalar_fn.Operator.{Operator}
use Rattle.vortex_expr.specs.declared.scalar_fn.Operator.TheVariants.{Eq, NotEq, Gt, Gte, Lt, Lte, And, Or}
use Rattle.vortex_rewrite.specs.Rewriting.Predicates.{is_predicate}
use Rattle.vortex_normal.specs.Intervals.{swapped}
use Rattle.vortex_normal.specs.Pushed.{or_not}

-- ---- what is tested

-- the truth is the wanted one, or null where that counts
abbrev pub passes : (wanted with_null : Bool) → Option Bool → Bool
passes w m None = m
passes w m (Some b) = is_wanted w (Some b)

-- on every row that the first predicate fits, the second is satisfied exactly where the truth of the first passes
abbrev pub IsTestOf : (wanted with_null : Bool) → (p q : Tree Place) → Type 0
IsTestOf w m p q = (row : List Constant) (n : ℕ) → IsRow row → IsTrue (fits_row p row) → n < 2 ^ 64 → satisfies q row n ≡ passes w m (truth (meaning p row n))

-- ---- leaves

-- an expression whose operands say whether it is true: neither a column nor a literal, nor a placeholder
abbrev pub is_compound : Tree Place → Bool
is_compound (column c) = false
is_compound (literal c) = false
is_compound (stat f x) = false
is_compound row_count = false
is_compound e = true

-- such a predicate, whose truth is tested in place of its value
abbrev pub is_inner : Tree Place → Bool
is_inner e = is_compound e && is_predicate e

-- true where the first is too, if null counts
abbrev pub or_null : (with_null : Bool) → (null e : Tree Place) → Tree Place
or_null true null e = binary Or null e
or_null false null e = e

-- a predicate without operands
abbrev pub whole_tested : (wanted with_null : Bool) → Tree Place → Tree Place
whole_tested w m e = or_null m (is_null e) (or_not w e)

-- a predicate of two operands, which is null exactly where one of them is
abbrev pub operands_tested : (wanted with_null : Bool) → (l r e : Tree Place) → Tree Place
operands_tested w m l r e = or_null m (binary Or (is_null l) (is_null r)) (or_not w e)

-- both, or either
abbrev pub joined : (both : Bool) → (l r : Tree Place) → Tree Place
joined true l r = binary And l r
joined false l r = binary Or l r

-- the AND of two comparisons, which is null where neither is false and one is null
abbrev pub between_tested : (wanted with_null : Bool) → BetweenOptions → (x l u : Tree Place) → Tree Place
between_tested w true o x l u =
    joined w (operands_tested w true l x (binary (to_operator o.lower_strict) l x)) (operands_tested w true x u (binary (to_operator o.upper_strict) x u))
between_tested w false o x l u = or_not w (between o x l u)

-- ---- predicates that are compared with truths

-- the one truth that compares so with a truth, where the other one doesn't
abbrev pub truth_wanted : Operator → Bool → Option Bool
truth_wanted Eq b = Some b
truth_wanted NotEq b = Some (not_b b)
truth_wanted Gt true = None
truth_wanted Gt false = Some true
truth_wanted Gte true = Some true
truth_wanted Gte false = None
truth_wanted Lt true = Some false
truth_wanted Lt false = None
truth_wanted Lte true = None
truth_wanted Lte false = Some false
truth_wanted And b = None
truth_wanted Or b = None

-- the truth that a literal is
abbrev pub truth_in : Tree Place → Option Bool
truth_in (literal c) = truth c.value
truth_in e = None

abbrev pub wanted_by : Operator → Option Bool → Option Bool
wanted_by o None = None
wanted_by o (Some b) = truth_wanted o b

-- the truth of an operand that makes its comparison with another one true, where the other is a literal truth
abbrev pub wanted_beside : Operator → (x other : Tree Place) → Option Bool
wanted_beside o x y = if is_inner x then wanted_by o (truth_in y) else None

-- a test of the operand for that truth or, where the test is for false, for the other one
abbrev pub operand_or : (wanted : Bool) → Option Bool → (test : Bool → Tree Place) → Tree Place → Tree Place
operand_or w None test e = e
operand_or w (Some t) test e = test (is_wanted w (Some t))

abbrev pub comparison_tested : (wanted with_null : Bool) → Operator → (l r : Tree Place) → (test_l test_r : Bool → Tree Place) → Tree Place
comparison_tested w m o l r f g = operand_or w (wanted_beside o l r) f (operand_or w (wanted_beside (swapped o) r l) g (operands_tested w m l r (binary o l r)))

-- a connective, whose sides are tested alike, or a comparison
abbrev pub binary_tested : (wanted with_null : Bool) → Operator → (l r : Tree Place) → (test_l test_r : Bool → Tree Place) → Tree Place
binary_tested w m And l r f g = joined w (f w) (g w)
binary_tested w m Or l r f g = joined (not_b w) (f w) (g w)
binary_tested w m o l r f g = comparison_tested w m o l r f g

-- ---- null tests

abbrev pub value_test : (null : Bool) → Tree Place → Tree Place
value_test true x = is_null x
value_test false x = is_not_null x

-- a predicate is null where it is neither false nor true, and has a truth where it is either; so for a number of null tests within one another
abbrev pub null_tested : (levels : ℕ) → (null : Bool) → (x : Tree Place) → (test : (levels : ℕ) → (wanted with_null : Bool) → Tree Place) → Tree Place
null_tested zero w x test = value_test w x
null_tested (suc k) w x test = if is_inner x then joined w (test k false w) (test k true w) else value_test w x

-- ---- the whole

-- a predicate that is satisfied where the truth of the given one passes
abbrev pub tested : (levels : ℕ) → (wanted with_null : Bool) → Tree Place → Tree Place
tested k w m (column c) = whole_tested w m (column c)
tested k w m (literal c) = whole_tested w m (literal c)
tested k w m (binary o l r) = binary_tested w m o l r (λ v. tested k v m l) (λ v. tested k v m r)
tested k w m (between o x l u) = between_tested w m o x l u
tested k w m (is_null x) = null_tested k w x (λ j v n. tested j v n x)
tested k w m (is_not_null x) = null_tested k (not_b w) x (λ j v n. tested j v n x)
tested k w m (not x) = tested k (not_b w) m x
tested k w m (like o x p) = operands_tested w m x p (like o x p)
tested k w m (stat f x) = whole_tested w m (stat f x)
tested k w m row_count = whole_tested w m row_count

-- a null test of an expression
abbrev pub null_test_of : (levels : ℕ) → (null : Bool) → (x : Tree Place) → Tree Place
null_test_of k w x = null_tested k w x (λ j v n. tested j v n x)
