-- Predicates that say of their columns that they have values, where they aren't true of null.
use Rattle.std.specs.Prelude.{Bool, Option, Some, None, if◌then◌else◌}
use Rattle.vortex_expr.specs.Trees.Tree.{Tree, Place, column, binary, between, is_not_null, like}
use Rattle.vortex_expr.specs.Trees.TreeEq.{tree_eq}
use Rattle.vortex_expr.specs.declared.scalar_fn.Operator.{Operator}
use Rattle.vortex_expr.specs.declared.scalar_fn.Operator.TheVariants.{And, Or}
use Rattle.vortex_normal.specs.Groups.{normal}
use Rattle.vortex_normal.specs.LeafColumns.{column_beside, range_column}
use Rattle.vortex_normal.specs.Narrowed.{narrow}
use Rattle.vortex_normal.specs.Tested.{tested}

-- ---- the column that a predicate rests on

-- of two sides that rest on the same
abbrev pub agreed : (left right : Option (Tree Place)) → Option (Tree Place)
agreed (Some c) (Some d) = if tree_eq c d then Some c else None
agreed a b = None

abbrev pub binary_rests_on : Operator → (l r : Tree Place) → (left right : Option (Tree Place)) → Option (Tree Place)
binary_rests_on And l r a b = agreed a b
binary_rests_on Or l r a b = agreed a b
binary_rests_on o l r a b = column_beside l r

-- the only column of comparisons with literals, ranges and LIKEs, joined by AND and OR: where it is null none of them is true
abbrev pub rests_on : Tree Place → Option (Tree Place)
rests_on (binary o l r) = binary_rests_on o l r (rests_on l) (rests_on r)
rests_on (between o x l u) = range_column x l u
rests_on (like o x p) = column_beside x p
rests_on e = None

-- ---- tests of values

-- a predicate, and that a column has a value
abbrev pub valued : Option (Tree Place) → Tree Place → Tree Place
valued None e = e
valued (Some c) e = binary And e (is_not_null c)

-- a comparison of two columns, each of which has a value
abbrev pub both_valued : (l r e : Tree Place) → Tree Place
both_valued (column c) (column d) e = binary And (binary And e (is_not_null (column c))) (is_not_null (column d))
both_valued l r e = e

-- two sides, each with the test of its column, unless both rest on one
abbrev pub sides_valued : Operator → (agreed left right : Option (Tree Place)) → (l r : Tree Place) → Tree Place
sides_valued o (Some c) a b l r = binary o l r
sides_valued o None a b l r = binary o (valued a l) (valued b r)

abbrev pub binary_body : Operator → (l r : Tree Place) → (left right : Option (Tree Place)) → (body_l body_r : Tree Place) → Tree Place
binary_body And l r a b x y = sides_valued And (agreed a b) a b x y
binary_body Or l r a b x y = sides_valued Or (agreed a b) a b x y
binary_body o l r a b x y = both_valued l r (binary o l r)

-- the predicate with the tests that stand below its top
abbrev pub body : Tree Place → Tree Place
body (binary o l r) = binary_body o l r (rests_on l) (rests_on r) (body l) (body r)
body e = e

-- the predicate with a test of each column that it rests on, as far up as one test serves
abbrev pub strict : Tree Place → Tree Place
strict e = valued (rests_on e) (body e)

-- ---- the whole

-- the normal form of a test of a predicate's truth; null tests of predicates are pushed down within two others at most
abbrev pub normal_test : (wanted with_null : Bool) → Tree Place → Tree Place
normal_test w m p = normal (tested 3 w m p)

-- with what its ANDs say of a column used within their ORs
abbrev pub narrow_test : (wanted with_null : Bool) → Tree Place → Tree Place
narrow_test w m p = narrow (normal_test w m p)

-- and the strict one
abbrev pub strict_test : (wanted with_null : Bool) → Tree Place → Tree Place
strict_test w m p = strict (narrow_test w m p)
