-- Worked rows of leaves and of turns, found by computation alone.
use Rattle.std.specs.Prelude.{◌≡◌, true, false, refl}
use Rattle.vortex_expr.specs.Trees.Tree.{Tree, Place, binary, is_null, not}
use Rattle.vortex_expr.specs.declared.scalar_fn.Operator.TheVariants.{Lt, Gt, And, Or}
use Rattle.vortex_normal.specs.Laws.{leaves, turns}
use Rattle.vortex_normal.specs.Worked.{a, b, compare, range}

abbrev low : Tree Place
low = compare Lt a 5

abbrev high : Tree Place
high = compare Gt b 7

abbrev either : Tree Place
either = binary Or low high

abbrev both : Tree Place
both = binary And either high

-- ---- leaves

one_leaf : leaves low ≡ 1
one_leaf = refl

null_leaf : leaves (is_null a) ≡ 1
null_leaf = refl

three_leaves : leaves both ≡ 3
three_leaves = refl

range_leaves : leaves (range 3 5) ≡ 2
range_leaves = refl

not_leaves : leaves (not both) ≡ 3
not_leaves = refl

-- ---- turns

no_turn : turns true low ≡ 0
no_turn = refl

range_turn : turns true (range 3 5) ≡ 1
range_turn = refl

same_connective : turns false either ≡ 0
same_connective = refl

other_connective : turns true either ≡ 1
other_connective = refl

or_in_an_and : turns true both ≡ 1
or_in_an_and = refl

-- the AND is a turn in an OR, and the OR another in that
or_in_an_and_in_an_or : turns false both ≡ 2
or_in_an_and_in_an_or = refl

-- the deeper side counts, whichever it is
right_side : turns true (binary And high either) ≡ 1
right_side = refl

not_turned : turns true (not either) ≡ 0
not_turned = refl

not_twice : turns true (not (not either)) ≡ 1
not_twice = refl
