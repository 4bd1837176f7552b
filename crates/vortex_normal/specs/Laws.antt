-- What normal forms keep, over the definitions alone, and how deep they are.
use Rattle.std.specs.Prelude.{◌≡◌, ◌+◌, ◌*◌, ◌^◌, ◌≤◌, ℕ, Bool, true, false, not as not_b, List, length, max}
use Rattle.std.specs.List.{AllByRecursion}
use Rattle.vortex_base.specs.Data.Scalars.{Constant}
use Rattle.vortex_expr.specs.Meanings.Meaning.{satisfies}
use Rattle.vortex_expr.specs.Trees.Tree.{Tree, Place, binary, between, not, like}
use Rattle.vortex_expr.specs.declared.scalar_fn.Operator.{Operator}
use Rattle.vortex_expr.specs.declared.scalar_fn.Operator.TheVariants.{And, Or}
use Rattle.vortex_normal.specs.Balanced.{depth}
use Rattle.vortex_normal.specs.Groups.{Item, grouped, item_test, items_test, normal}
use Rattle.vortex_normal.specs.Intervals.{Interval, set_test}

abbrev pub GroupsAreSame : Type 0
GroupsAreSame = (p : Tree Place) (row : List Constant) (n : ℕ) → satisfies (grouped p) row n ≡ satisfies p row n

abbrev pub IsShallow : ℕ → Tree Place → Type 0
IsShallow d e = depth e ≤ d

-- a chain is deeper than its items by no more than the logarithm of their number, rounded up
abbrev pub ChainsAreShallow : Type 0
ChainsAreShallow = (w : Bool) (is : List Item) (d k : ℕ) → AllByRecursion (λ i. IsShallow d (item_test w i)) is → length is ≤ 2 ^ k → IsShallow (d + k) (items_test w is)

-- and a set by that of its intervals deeper than a comparison
abbrev pub SetsAreShallow : Type 0
SetsAreShallow = (c : Place) (is : List Interval) (k : ℕ) → length is ≤ 2 ^ k → IsShallow (1 + k) (set_test c is)

-- how many predicates AND, OR and NOT join: a BETWEEN and a LIKE may come to two comparisons
abbrev pub joined_leaves : Operator → (l r : ℕ) → ℕ
joined_leaves And l r = l + r
joined_leaves Or l r = l + r
joined_leaves o l r = 1

abbrev pub leaves : Tree Place → ℕ
leaves (binary o l r) = joined_leaves o (leaves l) (leaves r)
leaves (between o x l u) = 2
leaves (like o x p) = 2
leaves (not x) = leaves x
leaves e = 1

-- how often AND and OR take turns on the way to one of them, at most, within a chain of AND or of OR: under NOT they change places
abbrev pub joined_turns : Operator → (is_and : Bool) → (and_l and_r or_l or_r : ℕ) → ℕ
joined_turns And true al ar ol or = max al ar
joined_turns And false al ar ol or = max al ar + 1
joined_turns Or true al ar ol or = max ol or + 1
joined_turns Or false al ar ol or = max ol or
joined_turns o w al ar ol or = 0

abbrev pub turns : (is_and : Bool) → Tree Place → ℕ
turns w (binary o l r) = joined_turns o w (turns true l) (turns true r) (turns false l) (turns false r)
turns w (between o x l u) = 1
turns w (like o x p) = 1
turns w (not x) = turns (not_b w) x
turns w e = 0

-- a normal form is deeper than the predicate, or than a set of so many intervals, by no more than the logarithm of the number of leaves for each turn and once more
abbrev pub NormalIsShallow : Type 0
NormalIsShallow = (p : Tree Place) (k : ℕ) → leaves p ≤ 2 ^ k → IsShallow (max (depth p + 1) (k + 5) + k * (turns true p + 1)) (normal p)
