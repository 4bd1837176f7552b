-- What comparisons of columns carry over within an AND: from a < b and a > 5 that b > 5, and from a <= b and b <= c that a <= c.
use Rattle.std.specs.Prelude.{true, ◌&&◌, not as not_b, List, [], ◌∷◌, ◌++◌, Option, Some, None, filter_map, take, if◌then◌else◌}
use Rattle.vortex_expr.specs.Trees.Between.{to_operator}
use Rattle.vortex_expr.specs.Trees.Tree.{Tree, Place, column, literal, binary, between}
use Rattle.vortex_expr.specs.Trees.TreeEq.{tree_eq}
use Rattle.vortex_expr.specs.declared.scalar_fn.Operator.{Operator}
use Rattle.vortex_expr.specs.declared.scalar_fn.Operator.TheVariants.{Eq, Gt, Gte, Lt, Lte, And, Or}
use Rattle.vortex_rewrite.specs.Rewriting.Predicates.{is_predicate}
use Rattle.vortex_normal.specs.Balanced.{balanced}
use Rattle.vortex_normal.specs.Intervals.{swapped}
use Rattle.vortex_normal.specs.Pushed.{is_reflexive}
use Rattle.vortex_normal.specs.declared.links.Link.{Link as LentLink}

-- a comparison of a column with another one or with a literal
pub record Link : Type 0 where
  pub left : Tree Place
  pub operator : Operator
  pub right : Tree Place

abbrev pub link : Tree Place → Operator → Tree Place → Link
link x o y = record { left = x; operator = o; right = y }

-- a link that lends its operands
abbrev pub link_of : LentLink → Link
link_of l = link l.left.now l.operator l.right.now

-- ---- the links of an AND

-- of two columns, read from each
abbrev pub columns_linked : Operator → (l r : Tree Place) → List Link
columns_linked o (column c) (column d) = link (column c) o (column d) ∷ link (column d) (swapped o) (column c) ∷ []
columns_linked o l r = []

abbrev pub binary_columns : Operator → (l r : Tree Place) → (of_left of_right : List Link) → List Link
binary_columns And l r ks ms = ks ++ ms
binary_columns Or l r ks ms = []
binary_columns o l r ks ms = columns_linked o l r

-- the comparisons of columns that the AND at the top joins
abbrev pub column_links : Tree Place → List Link
column_links (binary o l r) = binary_columns o l r (column_links l) (column_links r)
column_links e = []

-- of a column and a literal, read from the column
abbrev pub bound_linked : Operator → (l r : Tree Place) → List Link
bound_linked o (column c) (literal d) = link (column c) o (literal d) ∷ []
bound_linked o (literal d) (column c) = link (column c) (swapped o) (literal d) ∷ []
bound_linked o l r = []

abbrev pub binary_bounds : Operator → (l r : Tree Place) → (of_left of_right : List Link) → List Link
binary_bounds And l r ks ms = ks ++ ms
binary_bounds Or l r ks ms = []
binary_bounds o l r ks ms = bound_linked o l r

-- the comparisons of columns with literals that it joins, with those of its ranges
abbrev pub bound_links : Tree Place → List Link
bound_links (binary o l r) = binary_bounds o l r (bound_links l) (bound_links r)
bound_links (between o x l u) = bound_linked (to_operator o.lower_strict) l x ++ bound_linked (to_operator o.upper_strict) x u
bound_links e = []

-- ---- what two links say

abbrev pub comparison_only : Operator → Option Operator
comparison_only And = None
comparison_only Or = None
comparison_only o = Some o

-- the comparison of x with z that is true wherever the first is of x and y and the second of y and z
abbrev pub chained : (first second : Operator) → Option Operator
chained Eq o = comparison_only o
chained Lt Eq = Some Lt
chained Lt Lt = Some Lt
chained Lt Lte = Some Lt
chained Lte Eq = Some Lte
chained Lte Lt = Some Lt
chained Lte Lte = Some Lte
chained Gt Eq = Some Gt
chained Gt Gt = Some Gt
chained Gt Gte = Some Gt
chained Gte Eq = Some Gte
chained Gte Gt = Some Gt
chained Gte Gte = Some Gte
chained o p = None

-- operands that can be compared, and not one with itself to no avail
abbrev pub chained_test : Option Operator → (x z : Tree Place) → Option (Tree Place)
chained_test None x z = None
chained_test (Some o) x z = if is_predicate (binary Eq x z) && not_b (tree_eq x z && is_reflexive o) then Some (binary o x z) else None

-- what follows from two links of which the second begins where the first ends
abbrev pub consequence : (first second : Link) → Option (Tree Place)
consequence k m = if tree_eq k.right m.left then chained_test (chained k.operator m.operator) k.left m.right else None

-- of each link and those behind it
abbrev pub paired_links : List Link → List (Tree Place)
paired_links [] = []
paired_links (k ∷ ks) = filter_map (consequence k) ks ++ paired_links ks

-- of each of some links and each of others
abbrev pub crossed_links : (links bounds : List Link) → List (Tree Place)
crossed_links [] bs = []
crossed_links (k ∷ ks) bs = filter_map (consequence k) bs ++ crossed_links ks bs

-- of the first eight comparisons of columns, which are two links each, and the first 32 with literals: not more than 32 in all
abbrev pub consequences : Tree Place → List (Tree Place)
consequences e = let ks = take 16 (column_links e) in take 32 (paired_links ks ++ crossed_links ks (take 32 (bound_links e)))

abbrev pub with_all : (e : Tree Place) → List (Tree Place) → Tree Place
with_all e [] = e
with_all e (c ∷ cs) = binary And e (balanced true (c ∷ cs))

-- the AND at the top with what follows from its comparisons of columns
abbrev pub linked : (e narrowed : Tree Place) → Tree Place
linked e q = with_all q (consequences e)
