-- What an AND says of a column, put beside the leaves of that column that stand below an OR within the AND.
use Rattle.std.specs.Prelude.{Bool, true, false, ◌||◌, List, [], ◌∷◌, ◌++◌, Option, Some, None, find, take, if◌then◌else◌}
use Rattle.vortex_expr.specs.Trees.Tree.{Tree, Place, column, binary, between, is_null, is_not_null}
use Rattle.vortex_expr.specs.Trees.TreeEq.{tree_eq}
use Rattle.vortex_expr.specs.declared.scalar_fn.Operator.{Operator}
use Rattle.vortex_expr.specs.declared.scalar_fn.Operator.TheVariants.{And, Or}
use Rattle.vortex_normal.specs.Groups.{normal}
use Rattle.vortex_normal.specs.LeafColumns.{column_beside, range_column}
use Rattle.vortex_normal.specs.Links.{linked}

-- ---- facts: leaves of one column

-- the column of a comparison
abbrev pub compared_column : Operator → (l r : Tree Place) → Option (Tree Place)
compared_column And l r = None
compared_column Or l r = None
compared_column o l r = column_beside l r

-- the column of a null test
abbrev pub tested_column : Tree Place → Option (Tree Place)
tested_column (column c) = Some (column c)
tested_column x = None

-- the column of a comparison with a literal, of a range between two, or of a null test
abbrev pub fact_column : Tree Place → Option (Tree Place)
fact_column (binary o l r) = compared_column o l r
fact_column (between o x l u) = range_column x l u
fact_column (is_null x) = tested_column x
fact_column (is_not_null x) = tested_column x
fact_column e = None

abbrev pub is_column : Tree Place → Option (Tree Place) → Bool
is_column c None = false
is_column c (Some d) = tree_eq d c

abbrev pub is_about : Tree Place → (fact : Tree Place) → Bool
is_about c f = is_column c (fact_column f)

abbrev pub leaf_facts : Option (Tree Place) → Tree Place → List (Tree Place)
leaf_facts None e = []
leaf_facts (Some c) e = e ∷ []

abbrev pub binary_facts : Operator → (e : Tree Place) → (of_left of_right : List (Tree Place)) → List (Tree Place)
binary_facts And e fs gs = fs ++ gs
binary_facts o e fs gs = leaf_facts (fact_column e) e

-- the facts that the AND at the top joins, or the predicate itself where it is one
abbrev pub facts : Tree Place → List (Tree Place)
facts (binary o l r) = binary_facts o (binary o l r) (facts l) (facts r)
facts e = leaf_facts (fact_column e) e

-- ---- what is known at a place: facts, of which the first of a column counts

abbrev pub binary_has_or : Operator → (left right : Bool) → Bool
binary_has_or And a b = a || b
binary_has_or Or a b = true
binary_has_or o a b = false

-- an OR is joined by the AND at the top, or is the predicate itself
abbrev pub has_or : Tree Place → Bool
has_or (binary o l r) = binary_has_or o (has_or l) (has_or r)
has_or e = false

-- an AND at the top joins an OR
abbrev pub joins_or : Tree Place → Bool
joins_or (binary And l r) = has_or l || has_or r
joins_or e = false

-- below the ORs of an AND its own facts come first, then those of the ANDs around it, and not more than 32 in all
abbrev pub known_within : Tree Place → (known : List (Tree Place)) → List (Tree Place)
known_within e known = if joins_or e then take 32 (facts e ++ known) else known

abbrev pub known_fact : (known : List (Tree Place)) → (column : Option (Tree Place)) → Option (Tree Place)
known_fact known None = None
known_fact known (Some c) = find (is_about c) known

-- ---- narrowing

abbrev pub with_fact : (fact : Option (Tree Place)) → (leaf : Tree Place) → Tree Place
with_fact None e = e
with_fact (Some f) e = binary And e f

-- a leaf beside what is known of its column
abbrev pub beside : (known : List (Tree Place)) → (leaf : Tree Place) → Tree Place
beside known e = with_fact (known_fact known (fact_column e)) e

abbrev pub Narrowing : Type 0
Narrowing = (outer inner : List (Tree Place)) → Tree Place

-- a predicate where so much is known around it, with what follows from its comparisons of columns
abbrev pub within : (known : List (Tree Place)) → (e : Tree Place) → Narrowing → Tree Place
within known e f = linked e (f known (known_within e known))

abbrev pub binary_chain : Operator → (outer inner : List (Tree Place)) → (e l r : Tree Place) → (left right : Narrowing) → Tree Place
binary_chain And outer inner e l r f g = binary And (f outer inner) (g outer inner)
binary_chain Or outer inner e l r f g = binary Or (within inner l f) (within inner r g)
binary_chain o outer inner e l r f g = beside outer e

-- a part of an AND: its leaves beside what is known around the AND, since those of one AND are grouped anyway, and below its ORs beside what is known within it
abbrev pub chain : (outer inner : List (Tree Place)) → Tree Place → Tree Place
chain outer inner (binary o l r) = binary_chain o outer inner (binary o l r) l r (λ a b. chain a b l) (λ a b. chain a b r)
chain outer inner e = beside outer e

abbrev pub narrowed_by : (known : List (Tree Place)) → Tree Place → Tree Place
narrowed_by known e = within known e (λ a b. chain a b e)

abbrev pub narrowed : Tree Place → Tree Place
narrowed e = narrowed_by [] e

-- a predicate that gains a fact is grouped anew, where facts meet what they stand beside
abbrev pub narrow : Tree Place → Tree Place
narrow e = if tree_eq (narrowed e) e then e else normal (narrowed e)
