-- A predicate with its NOTs pushed down to the leaves, and its leaves settled where their values don't matter.
use Rattle.std.specs.Prelude.{ℕ, Bool, true, false, ◌&&◌, ◌||◌, not as not_b, List, [], ◌∷◌, Option, Some, None, is_none, encode_utf8_all, if◌then◌else◌}
use Rattle.std.specs.Str.{chars}
use Rattle.std.specs.declared.cmp.Ordering.TheVariants.{Equal}
use Rattle.vortex_expr.specs.declared.scalar_fn.Operator.{Operator}
use Rattle.vortex_expr.specs.declared.scalar_fn.Operator.TheVariants.{Eq, NotEq, Gt, Gte, Lt, Lte, And, Or}
use Rattle.vortex_expr.specs.declared.scalar_fn.BetweenOptions.{BetweenOptions}
use Rattle.vortex_base.specs.declared.dtype.DType.TheVariants as dtype
use Rattle.vortex_expr.specs.declared.like.LikeOptions.{LikeOptions}
use Rattle.vortex_expr.specs.declared.like.Item.{Item}
use Rattle.vortex_expr.specs.declared.like.Item.TheVariants.{Char, AnyChar, AnyRun}
use Rattle.vortex_expr.specs.Patterns.Like.{items}
use Rattle.vortex_expr.specs.Patterns.Prefix.{has_next, is_exact, literal_prefix, successor}
use Rattle.vortex_base.specs.declared.types.Nullability.TheVariants.{Nullable}
use Rattle.vortex_expr.specs.Trees.Between.{to_operator}
use Rattle.vortex_expr.specs.Trees.Tree.{Tree, Place, column, literal, binary, between, is_null, is_not_null, not, like, has_bare_column, is_plain}
use Rattle.vortex_expr.specs.Trees.TreeEq.{tree_eq}
use Rattle.vortex_expr.specs.Meanings.Meaning.{holds, is_true, meaning, satisfies, truth}
use Rattle.vortex_expr.specs.Meanings.RowTest.{is_wanted}
use Rattle.vortex_rewrite.specs.Rewriting.Falsifiers.{bool_literal, bytes_literal, text_in}
use Rattle.vortex_normal.specs.Ends.{ended}

-- ---- leaves

-- the comparison that is false of two values where the given one is true, and the other connective
abbrev pub opposite_of : Operator → Operator
opposite_of Eq = NotEq
opposite_of NotEq = Eq
opposite_of Gt = Lte
opposite_of Gte = Lt
opposite_of Lt = Gte
opposite_of Lte = Gt
opposite_of And = Or
opposite_of Or = And

abbrev pub operator_as : (wanted : Bool) → Operator → Operator
operator_as true o = o
operator_as false o = opposite_of o

-- the comparison holds of a value and itself
abbrev pub is_reflexive : Operator → Bool
is_reflexive o = holds o Equal

abbrev pub is_null_literal : Tree Place → Bool
is_null_literal (literal c) = is_none c.value
is_null_literal e = false

abbrev pub is_literal : Tree Place → Bool
is_literal (literal c) = true
is_literal e = false

-- a predicate that means the same on every row becomes the truth of whether it is satisfied
unfoldable pub settled : Tree Place → Tree Place
settled q = if has_bare_column q || not_b (is_plain q) then q else bool_literal (satisfies q [] 0)

-- an operand without a column and without placeholders becomes the literal of its value: what isn't a literal already is of type Bool
unfoldable pub folded : Tree Place → Tree Place
folded e = if is_literal e || (has_bare_column e || not_b (is_plain e)) then e else literal (record { dtype = dtype.Bool Nullable; value = meaning e [] 0 })

-- a comparison: never true of null, of an operand and itself a test of null or false, and of a column by the ends of its type
unfoldable pub comparison_of : Operator → (l r : Tree Place) → Tree Place
comparison_of o l r =
    if is_null_literal l || is_null_literal r then bool_literal false
    else (if tree_eq l r then (if is_reflexive o then settled (is_not_null l) else bool_literal false)
    else settled (ended o l r))

-- of folded operands
unfoldable pub comparison : Operator → (l r : Tree Place) → Tree Place
comparison o l r = comparison_of o (folded l) (folded r)

abbrev pub null_test : (wanted : Bool) → Tree Place → Tree Place
null_test true x = settled (is_null x)
null_test false x = settled (is_not_null x)

-- ---- connectives

-- whether a literal is true
abbrev pub decided : Tree Place → Option Bool
decided (literal c) = Some (is_true c.value)
decided e = None

abbrev pub all_by : (a b : Option Bool) → (l r : Tree Place) → Tree Place
all_by (Some true) b l r = r
all_by (Some false) b l r = l
all_by None (Some true) l r = l
all_by None (Some false) l r = r
all_by None None l r = binary And l r

abbrev pub any_by : (a b : Option Bool) → (l r : Tree Place) → Tree Place
any_by (Some true) b l r = l
any_by (Some false) b l r = r
any_by None (Some true) l r = r
any_by None (Some false) l r = l
any_by None None l r = binary Or l r

-- the AND of two predicates, without those that are literals
unfoldable pub all_of : (l r : Tree Place) → Tree Place
all_of l r = all_by (decided l) (decided r) l r

-- and the OR
unfoldable pub any_of : (l r : Tree Place) → Tree Place
any_of l r = any_by (decided l) (decided r) l r

abbrev pub connected : (is_and : Bool) → (l r : Tree Place) → Tree Place
connected true l r = all_of l r
connected false l r = any_of l r

-- ---- LIKE

-- runs alone
abbrev pub are_runs : List Item → Bool
are_runs [] = true
are_runs (Char c ∷ is) = false
are_runs (AnyChar ∷ is) = false
are_runs (AnyRun ∷ is) = are_runs is

-- literal characters alone, and one run or more behind them
abbrev pub is_beginning : List Item → Bool
is_beginning [] = false
is_beginning (Char c ∷ is) = is_beginning is
is_beginning (AnyChar ∷ is) = false
is_beginning (AnyRun ∷ is) = are_runs is

-- the last character has a next one, so that no text lies between those that begin with this one and its successor
abbrev pub is_last_raised : List ℕ → Bool
is_last_raised [] = false
is_last_raised (c ∷ []) = has_next c
is_last_raised (c ∷ d ∷ cs) = is_last_raised (d ∷ cs)

-- a text is this one, or it isn't
abbrev pub same_text : (wanted : Bool) → (text : Tree Place) → List ℕ → Tree Place
same_text w x bs = comparison (operator_as w Eq) x (bytes_literal bs)

-- a text is at least the one and below the other, or it isn't
abbrev pub text_range : (wanted : Bool) → (text : Tree Place) → (from below : List ℕ) → Tree Place
text_range w x from below = connected w (comparison (operator_as w Gte) x (bytes_literal from)) (comparison (operator_as w Lt) x (bytes_literal below))

-- a text begins with these characters, whose successor is given, or it doesn't
abbrev pub begins : (wanted : Bool) → (text : Tree Place) → List ℕ → Option (List ℕ) → Option (Tree Place)
begins w x cs None = None
begins w x cs (Some ds) = Some (text_range w x (encode_utf8_all cs) (encode_utf8_all ds))

-- each text matches runs alone, and none fails to: there is a text, or never
abbrev pub any_text : (wanted : Bool) → (text : Tree Place) → Tree Place
any_text true x = settled (is_not_null x)
any_text false x = bool_literal false

-- a text matches these items or it doesn't, as comparisons or a test of null, where they say the same: the items have no wildcard, or runs alone, or no wildcard but runs, which are last
abbrev pub items_matched : (wanted : Bool) → (text : Tree Place) → List Item → Option (Tree Place)
items_matched w x is =
    if is_exact is then Some (same_text w x (encode_utf8_all (literal_prefix is)))
    else (if are_runs is then Some (any_text w x)
    else (if is_beginning is && is_last_raised (literal_prefix is) then begins w x (literal_prefix is) (successor (literal_prefix is)) else None))

abbrev pub text_matched : (wanted : Bool) → (text : Tree Place) → (pattern : Option (List ℕ)) → Option (Tree Place)
text_matched w x None = None
text_matched w x (Some bs) = items_matched w x (items (chars bs))

-- a LIKE that regards case as comparisons, where they say the same
abbrev pub as_comparisons : LikeOptions → (text pattern : Tree Place) → Option (Tree Place)
as_comparisons o x p = if o.case_insensitive then None else text_matched (not_b o.negated) x (text_in p)

abbrev pub given_or : Option (Tree Place) → Tree Place → Tree Place
given_or (Some e) f = e
given_or None f = f

unfoldable pub liked : LikeOptions → (text pattern : Tree Place) → Tree Place
liked o x p = if is_null_literal x || is_null_literal p then bool_literal false else given_or (as_comparisons o x p) (settled (like o x p))

abbrev pub like_as : (wanted : Bool) → LikeOptions → LikeOptions
like_as true o = o
like_as false o = record { negated = not_b o.negated; case_insensitive = o.case_insensitive }

-- ---- the whole

-- a comparison or a connective, from its operands and those pushed down
abbrev pub pushed_binary : (wanted : Bool) → Operator → (l r pushed_l pushed_r : Tree Place) → Tree Place
pushed_binary w And l r a b = connected w a b
pushed_binary w Or l r a b = connected (not_b w) a b
pushed_binary w o l r a b = comparison (operator_as w o) l r

-- a BETWEEN: the AND of its comparisons, or the OR of them turned
abbrev pub pushed_between : (wanted : Bool) → BetweenOptions → (x l u : Tree Place) → Tree Place
pushed_between w o x l u =
    connected w (comparison (operator_as w (to_operator o.lower_strict)) l x) (comparison (operator_as w (to_operator o.upper_strict)) x u)

abbrev pub or_not : (wanted : Bool) → Tree Place → Tree Place
or_not true e = e
or_not false e = not e

-- a predicate that is satisfied where the given one has the wanted truth
abbrev pub pushed : (wanted : Bool) → Tree Place → Tree Place
pushed w (column c) = binary Eq (column c) (bool_literal w)
pushed w (literal c) = bool_literal (is_wanted w (truth c.value))
pushed w (binary o l r) = pushed_binary w o l r (pushed w l) (pushed w r)
pushed w (between o x l u) = pushed_between w o x l u
pushed w (is_null x) = null_test w x
pushed w (is_not_null x) = null_test (not_b w) x
pushed w (not x) = pushed (not_b w) x
pushed w (like o x p) = liked (like_as w o) x p
pushed w e = or_not w e
