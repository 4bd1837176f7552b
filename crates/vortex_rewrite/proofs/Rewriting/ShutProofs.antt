-- The proofs of the built-in rules have no column outside their placeholders.
use Rattle.std.proofs.Common.{◌≡◌, ◌||◌, ℕ, zero, suc, Bool, true, false, cond, List, [], ◌∷◌, Option, Some, None, length, refl, sym, ap, subst, append-nil, ◌∙◌}
use Rattle.std.specs.List.{AllByRecursion}
use Rattle.std.specs.Prelude.{option_map, option_to_list}
use Rattle.std.specs.Result.{is_ok}
use Rattle.std.specs.Str.{chars}
use Rattle.vortex_expr.specs.Trees.Between.{to_operator}
use Rattle.vortex_expr.specs.Patterns.Like.{items}
use Rattle.vortex_expr.specs.Patterns.Prefix.{is_exact, literal_prefix, successor}
use Rattle.vortex_expr.specs.Trees.Tree.{Tree, Place, column, literal, binary, between, is_null, is_not_null, not, like, stat, row_count, has_bare_column}
use Rattle.vortex_expr.specs.Meanings.Typing.{type_of}
use Rattle.vortex_base.specs.declared.aggregate.AggregateFnRef.{AggregateFnRef}
use Rattle.vortex_base.specs.declared.aggregate.AggregateFnRef.TheVariants.{Max, Min}
use Rattle.vortex_expr.specs.declared.scalar_fn.BetweenOptions.{BetweenOptions}
use Rattle.vortex_expr.specs.declared.like.LikeOptions.{LikeOptions}
use Rattle.vortex_expr.specs.declared.scalar_fn.Operator.{Operator}
use Rattle.vortex_expr.specs.declared.scalar_fn.Operator.TheVariants.{Eq, NotEq, Gt, Gte, Lt, Lte, And, Or}
use Rattle.vortex_base.specs.declared.scalar_value.ScalarValue.{ScalarValue}
use Rattle.vortex_base.specs.declared.scalar_value.ScalarValue.TheVariants as value
use Rattle.vortex_rewrite.specs.Rewriting.Falsifiers.{Ends, and_proof, binary_node, both_of, comparison_falsifier, comparison_proof, either_of, ends, ends_node, every_null, extreme, falsifier, halves_node, items_falsifier, like_falsifier, literal_falsifier, literal_satisfier, max_of, min_of, node, none_null, null_count_of, of_sides, or_proof, other_than, outside, pattern_falsifier, placeholder, proved, reduce_balanced, rewriting, round, rounds, satisfier, table_falsifiers, table_proofs, table_satisfiers, text_literal, value_condition, without_nulls}
use Rattle.vortex_rewrite.specs.Rewriting.BuiltIn.{opposite}
use Rattle.vortex_rewrite.specs.declared.rewrite.side.Side.{Side}
use Rattle.vortex_rewrite.specs.declared.rewrite.side.Side.TheVariants.{Falsify, Satisfy}
use Rattle.vortex_rewrite.proofs.Soundness.RowSatisfiers.{condition_is}
use Rattle.vortex_rewrite.specs.Rewriting.Proof.{is_open}

abbrev Shut : Tree Place → Type 0
Shut e = has_bare_column e ≡ false

-- there is no proof, or one without such a column
abbrev AreShut : Option (Tree Place) → Type 0
AreShut o = is_open o ≡ false

two_shut : (a b : Bool) → a ≡ false → b ≡ false → (a || b) ≡ false
two_shut true b h k = absurd cc
two_shut false b h k = k

-- ---- joins

round_shut : (ps : List (Tree Place)) → AllByRecursion Shut ps → AllByRecursion Shut (round ps)
round_shut [] h = tt
round_shut (p ∷ []) h = h
round_shut (p ∷ q ∷ ps) h = (two_shut (has_bare_column p) (has_bare_column q) h.0 h.1.0, round_shut ps h.1.1)

rounds_shut : (n : ℕ) (ps : List (Tree Place)) → AllByRecursion Shut ps → AreShut (rounds n ps)
rounds_shut n [] h = refl
rounds_shut n (p ∷ []) h = h.0
rounds_shut zero (p ∷ q ∷ ps) h = refl
rounds_shut (suc n) (p ∷ q ∷ ps) h = rounds_shut n (round (p ∷ q ∷ ps)) (round_shut (p ∷ q ∷ ps) h)

-- with no rule of a user the proofs at a node are the built-in ones
node_shut : (side : Side) (p : Tree Place) (ps : List (Tree Place)) → AllByRecursion Shut ps → AreShut (proved side [] p ps)
unfolding node reduce_balanced
node_shut side p ps h = subst (λ qs. AreShut (rounds (length qs) qs)) (sym (append-nil ps)) (rounds_shut (length ps) ps h)

option_shut : (o : Option (Tree Place)) → AreShut o → AllByRecursion Shut (option_to_list o)
option_shut None h = tt
option_shut (Some e) h = (h, tt)

one_shut : (side : Side) (p : Tree Place) (o : Option (Tree Place)) → AreShut o → AreShut (proved side [] p (option_to_list o))
one_shut side p o h = node_shut side p (option_to_list o) (option_shut o h)

both_shut : (o : Operator) (a b : Option (Tree Place)) → AreShut a → AreShut b → AreShut (both_of (binary o) a b)
both_shut o (Some a) (Some b) h k = two_shut (has_bare_column a) (has_bare_column b) h k
both_shut o (Some a) None h k = refl
both_shut o None b h k = refl

either_shut : (o : Operator) (a b : Option (Tree Place)) → AreShut a → AreShut b → AreShut (either_of (binary o) a b)
either_shut o (Some a) (Some b) h k = two_shut (has_bare_column a) (has_bare_column b) h k
either_shut o (Some a) None h k = h
either_shut o None b h k = k

-- ---- the rows of the tables

if_shut : (b : Bool) (e : Tree Place) → Shut e → AreShut (cond b (Some e) None)
if_shut true e h = h
if_shut false e h = refl

placeholder_shut : (f : AggregateFnRef) (x : Tree Place) → AreShut (placeholder f x)
placeholder_shut f x = if_shut (is_ok (type_of (stat f x))) (stat f x) refl

extreme_shut : (f : AggregateFnRef) (x : Tree Place) → AreShut (extreme f x)
extreme_shut f (literal c) = refl
extreme_shut f (column c) = placeholder_shut f (column c)
extreme_shut f (binary o l r) = placeholder_shut f (binary o l r)
extreme_shut f (between o x l u) = placeholder_shut f (between o x l u)
extreme_shut f (is_null x) = placeholder_shut f (is_null x)
extreme_shut f (is_not_null x) = placeholder_shut f (is_not_null x)
extreme_shut f (not x) = placeholder_shut f (not x)
extreme_shut f (like o x p) = placeholder_shut f (like o x p)
extreme_shut f (stat g x) = placeholder_shut f (stat g x)
extreme_shut f row_count = placeholder_shut f row_count

compared_shut : (o : Operator) (f g : AggregateFnRef) (x y : Tree Place) → AreShut (both_of (binary o) (extreme f x) (extreme g y))
compared_shut o f g x y = both_shut o (extreme f x) (extreme g y) (extreme_shut f x) (extreme_shut g y)

comparison_shut : (o : Operator) (l r : Tree Place) → AreShut (comparison_falsifier o l r)
comparison_shut Eq l r = both_shut Or (both_of (binary Gt) (min_of l) (max_of r)) (both_of (binary Gt) (min_of r) (max_of l)) (compared_shut Gt Min Max l r) (compared_shut Gt Min Max r l)
comparison_shut NotEq l r = both_shut And (both_of (binary Eq) (min_of l) (max_of r)) (both_of (binary Eq) (max_of l) (min_of r)) (compared_shut Eq Min Max l r) (compared_shut Eq Max Min l r)
comparison_shut Gt l r = compared_shut Lte Max Min l r
comparison_shut Gte l r = compared_shut Lt Max Min l r
comparison_shut Lt l r = compared_shut Gte Min Max l r
comparison_shut Lte l r = compared_shut Gt Min Max l r
comparison_shut And l r = refl
comparison_shut Or l r = refl

without_nulls_shut : (x e : Tree Place) → Shut e → Shut (without_nulls x e)
without_nulls_shut (literal c) e h = h
without_nulls_shut x e h = two_shut (has_bare_column e) false h refl

satisfier_shut : (l r : Tree Place) (o : Option (Tree Place)) → AreShut o → AreShut (option_map (λ e. without_nulls r (without_nulls l e)) o)
satisfier_shut l r None h = refl
satisfier_shut l r (Some e) h = without_nulls_shut r (without_nulls l e) (without_nulls_shut l e h)

compared_either_way : (side : Side) (o : Operator) (l r : Tree Place) → AreShut (comparison_proof side o l r)
compared_either_way Falsify o l r = comparison_shut o l r
compared_either_way Satisfy o l r = satisfier_shut l r (value_condition o l r) (ap is_open (condition_is o l r) ∙ comparison_shut (opposite o) l r)

truth_shut : (v : Option ScalarValue) → AreShut (literal_falsifier v) × AreShut (literal_satisfier v)
truth_shut None = (refl, refl)
truth_shut (Some (value.Bool b)) = (refl, refl)
truth_shut (Some (value.Primitive p)) = (refl, refl)
truth_shut (Some (value.Utf8 bs)) = (refl, refl)
truth_shut (Some (value.Binary bs)) = (refl, refl)

null_count_shut : (x : Tree Place) → Shut (null_count_of x)
null_count_shut (literal c) = refl
null_count_shut (column c) = refl
null_count_shut (binary o l r) = refl
null_count_shut (between o x l u) = refl
null_count_shut (is_null x) = refl
null_count_shut (is_not_null x) = refl
null_count_shut (not x) = refl
null_count_shut (like o x p) = refl
null_count_shut (stat g x) = refl
null_count_shut row_count = refl

none_null_shut : (x : Tree Place) → AllByRecursion Shut (none_null x)
none_null_shut x = (two_shut (has_bare_column (null_count_of x)) false (null_count_shut x) refl, (refl, tt))

every_null_shut : (x : Tree Place) → AllByRecursion Shut (every_null x)
every_null_shut x = (two_shut (has_bare_column (null_count_of x)) false (null_count_shut x) refl, (refl, tt))

beyond_shut : (o : Operator) (x : Tree Place) (cs ds : List ℕ)
    → AreShut (both_of (binary Or) (both_of (binary o) (min_of x) (Some (text_literal cs))) (both_of (binary Lt) (max_of x) (Some (text_literal ds))))
beyond_shut o x cs ds =
    both_shut Or (both_of (binary o) (min_of x) (Some (text_literal cs))) (both_of (binary Lt) (max_of x) (Some (text_literal ds)))
    (both_shut o (min_of x) (Some (text_literal cs)) (extreme_shut Min x) refl) (both_shut Lt (max_of x) (Some (text_literal ds)) (extreme_shut Max x) refl)

outside_shut : (x : Tree Place) (cs : List ℕ) (o : Option (List ℕ)) → AreShut (outside x cs o)
outside_shut x cs None = refl
outside_shut x cs (Some ds) = beyond_shut Gte x ds cs

chosen_shut : (b : Bool) (o u : Option (Tree Place)) → AreShut o → AreShut u → AreShut (cond b o u)
chosen_shut true o u h k = h
chosen_shut false o u h k = k

pattern_shut : (o : LikeOptions) (x : Tree Place) (v : Option ScalarValue) → AreShut (pattern_falsifier o x v)
pattern_shut o x None = refl
pattern_shut o x (Some (value.Bool b)) = refl
pattern_shut o x (Some (value.Primitive p)) = refl
pattern_shut o x (Some (value.Binary bs)) = refl
pattern_shut o x (Some (value.Utf8 bs)) =
    let is = items (chars bs) in
    let cs = literal_prefix is in
    let read = chosen_shut (is_exact is) (other_than x cs) (outside x cs (successor cs)) (beyond_shut Gt x cs cs) (outside_shut x cs (successor cs)) in
    chosen_shut o.negated None (cond o.case_insensitive None (items_falsifier x is)) refl (chosen_shut o.case_insensitive None (items_falsifier x is) refl read)

like_shut : (o : LikeOptions) (x p : Tree Place) → AreShut (like_falsifier o x p)
like_shut o x (literal c) = pattern_shut o x c.value
like_shut o x (column c) = refl
like_shut o x (binary f l r) = refl
like_shut o x (between f y l u) = refl
like_shut o x (is_null y) = refl
like_shut o x (is_not_null y) = refl
like_shut o x (not y) = refl
like_shut o x (like f y q) = refl
like_shut o x (stat g y) = refl
like_shut o x row_count = refl

-- ---- the proofs

and_shut : (side : Side) (a b : Option (Tree Place)) → AreShut a → AreShut b → AreShut (and_proof side a b)
and_shut Falsify a b h k = either_shut Or a b h k
and_shut Satisfy a b h k = both_shut And a b h k

or_shut : (side : Side) (a b : Option (Tree Place)) → AreShut a → AreShut b → AreShut (or_proof side a b)
or_shut Falsify a b h k = both_shut And a b h k
or_shut Satisfy a b h k = either_shut Or a b h k

sides_shut : (side : Side) (o : Operator) (l r : Tree Place) (a b : Option (Tree Place)) → AreShut a → AreShut b → AreShut (of_sides side o l r a b)
sides_shut side And l r a b h k = and_shut side a b h k
sides_shut side Or l r a b h k = or_shut side a b h k
sides_shut side Eq l r a b h k = compared_either_way side Eq l r
sides_shut side NotEq l r a b h k = compared_either_way side NotEq l r
sides_shut side Gt l r a b h k = compared_either_way side Gt l r
sides_shut side Gte l r a b h k = compared_either_way side Gte l r
sides_shut side Lt l r a b h k = compared_either_way side Lt l r
sides_shut side Lte l r a b h k = compared_either_way side Lte l r

binary_shut : (side : Side) (o : Operator) (l r : Tree Place) (a b : Option (Tree Place)) → AreShut a → AreShut b → AreShut (binary_node side [] o l r a b)
binary_shut side o l r a b h k = one_shut side (binary o l r) (of_sides side o l r a b) (sides_shut side o l r a b h k)

halves_shut : (side : Side) (o : BetweenOptions) (x l u : Tree Place) → AreShut (halves_node side [] o x l u)
halves_shut side o x l u =
    binary_shut side And (binary (to_operator o.lower_strict) l x) (binary (to_operator o.upper_strict) x u)
    (binary_node side [] (to_operator o.lower_strict) l x None None) (binary_node side [] (to_operator o.upper_strict) x u None None)
    (binary_shut side (to_operator o.lower_strict) l x None None refl refl) (binary_shut side (to_operator o.upper_strict) x u None None refl refl)

ends_shut : (side : Side) (x : Tree Place) (es : Option Ends) → AreShut (ends_node side [] x es)
ends_shut Falsify x None = refl
ends_shut Satisfy x None = refl
ends_shut side x (Some e) = halves_shut side e.options x e.lower e.upper

falsifiers_shut : (p : Tree Place) → AllByRecursion Shut (table_falsifiers p)
falsifiers_shut (literal c) = option_shut (literal_falsifier c.value) (truth_shut c.value).0
falsifiers_shut (is_null x) = none_null_shut x
falsifiers_shut (is_not_null x) = every_null_shut x
falsifiers_shut (like o x p) = option_shut (like_falsifier o x p) (like_shut o x p)
falsifiers_shut p = tt

satisfiers_shut : (p : Tree Place) → AllByRecursion Shut (table_satisfiers p)
satisfiers_shut (literal c) = option_shut (literal_satisfier c.value) (truth_shut c.value).1
satisfiers_shut (is_null x) = every_null_shut x
satisfiers_shut (is_not_null x) = none_null_shut x
satisfiers_shut p = tt

table_shut : (side : Side) (p : Tree Place) → AreShut (proved side [] p (table_proofs side p))
table_shut Falsify p = node_shut Falsify p (table_falsifiers p) (falsifiers_shut p)
table_shut Satisfy p = node_shut Satisfy p (table_satisfiers p) (satisfiers_shut p)

rewriting_shut : (side : Side) (p : Tree Place) → AreShut (rewriting side [] p)
rewriting_shut side (column c) = refl
rewriting_shut side (literal c) = table_shut side (literal c)
rewriting_shut side (binary o l r) = binary_shut side o l r (rewriting side [] l) (rewriting side [] r) (rewriting_shut side l) (rewriting_shut side r)
rewriting_shut side (between o x l u) = one_shut side (between o x l u) (ends_node side [] x (ends o l u)) (ends_shut side x (ends o l u))
rewriting_shut side (is_null x) = table_shut side (is_null x)
rewriting_shut side (is_not_null x) = table_shut side (is_not_null x)
rewriting_shut side (not x) = table_shut side (not x)
rewriting_shut side (like o x p) = table_shut side (like o x p)
rewriting_shut side (stat f x) = table_shut side (stat f x)
rewriting_shut side row_count = table_shut side row_count

pub built_in_is_shut : (p : Tree Place) → is_open (falsifier [] p) ≡ false
built_in_is_shut p = rewriting_shut Falsify p

pub built_in_satisfier_is_shut : (p : Tree Place) → is_open (satisfier [] p) ≡ false
built_in_satisfier_is_shut p = rewriting_shut Satisfy p
