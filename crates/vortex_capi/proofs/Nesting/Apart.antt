-- Joining in halves keeps whether bounds decide a predicate.
use Rattle.std.proofs.Common.{◌≡◌, ◌==◌, ℕ, Bool, true, false, ◌&&◌, ◌||◌, not as not_b, List, [], ◌∷◌, ◌++◌, Option, Some, None, is_some, refl, ap, ap₂, sym, ◌∙◌, append_assoc, append-nil}
use Rattle.vortex_expr.specs.Trees.Tree.{Tree, Place, column, literal, binary, between}
use Rattle.vortex_expr.specs.declared.scalar_fn.BetweenOptions.{BetweenOptions}
use Rattle.vortex_expr.specs.declared.scalar_fn.Operator.{Operator}
use Rattle.vortex_rewrite.specs.Rewriting.ReadOnce.{are_apart, are_distinct, are_sides_apart, columns_of, has_index, has_disjoint_ands, is_binary_apart, is_operand, is_range, is_simple, is_simple_binary}
use Rattle.vortex_expr.specs.Trees.Connectives.{operator_of}
use Rattle.vortex_capi.specs.Nesting.Halves.{halved}
use Rattle.vortex_capi.proofs.Nesting.Values.{kept}

-- ---- the leaves that a node sees

abbrev leaf : Tree Place → Option (Tree Place)
leaf (column c) = Some (column c)
leaf (literal c) = Some (literal c)
leaf e = None

abbrev leaf_operand : Option (Tree Place) → Bool
leaf_operand (Some (column c)) = true
leaf_operand (Some (literal c)) = is_some c.value
leaf_operand e = false

operand_told : (e : Tree Place) → is_operand e ≡ leaf_operand (leaf e)
operand_told (column c) = refl
operand_told (literal c) = refl
operand_told e = refl

abbrev leaf_range : BetweenOptions → (x lower upper : Option (Tree Place)) → Bool
leaf_range o (Some (column c)) (Some (literal d)) (Some (literal e)) = is_range o (column c) (literal d) (literal e)
leaf_range o x l u = false

range_told : (o : BetweenOptions) (x l u : Tree Place) → is_range o x l u ≡ leaf_range o (leaf x) (leaf l) (leaf u)
range_told o (column c) (literal d) (literal e) = refl
range_told o x l u = refl

-- ---- a tree of AND and OR over comparisons

and_assoc : (a b c : Bool) → ((a && b) && c) ≡ (a && (b && c))
and_assoc true b c = refl
and_assoc false b c = refl

and_true : (a : Bool) → (a && true) ≡ a
and_true true = refl
and_true false = refl

abbrev Simple : Type 0
Simple = Option (Tree Place) × Bool

abbrev simple : Tree Place → Simple
simple e = (leaf e, is_simple e)

simple_joins : (w : Bool) (a b : Tree Place) → simple (binary (operator_of w) a b) ≡ (None, is_simple a && is_simple b)
simple_joins true a b = refl
simple_joins false a b = refl

-- what a comparison or a connective, and a BETWEEN, make of their operands
abbrev simple_binary : Operator → Simple → Simple → Simple
simple_binary o a b = (None, is_simple_binary o (a.1 && b.1) (leaf_operand a.0 && leaf_operand b.0))

binary_told : (o : Operator) (l r : Tree Place) → simple (binary o l r) ≡ simple_binary o (simple l) (simple r)
binary_told o l r = ap₂ (λ a b. let made : Simple = (None, is_simple_binary o (is_simple l && is_simple r) (a && b)) in made) (operand_told l) (operand_told r)

abbrev simple_between : BetweenOptions → Simple → Simple → Simple → Simple
simple_between o x l u = (None, leaf_range o x.0 l.0 u.0)

between_told : (o : BetweenOptions) (x l u : Tree Place) → simple (between o x l u) ≡ simple_between o (simple x) (simple l) (simple u)
between_told o x l u = ap (λ a. let made : Simple = (None, a) in made) (range_told o x l u)

same_simple : (e : Tree Place) → simple (halved e) ≡ simple e
same_simple e =
    kept simple (λ a. a.1) (λ a. (None, a)) (λ w. ◌&&◌) (λ w. true) (λ w. and_assoc) (λ w a. refl) (λ w. and_true) (λ a. refl) simple_joins
    (λ o l r m s h k. binary_told o m s ∙ ap₂ (simple_binary o) h k ∙ sym (binary_told o l r))
    (λ o x l u y m v h i j. between_told o y m v ∙ ap (λ a. simple_between o a (simple m) (simple v)) h ∙ ap₂ (simple_between o (simple x)) i j ∙ sym (between_told o x l u))
    (λ x y h. refl) (λ x y h. refl) (λ x y h. refl) (λ o x p y q h k. refl) (λ f x y h. refl)
    e

-- ---- the sides of each AND have no column in common

has_append : (i : ℕ) (cs ds : List Place) → has_index i (cs ++ ds) ≡ (has_index i cs || has_index i ds)
has_append i [] ds = refl
has_append i (c ∷ cs) ds = ap (λ b. (i == c.index) || b) (has_append i cs ds) ∙ sym (or_assoc (i == c.index) (has_index i cs) (has_index i ds))
  where
    or_assoc : (a b c : Bool) → ((a || b) || c) ≡ (a || (b || c))
    or_assoc true b c = refl
    or_assoc false b c = refl

apart_left : (cs ds es : List Place) → are_apart (cs ++ ds) es ≡ (are_apart cs es && are_apart ds es)
apart_left [] ds es = refl
apart_left (c ∷ cs) ds es = ap (λ b. not_b (has_index c.index es) && b) (apart_left cs ds es) ∙ sym (and_assoc (not_b (has_index c.index es)) (are_apart cs es) (are_apart ds es))

turned : (p q r d : Bool) → (not_b (p || q) && (r && d)) ≡ ((not_b p && r) && (not_b q && d))
turned true true true d = refl
turned true true false d = refl
turned true false true d = refl
turned true false false d = refl
turned false true true d = refl
turned false true false d = refl
turned false false true d = refl
turned false false false d = refl

apart_right : (cs ds es : List Place) → are_apart cs (ds ++ es) ≡ (are_apart cs ds && are_apart cs es)
apart_right [] ds es = refl
apart_right (c ∷ cs) ds es =
    ap₂ (λ a b. not_b a && b) (has_append c.index ds es) (apart_right cs ds es)
    ∙ turned (has_index c.index ds) (has_index c.index es) (are_apart cs ds) (are_apart cs es)

apart_none : (cs : List Place) → are_apart cs [] ≡ true
apart_none [] = refl
apart_none (c ∷ cs) = apart_none cs

shuffled : (p q r a b c : Bool) → ((p && q) && ((r && (a && b)) && c)) ≡ ((r && p) && (a && (q && (b && c))))
shuffled true true true true b c = refl
shuffled true true true false b c = refl
shuffled true true false true b c = refl
shuffled true true false false b c = refl
shuffled true false true true b c = refl
shuffled true false true false b c = refl
shuffled true false false true b c = refl
shuffled true false false false b c = refl
shuffled false true true true b c = refl
shuffled false true true false b c = refl
shuffled false true false true b c = refl
shuffled false true false false b c = refl
shuffled false false true true b c = refl
shuffled false false true false b c = refl
shuffled false false false true b c = refl
shuffled false false false false b c = refl

abbrev Sides : Type 0
Sides = List Place × Bool

abbrev sides : Tree Place → Sides
sides e = (columns_of e, are_sides_apart e)

abbrev both_sides : Bool → Sides → Sides → Sides
both_sides true l r = (l.0 ++ r.0, are_apart l.0 r.0 && (l.1 && r.1))
both_sides false l r = (l.0 ++ r.0, l.1 && r.1)

abbrev paired : List Place → Bool → Sides
paired cs b = (cs, b)

sides_assoc : (w : Bool) (a b c : Sides) → both_sides w (both_sides w a b) c ≡ both_sides w a (both_sides w b c)
sides_assoc true a b c =
    ap₂ paired (append_assoc a.0 b.0 c.0)
    (ap (λ p. p && ((are_apart a.0 b.0 && (a.1 && b.1)) && c.1)) (apart_left a.0 b.0 c.0)
    ∙ shuffled (are_apart a.0 c.0) (are_apart b.0 c.0) (are_apart a.0 b.0) a.1 b.1 c.1
    ∙ sym (ap (λ p. p && (a.1 && (are_apart b.0 c.0 && (b.1 && c.1)))) (apart_right a.0 b.0 c.0)))
sides_assoc false a b c = ap₂ paired (append_assoc a.0 b.0 c.0) (and_assoc a.1 b.1 c.1)

sides_left : (w : Bool) (a : Sides) → both_sides w ([], true) a ≡ a
sides_left true a = refl
sides_left false a = refl

sides_right : (w : Bool) (a : Sides) → both_sides w a ([], true) ≡ a
sides_right true a = ap₂ paired (append-nil a.0) (ap₂ ◌&&◌ (apart_none a.0) (and_true a.1))
sides_right false a = ap₂ paired (append-nil a.0) (and_true a.1)

sides_join : (w : Bool) (a b : Tree Place) → sides (binary (operator_of w) a b) ≡ both_sides w (sides a) (sides b)
sides_join true a b = refl
sides_join false a b = refl

abbrev distinct : List Place → Sides
distinct cs = (cs, are_distinct cs)

same_sides : (e : Tree Place) → sides (halved e) ≡ sides e
same_sides e =
    kept sides (λ a. a) (λ a. a) both_sides (λ w. ([], true)) sides_assoc sides_left sides_right (λ a. refl) sides_join
    (λ o l r m s h k. ap₂ (λ (a b : Sides). paired (a.0 ++ b.0) (is_binary_apart o a.0 b.0 (a.1 && b.1))) h k)
    (λ o x l u y m v h i j. ap₂ (λ (a : Sides) (cs : List Place). distinct (a.0 ++ cs)) h (ap₂ (λ (b d : Sides). b.0 ++ d.0) i j))
    (λ x y h. ap (λ (a : Sides). distinct a.0) h)
    (λ x y h. ap (λ (a : Sides). distinct a.0) h)
    (λ x y h. ap (λ (a : Sides). distinct a.0) h)
    (λ o x p y q h k. ap₂ (λ (a b : Sides). distinct (a.0 ++ b.0)) h k)
    (λ f x y h. refl)
    e

-- ---- what follows

pub same_columns_of : (e : Tree Place) → columns_of (halved e) ≡ columns_of e
same_columns_of e = ap (λ (a : Sides). a.0) (same_sides e)

pub same_apart : (e : Tree Place) → has_disjoint_ands (halved e) ≡ has_disjoint_ands e
same_apart e = ap₂ (λ (a : Simple) (b : Sides). a.1 && b.1) (same_simple e) (same_sides e)
