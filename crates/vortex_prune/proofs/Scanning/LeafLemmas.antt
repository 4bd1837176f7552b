-- A comparison with its sides changed about is true of the same values, and two comparisons of one column are true where its value lies between their ends.
use Rattle.std.proofs.Common.{◌≡◌, ℕ, Bool, true, false, List, Option, Some, None, ap, refl, sym, ◌∙◌}
use Rattle.std.specs.Prelude.{◌&&◌}
use Rattle.vortex_base.specs.Data.Columns.{ColumnData, row_of}
use Rattle.vortex_base.specs.Data.Values.{value_cmp}
use Rattle.vortex_expr.specs.Meanings.Meaning.{compared, holds, meaning, satisfies}
use Rattle.vortex_expr.specs.Trees.Between.{to_operator}
use Rattle.vortex_expr.specs.Trees.Tree.{Tree, Place, between, binary}
use Rattle.vortex_expr.specs.declared.scalar_fn.BetweenOptions.{BetweenOptions}
use Rattle.vortex_base.specs.declared.scalar_value.ScalarValue.{ScalarValue}
use Rattle.vortex_expr.specs.declared.scalar_fn.Operator.{Operator}
use Rattle.vortex_expr.specs.declared.scalar_fn.Operator.TheVariants.{Eq, NotEq, Gt, Gte, Lt, Lte, And, Or}
use Rattle.vortex_prune.proofs.ZoneMaps.ZoneMarks.{both_true}
use Rattle.vortex_prune.specs.Scanning.Gaps.{AreSides, IsBeside, IsSideOf, side_passes}
use Rattle.vortex_prune.specs.Scanning.Leaves.{IsBetween, IsColumnOf, compares, swapped}
use Rattle.vortex_prune.specs.declared.scan.leaf.Ends.{Ends}
use Rattle.vortex_prune.specs.declared.scan.sides.Side.{Side}
use Rattle.vortex_rewrite.proofs.Soundness.TruthLogic.{true_and}
use Rattle.vortex_rewrite.proofs.Soundness.ValueTests.{by_le, holds_by_le, value_le}

by_le_swapped : (o : Operator) (a b : Bool) → by_le (swapped o) a b ≡ by_le o b a
by_le_swapped Eq true true = refl
by_le_swapped Eq true false = refl
by_le_swapped Eq false true = refl
by_le_swapped Eq false false = refl
by_le_swapped NotEq true true = refl
by_le_swapped NotEq true false = refl
by_le_swapped NotEq false true = refl
by_le_swapped NotEq false false = refl
by_le_swapped Gt a b = refl
by_le_swapped Gte a b = refl
by_le_swapped Lt a b = refl
by_le_swapped Lte a b = refl
by_le_swapped And a b = refl
by_le_swapped Or a b = refl

holds_swapped : (o : Operator) (x y : ScalarValue) → holds o (value_cmp x y) ≡ holds (swapped o) (value_cmp y x)
holds_swapped o x y = holds_by_le o x y ∙ sym (by_le_swapped o (value_le y x) (value_le x y)) ∙ sym (holds_by_le (swapped o) y x)

pub compares_swapped : (o : Operator) (a b : Option ScalarValue) → compares o a b ≡ compares (swapped o) b a
compares_swapped o None None = refl
compares_swapped o None (Some y) = refl
compares_swapped o (Some x) None = refl
compares_swapped o (Some x) (Some y) = holds_swapped o x y

-- ---- two comparisons

and_turned : (a b : Bool) → (a && b) ≡ (b && a)
and_turned true true = refl
and_turned true false = refl
and_turned false true = refl
and_turned false false = refl

-- the ends that two sides are
abbrev pub side_ends : (low high : Side) → Ends
side_ends a b = record { column = a.column; lower = a.operator; low = a.value; upper = b.operator; high = b.value }

-- of one column, two sides are both true where its value lies between their ends
pub between_sides : (cs : List ColumnData) (a b : Side) → a.operand.now ≡ b.operand.now → IsColumnOf cs a.operand.now a.column.now → AreSides cs a b (side_ends a b)
between_sides cs a b same is r n =
    ap (λ (e : Tree Place). side_passes a (meaning a.operand.now (row_of r cs) n) && side_passes b (meaning e (row_of r cs) n)) (sym same) ∙ ap (λ x. side_passes a x && side_passes b x) (is r n)

-- so says an AND of two expressions that are true where they are
both_sides : (cs : List ColumnData) (e l r : Tree Place) (a b : Side) → e ≡ binary And l r → IsSideOf cs l a → IsSideOf cs r b → (i n : ℕ)
    → satisfies e (row_of i cs) n ≡ (side_passes a (meaning a.operand.now (row_of i cs) n) && side_passes b (meaning b.operand.now (row_of i cs) n))
both_sides cs e l r a b is h k i n =
    let row = row_of i cs in
    ap (λ (x : Tree Place). satisfies x row n) is
    ∙ true_and (meaning l row n) (meaning r row n)
    ∙ ap (λ y. y && satisfies r row n) (h.told row n)
    ∙ ap (λ y. side_passes a (meaning a.operand.now row n) && y) (k.told row n)

pub between_and : (cs : List ColumnData) (e l r : Tree Place) (a b : Side) (ends : Ends) → e ≡ binary And l r → IsSideOf cs l a → IsSideOf cs r b → AreSides cs a b ends → IsBetween cs e ends
between_and cs e l r a b ends is h k both i n = both_sides cs e l r a b is h k i n ∙ both i n

-- with the lower end behind the upper one
pub between_turned : (cs : List ColumnData) (e l r : Tree Place) (a b : Side) (ends : Ends) → e ≡ binary And l r → IsSideOf cs l a → IsSideOf cs r b → AreSides cs b a ends → IsBetween cs e ends
between_turned cs e l r a b ends is h k both i n =
    both_sides cs e l r a b is h k i n ∙ and_turned (side_passes a (meaning a.operand.now (row_of i cs) n)) (side_passes b (meaning b.operand.now (row_of i cs) n)) ∙ both i n

-- and a BETWEEN
pub between_literals : (cs : List ColumnData) (e x l u : Tree Place) (o : BetweenOptions) (p q : Operator) (a b : Side) (ends : Ends) → e ≡ between o x l u → p ≡ to_operator o.lower_strict → q ≡ to_operator o.upper_strict
    → IsBeside cs p l x a → IsBeside cs q x u b → AreSides cs a b ends → IsBetween cs e ends
between_literals cs e x l u o p q a b ends is low high at_low at_high both r n =
    let row = row_of r cs in
    ap (λ (y : Tree Place). satisfies y row n) is
    ∙ both_true (compared (to_operator o.lower_strict) (meaning l row n) (meaning x row n)) (compared (to_operator o.upper_strict) (meaning x row n) (meaning u row n))
    ∙ ap (λ y. compares y (meaning l row n) (meaning x row n) && compares (to_operator o.upper_strict) (meaning x row n) (meaning u row n)) (sym low)
    ∙ ap (λ y. compares p (meaning l row n) (meaning x row n) && compares y (meaning x row n) (meaning u row n)) (sym high)
    ∙ ap (λ y. y && compares q (meaning x row n) (meaning u row n)) (at_low.told row n)
    ∙ ap (λ y. side_passes a (meaning a.operand.now row n) && y) (at_high.told row n)
    ∙ both r n
