-- Tests of a row's values, of which one after another is passed by greater values alone: the gaps between the values of a set, into one of which a zone's bounds fall, and the spans of a set, none of which holds them.
use Rattle.std.specs.Prelude.{◌≡◌, ◌≤◌, ◌<◌, ◌+◌, ℕ, Bool, true, false, not as not_b, ◌&&◌, ◌||◌, List, [], ◌∷◌, ◌++◌, length, Option, Some, None, IfSome, slice_get, slice_index_or}
use Rattle.std.specs.List.{All, list_all}
use Rattle.std.specs.Ordering.{is_gt}
use Rattle.vortex_base.specs.Data.ArrayData.{value_of}
use Rattle.vortex_base.specs.Data.Columns.{ColumnData, row_of, value_at}
use Rattle.vortex_base.specs.Data.Scalars.{Constant}
use Rattle.vortex_base.specs.Data.Values.{value_cmp}
use Rattle.vortex_base.specs.declared.scalar_value.ScalarValue.{ScalarValue}
use Rattle.vortex_expr.specs.Meanings.Meaning.{is_true, meaning, satisfies}
use Rattle.vortex_expr.specs.Trees.Tree.{Tree, Place, binary}
use Rattle.vortex_expr.specs.declared.scalar_fn.Operator.{Operator}
use Rattle.vortex_expr.specs.declared.scalar_fn.Operator.TheVariants as operator
use Rattle.vortex_prune.specs.Scanning.Leaves.{IsColumnOf, compares, lies_at}
use Rattle.vortex_prune.specs.Scanning.Marks.{count_at, is_true_at, marked}
use Rattle.vortex_prune.specs.declared.scan.gaps.Gap.{Gap}
use Rattle.vortex_prune.specs.declared.scan.leaf.Ends.{Ends}
use Rattle.vortex_prune.specs.declared.scan.sides.Flag.{Flag}
use Rattle.vortex_prune.specs.declared.scan.sides.Side.{Side}
use Rattle.vortex_prune.specs.declared.scan.marks.Counts.{Counts}

-- true of a value and then of each above it, or below it
abbrev pub is_rising : Operator → Bool
is_rising operator.Gt = true
is_rising operator.Gte = true
is_rising o = false

abbrev pub is_falling : Operator → Bool
is_falling operator.Lt = true
is_falling operator.Lte = true
is_falling o = false

-- the comparison that no value above an upper end meets
abbrev pub upper : Operator → Operator
upper operator.Lt = operator.Lt
upper o = operator.Lte

-- a comparison with an upper end, or with a single value
abbrev pub is_end : Operator → Bool
is_end operator.Eq = true
is_end operator.Lt = true
is_end operator.Lte = true
is_end o = false

-- a comparison is true of an optional value
abbrev pub side_passes : Side → Option ScalarValue → Bool
side_passes s x = compares s.operator x (Some (value_of s.value))

-- ---- gaps

-- a gap without a flag has two comparisons, of which one has to be true; with one it is beside a span, so that both and the flag mustn't be
abbrev pub passes_by : Option Flag → (above below set : Bool) → Bool
passes_by None a b s = a || b
passes_by (Some f) a b s = not_b (a && (b && s))

abbrev pub gap_passes : Gap → (x y z : Option ScalarValue) → Bool
gap_passes g x y z = passes_by g.flag (side_passes g.above x) (side_passes g.below y) (is_true z)

-- the first value alone shows that the gap is passed
abbrev pub past_by : Option Flag → Side → Option ScalarValue → Bool
past_by None s x = side_passes s x
past_by (Some f) s x = not_b (compares (upper s.operator) x (Some (value_of s.value)))

abbrev pub is_past : Gap → Option ScalarValue → Bool
is_past g x = past_by g.flag g.above x

abbrev pub IsSure : Gap → Type 0
IsSure g = (x y z : Option ScalarValue) → is_past g x ≡ true → gap_passes g x y z ≡ true

-- the flag's expression, and what it is worth on a row
abbrev pub flag_tree : Option Flag → Option (Tree Place)
flag_tree None = None
flag_tree (Some f) = Some f.operand.now

abbrev pub worth : Option (Tree Place) → List Constant → ℕ → Option ScalarValue
worth None row n = None
worth (Some e) row n = meaning e row n

-- the gap is passed by its operands on a row
abbrev pub is_gap_true : List Constant → ℕ → Gap → Bool
is_gap_true row n g = gap_passes g (meaning g.above.operand.now row n) (meaning g.below.operand.now row n) (worth (flag_tree g.flag) row n)

-- so is each gap
abbrev pub are_true_at : List Gap → List ColumnData → Counts → ℕ → Bool
are_true_at gs cs counts r = list_all (is_gap_true (row_of r cs) (count_at counts r)) gs

-- of three columns' values at a place each gap passes
abbrev pub are_passed_at : List Gap → (x y z : ColumnData) → ℕ → Bool
are_passed_at gs x y z r = list_all (λ g. gap_passes g (value_at (slice_get x.values r)) (value_at (slice_get y.values r)) (value_at (slice_get z.values r))) gs

-- ---- expressions that are gaps

-- an expression is true where the comparison is, on the rows of some columns, and the operand is one of them
pub record IsSideOf (cs : List ColumnData) (e : Tree Place) (s : Side) : Type 0 where
  pub told : (row : List Constant) (n : ℕ) → satisfies e row n ≡ side_passes s (meaning s.operand.now row n)
  pub column : IsColumnOf cs s.operand.now s.column.now

-- two comparisons are both true on exactly those rows of some columns where a column's value lies between the ends
abbrev pub AreSides : List ColumnData → (first second : Side) → Ends → Type 0
AreSides cs a b ends = (r n : ℕ) → (side_passes a (meaning a.operand.now (row_of r cs) n) && side_passes b (meaning b.operand.now (row_of r cs) n)) ≡ lies_at ends r

-- a comparison of two expressions
pub record IsBeside (cs : List ColumnData) (o : Operator) (l r : Tree Place) (s : Side) : Type 0 where
  pub told : (row : List Constant) (n : ℕ) → compares o (meaning l row n) (meaning r row n) ≡ side_passes s (meaning s.operand.now row n)
  pub column : IsColumnOf cs s.operand.now s.column.now

-- the expression is the flag's column
pub record IsFlagOf (cs : List ColumnData) (e : Tree Place) (f : Flag) : Type 0 where
  pub is : f.operand.now ≡ e
  pub column : IsColumnOf cs f.operand.now f.column.now

-- the gap's operands are these expressions, which are columns, and it is passed where its first value alone shows it
pub record IsOn (cs : List ColumnData) (x y : Tree Place) (z : Option (Tree Place)) (g : Gap) : Type 0 where
  pub above : g.above.operand.now ≡ x
  pub below : g.below.operand.now ≡ y
  pub flag : flag_tree g.flag ≡ z
  pub above_column : IsColumnOf cs g.above.operand.now g.above.column.now
  pub below_column : IsColumnOf cs g.below.operand.now g.below.column.now
  pub flag_column : IfSome g.flag (λ f. IsColumnOf cs f.operand.now f.column.now)
  pub sure : IsSure g

abbrev pub IsOnItsOwn : List ColumnData → Gap → Type 0
IsOnItsOwn cs g = IsOn cs g.above.operand.now g.below.operand.now (flag_tree g.flag) g

-- either of two expressions is true where the gap is passed
pub record IsGapOf (cs : List ColumnData) (l r : Tree Place) (g : Gap) : Type 0 where
  pub told : (row : List Constant) (n : ℕ) → (satisfies l row n || satisfies r row n) ≡ is_gap_true row n g
  pub on : IsOnItsOwn cs g

-- not all of two expressions and a flag are true where it is
pub record IsBesideEnds (cs : List ColumnData) (l r f : Tree Place) (g : Gap) : Type 0 where
  pub told : (row : List Constant) (n : ℕ) → not_b (satisfies l row n && (satisfies r row n && satisfies f row n)) ≡ is_gap_true row n g
  pub on : IsOnItsOwn cs g

-- not both of two expressions are true where it is
pub record IsBesideSpan (cs : List ColumnData) (l r : Tree Place) (g : Gap) : Type 0 where
  pub told : (row : List Constant) (n : ℕ) → not_b (satisfies l row n && satisfies r row n) ≡ is_gap_true row n g
  pub on : IsOnItsOwn cs g

-- ---- gaps in order

-- a comparison is true wherever another one of the same operand is
abbrev pub Covers : (a b : Side) → Type 0
Covers a b = (a.operand.now ≡ b.operand.now) × ((x : Option ScalarValue) → side_passes b x ≡ true → side_passes a x ≡ true)

-- both comparisons are with one value
pub record IsPoint (g : Gap) : Type 0 where
  pub above : g.above.operator ≡ operator.Eq
  pub below : g.below.operator ≡ operator.Eq
  pub same : value_of g.above.value ≡ value_of g.below.value

-- so are those of two gaps, whose values are in order
pub record ArePoints (a b : Gap) : Type 0 where
  pub first : IsPoint a
  pub next : IsPoint b
  pub order : is_gt (value_cmp (value_of a.above.value) (value_of b.above.value)) ≡ false

-- a gap lies above another: a first value that is past it is past the other, and where none is, it is passed by what passes the other
pub record Follows (a b : Gap) : Type 0 where
  pub falls : (x : Option ScalarValue) → is_past b x ≡ true → is_past a x ≡ true
  pub rises : (x y z : Option ScalarValue) → is_past a x ≡ false → gap_passes a x y z ≡ true → gap_passes b x y z ≡ true

-- each follows those before it
abbrev pub AreOrdered : List Gap → Type 0
AreOrdered gs = (k m : ℕ) (d : Gap) → k ≤ m → m < length gs → Follows (slice_index_or gs k d) (slice_index_or gs m d)

-- all have the same operands
pub record AreAlike (cs : List ColumnData) (gs : List Gap) : Type 0 where
  pub x : Tree Place
  pub y : Tree Place
  pub z : Option (Tree Place)
  pub on : All (IsOn cs x y z) gs

-- two gaps have the same operands
pub record IsAlike (a b : Gap) : Type 0 where
  pub above : a.above.operand.now ≡ b.above.operand.now
  pub below : a.below.operand.now ≡ b.below.operand.now
  pub flag : flag_tree a.flag ≡ flag_tree b.flag

-- it has those of the first of some, if there are any
abbrev pub GoesWith : List Gap → Gap → Type 0
GoesWith gs g = (d : Gap) → 0 < length gs → IsAlike (slice_index_or gs 0 d) g

-- ---- gathering

-- one more gap was put behind the others, which is passed where the expression passes
pub record IsPut (Is : Gap → Type 0) (old new : List Gap) : Type 0 where
  pub gap : Gap
  pub is : Is gap
  pub behind : new ≡ old ++ gap ∷ []

-- marks are taken away by a part of a test, and the gaps have the rest
pub record IsGathered (cs : List ColumnData) (counts : Counts) (test : ℕ → Bool) (from : ℕ) (old new : List Gap) (before after : List Bool) : Type 0 where
  pub part : ℕ → Bool
  pub taken : after ≡ marked part from before
  pub whole : (r : ℕ) → (part r && are_true_at new cs counts r) ≡ (test r && are_true_at old cs counts r)

-- an expression isn't true on the row at a place
abbrev pub is_untrue_at : Tree Place → List ColumnData → Counts → ℕ → Bool
is_untrue_at e cs counts r = not_b (is_true_at e cs counts r)

-- how many pairs of expressions are compared or connected
abbrev pub pairs : Tree Place → ℕ
pairs (binary o l r) = pairs l + (pairs r + 1)
pairs e = 0
