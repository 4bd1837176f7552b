-- Choices of a cell for each column of a zone whose null counts are known: of the falsifier of a strict predicate that isn't true, some choice satisfies the predicate.
use Rattle.std.proofs.Common.{◌≡◌, ◌≢◌, ◌==◌, ◌<◌, ℕ, Bool, true, false, not as not_b, ◌&&◌, ◌||◌, ⊎_elim, List, [], ◌∷◌, ◌++◌, Option, Some, None, Result, Ok, Err, refl, sym, ap, ap₂, subst, ◌∙◌, arith, if◌then◌else◌}
use Rattle.std.specs.Prelude.{MatchOption, is_none, slice_get}
use Rattle.std.specs.List.{AllByRecursion}
use Rattle.std.proofs.lemmas.Bool.{and_cases, and_parts, eq-eqb, not-true, or_cases, or_left, or_parts, or_right}
use Rattle.std.proofs.lemmas.Option.{none-some, same_Some}
use Rattle.std.specs.Option.{is_some}
use Rattle.vortex_base.specs.Data.Columns.{cell_value}
use Rattle.vortex_base.specs.Data.Exact.{both_hold}
use Rattle.vortex_base.specs.Data.Scalars.{Constant, is_optional_value}
use Rattle.vortex_base.specs.Data.Scopes.{Named}
use Rattle.vortex_base.specs.Data.Types.{as_nullable, dtype_eq_is_exact, eq_ignore_nullability, is_nullable}
use Rattle.vortex_base.specs.Data.Values.{is_value}
use Rattle.vortex_base.specs.declared.aggregate.AggregateFnRef.{AggregateFnRef}
use Rattle.vortex_base.specs.declared.aggregate.AggregateFnRef.TheVariants as aggregate
use Rattle.vortex_base.specs.declared.dtype.DType.{DType}
use Rattle.vortex_base.specs.declared.error.BaseError.{BaseError}
use Rattle.vortex_base.specs.declared.scalar_value.ScalarValue.{ScalarValue}
use Rattle.vortex_expr.proofs.Meanings.MeaningFits.{is_value-as_nullable, null_fits}
use Rattle.vortex_expr.specs.Meanings.Fitting.{fits_scope, is_of_type}
use Rattle.vortex_expr.specs.Meanings.Meaning.{is_true, meaning, satisfies}
use Rattle.vortex_expr.specs.Meanings.Typing.{connective_type, is_bool, truth_type, type_if, type_of, with_types}
use Rattle.vortex_expr.specs.Trees.Tree.{Tree, Place, column, literal, binary, between, is_null, is_not_null, like}
use Rattle.vortex_expr.specs.Trees.TreeEq.{tree_eq, tree_eq_is_exact}
use Rattle.vortex_expr.specs.declared.scalar_fn.Operator.{Operator}
use Rattle.vortex_expr.specs.declared.scalar_fn.Operator.TheVariants.{Eq, NotEq, Gt, Gte, Lt, Lte, And, Or}
use Rattle.vortex_normal.proofs.Columns.{all_indexed, eqb_same, indexed_in}
use Rattle.vortex_normal.specs.LeafColumns.{column_beside, range_column}
use Rattle.vortex_normal.specs.Strict.{agreed, body, both_valued, rests_on, sides_valued, strict, valued}
use Rattle.vortex_predicates.proofs.Carried.{name_there, scoped_type, set_there, type_at}
use Rattle.vortex_predicates.proofs.NullTests.{KnowsNulls, Says, and_says, and_true, every_told, moved_says, none_told, not_null_says, null_says, or_says}
use Rattle.vortex_predicates.proofs.OpenSides.{HasSides, far_falsifier, in_order, low_fits}
use Rattle.vortex_predicates.specs.NullBoxes.{IsNullKnownBy, IsPossibleCell, IsPossibleValue, NullBox, goes_far, is_simple_or_null}
use Rattle.vortex_prune.specs.Binding.PartAnswers.{column_value, told_values}
use Rattle.vortex_zone_map.specs.StatValues.{stat_value}
use Rattle.vortex_zone_map.specs.Zone.{Entries, IsZone, ZoneData}
use Rattle.vortex_rewrite.proofs.Completeness.Choices.{RowsAgree, all_back, all_front, all_map_both, meaning_agreed}
use Rattle.vortex_rewrite.proofs.Soundness.TruthLogic.{clash, refuted, true_and, true_or}
use Rattle.vortex_rewrite.proofs.Soundness.ValueTests.{le_refl}
use Rattle.vortex_rewrite.specs.Rewriting.Predicates.{has_type, is_predicate}
use Rattle.vortex_rewrite.specs.Rewriting.Proof.{Assignment, value_under}
use Rattle.vortex_rewrite.specs.Rewriting.ReadOnce.{IsSatisfiable, IsWithin, are_apart, are_sides_apart, columns_of, has_index, has_disjoint_ands, is_operand}
use Rattle.vortex_stats.specs.Sets.Entries.{entry_value}
use Rattle.vortex_stats.specs.declared.stat.Stat.TheVariants.{NullCount}

-- ---- the column that a predicate rests on

agreed_if : (b : Bool) (c d : Tree Place) → (if b then Some c else None) ≡ Some d → (b ≡ true) × (c ≡ d)
agreed_if true c d h = (refl, same_Some _ _ h)
agreed_if false c d h = absurd (none-some d h)

agreed_both : (a b : Option (Tree Place)) (d : Tree Place) → agreed a b ≡ Some d → (a ≡ Some d) × (b ≡ Some d)
agreed_both (Some c) (Some e) d h =
    let k = agreed_if (tree_eq c e) c d h in
    (ap Some k.1, ap Some (sym ((tree_eq_is_exact c e).0 k.0) ∙ k.1))
agreed_both (Some c) None d h = absurd (none-some d h)
agreed_both None b d h = absurd (none-some d h)

first_has : (c : Place) (cs : List Place) → has_index c.index (c ∷ cs) ≡ true
first_has c cs = ap (λ b. b || has_index c.index cs) (eq-eqb c.index c.index refl)

front_has : (i : ℕ) (xs ys : List Place) → has_index i xs ≡ true → has_index i (xs ++ ys) ≡ true
front_has i [] ys h = cc
front_has i (x ∷ xs) ys h =
    ⊎_elim (λ e. or_left (i == x.index) (has_index i (xs ++ ys)) e) (λ k. or_right (i == x.index) (has_index i (xs ++ ys)) (front_has i xs ys k)) (or_cases (i == x.index) (has_index i xs) h)

-- it is a column of the predicate
abbrev IsOneOf : Tree Place → List Place → Type 0
IsOneOf d cs = (c : Place) × (d ≡ column c) × (has_index c.index cs ≡ true)

beside_has : (x y d : Tree Place) → column_beside x y ≡ Some d → IsOneOf d (columns_of x ++ columns_of y)
beside_has (column c) (literal e) d is = (c, sym (same_Some _ _ is), first_has c [])
beside_has (literal e) (column c) d is = (c, sym (same_Some _ _ is), first_has c [])
beside_has x y d is = absurd (none-some d is)

range_has : (x l u d : Tree Place) → range_column x l u ≡ Some d → IsOneOf d (columns_of x ++ (columns_of l ++ columns_of u))
range_has (column c) (literal e) (literal f) d is = (c, sym (same_Some _ _ is), first_has c [])
range_has x l u d is = absurd (none-some d is)

rests_has : (q d : Tree Place) → rests_on q ≡ Some d → IsOneOf d (columns_of q)
rests_has (binary And l r) d is =
    let w = rests_has l d (agreed_both (rests_on l) (rests_on r) d is).0 in
    (w.0, w.1, front_has w.0.index (columns_of l) (columns_of r) w.2)
rests_has (binary Or l r) d is =
    let w = rests_has l d (agreed_both (rests_on l) (rests_on r) d is).0 in
    (w.0, w.1, front_has w.0.index (columns_of l) (columns_of r) w.2)
rests_has (binary Eq l r) d is = beside_has l r d is
rests_has (binary NotEq l r) d is = beside_has l r d is
rests_has (binary Gt l r) d is = beside_has l r d is
rests_has (binary Gte l r) d is = beside_has l r d is
rests_has (binary Lt l r) d is = beside_has l r d is
rests_has (binary Lte l r) d is = beside_has l r d is
rests_has (between o x l u) d is = range_has x l u d is
rests_has (like o x p) d is = beside_has x p d is
rests_has q d is = absurd (none-some d is)

one_column : (c d : Place) → column c ≡ column d → c ≡ d
one_column c d h = cc

-- so its own columns have it
rests_index : (q : Tree Place) (c : Place) → rests_on q ≡ Some (column c) → has_index c.index (columns_of q) ≡ true
rests_index q c is =
    let w = rests_has q (column c) is in
    subst (λ (d : Place). has_index d.index (columns_of q) ≡ true) (sym (one_column c w.0 w.1)) w.2

-- and it needs no test below its top
beside_plain : (l r e d : Tree Place) → column_beside l r ≡ Some d → both_valued l r e ≡ e
beside_plain (column c) (literal f) e d is = refl
beside_plain (literal f) (column c) e d is = refl
beside_plain l r e d is = absurd (none-some d is)

rests_plain : (q d : Tree Place) → rests_on q ≡ Some d → body q ≡ q
rests_plain (binary And l r) d is =
    let k = agreed_both (rests_on l) (rests_on r) d is in
    ap (λ s. sides_valued And s (rests_on l) (rests_on r) (body l) (body r)) is ∙ ap₂ (binary And) (rests_plain l d k.0) (rests_plain r d k.1)
rests_plain (binary Or l r) d is =
    let k = agreed_both (rests_on l) (rests_on r) d is in
    ap (λ s. sides_valued Or s (rests_on l) (rests_on r) (body l) (body r)) is ∙ ap₂ (binary Or) (rests_plain l d k.0) (rests_plain r d k.1)
rests_plain (binary Eq l r) d is = beside_plain l r (binary Eq l r) d is
rests_plain (binary NotEq l r) d is = beside_plain l r (binary NotEq l r) d is
rests_plain (binary Gt l r) d is = beside_plain l r (binary Gt l r) d is
rests_plain (binary Gte l r) d is = beside_plain l r (binary Gte l r) d is
rests_plain (binary Lt l r) d is = beside_plain l r (binary Lt l r) d is
rests_plain (binary Lte l r) d is = beside_plain l r (binary Lte l r) d is
rests_plain q d is = refl

-- its columns are that one, where it is a leaf
beside_alone : (x y : Tree Place) (c : Place) → column_beside x y ≡ Some (column c) → columns_of x ++ columns_of y ≡ c ∷ []
beside_alone (column d) (literal e) c is = ap (λ (b : Place). b ∷ []) (one_column d c (same_Some _ _ is))
beside_alone (literal e) (column d) c is = ap (λ (b : Place). b ∷ []) (one_column d c (same_Some _ _ is))
beside_alone x y c is = absurd (none-some (column c) is)

range_alone : (x l u : Tree Place) (c : Place) → range_column x l u ≡ Some (column c) → columns_of x ++ (columns_of l ++ columns_of u) ≡ c ∷ []
range_alone (column d) (literal e) (literal f) c is = ap (λ (b : Place). b ∷ []) (one_column d c (same_Some _ _ is))
range_alone x l u c is = absurd (none-some (column c) is)

-- ---- columns of two sides

apart_from : (xs ys : List Place) → are_apart xs ys ≡ true → AllByRecursion (λ c. has_index c.index ys ≡ false) xs
apart_from [] ys h = tt
apart_from (x ∷ xs) ys h =
    let k = and_parts (not_b (has_index x.index ys)) (are_apart xs ys) h in
    (not-true (has_index x.index ys) k.0, apart_from xs ys k.1)

not_shared : (xs ys : List Place) (i : ℕ) → are_apart xs ys ≡ true → has_index i xs ≡ true → has_index i ys ≡ true → ⊥
not_shared xs ys i h j k =
    let w = indexed_in (λ c. has_index c.index ys ≡ false) i xs j (apart_from xs ys h) in
    clash k (subst (λ (a : ℕ). has_index a ys ≡ false) w.1 w.2)

-- ---- types of two sides

sides_typed : (a b : Result DType BaseError) → has_type is_bool (with_types connective_type a b) ≡ true → (has_type is_bool a ≡ true) × (has_type is_bool b ≡ true)
sides_typed (Ok s) (Ok t) h = bools (is_bool s) (is_bool t) (truth_type (is_nullable s || is_nullable t)) h
  where
    bools : (x y : Bool) (t : DType) → has_type is_bool (type_if (x && y) t) ≡ true → (x ≡ true) × (y ≡ true)
    bools true true t h = (refl, refl)
    bools true false t h = cc
    bools false y t h = cc
sides_typed (Ok s) (Err f) h = cc
sides_typed (Err f) b h = cc

-- ---- rows that satisfy connectives

module _ (row : List Constant) (n : ℕ) where
  both_satisfied : (x y : Tree Place) → satisfies x row n ≡ true → satisfies y row n ≡ true → satisfies (binary And x y) row n ≡ true
  both_satisfied x y h k = true_and (meaning x row n) (meaning y row n) ∙ both_hold (satisfies x row n) (satisfies y row n) h k

  sides_satisfied : (x y : Tree Place) → satisfies (binary And x y) row n ≡ true → (satisfies x row n ≡ true) × (satisfies y row n ≡ true)
  sides_satisfied x y h = and_parts (satisfies x row n) (satisfies y row n) (sym (true_and (meaning x row n) (meaning y row n)) ∙ h)

  left_satisfied : (x y : Tree Place) → satisfies x row n ≡ true → satisfies (binary Or x y) row n ≡ true
  left_satisfied x y h = true_or (meaning x row n) (meaning y row n) ∙ or_left (satisfies x row n) (satisfies y row n) h

  right_satisfied : (x y : Tree Place) → satisfies y row n ≡ true → satisfies (binary Or x y) row n ≡ true
  right_satisfied x y h = true_or (meaning x row n) (meaning y row n) ∙ or_right (satisfies x row n) (satisfies y row n) h

  value_satisfied : (c : Place) (v : ScalarValue) → cell_value (slice_get row c.index) ≡ Some v → satisfies (is_not_null (column c)) row n ≡ true
  value_satisfied c v e = ap (λ (o : Option ScalarValue). not_b (is_none o)) e

  null_satisfied : (c : Place) → cell_value (slice_get row c.index) ≡ None → satisfies (is_null (column c)) row n ≡ true
  null_satisfied c e = ap (λ (o : Option ScalarValue). is_none o) e

-- ---- cells

pub number_differs : (k m : ℕ) → (k == m) ≡ false → k ≢ m
number_differs k m h e = clash (eq-eqb k m e) h

zero_differs : (n : ℕ) → 0 < n → (0 == n) ≡ false
zero_differs n h = refuted (0 == n) (λ e. let z : 0 ≡ n = eqb_same 0 n e in absurd (omega arith))

module _ (scope : List Named) (zone : ZoneData) (is_zone : IsZone scope zone) (rows : 0 < zone.rows) (box : NullBox) (own : List Place) where
  abbrev pub answers : Assignment
  answers = told_values scope zone

  abbrev pub place_at : ℕ → Place
  place_at i = record { index = i; dtype = type_at (slice_get scope i) }

  -- an optional value that may stand at a place: null or of its type, and possible if the place is one of the columns
  pub record Cell (i : ℕ) (o : Option ScalarValue) : Type 0 where
    pub fits : is_optional_value o (as_nullable (type_at (slice_get scope i))) ≡ true
    pub possible : has_index i own ≡ true → IsPossibleCell box zone.rows (place_at i) o

  -- a column of the scope, among the columns, whose null count is known, and whose sides are its bounds where these are known
  pub record Known (c : Place) : Type 0 where
    pub scoped : is_of_type c.dtype (slice_get scope c.index) ≡ true
    pub owned : has_index c.index own ≡ true
    pub set : MatchOption (slice_get zone.stats c.index) ⊥ (IsNullKnownBy box zone.rows c)

  pub place_same : (c : Place) → is_of_type c.dtype (slice_get scope c.index) ≡ true → place_at c.index ≡ c
  place_same c h = ap (λ (t : DType). record { index = c.index; dtype = t }) (scoped_type (slice_get scope c.index) c.dtype h)

  -- not every cell of the column is null
  abbrev IsValued : Place → Type 0
  IsValued c = (box.nulls c.index == zone.rows) ≡ false

  has_sides : (c : Place) → Known c → IsValued c → HasSides scope zone is_zone box c
  has_sides c k h = record { scoped = k.scoped; valued = h; set = k.set }

  column_told : (f : AggregateFnRef) (c : Place) (d : Named) (es : Entries) → slice_get scope c.index ≡ Some d → slice_get zone.stats c.index ≡ Some es → eq_ignore_nullability d.1 c.dtype ≡ true
      → answers f (column c) ≡ stat_value f es zone.rows
  column_told f c d es there set suits = (λ i. column_value f c.dtype (there i) (set i) zone.rows) ∙ ap (λ (b : Bool). if b then stat_value f es zone.rows else None) suits

  nulls_known : (c : Place) → Known c → KnowsNulls answers zone.rows c (box.nulls c.index)
  nulls_known c k =
      let d = name_there (slice_get scope c.index) c.dtype k.scoped in
      let es = set_there (IsNullKnownBy box zone.rows c) (slice_get zone.stats c.index) k.set in
      let suits : eq_ignore_nullability d.0.1 c.dtype ≡ true = (dtype_eq_is_exact (as_nullable d.0.1) (as_nullable c.dtype)).1 (ap as_nullable d.2) in
      record {
        count = column_told aggregate.NullCount c d.0 es.0 d.1 es.1 suits ∙ es.2.nulls;
        every = λ h. every_told (entry_value NullCount es.0) (box.nulls c.index) zone.rows es.2.nulls (ap is_true (sym (column_told aggregate.AllNull c d.0 es.0 d.1 es.1 suits)) ∙ h);
        none = λ h. none_told (entry_value NullCount es.0) (box.nulls c.index) es.2.nulls (ap is_true (sym (column_told aggregate.AllNonNull c d.0 es.0 d.1 es.1 suits)) ∙ h);
      }

  value_cell : (c : Place) → is_of_type c.dtype (slice_get scope c.index) ≡ true → (v : ScalarValue) → IsPossibleValue box zone.rows c v → Cell c.index (Some v)
  value_cell c s v p = record {
    fits = is_value-as_nullable v (type_at (slice_get scope c.index)) ∙ ap (is_value v) (scoped_type (slice_get scope c.index) c.dtype s) ∙ p.of_type;
    possible = λ _. subst (λ (d : Place). IsPossibleCell box zone.rows d (Some v)) (sym (place_same c s)) p;
  }

  null_cell : (i : ℕ) → (has_index i own ≡ true → box.nulls i ≢ 0) → Cell i None
  null_cell i h = record { fits = null_fits (type_at (slice_get scope i)); possible = h }

  least_cell : (c : Place) → Known c → IsValued c → Cell c.index (Some (box.bounds.low c.index))
  least_cell c k h =
      let sides = has_sides c k h in
      value_cell c k.scoped (box.bounds.low c.index)
      (record { valued = number_differs _ _ h; of_type = low_fits scope zone is_zone box c sides; above_low = not-true _ (le_refl (box.bounds.low c.index)); below_high = in_order scope zone is_zone box c sides })

  -- ---- a cell for each place

  module _ (known : AllByRecursion Known own) where
    -- null where some cell is, and else the least value
    abbrev usual_by : (owned none : Bool) → ℕ → Option ScalarValue
    usual_by true true i = Some (box.bounds.low i)
    usual_by true false i = None
    usual_by false none i = None

    abbrev usual : ℕ → Option ScalarValue
    usual i = usual_by (has_index i own) (box.nulls i == 0) i

    usual_cell_by : (i : ℕ) (a b : Bool) → has_index i own ≡ a → (box.nulls i == 0) ≡ b → Cell i (usual_by a b i)
    usual_cell_by i true true h z =
        let w = indexed_in Known i own h known in
        let none : box.nulls w.0.index ≡ 0 = subst (λ (j : ℕ). box.nulls j ≡ 0) (sym w.1) (eqb_same (box.nulls i) 0 z) in
        subst (λ (j : ℕ). Cell j (Some (box.bounds.low j))) w.1 (least_cell w.0 w.2 (ap (λ k. k == zone.rows) none ∙ zero_differs zone.rows rows))
    usual_cell_by i true false h z = null_cell i (λ _. number_differs (box.nulls i) 0 z)
    usual_cell_by i false b h z = null_cell i (λ there. clash there h)

    usual_cell : (i : ℕ) → Cell i (usual i)
    usual_cell i = usual_cell_by i (has_index i own) (box.nulls i == 0) refl refl

    -- ---- choices

    -- a row has the chosen cells at some columns
    abbrev pub Takes : (f : ℕ → Option ScalarValue) → List Constant → List Place → Type 0
    Takes f row cs = AllByRecursion (λ c. cell_value (slice_get row c.index) ≡ f c.index) cs

    -- cells of which each row that takes those of a predicate's columns satisfies another form of it
    pub record Chosen (q s : Tree Place) : Type 0 where
      pub choice : ℕ → Option ScalarValue
      pub cells : (i : ℕ) → Cell i (choice i)
      pub holds : (row : List Constant) → Takes choice row (columns_of q) → satisfies s row zone.rows ≡ true

    -- the falsifier of the form is known, and where it isn't true some cells are such
    pub record Good (q s : Tree Place) : Type 0 where
      pub says : Bool
      pub told : Says answers zone.rows s says
      pub finds : says ≡ false → ¬ Chosen q s → ⊥

    -- ---- connectives

    module _ (l r sl sr : Tree Place) where
      abbrev mixed : (f g : ℕ → Option ScalarValue) → ℕ → Option ScalarValue
      mixed f g i = if has_index i (columns_of r) then g i else f i

      mixed_cell : (i : ℕ) (a b : Option ScalarValue) (t : Bool) → Cell i a → Cell i b → Cell i (if t then b else a)
      mixed_cell i a b true h k = k
      mixed_cell i a b false h k = h

      mixed_front : (f g : ℕ → Option ScalarValue) (row : List Constant) (cs : List Place) → AllByRecursion (λ c. has_index c.index (columns_of r) ≡ false) cs → Takes (mixed f g) row cs → Takes f row cs
      mixed_front f g row cs =
          all_map_both (λ c. has_index c.index (columns_of r) ≡ false) (λ c. cell_value (slice_get row c.index) ≡ mixed f g c.index) (λ c. cell_value (slice_get row c.index) ≡ f c.index) cs
          (λ c h e. e ∙ ap (λ (t : Bool). if t then g c.index else f c.index) h)

      mixed_back : (f g : ℕ → Option ScalarValue) (row : List Constant) (cs : List Place) → AllByRecursion (λ c. has_index c.index (columns_of r) ≡ true) cs → Takes (mixed f g) row cs → Takes g row cs
      mixed_back f g row cs =
          all_map_both (λ c. has_index c.index (columns_of r) ≡ true) (λ c. cell_value (slice_get row c.index) ≡ mixed f g c.index) (λ c. cell_value (slice_get row c.index) ≡ g c.index) cs
          (λ c h e. e ∙ ap (λ (t : Bool). if t then g c.index else f c.index) h)

      both_chosen : are_apart (columns_of l) (columns_of r) ≡ true → Chosen l sl → Chosen r sr → Chosen (binary And l r) (binary And sl sr)
      both_chosen apart a b = record {
        choice = mixed a.choice b.choice;
        cells = λ i. mixed_cell i (a.choice i) (b.choice i) (has_index i (columns_of r)) (a.cells i) (b.cells i);
        holds = λ row takes.
            let f = mixed a.choice b.choice in
            let at = λ (c : Place). cell_value (slice_get row c.index) ≡ f c.index in
            both_satisfied row zone.rows sl sr
            (a.holds row (mixed_front a.choice b.choice row (columns_of l) (apart_from (columns_of l) (columns_of r) apart) (all_front at (columns_of l) (columns_of r) takes)))
            (b.holds row (mixed_back a.choice b.choice row (columns_of r) (all_indexed (columns_of r)) (all_back at (columns_of l) (columns_of r) takes)));
      }

      and_good : are_apart (columns_of l) (columns_of r) ≡ true → Good l sl → Good r sr → Good (binary And l r) (binary And sl sr)
      and_good apart a b = record {
        says = a.says || b.says;
        told = and_says answers zone.rows sl sr a.says b.says a.told b.told;
        finds = λ h none. let k = or_parts a.says b.says h in a.finds k.0 (λ x. b.finds k.1 (λ y. none (both_chosen apart x y)));
      }

      -- the sides of an OR may share columns: the cells of one side are chosen for both
      left_chosen : (t : Tree Place) → ((row : List Constant) → satisfies sl row zone.rows ≡ true → satisfies t row zone.rows ≡ true) → Chosen l sl → Chosen (binary Or l r) t
      left_chosen t f a = record {
        choice = a.choice;
        cells = a.cells;
        holds = λ row takes. f row (a.holds row (all_front (λ c. cell_value (slice_get row c.index) ≡ a.choice c.index) (columns_of l) (columns_of r) takes));
      }

      right_chosen : (t : Tree Place) → ((row : List Constant) → satisfies sr row zone.rows ≡ true → satisfies t row zone.rows ≡ true) → Chosen r sr → Chosen (binary Or l r) t
      right_chosen t f b = record {
        choice = b.choice;
        cells = b.cells;
        holds = λ row takes. f row (b.holds row (all_back (λ c. cell_value (slice_get row c.index) ≡ b.choice c.index) (columns_of l) (columns_of r) takes));
      }

      or_good : Good l sl → Good r sr → Good (binary Or l r) (binary Or sl sr)
      or_good a b = record {
        says = a.says && b.says;
        told = or_says answers zone.rows sl sr a.says b.says a.told b.told;
        finds = λ h none.
            ⊎_elim (λ e. a.finds e (λ x. none (left_chosen (binary Or sl sr) (λ row. left_satisfied row zone.rows sl sr) x)))
            (λ e. b.finds e (λ y. none (right_chosen (binary Or sl sr) (λ row. right_satisfied row zone.rows sl sr) y)))
            (and_cases a.says b.says h);
      }

    -- ---- leaves of columns that have values

    module _ (q : Tree Place) (row : List Constant) (within : AllByRecursion (IsWithin box.bounds row) (columns_of q)) (known_q : AllByRecursion Known (columns_of q)) (valued_q : AllByRecursion IsValued (columns_of q)) where
      abbrev taken_by : (own_column : Bool) → ℕ → Option ScalarValue
      taken_by true i = cell_value (slice_get row i)
      taken_by false i = usual i

      -- the row's cells for the columns of the leaf, and the usual ones elsewhere
      abbrev taken : ℕ → Option ScalarValue
      taken i = taken_by (has_index i (columns_of q)) i

      record Whole (c : Place) : Type 0 where
        of_scope : Known c
        with_value : IsValued c
        inside : IsWithin box.bounds row c

      whole_all : AllByRecursion Whole (columns_of q)
      whole_all =
          all_map_both (λ c. Known c × IsValued c) (IsWithin box.bounds row) Whole (columns_of q) (λ c h w. record { of_scope = h.0; with_value = h.1; inside = w })
          (all_map_both Known IsValued (λ c. Known c × IsValued c) (columns_of q) (λ c h w. (h, w)) known_q valued_q) within

      whole_cell : (c : Place) → Whole c → Cell c.index (cell_value (slice_get row c.index))
      whole_cell c w =
          subst (λ (o : Option ScalarValue). Cell c.index o) (sym w.inside.cell)
          (value_cell c w.of_scope.scoped w.inside.chosen
          (record { valued = number_differs _ _ w.with_value; of_type = w.inside.of_type; above_low = w.inside.above_low; below_high = w.inside.below_high }))

      taken_cell_by : (i : ℕ) (b : Bool) → has_index i (columns_of q) ≡ b → Cell i (taken_by b i)
      taken_cell_by i true h =
          let w = indexed_in Whole i (columns_of q) h whole_all in
          subst (λ (j : ℕ). Cell j (cell_value (slice_get row j))) w.1 (whole_cell w.0 w.2)
      taken_cell_by i false h = usual_cell i

      taken_agrees : (other : List Constant) → Takes taken other (columns_of q) → RowsAgree other row (columns_of q)
      taken_agrees other takes =
          all_map_both (λ c. has_index c.index (columns_of q) ≡ true) (λ c. cell_value (slice_get other c.index) ≡ taken c.index) (λ c. cell_value (slice_get other c.index) ≡ cell_value (slice_get row c.index)) (columns_of q)
          (λ c h e. e ∙ ap (λ (b : Bool). taken_by b c.index) h)
          (all_indexed (columns_of q)) takes

      leaf_chosen : satisfies q row zone.rows ≡ true → (s : Tree Place)
          → ((other : List Constant) → RowsAgree other row (columns_of q) → satisfies q other zone.rows ≡ true → satisfies s other zone.rows ≡ true) → Chosen q s
      leaf_chosen sat s f = record {
        choice = taken;
        cells = λ i. taken_cell_by i (has_index i (columns_of q)) refl;
        holds = λ other takes. let agree = taken_agrees other takes in f other agree (ap is_true (meaning_agreed other row zone.rows q agree) ∙ sat);
      }

    -- what the falsifier of a leaf says, and what values within the bounds satisfy it
    record Leaf (q : Tree Place) : Type 0 where
      says : Bool
      told : Says answers zone.rows q says
      finds : says ≡ false → ¬ IsSatisfiable q box.bounds zone.rows → ⊥

    leaf : (q : Tree Place) → has_disjoint_ands q ≡ true → is_predicate q ≡ true → fits_scope q scope ≡ true → AllByRecursion Known (columns_of q) → AllByRecursion IsValued (columns_of q) → goes_far zone box q ≡ true → Leaf q
    leaf q apart predicate fits known_q valued_q far =
        let sides = all_map_both Known IsValued (HasSides scope zone is_zone box) (columns_of q) has_sides known_q valued_q in
        let d = far_falsifier scope zone is_zone box q apart predicate fits sides far in
        record {
          says = is_true (value_under answers zone.rows d.0);
          told = record { proof = d.0; proof_is = d.1; told = refl };
          finds = λ h none. clash (d.2 none) h;
        }

    -- a leaf that needs no test
    plain_good : (q : Tree Place) → has_disjoint_ands q ≡ true → is_predicate q ≡ true → fits_scope q scope ≡ true → AllByRecursion Known (columns_of q) → AllByRecursion IsValued (columns_of q) → goes_far zone box q ≡ true → Good q q
    plain_good q apart predicate fits known_q valued_q far =
        let x = leaf q apart predicate fits known_q valued_q far in
        record {
          says = x.says;
          told = x.told;
          finds = λ h none. x.finds h (λ sat. none (leaf_chosen q sat.0 sat.1 known_q valued_q sat.2 q (λ other agree e. e)));
        }

    -- ---- predicates that rest on a column

    -- without the test of the column that a predicate rests on
    record Rested (q : Tree Place) (c : Place) : Type 0 where
      says : Bool
      told : Says answers zone.rows q says
      finds : says ≡ false → ¬ Chosen q (binary And q (is_not_null (column c))) → ⊥

    rested_leaf : (q : Tree Place) → has_disjoint_ands q ≡ true → is_predicate q ≡ true → fits_scope q scope ≡ true → AllByRecursion Known (columns_of q) → (c : Place) → columns_of q ≡ c ∷ [] → IsValued c → goes_far zone box q ≡ true → Rested q c
    rested_leaf q apart predicate fits known_q c alone h far =
        let valued_q = subst (λ (cs : List Place). AllByRecursion IsValued cs) (sym alone) (h, tt) in
        let x = leaf q apart predicate fits known_q valued_q far in
        record {
          says = x.says;
          told = x.told;
          finds = λ e none.
              x.finds e
              (λ sat. none (leaf_chosen q sat.0 sat.1 known_q valued_q sat.2 (binary And q (is_not_null (column c)))
              (λ other agree true_there.
              let same = subst (λ (cs : List Place). RowsAgree other sat.0 cs) alone agree in
              let inside = subst (λ (cs : List Place). AllByRecursion (IsWithin box.bounds sat.0) cs) alone sat.1 in
              both_satisfied other zone.rows q (is_not_null (column c)) true_there (value_satisfied other zone.rows c inside.0.chosen (same.0 ∙ inside.0.cell)))));
        }

    rested : (q : Tree Place) → is_simple_or_null q ≡ true → are_sides_apart q ≡ true → (c : Place) → rests_on q ≡ Some (column c) → is_predicate q ≡ true → fits_scope q scope ≡ true → AllByRecursion Known (columns_of q) → IsValued c → goes_far zone box q ≡ true → Rested q c
    rested (binary And l r) simple apart c is predicate fits known_q h far =
        let k = agreed_both (rests_on l) (rests_on r) (column c) is in
        let a = and_parts (are_apart (columns_of l) (columns_of r)) (are_sides_apart l && are_sides_apart r) apart in
        absurd (not_shared (columns_of l) (columns_of r) c.index a.0 (rests_index l c k.0) (rests_index r c k.1))
    rested (binary Or l r) simple apart c is predicate fits known_q h far =
        let k = agreed_both (rests_on l) (rests_on r) (column c) is in
        let e = and_parts (is_simple_or_null l) (is_simple_or_null r) simple in
        let a = and_parts (are_sides_apart l) (are_sides_apart r) apart in
        let t = sides_typed (type_of l) (type_of r) predicate in
        let f = and_parts (fits_scope l scope) (fits_scope r scope) fits in
        let g = and_parts (goes_far zone box l) (goes_far zone box r) far in
        let x = rested l e.0 a.0 c k.0 t.0 f.0 (all_front Known (columns_of l) (columns_of r) known_q) h g.0 in
        let y = rested r e.1 a.1 c k.1 t.1 f.1 (all_back Known (columns_of l) (columns_of r) known_q) h g.1 in
        let v = is_not_null (column c) in
        let s = binary And (binary Or l r) v in
        record {
          says = x.says && y.says;
          told = or_says answers zone.rows l r x.says y.says x.told y.told;
          finds = λ b none.
              ⊎_elim
              (λ i. x.finds i (λ z. none (left_chosen l r (binary And l v) (binary And r v) s
              (λ row j. let m = sides_satisfied row zone.rows l v j in both_satisfied row zone.rows (binary Or l r) v (left_satisfied row zone.rows l r m.0) m.1) z)))
              (λ i. y.finds i (λ z. none (right_chosen l r (binary And l v) (binary And r v) s
              (λ row j. let m = sides_satisfied row zone.rows r v j in both_satisfied row zone.rows (binary Or l r) v (right_satisfied row zone.rows l r m.0) m.1) z)))
              (and_cases x.says y.says b);
        }
    rested (binary Eq l r) simple apart c is predicate fits known_q h far = rested_leaf (binary Eq l r) (both_hold _ _ simple apart) predicate fits known_q c (beside_alone l r c is) h far
    rested (binary NotEq l r) simple apart c is predicate fits known_q h far = rested_leaf (binary NotEq l r) (both_hold _ _ simple apart) predicate fits known_q c (beside_alone l r c is) h far
    rested (binary Gt l r) simple apart c is predicate fits known_q h far = rested_leaf (binary Gt l r) (both_hold _ _ simple apart) predicate fits known_q c (beside_alone l r c is) h far
    rested (binary Gte l r) simple apart c is predicate fits known_q h far = rested_leaf (binary Gte l r) (both_hold _ _ simple apart) predicate fits known_q c (beside_alone l r c is) h far
    rested (binary Lt l r) simple apart c is predicate fits known_q h far = rested_leaf (binary Lt l r) (both_hold _ _ simple apart) predicate fits known_q c (beside_alone l r c is) h far
    rested (binary Lte l r) simple apart c is predicate fits known_q h far = rested_leaf (binary Lte l r) (both_hold _ _ simple apart) predicate fits known_q c (beside_alone l r c is) h far
    rested (between o x l u) simple apart c is predicate fits known_q h far = rested_leaf (between o x l u) (both_hold _ _ simple apart) predicate fits known_q c (range_alone x l u c is) h far
    rested (like o x p) simple apart c is predicate fits known_q h far = cc
    rested q simple apart c is predicate fits known_q h far = absurd (none-some (column c) is)

    valued_good : (q : Tree Place) (c : Place) → (IsValued c → Rested q c) → Known c → (b : Bool) → (box.nulls c.index == zone.rows) ≡ b → Good q (binary And q (is_not_null (column c)))
    valued_good q c rest k true e = record {
      says = true;
      told = and_true answers zone.rows q (is_not_null (column c)) (moved_says answers zone.rows (is_not_null (column c)) _ true e (not_null_says answers zone.rows c (box.nulls c.index) (nulls_known c k)));
      finds = λ h none. cc;
    }
    valued_good q c rest k false e =
        let x = rest e in
        record {
          says = x.says || (box.nulls c.index == zone.rows);
          told = and_says answers zone.rows q (is_not_null (column c)) x.says (box.nulls c.index == zone.rows) x.told (not_null_says answers zone.rows c (box.nulls c.index) (nulls_known c k));
          finds = λ h none. x.finds (or_parts x.says (box.nulls c.index == zone.rows) h).0 none;
        }

    -- a predicate that rests on a column, with a test of it
    rested_good : (q b d : Tree Place) → is_simple_or_null q ≡ true → are_sides_apart q ≡ true → rests_on q ≡ Some d → b ≡ q → goes_far zone box q ≡ true
        → is_predicate (binary And b (is_not_null d)) ≡ true → fits_scope (binary And b (is_not_null d)) scope ≡ true → AllByRecursion Known (columns_of (binary And b (is_not_null d))) → Good q (binary And b (is_not_null d))
    rested_good q b d simple apart is same far predicate fits known_q =
        let w = rests_has q d is in
        let c = w.0 in
        let t = sides_typed (type_of b) (type_of (is_not_null d)) predicate in
        let f = and_parts (fits_scope b scope) (fits_scope (is_not_null d) scope) fits in
        let front = all_front Known (columns_of b) (columns_of d) known_q in
        let back = all_back Known (columns_of b) (columns_of d) known_q in
        let known_c : AllByRecursion Known (columns_of (column c)) = subst (λ (e : Tree Place). AllByRecursion Known (columns_of e)) w.1 back in
        let at_q : AllByRecursion Known (columns_of q) = subst (λ (e : Tree Place). AllByRecursion Known (columns_of e)) same front in
        let good : Good q (binary And q (is_not_null (column c))) =
        valued_good q c
        (λ h. rested q simple apart c (is ∙ ap Some w.1) (subst (λ (e : Tree Place). is_predicate e ≡ true) same t.0) (subst (λ (e : Tree Place). fits_scope e scope ≡ true) same f.0) at_q h far)
        known_c.0 (box.nulls c.index == zone.rows) refl in
        subst (λ (e : Tree Place). Good q (binary And e (is_not_null d))) (sym same) (subst (λ (e : Tree Place). Good q (binary And q (is_not_null e))) (sym w.1) good)

    -- ---- other leaves

    -- a comparison of two columns, each with a test of it
    module _ (q : Tree Place) (c d : Place) (alone : columns_of q ≡ c ∷ (d ∷ [])) (apart : has_disjoint_ands q ≡ true) (predicate : is_predicate q ≡ true) (fits : fits_scope q scope ≡ true)
        (known_q : AllByRecursion Known (columns_of q)) (known_c : Known c) (known_d : Known d) (far : goes_far zone box q ≡ true) where
      abbrev with_first : Tree Place
      with_first = binary And q (is_not_null (column c))

      abbrev with_both : Tree Place
      with_both = binary And with_first (is_not_null (column d))

      first_says : Says answers zone.rows (is_not_null (column c)) (box.nulls c.index == zone.rows)
      first_says = not_null_says answers zone.rows c (box.nulls c.index) (nulls_known c known_c)

      second_says : Says answers zone.rows (is_not_null (column d)) (box.nulls d.index == zone.rows)
      second_says = not_null_says answers zone.rows d (box.nulls d.index) (nulls_known d known_d)

      two_good : (s t : Bool) → (box.nulls c.index == zone.rows) ≡ s → (box.nulls d.index == zone.rows) ≡ t → Good q with_both
      two_good s true e g = record {
        says = true;
        told = and_true answers zone.rows with_first (is_not_null (column d)) (moved_says answers zone.rows (is_not_null (column d)) _ true g second_says);
        finds = λ h none. cc;
      }
      two_good true false e g = record {
        says = true;
        told =
            and_says answers zone.rows with_first (is_not_null (column d)) true (box.nulls d.index == zone.rows)
            (and_true answers zone.rows q (is_not_null (column c)) (moved_says answers zone.rows (is_not_null (column c)) _ true e first_says)) second_says;
        finds = λ h none. cc;
      }
      two_good false false e g =
          let valued_q = subst (λ (cs : List Place). AllByRecursion IsValued cs) (sym alone) (e, (g, tt)) in
          let x = leaf q apart predicate fits known_q valued_q far in
          record {
            says = (x.says || (box.nulls c.index == zone.rows)) || (box.nulls d.index == zone.rows);
            told =
                and_says answers zone.rows with_first (is_not_null (column d)) (x.says || (box.nulls c.index == zone.rows)) (box.nulls d.index == zone.rows)
                (and_says answers zone.rows q (is_not_null (column c)) x.says (box.nulls c.index == zone.rows) x.told first_says) second_says;
            finds = λ h none.
                x.finds (or_parts x.says (box.nulls c.index == zone.rows) (or_parts (x.says || (box.nulls c.index == zone.rows)) (box.nulls d.index == zone.rows) h).0).0
                (λ sat. none (leaf_chosen q sat.0 sat.1 known_q valued_q sat.2 with_both
                (λ other agree true_there.
                let same = subst (λ (cs : List Place). RowsAgree other sat.0 cs) alone agree in
                let inside = subst (λ (cs : List Place). AllByRecursion (IsWithin box.bounds sat.0) cs) alone sat.1 in
                both_satisfied other zone.rows with_first (is_not_null (column d))
                (both_satisfied other zone.rows q (is_not_null (column c)) true_there (value_satisfied other zone.rows c inside.0.chosen (same.0 ∙ inside.0.cell)))
                (value_satisfied other zone.rows d inside.1.0.chosen (same.1.0 ∙ inside.1.0.cell)))));
          }

    -- a comparison of columns and literals
    comparison : (q l r : Tree Place) → columns_of q ≡ columns_of l ++ columns_of r → rests_on q ≡ column_beside l r → is_simple_or_null q ≡ true → are_sides_apart q ≡ true → has_disjoint_ands q ≡ true → (is_operand l && is_operand r) ≡ true → goes_far zone box q ≡ true
        → is_predicate (valued (column_beside l r) (both_valued l r q)) ≡ true → fits_scope (valued (column_beside l r) (both_valued l r q)) scope ≡ true → AllByRecursion Known (columns_of (valued (column_beside l r) (both_valued l r q)))
        → Good q (valued (column_beside l r) (both_valued l r q))
    comparison q (column c) (literal d) alone rests simple sides apart operands far p f k = rested_good q q (column c) simple sides rests refl far p f k
    comparison q (literal d) (column c) alone rests simple sides apart operands far p f k = rested_good q q (column c) simple sides rests refl far p f k
    comparison q (column c) (column d) alone rests simple sides apart operands far p f k =
        let x = binary And q (is_not_null (column c)) in
        let t = sides_typed (type_of x) (type_of (is_not_null (column d))) p in
        let u = sides_typed (type_of q) (type_of (is_not_null (column c))) t.0 in
        let g = and_parts (fits_scope x scope) (fits_scope (is_not_null (column d)) scope) f in
        let h = and_parts (fits_scope q scope) (fits_scope (is_not_null (column c)) scope) g.0 in
        let front = all_front Known (columns_of q ++ (c ∷ [])) (d ∷ []) k in
        let back = all_back Known (columns_of q ++ (c ∷ [])) (d ∷ []) k in
        two_good q c d alone apart u.0 h.0 (all_front Known (columns_of q) (c ∷ []) front) (all_back Known (columns_of q) (c ∷ []) front).0 back.0 far
        (box.nulls c.index == zone.rows) (box.nulls d.index == zone.rows) refl refl
    comparison q (literal c) (literal d) alone rests simple sides apart operands far p f k = plain_good q apart p f k (subst (λ (cs : List Place). AllByRecursion IsValued cs) (sym alone) tt) far
    comparison q (column c) r alone rests simple sides apart operands far p f k = cc
    comparison q (literal c) r alone rests simple sides apart operands far p f k = let no = (and_parts (is_some c.value) (is_operand r) operands).1 in cc
    comparison q l r alone rests simple sides apart operands far p f k = cc

    -- a cell of a column, and the usual ones elsewhere
    abbrev put : (c : Place) (o : Option ScalarValue) → ℕ → Option ScalarValue
    put c o i = if i == c.index then o else usual i

    put_by : (c : Place) (o : Option ScalarValue) → Cell c.index o → (i : ℕ) (b : Bool) → (i == c.index) ≡ b → Cell i (if b then o else usual i)
    put_by c o cell i true e = subst (λ (j : ℕ). Cell j o) (sym (eqb_same i c.index e)) cell
    put_by c o cell i false e = usual_cell i

    put_chosen : (q : Tree Place) (c : Place) (o : Option ScalarValue) → columns_of q ≡ c ∷ [] → Cell c.index o → ((row : List Constant) → cell_value (slice_get row c.index) ≡ o → satisfies q row zone.rows ≡ true) → Chosen q q
    put_chosen q c o alone cell f = record {
      choice = put c o;
      cells = λ i. put_by c o cell i (i == c.index) refl;
      holds = λ row takes.
          let at = subst (λ (cs : List Place). Takes (put c o) row cs) alone takes in
          f row (at.0 ∙ ap (λ (b : Bool). if b then o else usual c.index) (eq-eqb c.index c.index refl));
    }

    null_good : (c : Place) → Known c → Good (is_null (column c)) (is_null (column c))
    null_good c k = record {
      says = box.nulls c.index == 0;
      told = null_says answers zone.rows c (box.nulls c.index) (nulls_known c k);
      finds = λ h none. none (put_chosen (is_null (column c)) c None refl (null_cell c.index (λ _. number_differs (box.nulls c.index) 0 h)) (λ row e. null_satisfied row zone.rows c e));
    }

    not_null_good : (c : Place) → Known c → Good (is_not_null (column c)) (is_not_null (column c))
    not_null_good c k = record {
      says = box.nulls c.index == zone.rows;
      told = not_null_says answers zone.rows c (box.nulls c.index) (nulls_known c k);
      finds = λ h none.
          none (put_chosen (is_not_null (column c)) c (Some (box.bounds.low c.index)) refl (least_cell c k h) (λ row e. value_satisfied row zone.rows c (box.bounds.low c.index) e));
    }

    -- ---- every such predicate

    -- what is known of a strict predicate
    pub record Fits (s : Tree Place) : Type 0 where
      pub predicate : is_predicate s ≡ true
      pub fits : fits_scope s scope ≡ true
      pub known_columns : AllByRecursion Known (columns_of s)

    sides_fit : (o : Operator) (x y : Tree Place) → (has_type is_bool (with_types connective_type (type_of x) (type_of y)) ≡ true) → fits_scope (binary o x y) scope ≡ true → AllByRecursion Known (columns_of x ++ columns_of y) → Fits x × Fits y
    sides_fit o x y p f k =
        let t = sides_typed (type_of x) (type_of y) p in
        let g = and_parts (fits_scope x scope) (fits_scope y scope) f in (
          record { predicate = t.0; fits = g.0; known_columns = all_front Known (columns_of x) (columns_of y) k },
          record { predicate = t.1; fits = g.1; known_columns = all_back Known (columns_of x) (columns_of y) k },
        )

    module _ (l r : Tree Place) (left : Fits (strict l) → Good l (strict l)) (right : Fits (strict r) → Good r (strict r)) where
      abbrev strict_by : Operator → Option (Tree Place) → Tree Place
      strict_by o s = valued s (sides_valued o s (rests_on l) (rests_on r) (body l) (body r))

      and_by : (s : Option (Tree Place)) → agreed (rests_on l) (rests_on r) ≡ s → are_apart (columns_of l) (columns_of r) ≡ true → Fits (strict_by And s) → Good (binary And l r) (strict_by And s)
      and_by None is apart f =
          let both = sides_fit And (strict l) (strict r) f.predicate f.fits f.known_columns in
          and_good l r (strict l) (strict r) apart (left both.0) (right both.1)
      and_by (Some d) is apart f =
          let k = agreed_both (rests_on l) (rests_on r) d is in
          let w = rests_has l d k.0 in
          absurd (not_shared (columns_of l) (columns_of r) w.0.index apart w.2 (rests_index r w.0 (k.1 ∙ ap Some w.1)))

      or_by : (s : Option (Tree Place)) → agreed (rests_on l) (rests_on r) ≡ s → is_simple_or_null (binary Or l r) ≡ true → are_sides_apart (binary Or l r) ≡ true → goes_far zone box (binary Or l r) ≡ true → Fits (strict_by Or s) → Good (binary Or l r) (strict_by Or s)
      or_by None is simple apart far f =
          let both = sides_fit Or (strict l) (strict r) f.predicate f.fits f.known_columns in
          or_good l r (strict l) (strict r) (left both.0) (right both.1)
      or_by (Some d) is simple apart far f =
          let k = agreed_both (rests_on l) (rests_on r) d is in
          rested_good (binary Or l r) (binary Or (body l) (body r)) d simple apart is (ap₂ (binary Or) (rests_plain l d k.0) (rests_plain r d k.1)) far f.predicate f.fits f.known_columns

    pub good : (q : Tree Place) → is_simple_or_null q ≡ true → are_sides_apart q ≡ true → goes_far zone box q ≡ true → Fits (strict q) → Good q (strict q)
    good (literal c) simple apart far f = plain_good (literal c) (both_hold _ _ simple apart) f.predicate f.fits f.known_columns tt far
    good (binary And l r) simple apart far f =
        let e = and_parts (is_simple_or_null l) (is_simple_or_null r) simple in
        let a = and_parts (are_apart (columns_of l) (columns_of r)) (are_sides_apart l && are_sides_apart r) apart in
        let b = and_parts (are_sides_apart l) (are_sides_apart r) a.1 in
        let g = and_parts (goes_far zone box l) (goes_far zone box r) far in
        and_by l r (good l e.0 b.0 g.0) (good r e.1 b.1 g.1) (agreed (rests_on l) (rests_on r)) refl a.0 f
    good (binary Or l r) simple apart far f =
        let e = and_parts (is_simple_or_null l) (is_simple_or_null r) simple in
        let b = and_parts (are_sides_apart l) (are_sides_apart r) apart in
        let g = and_parts (goes_far zone box l) (goes_far zone box r) far in
        or_by l r (good l e.0 b.0 g.0) (good r e.1 b.1 g.1) (agreed (rests_on l) (rests_on r)) refl simple apart far f
    good (binary Eq l r) simple apart far f = comparison (binary Eq l r) l r refl refl simple apart (both_hold _ _ simple apart) simple far f.predicate f.fits f.known_columns
    good (binary NotEq l r) simple apart far f = comparison (binary NotEq l r) l r refl refl simple apart (both_hold _ _ simple apart) simple far f.predicate f.fits f.known_columns
    good (binary Gt l r) simple apart far f = comparison (binary Gt l r) l r refl refl simple apart (both_hold _ _ simple apart) simple far f.predicate f.fits f.known_columns
    good (binary Gte l r) simple apart far f = comparison (binary Gte l r) l r refl refl simple apart (both_hold _ _ simple apart) simple far f.predicate f.fits f.known_columns
    good (binary Lt l r) simple apart far f = comparison (binary Lt l r) l r refl refl simple apart (both_hold _ _ simple apart) simple far f.predicate f.fits f.known_columns
    good (binary Lte l r) simple apart far f = comparison (binary Lte l r) l r refl refl simple apart (both_hold _ _ simple apart) simple far f.predicate f.fits f.known_columns
    good (between o (column c) (literal d) (literal e)) simple apart far f =
        let q = between o (column c) (literal d) (literal e) in
        rested_good q q (column c) simple apart refl refl far f.predicate f.fits f.known_columns
    good (between o x l u) simple apart far f = cc
    good (is_null (column c)) simple apart far f = null_good c f.known_columns.0
    good (is_null x) simple apart far f = cc
    good (is_not_null (column c)) simple apart far f = not_null_good c f.known_columns.0
    good (is_not_null x) simple apart far f = cc
    good q simple apart far f = cc
