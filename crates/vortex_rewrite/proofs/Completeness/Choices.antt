-- Choices of a value for each column: the rows they make, what depends on them, and how two are combined.
use Rattle.std.proofs.Common.{◌≡◌, ◌<◌, ◌+◌, ℕ, Bool, true, false, not as not_b, ◌&&◌, ◌||◌, List, [], ◌∷◌, ◌++◌, Some, map, length, option_map, refl, sym, ap, ap₂, ◌∙◌, if◌then◌else◌, arith}
use Rattle.std.specs.Prelude.{◌==◌, is_none, slice_get}
use Rattle.std.specs.List.{AllByRecursion, range_with_len}
use Rattle.std.proofs.lemmas.Bool.{not-true, and_parts, eq-eqb, or_parts, or_right}
use Rattle.std.proofs.lemmas.List.FromFn.{get_or-range_with_len, length-range_with_len}
use Rattle.std.proofs.lemmas.Option.{slice_get-map, slice_get-get_or}
use Rattle.vortex_base.specs.declared.dtype.DType.TheVariants as dtype
use Rattle.vortex_base.specs.declared.scalar_value.ScalarValue.{ScalarValue}
use Rattle.vortex_base.specs.declared.scalar_value.ScalarValue.TheVariants as value
use Rattle.vortex_base.specs.Data.Columns.{cell_value}
use Rattle.vortex_expr.specs.Meanings.Meaning.{applied, is_true, liked, meaning, opposite, satisfies, truth, truth_value, within}
use Rattle.vortex_base.specs.Data.Scalars.{Constant}
use Rattle.vortex_expr.specs.Trees.Tree.{Tree, Place, column, literal, binary, between, is_null, is_not_null, not, like, stat, row_count}
use Rattle.vortex_base.specs.Data.Values.{is_value}
use Rattle.vortex_rewrite.proofs.Soundness.ValueTests.{value_le}
use Rattle.vortex_rewrite.specs.Rewriting.ReadOnce.{Box, IsWithin, are_distinct, columns_of, has_index}

pub all_front : {X : Type 0} (P : X → Type 0) (xs ys : List X) → AllByRecursion P (xs ++ ys) → AllByRecursion P xs
all_front P [] ys h = tt
all_front P (x ∷ xs) ys h = (h.0, all_front P xs ys h.1)

pub all_back : {X : Type 0} (P : X → Type 0) (xs ys : List X) → AllByRecursion P (xs ++ ys) → AllByRecursion P ys
all_back P [] ys h = h
all_back P (x ∷ xs) ys h = all_back P xs ys h.1

pub all_map : {X : Type 0} (P Q : X → Type 0) (xs : List X) → ((x : X) → P x → Q x) → AllByRecursion P xs → AllByRecursion Q xs
all_map P Q [] f h = tt
all_map P Q (x ∷ xs) f h = (f x h.0, all_map P Q xs f h.1)

pub all_map_both : {X : Type 0} (P Q R : X → Type 0) (xs : List X) → ((x : X) → P x → Q x → R x) → AllByRecursion P xs → AllByRecursion Q xs → AllByRecursion R xs
all_map_both P Q R [] f h k = tt
all_map_both P Q R (x ∷ xs) f h k = (f x h.0 k.0, all_map_both P Q R xs f h.1 k.1)

-- ---- rows that agree

-- two rows have one optional value at each of the columns
abbrev pub RowsAgree : (row other : List Constant) → List Place → Type 0
RowsAgree row other cs = AllByRecursion (λ c. cell_value (slice_get row c.index) ≡ cell_value (slice_get other c.index)) cs

module _ (row other : List Constant) (n : ℕ) where
  At : Place → Type 0
  At c = cell_value (slice_get row c.index) ≡ cell_value (slice_get other c.index)

  -- the meaning of an expression depends on its columns alone
  pub meaning_agreed : (p : Tree Place) → RowsAgree row other (columns_of p) → meaning p row n ≡ meaning p other n
  unfolding At
  meaning_agreed (column c) e = e.0
  meaning_agreed (literal c) e = refl
  meaning_agreed (binary o l r) e =
      ap₂ (λ a b. truth_value (applied o a b)) (meaning_agreed l (all_front At (columns_of l) (columns_of r) e)) (meaning_agreed r (all_back At (columns_of l) (columns_of r) e))
  meaning_agreed (between o x l u) e =
      let ends = all_back At (columns_of x) (columns_of l ++ columns_of u) e in
      let ex = meaning_agreed x (all_front At (columns_of x) (columns_of l ++ columns_of u) e) in
      let el = meaning_agreed l (all_front At (columns_of l) (columns_of u) ends) in
      let eu = meaning_agreed u (all_back At (columns_of l) (columns_of u) ends) in
      λ i. truth_value (within o (ex i) (el i) (eu i))
  meaning_agreed (is_null x) e = ap (λ a. Some (value.Bool (is_none a))) (meaning_agreed x e)
  meaning_agreed (is_not_null x) e = ap (λ a. Some (value.Bool (not_b (is_none a)))) (meaning_agreed x e)
  meaning_agreed (not x) e = ap (λ a. truth_value (opposite (truth a))) (meaning_agreed x e)
  meaning_agreed (like o x p) e =
      ap₂ (λ a b. truth_value (liked o a b)) (meaning_agreed x (all_front At (columns_of x) (columns_of p) e)) (meaning_agreed p (all_back At (columns_of x) (columns_of p) e))
  meaning_agreed (stat f x) e = refl
  meaning_agreed row_count e = refl

-- ---- choices

-- one value for each place
abbrev pub Choice : Type 0
Choice = ℕ → ScalarValue

abbrev cell_of : Choice → ℕ → Constant
cell_of f i = record { dtype = dtype.Null; value = Some (f i) }

-- the row of m cells that hold their chosen values
abbrev pub row_with : Choice → (m : ℕ) → List Constant
row_with f m = map (cell_of f) (range_with_len 0 m)

number_at : (m i : ℕ) → i < m → slice_get (range_with_len 0 m) i ≡ Some i
number_at m i h =
    let long : i < length (range_with_len 0 m) = rw (length-range_with_len 0 m) h in
    let same : 0 + i ≡ i = omega arith in
    slice_get-get_or (range_with_len 0 m) i 0 long ∙ ap Some (get_or-range_with_len 0 m i 0 h ∙ same)

-- its cell at a place inside it
pub cell_with : (f : Choice) (m i : ℕ) → i < m → cell_value (slice_get (row_with f m) i) ≡ Some (f i)
cell_with f m i h = ap cell_value (slice_get-map (cell_of f) (range_with_len 0 m) i ∙ ap (option_map (cell_of f)) (number_at m i h))

-- the places of the columns lie inside a row of m cells
abbrev pub AreInside : (m : ℕ) → List Place → Type 0
AreInside m cs = AllByRecursion (λ c. c.index < m) cs

-- the choice's value for a column is of the column's type, from its low to its high
pub record IsBetween (box : Box) (f : Choice) (c : Place) : Type 0 where
  pub of_type : is_value (f c.index) c.dtype ≡ true
  pub above_low : value_le (box.low c.index) (f c.index) ≡ true
  pub below_high : value_le (f c.index) (box.high c.index) ≡ true

-- so the row is within the box
pub row_within : (box : Box) (f : Choice) (m : ℕ) (cs : List Place) → AreInside m cs → AllByRecursion (IsBetween box f) cs → AllByRecursion (IsWithin box (row_with f m)) cs
row_within box f m cs inside kept =
    all_map_both (λ c. c.index < m) (IsBetween box f) (IsWithin box (row_with f m)) cs
    (λ c h b. record {
      chosen = f c.index;
      cell = cell_with f m c.index h;
      of_type = b.of_type;
      above_low = not-true _ b.above_low;
      below_high = not-true _ b.below_high;
    })
    inside kept

-- ---- choices that agree

-- two choices have one value at each of the columns
abbrev pub Agree : Choice → Choice → List Place → Type 0
Agree f g cs = AllByRecursion (λ c. f c.index ≡ g c.index) cs

pub between_agreed : (box : Box) (f g : Choice) (cs : List Place) → Agree f g cs → AllByRecursion (IsBetween box g) cs → AllByRecursion (IsBetween box f) cs
between_agreed box f g [] e h = tt
between_agreed box f g (c ∷ cs) e h = (
  record {
    of_type = rw e.0 h.0.of_type;
    above_low = rw e.0 h.0.above_low;
    below_high = rw e.0 h.0.below_high;
  },
  between_agreed box f g cs e.1 h.1,
)

rows_agree : (f g : Choice) (m : ℕ) (cs : List Place) → AreInside m cs → Agree f g cs → RowsAgree (row_with f m) (row_with g m) cs
rows_agree f g m cs inside e =
    all_map_both (λ c. c.index < m) (λ c. f c.index ≡ g c.index) (λ c. cell_value (slice_get (row_with f m) c.index) ≡ cell_value (slice_get (row_with g m) c.index)) cs
    (λ c h same. cell_with f m c.index h ∙ ap Some same ∙ sym (cell_with g m c.index h))
    inside e

module _ (f g : Choice) (m n : ℕ) (p : Tree Place) (inside : AreInside m (columns_of p)) (e : Agree f g (columns_of p)) where
  pub chosen_agreed : meaning p (row_with f m) n ≡ meaning p (row_with g m) n
  chosen_agreed = meaning_agreed (row_with f m) (row_with g m) n p (rows_agree f g m (columns_of p) inside e)

  pub satisfies_agreed : satisfies p (row_with f m) n ≡ satisfies p (row_with g m) n
  satisfies_agreed = ap is_true chosen_agreed

-- ---- combination

-- g at the columns of a list, and f elsewhere
abbrev pub combined : Choice → Choice → List Place → Choice
combined f g cs i = if has_index i cs then g i else f i

pub combined_front : (f g : Choice) (xs ys : List Place) → are_distinct (xs ++ ys) ≡ true → Agree (combined f g ys) f xs
combined_front f g [] ys h = tt
combined_front f g (x ∷ xs) ys h =
    let k = and_parts (not_b (has_index x.index (xs ++ ys))) (are_distinct (xs ++ ys)) h in
    (ap (λ (b : Bool). if b then g x.index else f x.index) (not_behind x.index xs (not-true (has_index x.index (xs ++ ys)) k.0)), combined_front f g xs ys k.1)
  where
    not_behind : (i : ℕ) (xs : List Place) → has_index i (xs ++ ys) ≡ false → has_index i ys ≡ false
    not_behind i [] h = h
    not_behind i (x ∷ xs) h = not_behind i xs (or_parts (i == x.index) (has_index i (xs ++ ys)) h).1

all_had : (ys : List Place) → AllByRecursion (λ y. has_index y.index ys ≡ true) ys
all_had [] = tt
all_had (y ∷ ys) = (
  ap (λ b. b || has_index y.index ys) (eq-eqb y.index y.index refl),
  all_map (λ z. has_index z.index ys ≡ true) (λ z. has_index z.index (y ∷ ys) ≡ true) ys (λ z e. or_right (z.index == y.index) (has_index z.index ys) e) (all_had ys),
)

pub combined_back : (f g : Choice) (ys : List Place) → Agree (combined f g ys) g ys
combined_back f g ys = all_map (λ y. has_index y.index ys ≡ true) (λ y. combined f g ys y.index ≡ g y.index) ys (λ y e. ap (λ (b : Bool). if b then g y.index else f y.index) e) (all_had ys)

pub distinct_front : (xs ys : List Place) → are_distinct (xs ++ ys) ≡ true → are_distinct xs ≡ true
distinct_front [] ys h = refl
distinct_front (x ∷ xs) ys h =
    let k = and_parts (not_b (has_index x.index (xs ++ ys))) (are_distinct (xs ++ ys)) h in
    ap₂ ◌&&◌ (ap not_b (not_before x.index xs (not-true (has_index x.index (xs ++ ys)) k.0))) (distinct_front xs ys k.1)
  where
    not_before : (i : ℕ) (xs : List Place) → has_index i (xs ++ ys) ≡ false → has_index i xs ≡ false
    not_before i [] h = refl
    not_before i (x ∷ xs) h = let k = or_parts (i == x.index) (has_index i (xs ++ ys)) h in ap₂ ◌||◌ k.0 (not_before i xs k.1)

pub distinct_back : (xs ys : List Place) → are_distinct (xs ++ ys) ≡ true → are_distinct ys ≡ true
distinct_back [] ys h = h
distinct_back (x ∷ xs) ys h = distinct_back xs ys (and_parts (not_b (has_index x.index (xs ++ ys))) (are_distinct (xs ++ ys)) h).1
