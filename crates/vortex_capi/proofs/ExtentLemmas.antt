-- The range of values that are read one after another.
use Rattle.std.proofs.Common.{◌≡◌, ℕ, ◌+◌, Bool, true, false, cond, not, ◌&&◌, ◌||◌, map, List, [], ◌∷◌, ◌++◌, Option, Some, None, Result, Ok, Err, refl, sym, ap, append_assoc, subst, ◌∙◌, ⊎_elim, arith}
use Rattle.std.specs.Int.{from_bool}
use Rattle.std.specs.Prelude.{Contains, IsTrue, IsUtf8}
use Rattle.std.specs.declared.cmp.Ordering.{Ordering}
use Rattle.std.specs.Ordering.{is_lt, ord_max, ord_min}
use Rattle.std.proofs.lemmas.List.{append-nil}
use Rattle.std.proofs.lemmas.Str.{is_utf8-from_IsUtf8}
use Rattle.std.proofs.lemmas.List.Elements.{Contains-append_left, Contains-push, Contains-push_cases}
use Rattle.vortex_base.specs.declared.dtype.DType.{DType}
use Rattle.vortex_base.specs.declared.dtype.DType.TheVariants as types
use Rattle.vortex_base.specs.declared.types.Nullability.{Nullability}
use Rattle.vortex_base.specs.declared.types.PType.{PType}
use Rattle.vortex_base.specs.declared.pvalue.PValue.{PValue}
use Rattle.vortex_base.specs.declared.scalar_value.ScalarValue.{ScalarValue}
use Rattle.vortex_base.specs.declared.scalar_value.ScalarValue.TheVariants as value
use Rattle.vortex_base.specs.declared.value_ref.ValueRef.{ValueRef}
use Rattle.vortex_base.specs.declared.value_ref.ValueRef.TheVariants as lent
use Rattle.vortex_base.specs.Data.ArrayData.{value_of}
use Rattle.vortex_base.specs.Data.Columns.{ColumnData, all_fit}
use Rattle.vortex_base.specs.Data.Types.{allows_null, is_nullable}
use Rattle.vortex_base.specs.Data.Values.{is_value, value_cmp}
use Rattle.vortex_base.proofs.Data.AppendLemmas.{both_fit}
use Rattle.vortex_stats.specs.declared.precision.Precision.TheVariants.{Absent}
use Rattle.vortex_stats.specs.declared.stat.Stat.{Stat}
use Rattle.vortex_stats.specs.Bounds.Order.{AtMost, AtMost-refl, greater, lesser}
use Rattle.vortex_stats.specs.Measuring.Measured.{max_value, measured, min_value}
use Rattle.vortex_stats.specs.Measuring.Told.{told}
use Rattle.vortex_stats.specs.Sets.Entries.{entry_value}
use Rattle.vortex_stats.specs.Stat.{stat_eq, stat_eq-itself}
use Rattle.vortex_stats.specs.Sets.Claims.{NoneAbove, NoneBelow, null_count, present}
use Rattle.vortex_stats.proofs.Bounds.ValueOrder.{value_total}
use Rattle.vortex_stats.proofs.Measuring.MeasureLemmas.{greatest_is, least_is}
use Rattle.vortex_stats.proofs.Measuring.MeasuredSets.{entry_value-measured, is_among}
use Rattle.vortex_stats.proofs.Measuring.Runs.{none_above_both, none_below_both, present-contains}
use Rattle.vortex_stats.proofs.Merging.Constants.{inner}
use Rattle.vortex_stats.proofs.Merging.Counts.{null_count-append}
use Rattle.vortex_stats.proofs.Merging.Sums.{present-append}
use Rattle.vortex_capi.specs.declared.extent.Extent.{Extent}
use Rattle.vortex_capi.specs.declared.extent.Range.{Range}
use Rattle.vortex_capi.specs.declared.status.Status.{Status}
use Rattle.vortex_capi.specs.declared.status.Status.TheVariants.{BadNull, BadValue}
use Rattle.vortex_capi.specs.declared.values.Values.{Values}
use Rattle.vortex_capi.specs.Encoding.{is_number, number_at, number_from, number_of, value_of as value_of_bytes}
use Rattle.vortex_capi.specs.Extents.{HasRead, IsExtentOf, IsOptionalRangeOf, IsRangeOf, is_lent, scalar_of}
use Rattle.vortex_capi.specs.Given.{fixed}
use Rattle.vortex_capi.specs.Measures.{slots_in, slots_of}
use Rattle.vortex_capi.specs.Slots.{slot_of}
use Rattle.vortex_capi.specs.Statuses.{at_row}
use Rattle.vortex_capi.specs.Types.{number_width}
use Rattle.vortex_capi.specs.Values.{cell, cell_by, cells, column_of, is_null, present_cell, read_column, value_at}
use Rattle.vortex_capi.proofs.ReadLemmas.{followed_from, followed_read, reads_on}

-- behind nulls alone there is no other value
only_value : (xs : List (Option ScalarValue)) (v w : ScalarValue) → present xs ≡ [] → Contains (xs ++ Some v ∷ []) (Some w) → v ≡ w
only_value xs v w none i =
    ⊎_elim
    (λ j. absurd (omega (arith, (subst (λ vs. Contains vs w) none (present-contains xs w j)).1)))
    (λ e. inner v w e)
    (Contains-push_cases xs (Some v) (Some w) i)

-- a null adds no value
before_null : (xs : List (Option ScalarValue)) (w : ScalarValue) → Contains (xs ++ None ∷ []) (Some w) → Contains xs (Some w)
before_null xs w i = ⊎_elim (λ j. j) (λ e. absurd (cc)) (Contains-push_cases xs None (Some w) i)

from_not_false : (b : Bool) → not b ≡ false → b ≡ true
from_not_false true e = refl
from_not_false false e = sym e

module _ {N : Type 0} (scalar : N → ScalarValue) where
  pub first_range : (xs : List (Option ScalarValue)) (n : N) → present xs ≡ [] → IsRangeOf scalar (record { least = n; greatest = n }) (xs ++ Some (scalar n) ∷ [])
  first_range xs n none =
      let v = scalar n in
      record {
        least_within = Contains-push xs (Some v);
        none_below = λ w i. subst (AtMost value_cmp v) (only_value xs v w none i) (AtMost-refl value_total v);
        greatest_within = Contains-push xs (Some v);
        none_above = λ w i. subst (λ u. AtMost value_cmp u v) (only_value xs v w none i) (AtMost-refl value_total v);
      }

  scalar_chosen : (b : Bool) (m n : N) → scalar (cond b m n) ≡ cond b (scalar m) (scalar n)
  scalar_chosen true m n = refl
  scalar_chosen false m n = refl

  chosen_within : (xs : List (Option ScalarValue)) (b : Bool) (m n : N) → Contains xs (Some (scalar m)) → Contains (xs ++ Some (scalar n) ∷ []) (Some (scalar (cond b n m)))
  chosen_within xs true m n i = Contains-push xs (Some (scalar n))
  chosen_within xs false m n i = Contains-append_left xs (Some (scalar n) ∷ []) (Some (scalar m)) i

  module _ (cmp : N → N → Ordering) (ordered : (a b : N) → cmp a b ≡ value_cmp (scalar a) (scalar b)) where
    least_chosen : (m n : N) → scalar (ord_min cmp m n) ≡ lesser value_cmp (scalar m) (scalar n)
    least_chosen m n = scalar_chosen (is_lt (cmp n m)) n m ∙ ap (λ o. cond (is_lt o) (scalar n) (scalar m)) (ordered n m)

    greatest_chosen : (m n : N) → scalar (ord_max cmp n m) ≡ greater value_cmp (scalar m) (scalar n)
    greatest_chosen m n = scalar_chosen (is_lt (cmp m n)) n m ∙ ap (λ o. cond (is_lt o) (scalar n) (scalar m)) (ordered m n)

    pub longer_range : (r : Range N) (xs : List (Option ScalarValue)) (n : N) → IsRangeOf scalar r xs → IsRangeOf scalar (record { least = ord_min cmp r.least n; greatest = ord_max cmp n r.greatest }) (xs ++ Some (scalar n) ∷ [])
    longer_range r xs n q =
        let v = scalar n in
        record {
          least_within = chosen_within xs (is_lt (cmp n r.least)) r.least n q.least_within;
          none_below = subst (λ u. NoneBelow u (xs ++ Some v ∷ [])) (sym (least_chosen r.least n)) (none_below_both xs v (scalar r.least) q.none_below);
          greatest_within = chosen_within xs (is_lt (cmp r.greatest n)) r.greatest n q.greatest_within;
          none_above = subst (λ u. NoneAbove u (xs ++ Some v ∷ [])) (sym (greatest_chosen r.greatest n)) (none_above_both xs v (scalar r.greatest) q.none_above);
        }

  -- ---- one more optional value

  kept_range : (r : Option (Range N)) (xs : List (Option ScalarValue)) → IsOptionalRangeOf scalar r xs → IsOptionalRangeOf scalar r (xs ++ None ∷ [])
  kept_range None xs q = present-append xs (None ∷ []) ∙ append-nil (present xs) ∙ q
  kept_range (Some r) xs q = record {
    least_within = Contains-append_left xs (None ∷ []) (Some (scalar r.least)) q.least_within;
    none_below = λ w i. q.none_below w (before_null xs w i);
    greatest_within = Contains-append_left xs (None ∷ []) (Some (scalar r.greatest)) q.greatest_within;
    none_above = λ w i. q.none_above w (before_null xs w i);
  }

  module _ (t : DType) (read : ℕ → Result (Option ScalarValue) Status) (row nulls : ℕ) (range : Option (Range N)) (so_far : HasRead scalar t read row nulls range) where
    null_read : read row ≡ Ok None → is_nullable t ≡ true → HasRead scalar t read (row + 1) (nulls + 1) range
    null_read is_none may = record {
      values = so_far.values ++ None ∷ [];
      all = reads_on at_row read row so_far.values None so_far.all is_none;
      fits = both_fit t so_far.values (None ∷ []) so_far.fits (ap (λ b. b && true) may);
      counted = ap (λ n. n + 1) so_far.counted ∙ sym (null_count-append so_far.values (None ∷ []));
      within = omega (arith, so_far.within);
      ranged = kept_range range so_far.values so_far.ranged;
    }

    value_read : (next : Option (Range N)) (n : N) → read row ≡ Ok (Some (scalar n)) → is_value (scalar n) t ≡ true → IsOptionalRangeOf scalar next (so_far.values ++ Some (scalar n) ∷ []) → HasRead scalar t read (row + 1) (nulls + 0) next
    value_read next n is_some fits ranged = record {
      values = so_far.values ++ Some (scalar n) ∷ [];
      all = reads_on at_row read row so_far.values (Some (scalar n)) so_far.all is_some;
      fits = both_fit t so_far.values (Some (scalar n) ∷ []) so_far.fits (ap (λ b. b && true) fits);
      counted = ap (λ n. n + 0) so_far.counted ∙ sym (null_count-append so_far.values (Some (scalar n) ∷ []));
      within = omega (arith, so_far.within);
      ranged = ranged;
    }

    -- one more row, whose value counts where it isn't null
    goes_on : (null : Bool) (n : N) (next : Option (Range N)) → read row ≡ cell_by t (Ok null) (Ok (scalar n)) → (null && not (is_nullable t)) ≡ false → is_value (scalar n) t ≡ true
        → (null ≡ true → next ≡ range)
        → (null ≡ false → (xs : List (Option ScalarValue)) → IsOptionalRangeOf scalar range xs → IsOptionalRangeOf scalar next (xs ++ Some (scalar n) ∷ []))
        → HasRead scalar t read (row + 1) (nulls + from_bool null) next
    goes_on true n next is may fits kept ranged =
        let nullable : is_nullable t ≡ true = from_not_false (is_nullable t) may in
        rw (kept refl) (null_read (is ∙ ap (λ b. cond b (Ok None) (Err BadNull)) nullable) nullable)
    goes_on false n next is may fits kept ranged = value_read next n is fits (ranged refl so_far.values so_far.ranged)

module _ {N : Type 0} (number : N → PValue) where
  -- what a row of numbers holds, by its bytes
  pub record IsRead (p : PType) (values nulls : List ℕ) (row : ℕ) (null : Bool) (n : N) : Type 0 where
    pub width : ℕ
    pub bytes : List ℕ
    pub of_type : width ≡ number_width p
    pub there : Some bytes ≡ fixed values width row
    pub made : Some (number n) ≡ number_of p bytes
    pub fits : IsTrue (is_number p (number n))
    pub told : Ok null ≡ is_null nulls row

  module _ (p : PType) (m : Nullability) (values : List ℕ) (start : ℕ) (ends nulls : List ℕ) where
    row_cell : (row : ℕ) (null : Bool) (n : N) → IsRead p values nulls row null n → cell (types.Primitive p m) values start ends nulls row ≡ cell_by (types.Primitive p m) (Ok null) (Ok (scalar_of number n))
    row_cell row null n q =
        let there : fixed values (number_width p) row ≡ Some q.bytes = ap (λ w. fixed values w row) (sym q.of_type) ∙ sym q.there in
        rw (sym q.told, there, sym q.made) refl

    pub row_read : (row count : ℕ) (range : Option (Range N)) (null : Bool) (n : N) (next : Option (Range N)) → HasRead (scalar_of number) (types.Primitive p m) (cell (types.Primitive p m) values start ends nulls) row count range
        → IsRead p values nulls row null n → (null && not (allows_null m)) ≡ false → (null ≡ true → next ≡ range)
        → (null ≡ false → (xs : List (Option ScalarValue)) → IsOptionalRangeOf (scalar_of number) range xs → IsOptionalRangeOf (scalar_of number) next (xs ++ Some (scalar_of number n) ∷ []))
        → HasRead (scalar_of number) (types.Primitive p m) (cell (types.Primitive p m) values start ends nulls) (row + 1) (count + from_bool null) next
    row_read row count range null n next so_far q may kept ranged =
        goes_on (scalar_of number) (types.Primitive p m) (cell (types.Primitive p m) values start ends nulls) row count range so_far null n next (row_cell row null n q) may q.fits kept ranged

  -- ---- rows without nulls

  module _ (p : PType) (m : Nullability) (values : List ℕ) (start : ℕ) (ends : List ℕ) where
    abbrev t : DType
    t = types.Primitive p m

    by_bytes : (row : ℕ) (n : N) (o : Option (List ℕ)) → o ≡ fixed values (number_width p) row → Some (number n) ≡ number_from p o → IsTrue (is_number p (number n)) → IsRead p values [] row false n
    by_bytes row n None there made fits = absurd cc
    by_bytes row n (Some bytes) there made fits = record { width = number_width p; bytes = bytes; of_type = refl; there = there; made = made; fits = fits; told = refl }

    -- no rows
    pub none_read : HasRead (scalar_of number) t (cell t values start ends []) 0 0 None
    none_read = record { values = []; all = refl; fits = refl; counted = refl; within = omega arith; ranged = refl }

    -- one more row of numbers none of which is null
    pub plain_read : (row : ℕ) (range : Option (Range N)) (n : N) (next : Option (Range N)) → HasRead (scalar_of number) t (cell t values start ends []) row 0 range → Some (number n) ≡ number_at p values row → IsTrue (is_number p (number n))
        → ((xs : List (Option ScalarValue)) → IsOptionalRangeOf (scalar_of number) range xs → IsOptionalRangeOf (scalar_of number) next (xs ++ Some (scalar_of number n) ∷ []))
        → HasRead (scalar_of number) t (cell t values start ends []) (row + 1) 0 next
    plain_read row range n next so_far made fits ranged =
        row_read p m values start ends [] row 0 range false n next so_far (by_bytes row n (fixed values (number_width p) row) refl made fits) refl (λ e. absurd cc) (λ e. ranged)

-- ---- all rows

module _ {N : Type 0} (scalar : N → ScalarValue) where
  -- the column of values that were all read
  pub column_read : (t : DType) (v : Values) (count : ℕ) (range : Option (Range N)) (e : Extent)
      → (so_far : HasRead scalar t (cell t v.values.now v.start v.ends.now v.nulls.now) v.rows count range)
      → ((c : ColumnData) → count ≡ null_count c.values → IsOptionalRangeOf scalar range c.values → IsExtentOf e c)
      → (c : ColumnData) × (read_column t v ≡ Ok c) × IsExtentOf e c
  column_read t v count range e so_far is =
      let c : ColumnData = record { dtype = t; values = so_far.values; size = v.size } in
      (c, followed_read _ (column_of t v.size) so_far.values so_far.all ∙ ap (λ b. cond b (Ok c) (Err (at_row BadValue 0))) so_far.fits, is c so_far.counted so_far.ranged)

pub empty_extent : (c : ColumnData) (count : ℕ) → count ≡ null_count c.values → present c.values ≡ [] → IsExtentOf (record { nulls = count; least = None; greatest = None }) c
empty_extent c count counted none = record { nulls = counted; least = sym (ap min_value none); greatest = sym (ap max_value none) }

pub full_extent : (c : ColumnData) (count : ℕ) (r : Range ValueRef) → count ≡ null_count c.values → IsRangeOf value_of r c.values → IsExtentOf (record { nulls = count; least = Some r.least; greatest = Some r.greatest }) c
full_extent c count r counted q = record {
  nulls = counted;
  least = sym (least_is c.values (value_of r.least) q.least_within q.none_below);
  greatest = sym (greatest_is c.values (value_of r.greatest) q.greatest_within q.none_above);
}

-- a range of numbers, each as a value that is lent
pub number_range : {N : Type 0} (number : N → PValue) (r : Range N) (xs : List (Option ScalarValue)) → IsRangeOf (scalar_of number) r xs → IsRangeOf value_of (record { least = lent.Primitive (number r.least); greatest = lent.Primitive (number r.greatest) }) xs
number_range number r xs q = record { least_within = q.least_within; none_below = q.none_below; greatest_within = q.greatest_within; none_above = q.none_above }

-- ---- texts and byte strings

-- bytes that are UTF-8 are a text
pub text_read : (n : Nullability) (bytes text : List ℕ) → IsUtf8 bytes → text ≡ bytes → value_of_bytes (types.Utf8 n) bytes ≡ Ok (value.Utf8 text)
text_read n bytes text is same = ap (λ b. cond b (Ok (value.Utf8 bytes)) (Err BadValue)) (is_utf8-from_IsUtf8 bytes is) ∙ ap (λ t. Ok (value.Utf8 t)) (sym same)

pub text_fits : (n : Nullability) (bytes text : List ℕ) → IsUtf8 bytes → text ≡ bytes → IsTrue (is_value (value.Utf8 text) (types.Utf8 n))
text_fits n bytes text is same = rw same (is_utf8-from_IsUtf8 bytes is)

-- of another type than null the optional value of a row goes by its mark and its bytes
lent_cell : (t : DType) (values : List ℕ) (start : ℕ) (ends nulls : List ℕ) (row : ℕ) → IsTrue (is_lent t) → cell t values start ends nulls row ≡ cell_by t (is_null nulls row) (value_at t values start ends row)
lent_cell types.Null values start ends nulls row is = absurd cc
lent_cell (types.Bool n) values start ends nulls row is = refl
lent_cell (types.Primitive p n) values start ends nulls row is = refl
lent_cell (types.Utf8 n) values start ends nulls row is = refl
lent_cell (types.Binary n) values start ends nulls row is = refl
lent_cell (types.MinMaxState e n) values start ends nulls row is = refl

module _ (t : DType) (v : Values) (lends : IsTrue (is_lent t)) (row count : ℕ) (range : Option (Range ValueRef)) where
  abbrev read : ℕ → Result (Option ScalarValue) Status
  read = cell t v.values.now v.start v.ends.now v.nulls.now

  -- one more row that is null
  pub lent_null : HasRead value_of t read row count range → Ok true ≡ is_null v.nulls.now row → is_nullable t ≡ true → HasRead value_of t read (row + 1) (count + 1) range
  lent_null so_far null may =
      null_read value_of t read row count range so_far
      (lent_cell t v.values.now v.start v.ends.now v.nulls.now row lends ∙ ap (λ r. cell_by t r (value_at t v.values.now v.start v.ends.now row)) (sym null) ∙ ap (λ b. cond b (Ok None) (Err BadNull)) may) may

  -- one more row that holds a value
  pub lent_value : (next : Range ValueRef) (value : ValueRef) → HasRead value_of t read row count range → Ok false ≡ is_null v.nulls.now row → value_at t v.values.now v.start v.ends.now row ≡ Ok (value_of value) → is_value (value_of value) t ≡ true
      → ((xs : List (Option ScalarValue)) → IsOptionalRangeOf value_of range xs → IsRangeOf value_of next (xs ++ Some (value_of value) ∷ []))
      → HasRead value_of t read (row + 1) count (Some next)
  lent_value next value so_far null at fits ranged =
      let same : count + 0 ≡ count = omega arith in
      subst (λ k. HasRead value_of t read (row + 1) k (Some next)) same
      (value_read value_of t read row count range so_far (Some next) value
      (lent_cell t v.values.now v.start v.ends.now v.nulls.now row lends ∙ ap (λ r. cell_by t r (value_at t v.values.now v.start v.ends.now row)) (sym null) ∙ ap present_cell at)
      fits (ranged so_far.values so_far.ranged))

-- ---- the statistics that are told of a column

-- a column that was made has the type and the size that were handed in
pub column_made : (t : DType) (v : Values) (c : ColumnData) → read_column t v ≡ Ok c → (c.dtype ≡ t) × (c.size ≡ v.size)
column_made t v c h =
    let q = followed_from (cells t v.values.now v.start v.ends.now v.nulls.now v.rows) (column_of t v.size) c h in
    made (all_fit t q.at) q.at q.then
  where
    made : (b : Bool) (xs : List (Option ScalarValue)) → cond b (Ok (record { dtype = t; values = xs; size = v.size })) (Err (at_row BadValue 0)) ≡ Ok c → (c.dtype ≡ t) × (c.size ≡ v.size)
    made true xs e = let same : record { dtype = t; values = xs; size = v.size } ≡ c = cc in (sym (ap (λ d. d.dtype) same), sym (ap (λ d. d.size) same))
    made false xs e = absurd (cc)

among_itself : (s : Stat) (front rest : List Stat) → is_among s (front ++ s ∷ rest) ≡ true
among_itself s [] rest = ap (λ b. b || is_among s rest) (stat_eq-itself s)
among_itself s (t ∷ front) rest = rw (among_itself s front rest) (or_true (stat_eq s t))
  where
    or_true : (b : Bool) → (b || true) ≡ true
    or_true true = refl
    or_true false = refl

module _ (c : ColumnData) where
  told_from : (front us : List Stat) → slots_in c.dtype (measured (front ++ us) c) us ≡ map (λ s. slot_of c.dtype s (told c s)) us
  told_from front [] = refl
  told_from front (s ∷ us) =
      let here : entry_value s (measured (front ++ s ∷ us) c) ≡ told c s = entry_value-measured c s (front ++ s ∷ us) ∙ ap (λ b. cond b (told c s) Absent) (among_itself s front us) in
      let later : slots_in c.dtype (measured (front ++ s ∷ us) c) us ≡ map (λ s. slot_of c.dtype s (told c s)) us = ap (λ ss. slots_in c.dtype (measured ss c) us) (sym (append_assoc front (s ∷ []) us)) ∙ told_from (front ++ s ∷ []) us in
      ap (λ p. slot_of c.dtype s p ∷ slots_in c.dtype (measured (front ++ s ∷ us) c) us) here ∙ ap (λ l. slot_of c.dtype s (told c s) ∷ l) later

  -- each wanted statistic is told as the column has it
  pub slots_told : (wanted : List Stat) → slots_of c wanted ≡ map (λ s. slot_of c.dtype s (told c s)) wanted
  slots_told wanted = told_from [] wanted
