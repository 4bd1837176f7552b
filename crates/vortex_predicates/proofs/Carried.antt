-- Values within known bounds satisfy a predicate exactly if some satisfy one that the same rows satisfy and that has no other column.
use Rattle.std.proofs.Common.{◌≡◌, ◌<◌, ◌+◌, lit<, ℕ, zero, suc, Bool, true, false, List, [], ◌∷◌, Option, Some, None, length, map, option_map, refl, sym, ap, ◌∙◌, subst, arith}
use Rattle.std.specs.Prelude.{MatchOption, slice_get}
use Rattle.std.specs.List.{AllByRecursion, list_all, range_with_len}
use Rattle.std.proofs.lemmas.Bool.{not-true}
use Rattle.std.proofs.lemmas.List.FromFn.{get_or-range_with_len, length-range_with_len}
use Rattle.std.proofs.lemmas.Option.{none-some, same_Some, slice_get-get_or, slice_get-map, slice_get_within}
use Rattle.vortex_base.specs.Data.Columns.{IsRow, cell_value}
use Rattle.vortex_base.specs.Data.Exact.{both_hold}
use Rattle.vortex_base.specs.Data.Scalars.{Constant, is_optional_value, null_of}
use Rattle.vortex_base.specs.Data.Scopes.{Named}
use Rattle.vortex_base.specs.Data.Types.{as_nullable, dtype_eq_is_exact, eq_ignore_nullability}
use Rattle.vortex_base.specs.Data.Values.{is_value, value_cmp}
use Rattle.vortex_expr.specs.Meanings.Fitting.{is_cell_of, is_of_type}
use Rattle.vortex_expr.specs.Meanings.Meaning.{is_true, satisfies}
use Rattle.vortex_expr.specs.Trees.Tree.{Tree, Place, is_plain}
use Rattle.vortex_base.specs.declared.dtype.DType.{DType}
use Rattle.vortex_base.specs.declared.dtype.DType.TheVariants as dtype
use Rattle.vortex_base.specs.declared.scalar_value.ScalarValue.{ScalarValue}
use Rattle.vortex_zone_map.proofs.ZoneLemmas.{zone_set_fits}
use Rattle.vortex_zone_map.specs.Zone.{Entries, IsZone, ZoneData}
use Rattle.vortex_prune.specs.Scanning.Complete.{IsKnownBy}
use Rattle.vortex_rewrite.proofs.Completeness.Choices.{RowsAgree, all_map, all_map_both, meaning_agreed}
use Rattle.vortex_rewrite.proofs.Soundness.ValueTests.{le_refl}
use Rattle.vortex_rewrite.specs.Rewriting.ReadOnce.{Box, IsSatisfiable, IsWithin, columns_of, has_index}
use Rattle.vortex_stats.proofs.Kit.{entry_value-fits}
use Rattle.vortex_stats.specs.Bounds.Order.{AtMost}
use Rattle.vortex_stats.specs.Precision.{present_value}
use Rattle.vortex_stats.specs.Sets.Entries.{entry_value, is_value_of, value_fits}
use Rattle.vortex_stats.specs.Stat.{extreme_dtype, stat_dtype}
use Rattle.vortex_stats.specs.declared.precision.Precision.{Precision}
use Rattle.vortex_stats.specs.declared.precision.Precision.TheVariants.{Exact, Inexact, Absent}
use Rattle.vortex_stats.specs.declared.stat.Stat.{Stat}
use Rattle.vortex_stats.specs.declared.stat.Stat.TheVariants.{Min}
use Rattle.vortex_normal.proofs.Columns.{all_indexed, carried_columns, each_column, indexed_in, no_placeholder, plain_columns}
use Rattle.vortex_normal.specs.Same.{HasNoOther, Same}
use Rattle.vortex_predicates.proofs.Full.{any_count, no_count}
use Rattle.vortex_predicates.specs.Carried.{SatisfiabilityIsCarried}

-- ---- rows of values for the columns of a scope

abbrev pub type_at : Option Named → DType
type_at None = dtype.Null
type_at (Some n) = n.1

pub scoped_type : (o : Option Named) (t : DType) → is_of_type t o ≡ true → type_at o ≡ t
scoped_type None t h = cc
scoped_type (Some n) t h = (dtype_eq_is_exact n.1 t).0 h

pub scoped_there : (scope : List Named) (i : ℕ) (t : DType) (o : Option Named) → slice_get scope i ≡ o → is_of_type t o ≡ true → i < length scope
scoped_there scope i t None e h = cc
scoped_there scope i t (Some n) e h = slice_get_within scope i n e

pub number_at : (m i : ℕ) → i < m → slice_get (range_with_len 0 m) i ≡ Some i
number_at m i h =
    let long : i < length (range_with_len 0 m) = rw (length-range_with_len 0 m) h in
    let same : 0 + i ≡ i = omega arith in
    slice_get-get_or (range_with_len 0 m) i 0 long ∙ ap Some (get_or-range_with_len 0 m i 0 h ∙ same)

pub all_made : (test : Constant → Bool) (make : ℕ → Constant) (a n : ℕ) → ((i : ℕ) → test (make i) ≡ true) → list_all test (map make (range_with_len a n)) ≡ true
all_made test make a zero f = refl
all_made test make a (suc n) f = both_hold _ _ (f a) (all_made test make (a + 1) n f)

kinds_same : (t : DType) → eq_ignore_nullability t t ≡ true
kinds_same t = (dtype_eq_is_exact (as_nullable t) (as_nullable t)).1 refl

-- a column of a scope, with a value of its type within its bounds for it
record IsChosen (scope : List Named) (box : Box) (f : ℕ → ScalarValue) (c : Place) : Type 0 where
  pub scoped : is_of_type c.dtype (slice_get scope c.index) ≡ true
  pub of_type : is_value (f c.index) c.dtype ≡ true
  pub above_low : AtMost value_cmp (box.low c.index) (f c.index)
  pub below_high : AtMost value_cmp (f c.index) (box.high c.index)

module _ (scope : List Named) (box : Box) (f : ℕ → ScalarValue) (cs : List Place) (chosen : AllByRecursion (IsChosen scope box f) cs) where
  abbrev typed : Bool → ℕ → Constant
  typed true i = record { dtype = type_at (slice_get scope i); value = Some (f i) }
  typed false i = null_of dtype.Null

  abbrev cell_of : ℕ → Constant
  cell_of i = typed (has_index i cs) i

  abbrev own_row : List Constant
  own_row = map cell_of (range_with_len 0 (length scope))

  cell_fits : (i : ℕ) (b : Bool) → has_index i cs ≡ b → is_optional_value (typed b i).value (typed b i).dtype ≡ true
  cell_fits i true e =
      let w = indexed_in (IsChosen scope box f) i cs e chosen in
      subst (λ j. is_value (f j) (type_at (slice_get scope j)) ≡ true) w.1
      (ap (is_value (f w.0.index)) (scoped_type (slice_get scope w.0.index) w.0.dtype w.2.scoped) ∙ w.2.of_type)
  cell_fits i false e = refl

  own_is_row : IsRow own_row
  own_is_row = all_made (λ c. is_optional_value c.value c.dtype) cell_of 0 (length scope) (λ i. cell_fits i (has_index i cs) refl)

  own_cell : (c : Place) → IsChosen scope box f c → has_index c.index cs ≡ true → slice_get own_row c.index ≡ Some (typed true c.index)
  own_cell c h there =
      slice_get-map cell_of (range_with_len 0 (length scope)) c.index
      ∙ ap (option_map cell_of) (number_at (length scope) c.index (scoped_there scope c.index c.dtype (slice_get scope c.index) refl h.scoped))
      ∙ ap (λ b. Some (typed b c.index)) there

  own_value : (c : Place) → IsChosen scope box f c → has_index c.index cs ≡ true → cell_value (slice_get own_row c.index) ≡ Some (f c.index)
  own_value c h there = ap cell_value (own_cell c h there)

  own_within : AllByRecursion (IsWithin box own_row) cs
  own_within =
      all_map_both (IsChosen scope box f) (λ c. has_index c.index cs ≡ true) (IsWithin box own_row) cs
      (λ c h there. record {
        chosen = f c.index;
        cell = own_value c h there;
        of_type = h.of_type;
        above_low = h.above_low;
        below_high = h.below_high;
      })
      chosen (all_indexed cs)

  own_fits : AllByRecursion (λ c. is_cell_of c.dtype (slice_get own_row c.index) ≡ true) cs
  own_fits =
      all_map_both (IsChosen scope box f) (λ c. has_index c.index cs ≡ true) (λ c. is_cell_of c.dtype (slice_get own_row c.index) ≡ true) cs
      (λ c h there.
      ap (is_cell_of c.dtype) (own_cell c h there)
      ∙ ap (λ t. eq_ignore_nullability t c.dtype) (scoped_type (slice_get scope c.index) c.dtype h.scoped)
      ∙ kinds_same c.dtype)
      chosen (all_indexed cs)

-- ---- the values of a row for some columns, and low values for the others

abbrev value_or : ScalarValue → Option ScalarValue → ScalarValue
value_or d None = d
value_or d (Some v) = v

-- a column of a scope, whose low is of its type and at most its high
pub record IsBounded (scope : List Named) (box : Box) (c : Place) : Type 0 where
  pub scoped : is_of_type c.dtype (slice_get scope c.index) ≡ true
  pub low : is_value (box.low c.index) c.dtype ≡ true
  pub order : AtMost value_cmp (box.low c.index) (box.high c.index)

module _ (scope : List Named) (box : Box) (row : List Constant) (ds : List Place) (within : AllByRecursion (IsWithin box row) ds) (scoped : AllByRecursion (λ d. is_of_type d.dtype (slice_get scope d.index) ≡ true) ds) where
  abbrev kept : Bool → ℕ → ScalarValue
  kept true i = value_or (box.low i) (cell_value (slice_get row i))
  kept false i = box.low i

  abbrev extended : ℕ → ScalarValue
  extended i = kept (has_index i ds) i

  extended_at : (i : ℕ) (b : Bool) → has_index i ds ≡ b → extended i ≡ kept b i
  extended_at i b e = ap (λ b. kept b i) e

  kept_value : (d : Place) (h : IsWithin box row d) → kept true d.index ≡ h.chosen
  kept_value d h = ap (value_or (box.low d.index)) h.cell

  both_all : (cs : List Place) → AllByRecursion (IsWithin box row) cs → AllByRecursion (λ d. is_of_type d.dtype (slice_get scope d.index) ≡ true) cs
      → AllByRecursion (λ d. IsWithin box row d × (is_of_type d.dtype (slice_get scope d.index) ≡ true)) cs
  both_all cs h k = all_map_both (IsWithin box row) (λ d. is_of_type d.dtype (slice_get scope d.index) ≡ true) (λ d. IsWithin box row d × (is_of_type d.dtype (slice_get scope d.index) ≡ true)) cs (λ d a b. (a, b)) h k

  chosen_at : (c d : Place) → d.index ≡ c.index → IsWithin box row d → is_of_type d.dtype (slice_get scope d.index) ≡ true → is_of_type c.dtype (slice_get scope c.index) ≡ true → IsChosen scope box (kept true) c
  chosen_at c d e h k s =
      let types : d.dtype ≡ c.dtype =
      sym (scoped_type (slice_get scope d.index) d.dtype k) ∙ ap (λ i. type_at (slice_get scope i)) e ∙ scoped_type (slice_get scope c.index) c.dtype s in
      let value : kept true c.index ≡ h.chosen = sym (ap (kept true) e) ∙ kept_value d h in
      record {
        scoped = s;
        of_type = ap (λ v. is_value v c.dtype) value ∙ sym (ap (is_value h.chosen) types) ∙ h.of_type;
        above_low = subst (λ (v : ScalarValue). AtMost value_cmp (box.low c.index) v) (sym value) (subst (λ (i : ℕ). AtMost value_cmp (box.low i) h.chosen) e h.above_low);
        below_high = subst (λ (v : ScalarValue). AtMost value_cmp v (box.high c.index)) (sym value) (subst (λ (i : ℕ). AtMost value_cmp h.chosen (box.high i)) e h.below_high);
      }

  moved : (f g : ℕ → ScalarValue) (c : Place) → f c.index ≡ g c.index → IsChosen scope box g c → IsChosen scope box f c
  moved f g c e h = record {
    scoped = h.scoped;
    of_type = ap (λ v. is_value v c.dtype) e ∙ h.of_type;
    above_low = subst (λ (v : ScalarValue). AtMost value_cmp (box.low c.index) v) (sym e) h.above_low;
    below_high = subst (λ (v : ScalarValue). AtMost value_cmp v (box.high c.index)) (sym e) h.below_high;
  }

  extended_chosen : (c : Place) → IsBounded scope box c → (b : Bool) → has_index c.index ds ≡ b → IsChosen scope box extended c
  extended_chosen c k true e =
      let w = indexed_in (λ d. IsWithin box row d × (is_of_type d.dtype (slice_get scope d.index) ≡ true)) c.index ds e (both_all ds within scoped) in
      moved extended (kept true) c (extended_at c.index true e) (chosen_at c w.0 w.1 w.2.0 w.2.1 k.scoped)
  extended_chosen c k false e =
      moved extended box.low c (extended_at c.index false e)
      (record { scoped = k.scoped; of_type = k.low; above_low = not-true _ (le_refl (box.low c.index)); below_high = k.order })

  all_chosen : (cs : List Place) → AllByRecursion (IsBounded scope box) cs → AllByRecursion (IsChosen scope box extended) cs
  all_chosen cs h = all_map (IsBounded scope box) (IsChosen scope box extended) cs (λ c k. extended_chosen c k (has_index c.index ds) refl) h

  module _ (cs : List Place) (bounded : AllByRecursion (IsBounded scope box) cs) (inside : AllByRecursion (λ d. has_index d.index cs ≡ true) ds) where
    abbrev extended_row : List Constant
    extended_row = own_row scope box extended cs (all_chosen cs bounded)

    agree_at : (d : Place) → IsWithin box row d → has_index d.index cs ≡ true → has_index d.index ds ≡ true → cell_value (slice_get extended_row d.index) ≡ cell_value (slice_get row d.index)
    agree_at d h there here =
        let w = indexed_in (IsBounded scope box) d.index cs there bounded in
        let chosen = extended_chosen w.0 w.2 (has_index w.0.index ds) refl in
        let told : cell_value (slice_get extended_row w.0.index) ≡ Some (extended w.0.index) =
        own_value scope box extended cs (all_chosen cs bounded) w.0 chosen (ap (λ i. has_index i cs) w.1 ∙ there) in
        subst (λ i. cell_value (slice_get extended_row i) ≡ Some (extended i)) w.1 told
        ∙ ap Some (extended_at d.index true here ∙ kept_value d h)
        ∙ sym h.cell

    agree : RowsAgree extended_row row ds
    agree =
        all_map_both (λ d. IsWithin box row d × (has_index d.index cs ≡ true)) (λ d. has_index d.index ds ≡ true) (λ d. cell_value (slice_get extended_row d.index) ≡ cell_value (slice_get row d.index)) ds
        (λ d h here. agree_at d h.0 h.1 here)
        (all_map_both (IsWithin box row) (λ d. has_index d.index cs ≡ true) (λ d. IsWithin box row d × (has_index d.index cs ≡ true)) ds (λ d a b. (a, b)) within inside)
        (all_indexed ds)

-- ---- the low values of a zone are of their columns' types

pub present_fits : (s : Stat) (t : DType) (p : Precision ScalarValue) (v : ScalarValue) → present_value p ≡ Some v → value_fits s t p ≡ true → is_value_of (stat_dtype s t) v ≡ true
present_fits s t (Exact w) v is h = subst (λ x. is_value_of (stat_dtype s t) x ≡ true) (same_Some _ _ is) h
present_fits s t (Inexact w) v is h = subst (λ x. is_value_of (stat_dtype s t) x ≡ true) (same_Some _ _ is) h
present_fits s t Absent v is h = absurd (none-some v is)

pub extreme_fits : (t : DType) (v : ScalarValue) → is_value_of (extreme_dtype t) v ≡ true → is_value v t ≡ true
extreme_fits dtype.Null v h = cc
extreme_fits (dtype.Bool n) v h = h
extreme_fits (dtype.Primitive p n) v h = h
extreme_fits (dtype.Utf8 n) v h = h
extreme_fits (dtype.Binary n) v h = h
extreme_fits (dtype.MinMaxState e n) v h = h

pub set_there : (P : Entries → Type 0) (o : Option Entries) → MatchOption o ⊥ P → (es : Entries) × (o ≡ Some es) × P es
set_there P (Some es) h = (es, refl, h)
set_there P None h = absurd h

pub name_there : (o : Option Named) (t : DType) → is_of_type t o ≡ true → (n : Named) × (o ≡ Some n) × (n.1 ≡ t)
name_there None t h = cc
name_there (Some n) t h = (n, refl, (dtype_eq_is_exact n.1 t).0 h)

module _ (scope : List Named) (zone : ZoneData) (box : Box) (is_zone : IsZone scope zone) where
  pub bounded_at : (c : Place) → is_of_type c.dtype (slice_get scope c.index) ≡ true → MatchOption (slice_get zone.stats c.index) ⊥ (IsKnownBy box c.index) → AtMost value_cmp (box.low c.index) (box.high c.index) → IsBounded scope box c
  bounded_at c s known order =
      let n = name_there (slice_get scope c.index) c.dtype s in
      let es = set_there (IsKnownBy box c.index) (slice_get zone.stats c.index) known in
      let fits = zone_set_fits scope zone.stats c.index n.0 es.0 is_zone n.1 es.1 in
      record {
        scoped = s;
        low = subst (λ t. is_value (box.low c.index) t ≡ true) n.2
            (extreme_fits n.0.1 (box.low c.index) (present_fits Min n.0.1 (entry_value Min es.0) (box.low c.index) es.2.0 (entry_value-fits Min n.0.1 es.0 fits)));
        order = order;
      }

  all_bounded : (cs : List Place) → AllByRecursion (λ c. is_of_type c.dtype (slice_get scope c.index) ≡ true) cs → AllByRecursion (λ c. MatchOption (slice_get zone.stats c.index) ⊥ (IsKnownBy box c.index)) cs
      → AllByRecursion (λ c. AtMost value_cmp (box.low c.index) (box.high c.index)) cs → AllByRecursion (IsBounded scope box) cs
  all_bounded [] s known order = tt
  all_bounded (c ∷ cs) s known order = (bounded_at c s.0 known.0 order.0, all_bounded cs s.1 known.1 order.1)

-- ---- the two predicates

module _ (p q : Tree Place) (plain_p : is_plain p ≡ true) (plain_q : is_plain q ≡ true) (same : Same p q) (other : HasNoOther p q) (scope : List Named) (box : Box) (n : ℕ) (scoped : AllByRecursion (λ c. is_of_type c.dtype (slice_get scope c.index) ≡ true) (columns_of p)) (bounded : AllByRecursion (IsBounded scope box) (columns_of p)) where
  abbrev own : List Place
  own = columns_of p

  counted : (e : Tree Place) → is_plain e ≡ true → (row : List Constant) (m k : ℕ) → satisfies e row m ≡ satisfies e row k
  counted e plain row m k = ap is_true (any_count row m k e (no_count e plain))

  module _ (row : List Constant) (ds : List Place) (within : AllByRecursion (IsWithin box row) ds) (scoped_ds : AllByRecursion (λ d. is_of_type d.dtype (slice_get scope d.index) ≡ true) ds) (inside : AllByRecursion (λ d. has_index d.index own ≡ true) ds) where
    abbrev full_row : List Constant
    full_row = extended_row scope box row ds within scoped_ds own bounded inside

    abbrev choices : AllByRecursion (IsChosen scope box (extended scope box row ds within scoped_ds)) own
    choices = all_chosen scope box row ds within scoped_ds own bounded

    full_same : satisfies q full_row n ≡ satisfies p full_row n
    full_same =
        counted q plain_q full_row n 0
        ∙ same full_row 0
        (own_is_row scope box (extended scope box row ds within scoped_ds) own choices)
        (plain_columns (λ c. is_cell_of c.dtype (slice_get full_row c.index)) p (no_placeholder p plain_p) (own_fits scope box (extended scope box row ds within scoped_ds) own choices))
        (lit< tt)
        ∙ counted p plain_p full_row 0 n

    full_within : AllByRecursion (IsWithin box full_row) own
    full_within = own_within scope box (extended scope box row ds within scoped_ds) own choices

    full_agrees : RowsAgree full_row row ds
    full_agrees = agree scope box row ds within scoped_ds own bounded inside

  indexed_q : AllByRecursion (λ d. has_index d.index own ≡ true) (columns_of q)
  indexed_q = carried_columns p q plain_p other (λ d. has_index d.index own ≡ true) (all_indexed own)

  scoped_q : AllByRecursion (λ d. is_of_type d.dtype (slice_get scope d.index) ≡ true) (columns_of q)
  scoped_q = carried_columns p q plain_p other (λ d. is_of_type d.dtype (slice_get scope d.index) ≡ true) scoped

  back : IsSatisfiable q box n → IsSatisfiable p box n
  back s = (
    full_row s.0 (columns_of q) s.1 scoped_q indexed_q,
    full_within s.0 (columns_of q) s.1 scoped_q indexed_q,
    sym (full_same s.0 (columns_of q) s.1 scoped_q indexed_q)
        ∙ ap is_true (meaning_agreed (full_row s.0 (columns_of q) s.1 scoped_q indexed_q) s.0 n q (full_agrees s.0 (columns_of q) s.1 scoped_q indexed_q))
        ∙ s.2,
  )

  forth : IsSatisfiable p box n → IsSatisfiable q box n
  forth s = (
    full_row s.0 own s.1 scoped (all_indexed own),
    carried_columns p q plain_p other (IsWithin box (full_row s.0 own s.1 scoped (all_indexed own))) (full_within s.0 own s.1 scoped (all_indexed own)),
    full_same s.0 own s.1 scoped (all_indexed own)
        ∙ ap is_true (meaning_agreed (full_row s.0 own s.1 scoped (all_indexed own)) s.0 n p (full_agrees s.0 own s.1 scoped (all_indexed own)))
        ∙ s.2,
  )

pub satisfiability_is_carried : SatisfiabilityIsCarried
satisfiability_is_carried p q scope zone box plain same other stays is_zone fits is_box order =
    let scoped = each_column (λ c. is_of_type c.dtype (slice_get scope c.index)) p fits in
    let bounded = all_bounded scope zone box is_zone (columns_of p) scoped is_box order in
    (back p q plain (stays plain) same other scope box zone.rows scoped bounded, forth p q plain (stays plain) same other scope box zone.rows scoped bounded)
