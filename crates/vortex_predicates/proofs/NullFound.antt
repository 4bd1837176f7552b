-- Pruning misses nothing by what the null counts and the bounds of a zone say.
use Rattle.std.proofs.Common.{◌≡◌, ◌≤◌, lit<, ◌⊎◌, inl, inr, ℕ, Bool, true, false, ◌||◌, List, [], ◌∷◌, length, map, nat_lt, option_map, Option, Some, None, IsTrue, refl, sym, ap, subst, ◌∙◌, if◌then◌else◌}
use Rattle.std.specs.Prelude.{Contains, MatchOption, slice_get}
use Rattle.std.specs.List.{AllByRecursion, range_with_len}
use Rattle.std.proofs.lemmas.Bool.{and_parts, ltb-false, ltb-true}
use Rattle.std.proofs.lemmas.List.FromFn.{length-range_with_len}
use Rattle.std.proofs.lemmas.Option.{slice_get-map, slice_get_past}
use Rattle.vortex_base.specs.Data.Columns.{IsRow, cell_value}
use Rattle.vortex_base.specs.Data.Scalars.{Constant, is_optional_value}
use Rattle.vortex_base.specs.Data.Scopes.{Named}
use Rattle.vortex_base.specs.Data.Types.{as_nullable, dtype_eq_is_exact}
use Rattle.vortex_base.specs.declared.dtype.DType.TheVariants as dtype
use Rattle.vortex_base.specs.declared.scalar_value.ScalarValue.{ScalarValue}
use Rattle.vortex_base.specs.declared.scalar_value.ScalarValue.TheVariants as value
use Rattle.vortex_expr.specs.Meanings.Fitting.{fits_row, fits_scope, is_cell_of, is_of_type}
use Rattle.vortex_expr.specs.Meanings.Meaning.{is_true, meaning, truth}
use Rattle.vortex_expr.specs.Trees.Tree.{Tree, Place, column, binary, like, has_bare_column, is_plain}
use Rattle.vortex_expr.specs.declared.scalar_fn.Operator.TheVariants.{Eq, NotEq, Gt, Gte, Lt, Lte, And, Or}
use Rattle.vortex_normal.proofs.Columns.{all_indexed, carried_columns, each_column, no_placeholder, plain_columns}
use Rattle.vortex_normal.specs.Groups.{normal}
use Rattle.vortex_normal.specs.Strict.{agreed, body, both_valued, narrow_test, rests_on, sides_valued, strict, strict_test, valued}
use Rattle.vortex_normal.specs.Tested.{passes}
use Rattle.vortex_predicates.proofs.Carried.{all_made, number_at, scoped_there, scoped_type, type_at}
use Rattle.vortex_predicates.proofs.Found.{skip_closed, true_skipped, true_whole, whole_closed}
use Rattle.vortex_predicates.proofs.Full.{any_count, no_count}
use Rattle.vortex_predicates.proofs.JointTrue.{joint_rest, joint_second}
use Rattle.vortex_predicates.proofs.NullChoices.{Cell, Chosen, Good, Known, Takes, good, place_same}
use Rattle.vortex_predicates.proofs.RightProofs.{passing_true}
use Rattle.vortex_predicates.specs.EqualBounds.{form_proof, has_column_like, joint_unless_built_in, leaf_proof}
use Rattle.vortex_predicates.specs.Joint.{joint}
use Rattle.vortex_predicates.specs.NullBoxes.{FindsCertain, HasTestForms, IsCertain, IsNullBoxOf, IsNullKnownBy, IsPossible, IsPossibleCell, IsPossibleRow, NullBox, SkipsImpossible, is_null_apart, is_null_decided, is_simple_or_null}
use Rattle.vortex_predicates.specs.Pruning.{IsTestForm, is_test_within, skip_proof, skipped_places, test_proof, unless_deep, whole_places, whole_proof}
use Rattle.vortex_prune.specs.Binding.PartAnswers.{told_values}
use Rattle.vortex_zone_map.specs.Zone.{AreZonesOf, IsZone, ZoneData}
use Rattle.vortex_prune.specs.Scanning.Selection.{proves_of}
use Rattle.vortex_prune.specs.Scanning.ZoneScans.{zone_verdicts}
use Rattle.vortex_prune.specs.declared.scan.verdict.Verdict.{Verdict}
use Rattle.vortex_rewrite.proofs.Completeness.Choices.{all_map, all_map_both}
use Rattle.vortex_rewrite.proofs.Rewriting.ShutProofs.{built_in_is_shut}
use Rattle.vortex_rewrite.proofs.Soundness.TruthLogic.{clash}
use Rattle.vortex_rewrite.specs.Rewriting.Falsifiers.{falsifier, satisfier}
use Rattle.vortex_rewrite.specs.Rewriting.Proof.{is_open, value_under}
use Rattle.vortex_rewrite.specs.Rewriting.ReadOnce.{are_sides_apart, columns_of, has_index}
use Rattle.vortex_rewrite.specs.StateTypes.{as_nullable-again}

-- ---- strict forms of such predicates have no LIKE

neither : (a b : Bool) → a ≡ false → b ≡ false → (a || b) ≡ false
neither true b h k = cc
neither false b h k = k

valued_unlike : (o : Option (Tree Place)) (e : Tree Place) → has_column_like e ≡ false → has_column_like (valued o e) ≡ false
valued_unlike None e h = h
valued_unlike (Some c) e h = neither (has_column_like e) false h refl

both_unlike : (l r e : Tree Place) → has_column_like e ≡ false → has_column_like (both_valued l r e) ≡ false
both_unlike (column c) (column d) e h = neither (has_column_like e || false) false (neither (has_column_like e) false h refl) refl
both_unlike l r e h = h

and_unlike : (s a b : Option (Tree Place)) (l r : Tree Place) → has_column_like l ≡ false → has_column_like r ≡ false → has_column_like (sides_valued And s a b l r) ≡ false
and_unlike (Some c) a b l r h k = neither (has_column_like l) (has_column_like r) h k
and_unlike None a b l r h k = neither (has_column_like (valued a l)) (has_column_like (valued b r)) (valued_unlike a l h) (valued_unlike b r k)

or_unlike : (s a b : Option (Tree Place)) (l r : Tree Place) → has_column_like l ≡ false → has_column_like r ≡ false → has_column_like (sides_valued Or s a b l r) ≡ false
or_unlike (Some c) a b l r h k = neither (has_column_like l) (has_column_like r) h k
or_unlike None a b l r h k = neither (has_column_like (valued a l)) (has_column_like (valued b r)) (valued_unlike a l h) (valued_unlike b r k)

body_unlike : (q : Tree Place) → is_simple_or_null q ≡ true → has_column_like (body q) ≡ false
body_unlike (binary And l r) h =
    let k = and_parts (is_simple_or_null l) (is_simple_or_null r) h in
    and_unlike (agreed (rests_on l) (rests_on r)) (rests_on l) (rests_on r) (body l) (body r) (body_unlike l k.0) (body_unlike r k.1)
body_unlike (binary Or l r) h =
    let k = and_parts (is_simple_or_null l) (is_simple_or_null r) h in
    or_unlike (agreed (rests_on l) (rests_on r)) (rests_on l) (rests_on r) (body l) (body r) (body_unlike l k.0) (body_unlike r k.1)
body_unlike (binary Eq l r) h = both_unlike l r (binary Eq l r) refl
body_unlike (binary NotEq l r) h = both_unlike l r (binary NotEq l r) refl
body_unlike (binary Gt l r) h = both_unlike l r (binary Gt l r) refl
body_unlike (binary Gte l r) h = both_unlike l r (binary Gte l r) refl
body_unlike (binary Lt l r) h = both_unlike l r (binary Lt l r) refl
body_unlike (binary Lte l r) h = both_unlike l r (binary Lte l r) refl
body_unlike (like o x p) h = cc
body_unlike q h = refl

-- ---- truths that pass

untrue_passes : (v : Option ScalarValue) → passes false true (truth v) ≡ true → is_true v ≡ false
untrue_passes None h = refl
untrue_passes (Some (value.Bool true)) h = cc
untrue_passes (Some (value.Bool false)) h = refl
untrue_passes (Some (value.Primitive p)) h = refl
untrue_passes (Some (value.Utf8 bs)) h = refl
untrue_passes (Some (value.Binary bs)) h = refl

closed_told : (b : Bool) (v : Option ScalarValue) → b ≡ false → is_true v ≡ true → is_true (if b then None else v) ≡ true
closed_told true v h k = cc
closed_told false v h k = k

null_alone : (o : Option ScalarValue) → is_optional_value o dtype.Null ≡ true → o ≡ None
null_alone None h = refl
null_alone (Some (value.Bool b)) h = cc
null_alone (Some (value.Primitive n)) h = cc
null_alone (Some (value.Utf8 bs)) h = cc
null_alone (Some (value.Binary bs)) h = cc

module _ (p : Tree Place) (scope : List Named) (zone : ZoneData) (is_zone : IsZone scope zone) (fits : IsTrue (fits_scope p scope)) (plain : IsTrue (is_plain p)) (box : NullBox) (test : Tree Place) (of_zone : IsNullBoxOf zone p test box) where
  abbrev own : List Place
  own = columns_of p

  abbrev KnownHere : Place → Type 0
  KnownHere = Known scope zone is_zone of_zone.rows box own

  known_own : AllByRecursion KnownHere own
  known_own =
      all_map_both (λ c. (is_of_type c.dtype (slice_get scope c.index) ≡ true) × (has_index c.index own ≡ true)) (λ c. MatchOption (slice_get zone.stats c.index) ⊥ (IsNullKnownBy box zone.rows c)) KnownHere own
      (λ c h k. record { scoped = h.0; owned = h.1; set = k })
      (all_map_both (λ c. is_of_type c.dtype (slice_get scope c.index) ≡ true) (λ c. has_index c.index own ≡ true) (λ c. (is_of_type c.dtype (slice_get scope c.index) ≡ true) × (has_index c.index own ≡ true)) own
      (λ c h k. (h, k)) (each_column (λ c. is_of_type c.dtype (slice_get scope c.index)) p fits) (all_indexed own))
      of_zone.known

  -- ---- the row of a choice

  module _ (f : ℕ → Option ScalarValue) (cells : (i : ℕ) → Cell scope zone is_zone of_zone.rows box own i (f i)) where
    abbrev made_cell : ℕ → Constant
    made_cell i = record { dtype = as_nullable (type_at (slice_get scope i)); value = f i }

    abbrev made_row : List Constant
    made_row = map made_cell (range_with_len 0 (length scope))

    made_is_row : IsRow made_row
    made_is_row = all_made (λ c. is_optional_value c.value c.dtype) made_cell 0 (length scope) (λ i. (cells i).fits)

    made_at : (c : Place) → KnownHere c → slice_get made_row c.index ≡ Some (made_cell c.index)
    made_at c k =
        slice_get-map made_cell (range_with_len 0 (length scope)) c.index
        ∙ ap (option_map made_cell) (number_at (length scope) c.index (scoped_there scope c.index c.dtype (slice_get scope c.index) refl k.scoped))

    made_type : (c : Place) → KnownHere c → is_cell_of c.dtype (slice_get made_row c.index) ≡ true
    made_type c k =
        let t = type_at (slice_get scope c.index) in
        ap (is_cell_of c.dtype) (made_at c k)
        ∙ (dtype_eq_is_exact (as_nullable (as_nullable t)) (as_nullable c.dtype)).1 (as_nullable-again t ∙ ap as_nullable (scoped_type (slice_get scope c.index) c.dtype k.scoped))

    made_possible : (c : Place) → KnownHere c → IsPossibleCell box zone.rows c (cell_value (slice_get made_row c.index))
    made_possible c k =
        subst (λ (o : Option ScalarValue). IsPossibleCell box zone.rows c o) (sym (ap cell_value (made_at c k)))
        (subst (λ (d : Place). IsPossibleCell box zone.rows d (f c.index)) (place_same scope zone is_zone of_zone.rows box own c k.scoped) ((cells c.index).possible k.owned))

    -- the row has the chosen cell at each place, and none beyond the scope
    made_value : (i : ℕ) (b : Bool) → nat_lt i (length scope) ≡ b → cell_value (slice_get made_row i) ≡ f i
    made_value i true h =
        ap cell_value (slice_get-map made_cell (range_with_len 0 (length scope)) i ∙ ap (option_map made_cell) (number_at (length scope) i (ltb-true i (length scope) h)))
    made_value i false h =
        let past = ltb-false i (length scope) h in
        let beyond : length (range_with_len 0 (length scope)) ≤ i = rw (length-range_with_len 0 (length scope)) past in
        ap cell_value (slice_get-map made_cell (range_with_len 0 (length scope)) i ∙ ap (option_map made_cell) (slice_get_past (range_with_len 0 (length scope)) i beyond))
        ∙ sym (null_alone (f i) (ap (λ (o : Option Named). is_optional_value (f i) (as_nullable (type_at o))) (sym (slice_get_past scope i past)) ∙ (cells i).fits))

    takes_made : (cs : List Place) → Takes scope zone is_zone of_zone.rows box own known_own f made_row cs
    takes_made [] = tt
    takes_made (c ∷ cs) = (made_value c.index (nat_lt c.index (length scope)) refl, takes_made cs)

    row_possible : IsPossibleRow box zone.rows p made_row
    row_possible = all_map KnownHere (λ c. IsPossibleCell box zone.rows c (cell_value (slice_get made_row c.index))) own made_possible known_own

    row_fits : IsTrue (fits_row p made_row)
    row_fits = plain_columns (λ c. is_cell_of c.dtype (slice_get made_row c.index)) p (no_placeholder p plain) (all_map KnownHere (λ c. is_cell_of c.dtype (slice_get made_row c.index) ≡ true) own made_type known_own)

  -- ---- a test of the predicate's truth

  -- a possible row whose truth passes
  abbrev Passing : (w m : Bool) → Type 0
  Passing w m = (row : List Constant) × IsPossibleRow box zone.rows p row × (passes w m (truth (meaning p row zone.rows)) ≡ true)

  module _ (w m : Bool) (form : IsTestForm w m p (strict test)) (apart : is_null_apart test ≡ true) where
    simple : is_simple_or_null test ≡ true
    simple = (and_parts (is_simple_or_null test) (are_sides_apart test) apart).0

    good_form : Good scope zone is_zone of_zone.rows box own known_own test (strict test)
    good_form =
        good scope zone is_zone of_zone.rows box own known_own test simple (and_parts (is_simple_or_null test) (are_sides_apart test) apart).1 of_zone.far
        (record { predicate = form.predicate; fits = form.columns (λ c. is_of_type c.dtype (slice_get scope c.index)) fits; known_columns = carried_columns p (strict test) plain form.columns KnownHere known_own })

    chosen_passes : Chosen scope zone is_zone of_zone.rows box own known_own test (strict test) → Passing w m
    chosen_passes x =
        let row = made_row x.choice x.cells in (
          row,
          row_possible x.choice x.cells,
          ap (λ v. passes w m (truth v)) (any_count row zone.rows 0 p (no_count p plain))
              ∙ sym (form.test row 0 (made_is_row x.choice x.cells) (row_fits x.choice x.cells) (lit< tt))
              ∙ ap is_true (any_count row 0 zone.rows (strict test) (no_count (strict test) (form.plain plain)))
              ∙ x.holds row (takes_made x.choice x.cells (columns_of test)),
        )

    -- where no truth of a possible row passes, the falsifier of the strict test is true
    falsified_by : (b : Bool) → good_form.says ≡ b → ¬ Passing w m → is_true (value_under (told_values scope zone) zone.rows good_form.told.proof) ≡ true
    falsified_by true e none = good_form.told.told ∙ e
    falsified_by false e none = absurd (good_form.finds e (λ x. none (chosen_passes x)))

    form_falsified : ¬ Passing w m → proves_of (falsifier [] (strict test)) zone.rows (told_values scope zone) ≡ true
    form_falsified none =
        let g = good_form.told in
        ap (λ (o : Option (Tree Place)). proves_of o zone.rows (told_values scope zone)) g.proof_is
        ∙ closed_told (has_bare_column g.proof) (value_under (told_values scope zone) zone.rows g.proof) (sym (ap is_open g.proof_is) ∙ built_in_is_shut (strict test)) (falsified_by good_form.says refl none)

    form_proved : ¬ Passing w m → proves_of (form_proof [] (strict test)) zone.rows (told_values scope zone) ≡ true
    form_proved none =
        let unlike : has_column_like (strict test) ≡ false = valued_unlike (rests_on test) (body test) (body_unlike test simple) in
        ap (λ (b : Bool). proves_of (if b then joint_unless_built_in [] (falsifier [] (strict test)) (leaf_proof [] (strict test)) else falsifier [] (strict test)) zone.rows (told_values scope zone)) unlike
        ∙ form_falsified none

  none_passes : ¬ IsPossible p box zone.rows → Passing true false → ⊥
  none_passes none x = none (x.0, x.1, sym (passing_true (meaning p x.0 zone.rows)) ∙ x.2)

  none_fails : IsCertain p box zone.rows → Passing false true → ⊥
  none_fails all x = clash (all x.0 x.1) (untrue_passes (meaning p x.0 zone.rows) x.2)

module _ (p : Tree Place) (scope : List Named) (zone : ZoneData) (is_zone : IsZone scope zone) (fits : IsTrue (fits_scope p scope)) (plain : IsTrue (is_plain p)) (box : NullBox) (levels : Option ℕ) where
  -- and the proof by it
  test_proved : (w m : Bool) (of_zone : IsNullBoxOf zone p (narrow_test w m p) box) → is_test_within levels w m p ≡ true → IsTestForm w m p (strict_test w m p) → is_null_apart (narrow_test w m p) ≡ true
      → ¬ Passing p scope zone is_zone fits plain box (narrow_test w m p) of_zone w m → proves_of (test_proof [] levels w m p) zone.rows (told_values scope zone) ≡ true
  test_proved w m of_zone within form apart none =
      ap (λ (b : Bool). proves_of (if b then form_proof [] (strict_test w m p) else None) zone.rows (told_values scope zone)) within
      ∙ form_proved p scope zone is_zone fits plain box (narrow_test w m p) of_zone w m form apart none

-- ---- the zones of a map

module _ (f s : Option (Tree Place)) (scope : List Named) (zones : List ZoneData) (vs : List Verdict) (is : vs ≡ zone_verdicts f s scope zones) (levels : Option ℕ) (p : Tree Place)
    (fits : IsTrue (fits_scope p scope)) (plain : IsTrue (is_plain p)) (are : AreZonesOf scope zones) (forms : HasTestForms levels p) where
  abbrev told : Option (Tree Place) → ZoneData → Bool
  told o zone = proves_of o zone.rows (told_values scope zone)

  skip_told : f ≡ skip_proof [] levels p → (zone : ZoneData) → told (test_proof [] levels true false p) zone ≡ true → told f zone ≡ true
  skip_told made zone h =
      let by_normal = unless_deep levels (normal p) (falsifier [] (normal p)) in
      let by_test = test_proof [] levels true false p in
      ap (λ (o : Option (Tree Place)). told o zone) made
      ∙ joint_second (told_values scope zone) zone.rows (falsifier [] p) (joint by_normal by_test) (skip_closed levels p)
      (joint_second (told_values scope zone) zone.rows by_normal by_test (joint_rest (falsifier [] p) (joint by_normal by_test) (skip_closed levels p)) h)

  whole_told : s ≡ whole_proof [] levels p → (zone : ZoneData) → told (test_proof [] levels false true p) zone ≡ true → told s zone ≡ true
  whole_told made zone h =
      let by_normal = unless_deep levels (normal p) (satisfier [] (normal p)) in
      let by_test = test_proof [] levels false true p in
      ap (λ (o : Option (Tree Place)). told o zone) made
      ∙ joint_second (told_values scope zone) zone.rows (satisfier [] p) (joint by_normal by_test) (whole_closed levels p)
      (joint_second (told_values scope zone) zone.rows by_normal by_test (joint_rest (satisfier [] p) (joint by_normal by_test) (whole_closed levels p)) h)

  pub skips_impossible : f ≡ skip_proof [] levels p → IsTrue (is_null_decided levels true false p) → SkipsImpossible p zones (skipped_places vs)
  skips_impossible made decided i zone box there of_zone none =
      let k = and_parts (is_test_within levels true false p) (is_null_apart (narrow_test true false p)) decided in
      true_skipped f s scope zones vs is i zone there
      (skip_told made zone
      (test_proved p scope zone (are i zone there) fits plain box levels true false of_zone k.0 (forms.true_form k.0) k.1 (none_passes p scope zone (are i zone there) fits plain box (narrow_test true false p) of_zone none)))

  pub finds_certain : s ≡ whole_proof [] levels p → IsTrue (is_null_decided levels false true p) → FindsCertain p zones (skipped_places vs) (whole_places vs)
  finds_certain made decided i zone box there of_zone all = by_skipped (told f zone) refl
    where
      whole_true : told s zone ≡ true
      whole_true =
          let k = and_parts (is_test_within levels false true p) (is_null_apart (narrow_test false true p)) decided in
          whole_told made zone
          (test_proved p scope zone (are i zone there) fits plain box levels false true of_zone k.0 (forms.untrue_form k.0) k.1 (none_fails p scope zone (are i zone there) fits plain box (narrow_test false true p) of_zone all))

      by_skipped : (b : Bool) → told f zone ≡ b → Contains (skipped_places vs) i ⊎ Contains (whole_places vs) i
      by_skipped true e = inl (true_skipped f s scope zones vs is i zone there e)
      by_skipped false e = inr (true_whole f s scope zones vs is i zone there e whole_true)
