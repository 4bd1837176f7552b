-- What the joint proofs of a predicate find, in the words of the predicate.
use Rattle.std.proofs.Common.{◌≡◌, ℕ, Bool, true, false, ◌⊎◌, inl, inr, ⊎_elim, List, [], ◌∷◌, None, Option, Some, IsTrue, refl, sym, ap, subst, ◌∙◌, if◌then◌else◌}
use Rattle.std.specs.Prelude.{Contains, MatchOption, option_map, slice_get}
use Rattle.std.proofs.lemmas.Option.{none-some, slice_get-map}
use Rattle.vortex_base.specs.Data.Columns.{row_count as rows_of}
use Rattle.vortex_base.specs.Data.Scopes.{Named}
use Rattle.vortex_base.specs.Data.Values.{value_cmp}
use Rattle.vortex_expr.specs.Meanings.Fitting.{fits_scope, is_of_type}
use Rattle.vortex_expr.specs.Meanings.Typing.{type_of}
use Rattle.vortex_expr.specs.Trees.Tree.{Tree, Place, is_plain}
use Rattle.vortex_normal.proofs.Columns.{carried_columns}
use Rattle.vortex_normal.specs.Groups.{normal}
use Rattle.vortex_normal.specs.Strict.{strict_test}
use Rattle.vortex_predicates.proofs.Carried.{satisfiability_is_carried}
use Rattle.vortex_predicates.proofs.EqualBounds.{form_closed}
use Rattle.vortex_predicates.proofs.JointTrue.{joint_closed, joint_first, joint_rest, joint_second}
use Rattle.vortex_predicates.specs.EqualBounds.{form_proof}
use Rattle.vortex_predicates.specs.Joint.{joint}
use Rattle.vortex_predicates.specs.Pruning.{Falsifies, FindsNoFewerWhole, HasRowsOf, Satisfies, SkipsNoFewer, SkipsUnsatisfiable, is_test_within, is_within, skip_proof, skipped_places, test_proof, unless_deep, whole_places, whole_proof}
use Rattle.vortex_prune.proofs.Scanning.Boxes.{skipping_is_complete}
use Rattle.vortex_prune.proofs.Scanning.Lossless.{is_over_chunk}
use Rattle.vortex_prune.proofs.Scanning.SkippedParts.{place_listed}
use Rattle.vortex_prune.proofs.Scanning.WholeScan.{predicate_typed, typed_bool}
use Rattle.vortex_prune.proofs.ZoneMaps.ZonePruned.{skipped_listed, whole_listed}
use Rattle.vortex_prune.proofs.ZoneMaps.ZoneRows.{told_is_honest}
use Rattle.vortex_prune.specs.Binding.PartAnswers.{told_values}
use Rattle.vortex_zone_map.specs.Zone.{AreZonesOf, ZoneData}
use Rattle.vortex_prune.specs.Scanning.Complete.{IsKnownBy}
use Rattle.vortex_prune.specs.Scanning.PartScans.{UnlessSkipped}
use Rattle.vortex_prune.specs.Scanning.Selection.{is_skipped, is_whole, places_where, proves_of}
use Rattle.vortex_prune.specs.Scanning.ZoneScans.{IsShutIfVerdict, IsSoundPruning, is_left_open, open_causes, skipped_zones, whole_zones, zone_verdict, zone_verdicts}
use Rattle.vortex_zone_map.specs.ZoneMaps.{IsMapOf, MapData}
use Rattle.vortex_prune.specs.declared.scan.verdict.Verdict.{Verdict}
use Rattle.vortex_prune.specs.declared.scan.verdict.Verdict.TheVariants.{Skipped, Whole, Tested}
use Rattle.vortex_rewrite.proofs.Rewriting.CauseLemmas.{either-refused}
use Rattle.vortex_rewrite.proofs.Rewriting.ShutProofs.{built_in_is_shut, built_in_satisfier_is_shut}
use Rattle.vortex_rewrite.proofs.Soundness.TruthLogic.{clash}
use Rattle.vortex_rewrite.specs.Answers.{IsMemory}
use Rattle.vortex_rewrite.specs.Causes.{IsRefusal, either_causes}
use Rattle.vortex_rewrite.specs.Rewriting.Falsifiers.{falsifier, satisfier}
use Rattle.vortex_rewrite.specs.Rewriting.Lawful.{OwnRule}
use Rattle.vortex_rewrite.specs.Rewriting.Predicates.{is_predicate}
use Rattle.vortex_rewrite.specs.Rewriting.Proof.{is_open}
use Rattle.vortex_rewrite.specs.Rewriting.ReadOnce.{has_disjoint_ands}
use Rattle.vortex_stats.specs.Bounds.Order.{AtMost}
use Rattle.vortex_stats.specs.declared.error.BinderFault.TheVariants as binder_fault
use Rattle.vortex_stats.specs.declared.error.RuleFault.TheVariants as rule_fault
use Rattle.vortex_stats.specs.declared.error.StatsError.{StatsError}
use Rattle.vortex_stats.specs.declared.error.StatsError.TheVariants as fault

-- ---- by built-in rules the joint proofs are closed

closed_if : (b : Bool) (o : Option (Tree Place)) → is_open o ≡ false → is_open (if b then o else None) ≡ false
closed_if true o h = h
closed_if false o h = refl

deep_closed : (levels : Option ℕ) (form : Tree Place) (o : Option (Tree Place)) → is_open o ≡ false → is_open (unless_deep levels form o) ≡ false
deep_closed levels form o h = closed_if (is_within levels form) o h

test_closed : (levels : Option ℕ) (w m : Bool) (p : Tree Place) → is_open (test_proof [] levels w m p) ≡ false
test_closed levels w m p = closed_if (is_test_within levels w m p) (form_proof [] (strict_test w m p)) (form_closed (strict_test w m p))

pub skip_closed : (levels : Option ℕ) (p : Tree Place) → is_open (skip_proof [] levels p) ≡ false
skip_closed levels p =
    joint_closed (falsifier [] p) (joint (unless_deep levels (normal p) (falsifier [] (normal p))) (test_proof [] levels true false p)) (built_in_is_shut p)
    (joint_closed (unless_deep levels (normal p) (falsifier [] (normal p))) (test_proof [] levels true false p) (deep_closed levels (normal p) (falsifier [] (normal p)) (built_in_is_shut (normal p))) (test_closed levels true false p))

pub whole_closed : (levels : Option ℕ) (p : Tree Place) → is_open (whole_proof [] levels p) ≡ false
whole_closed levels p =
    joint_closed (satisfier [] p) (joint (unless_deep levels (normal p) (satisfier [] (normal p))) (test_proof [] levels false true p)) (built_in_satisfier_is_shut p)
    (joint_closed (unless_deep levels (normal p) (satisfier [] (normal p))) (test_proof [] levels false true p) (deep_closed levels (normal p) (satisfier [] (normal p)) (built_in_satisfier_is_shut (normal p))) (test_closed levels false true p))

left_shut : {X : Type 0} (o : Option (Tree Place)) (xs : List X) → is_open o ≡ false → is_left_open o xs ≡ true → ⊥
left_shut o [] h k = cc
left_shut o (x ∷ xs) h k = clash k h

memory_alone : {X : Type 0} (xs : List X) (o : Option (Tree Place)) (e : StatsError) → is_open o ≡ false → IsRefusal (open_causes o xs) e → IsMemory e
memory_alone xs o (fault.Memory a) shut h = refl
memory_alone xs o fault.NotPredicate shut h = absurd h
memory_alone xs o fault.Mismatch shut h = absurd h
memory_alone xs o fault.Unsupported shut h = absurd h
memory_alone xs o (fault.Conflict s) shut h = absurd h
memory_alone xs o (fault.Binder (binder_fault.Own k)) shut h = absurd h
memory_alone xs o (fault.Binder binder_fault.WrongType) shut h = absurd h
memory_alone xs o (fault.Rule (rule_fault.Own k)) shut h = absurd h
memory_alone xs o (fault.Rule rule_fault.NotBool) shut h = absurd h
memory_alone xs o fault.OpenProof shut h = absurd (left_shut o xs shut h)
memory_alone xs o fault.TooLarge shut h = absurd h

-- closed proofs leave memory alone to refuse
pub memory_left : {X Y : Type 0} (f s : Option (Tree Place)) (xs : List X) (ys : List Y) (e : StatsError) → is_open f ≡ false → is_open s ≡ false → IsRefusal (either_causes (open_causes f xs) (open_causes s ys)) e → IsMemory e
memory_left f s xs ys e h k refused =
    ⊎_elim (λ x. memory_alone xs f e h x) (λ x. memory_alone ys s e k x) (either-refused (open_causes f xs) (open_causes s ys) e refused)

-- ---- verdicts

pub whole_proved : (a b : Bool) → is_whole (if a then Skipped else if b then Whole else Tested) ≡ true → b ≡ true
whole_proved true b h = cc
whole_proved false true h = refl
whole_proved false false h = cc

-- where it isn't skipped, a true satisfier makes it whole
pub whole_if : (a b : Bool) → a ≡ false → b ≡ true → is_whole (if a then Skipped else if b then Whole else Tested) ≡ true
whole_if true b h k = cc
whole_if false true h k = refl
whole_if false false h k = cc

kept_shut : (a b : Bool) (P : Type 0) → a ≡ false → UnlessSkipped (if a then Skipped else if b then Whole else Tested) P → P
kept_shut true b P h k = absurd cc
kept_shut false true P h k = k
kept_shut false false P h k = k

-- there are zones for which a proof that isn't left open is closed
closed_there : {X : Type 0} (o : Option (Tree Place)) (xs : List X) (i : ℕ) (x : X) → slice_get xs i ≡ Some x → is_left_open o xs ≡ false → is_open o ≡ false
closed_there o [] i x there h = absurd (none-some x there)
closed_there o (y ∷ ys) i x there h = h

-- a zone that has to be skipped under a form of a predicate has to be under the predicate
pub carried_unsatisfiable : (p q : Tree Place) (scope : List Named) (zones : List ZoneData) (skipped : List ℕ) → IsTrue (is_plain p) → IsTrue (fits_scope p scope) → AreZonesOf scope zones → HasRowsOf p q → SkipsUnsatisfiable q zones skipped → SkipsUnsatisfiable p zones skipped
carried_unsatisfiable p q scope zones skipped plain fits are form h i zone box there is_box order none =
    let k = satisfiability_is_carried p q scope zone box plain form.same form.columns form.plain (are i zone there) fits is_box order in
    h i zone box there (carried_columns p q plain form.columns (λ c. MatchOption (slice_get zone.stats c.index) ⊥ (IsKnownBy box c.index)) is_box)
    (carried_columns p q plain form.columns (λ c. AtMost value_cmp (box.low c.index) (box.high c.index)) order) (λ sat. none (k.0 sat))

module _ (f s : Option (Tree Place)) (scope : List Named) (zones : List ZoneData) (vs : List Verdict) (is : vs ≡ zone_verdicts f s scope zones) where
  abbrev told_true : Option (Tree Place) → ZoneData → Bool
  told_true o zone = proves_of o zone.rows (told_values scope zone)

  skipped_is : skipped_places vs ≡ skipped_zones f scope zones
  skipped_is = ap (places_where is_skipped) is ∙ skipped_listed f s scope zones

  whole_is : whole_places vs ≡ whole_zones f s scope zones
  whole_is = ap (places_where is_whole) is ∙ whole_listed f s scope zones

  module _ (i : ℕ) (zone : ZoneData) (there : slice_get zones i ≡ Some zone) where
    skipped_true : Contains (skipped_places vs) i → told_true f zone ≡ true
    skipped_true h = (place_listed (told_true f) zones i zone there).0 (subst (λ l. Contains l i) skipped_is h)

    pub true_skipped : told_true f zone ≡ true → Contains (skipped_places vs) i
    true_skipped h = subst (λ l. Contains l i) (sym skipped_is) ((place_listed (told_true f) zones i zone there).1 h)

    whole_true : Contains (whole_places vs) i → told_true s zone ≡ true
    whole_true h =
        whole_proved (told_true f zone) (told_true s zone) ((place_listed (λ z. is_whole (zone_verdict f s scope z)) zones i zone there).0 (subst (λ l. Contains l i) whole_is h))

    pub true_whole : told_true f zone ≡ false → told_true s zone ≡ true → Contains (whole_places vs) i
    true_whole h k =
        subst (λ l. Contains l i) (sym whole_is) ((place_listed (λ z. is_whole (zone_verdict f s scope z)) zones i zone there).1 (whole_if (told_true f zone) (told_true s zone) h k))

    verdict_there : slice_get vs i ≡ Some (zone_verdict f s scope zone)
    verdict_there = ap (λ l. slice_get l i) is ∙ slice_get-map (zone_verdict f s scope) zones i ∙ ap (option_map (zone_verdict f s scope)) there

    -- of a zone that isn't skipped a satisfier was bound, which is closed
    satisfier_closed : IsShutIfVerdict s vs → told_true f zone ≡ false → is_open s ≡ false
    satisfier_closed shut h = kept_shut (told_true f zone) (told_true s zone) (is_open s ≡ false) h (shut i (zone_verdict f s scope zone) verdict_there)

  -- ---- soundness

  pub found_right : (p : Tree Place) → IsTrue (is_predicate p) → IsTrue (is_plain p) → IsTrue (fits_scope p scope) → Falsifies f p → Satisfies s p → IsSoundPruning p scope zones (skipped_places vs) (whole_places vs)
  found_right p predicate plain fits falsifies satisfies i zone part there of is_true =
      let over = is_over_chunk p part.chunk (predicate_typed (type_of p) predicate) plain (ap (fits_scope p) of.scoped ∙ fits) in
      let honest = told_is_honest scope zone part of is_true in
      let rows_same : rows_of part.chunk.columns ≡ zone.rows = ap (λ (z : ZoneData). z.rows) of.known in (
        (λ h. falsifies part.chunk (told_values scope zone) of.is_part.0 over honest (ap (λ n. proves_of f n (told_values scope zone)) rows_same ∙ skipped_true i zone there h)),
        (λ h. satisfies part.chunk (told_values scope zone) of.is_part.0 over honest (ap (λ n. proves_of s n (told_values scope zone)) rows_same ∙ whole_true i zone there h)),
      )

  -- ---- no less than by the predicate's own proofs

  module _ (m : MapData) (map_of : IsMapOf zones m) (shut : is_left_open f m.rows ≡ false) where
    falsifier_closed : (i : ℕ) (zone : ZoneData) → slice_get zones i ≡ Some zone → is_open f ≡ false
    falsifier_closed i zone there =
        closed_there f m.rows i zone.rows
        (ap (λ (m : MapData). slice_get m.rows i) map_of.same ∙ slice_get-map (λ (z : ZoneData). z.rows) zones i ∙ ap (option_map (λ (z : ZoneData). z.rows)) there)
        shut

    module _ (own : List OwnRule) (levels : Option ℕ) (p : Tree Place) (made : f ≡ skip_proof own levels p) where
      made_closed : (i : ℕ) (zone : ZoneData) → slice_get zones i ≡ Some zone → is_open (skip_proof own levels p) ≡ false
      made_closed i zone there = ap is_open (sym made) ∙ falsifier_closed i zone there

      own_true : (i : ℕ) (zone : ZoneData) → slice_get zones i ≡ Some zone → told_true (falsifier own p) zone ≡ true → told_true f zone ≡ true
      own_true i zone there h =
          ap (λ (o : Option (Tree Place)). told_true o zone) made ∙ joint_first (told_values scope zone) zone.rows (falsifier own p) (joint (unless_deep levels (normal p) (falsifier own (normal p))) (test_proof own levels true false p)) (made_closed i zone there) h

      normal_true : IsTrue (is_within levels (normal p)) → (i : ℕ) (zone : ZoneData) → slice_get zones i ≡ Some zone → told_true (falsifier own (normal p)) zone ≡ true → told_true f zone ≡ true
      normal_true within i zone there h =
          let closed = made_closed i zone there in
          ap (λ (o : Option (Tree Place)). told_true o zone) made
          ∙ joint_second (told_values scope zone) zone.rows (falsifier own p) (joint (unless_deep levels (normal p) (falsifier own (normal p))) (test_proof own levels true false p)) closed
          (joint_first (told_values scope zone) zone.rows (unless_deep levels (normal p) (falsifier own (normal p))) (test_proof own levels true false p) (joint_rest (falsifier own p) (joint (unless_deep levels (normal p) (falsifier own (normal p))) (test_proof own levels true false p)) closed)
          (ap (λ (b : Bool). told_true (if b then falsifier own (normal p) else None) zone) within ∙ h))

      pub no_fewer_skipped : SkipsNoFewer own p scope zones (skipped_places vs)
      no_fewer_skipped i zone there h = true_skipped i zone there (own_true i zone there ((place_listed (told_true (falsifier own p)) zones i zone there).0 h))

      pub no_fewer_whole : s ≡ whole_proof own levels p → IsShutIfVerdict s vs → FindsNoFewerWhole own p scope zones (skipped_places vs) (whole_places vs)
      no_fewer_whole also closed i zone there h =
          by_skipped (told_true f zone) refl
        where
          by_satisfier : told_true (satisfier own p) zone ≡ true
          by_satisfier =
              whole_proved (told_true (falsifier own p) zone) (told_true (satisfier own p) zone)
              ((place_listed (λ z. is_whole (zone_verdict (falsifier own p) (satisfier own p) scope z)) zones i zone there).0 h)

          by_skipped : (b : Bool) → told_true f zone ≡ b → Contains (skipped_places vs) i ⊎ Contains (whole_places vs) i
          by_skipped true e = inl (true_skipped i zone there e)
          by_skipped false e =
              inr
              (true_whole i zone there e
              (ap (λ (o : Option (Tree Place)). told_true o zone) also
              ∙ joint_first (told_values scope zone) zone.rows (satisfier own p) (joint (unless_deep levels (normal p) (satisfier own (normal p))) (test_proof own levels false true p))
              (ap is_open (sym also) ∙ satisfier_closed i zone there closed e) by_satisfier))

    -- ---- completeness

    module _ (levels : Option ℕ) (p : Tree Place) (made : f ≡ skip_proof [] levels p) (within : IsTrue (is_within levels (normal p))) (fits : IsTrue (fits_scope p scope)) (plain : IsTrue (is_plain p)) (same : HasRowsOf p (normal p)) (are : AreZonesOf scope zones) (apart : IsTrue (has_disjoint_ands (normal p))) where
      pub normal_complete : SkipsUnsatisfiable (normal p) zones (skipped_places vs)
      normal_complete i zone box there is_box order none =
          let t = typed_bool (normal p) (type_of (normal p)) refl same.predicate in
          let found = skipping_is_complete (normal p) t.0 scope zone box t.1 t.2 (are i zone there) (same.columns (λ c. is_of_type c.dtype (slice_get scope c.index)) fits) apart is_box order in
          true_skipped i zone there (normal_true [] levels p made within i zone there (found.1 none))

      pub given_complete : SkipsUnsatisfiable p zones (skipped_places vs)
      given_complete = carried_unsatisfiable p (normal p) scope zones (skipped_places vs) plain fits are same normal_complete
