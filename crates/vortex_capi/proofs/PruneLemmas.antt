-- What the answers for zones list.
use Rattle.std.proofs.Common.{◌≡◌, ◌≢◌, ◌==◌, ◌+◌, ◌∙◌, ◌⊎◌, ℕ, Bool, true, false, if◌then◌else◌, filter, List, [], ◌∷◌, Option, Some, Result, Ok, Err, IfOk, IsOk, IsTrue, ap, arith, eq-eqb, inl, inr, length, map, refl, subst, subst₂, sym}
use Rattle.std.specs.List.{AllByRecursion, enumerate_from}
use Rattle.std.specs.Prelude.{Contains, MatchOption, slice_get}
use Rattle.vortex_base.specs.Data.Columns.{row_count as rows_of, row_of}
use Rattle.vortex_base.specs.Data.Scopes.{Named}
use Rattle.vortex_base.specs.Data.Values.{value_cmp}
use Rattle.vortex_expr.specs.Meanings.Fitting.{fits_scope, is_of_type}
use Rattle.vortex_expr.specs.Meanings.Meaning.{is_true}
use Rattle.vortex_expr.specs.Meanings.Typing.{type_of}
use Rattle.vortex_expr.specs.Trees.Tree.{Place, Tree, is_plain}
use Rattle.vortex_capi.specs.Nesting.Halves.{halved}
use Rattle.vortex_capi.proofs.Nesting.Apart.{same_apart, same_columns_of}
use Rattle.vortex_capi.proofs.Nesting.Columns.{same_fit, same_plain}
use Rattle.vortex_capi.proofs.Nesting.Meanings.{same_meaning}
use Rattle.vortex_normal.specs.Groups.{normal}
use Rattle.vortex_predicates.proofs.BuiltIn.{normal_finds, normal_skips, own_finds, own_skips}
use Rattle.vortex_predicates.proofs.Found.{carried_unsatisfiable, found_right, whole_if, whole_proved}
use Rattle.vortex_predicates.specs.Pruning.{Falsifies, FindsNoFewerWhole, IsMadeBy, IsRight, Pruning, Satisfies, SkipsNoFewer, SkipsUnsatisfiable, is_within, skip_proof, whole_proof}
use Rattle.vortex_prune.proofs.Scanning.Boxes.{skipping_is_complete}
use Rattle.vortex_prune.proofs.Scanning.SkippedParts.{place_listed}
use Rattle.vortex_prune.proofs.Scanning.WholeScan.{typed_bool}
use Rattle.vortex_zone_map.proofs.ZoneMaps.ZoneKept.{zones_are}
use Rattle.vortex_prune.proofs.ZoneMaps.ZonePruned.{skipped_listed, whole_listed}
use Rattle.vortex_prune.specs.Binding.PartAnswers.{told_values}
use Rattle.vortex_zone_map.specs.Zone.{AreZonesOf, ZoneData, zones_fit}
use Rattle.vortex_prune.specs.Scanning.Complete.{IsKnownBy}
use Rattle.vortex_prune.specs.Scanning.Selection.{is_whole, proves_of}
use Rattle.vortex_prune.specs.Scanning.ZoneScans.{IsSoundPruning, skipped_zones, whole_zones, zone_verdict, zone_verdicts}
use Rattle.vortex_rewrite.specs.Rewriting.Falsifiers.{falsifier, satisfier}
use Rattle.vortex_rewrite.specs.Rewriting.Lawful.{OwnRule}
use Rattle.vortex_rewrite.specs.Rewriting.Predicates.{is_predicate}
use Rattle.vortex_rewrite.specs.Rewriting.Proof.{Assignment}
use Rattle.vortex_rewrite.specs.Rewriting.ReadOnce.{Box, IsSatisfiable, IsWithin, has_disjoint_ands}
use Rattle.vortex_stats.specs.Bounds.Order.{AtMost}
use Rattle.vortex_capi.specs.declared.fault.Refusal.{Refusal}
use Rattle.vortex_capi.specs.declared.field.Field.{Field}
use Rattle.vortex_capi.specs.declared.statistic.Statistic.{Statistic}
use Rattle.vortex_capi.specs.declared.status.Status.{Status}
use Rattle.vortex_capi.specs.declared.status.Status.TheVariants.{BadLine, TooShort, NoMemory, BadKind, BadStat, BadKnown, BadLength, BadEnds, BadValue, BadNull, Untrue, BadColumn, BadName, NotAPredicate, BadFlag, TooDeep, BadSql, Misfit, BadFooter, NotRead}
use Rattle.vortex_capi.specs.declared.table.Source.{Source}
use Rattle.vortex_capi.specs.Prunes.{Asked, FindsNoFewer, IsComplete, IsNoFewer, IsPruned, IsRefused, IsSound, IsWellAsked, answer_by, answered, answers_of, asked, asked_of, proofs_of, table_answers, with_flags, with_places, zones_asked}
use Rattle.vortex_capi.specs.Refusals.{Answers, followed}
use Rattle.vortex_capi.specs.Scopes.{AnswersText, IsRefusedText, max_depth, predicate_given, scope_given}
use Rattle.vortex_capi.specs.declared.logical.Kinds.TheVariants.{Plain}
use Rattle.vortex_capi.specs.Statuses.{nowhere, status_number}
use Rattle.vortex_capi.specs.Tables.{zones_given}
use Rattle.vortex_capi.proofs.ReadLemmas.{followed_read}

-- ---- the places with an answer are those that pruning lists

module _ {X : Type 0} (answer : X → ℕ) (n : ℕ) (test : X → Bool) (same : (x : X) → (answer x == n) ≡ test x) where
  abbrev firsts : {Z : Type 0} → List (ℕ × Z) → List ℕ
  firsts es = map (λ e. e.0) es

  one_listed : (b : Bool) (i : ℕ) (x : X) (ys : List (ℕ × ℕ)) (xs : List (ℕ × X)) → firsts ys ≡ firsts xs → firsts (if b then (i, answer x) ∷ ys else ys) ≡ firsts (if b then (i, x) ∷ xs else xs)
  one_listed true i x ys xs h = ap (λ l. i ∷ l) h
  one_listed false i x ys xs h = h

  listed_from : (i : ℕ) (xs : List X) → firsts (filter (λ e. e.1 == n) (enumerate_from i (map answer xs))) ≡ firsts (filter (λ e. test e.1) (enumerate_from i xs))
  listed_from i [] = refl
  listed_from i (x ∷ xs) =
      ap (λ b. firsts (if b then (i, answer x) ∷ filter (λ e. e.1 == n) (enumerate_from (i + 1) (map answer xs)) else filter (λ e. e.1 == n) (enumerate_from (i + 1) (map answer xs)))) (same x)
      ∙ one_listed (test x) i x (filter (λ e. e.1 == n) (enumerate_from (i + 1) (map answer xs))) (filter (λ e. test e.1) (enumerate_from (i + 1) xs)) (listed_from (i + 1) xs)

module _ (f s : Option (Tree Place)) (scope : List Named) where
  abbrev skips : ZoneData → Bool
  skips zone = proves_of f zone.rows (told_values scope zone)

  abbrev keeps : ZoneData → Bool
  keeps zone = is_whole (zone_verdict f s scope zone)

  one_is_skipped : (zone : ZoneData) (p q : Bool) → skips zone ≡ p → proves_of s zone.rows (told_values scope zone) ≡ q → (answer_by f s scope zone == 1) ≡ skips zone
  one_is_skipped zone true q a b = rw a refl
  one_is_skipped zone false true a b = rw (a, b) refl
  one_is_skipped zone false false a b = rw (a, b) refl

  two_is_whole : (zone : ZoneData) (p q : Bool) → skips zone ≡ p → proves_of s zone.rows (told_values scope zone) ≡ q → (answer_by f s scope zone == 2) ≡ keeps zone
  two_is_whole zone true q a b = rw a refl
  two_is_whole zone false true a b = rw (a, b) refl
  two_is_whole zone false false a b = rw (a, b) refl

  ones_are_skipped : (zones : List ZoneData) → answered 1 (map (answer_by f s scope) zones) ≡ skipped_zones f scope zones
  ones_are_skipped zones = listed_from (answer_by f s scope) 1 skips (λ zone. one_is_skipped zone (skips zone) (proves_of s zone.rows (told_values scope zone)) refl refl) 0 zones

  twos_are_whole : (zones : List ZoneData) → answered 2 (map (answer_by f s scope) zones) ≡ whole_zones f s scope zones
  twos_are_whole zones = listed_from (answer_by f s scope) 2 keeps (λ zone. two_is_whole zone (skips zone) (proves_of s zone.rows (told_values scope zone)) refl refl) 0 zones

  -- ---- the answers say what their proofs prove

  module _ (zones : List ZoneData) (answers : List ℕ) (is : answers ≡ map (answer_by f s scope) zones) where
    pub ones : answered 1 answers ≡ skipped_zones f scope zones
    ones = ap (answered 1) is ∙ ones_are_skipped zones

    pub twos : answered 2 answers ≡ whole_zones f s scope zones
    twos = ap (answered 2) is ∙ twos_are_whole zones

    pub answers_are_sound : (p : Tree Place) → IsTrue (is_predicate p) → IsTrue (is_plain p) → IsTrue (fits_scope p scope) → Falsifies f p → Satisfies s p → IsSoundPruning p scope zones (answered 1 answers) (answered 2 answers)
    answers_are_sound p truth plain fits falsifies satisfies =
        subst₂ (IsSoundPruning p scope zones) (sym ones) (sym twos)
        (subst₂ (IsSoundPruning p scope zones) (skipped_listed f s scope zones) (whole_listed f s scope zones)
        (found_right f s scope zones (zone_verdicts f s scope zones) refl p truth plain fits falsifies satisfies))

    module _ (i : ℕ) (zone : ZoneData) (there : slice_get zones i ≡ Some zone) where
      -- a zone that a proof skips has the answer 1 if the joint proof is true where that is
      one_there : skips zone ≡ true → Contains (answered 1 answers) i
      one_there h = subst (λ l. Contains l i) (sym ones) ((place_listed skips zones i zone there).1 h)

      -- and one that a proof finds whole has 1 or 2
      one_or_two : (b : Bool) → skips zone ≡ b → proves_of s zone.rows (told_values scope zone) ≡ true → Contains (answered 1 answers) i ⊎ Contains (answered 2 answers) i
      one_or_two true e h = inl (one_there e)
      one_or_two false e h = inr (subst (λ l. Contains l i) (sym twos) ((place_listed keeps zones i zone there).1 (whole_if (skips zone) (proves_of s zone.rows (told_values scope zone)) e h)))

    -- nothing is missed of what another falsifier and satisfier find of a zone
    pub no_fewer : (own : List OwnRule) (p : Tree Place) → ((n : ℕ) (A : Assignment) → proves_of (falsifier own p) n A ≡ true → proves_of f n A ≡ true) → ((n : ℕ) (A : Assignment) → proves_of (satisfier own p) n A ≡ true → proves_of s n A ≡ true)
        → SkipsNoFewer own p scope zones (answered 1 answers) × FindsNoFewerWhole own p scope zones (answered 1 answers) (answered 2 answers)
    no_fewer own p more_skipped more_whole = (
      (λ i zone there h.
          one_there i zone there
          (more_skipped zone.rows (told_values scope zone) ((place_listed (λ (z : ZoneData). proves_of (falsifier own p) z.rows (told_values scope z)) zones i zone there).0 h))),
      (λ i zone there h.
          one_or_two i zone there (skips zone) refl
          (more_whole zone.rows (told_values scope zone)
          (whole_proved (proves_of (falsifier own p) zone.rows (told_values scope zone)) (proves_of (satisfier own p) zone.rows (told_values scope zone))
          ((place_listed (λ (z : ZoneData). is_whole (zone_verdict (falsifier own p) (satisfier own p) scope z)) zones i zone there).0 h)))),
    )

    -- where the ANDs of a form are apart whose falsifier skips no more, no zone is missed within whose bounds no values satisfy the form
    pub answers_are_complete : (p : Tree Place) → IsTrue (is_predicate p) → IsTrue (fits_scope p scope) → AreZonesOf scope zones → IsTrue (has_disjoint_ands p)
        → ((n : ℕ) (A : Assignment) → proves_of (falsifier [] p) n A ≡ true → proves_of f n A ≡ true) → SkipsUnsatisfiable p zones (answered 1 answers)
    answers_are_complete p truth fits are apart more i zone box there is_box order none =
        let t = typed_bool p (type_of p) refl truth in
        one_there i zone there (more zone.rows (told_values scope zone) ((skipping_is_complete p t.0 scope zone box t.1 t.2 (are i zone there) fits apart is_box order).1 none))

-- the answers are those of all zones
pub record IsWhole (f s : Option (Tree Place)) (scope : List Named) (sources : List Source) (rows answers : List ℕ) : Type 0 where
  pub read : table_answers f s scope (zones_given scope sources rows) ≡ Ok answers
  pub long : length answers ≡ length rows
  pub fit : IfOk (zones_given scope sources rows) (λ zones. IsTrue (zones_fit scope zones))

-- ---- what is asked

-- values within bounds satisfy a predicate where they satisfy it with its chains joined in halves
halved_satisfiable : (p : Tree Place) (box : Box) (n : ℕ) → IsSatisfiable (halved p) box n → IsSatisfiable p box n
halved_satisfiable p box n sat =
    (sat.0, subst (λ (cs : List Place). AllByRecursion (IsWithin box sat.0) cs) (same_columns_of p) sat.1, ap is_true (sym (same_meaning sat.0 n p)) ∙ sat.2)

-- so a zone that has to be skipped under the one has to be under the other
unsatisfiable_given : (p : Tree Place) (zones : List ZoneData) (skipped : List ℕ) → SkipsUnsatisfiable (halved p) zones skipped → SkipsUnsatisfiable p zones skipped
unsatisfiable_given p zones skipped h i zone box there is_box order none =
    h i zone box there (subst (λ (cs : List Place). AllByRecursion (λ (c : Place). MatchOption (slice_get zone.stats c.index) ⊥ (IsKnownBy box c.index)) cs) (sym (same_columns_of p)) is_box)
    (subst (λ (cs : List Place). AllByRecursion (λ (c : Place). AtMost value_cmp (box.low c.index) (box.high c.index)) cs) (sym (same_columns_of p)) order)
    (λ sat. none (halved_satisfiable p box zone.rows sat))

sound_given : (p : Tree Place) (scope : List Named) (zones : List ZoneData) (skipped whole : List ℕ) → IsSoundPruning (halved p) scope zones skipped whole → IsSoundPruning p scope zones skipped whole
sound_given p scope zones skipped whole h i zone part there of is_true_of =
    let k = h i zone part there of is_true_of in
    let back = λ (r : ℕ). ap is_true (sym (same_meaning (row_of r part.chunk.columns) (rows_of part.chunk.columns) p)) in
    ((λ c r less. back r ∙ k.0 c r less), (λ c r less. back r ∙ k.1 c r less))

module _ (a : Asked) (found : List ℕ) (is : found ≡ answers_of a) (well : IsWellAsked a) where
  abbrev own : Pruning
  own = proofs_of a.pruned_by

  own_fits : IsTrue (fits_scope a.pruned_by a.scope)
  own_fits = ap (λ e. fits_scope e a.scope) well.joined ∙ same_fit a.given a.scope ∙ well.fits

  sound_asked : IsSound found a
  sound_asked =
      sound_given a.given a.scope a.zones (answered 1 found) (answered 2 found)
      (subst (λ e. IsSoundPruning e a.scope a.zones (answered 1 found) (answered 2 found)) well.joined
      (answers_are_sound own.falsifier own.satisfier a.scope a.zones found is a.pruned_by well.right.predicate well.right.plain own_fits well.right.falsifies well.right.satisfies))

  own_no_fewer : FindsNoFewer a.pruned_by found a
  own_no_fewer =
      let k = no_fewer own.falsifier own.satisfier a.scope a.zones found is [] a.pruned_by (own_skips (Some max_depth) a.pruned_by) (own_finds (Some max_depth) a.pruned_by) in
      record { skipped = k.0; whole = k.1 }

  form_no_fewer : IsTrue (is_within (Some max_depth) (normal a.pruned_by)) → FindsNoFewer (normal a.pruned_by) found a
  form_no_fewer within =
      let k = no_fewer own.falsifier own.satisfier a.scope a.zones found is [] (normal a.pruned_by)
      (λ n A. normal_skips (Some max_depth) a.pruned_by n A within) (λ n A. normal_finds (Some max_depth) a.pruned_by n A within) in
      record { skipped = k.0; whole = k.1 }

  are : AreZonesOf a.scope a.zones
  are = zones_are a.scope a.zones well.zones

  own_complete : IsTrue (has_disjoint_ands a.given) → SkipsUnsatisfiable a.given a.zones (answered 1 found)
  own_complete apart =
      unsatisfiable_given a.given a.zones (answered 1 found)
      (subst (λ e. SkipsUnsatisfiable e a.zones (answered 1 found)) well.joined
      (answers_are_complete own.falsifier own.satisfier a.scope a.zones found is a.pruned_by well.right.predicate own_fits are
      (ap has_disjoint_ands well.joined ∙ same_apart a.given ∙ apart) (own_skips (Some max_depth) a.pruned_by)))

  form_complete : IsTrue (is_within (Some max_depth) (normal a.pruned_by)) → IsTrue (has_disjoint_ands (normal a.pruned_by)) → SkipsUnsatisfiable a.given a.zones (answered 1 found)
  form_complete within apart =
      let p = a.pruned_by in
      let q = normal p in
      let form = well.right.form in
      let of_form = answers_are_complete own.falsifier own.satisfier a.scope a.zones found is q form.predicate (form.columns (λ c. is_of_type c.dtype (slice_get a.scope c.index)) own_fits) are apart
      (λ n A. normal_skips (Some max_depth) p n A within) in
      unsatisfiable_given a.given a.zones (answered 1 found)
      (subst (λ e. SkipsUnsatisfiable e a.zones (answered 1 found)) well.joined
      (carried_unsatisfiable p q a.scope a.zones (answered 1 found) well.right.plain own_fits are form of_form))

  complete_asked : IsComplete found a
  complete_asked = record { own = own_complete; form = form_complete }

  fewer_asked : IsNoFewer found a
  fewer_asked = record { own = own_no_fewer; form = form_no_fewer }

abbrev Reads : Result Asked Refusal → List ℕ → Type 0
Reads asked found = followed asked (λ a. Ok (answers_of a)) ≡ Ok found

pub asked_sound : (asked : Result Asked Refusal) (found : List ℕ) → Reads asked found → IfOk asked IsWellAsked → IfOk asked (IsSound found)
asked_sound (Ok a) found h well = sound_asked a found (let same : answers_of a ≡ found = cc in sym same) well
asked_sound (Err r) found h well = tt

pub asked_no_fewer : (asked : Result Asked Refusal) (found : List ℕ) → Reads asked found → IfOk asked IsWellAsked → IfOk asked (IsNoFewer found)
asked_no_fewer (Ok a) found h well = fewer_asked a found (let same : answers_of a ≡ found = cc in sym same) well
asked_no_fewer (Err r) found h well = tt

pub asked_complete : (asked : Result Asked Refusal) (found : List ℕ) → Reads asked found → IfOk asked IsWellAsked → IfOk asked (IsComplete found)
asked_complete (Ok a) found h well = complete_asked a found (let same : answers_of a ≡ found = cc in sym same) well
asked_complete (Err r) found h well = tt

pub asked_answers : (asked : Result Asked Refusal) (found : List ℕ) → followed asked (λ a. Ok (answers_of a)) ≡ Ok found → IsOk asked × IfOk asked (λ a. found ≡ answers_of a)
asked_answers (Ok a) found h = let same : answers_of a ≡ found = cc in (refl, sym same)
asked_answers (Err r) found h = absurd cc

not_four : (s : Status) → (status_number s ≡ 4 → ⊥) → s ≡ NoMemory → ⊥
not_four s h is = h (ap status_number is)

refused_asked : (asked : Result Asked Refusal) (r : Refusal) → followed asked (λ a. Ok (answers_of a)) ≡ Err r → IsRefused asked (status_number r.status) r.fault
refused_asked (Ok a) r h = absurd cc
refused_asked (Err e) r h = let same : r ≡ e = cc in inl (ap (λ (x : Refusal). status_number x.status) same, ap (λ (x : Refusal). x.fault) same)

deep_asked : (asked : Result Asked Refusal) (r : Refusal) → r ≡ nowhere TooDeep → followed asked (λ a. Ok (answers_of a)) ≡ Err (nowhere BadLine) → IsRefused asked (status_number r.status) r.fault
deep_asked (Ok a) r told h = absurd cc
deep_asked (Err e) r told h =
    let same : e ≡ nowhere BadLine = cc in
    inr (same, (ap (λ (x : Refusal). status_number x.status) told, ap (λ (x : Refusal). x.fault) told))

text_asked : (asked : Result Asked Refusal) (r : Refusal) → IsRefusedText (followed asked (λ a. Ok (answers_of a))) r → IsRefused asked (status_number r.status) r.fault
text_asked asked r h = elim h [
  | inl same ↦ refused_asked asked r same
  | inr deep ↦ deep_asked asked r deep.0 deep.1
]

pub asked_refused : (asked : Result Asked Refusal) (r : Refusal) → (r.status ≢ NoMemory → IsRefusedText (followed asked (λ a. Ok (answers_of a))) r) → status_number r.status ≢ 4 → IsRefused asked (status_number r.status) r.fault
asked_refused asked r h four = text_asked asked r (h (not_four r.status four))

pub asked_is : (fields : List Field) (rows : List ℕ) (stats : List Statistic) (text : List ℕ) (flags room : ℕ) (scope : List Named) (p : Tree Place) → with_flags flags ≡ Ok tt → room ≡ length rows → scope_given Plain fields ≡ Ok scope
    → predicate_given scope text ≡ Ok p → asked fields rows stats text flags room ≡ asked_of scope rows stats p (halved p)
asked_is fields rows stats text flags room scope p flag long is given =
    let last = λ (s : List Named). followed (predicate_given s text) (λ e. asked_of s rows stats e (halved e)) in
    let third = λ (u : Unit {0}). followed (scope_given Plain fields) last in
    let second = λ (u : Unit {0}). followed (with_places room rows) third in
    let there : with_places room rows ≡ Ok tt = ap (λ b. if b then Ok tt else Err (nowhere BadLength)) (eq-eqb room (length rows) long) in
    followed_read (with_flags flags) second tt flag ∙ followed_read (with_places room rows) third tt there ∙ followed_read (scope_given Plain fields) last scope is ∙ followed_read (predicate_given scope text) (λ e. asked_of scope rows stats e (halved e)) p given

-- what is answered without a text is answered with one
pub text_answers : {X Y : Type 0} (view : X → Y) (r : Result X Refusal) (read : Result Y Refusal) → Answers view r read → AnswersText view r read
text_answers view (Ok x) read h = h
text_answers view (Err e) read h = λ other. inl (h other)

pub asked_as : {X : Type 0} (view : X → List ℕ) (r : Result X Refusal) (x y : Result Asked Refusal) → y ≡ x → Answers view r (followed x (λ a. Ok (answers_of a))) → AnswersText view r (followed y (λ a. Ok (answers_of a)))
asked_as view r x y is h = text_answers view r (followed y (λ a. Ok (answers_of a))) (subst (λ z. Answers view r (followed z (λ a. Ok (answers_of a)))) (sym is) h)

pub not_zero : (s : Status) → status_number s ≡ 0 → ⊥
not_zero BadLine h = omega (arith, h)
not_zero TooShort h = omega (arith, h)
not_zero NoMemory h = omega (arith, h)
not_zero BadKind h = omega (arith, h)
not_zero BadStat h = omega (arith, h)
not_zero BadKnown h = omega (arith, h)
not_zero BadLength h = omega (arith, h)
not_zero BadEnds h = omega (arith, h)
not_zero BadValue h = omega (arith, h)
not_zero BadNull h = omega (arith, h)
not_zero Untrue h = omega (arith, h)
not_zero BadColumn h = omega (arith, h)
not_zero BadName h = omega (arith, h)
not_zero NotAPredicate h = omega (arith, h)
not_zero BadFlag h = omega (arith, h)
not_zero TooDeep h = omega (arith, h)
not_zero BadSql h = omega (arith, h)
not_zero Misfit h = omega (arith, h)
not_zero BadFooter h = omega (arith, h)
not_zero NotRead h = omega (arith, h)

pub refused_pruning : (asked : Result Asked Refusal) (old : List ℕ) (r : Refusal) (n : ℕ) → n ≡ status_number r.status → (r.status ≢ NoMemory → IsRefusedText (followed asked (λ a. Ok (answers_of a))) r) → IsPruned asked old n old r.fault
refused_pruning asked old r n is h = record {
  answered = λ zero. absurd (not_zero r.status (sym is ∙ zero));
  answers = λ zero. absurd (not_zero r.status (sym is ∙ zero));
  unchanged = λ _. refl;
  refused = λ _ four. subst (λ k. IsRefused asked k r.fault) (sym is) (asked_refused asked r h (λ e. four (is ∙ e)));
}

-- ---- the answers that are asked for are those by the proofs of the predicate

asked_over : (scope : List Named) (given p : Tree Place) (x : Result (List ZoneData) Refusal)
    → followed (followed {Y = Asked} x (λ zones. Ok (record { scope = scope; zones = zones; given = given; pruned_by = p }))) (λ a. Ok (answers_of a)) ≡ table_answers (proofs_of p).falsifier (proofs_of p).satisfier scope x
asked_over scope given p (Ok zones) = refl
asked_over scope given p (Err r) = refl

-- where these are the proofs
pub by_proofs : {X : Type 0} (view : X → List ℕ) (r : Result X Refusal) (scope : List Named) (rows : List ℕ) (stats : List Statistic) (given p : Tree Place) (f s : Option (Tree Place)) → f ≡ (proofs_of p).falsifier → s ≡ (proofs_of p).satisfier
    → Answers view r (table_answers f s scope (zones_asked scope rows stats)) → Answers view r (followed (asked_of scope rows stats given p) (λ a. Ok (answers_of a)))
by_proofs view r scope rows stats given p f s is also h =
    subst (Answers view r) (sym (asked_over scope given p (zones_asked scope rows stats)))
    (subst₂ (λ (o t : Option (Tree Place)). Answers view r (table_answers o t scope (zones_asked scope rows stats))) is also h)

-- ---- the sets of the zones fit the scope, the predicate is one over it, and the proofs are right

module _ (scope : List Named) (given p : Tree Place) (joined : p ≡ halved given) (plain : IsTrue (is_plain p)) (fits : IsTrue (fits_scope p scope)) where
  pub well_zones : (read : Result (List ZoneData) Refusal) → IsRight (proofs_of p) → IfOk read (λ zones. IsTrue (zones_fit scope zones)) → IfOk (followed read (λ zones. Ok (record { scope = scope; zones = zones; given = given; pruned_by = p }))) IsWellAsked
  well_zones (Ok zones) right fit = record {
    zones = fit;
    plain = sym (same_plain given) ∙ ap is_plain (sym joined) ∙ plain;
    fits = sym (same_fit given scope) ∙ ap (λ e. fits_scope e scope) (sym joined) ∙ fits;
    joined = joined;
    right = right;
  }
  well_zones (Err r) right fit = tt

pruning_is : (x : Pruning) (p : Tree Place) → x.predicate ≡ p → x.falsifier ≡ skip_proof [] (Some max_depth) p → x.satisfier ≡ whole_proof [] (Some max_depth) p → x ≡ proofs_of p
pruning_is x p is f s = λ i. record { predicate = is i; falsifier = f i; satisfier = s i }

-- a predicate with its proofs is right where it was made of them
pub made_right : (x : Pruning) (p : Tree Place) → x.predicate ≡ p → IsMadeBy [] (Some max_depth) x → IsRight x → IsRight (proofs_of p)
made_right x p is made right =
    let same : x ≡ proofs_of p = pruning_is x p is (made.falsifier ∙ ap (skip_proof [] (Some max_depth)) is) (made.satisfier ∙ ap (whole_proof [] (Some max_depth)) is) in
    subst IsRight same right
