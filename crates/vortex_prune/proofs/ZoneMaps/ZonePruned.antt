-- What pruning lists, by the verdicts on the zones.
use Rattle.std.proofs.Common.{◌≡◌, ◌<◌, ◌+◌, ◌++◌, ℕ, Bool, true, false, List, [], ◌∷◌, Option, Some, None, get_or, inl, inr, length, map, refl, subst, sym, ap, take, ◌∙◌, arith}
use Rattle.std.specs.Prelude.{Contains, Err, IfOk, IsOk, IsTrue, Ok, Result, if◌then◌else◌, filter, ◌⊎◌}
use Rattle.std.specs.List.{enumerate_from}
use Rattle.vortex_base.specs.Data.Columns.{ChunkData, IsChunk, row_count as rows_of}
use Rattle.vortex_base.specs.Data.Scopes.{Named}
use Rattle.vortex_expr.specs.Meanings.Fitting.{fits_scope}
use Rattle.vortex_expr.specs.Meanings.Typing.{type_of}
use Rattle.vortex_expr.specs.Trees.Tree.{Place, Tree, is_plain}
use Rattle.vortex_prune.proofs.Scanning.BinderScan.{element_there}
use Rattle.vortex_prune.proofs.Scanning.Boxes.{skipping_is_complete}
use Rattle.vortex_prune.proofs.Scanning.Lossless.{is_over_chunk}
use Rattle.vortex_prune.proofs.Scanning.PartScanLemmas.{skipped_by}
use Rattle.vortex_prune.proofs.Scanning.ScanLemmas.{collected_more, passing_collected}
use Rattle.vortex_prune.proofs.Scanning.SkippedParts.{place_listed}
use Rattle.vortex_prune.proofs.Scanning.WholeScan.{predicate_typed, typed_bool}
use Rattle.vortex_prune.proofs.ZoneMaps.ZoneRows.{told_is_honest}
use Rattle.vortex_prune.specs.Binding.PartAnswers.{told_values}
use Rattle.vortex_prune.specs.Part.{IsPartOf, IsTruePart, PartData}
use Rattle.vortex_zone_map.specs.Zone.{AreZonesOf, ZoneData}
use Rattle.vortex_prune.specs.Scanning.Complete.{ZonesSkipExactly}
use Rattle.vortex_prune.specs.Scanning.PartScans.{UnlessSkipped}
use Rattle.vortex_prune.specs.Scanning.Selection.{is_skipped, is_whole, place_if, places_where, proves_of}
use Rattle.vortex_prune.specs.Scanning.ZoneScans.{EachSatisfies, IsShutIfKept, IsShutIfVerdict, IsSoundPruning, skipped_zones, whole_zones, zone_verdict, zone_verdicts}
use Rattle.vortex_prune.specs.declared.scan.verdict.Verdict.{Verdict}
use Rattle.vortex_prune.specs.declared.scan.verdict.Verdict.TheVariants.{Skipped, Whole, Tested}
use Rattle.vortex_rewrite.proofs.Soundness.SoundRules.{falsifiers_sound, satisfiers_sound}
use Rattle.vortex_rewrite.specs.Facts.{IsHonest}
use Rattle.vortex_rewrite.specs.Rewriting.Falsifiers.{falsifier, satisfier}
use Rattle.vortex_rewrite.specs.Rewriting.Lawful.{OwnRule}
use Rattle.vortex_rewrite.specs.Rewriting.Predicates.{is_predicate}
use Rattle.vortex_rewrite.specs.Rewriting.Proof.{Assignment, is_open}
use Rattle.vortex_rewrite.specs.Rewriting.ReadOnce.{has_disjoint_ands}

-- one more element was looked at
pub places_more : {X : Type 0} (test : X → Bool) (xs : List X) (n : ℕ) (d : X) → n < length xs → places_where test (take (n + 1) xs) ≡ places_where test (take n xs) ++ place_if (test (get_or xs n d)) n
places_more test xs n d h =
    passing_collected test 0 (take (n + 1) xs)
    ∙ collected_more (λ i x. place_if (test x) i) n xs d h
    ∙ ap (λ l. l ++ place_if (test (get_or xs n d)) n) (sym (passing_collected test 0 (take n xs)))

pub places_next : {X : Type 0} (test : X → Bool) (xs : List X) (n : ℕ) (d : X) (old new : List ℕ) → n < length xs → new ≡ old ++ place_if (test (get_or xs n d)) n → old ≡ places_where test (take n xs) → new ≡ places_where test (take (n + 1) xs)
places_next test xs n d old new h pushed before = pushed ∙ ap (λ l. l ++ place_if (test (get_or xs n d)) n) before ∙ sym (places_more test xs n d h)

-- what follows from three things that are so of an answer is so of it
pub of_three : {X E : Type 0} (r : Result X E) (P Q S T : X → Type 0) → ((x : X) → P x → Q x → S x → T x) → IfOk r P → IfOk r Q → IfOk r S → IfOk r T
of_three (Ok x) P Q S T f p q s = f x p q s
of_three (Err e) P Q S T f p q s = tt

-- the places among what elements are mapped to
module _ {X Y : Type 0} (f : X → Y) (test : Y → Bool) (other : X → Bool) (same : (x : X) → test (f x) ≡ other x) where
  abbrev firsts : {Z : Type 0} → List (ℕ × Z) → List ℕ
  firsts es = map (λ e. e.0) es

  one_from : (b : Bool) (n : ℕ) (x : X) (ys : List (ℕ × Y)) (xs : List (ℕ × X)) → firsts ys ≡ firsts xs → firsts (if b then (n, f x) ∷ ys else ys) ≡ firsts (if b then (n, x) ∷ xs else xs)
  one_from true n x ys xs h = ap (λ l. n ∷ l) h
  one_from false n x ys xs h = h

  places_from : (n : ℕ) (xs : List X) → firsts (filter (λ e. test e.1) (enumerate_from n (map f xs))) ≡ firsts (filter (λ e. other e.1) (enumerate_from n xs))
  places_from n [] = refl
  places_from n (x ∷ xs) =
      ap (λ b. firsts (if b then (n, f x) ∷ filter (λ e. test e.1) (enumerate_from (n + 1) (map f xs)) else filter (λ e. test e.1) (enumerate_from (n + 1) (map f xs)))) (same x)
      ∙ one_from (other x) n x (filter (λ e. test e.1) (enumerate_from (n + 1) (map f xs))) (filter (λ e. other e.1) (enumerate_from (n + 1) xs)) (places_from (n + 1) xs)

module _ (f s : Option (Tree Place)) (scope : List Named) (zones : List ZoneData) where
  pub skipped_listed : places_where is_skipped (zone_verdicts f s scope zones) ≡ skipped_zones f scope zones
  skipped_listed = places_from (zone_verdict f s scope) is_skipped (λ zone. proves_of f zone.rows (told_values scope zone)) (λ zone. skipped_by (proves_of f zone.rows (told_values scope zone)) (proves_of s zone.rows (told_values scope zone))) 0 zones

  pub whole_listed : places_where is_whole (zone_verdicts f s scope zones) ≡ whole_zones f s scope zones
  whole_listed = places_from (zone_verdict f s scope) is_whole (λ zone. is_whole (zone_verdict f s scope zone)) (λ zone. refl) 0 zones

-- of a whole zone the satisfier is true
pub whole_proved : (a b : Bool) → is_whole (if a then Skipped else if b then Whole else Tested) ≡ true → b ≡ true
whole_proved true b h = cc
whole_proved false true h = refl
whole_proved false false h = cc

-- ---- soundness

-- by answers that are facts of some rows
module _ (rules : List OwnRule) (p : Tree Place) (typed : IsOk (type_of p)) (plain : IsTrue (is_plain p)) (k : ChunkData) (A : Assignment) (chunk : IsChunk k) (fits : IsTrue (fits_scope p k.scope)) (honest : IsHonest A k.columns) where
  pub none_by : (o : Option (Tree Place)) → falsifier rules p ≡ o → proves_of o (rows_of k.columns) A ≡ true → EachSatisfies false p k
  none_by None is h = cc
  none_by (Some e) is h = λ r less. falsifiers_sound rules p e is k A chunk (is_over_chunk p k typed plain fits) honest h r less

  pub each_by : (o : Option (Tree Place)) → satisfier rules p ≡ o → proves_of o (rows_of k.columns) A ≡ true → EachSatisfies true p k
  each_by None is h = cc
  each_by (Some e) is h = λ r less. satisfiers_sound rules p e is k A chunk (is_over_chunk p k typed plain fits) honest h r less

-- by the true statistics of a zone
module _ (rules : List OwnRule) (p : Tree Place) (scope : List Named) (typed : IsOk (type_of p)) (plain : IsTrue (is_plain p)) (fits : IsTrue (fits_scope p scope)) (zone : ZoneData) (part : PartData) (of : IsPartOf scope zone part) (is_true : IsTruePart part) where
  abbrev proved_of : Option (Tree Place) → ℕ → Bool
  proved_of o n = proves_of o n (told_values scope zone)

  rows_same : rows_of part.chunk.columns ≡ zone.rows
  rows_same = ap (λ (z : ZoneData). z.rows) of.known

  none_satisfy : proved_of (falsifier rules p) zone.rows ≡ true → EachSatisfies false p part.chunk
  none_satisfy h =
      none_by rules p typed plain part.chunk (told_values scope zone) of.is_part.0 (ap (fits_scope p) of.scoped ∙ fits) (told_is_honest scope zone part of is_true) (falsifier rules p) refl
      (ap (proved_of (falsifier rules p)) rows_same ∙ h)

  each_satisfies : proved_of (satisfier rules p) zone.rows ≡ true → EachSatisfies true p part.chunk
  each_satisfies h =
      each_by rules p typed plain part.chunk (told_values scope zone) of.is_part.0 (ap (fits_scope p) of.scoped ∙ fits) (told_is_honest scope zone part of is_true) (satisfier rules p) refl
      (ap (proved_of (satisfier rules p)) rows_same ∙ h)

pub pruning_is_sound : (rules : List OwnRule) (p : Tree Place) (scope : List Named) (zones : List ZoneData) (skipped whole : List ℕ) → IsTrue (is_predicate p) → IsTrue (is_plain p) → IsTrue (fits_scope p scope)
    → skipped ≡ skipped_zones (falsifier rules p) scope zones → whole ≡ whole_zones (falsifier rules p) (satisfier rules p) scope zones → IsSoundPruning p scope zones skipped whole
pruning_is_sound rules p scope zones skipped whole predicate plain fits is also i zone part there of is_true = (
  (λ h. none_satisfy rules p scope (predicate_typed (type_of p) predicate) plain fits zone part of is_true
      ((place_listed (λ z. proves_of (falsifier rules p) z.rows (told_values scope z)) zones i zone there).0 (subst (λ l. Contains l i) is h))),
  (λ h. each_satisfies rules p scope (predicate_typed (type_of p) predicate) plain fits zone part of is_true
      (whole_proved (proves_of (falsifier rules p) zone.rows (told_values scope zone)) (proves_of (satisfier rules p) zone.rows (told_values scope zone))
      ((place_listed (λ z. is_whole (zone_verdict (falsifier rules p) (satisfier rules p) scope z)) zones i zone there).0 (subst (λ l. Contains l i) also h)))),
)

-- ---- completeness

pub pruning_is_complete : (p : Tree Place) (scope : List Named) (zones : List ZoneData) (skipped : List ℕ) → IsTrue (is_predicate p) → IsTrue (fits_scope p scope) → AreZonesOf scope zones → IsTrue (has_disjoint_ands p)
    → skipped ≡ skipped_zones (falsifier [] p) scope zones → ZonesSkipExactly p zones skipped
pruning_is_complete p scope zones skipped predicate fits are once is i zone box there is_box order =
    let t = typed_bool p (type_of p) refl predicate in
    let one = place_listed (λ z. proves_of (falsifier [] p) z.rows (told_values scope z)) zones i zone there in
    let whole = skipping_is_complete p t.0 scope zone box t.1 t.2 (are i zone there) fits once is_box order in
    ((λ h. whole.0 (one.0 (subst (λ l. Contains l i) is h))), (λ none. subst (λ l. Contains l i) (sym is) (one.1 (whole.1 none))))

-- ---- where no satisfier was bound

-- a zone that isn't among those skipped isn't skipped
shut_one : (v : Verdict) (skipped : List ℕ) (i : ℕ) (P : Type 0) → (is_skipped v ≡ true → Contains skipped i) → UnlessSkipped v P → Contains skipped i ⊎ P
shut_one Skipped skipped i P listed h = inl (listed refl)
shut_one Whole skipped i P listed h = inr h
shut_one Tested skipped i P listed h = inr h

pub pruned_is_shut : {X : Type 0} (s : Option (Tree Place)) (xs : List X) (vs : List Verdict) (skipped : List ℕ) → length vs ≡ length xs → skipped ≡ places_where is_skipped vs → IsShutIfVerdict s vs → IsShutIfKept skipped s xs
pruned_is_shut s xs vs skipped long is shut i less =
    let v = element_there vs i (omega (arith, less, long)) in
    shut_one v.0 skipped i (is_open s ≡ false) (λ h. subst (λ l. Contains l i) (sym is) ((place_listed is_skipped vs i v.0 v.1).1 h)) (shut i v.0 v.1)
