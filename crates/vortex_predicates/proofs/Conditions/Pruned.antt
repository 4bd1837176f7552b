-- The places of the verdicts by the proofs of a condition are sound for it, and the columns of its leaves.
use Rattle.std.proofs.Common.{◌≡◌, ◌++◌, ℕ, Bool, true, false, List, [], ◌∷◌, Option, IsTrue, refl, subst, subst₂, sym, ap, ◌∙◌}
use Rattle.std.specs.Prelude.{Contains, Result, Ok, Err, map, slice_get, Some}
use Rattle.vortex_base.specs.Data.Scopes.{IsScope, Named}
use Rattle.vortex_base.specs.declared.dtype.DType.{DType}
use Rattle.vortex_base.specs.declared.error.BaseError.{BaseError}
use Rattle.vortex_expr.specs.Meanings.Fitting.{fits_scope}
use Rattle.vortex_expr.specs.Meanings.Typing.{is_bool, type_of}
use Rattle.vortex_expr.specs.Trees.Tree.{Tree, Place}
use Rattle.vortex_predicates.proofs.Found.{skip_closed, whole_closed}
use Rattle.vortex_predicates.specs.Pruning.{IsMadeBy, IsRight, Pruning, skip_proof, skipped_places, whole_places, whole_proof}
use Rattle.vortex_prune.proofs.Scanning.SkippedParts.{place_listed}
use Rattle.vortex_prune.proofs.ZoneMaps.ZonePruned.{skipped_listed, whole_listed, whole_proved}
use Rattle.vortex_prune.specs.Binding.PartAnswers.{told_values}
use Rattle.vortex_zone_map.specs.Zone.{ZoneData}
use Rattle.vortex_prune.specs.Scanning.Selection.{is_skipped, is_whole, places_where, proves_of}
use Rattle.vortex_prune.specs.Scanning.ZoneScans.{zone_verdict, zone_verdicts}
use Rattle.vortex_prune.specs.declared.scan.verdict.Verdict.{Verdict}
use Rattle.vortex_rewrite.specs.Rewriting.Lawful.{OwnRule}
use Rattle.vortex_rewrite.specs.Rewriting.Predicates.{has_type, is_predicate}
use Rattle.vortex_rewrite.specs.Rewriting.Proof.{is_open}
use Rattle.vortex_sql.specs.declared.syntax.tree.Leaf.{Leaf}
use Rattle.vortex_sql.specs.declared.syntax.tree.Condition.{Condition}
use Rattle.vortex_sql.specs.Lowering.{Says, opaques, is_bool_type, is_of_bool, span_of, types_of}
use Rattle.vortex_sql.specs.Readings.{bool_or_null}
use Rattle.vortex_sql.specs.Schemas.{SchemaData}
use Rattle.vortex_predicates.specs.Conditions.Conditions.{AreColumnsOf, AreProofsOf, Confirms, IsSoundFor, ProofsTell, Refutes}

-- ---- a condition's predicate is one

bool_typed : (r : Result DType BaseError) → is_bool_type r ≡ true → has_type is_bool r ≡ true
bool_typed (Ok t) h = h
bool_typed (Err f) h = cc

pub of_bool : (e : Tree Place) → is_of_bool e ≡ true → is_predicate e ≡ true
of_bool e h = bool_typed (type_of e) h

-- ---- a column for each leaf

leaf_columns : (ls : List Leaf) → map (λ span. bool_or_null) (map span_of ls) ≡ map (λ l. bool_or_null) ls
leaf_columns [] = refl
leaf_columns (l ∷ ls) = ap (λ rest. bool_or_null ∷ rest) (leaf_columns ls)

pub are_columns : (more : List Named) (ls : List Leaf) (spans : List (ℕ × ℕ)) → spans ≡ map span_of ls → types_of more ≡ map (λ span. bool_or_null) spans → AreColumnsOf more ls
are_columns more ls spans h k = k ∙ ap (map (λ span. bool_or_null)) h ∙ leaf_columns ls

-- ---- the proofs of a condition's predicate

module _ (law : ProofsTell) (s : SchemaData) (wide : List Named) (c : Condition) (e : Tree Place) (spans : List (ℕ × ℕ)) (x : Pruning) (is_scope : IsScope wide)
    (parts : (more : List Named) × (wide ≡ s.scope ++ more) × (types_of more ≡ map (λ span. bool_or_null) spans)) (opaque : spans ≡ map span_of (opaques s c)) (says : Says s c e) (fits : IsTrue (fits_scope e wide))
    (same : x.predicate ≡ e) (right : IsRight x) where
  told : Refutes s c x.falsifier × Confirms s c x.satisfier
  told =
      law s parts.0 c x (subst IsScope parts.1 is_scope) (subst (Says s c) (sym same) says) (are_columns parts.0 (opaques s c) spans opaque parts.2)
      (subst₂ (λ (p : Tree Place) (ns : List Named). IsTrue (fits_scope p ns)) (sym same) parts.1 fits) right

  pub refutes_of : Refutes s c x.falsifier
  refutes_of = told.0

  pub confirms_of : Confirms s c x.satisfier
  confirms_of = told.1

  pub says_of : Says s c x.predicate
  says_of = subst (Says s c) (sym same) says

  pub proofs_of : AreProofsOf (record { scope = s.scope; cells = s.cells; condition = c; predicate = x.predicate; falsifier = x.falsifier; satisfier = x.satisfier })
  proofs_of = record { says = says_of; refutes = told.0; confirms = told.1 }

-- by built-in rules they have no column outside their placeholders
pub closed_by : (own : List OwnRule) (levels : Option ℕ) (x : Pruning) → own ≡ [] → IsMadeBy own levels x → (is_open x.falsifier ≡ false) × (is_open x.satisfier ≡ false)
closed_by own levels x none made = (
  ap is_open made.falsifier ∙ ap (λ rules. is_open (skip_proof rules levels x.predicate)) none ∙ skip_closed levels x.predicate,
  ap is_open made.satisfier ∙ ap (λ rules. is_open (whole_proof rules levels x.predicate)) none ∙ whole_closed levels x.predicate,
)

-- ---- verdicts

module _ (columns : SchemaData) (c : Condition) (f s : Option (Tree Place)) (refutes : Refutes columns c f) (confirms : Confirms columns c s)
    (zones : List ZoneData) (vs : List Verdict) (is : vs ≡ zone_verdicts f s columns.scope zones) where
  abbrev told_true : Option (Tree Place) → ZoneData → Bool
  told_true o zone = proves_of o zone.rows (told_values columns.scope zone)

  skipped_true : (i : ℕ) (zone : ZoneData) → slice_get zones i ≡ Some zone → Contains (skipped_places vs) i → told_true f zone ≡ true
  skipped_true i zone there h =
      (place_listed (told_true f) zones i zone there).0 (subst (λ l. Contains l i) (ap (places_where is_skipped) is ∙ skipped_listed f s columns.scope zones) h)

  whole_true : (i : ℕ) (zone : ZoneData) → slice_get zones i ≡ Some zone → Contains (whole_places vs) i → told_true s zone ≡ true
  whole_true i zone there h =
      whole_proved (told_true f zone) (told_true s zone)
      ((place_listed (λ z. is_whole (zone_verdict f s columns.scope z)) zones i zone there).0 (subst (λ l. Contains l i) (ap (places_where is_whole) is ∙ whole_listed f s columns.scope zones) h))

  pub sound_for : IsSoundFor columns c zones (skipped_places vs) (whole_places vs)
  sound_for i zone part there of true_part = (
    (λ h r below. refutes zone part of true_part (skipped_true i zone there h) r below),
    (λ h r below. confirms zone part of true_part (whole_true i zone there h) r below),
  )
