-- The answers for zones by the proofs of a condition.
use Rattle.std.proofs.Common.{◌≡◌, ◌≢◌, ◌<◌, ◌≤◌, ◌+◌, ◌++◌, ℕ, suc, List, [], ◌∷◌, Option, Some, add-one, ap, append_assoc, arith, drop, drop-cons, get_or, inl, inr, true, length, map, refl, subst, sym, take, ◌∙◌}
use Rattle.std.proofs.Math.ListN.{set}
use Rattle.std.proofs.lemmas.List.{length-map, length-take-le, map_more, set_at, take_all}
use Rattle.std.specs.Prelude.{Contains, IfOk, IsOk, Result, Ok, Err, slice_get}
use Rattle.vortex_base.specs.Data.Scopes.{Named}
use Rattle.vortex_expr.specs.Trees.Tree.{Place, Tree}
use Rattle.vortex_capi.specs.Spans.{leaf_span, span_at}
use Rattle.vortex_capi.proofs.PruneLemmas.{ones, twos}
use Rattle.vortex_capi.specs.Prunes.{IsToldAs, answered, table_answers, zone_answers, zones_asked}
use Rattle.vortex_predicates.proofs.Found.{whole_proved}
use Rattle.vortex_prune.proofs.Scanning.SkippedParts.{place_listed}
use Rattle.vortex_prune.specs.Binding.PartAnswers.{told_values}
use Rattle.vortex_zone_map.specs.Zone.{ZoneData}
use Rattle.vortex_prune.specs.Scanning.Selection.{is_whole, proves_of}
use Rattle.vortex_prune.specs.Scanning.ZoneScans.{zone_verdict}
use Rattle.vortex_predicates.specs.Conditions.Conditions.{Confirms, IsSoundFor, ProvedCondition, Refutes}
use Rattle.vortex_capi.specs.Statuses.{status_number}
use Rattle.vortex_capi.specs.declared.fault.Fault.{Fault}
use Rattle.vortex_capi.specs.declared.fault.Refusal.{Refusal}
use Rattle.vortex_capi.specs.declared.field.Field.{Field}
use Rattle.vortex_capi.specs.declared.statistic.Statistic.{Statistic}
use Rattle.vortex_capi.specs.declared.status.Status.{Status}
use Rattle.vortex_capi.specs.declared.status.Status.TheVariants.{NoMemory}
use Rattle.vortex_sql.specs.Lowering.{span_of}
use Rattle.vortex_sql.specs.Refusals.{IsTextRefusal}
use Rattle.vortex_sql.specs.Schemas.{SchemaData}
use Rattle.vortex_predicates.specs.Conditions.Refusals.{IsConditionRefusal}
use Rattle.vortex_rewrite.specs.Rewriting.Lawful.{OwnRule}
use Rattle.vortex_predicates.specs.declared.sql.error.ConditionError.{ConditionError}
use Rattle.vortex_predicates.specs.declared.sql.error.ConditionError.TheVariants.{Sql, Stats}
use Rattle.vortex_sql.specs.declared.syntax.tree.Condition.{Condition}
use Rattle.vortex_sql.specs.declared.syntax.tree.Leaf.{Leaf}
use Rattle.vortex_capi.specs.SqlCalls.SqlPrunes.{AreAnswered, AreWritten, Arrays, Columns, IsAnswered, IsAnsweredBy, IsConditionOf, IsLack, IsRefusedFor, IsTextFault, columns_asked, of_condition, unread_of}
use Rattle.vortex_capi.specs.declared.span.Span.{Span}

module _ (columns : SchemaData) (c : Condition) (f s : Option (Tree Place)) (refutes : Refutes columns c f) (confirms : Confirms columns c s)
    (zones : List ZoneData) (answers : List ℕ) (is : answers ≡ zone_answers f s columns.scope zones) where
  skipped_true : (i : ℕ) (zone : ZoneData) → slice_get zones i ≡ Some zone → Contains (answered 1 answers) i → proves_of f zone.rows (told_values columns.scope zone) ≡ true
  skipped_true i zone there h =
      (place_listed (λ (z : ZoneData). proves_of f z.rows (told_values columns.scope z)) zones i zone there).0 (subst (λ l. Contains l i) (ones f s columns.scope zones answers is) h)

  whole_true : (i : ℕ) (zone : ZoneData) → slice_get zones i ≡ Some zone → Contains (answered 2 answers) i → proves_of s zone.rows (told_values columns.scope zone) ≡ true
  whole_true i zone there h =
      whole_proved (proves_of f zone.rows (told_values columns.scope zone)) (proves_of s zone.rows (told_values columns.scope zone))
      ((place_listed (λ (z : ZoneData). is_whole (zone_verdict f s columns.scope z)) zones i zone there).0 (subst (λ l. Contains l i) (twos f s columns.scope zones answers is) h))

  pub sound_by : IsSoundFor columns c zones (answered 1 answers) (answered 2 answers)
  sound_by i zone part there of true_part = (
    (λ h r below. refutes zone part of true_part (skipped_true i zone there h) r below),
    (λ h r below. confirms zone part of true_part (whole_true i zone there h) r below),
  )

-- ---- why a text is refused

pub text_told : (own : List OwnRule) (text given : List ℕ) (s : SchemaData) (e : ConditionError) (r : Refusal) → given ≡ text → r ≡ of_condition e → IsConditionRefusal own given s e
    → r.status ≢ NoMemory → IsTextFault text s r
text_told own text given s (Sql e) r same told refused memory = inr (record {
  error = e;
  refused = subst (λ t. IsTextRefusal t s e) same refused;
  told = told;
})
text_told own text given s (Stats f) r same told refused memory = absurd (memory (ap (λ (x : Refusal). x.status) told))

-- ---- where leaves stand

-- one more place is put
pub put_next : (n : ℕ) (places : List (ℕ × ℕ)) (old now : List Span) (d : ℕ × ℕ) (span : Span) → now ≡ map span_at (take n places) ++ drop n old → n < length places → length places ≤ length old → span ≡ span_at (get_or places n d)
    → set now n span ≡ map span_at (take (n + 1) places) ++ drop (n + 1) old
put_next n places old now d span is within room told =
    let front = map span_at (take n places) in
    let below : n < length old = omega arith in
    let long : length front ≡ n = length-map (take n places) span_at ∙ length-take-le n places (omega arith) in
    ap (λ l. set l n span) is ∙ ap (λ l. set (front ++ l) n span) (drop-cons old n span below) ∙ set_at front (get_or old n span) (drop (suc n) old) span n long
    ∙ sym (append_assoc front (span ∷ []) (drop (suc n) old))
    ∙ ap (λ l. l ++ drop (suc n) old) (ap (λ s. front ++ s ∷ []) told ∙ sym (map_more span_at places n d within))
    ∙ ap (λ k. map span_at (take (n + 1) places) ++ drop k old) (sym (add-one n))

-- all places are put
pub put_all : (n : ℕ) (places : List (ℕ × ℕ)) (old now : List Span) → n ≡ length places → now ≡ map span_at (take n places) ++ drop n old → now ≡ map span_at places ++ drop (length places) old
put_all n places old now end is = is ∙ ap (λ l. map span_at l ++ drop n old) (take_all n places (omega (arith, end))) ∙ ap (λ k. map span_at places ++ drop k old) end

spans_are : (ls : List Leaf) → map span_at (map span_of ls) ≡ map leaf_span ls
spans_are [] = refl
spans_are (l ∷ ls) = ap (λ rest. leaf_span l ∷ rest) (spans_are ls)

-- ---- what a call makes of a condition

module _ (x : ProvedCondition) (found answers : List ℕ) (old : Arrays) (places : List (ℕ × ℕ)) (spans : List Span) (len : ℕ) (fault : Fault) (same : answers ≡ found)
    (are : places ≡ map span_of (unread_of x)) (put : spans ≡ map span_at places ++ drop (length places) old.unread) where
  abbrev written : Arrays
  written = record { answers = answers; unread = spans }

  are_written : (zones : List ZoneData) → zone_answers x.falsifier x.satisfier x.scope zones ≡ found → AreWritten x zones old written (length places)
  are_written zones is = record {
    answers = same ∙ sym is;
    unread = put ∙ ap (λ l. l ++ drop (length places) old.unread) (ap (map span_at) are ∙ spans_are (unread_of x));
    len = ap length are ∙ length-map (unread_of x) span_of;
  }

  pub answered_by : (zones : Result (List ZoneData) Refusal) → table_answers x.falsifier x.satisfier x.scope zones ≡ Ok found → IsAnsweredBy x zones old written len (length places) 0 fault fault
  answered_by (Ok zones) h = record {
    written = λ _. are_written zones (let is : zone_answers x.falsifier x.satisfier x.scope zones ≡ found = cc in is);
    given = λ _. refl;
    unchanged = λ k. absurd (k refl);
    counted = λ k _. absurd (k refl);
    told = λ _. refl;
    lack = λ k _. absurd (k refl);
  }
  answered_by (Err r) h = absurd cc

-- ---- what the call says

not_memory : (s : Status) → (status_number s ≡ 4 → ⊥) → s ≡ NoMemory → ⊥
not_memory s h is = h (ap status_number is)

pub text_refused : (asked : Result Columns Refusal) (columns : Columns) (rows : List ℕ) (stats : List Statistic) (text : List ℕ) (room result len : ℕ) (fault : Fault) (r : Refusal) → asked ≡ Ok columns
    → (r.status ≢ NoMemory → IsTextFault text columns.schema r) → IsToldAs r result fault → result ≢ 4 → IsRefusedFor asked rows stats text room result len fault
text_refused asked columns rows stats text room result len fault r is of told four =
    subst (λ (a : Result Columns Refusal). IsRefusedFor a rows stats text room result len fault) (sym is)
    (inl (record { refusal = r; of_text = of (not_memory r.status (λ e. four (told.0 ∙ e))); told = told }))

module _ (columns : Columns) (rows : List ℕ) (stats : List Statistic) (text : List ℕ) (x : ProvedCondition) (of : IsConditionOf text columns x) where
  scoped : x.scope ≡ columns.schema.scope
  scoped = ap (λ (s : SchemaData). s.scope) of.over

  over : (r : Result (List ZoneData) Refusal) → zones_asked x.scope rows stats ≡ r → zones_asked columns.schema.scope rows stats ≡ r
  over r is = ap (λ (s : List Named). zones_asked s rows stats) (sym scoped) ∙ is

  pub lack_refused : (asked : Result Columns Refusal) (room result len : ℕ) (fault : Fault) → asked ≡ Ok columns → IsLack x (zones_asked x.scope rows stats) room result len fault → IsRefusedFor asked rows stats text room result len fault
  lack_refused asked room result len fault is lack =
      subst (λ (a : Result Columns Refusal). IsRefusedFor a rows stats text room result len fault) (sym is)
      (inr (elim lack [
        | inl short ↦ inl (short.0, record { condition = x; of_text = of; short = short.1; len = short.2 })
        | inr refused ↦ inr (record { condition = x; of_text = of; refusal = refused.0; refused = over (Err refused.0) refused.1; told = refused.2 })
      ]))

  module _ (old new : Arrays) (len : ℕ) where
    answered_with : (zones : List ZoneData) → AreWritten x zones old new len → IsAnswered text columns zones old new len
    answered_with zones w =
        let told : new.answers ≡ zone_answers x.falsifier x.satisfier columns.schema.scope zones = w.answers ∙ ap (λ (s : List Named). zone_answers x.falsifier x.satisfier s zones) scoped in
        record {
          condition = x;
          of_text = of;
          answers = told;
          sound = sound_by columns.schema x.condition x.falsifier x.satisfier (subst (λ (s : SchemaData). Refutes s x.condition x.falsifier) of.over of.proofs.refutes)
              (subst (λ (s : SchemaData). Confirms s x.condition x.satisfier) of.over of.proofs.confirms) zones new.answers told;
          unread = w.unread;
          len = w.len;
        }

    pub call_answered : (fields : List Field) (flags : ℕ) → columns_asked fields rows flags (length old.answers) ≡ Ok columns → (zones : Result (List ZoneData) Refusal) → zones_asked x.scope rows stats ≡ zones → IsOk zones
        → IfOk zones (λ given. AreWritten x given old new len) → AreAnswered fields rows stats text flags old new len
    call_answered fields flags asked (Ok zones) is ok w = record { columns = columns; zones = zones; asked = asked; given = over (Ok zones) is; answered = answered_with zones w }
    call_answered fields flags asked (Err r) is ok w = absurd cc
