-- What no proof names doesn't count for an answer.
use Rattle.std.proofs.Common.{◌≡◌, ◌||◌, ◌∙◌, ℕ, Bool, true, false, List, Option, Some, None, ap, arith, eq-eqb, length, map, refl, sym}
use Rattle.std.specs.Prelude.{IsTrue, option_map, slice_get}
use Rattle.std.proofs.lemmas.List.{length-map}
use Rattle.std.proofs.lemmas.Option.{slice_get-map, slice_get_within}
use Rattle.vortex_base.specs.Data.Columns.{ColumnData, row_of}
use Rattle.vortex_base.specs.Data.Exact.{both_hold}
use Rattle.vortex_base.specs.Data.Scopes.{Named}
use Rattle.vortex_expr.specs.Trees.Tree.{Place, Tree, between, binary, column, is_not_null, is_null, like, literal, not, row_count, stat}
use Rattle.vortex_base.specs.declared.aggregate.AggregateFnRef.{AggregateFnRef}
use Rattle.vortex_base.specs.declared.scalar_value.ScalarValue.{ScalarValue}
use Rattle.vortex_prune.proofs.Scanning.BinderScan.{element_there}
use Rattle.vortex_zone_map.proofs.ZoneMaps.ZoneKept.{zones_are}
use Rattle.vortex_prune.proofs.ZoneMaps.ZoneRows.{HoldsTold, cell_told, column_told}
use Rattle.vortex_prune.proofs.ZoneMaps.ZoneScan.{same_lists}
use Rattle.vortex_prune.specs.Binding.PartAnswers.{told_values}
use Rattle.vortex_zone_map.proofs.ZoneMaps.HeadPlaces.{aggregate_eq_is_exact, pointwise_at}
use Rattle.vortex_zone_map.specs.GivenTables.{stands_under}
use Rattle.vortex_zone_map.specs.Zone.{ZoneData, fits_zone, zones_fit}
use Rattle.vortex_prune.specs.Scanning.Selection.{proves_of, verdict_of}
use Rattle.vortex_prune.specs.Scanning.ZoneScans.{zone_verdict, zone_verdicts}
use Rattle.vortex_prune.specs.Zones.{zone_values}
use Rattle.vortex_zone_map.specs.ZoneMaps.{MapData, head, heads, zone_place}
use Rattle.vortex_rewrite.specs.Rewriting.Proof.{Assignment, value_under}
use Rattle.vortex_capi.specs.NamedStats.{HasNamed, asks, either_names, names, names_head, names_if}
use Rattle.vortex_capi.specs.Prunes.{AreRowAnswers, answer_by, answer_of}
use Rattle.vortex_capi.proofs.AnswerLemmas.{verdicts_answered}

left_true : (a b : Bool) → a ≡ true → (a || b) ≡ true
left_true a b h = rw h refl

right_true : (a b : Bool) → b ≡ true → (a || b) ≡ true
right_true true b h = refl
right_true false b h = h

-- ---- a row that holds what a zone tells wherever a proof asks

module _ (scope : List Named) (cs : List ColumnData) (r : ℕ) (z : ZoneData) (fits : fits_zone scope z.stats ≡ true) where
  abbrev Held : ℕ → AggregateFnRef → Type 0
  Held i g = HoldsTold scope cs r z g i

  abbrev held : Assignment
  held = zone_values scope (row_of r cs)

  told_alike : (f : AggregateFnRef) (x : Tree Place) → ((i : ℕ) (g : AggregateFnRef) → asks f x i g ≡ true → Held i g) → held f x ≡ told_values scope z f x
  told_alike f (column c) all =
      column_told scope cs r z fits f c.index c.dtype (zone_place scope c.index f c.dtype) refl (all c.index f (both_hold _ _ (eq-eqb c.index c.index refl) ((aggregate_eq_is_exact f f).1 refl)))
  told_alike f _ all = refl

  abbrev AllHeld : Tree Place → Type 0
  AllHeld e = (i : ℕ) (g : AggregateFnRef) → names e i g ≡ true → Held i g

  module _ (n : ℕ) where
    abbrev under_row : Tree Place → Option ScalarValue
    under_row e = value_under held n e

    abbrev under_zone : Tree Place → Option ScalarValue
    under_zone e = value_under (told_values scope z) n e

    value_alike : (e : Tree Place) → AllHeld e → under_row e ≡ under_zone e
    value_alike (column c) all = refl
    value_alike (literal c) all = refl
    value_alike (binary o a b) all =
        let left = value_alike a (λ i g h. all i g (left_true (names a i g) (names b i g) h)) in
        let right = value_alike b (λ i g h. all i g (right_true (names a i g) (names b i g) h)) in
        rw (left, right) refl
    value_alike (between o x l u) all =
        let first = value_alike x (λ i g h. all i g (left_true (names x i g || names l i g) (names u i g) (left_true (names x i g) (names l i g) h))) in
        let lower = value_alike l (λ i g h. all i g (left_true (names x i g || names l i g) (names u i g) (right_true (names x i g) (names l i g) h))) in
        let upper = value_alike u (λ i g h. all i g (right_true (names x i g || names l i g) (names u i g) h)) in
        rw (first, lower, upper) refl
    value_alike (is_null x) all = rw (value_alike x all) refl
    value_alike (is_not_null x) all = rw (value_alike x all) refl
    value_alike (not x) all = rw (value_alike x all) refl
    value_alike (like o x p) all =
        let text = value_alike x (λ i g h. all i g (left_true (names x i g) (names p i g) h)) in
        let pattern = value_alike p (λ i g h. all i g (right_true (names x i g) (names p i g) h)) in
        rw (text, pattern) refl
    value_alike (stat f x) all = told_alike f x all
    value_alike row_count all = refl

    proof_alike : (o : Option (Tree Place)) → ((i : ℕ) (g : AggregateFnRef) → names_if o i g ≡ true → Held i g) → proves_of o n held ≡ proves_of o n (told_values scope z)
    proof_alike None all = refl
    proof_alike (Some e) all = rw (value_alike e all) refl

    verdict_alike : (f t : Option (Tree Place)) → ((i : ℕ) (g : AggregateFnRef) → either_names f t i g ≡ true → Held i g) → verdict_of f t n held ≡ verdict_of f t n (told_values scope z)
    verdict_alike f t all =
        let skip = proof_alike f (λ i g h. all i g (left_true (names_if f i g) (names_if t i g) h)) in
        let keep = proof_alike t (λ i g h. all i g (right_true (names_if f i g) (names_if t i g) h)) in
        rw (skip, keep) refl

-- ---- the answers by a map that has what is named

module _ (f t : Option (Tree Place)) (m : MapData) (zones : List ZoneData) (named : List Bool) (is : named ≡ map (names_head f t) (heads m.scope)) (has : HasNamed named zones m) where
  held_there : (r : ℕ) (z : ZoneData) → slice_get zones r ≡ Some z → (i : ℕ) (g : AggregateFnRef) → either_names f t i g ≡ true → HoldsTold m.scope m.table.columns r z g i
  held_there r z at i g h k c there =
      let p = pointwise_at (stands_under (length m.rows)) (heads m.scope) m.table.columns k (head i c g) has.table there in
      let asked : slice_get named k ≡ Some true = ap (λ l. slice_get l k) is ∙ slice_get-map (names_head f t) (heads m.scope) k ∙ ap (option_map (names_head f t)) there ∙ ap Some h in
      cell_told m.table.columns zones r k (head i c g) z p.0 p.1 (has.told k (head i c g) p.0 there asked p.1) at

  counted_at : (r : ℕ) (z : ZoneData) → slice_get zones r ≡ Some z → slice_get m.rows r ≡ Some z.rows
  counted_at r z at = ap (λ l. slice_get l r) has.counted ∙ slice_get-map (λ (x : ZoneData). x.rows) zones r ∙ ap (option_map (λ (x : ZoneData). x.rows)) at

  pub named_answers : IsTrue (zones_fit m.scope zones) → (answers : List ℕ) → AreRowAnswers f t m answers → answers ≡ map (answer_by f t m.scope) zones
  named_answers fit answers a =
      let are = zones_are m.scope zones fit in
      let long : length m.rows ≡ length zones = ap length has.counted ∙ length-map zones (λ (x : ZoneData). x.rows) in
      let same : a.verdicts ≡ zone_verdicts f t m.scope zones =
      same_lists a.verdicts (zone_verdicts f t m.scope zones) (a.long ∙ long ∙ sym (length-map zones (zone_verdict f t m.scope)))
      (λ r v e.
      let z = element_there zones r (omega (arith, slice_get_within a.verdicts r v e, a.long, long)) in
      slice_get-map (zone_verdict f t m.scope) zones r ∙ ap (option_map (zone_verdict f t m.scope)) z.1
      ∙ ap Some (sym (a.rows r z.0.rows v (counted_at r z.0 z.1) e ∙ verdict_alike m.scope m.table.columns r z.0 (are r z.0 z.1) z.0.rows f t (held_there r z.0 z.1)))) in
      a.told ∙ ap (map answer_of) same ∙ verdicts_answered f t m.scope zones
