-- What is told by the rows of the table of a map of zones is what the zones' statistics tell.
use Rattle.std.proofs.Common.{◌≡◌, All, ℕ, zero, suc, Bool, true, false, List, [], ◌∷◌, ◌++◌, Option, Some, None, arith, inl, inr, length, refl, subst, sym, ap, ◌∙◌}
use Rattle.std.specs.Prelude.{Err, IfOk, Ok, Result, if◌then◌else◌, option_map, slice_get, IsTrue}
use Rattle.std.proofs.lemmas.List.{length-map}
use Rattle.std.proofs.lemmas.Option.{same_Some, slice_get_within, slice_get-map}
use Rattle.std.proofs.lemmas.List.Elements.{recursion_from_All}
use Rattle.vortex_expr.specs.Meanings.Fitting.{fits_scope}
use Rattle.vortex_base.specs.Data.Columns.{row_of}
use Rattle.vortex_expr.specs.Meanings.Meaning.{is_true, meaning}
use Rattle.vortex_base.specs.Data.Scopes.{Named}
use Rattle.vortex_expr.specs.Trees.Tree.{Place, Tree, has_bare_column}
use Rattle.vortex_prune.proofs.Scanning.BinderScan.{answered_there, element_there, skipped_or}
use Rattle.vortex_prune.proofs.Scanning.ScanLemmas.{answered_long}
use Rattle.vortex_prune.proofs.Scanning.WholeScan.{all_at}
use Rattle.vortex_prune.proofs.ZoneMaps.ZoneRows.{values_same}
use Rattle.vortex_prune.specs.Binding.BoundTo.{HasNoColumnOn, WhereFaithful}
use Rattle.vortex_prune.specs.Binding.PartAnswers.{part_values}
use Rattle.vortex_prune.specs.Part.{PartData, zone_of}
use Rattle.vortex_zone_map.specs.Zone.{ZoneData}
use Rattle.vortex_prune.specs.Scanning.PartScans.{AreTold, TellsOf}
use Rattle.vortex_prune.specs.Scanning.Selection.{Answered, proves_of, verdict, verdict_of}
use Rattle.vortex_prune.proofs.ZoneMaps.ZoneRefusals.{causes_alike, is_opened, kept_open, some_open}
use Rattle.vortex_rewrite.proofs.Rewriting.CauseLemmas.{refusal-more}
use Rattle.vortex_rewrite.specs.Causes.{IsRefusal, no_causes}
use Rattle.vortex_rewrite.specs.Rewriting.Falsifiers.{falsifier}
use Rattle.vortex_rewrite.specs.Rewriting.Lawful.{OwnRule}
use Rattle.vortex_prune.specs.Scanning.ZoneScans.{IsTableRefused, is_proved_part, is_proved_zone, kept_zones, open_causes, pruning_causes, table_refuses, zone_causes}
use Rattle.vortex_prune.specs.Scanning.ZoneScans.{AllTold, AreRowVerdicts, IsShutIfKept, IsShutIfVerdict, TellsAs, row_values, statistics_answers, table_tells, table_verdict, zone_truth, zone_verdict, zone_verdicts}
use Rattle.vortex_prune.specs.Zones.{HaveScope, is_zone_row, zone_values, zones_of}
use Rattle.vortex_zone_map.specs.ZoneMaps.{IsMapOf, MapData}
use Rattle.vortex_prune.specs.declared.scan.verdict.Verdict.{Verdict}
use Rattle.vortex_prune.specs.declared.scan.verdict.Verdict.TheVariants.{Skipped, Whole, Tested}
use Rattle.vortex_rewrite.specs.Rewriting.Proof.{is_open, value_under}
use Rattle.vortex_stats.specs.declared.error.StatsError.{StatsError}

-- ---- a bound proof tells on each row what the proof does of the zone

tells_as : (m : MapData) (e b : Tree Place) → has_bare_column e ≡ false → ((r n : ℕ) → meaning b (row_of r m.table.columns) n ≡ value_under (zone_values m.scope (row_of r m.table.columns)) n e) → TellsAs (Some b) (Some e) m
tells_as m e b free value r n at = ap is_true (value r n) ∙ sym (ap (λ t. is_true (if t then None else value_under (row_values m r) n e)) free)

-- it was bound by a binder over the table
module _ (m s : MapData) (same : s ≡ m) (e : Tree Place) (rows_typed : (r : ℕ) → IsTrue (is_zone_row s.scope (row_of r m.table.columns))) where
  pub bound_tells : (r : Result (Tree Place) StatsError) → has_bare_column e ≡ false
      → IfOk r (λ b. WhereFaithful (λ row n. is_zone_row s.scope row) (λ row n. HasNoColumnOn e row → meaning b row n ≡ value_under (zone_values s.scope row) n e)) → IfOk r (λ b. TellsAs (Some b) (Some e) m)
  bound_tells (Ok b) shut value =
      tells_as m e b shut (λ r n. value (row_of r m.table.columns) n (rows_typed r) (inl shut) ∙ ap (λ (t : MapData). value_under (zone_values t.scope (row_of r m.table.columns)) n e) same)
  bound_tells (Err f) shut value = tt

pub tells_none : (m : MapData) → TellsAs None None m
tells_none m r n at = refl

pub rows_long : (m : MapData) (zones : List ZoneData) → IsMapOf zones m → length m.rows ≡ length zones
rows_long m zones is = ap (λ (x : MapData). length x.rows) is.same ∙ length-map zones (λ (z : ZoneData). z.rows)

pub tells_nothing : (m : MapData) (bound proof : Option (Tree Place)) → length m.rows ≡ 0 → TellsAs bound proof m
tells_nothing m bound proof h r n at = absurd (omega (arith, h, slice_get_within m.rows r n at))

-- ---- the verdict on a zone

-- the row count of a zone is kept
pub row_count_at : (m : MapData) (zones : List ZoneData) (i : ℕ) (zone : ZoneData) → IsMapOf zones m → slice_get zones i ≡ Some zone → slice_get m.rows i ≡ Some zone.rows
row_count_at m zones i zone is at = ap (λ (x : MapData). slice_get x.rows i) is.same ∙ slice_get-map (λ (z : ZoneData). z.rows) zones i ∙ ap (option_map (λ (z : ZoneData). z.rows)) at

-- what was found true on the row
abbrev pub IsTruth : Option (Tree Place) → MapData → ℕ → Bool → Type 0
IsTruth bound m i b = (n : ℕ) → slice_get m.rows i ≡ Some n → b ≡ zone_truth bound m.table.columns i n

module _ (falsifier satisfier : Option (Tree Place)) (m : MapData) (i : ℕ) where
  pub is_skipped_zone : (b : Bool) → b ≡ true → IsTruth falsifier m i b → table_tells falsifier satisfier m i Skipped
  is_skipped_zone b holds told = (
    (λ n at. ap (λ c. if c then Skipped else if proves_of satisfier n (row_values m i) then Whole else Tested) (sym holds ∙ told n at)),
    tt,
  )

  module _ (bound : Option (Tree Place)) (a : Bool) (no : a ≡ false) (not_told : IsTruth falsifier m i a) (tells : TellsAs bound satisfier m) (shut : is_open satisfier ≡ false) where
    by_satisfier : (b : Bool) → IsTruth bound m i b → (n : ℕ) → slice_get m.rows i ≡ Some n → (if b then Whole else Tested) ≡ table_verdict falsifier satisfier m i n
    by_satisfier b told n at =
        ap (λ c. if c then Whole else Tested) (told n at ∙ tells i n at) ∙ ap (λ c. if c then Skipped else if proves_of satisfier n (row_values m i) then Whole else Tested) (sym no ∙ not_told n at)

    pub is_whole_zone : (b : Bool) → b ≡ true → IsTruth bound m i b → table_tells falsifier satisfier m i Whole
    is_whole_zone b holds told = ((λ n at. ap (λ c. if c then Whole else Tested) (sym holds) ∙ by_satisfier b told n at), shut)

    pub is_tested_zone : (b : Bool) → b ≡ false → IsTruth bound m i b → table_tells falsifier satisfier m i Tested
    is_tested_zone b other told = ((λ n at. ap (λ c. if c then Whole else Tested) (sym other) ∙ by_satisfier b told n at), shut)

-- ---- refusals

-- a satisfier was about to be bound, since the falsifier isn't true
pub refuses_there : (bound s : Option (Tree Place)) (m : MapData) (r : ℕ) (b : Bool) (e : StatsError) → b ≡ false → IsTruth bound m r b → IsRefusal (open_causes s m.rows) e → table_refuses bound s m r e
refuses_there bound s m r b e untrue told h =
    refusal-more (open_causes s m.rows) (record no_causes { open_proof = ((n : ℕ) → slice_get m.rows r ≡ Some n → zone_truth bound m.table.columns r n ≡ false) × (is_open s ≡ true) }) e
    (record { rule = λ k x. x; not_bool = λ x. x; binder = λ k x. x; wrong_type = λ x. x; open_proof = λ x. ((λ n at. sym (told n at) ∙ untrue), is_opened s m.rows x) })
    h

-- so there is a zone that isn't skipped
pub refused_kept : (bound s f : Option (Tree Place)) (m : MapData) (zones : List ZoneData) (e : StatsError) → TellsAs bound f m → IsMapOf zones m → IsTableRefused bound s m e → IsRefusal (open_causes s (kept_zones f m.scope zones)) e
refused_kept bound s f m zones e tells is (inl memory) = subst (IsRefusal (open_causes s (kept_zones f m.scope zones))) (sym memory) tt
refused_kept bound s f m zones e tells is (inr h) =
    let z = element_there zones h.0 (omega (arith, h.1, rows_long m zones is)) in
    let counted = row_count_at m zones h.0 z.0 is z.1 in
    refusal-more (record no_causes { open_proof = ((n : ℕ) → slice_get m.rows h.0 ≡ Some n → zone_truth bound m.table.columns h.0 n ≡ false) × (is_open s ≡ true) })
    (open_causes s (kept_zones f m.scope zones)) e
    (record {
      rule = λ k x. x;
      not_bool = λ x. x;
      binder = λ k x. x;
      wrong_type = λ x. x;
      open_proof = λ x. kept_open (is_proved_zone m.scope f) s x.1 zones h.0 z.0 z.1 (ap (proves_of f z.0.rows) (sym (values_same m zones h.0 z.0 is z.1)) ∙ sym (tells h.0 z.0.rows counted) ∙ x.0 z.0.rows counted);
    })
    h.2

-- and there are zones
pub refused_somewhere : (bound s : Option (Tree Place)) (m : MapData) (e : StatsError) → IsTableRefused bound s m e → IsRefusal (open_causes s m.rows) e
refused_somewhere bound s m e (inl memory) = subst (IsRefusal (open_causes s m.rows)) (sym memory) tt
refused_somewhere bound s m e (inr h) =
    refusal-more (record no_causes { open_proof = ((n : ℕ) → slice_get m.rows h.0 ≡ Some n → zone_truth bound m.table.columns h.0 n ≡ false) × (is_open s ≡ true) }) (open_causes s m.rows) e
    (record { rule = λ k x. x; not_bool = λ x. x; binder = λ k x. x; wrong_type = λ x. x; open_proof = λ x. some_open s m.rows h.0 h.1 x.1 })
    h.2

-- zones that parts stand for are refused as the parts are
pub parts_alike : (rules : List OwnRule) (p : Tree Place) (scope : List Named) (parts : List PartData) → HaveScope scope parts → pruning_causes rules p scope (zones_of parts) ≡ zone_causes rules p parts
parts_alike rules p scope parts scoped =
    causes_alike zone_of (is_proved_zone scope) is_proved_part rules p parts
    (λ i part at. ap (λ ns. is_proved_zone ns (falsifier rules p) (zone_of part)) (sym (all_at (λ q. q.chunk.scope ≡ scope) parts i part (recursion_from_All (λ q. q.chunk.scope ≡ scope) parts scoped) at)))

-- ---- the verdicts on all zones

-- lists are the same where they are as long and each element of the one stands in the other
pub same_lists : {X : Type 0} (xs ys : List X) → length xs ≡ length ys → ((i : ℕ) (x : X) → slice_get xs i ≡ Some x → slice_get ys i ≡ Some x) → xs ≡ ys
same_lists [] [] long h = refl
same_lists [] (y ∷ ys) long h = absurd (omega (arith, long))
same_lists (x ∷ xs) [] long h = absurd (omega (arith, long))
same_lists (x ∷ xs) (y ∷ ys) long h =
    ap (λ z. z ∷ xs) (sym (same_Some y x (h 0 x refl))) ∙ ap (λ l. y ∷ l) (same_lists xs ys (omega (arith, long)) (λ i z e. h (suc i) z e))

-- by what was bound the verdicts on all rows are told
rows_told : (bound f s : Option (Tree Place)) (m : MapData) (vs : List Verdict) → AllTold bound s m vs → TellsAs bound f m → AreRowVerdicts f s m vs
rows_told bound f s m vs told tells r n v at there =
    (told r v there).0 n at ∙ ap (λ c. if c then Skipped else if proves_of s n (row_values m r) then Whole else Tested) (tells r n at)

-- in the map of zones each row answers what its zone's statistics do
pub all_verdicts : (f s : Option (Tree Place)) (m : MapData) (vs : List Verdict) → AreRowVerdicts f s m vs → length vs ≡ length m.rows → (zones : List ZoneData) → IsMapOf zones m → vs ≡ zone_verdicts f s m.scope zones
all_verdicts f s m vs told long zones is =
    same_lists vs (zone_verdicts f s m.scope zones) (long ∙ rows_long m zones is ∙ sym (length-map zones (zone_verdict f s m.scope)))
    (λ i v e.
    let z = element_there zones i (omega (arith, slice_get_within vs i v e, long, rows_long m zones is)) in
    slice_get-map (zone_verdict f s m.scope) zones i ∙ ap (option_map (zone_verdict f s m.scope)) z.1
    ∙ ap Some (sym (told i z.0.rows v (row_count_at m zones i z.0 is z.1) e ∙ ap (verdict_of f s z.0.rows) (values_same m zones i z.0 is z.1))))

-- the same by equal proofs
module _ {V : Type 0} (items : V → List Verdict) where
  pub rows_found : (bound told f other a b : Option (Tree Place)) (m : MapData) (r : Result V StatsError) → told ≡ bound → f ≡ other → a ≡ b → TellsAs bound f m → IfOk r (λ vs. AllTold told a m (items vs)) → IfOk r (λ vs. AreRowVerdicts other b m (items vs))
  rows_found bound told f other a b m (Ok vs) is same also tells h =
      let by_bound = subst (λ (o : Option (Tree Place)). AllTold o b m (items vs)) is (subst (λ (o : Option (Tree Place)). AllTold told o m (items vs)) also h) in
      rows_told bound other b m (items vs) by_bound (subst (λ (o : Option (Tree Place)). TellsAs bound o m) same tells)
  rows_found bound told f other a b m (Err fault) is same also tells h = tt

  pub verdicts_found : (f s : Option (Tree Place)) (m : MapData) (r : Result V StatsError) → IfOk r (λ vs. AreRowVerdicts f s m (items vs)) → IfOk r (λ vs. length (items vs) ≡ length m.rows) → IfOk r (λ vs. (zones : List ZoneData) → IsMapOf zones m → items vs ≡ zone_verdicts f s m.scope zones)
  verdicts_found f s m (Ok vs) told long = all_verdicts f s m (items vs) told long
  verdicts_found f s m (Err fault) told long = tt

-- one more zone was looked at
pub all_pushed : {X : Type 0} (P : ℕ → X → Type 0) (xs : List X) (x : X) (n : ℕ) → length xs ≡ n → P n x → ((i : ℕ) (y : X) → slice_get xs i ≡ Some y → P i y) → (i : ℕ) (y : X) → slice_get (xs ++ x ∷ []) i ≡ Some y → P i y
all_pushed P [] x n long own each zero y e = subst (λ (z : _). P 0 z) (same_Some x y e) (subst (λ k. P k x) (sym long) own)
all_pushed P [] x n long own each (suc i) y e = absurd cc
all_pushed P (z ∷ xs) x n long own each zero y e = each zero y e
all_pushed P (z ∷ xs) x n long own each (suc i) y e = all_pushed (λ j w. P (suc j) w) xs x (length xs) refl (subst (λ k. P k x) (sym long) own) (λ j w h. each (suc j) w h) i y e

-- ---- a scan by verdicts

-- the answers that stand with a part are those of its own statistics
answer_from : (parts : List PartData) (i : ℕ) (d : Answered) → slice_get (statistics_answers parts) i ≡ Some d → (slice_get parts i ≡ Some d.0) × (part_values d.0 ≡ d.1)
answer_from [] i d e = absurd cc
answer_from (p ∷ parts) zero d e =
    let own : Answered = (p, part_values p) in
    subst (λ (c : Answered). (Some p ≡ Some c.0) × (part_values c.0 ≡ c.1)) (same_Some own d e) (refl, refl)
answer_from (p ∷ parts) (suc i) d e = answer_from parts i d e

answer_there : (parts : List PartData) (i : ℕ) (part : PartData) → slice_get parts i ≡ Some part → (d : Answered) × (slice_get (statistics_answers parts) i ≡ Some d) × (d.0 ≡ part)
answer_there parts i part e = answered_there (λ (p : PartData) row n. part_values p) parts parts i part refl e

-- what is told of a part
abbrev pub listed : List Verdict → ℕ → PartData → Verdict → Type 0
listed vs i part v = slice_get vs i ≡ Some v

part_verdict : (f s : Option (Tree Place)) (scope : List Named) (p : PartData) → p.chunk.scope ≡ scope → zone_verdict f s scope (zone_of p) ≡ verdict f s p (part_values p)
part_verdict f s scope p same = ap (λ ns. zone_verdict f s ns (zone_of p)) (sym same)

pub verdicts_tell : (f s : Option (Tree Place)) (scope : List Named) (parts : List PartData) (vs : List Verdict) → HaveScope scope parts → vs ≡ zone_verdicts f s scope (zones_of parts) → TellsOf (listed vs) f s parts (statistics_answers parts)
verdicts_tell f s scope parts vs scoped is = record {
  long = answered_long (λ (p : PartData) row n. part_values p) parts parts refl;
  there = answer_there parts;
  same = λ i d v e is_part told.
      let own = answer_from parts i d e in
      let scope_of = all_at (λ q. q.chunk.scope ≡ scope) parts i d.0 (recursion_from_All (λ q. q.chunk.scope ≡ scope) parts scoped) own.0 in
      let at : slice_get vs i ≡ Some (zone_verdict f s scope (zone_of d.0)) =
      ap (λ l. slice_get l i) is ∙ slice_get-map (zone_verdict f s scope) (zones_of parts) i ∙ ap (option_map (zone_verdict f s scope)) (slice_get-map zone_of parts i ∙ ap (option_map zone_of) own.0) in
      same_Some v (zone_verdict f s scope (zone_of d.0)) (sym told ∙ at) ∙ part_verdict f s scope d.0 scope_of ∙ ap (verdict f s d.0) own.1;
}

-- where a part isn't skipped the satisfier has no column outside its placeholders
pub shut_if_kept : (s : Option (Tree Place)) (parts : List PartData) (vs : List Verdict) (skipped : List ℕ) → AreTold (listed vs) parts skipped → IsShutIfVerdict s vs → IsShutIfKept skipped s parts
shut_if_kept s parts vs skipped told shut i less =
    let p = element_there parts i less in
    let t = told i p.0 p.1 in
    skipped_or t.0 skipped i (is_open s ≡ false) t.2 (shut i t.0 t.1)

-- ---- the predicate fits the scope of each part

pub fits_each : (p : Tree Place) (scope : List Named) (parts : List PartData) → HaveScope scope parts → IsTrue (fits_scope p scope) → All (λ part. IsTrue (fits_scope p part.chunk.scope)) parts
fits_each p scope parts have fits k d less = ap (fits_scope p) (have k d less) ∙ fits
