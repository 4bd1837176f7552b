-- The verdicts by marks of what is skipped and of what is whole are those that the table tells.
use Rattle.std.proofs.Common.{◌≡◌, ℕ, ◌+◌, ◌<◌, ◌≤◌, zero, suc, Bool, true, false, List, [], ◌∷◌, ◌++◌, Option, Some, None, arith, drop, get_or, inr, length, map, refl, subst, sym, take, ap, ◌∙◌}
use Rattle.std.proofs.Math.ListN.{set}
use Rattle.std.specs.Prelude.{◌&&◌, Contains, not, option_map, replicate, slice_get}
use Rattle.std.specs.List.{list_all}
use Rattle.std.proofs.lemmas.List.{length-map, take_all}
use Rattle.std.proofs.lemmas.Option.{get_or_from_slice_get, same_Some, slice_get-get_or, slice_get-map, slice_get_within}
use Rattle.vortex_expr.specs.Trees.Tree.{Place, Tree}
use Rattle.vortex_prune.proofs.ZoneMaps.ZoneMarks.{length-marked, marked_at}
use Rattle.vortex_prune.proofs.ZoneMaps.ZoneScan.{IsTruth, is_skipped_zone, is_tested_zone, is_whole_zone, refuses_there}
use Rattle.vortex_prune.specs.Scanning.Marks.{is_told, marked, marked_verdict, marked_verdicts}
use Rattle.vortex_prune.specs.Scanning.ZoneScans.{AllTold, IsTableRefused, TellsAs, is_left_open, open_causes, table_tells, zone_truth}
use Rattle.vortex_zone_map.specs.ZoneMaps.{MapData}
use Rattle.vortex_prune.specs.declared.scan.verdict.Verdict.{Verdict}
use Rattle.vortex_rewrite.specs.Causes.{IsRefusal}
use Rattle.vortex_rewrite.specs.Rewriting.Proof.{is_open}
use Rattle.vortex_stats.specs.declared.error.StatsError.{StatsError}

-- ---- lists of marks

-- a mark that isn't set is among them
pub mark_there : (bs : List Bool) (i : ℕ) (b : Bool) → slice_get bs i ≡ Some b → Contains bs b
mark_there bs i b h = (i, slice_get_within bs i b h, get_or_from_slice_get bs i b b h)

pub none_unset : (bs : List Bool) → list_all (λ b. b) bs ≡ true → Contains bs false → ⊥
none_unset [] h (k, l, e) = omega (arith, l)
none_unset (true ∷ bs) h (zero, l, e) = cc
none_unset (true ∷ bs) h (suc k, l, e) = none_unset bs h (k, omega (arith, l), e)
none_unset (false ∷ bs) h c = cc

pub some_unset : (bs : List Bool) → list_all (λ b. b) bs ≡ false → Contains bs false
some_unset [] h = absurd cc
some_unset (true ∷ bs) h = let c = some_unset bs h in (suc c.0, omega (arith, c.1), c.2)
some_unset (false ∷ bs) h = (0, omega arith, refl)

-- one more mark was turned round
turned_next : (k : ℕ) (bs : List Bool) (d : Bool) → k < length bs → set (map not (take k bs) ++ drop k bs) k (not (get_or (map not (take k bs) ++ drop k bs) k d)) ≡ map not (take (suc k) bs) ++ drop (suc k) bs
turned_next k [] d h = absurd (omega (arith, h))
turned_next zero (b ∷ bs) d h = refl
turned_next (suc k) (b ∷ bs) d h = ap (λ l. not b ∷ l) (turned_next k bs d (omega (arith, h)))

pub turned_more : (k : ℕ) (bs ms : List Bool) (y : Bool) → ms ≡ map not (take k bs) ++ drop k bs → k < length bs → y ≡ not (get_or ms k false) → set ms k y ≡ map not (take (k + 1) bs) ++ drop (k + 1) bs
turned_more k bs ms y is h e =
    let more : suc k ≡ k + 1 = omega arith in
    ap (set ms k) e ∙ ap (λ l. set l k (not (get_or l k false))) is ∙ turned_next k bs false h ∙ ap (λ n. map not (take n bs) ++ drop n bs) more

-- and all were
pub turned_all : (k : ℕ) (bs : List Bool) → length bs ≤ k → map not (take k bs) ++ drop k bs ≡ map not bs
turned_all zero [] h = refl
turned_all (suc k) [] h = refl
turned_all zero (b ∷ bs) h = absurd (omega (arith, h))
turned_all (suc k) (b ∷ bs) h = ap (λ l. not b ∷ l) (turned_all k bs (omega (arith, h)))

-- the verdict at a place is by the marks there
verdict_there : (as' bs : List Bool) (i : ℕ) (v : Verdict) → slice_get (marked_verdicts as' bs) i ≡ Some v
    → (a : Bool) × (b : Bool) × (slice_get as' i ≡ Some a) × (slice_get bs i ≡ Some b) × (v ≡ marked_verdict a b)
verdict_there [] bs i v h = absurd cc
verdict_there (a ∷ as') [] i v h = absurd cc
verdict_there (a ∷ as') (b ∷ bs) zero v h = (a, b, refl, refl, sym (same_Some (marked_verdict a b) v h))
verdict_there (a ∷ as') (b ∷ bs) (suc i) v h = verdict_there as' bs i v h

-- what stays of a mark
stays : (t : ℕ → Bool) (bs : List Bool) (i : ℕ) (b c : Bool) → slice_get bs i ≡ Some b → slice_get (marked t 0 bs) i ≡ Some c → c ≡ (b && t i)
stays t bs i b c at there =
    let moved = marked_at t 0 i bs ∙ ap (option_map (λ x. x && t (0 + i))) at in
    same_Some c (b && t (0 + i)) (sym there ∙ moved) ∙ ap (λ n. b && t n) (omega arith)

module _ (bound : Option (Tree Place)) (m : MapData) where
  truth_of : (i : ℕ) (b : Bool) → b ≡ is_told bound m i → IsTruth bound m i b
  truth_of i b is n at = is ∙ ap (λ k. zone_truth bound m.table.columns i k) (get_or_from_slice_get m.rows i n 0 at)

-- ---- the verdicts

module _ (f s bound : Option (Tree Place)) (m : MapData) where
  told_by : (i : ℕ) (a b : Bool) → a ≡ is_told f m i → b ≡ (not a && is_told bound m i) → ((a ≡ false) → TellsAs bound s m × (is_open s ≡ false)) → table_tells f s m i (marked_verdict a b)
  told_by i true b fals sat there = is_skipped_zone f s m i true refl (truth_of f m i true fals)
  told_by i false true fals sat there = is_whole_zone f s m i bound false refl (truth_of f m i false fals) (there refl).0 (there refl).1 true refl (truth_of bound m i true sat)
  told_by i false false fals sat there = is_tested_zone f s m i bound false refl (truth_of f m i false fals) (there refl).0 (there refl).1 false refl (truth_of bound m i false sat)

-- all zones are marked at first
all_set : (n i : ℕ) (b : Bool) → slice_get (replicate n true) i ≡ Some b → b ≡ true
all_set zero i b h = absurd cc
all_set (suc n) zero b h = sym (same_Some true b h)
all_set (suc n) (suc i) b h = all_set n i b h

module _ (f s bound : Option (Tree Place)) (m : MapData) (n : ℕ) (skipped whole : List Bool) (fals : skipped ≡ marked (is_told f m) 0 (replicate n true)) where
  fals_at : (i : ℕ) (a : Bool) → slice_get skipped i ≡ Some a → a ≡ is_told f m i
  fals_at i a at =
      let there : slice_get (marked (is_told f m) 0 (replicate n true)) i ≡ Some a = ap (λ l. slice_get l i) (sym fals) ∙ at in
      let long : i < length (replicate n true) = omega (arith, slice_get_within (marked (is_told f m) 0 (replicate n true)) i a there, length-marked (is_told f m) 0 (replicate n true)) in
      let first = slice_get-get_or (replicate n true) i true long in
      stays (is_told f m) (replicate n true) i _ a first there ∙ ap (λ x. x && is_told f m i) (all_set n i _ first)

  sat_at : whole ≡ marked (is_told bound m) 0 (map not skipped) → (i : ℕ) (a b : Bool) → slice_get skipped i ≡ Some a → slice_get whole i ≡ Some b → b ≡ (not a && is_told bound m i)
  sat_at sat i a b at there = stays (is_told bound m) (map not skipped) i (not a) b (slice_get-map not skipped i ∙ ap (option_map not) at) (ap (λ l. slice_get l i) (sym sat) ∙ there)

  pub marks_tell : whole ≡ marked (is_told bound m) 0 (map not skipped) → (Contains skipped false → TellsAs bound s m) → (Contains skipped false → is_open s ≡ false) → AllTold f s m (marked_verdicts skipped whole)
  marks_tell sat tells shut i v at =
      let x = verdict_there skipped whole i v at in
      subst (table_tells f s m i) (sym x.4)
      (told_by f s bound m i x.0 x.1 (fals_at i x.0 x.2) (sat_at sat i x.0 x.1 x.2 x.3)
      (λ e. let c = mark_there skipped i false (x.2 ∙ ap Some e) in (tells c, shut c)))

  -- a refusal to bind the satisfier is one at a zone that isn't skipped
  pub rest_refused : length skipped ≡ length m.rows → (e : StatsError) → Contains skipped false → IsRefusal (open_causes s m.rows) e → IsTableRefused f s m e
  rest_refused long e c h =
      let at : slice_get skipped c.0 ≡ Some false = slice_get-get_or skipped c.0 false c.1 ∙ ap Some c.2 in
      inr (c.0, omega (arith, c.1, long), refuses_there f s m c.0 false e refl (truth_of f m c.0 false (fals_at c.0 false at)) h)

pub length-verdicts : (as' bs : List Bool) → length as' ≡ length bs → length (marked_verdicts as' bs) ≡ length as'
length-verdicts [] bs h = refl
length-verdicts (a ∷ as') [] h = absurd (omega (arith, h))
length-verdicts (a ∷ as') (b ∷ bs) h = ap suc (length-verdicts as' bs (omega (arith, h)))

-- one more verdict
next_verdict : (n : ℕ) (as' bs : List Bool) → n < length as' → length as' ≡ length bs → marked_verdicts (take n as') (take n bs) ++ marked_verdict (get_or as' n false) (get_or bs n false) ∷ [] ≡ marked_verdicts (take (suc n) as') (take (suc n) bs)
next_verdict n [] bs h long = absurd (omega (arith, h))
next_verdict n (a ∷ as') [] h long = absurd (omega (arith, long))
next_verdict zero (a ∷ as') (b ∷ bs) h long = refl
next_verdict (suc n) (a ∷ as') (b ∷ bs) h long = ap (λ l. marked_verdict a b ∷ l) (next_verdict n as' bs (omega (arith, h)) (omega (arith, long)))

pub verdicts_more : (n : ℕ) (as' bs : List Bool) (vs ws : List Verdict) (v : Verdict) → vs ≡ marked_verdicts (take n as') (take n bs) → n < length as' → length as' ≡ length bs → v ≡ marked_verdict (get_or as' n false) (get_or bs n false)
    → ws ≡ vs ++ v ∷ [] → ws ≡ marked_verdicts (take (n + 1) as') (take (n + 1) bs)
verdicts_more n as' bs vs ws v is h long e end =
    let more : suc n ≡ n + 1 = omega arith in
    end ∙ ap (λ l. l ++ v ∷ []) is ∙ ap (λ x. marked_verdicts (take n as') (take n bs) ++ x ∷ []) e ∙ next_verdict n as' bs h long ∙ ap (λ k. marked_verdicts (take k as') (take k bs)) more

pub verdicts_all : (n : ℕ) (as' bs : List Bool) → length as' ≤ n → length as' ≡ length bs → marked_verdicts (take n as') (take n bs) ≡ marked_verdicts as' bs
verdicts_all n as' bs h long = ap (λ l. marked_verdicts l (take n bs)) (take_all n as' h) ∙ ap (marked_verdicts as') (take_all n bs (omega (arith, h, long)))

-- ---- what a call after another found

-- where there are zones an open proof is left open
pub open_somewhere : (s : Option (Tree Place)) (rows : List ℕ) (bs : List Bool) → length bs ≡ length rows → is_left_open s rows ≡ false → Contains bs false → is_open s ≡ false
open_somewhere s [] bs long shut c = absurd (omega (arith, long, c.1))
open_somewhere s (n ∷ rows) bs long shut c = shut

-- the verdicts by the marks of all zones
pub verdicts_told : (f s bound o : Option (Tree Place)) (m : MapData) (n : ℕ) (all skipped others whole d1 d2 d3 d4 d5 d6 : List Bool) (vs : List Verdict)
    → d1 ≡ all → all ≡ replicate n true → skipped ≡ marked (is_told f m) 0 d1 → d2 ≡ skipped → (Contains d2 false → TellsAs bound s m) → (Contains d2 false → is_open s ≡ false)
    → d3 ≡ skipped → others ≡ map not d3 → o ≡ bound → d4 ≡ others → whole ≡ marked (is_told o m) 0 d4 → d5 ≡ skipped → d6 ≡ whole → vs ≡ marked_verdicts d5 d6 → AllTold f s m vs
verdicts_told f s bound o m n all skipped others whole d1 d2 d3 d4 d5 d6 vs a1 a k e2 tells shut e3 not_skipped eo e4 w e5 e6 v =
    let unset : Contains skipped false → Contains d2 false = λ c. subst (λ (l : List Bool). Contains l false) (sym e2) c in
    let fals : skipped ≡ marked (is_told f m) 0 (replicate n true) = k ∙ ap (marked (is_told f m) 0) (a1 ∙ a) in
    let sat : whole ≡ marked (is_told bound m) 0 (map not skipped) =
    w ∙ ap (λ (x : Option (Tree Place)). marked (is_told x m) 0 d4) eo ∙ ap (marked (is_told bound m) 0) (e4 ∙ not_skipped ∙ ap (map not) e3) in
    let found : vs ≡ marked_verdicts skipped whole = v ∙ ap (λ l. marked_verdicts l d6) e5 ∙ ap (marked_verdicts skipped) e6 in
    subst (AllTold f s m) (sym found) (marks_tell f s bound m n skipped whole fals sat (λ c. tells (unset c)) (λ c. shut (unset c)))

-- a refusal to bind the satisfier
pub satisfier_refused : (f s : Option (Tree Place)) (m : MapData) (n : ℕ) (all skipped d1 d2 : List Bool) (e : StatsError)
    → d1 ≡ all → all ≡ replicate n true → skipped ≡ marked (is_told f m) 0 d1 → d2 ≡ skipped → length skipped ≡ length m.rows → Contains d2 false → IsRefusal (open_causes s m.rows) e → IsTableRefused f s m e
satisfier_refused f s m n all skipped d1 d2 e a1 a k e2 long c h =
    rest_refused f s None m n skipped skipped (k ∙ ap (marked (is_told f m) 0) (a1 ∙ a)) long e (subst (λ (l : List Bool). Contains l false) e2 c) h

-- how many marks there are
pub told_long : (f : Option (Tree Place)) (m : MapData) (marks told : List Bool) → told ≡ marked (is_told f m) 0 marks → length marks ≡ length m.rows → length told ≡ length m.rows
told_long f m marks told is long = ap length is ∙ length-marked (is_told f m) 0 marks ∙ long

pub others_long : (skipped d3 others d4 : List Bool) (n : ℕ) → d3 ≡ skipped → others ≡ map not d3 → d4 ≡ others → length skipped ≡ n → length d4 ≡ n
others_long skipped d3 others d4 n e3 not_skipped e4 long = ap length (e4 ∙ not_skipped) ∙ length-map d3 not ∙ ap length e3 ∙ long
