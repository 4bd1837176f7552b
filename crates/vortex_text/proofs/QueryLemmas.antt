-- The answers of the parts' own statistics, what a text's reply is made of, and how far a scan by batches has come.
use Rattle.std.proofs.Common.{◌≡◌, ◌≤◌, ◌+◌, ℕ, Bool, List, [], ◌∷◌, ◌++◌, Option, All, length, map, drop, take, refl, ap, sym, subst, ◌∙◌, alloc_error, inl, inr}
use Rattle.std.proofs.Math.Seq.{take-add}
use Rattle.std.proofs.lemmas.Bool.{cases_Bool}
use Rattle.std.proofs.lemmas.List.{drop-drop}
use Rattle.std.proofs.lemmas.List.Elements.{All-drop}
use Rattle.std.specs.List.{AllByRecursion, enumerate_from, filter}
use Rattle.std.specs.declared.alloc.AllocError.{AllocError}
use Rattle.vortex_base.specs.Data.Scopes.{Named}
use Rattle.vortex_expr.specs.Trees.Tree.{Place, Tree}
use Rattle.vortex_prune.specs.Part.{PartData, zone_of}
use Rattle.vortex_prune.specs.Binding.PartAnswers.{part_values, told_values}
use Rattle.vortex_prune.specs.Scanning.Selection.{answered, is_proved, is_whole, proves_of, skipped_parts, verdict, whole_parts}
use Rattle.vortex_prune.specs.Scanning.ZoneScans.{skipped_zones, whole_zones, zone_verdict}
use Rattle.vortex_prune.specs.Zones.{zones_of}
use Rattle.vortex_prune.specs.declared.scan.outcome.RangeScan.{RangeScan}
use Rattle.vortex_rewrite.specs.Answers.{IsMemory}
use Rattle.vortex_stats.specs.declared.error.StatsError.{StatsError}
use Rattle.vortex_stats.specs.declared.error.StatsError.TheVariants as faults
use Rattle.vortex_text.specs.Batches.{IsFoundIn}
use Rattle.vortex_text.specs.Fitting.{IsPartOf, IsQueryOver}
use Rattle.vortex_text.specs.Program.{by_statistics}

pub own_answered : (parts : List PartData) → answered (λ (part : PartData) row n. part_values part) parts parts ≡ map by_statistics parts
own_answered [] = refl
own_answered (part ∷ parts) = ap (λ more. by_statistics part ∷ more) (own_answered parts)

-- what is told as refused memory can be no other fault
pub not_memory : (f : StatsError) → IsMemory f → ((refused : AllocError) → f ≡ faults.Memory refused → ⊥) → ⊥
not_memory f h other = other alloc_error h

-- ---- what zones tell is what the parts' own statistics answer

module _ {X Y Z : Type 0} (g : Z → X) (h : Z → Y) (s : X → Bool) (t : Y → Bool) where
  -- where two tests answer alike, they pass at the same places
  places_alike : (n : ℕ) (zs : List Z) → AllByRecursion (λ z. s (g z) ≡ t (h z)) zs
      → map (λ (e : ℕ × X). e.0) (filter (λ e. s e.1) (enumerate_from n (map g zs))) ≡ map (λ (e : ℕ × Y). e.0) (filter (λ e. t e.1) (enumerate_from n (map h zs)))
  places_alike n [] alike = refl
  places_alike n (z ∷ zs) alike =
      let more = places_alike (n + 1) zs alike.1 in
      elim (cases_Bool (t (h z))) [
        | inl is ↦ rw (alike.0 ∙ is, is) (ap (λ l. n ∷ l) more)
        | inr isnt ↦ rw (alike.0 ∙ isnt, isnt) more
      ]

module _ (f s : Option (Tree Place)) (scope : List Named) where
  skipped_alike : (parts : List PartData) → AllByRecursion (λ (p : PartData). p.chunk.scope ≡ scope) parts
      → AllByRecursion (λ (p : PartData). proves_of f (zone_of p).rows (told_values scope (zone_of p)) ≡ is_proved f (by_statistics p).0 (by_statistics p).1) parts
  skipped_alike [] scoped = tt
  skipped_alike (p ∷ parts) scoped = (ap (λ ns. proves_of f (zone_of p).rows (told_values ns (zone_of p))) (sym scoped.0), skipped_alike parts scoped.1)

  whole_alike : (parts : List PartData) → AllByRecursion (λ (p : PartData). p.chunk.scope ≡ scope) parts
      → AllByRecursion (λ (p : PartData). is_whole (zone_verdict f s scope (zone_of p)) ≡ is_whole (verdict f s (by_statistics p).0 (by_statistics p).1)) parts
  whole_alike [] scoped = tt
  whole_alike (p ∷ parts) scoped = (ap (λ ns. is_whole (zone_verdict f s ns (zone_of p))) (sym scoped.0), whole_alike parts scoped.1)

  pub skipped_same : (parts : List PartData) → AllByRecursion (λ (p : PartData). p.chunk.scope ≡ scope) parts → skipped_zones f scope (zones_of parts) ≡ skipped_parts f (map by_statistics parts)
  skipped_same parts scoped = places_alike zone_of by_statistics (λ zone. proves_of f zone.rows (told_values scope zone)) (λ d. is_proved f d.0 d.1) 0 parts (skipped_alike parts scoped)

  pub whole_same : (parts : List PartData) → AllByRecursion (λ (p : PartData). p.chunk.scope ≡ scope) parts → whole_zones f s scope (zones_of parts) ≡ whole_parts f s (map by_statistics parts)
  whole_same parts scoped = places_alike zone_of by_statistics (λ zone. is_whole (zone_verdict f s scope zone)) (λ d. is_whole (verdict f s d.0 d.1)) 0 parts (whole_alike parts scoped)

-- ---- how far a scan by batches has come

-- of all parts those in front are scanned, this is found in them, and these are left
pub record IsReached (predicate : Tree Place) (all : List PartData) (before : ℕ) (found : RangeScan) (left : List PartData) : Type 0 where
  pub within : before ≤ length all
  pub left_is : left ≡ drop before all
  pub so_far : IsFoundIn predicate (take before all) found

module _ (p : Tree Place) (all : List PartData) where
  -- some more of them are scanned
  pub reached_next : (before n : ℕ) (old new : RangeScan) (left next : List PartData) → before + n ≤ length all → IsReached p all before old left → next ≡ drop n left → IsFoundIn p (take before all ++ take n left) new
      → IsReached p all (before + n) new next
  reached_next before n old new left next within r is more = record {
    within = within;
    left_is = is ∙ ap (drop n) r.left_is ∙ drop-drop n before all;
    so_far = subst (λ l. IsFoundIn p l new) (ap (λ l. take before all ++ take n l) r.left_is ∙ sym (take-add before n all)) more;
  }

  -- those that are left are of the same query
  pub reached_query : (scope : List Named) (before : ℕ) (found : RangeScan) (left : List PartData) → IsReached p all before found left → IsQueryOver scope all p → IsQueryOver scope left p
  reached_query scope before found left r query = record {
    is_scope = query.is_scope;
    are_parts = subst (All (IsPartOf scope)) (sym r.left_is) (All-drop (IsPartOf scope) before all query.are_parts);
    is_predicate = query.is_predicate;
  }
