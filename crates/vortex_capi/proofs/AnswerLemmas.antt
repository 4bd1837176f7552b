-- The answers for zones by the verdicts on them.
use Rattle.std.proofs.Common.{◌≡◌, ◌<◌, ◌+◌, ◌∷◌, ◌++◌, ℕ, Bool, true, false, List, [], Option, ap, ap₂, get_or, length, map, refl, sym, take, ◌∙◌}
use Rattle.std.proofs.lemmas.List.{map_more}
use Rattle.vortex_base.specs.Data.Scopes.{Named}
use Rattle.vortex_expr.specs.Trees.Tree.{Place, Tree}
use Rattle.vortex_predicates.proofs.Found.{skip_closed, whole_closed}
use Rattle.vortex_predicates.specs.Pruning.{IsMadeBy, Pruning}
use Rattle.vortex_prune.specs.Binding.PartAnswers.{told_values}
use Rattle.vortex_zone_map.specs.Zone.{ZoneData}
use Rattle.vortex_prune.specs.Scanning.Selection.{proves_of}
use Rattle.vortex_prune.specs.Scanning.ZoneScans.{zone_verdict, zone_verdicts}
use Rattle.vortex_prune.specs.declared.scan.verdict.Verdict.{Verdict}
use Rattle.vortex_rewrite.specs.Rewriting.Proof.{is_open}
use Rattle.vortex_capi.specs.Prunes.{AreClosed, answer_by, answer_of}

module _ (f s : Option (Tree Place)) (scope : List Named) where
  one_answer : (zone : ZoneData) (a b : Bool) → proves_of f zone.rows (told_values scope zone) ≡ a → proves_of s zone.rows (told_values scope zone) ≡ b → answer_of (zone_verdict f s scope zone) ≡ answer_by f s scope zone
  one_answer zone true b skip keep = rw skip refl
  one_answer zone false true skip keep = rw (skip, keep) refl
  one_answer zone false false skip keep = rw (skip, keep) refl

  pub verdicts_answered : (zones : List ZoneData) → map answer_of (zone_verdicts f s scope zones) ≡ map (answer_by f s scope) zones
  verdicts_answered [] = refl
  verdicts_answered (zone ∷ zones) = ap₂ (λ a l. a ∷ l) (one_answer zone (proves_of f zone.rows (told_values scope zone)) (proves_of s zone.rows (told_values scope zone)) refl refl) (verdicts_answered zones)

-- one more answer is put
pub answers_more : (n : ℕ) (vs : List Verdict) (as' bs : List ℕ) (d : Verdict) (a : ℕ) → as' ≡ map answer_of (take n vs) → n < length vs → a ≡ answer_of (get_or vs n d) → bs ≡ as' ++ a ∷ [] → bs ≡ map answer_of (take (n + 1) vs)
answers_more n vs as' bs d a is h told end = end ∙ ap (λ l. l ++ a ∷ []) is ∙ ap (λ x. map answer_of (take n vs) ++ x ∷ []) told ∙ sym (map_more answer_of vs n d h)

-- by built-in rules no column stands outside the placeholders of the proofs
pub made_closed : (levels : Option ℕ) (x : Pruning) → IsMadeBy [] levels x → AreClosed x.falsifier x.satisfier
made_closed levels x made = record {
  falsifies = ap is_open made.falsifier ∙ skip_closed levels x.predicate;
  satisfies = ap is_open made.satisfier ∙ whole_closed levels x.predicate;
}
