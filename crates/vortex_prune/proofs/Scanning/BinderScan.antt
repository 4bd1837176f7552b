-- A scan with a binder for each part, as one part by part.
use Rattle.std.proofs.Common.{◌≡◌, ◌<◌, ℕ, zero, suc, Bool, List, [], ◌∷◌, Option, Some, Result, Ok, Err, IfOk, IfErr, IsTrue, arith, get_or, inl, inr, length, refl, sym, subst, ◌∙◌}
use Rattle.std.proofs.lemmas.Option.{get_or_from_slice_get, same_Some, slice_get_within, slice_get-get_or}
use Rattle.std.specs.Prelude.{◌⊎◌, Contains, MatchResult, slice_get}
use Rattle.vortex_base.specs.Data.Columns.{row_count as rows_of}
use Rattle.vortex_base.specs.Data.Scalars.{Constant}
use Rattle.vortex_expr.specs.Trees.Tree.{Place, Tree}
use Rattle.vortex_base.specs.declared.dtype.DType.{DType}
use Rattle.vortex_prune.proofs.Scanning.ScanLemmas.{answered_long, asking_in, faithful_one, kept_there, refusal_in, refused-if}
use Rattle.vortex_rewrite.proofs.Rewriting.CauseLemmas.{either-refusal, refusal-more}
use Rattle.vortex_prune.specs.Binding.Binders.{BinderAnswer}
use Rattle.vortex_rewrite.specs.Causes.{Causes, IsRefusal, either_causes}
use Rattle.vortex_prune.specs.Part.{PartData}
use Rattle.vortex_prune.specs.Scanning.PartScans.{AreTold, IsListed, IsRefusedAt, TellsOf, UnlessSkipped, binder_refuses, binder_tells}
use Rattle.vortex_rewrite.specs.Rewriting.Proof.{Assignment}
use Rattle.vortex_prune.specs.Scanning.ScanRefusals.{AreClosed, IsClosed, KeptAreClosed, asking_causes, binder_causes, kept_binders, proof_causes, verdict_causes}
use Rattle.vortex_prune.specs.Scanning.Selection.{Answered, AreFaithful, answered, verdict}
use Rattle.vortex_prune.specs.declared.scan.verdict.Verdict.{Verdict}
use Rattle.vortex_prune.specs.declared.scan.verdict.Verdict.TheVariants.{Skipped, Whole, Tested}
use Rattle.vortex_stats.specs.declared.error.StatsError.{StatsError}

pub element_there : {X : Type 0} (xs : List X) (k : ℕ) → k < length xs → (x : X) × (slice_get xs k ≡ Some x)
element_there [] k h = absurd (omega arith)
element_there (x ∷ xs) zero h = (x, refl)
element_there (x ∷ xs) (suc k) h = element_there xs k (omega arith)

-- a part is among those skipped, or what holds of one that isn't holds of it
pub skipped_or : (v : Verdict) (skipped : List ℕ) (i : ℕ) (P : Type 0) → IsListed v skipped i → UnlessSkipped v P → Contains skipped i ⊎ P
skipped_or Skipped skipped i P h p = inl h
skipped_or Whole skipped i P h p = inr p
skipped_or Tested skipped i P h p = inr p

-- ---- parts with the answers of their binders

module _ {S : Type 0} (value : S → List Constant → ℕ → Assignment) where
  pub answered_there : (parts : List PartData) (binders : List S) (i : ℕ) (part : PartData) → length binders ≡ length parts → slice_get parts i ≡ Some part
      → (d : Answered) × (slice_get (answered value parts binders) i ≡ Some d) × (d.0 ≡ part)
  answered_there [] binders i part long e = absurd cc
  answered_there (p ∷ parts) [] i part long e = absurd (omega (arith, long))
  answered_there (p ∷ parts) (b ∷ binders) zero part long e = ((p, value b [] (rows_of p.chunk.columns)), refl, same_Some p part e)
  answered_there (p ∷ parts) (b ∷ binders) (suc i) part long e = answered_there parts binders i part (omega (arith, long)) e

  answered_by : (over : S → List Constant → ℕ → Bool) (parts : List PartData) (binders : List S) (i : ℕ) (d : Answered) (s : S) → slice_get (answered value parts binders) i ≡ Some d → slice_get binders i ≡ Some s
      → AreFaithful over parts binders → (value s [] (rows_of d.0.chunk.columns) ≡ d.1) × IsTrue (over s [] (rows_of d.0.chunk.columns))
  answered_by over [] binders i d s e k faithful = absurd cc
  answered_by over (p ∷ parts) [] i d s e k faithful = absurd cc
  answered_by over (p ∷ parts) (b ∷ binders) zero d s e k faithful =
      let own : Answered = (p, value b [] (rows_of p.chunk.columns)) in
      subst (λ (c : Answered). (value s [] (rows_of c.0.chunk.columns) ≡ c.1) × IsTrue (over s [] (rows_of c.0.chunk.columns))) (same_Some own d e)
      (subst (λ (t : S). (value t [] (rows_of p.chunk.columns) ≡ value b [] (rows_of p.chunk.columns)) × IsTrue (over t [] (rows_of p.chunk.columns))) (same_Some b s k) (refl, faithful.0))
  answered_by over (p ∷ parts) (b ∷ binders) (suc i) d s e k faithful = answered_by over parts binders i d s e k faithful.1

module _ {S : Type 0} (answer : S → BinderAnswer) (IsMissing : S → DType → Tree Place → Type 0) (over : S → List Constant → ℕ → Bool) (falsifier satisfier : Option (Tree Place)) (binders : List S) where
  module _ (value : S → List Constant → ℕ → Assignment) where
    -- where the binders are faithful, what their tests tell is the verdict under the values that they name
    pub binders_tell : (parts : List PartData) → length binders ≡ length parts → AreFaithful over parts binders → TellsOf (binder_tells answer IsMissing over falsifier satisfier binders value) falsifier satisfier parts (answered value parts binders)
    binders_tell parts long faithful = record {
      long = answered_long value parts binders long;
      there = λ i part e. answered_there value parts binders i part long e;
      same = λ i d v e is told.
          let own = answered_by value over parts binders i d told.0 e told.1 faithful in
          subst (λ (a : Assignment). v ≡ verdict falsifier satisfier d.0 a) own.0 (told.2 own.1);
    }

    -- each has bound the falsifier to a closed expression
    pub binders_closed : (parts : List PartData) (skipped : List ℕ) → length binders ≡ length parts → AreTold (binder_tells answer IsMissing over falsifier satisfier binders value) parts skipped → AreClosed answer IsMissing falsifier binders
    binders_closed parts skipped long told k d less =
        let p = element_there parts k (omega (arith, long, less)) in
        let t = (told k p.0 p.1).1 in
        subst (λ (s : S). IsClosed (answer s) (IsMissing s) falsifier) (same_Some t.0 (get_or binders k d) (sym t.1 ∙ slice_get-get_or binders k d less)) t.3

    -- and those of parts that aren't skipped the satisfier
    pub binders_kept_closed : (parts : List PartData) (skipped : List ℕ) → length binders ≡ length parts → AreTold (binder_tells answer IsMissing over falsifier satisfier binders value) parts skipped → KeptAreClosed answer IsMissing skipped satisfier binders
    binders_kept_closed parts skipped long told i b there =
        let less = slice_get_within binders i b there in
        let p = element_there parts i (omega (arith, long, less)) in
        let t = told i p.0 p.1 in
        skipped_or t.0 skipped i (IsClosed (answer b) (IsMissing b) satisfier) t.2
        (subst (λ (s : S). UnlessSkipped t.0 (IsClosed (answer s) (IsMissing s) satisfier)) (same_Some t.1.0 b (sym t.1.1 ∙ there)) t.1.4)

    -- what the test of one part says, by its binder
    pub binder_told : (can_fault : S → ℕ → Bool) (i : ℕ) (part : PartData) (s : S) (r : Result Verdict StatsError) → slice_get binders i ≡ Some s
        → IfOk r (λ v. IsTrue (over s [] (rows_of part.chunk.columns)) → v ≡ verdict falsifier satisfier part (value s [] (rows_of part.chunk.columns)))
        → IfOk r (λ _. IsClosed (answer s) (IsMissing s) falsifier) → IfOk r (λ v. UnlessSkipped v (IsClosed (answer s) (IsMissing s) satisfier))
        → IfErr r (IsRefusal (either_causes (proof_causes (answer s) (IsMissing s) (can_fault s) falsifier) (proof_causes (answer s) (IsMissing s) (can_fault s) satisfier)))
        → IfErr r (λ f. IsTrue (over s [] (rows_of part.chunk.columns))
        → IsRefusal (verdict_causes (answer s) (IsMissing s) (can_fault s) falsifier satisfier part (value s [] (rows_of part.chunk.columns))) f)
        → MatchResult r (binder_tells answer IsMissing over falsifier satisfier binders value i part) (binder_refuses answer IsMissing over falsifier satisfier binders value can_fault i part)
    binder_told can_fault i part s (Ok v) at told closed kept refused faithful = (s, at, told, closed, kept)
    binder_told can_fault i part s (Err f) at told closed kept refused faithful = (s, at, refused, faithful)

  module _ (value : S → List Constant → ℕ → Assignment) (can_fault : S → ℕ → Bool) (parts : List PartData) where
    abbrev pub causes : Option (Tree Place) → Causes
    causes proof = binder_causes answer IsMissing can_fault proof binders

    -- what one of them is refused for, the scan is
    pub binders_refused : (f : StatsError) → IsRefusedAt (binder_refuses answer IsMissing over falsifier satisfier binders value can_fault) parts f → IsRefusal (either_causes (causes falsifier) (causes satisfier)) f
    binders_refused f (inl memory) = subst (IsRefusal (either_causes (causes falsifier) (causes satisfier))) (sym memory) tt
    binders_refused f (inr h) =
        let s = h.3.0 in
        let less = slice_get_within binders h.0 s h.3.1 in
        let at = sym (get_or_from_slice_get binders h.0 s s h.3.1) in
        either-refusal _ _ (causes falsifier) (causes satisfier) f (refusal_in answer IsMissing can_fault falsifier binders h.0 s f less at) (refusal_in answer IsMissing can_fault satisfier binders h.0 s f less at) h.3.2

    abbrev pub asking : Option (Tree Place) → List S → Causes
    asking proof asked = asking_causes answer IsMissing can_fault proof asked

    -- where they are faithful, for the satisfier only by those of parts that aren't skipped
    pub binders_refused_faithful : (f : StatsError) → length binders ≡ length parts → AreFaithful over parts binders → IsRefusedAt (binder_refuses answer IsMissing over falsifier satisfier binders value can_fault) parts f
        → IsRefusal (either_causes (asking falsifier binders) (asking satisfier (kept_binders value falsifier parts binders))) f
    binders_refused_faithful f long faithful (inl memory) = subst (IsRefusal (either_causes (asking falsifier binders) (asking satisfier (kept_binders value falsifier parts binders)))) (sym memory) tt
    binders_refused_faithful f long faithful (inr h) =
        let s = h.3.0 in
        let less = slice_get_within parts h.0 h.1 h.2 in
        let at = sym (get_or_from_slice_get parts h.0 h.1 h.1 h.2) in
        let own = sym (get_or_from_slice_get binders h.0 s s h.3.1) in
        let over_it = faithful_one over parts binders h.0 h.1 s long less at own faithful in
        either-refusal _ _ (asking falsifier binders) (asking satisfier (kept_binders value falsifier parts binders)) f
        (refusal-more _ (asking falsifier binders) f (asking_in answer IsMissing can_fault falsifier binders h.0 s (slice_get_within binders h.0 s h.3.1) own))
        (refused-if _ _ (asking satisfier (kept_binders value falsifier parts binders)) f
        (λ kept. let k = kept_there value falsifier parts binders h.0 h.1 s h.2 h.3.1 kept in asking_in answer IsMissing can_fault satisfier (kept_binders value falsifier parts binders) k.0 s k.1 k.2))
        (h.3.3 over_it)
