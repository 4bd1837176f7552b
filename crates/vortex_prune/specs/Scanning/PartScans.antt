-- Scans part by part: what a test that tells what becomes of a part says of the parts.
use Rattle.std.specs.Prelude.{◌≡◌, ◌⊎◌, ℕ, Bool, Contains, List, [], Option, Some, IsTrue, alloc_error, length, slice_get, ⊤}
use Rattle.vortex_base.specs.Data.Columns.{row_count as rows_of}
use Rattle.vortex_base.specs.Data.Scalars.{Constant}
use Rattle.vortex_expr.specs.Trees.Tree.{Tree, Place}
use Rattle.vortex_base.specs.declared.dtype.DType.{DType}
use Rattle.vortex_prune.specs.Binding.Binders.{BinderAnswer}
use Rattle.vortex_rewrite.specs.Causes.{IsRefusal, either_causes}
use Rattle.vortex_prune.specs.Part.{IsPart, PartData}
use Rattle.vortex_rewrite.specs.Rewriting.Proof.{Assignment}
use Rattle.vortex_prune.specs.Scanning.ScanRefusals.{IsClosed, proof_causes, verdict_causes}
use Rattle.vortex_prune.specs.Scanning.Selection.{Answered, verdict}
use Rattle.vortex_prune.specs.declared.scan.verdict.Verdict.{Verdict}
use Rattle.vortex_prune.specs.declared.scan.verdict.Verdict.TheVariants.{Skipped, Whole, Tested}
use Rattle.vortex_stats.specs.declared.error.StatsError.{StatsError}
use Rattle.vortex_stats.specs.declared.error.StatsError.TheVariants.{Memory}

-- the parts stand with these answers, in order, and what is told of each is the verdict by the two proofs under them
pub record TellsOf (tells : ℕ → PartData → Verdict → Type 0) (falsifier satisfier : Option (Tree Place)) (parts : List PartData) (answers : List Answered) : Type 0 where
  pub long : length answers ≡ length parts
  pub there : (i : ℕ) (part : PartData) → slice_get parts i ≡ Some part → (d : Answered) × (slice_get answers i ≡ Some d) × (d.0 ≡ part)
  pub same : (i : ℕ) (d : Answered) (v : Verdict) → slice_get answers i ≡ Some d → IsPart d.0 → tells i d.0 v → v ≡ verdict falsifier satisfier d.0 d.1

-- a part of which this is told is listed as skipped, if it is
abbrev pub IsListed : Verdict → (skipped : List ℕ) → ℕ → Type 0
IsListed Skipped skipped i = Contains skipped i
IsListed Whole skipped i = ⊤
IsListed Tested skipped i = ⊤

-- something was told of each part, and those that it skips are listed
abbrev pub AreTold : (tells : ℕ → PartData → Verdict → Type 0) → List PartData → (skipped : List ℕ) → Type 0
AreTold tells parts skipped = (i : ℕ) (part : PartData) → slice_get parts i ≡ Some part → (v : Verdict) × tells i part v × IsListed v skipped i

-- memory was refused, or the test of some part was
abbrev pub IsRefusedAt : (refuses : ℕ → PartData → StatsError → Type 0) → List PartData → StatsError → Type 0
IsRefusedAt refuses parts f = (f ≡ Memory alloc_error) ⊎ ((i : ℕ) × (part : PartData) × (slice_get parts i ≡ Some part) × refuses i part f)

-- a test that was asked about a part goes on telling what it told before
pub record IsSameTest (able able' : ℕ → Type 0) (tells tells' : ℕ → PartData → Verdict → Type 0) (refuses refuses' : ℕ → PartData → StatsError → Type 0) : Type 0 where
  pub is_able : (i : ℕ) → able i → able' i
  pub is_told : (i : ℕ) (part : PartData) (v : Verdict) → tells' i part v → tells i part v
  pub is_refused : (i : ℕ) (part : PartData) (f : StatsError) → refuses' i part f → refuses i part f

-- this is so, unless the part is skipped
abbrev pub UnlessSkipped : Verdict → Type 0 → Type 0
UnlessSkipped Skipped P = ⊤
UnlessSkipped Whole P = P
UnlessSkipped Tested P = P

-- ---- the test by a binder for each part

module _ {S : Type 0} (answer : S → BinderAnswer) (IsMissing : S → DType → Tree Place → Type 0) (is_faithful_over : S → List Constant → ℕ → Bool) (falsifier satisfier : Option (Tree Place)) (binders : List S) where
  -- the binder at the part's place binds the proofs that it is asked for to closed expressions, and where it is faithful that tells the verdict under the values that it names
  abbrev pub binder_tells : (value : S → List Constant → ℕ → Assignment) → ℕ → PartData → Verdict → Type 0
  binder_tells value i part v =
      (s : S) × (slice_get binders i ≡ Some s) ×
      (IsTrue (is_faithful_over s [] (rows_of part.chunk.columns)) → v ≡ verdict falsifier satisfier part (value s [] (rows_of part.chunk.columns))) ×
      IsClosed (answer s) (IsMissing s) falsifier × UnlessSkipped v (IsClosed (answer s) (IsMissing s) satisfier)

  -- it is refused for what that binder may cause; where it is faithful it is asked for the satisfier only if the falsifier isn't true of the part
  abbrev pub binder_refuses : (value : S → List Constant → ℕ → Assignment) → (can_fault : S → ℕ → Bool) → ℕ → PartData → StatsError → Type 0
  binder_refuses value can_fault i part f =
      (s : S) × (slice_get binders i ≡ Some s) ×
      IsRefusal (either_causes (proof_causes (answer s) (IsMissing s) (can_fault s) falsifier) (proof_causes (answer s) (IsMissing s) (can_fault s) satisfier)) f ×
      (IsTrue (is_faithful_over s [] (rows_of part.chunk.columns)) → IsRefusal (verdict_causes (answer s) (IsMissing s) (can_fault s) falsifier satisfier part (value s [] (rows_of part.chunk.columns))) f)
