-- A scan of what was measured has the rows of the chunks.
use Rattle.std.proofs.Common.{◌≡◌, ◌+◌, ◌++◌, ℕ, zero, suc, All, IfOk, IsTrue, List, [], ◌∷◌, Result, Ok, Err, arith, ap, map, refl, ◌∙◌}
use Rattle.std.specs.List.{AllByRecursion, enumerate_from, flat_map}
use Rattle.vortex_base.specs.Data.Columns.{ChunkData}
use Rattle.vortex_expr.specs.Meanings.Fitting.{fits_scope}
use Rattle.vortex_expr.specs.Trees.Tree.{Place, Tree}
use Rattle.vortex_prune.specs.Part.{IsTruePart, PartData, measured_part}
use Rattle.vortex_prune.specs.Scanning.Selection.{full, satisfying_rows}
use Rattle.vortex_prune.specs.declared.scan.outcome.Scan.{Scan}
use Rattle.vortex_examples.specs.Measuring.{rows_of_chunks}

-- a predicate that fits the chunks fits what was measured of them
pub measured_fit : (p : Tree Place) (chunks : List ChunkData) → All (λ k. IsTrue (fits_scope p k.scope)) chunks → All (λ part. IsTrue (fits_scope p part.chunk.scope)) (map measured_part chunks)
measured_fit p [] fits k d within = absurd (omega (arith, within))
measured_fit p (c ∷ cs) fits zero d within = fits zero c (omega arith)
measured_fit p (c ∷ cs) fits (suc k) d within = measured_fit p cs (λ j e l. fits (suc j) e (omega (arith, l))) k d (omega (arith, within))

full_from : (p : Tree Place) (n : ℕ) (chunks : List ChunkData)
    → flat_map (λ e. satisfying_rows p e.0 e.1.chunk) (enumerate_from n (map measured_part chunks)) ≡ flat_map (λ e. satisfying_rows p e.0 e.1) (enumerate_from n chunks)
full_from p n [] = refl
full_from p n (c ∷ cs) = ap (λ rows. satisfying_rows p n c ++ rows) (full_from p (n + 1) cs)

-- the full scan of what was measured has the rows of the chunks
pub measured_rows : {E : Type 0} (p : Tree Place) (chunks : List ChunkData) (parts : List PartData) (r : Result Scan E) → parts ≡ map measured_part chunks → AllByRecursion IsTruePart parts
    → IfOk r (λ scan. AllByRecursion IsTruePart parts → scan.selected.items ≡ full p parts) → IfOk r (λ scan. scan.selected.items ≡ rows_of_chunks p chunks)
measured_rows p chunks parts (Err e) is truth rows = tt
measured_rows p chunks parts (Ok scan) is truth rows = rows truth ∙ ap (full p) is ∙ full_from p 0 chunks
