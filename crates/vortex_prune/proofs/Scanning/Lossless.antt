-- A part that is skipped has no row that satisfies the predicate, and of a whole one each does, so what is selected is what the full scan selects.
use Rattle.std.proofs.Common.{◌≡◌, ◌<◌, ◌+◌, ℕ, zero, suc, Bool, true, false, List, [], ◌∷◌, ◌++◌, Option, Some, None, IsTrue, IsOk, map, if◌then◌else◌, refl, sym, ap, ◌∙◌, arith}
use Rattle.std.specs.List.{AllByRecursion, enumerate_from, filter, flat_map, range_with_len}
use Rattle.vortex_base.specs.Data.Columns.{ChunkData, IsChunk, row_of, row_count as rows_of}
use Rattle.vortex_base.specs.Data.Exact.{both_hold, both_true}
use Rattle.vortex_expr.specs.Meanings.Fitting.{fits_scope}
use Rattle.vortex_expr.specs.Meanings.Meaning.{satisfies}
use Rattle.vortex_expr.specs.Trees.Tree.{Place, Tree, is_plain}
use Rattle.vortex_expr.specs.Meanings.Typing.{type_of}
use Rattle.vortex_rewrite.proofs.Soundness.SoundRules.{falsifiers_sound, satisfiers_sound}
use Rattle.vortex_rewrite.specs.Facts.{IsHonest}
use Rattle.vortex_rewrite.specs.Rewriting.Lawful.{IsOver, OwnRule}
use Rattle.vortex_prune.specs.Part.{PartData}
use Rattle.vortex_rewrite.specs.Rewriting.Proof.{Assignment}
use Rattle.vortex_rewrite.specs.Rewriting.Falsifiers.{falsifier, satisfier}
use Rattle.vortex_prune.specs.Scanning.Selection.{Answered, full, is_proved, rows_by, satisfying, satisfying_rows, selected_rows, verdict}
use Rattle.vortex_prune.specs.declared.scan.verdict.Verdict.TheVariants.{Skipped, Whole, Tested}

-- ---- a plain predicate over the scope of a chunk is over the chunk

pub is_over_chunk : (p : Tree Place) (k : ChunkData) → IsOk (type_of p) → IsTrue (is_plain p) → IsTrue (fits_scope p k.scope) → IsOver p k
is_over_chunk p k typed plain fits = record { typed = typed; over = both_hold _ _ (both_true _ _ plain).0 fits }

-- ---- a skipped part has no row to select

pub none_pass : (test : ℕ → Bool) (a n : ℕ) → ((i : ℕ) → i < a + n → test i ≡ false) → filter test (range_with_len a n) ≡ []
none_pass test a zero fails = refl
none_pass test a (suc n) fails = rw (fails a (omega arith)) (none_pass test (a + 1) n (λ i h. fails i (omega arith)))

none_selected : (rules : List OwnRule) (p e : Tree Place) (part : PartData) (A : Assignment) → IsChunk part.chunk → IsOver p part.chunk → IsHonest A part.chunk.columns
    → falsifier rules p ≡ Some e → is_proved (Some e) part A ≡ true → satisfying p part.chunk ≡ []
none_selected rules p e part A chunk over honest is skipped =
    none_pass (λ i. satisfies p (row_of i part.chunk.columns) (rows_of part.chunk.columns)) 0 (rows_of part.chunk.columns)
    (λ i h. falsifiers_sound rules p e is part.chunk A chunk over honest skipped i (omega arith))

-- ---- of a whole part each row is selected

pub all_pass : (test : ℕ → Bool) (a n : ℕ) → ((i : ℕ) → i < a + n → test i ≡ true) → filter test (range_with_len a n) ≡ range_with_len a n
all_pass test a zero passes = refl
all_pass test a (suc n) passes = rw (passes a (omega arith)) (ap (λ l. a ∷ l) (all_pass test (a + 1) n (λ i h. passes i (omega arith))))

all_selected : (rules : List OwnRule) (p e : Tree Place) (part : PartData) (A : Assignment) → IsChunk part.chunk → IsOver p part.chunk → IsHonest A part.chunk.columns
    → satisfier rules p ≡ Some e → is_proved (Some e) part A ≡ true → satisfying p part.chunk ≡ range_with_len 0 (rows_of part.chunk.columns)
all_selected rules p e part A chunk over honest is proved =
    all_pass (λ i. satisfies p (row_of i part.chunk.columns) (rows_of part.chunk.columns)) 0 (rows_of part.chunk.columns)
    (λ i h. satisfiers_sound rules p e is part.chunk A chunk over honest proved i (omega arith))

-- a part that a predicate can be read on, with answers that are facts of it
pub record IsAnswered (p : Tree Place) (part : Answered) : Type 0 where
  pub chunk : IsChunk part.0.chunk
  pub fits : IsTrue (fits_scope p part.0.chunk.scope)
  pub honest : IsHonest part.1 part.0.chunk.columns

module _ (rules : List OwnRule) (p : Tree Place) (typed : IsOk (type_of p)) (plain : IsTrue (is_plain p)) where
  -- whatever becomes of the part, its satisfying rows are selected
  by_proofs : (f s : Option (Tree Place)) (place : ℕ) (part : Answered) → falsifier rules p ≡ f → satisfier rules p ≡ s → IsAnswered p part → (b w : Bool) → is_proved f part.0 part.1 ≡ b → is_proved s part.0 part.1 ≡ w
      → rows_by (if b then Skipped else if w then Whole else Tested) p place part.0.chunk ≡ satisfying_rows p place part.0.chunk
  by_proofs None s place part is also a true w h j = cc
  by_proofs (Some e) s place part is also a true w h j =
      sym (ap (map {B = ℕ × ℕ} (λ i. (place, i))) (none_selected rules p e part.0 part.1 a.chunk (is_over_chunk p part.0.chunk typed plain a.fits) a.honest is h))
  by_proofs f None place part is also a false true h j = cc
  by_proofs f (Some e) place part is also a false true h j =
      sym (ap (map {B = ℕ × ℕ} (λ i. (place, i))) (all_selected rules p e part.0 part.1 a.chunk (is_over_chunk p part.0.chunk typed plain a.fits) a.honest also j))
  by_proofs f s place part is also a false false h j = refl

  kept_all : (f s : Option (Tree Place)) (place : ℕ) (parts : List Answered) → falsifier rules p ≡ f → satisfier rules p ≡ s → AllByRecursion (IsAnswered p) parts
      → flat_map (λ e. rows_by (verdict f s e.1.0 e.1.1) p e.0 e.1.0.chunk) (enumerate_from place parts) ≡ flat_map (λ e. satisfying_rows p e.0 e.1.0.chunk) (enumerate_from place parts)
  kept_all f s place [] is also h = refl
  kept_all f s place (part ∷ parts) is also h =
      ap (λ l. l ++ flat_map (λ e. rows_by (verdict f s e.1.0 e.1.1) p e.0 e.1.0.chunk) (enumerate_from (place + 1) parts))
      (by_proofs f s place part is also h.0 (is_proved f part.0 part.1) (is_proved s part.0 part.1) refl refl)
      ∙ ap (λ l. satisfying_rows p place part.0.chunk ++ l) (kept_all f s (place + 1) parts is also h.1)

  same_chunks : (place : ℕ) (parts : List Answered) → flat_map (λ e. satisfying_rows p e.0 e.1.0.chunk) (enumerate_from place parts) ≡ flat_map (λ e. satisfying_rows p e.0 e.1.chunk) (enumerate_from place (map (λ q. q.0) parts))
  same_chunks place [] = refl
  same_chunks place (part ∷ parts) = ap (λ l. satisfying_rows p place part.0.chunk ++ l) (same_chunks (place + 1) parts)

  -- what is selected, with answers that are facts, is what the full scan selects
  pub selected_full : (f s : Option (Tree Place)) (parts : List Answered) → falsifier rules p ≡ f → satisfier rules p ≡ s → AllByRecursion (IsAnswered p) parts
      → selected_rows f s p parts ≡ full p (map (λ q. q.0) parts)
  selected_full f s parts is also h = kept_all f s 0 parts is also h ∙ same_chunks 0 parts
