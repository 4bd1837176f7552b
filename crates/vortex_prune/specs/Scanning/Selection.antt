-- What a scan has to select and to skip.
use Rattle.std.specs.Prelude.{◌≡◌, ◌+◌, ℕ, Bool, true, false, ◌||◌, List, [], ◌∷◌, Option, None, Some, IsTrue, map, filter, if◌then◌else◌, ⊤}
use Rattle.std.specs.List.{enumerate_from, flat_map, range_with_len}
use Rattle.vortex_base.specs.Data.Columns.{ChunkData, row_of, row_count as rows_of}
use Rattle.vortex_expr.specs.Meanings.Meaning.{satisfies}
use Rattle.vortex_base.specs.Data.Scalars.{Constant}
use Rattle.vortex_expr.specs.Trees.Tree.{Tree, Place}
use Rattle.vortex_rewrite.specs.Facts.{IsHonest}
use Rattle.vortex_prune.specs.Part.{PartData}
use Rattle.vortex_prune.specs.Binding.PartAnswers.{part_values}
use Rattle.vortex_rewrite.specs.Rewriting.Proof.{Assignment, proves}
use Rattle.vortex_prune.specs.declared.scan.verdict.Verdict.{Verdict}
use Rattle.vortex_prune.specs.declared.scan.verdict.Verdict.TheVariants.{Skipped, Whole, Tested}

-- the rows of a chunk that satisfy the predicate, by their places, ascending
abbrev pub satisfying : Tree Place → ChunkData → List ℕ
satisfying p k = filter (λ i. satisfies p (row_of i k.columns) (rows_of k.columns)) (range_with_len 0 (rows_of k.columns))

-- the same as pairs, for the part at a place
abbrev pub satisfying_rows : Tree Place → ℕ → ChunkData → List (ℕ × ℕ)
satisfying_rows p place k = map (λ i. (place, i)) (satisfying p k)

-- all rows of a chunk as pairs, for the part at a place, ascending
abbrev pub all_rows : ℕ → ChunkData → List (ℕ × ℕ)
all_rows place k = map (λ i. (place, i)) (range_with_len 0 (rows_of k.columns))

-- one row as a pair, if it satisfies
abbrev pub row_if : Bool → (place row : ℕ) → List (ℕ × ℕ)
row_if satisfied place row = if satisfied then (place, row) ∷ [] else []

-- the full scan: every row that satisfies the predicate, as part and row, ascending
abbrev pub full : Tree Place → List PartData → List (ℕ × ℕ)
full p parts = flat_map (λ e. satisfying_rows p e.0 e.1.chunk) (enumerate_from 0 parts)

-- the proof, if there is one, is true of n rows under these answers
abbrev pub proves_of : Option (Tree Place) → (n : ℕ) → Assignment → Bool
proves_of None n A = false
proves_of (Some e) n A = proves e A n

-- it is true of the part
abbrev pub is_proved : Option (Tree Place) → PartData → Assignment → Bool
is_proved proof part A = proves_of proof (rows_of part.chunk.columns) A

-- a part beside the answers that its placeholders get
abbrev pub Answered : Type 0
Answered = PartData × Assignment

-- the place of a part, if it is skipped
abbrev pub place_if : Bool → (place : ℕ) → List ℕ
place_if skipped place = if skipped then place ∷ [] else []

-- the places of the elements that pass a test, ascending
abbrev pub places_where : {X : Type 0} → (X → Bool) → List X → List ℕ
places_where test xs = map (λ e. e.0) (filter (λ e. test e.1) (enumerate_from 0 xs))

-- the places of the parts that are skipped, ascending
abbrev pub skipped_parts : Option (Tree Place) → List Answered → List ℕ
skipped_parts proof parts = places_where (λ d. is_proved proof d.0 d.1) parts

-- ---- what becomes of a part

-- n rows are skipped if the falsifier is true of them, else they are whole if the satisfier is, else they are tested
abbrev pub verdict_of : (falsifier satisfier : Option (Tree Place)) → (n : ℕ) → Assignment → Verdict
verdict_of falsifier satisfier n A = if proves_of falsifier n A then Skipped else if proves_of satisfier n A then Whole else Tested

abbrev pub verdict : (falsifier satisfier : Option (Tree Place)) → PartData → Assignment → Verdict
verdict falsifier satisfier part A = verdict_of falsifier satisfier (rows_of part.chunk.columns) A

abbrev pub is_skipped : Verdict → Bool
is_skipped Skipped = true
is_skipped Whole = false
is_skipped Tested = false

abbrev pub is_whole : Verdict → Bool
is_whole Skipped = false
is_whole Whole = true
is_whole Tested = false

-- the rows that are selected of the part at a place: none of a skipped one, all of a whole one, else those that satisfy the predicate
abbrev pub rows_by : Verdict → Tree Place → (place : ℕ) → ChunkData → List (ℕ × ℕ)
rows_by Skipped p place k = []
rows_by Whole p place k = all_rows place k
rows_by Tested p place k = satisfying_rows p place k

-- how many of its rows are tested
abbrev pub rows_tested : Verdict → ChunkData → ℕ
rows_tested Skipped k = 0
rows_tested Whole k = 0
rows_tested Tested k = rows_of k.columns

module _ (falsifier satisfier : Option (Tree Place)) where
  -- the places of the parts that are whole, ascending
  abbrev pub whole_parts : List Answered → List ℕ
  whole_parts parts = places_where (λ d. is_whole (verdict falsifier satisfier d.0 d.1)) parts

  -- the rows that are selected, whatever the statistics claim
  abbrev pub selected_rows : Tree Place → List Answered → List (ℕ × ℕ)
  selected_rows p parts = flat_map (λ e. rows_by (verdict falsifier satisfier e.1.0 e.1.1) p e.0 e.1.0.chunk) (enumerate_from 0 parts)

  -- how many rows are tested
  abbrev pub tested_rows : List Answered → ℕ
  tested_rows [] = 0
  tested_rows (part ∷ parts) = rows_tested (verdict falsifier satisfier part.0 part.1) part.0.chunk + tested_rows parts

-- ---- parts with their binders

-- a binder is faithful for a part: over the row with no columns and the part's row count
abbrev pub IsFaithfulFor : (is_faithful_over : List Constant → ℕ → Bool) → PartData → Type 0
IsFaithfulFor is_faithful_over part = IsTrue (is_faithful_over [] (rows_of part.chunk.columns))

-- the answers that it names there
abbrev pub answers_for : (value : List Constant → ℕ → Assignment) → PartData → Assignment
answers_for value part = value [] (rows_of part.chunk.columns)

module _ {S : Type 0} where
  -- each part with the answers that its binder names for it
  abbrev pub answered : (value : S → List Constant → ℕ → Assignment) → List PartData → List S → List Answered
  answered value (part ∷ parts) (binder ∷ binders) = (part, answers_for (value binder) part) ∷ answered value parts binders
  answered value parts binders = []

  -- each binder is faithful for its part
  abbrev pub AreFaithful : (is_faithful_over : S → List Constant → ℕ → Bool) → List PartData → List S → Type 0
  AreFaithful is_faithful_over (part ∷ parts) (binder ∷ binders) = IsFaithfulFor (is_faithful_over binder) part × AreFaithful is_faithful_over parts binders
  AreFaithful is_faithful_over parts binders = ⊤

  -- and the values that it names for it are facts of the part
  abbrev pub AreHonest : (value : S → List Constant → ℕ → Assignment) → List PartData → List S → Type 0
  AreHonest value (part ∷ parts) (binder ∷ binders) = IsHonest (answers_for (value binder) part) part.chunk.columns × AreHonest value parts binders
  AreHonest value parts binders = ⊤

  -- each binder names what the part's own statistics answer
  abbrev pub AreByStatistics : (value : S → List Constant → ℕ → Assignment) → List PartData → List S → Type 0
  AreByStatistics value (part ∷ parts) (binder ∷ binders) = (answers_for (value binder) part ≡ part_values part) × AreByStatistics value parts binders
  AreByStatistics value parts binders = ⊤

  -- some binder names the fault
  abbrev pub any_binder : (can_fault : S → ℕ → Bool) → List S → ℕ → Bool
  any_binder can_fault [] k = false
  any_binder can_fault (binder ∷ binders) k = can_fault binder k || any_binder can_fault binders k
