-- What the program answers to its input.
use Rattle.std.specs.Prelude.{◌≡◌, ◌≤◌, ◌<◌, ◌⊎◌, ℕ, Bool, List, [], ◌∷◌, ◌++◌, Option, Result, Ok, Err, IsTrue, codes, length, map, if◌then◌else◌}
use Rattle.std.specs.Io.KnownBytes.{Appends}
use Rattle.std.specs.List.{AllByRecursion}
use Rattle.vortex_expr.specs.Trees.Tree.{Tree, Place}
use Rattle.vortex_prune.specs.Part.{IsTruePart, PartData}
use Rattle.vortex_prune.specs.Binding.PartAnswers.{part_values}
use Rattle.vortex_rewrite.specs.Rewriting.Predicates.{is_predicate}
use Rattle.vortex_rewrite.specs.Rewriting.Falsifiers.{falsifier, satisfier}
use Rattle.vortex_prune.specs.Scanning.Selection.{Answered, full, selected_rows, skipped_parts, whole_parts}
use Rattle.vortex_text.specs.declared.streams.TheConstants.{INPUT_LIMIT}
use Rattle.vortex_text.specs.Naming.{Query, named}
use Rattle.vortex_text.specs.Printing.{bad_text, scan_text}
use Rattle.vortex_text.specs.Streams.{AppendsProperFront, AppendsUnlessFailed, HasNotFailed, MayHaveFailed}

-- a part with what its own statistics answer
abbrev pub by_statistics : PartData → Answered
by_statistics part = (part, part_values part)

-- the parts that are skipped: those that the falsifier of the predicate is true of
abbrev pub skipped : Tree Place → List PartData → List ℕ
skipped predicate parts = skipped_parts (falsifier [] predicate) (map by_statistics parts)

-- those of the other parts that are whole: the satisfier of the predicate is true of them
abbrev pub whole : Tree Place → List PartData → List ℕ
whole predicate parts = whole_parts (falsifier [] predicate) (satisfier [] predicate) (map by_statistics parts)

-- all rows of these, and the rows of the parts that are neither which satisfy the predicate
abbrev pub selected : Tree Place → List PartData → List (ℕ × ℕ)
selected predicate parts = selected_rows (falsifier [] predicate) (satisfier [] predicate) predicate (map by_statistics parts)

-- the status and what is printed: 0 with the scan, 1 where the predicate isn't of type Bool, 2 with the bad line
abbrev pub reply : Result Query ℕ → ℕ × List ℕ
reply (Ok x) = if is_predicate x.1 then (0, scan_text (skipped x.1 x.0) (selected x.1 x.0) (whole x.1 x.0)) else (1, codes "predicate" ++ 10 ∷ [])
reply (Err line) = (2, bad_text line)

-- the reply to a text
abbrev pub reply_to : List ℕ → ℕ × List ℕ
reply_to text = reply (named text)

-- the input is within the limit, and the whole reply to it was written
pub record Answers (input : List ℕ) (status : ℕ) (old new : Option (List ℕ)) : Type 0 where
  pub short : length input ≤ INPUT_LIMIT
  pub same_status : status ≡ (reply_to input).0
  pub written : Appends old new (reply_to input).1

-- a word that says why there is no answer: `read` only where a read failed, as far as the reader tells, and `input` only past the limit
abbrev pub IsReason : List ℕ → (read_failed : Option Bool) → List ℕ → Type 0
IsReason input read_failed word =
    (word ≡ codes "memory" ++ 10 ∷ []) ⊎ (MayHaveFailed read_failed × (word ≡ codes "read" ++ 10 ∷ [])) ⊎ ((INPUT_LIMIT < length input) × (word ≡ codes "input" ++ 10 ∷ []))

-- Such a word was written, all of it unless a write failed. Or a write failed and cut the reply off. Both as far as the writer tells its failures.
abbrev pub Stops : List ℕ → (read_failed : Option Bool) → (write_failed : Option Bool) → Option (List ℕ) → Option (List ℕ) → Type 0
Stops input read_failed write_failed old new =
    ((word : List ℕ) × IsReason input read_failed word × AppendsUnlessFailed write_failed old new word) ⊎ (MayHaveFailed write_failed × AppendsProperFront old new (reply_to input).1)

-- No read has failed since, or the status is 1 and the word is `read`: no later read makes up for one that failed.
abbrev pub ReadsOnce : (before after : Option Bool) → (status : ℕ) → (write_failed : Option Bool) → Option (List ℕ) → Option (List ℕ) → Type 0
ReadsOnce before after status write_failed old new = HasNotFailed before after ⊎ ((status ≡ 1) × AppendsUnlessFailed write_failed old new (codes "read" ++ 10 ∷ []))

-- what is to be written of an input: a word that says why there is no answer, or the reply
abbrev pub IsSaid : List ℕ → (read_failed : Option Bool) → List ℕ → Type 0
IsSaid input read_failed bytes = IsReason input read_failed bytes ⊎ (bytes ≡ (reply_to input).1)

-- No write has failed since, or the status is 1 and what is to be written is cut off: no later write makes up for one that failed.
abbrev pub WritesOnce : List ℕ → (read_failed : Option Bool) → (before after : Option Bool) → (status : ℕ) → Option (List ℕ) → Option (List ℕ) → Type 0
WritesOnce input read_failed before after status old new =
    HasNotFailed before after ⊎ ((status ≡ 1) × ((bytes : List ℕ) × IsSaid input read_failed bytes × AppendsProperFront old new bytes))

-- where all statistics of the parts that a text names are true, these bytes tell the rows of the full scan
abbrev pub IsFullScan : List ℕ → List ℕ → Type 0
IsFullScan text printed = (parts : List PartData) (predicate : Tree Place) → named text ≡ Ok (parts, predicate) → IsTrue (is_predicate predicate)
    → AllByRecursion IsTruePart parts → printed ≡ scan_text (skipped predicate parts) (full predicate parts) (whole predicate parts)

-- and such bytes were written
abbrev pub WritesFullScan : List ℕ → Option (List ℕ) → Option (List ℕ) → Type 0
WritesFullScan text old new = (printed : List ℕ) × Appends old new printed × IsFullScan text printed
