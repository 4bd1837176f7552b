-- What the first line of a text says, in terms of all its lines.
use Rattle.std.proofs.Common.{◌≡◌, ◌<◌, ◌==◌, ℕ, true, false, List, [], ◌∷◌, ◌++◌, Option, None, Some, length, is_some, option_and_then, option_map, codes, refl, ap, sym, subst, ◌∙◌, inl, inr, arith}
use Rattle.std.proofs.lemmas.Bool.{cases_Bool}
use Rattle.std.proofs.lemmas.List.Splits.{length-slice_split}
use Rattle.std.specs.List.{onto_first, slice_split}
use Rattle.std.specs.Str.{is_utf8}
use Rattle.std.specs.Str.Lines.{lines, lines_of_parts}
use Rattle.vortex_base.specs.Data.Columns.{ColumnData}
use Rattle.vortex_base.specs.Data.Scopes.{Named}
use Rattle.vortex_prune.specs.Part.{PartData}
use Rattle.vortex_syntax.proofs.FirstLine.{ends, lines_of_parts-more}
use Rattle.vortex_syntax.proofs.PlainLemmas.{is_spelled}
use Rattle.vortex_syntax.proofs.Spelling.{word_back}
use Rattle.vortex_syntax.specs.Plain.{EndsWord}
use Rattle.vortex_syntax.specs.Words.{Plain, words}
use Rattle.vortex_text.proofs.Fitting.LineFits.{line_fits}
use Rattle.vortex_text.proofs.FirstLineLemmas.{line_parted, one_line, lines_behind, utf8_behind}
use Rattle.vortex_text.proofs.MemoryLemmas.{taken_in}
use Rattle.vortex_text.specs.Blocks.{BeginsBad}
use Rattle.vortex_text.specs.Columns.{with_values}
use Rattle.vortex_text.specs.FirstLines.{first_read, first_values, may_take}
use Rattle.vortex_text.specs.Fitting.{FitsTogether}
use Rattle.vortex_text.specs.Lines.{Reading, nothing_read, read_line, read_row}
use Rattle.vortex_text.specs.MemoryTaken.{TakesMemory, line_takes}
use Rattle.vortex_text.specs.Naming.{Reads}

-- ---- a text with a byte has a line

-- the list has a first element
abbrev pub HasFirst : List (List ℕ) → Type 0
HasFirst ls = (l : List ℕ) × (more : List (List ℕ)) × (ls ≡ l ∷ more)

parts_have : (b : ℕ) (parts : List (List ℕ)) → HasFirst (lines_of_parts (onto_first b parts))
parts_have b [] = (b ∷ [], [], one_line (b ∷ []) (omega arith))
parts_have b (p ∷ []) = (b ∷ p, [], one_line (b ∷ p) (omega arith))
parts_have b (p ∷ q ∷ ps) = (_, lines_of_parts (q ∷ ps), refl)

pub has_line : (text : List ℕ) → 0 < length text → HasFirst (lines text)
has_line [] some = absurd (omega arith)
has_line (b ∷ text) some = elim (cases_Bool (b == 10)) [
  | inl is ↦ rw is ([], lines text, lines_of_parts-more [] (slice_split ends text) (omega (arith, length-slice_split ends text)))
  | inr isnt ↦ rw isnt (parts_have b (slice_split ends text))
]

pub ends_some : (text : List ℕ) → EndsWord text → 0 < length text
ends_some [] end = absurd end
ends_some (b ∷ text) end = omega arith

-- ---- rows

-- a reading without a predicate
abbrev open_reading : List Named → List PartData → Option PartData → Reading
open_reading scope ended current = record { scope = scope; ended = ended; current = current; predicate = None }

-- the part with these columns
abbrev of_columns : PartData → List ColumnData → PartData
of_columns part columns = record { chunk = record { scope = part.chunk.scope; columns = columns }; stats = part.stats }

paired : (s : List Named) (e : List PartData) (ls : List (List ℕ)) (part : PartData) (o : Option (List ColumnData))
    → option_map {U = Reading × List (List ℕ)} (λ next. (next, ls)) (option_and_then {U = Reading} (λ longer. Some (open_reading s e (Some longer))) (option_and_then {U = PartData} (λ columns. Some (of_columns part columns)) o))
    ≡ option_and_then {U = Reading × List (List ℕ)} (λ (row : List ColumnData × List (List ℕ)). Some (open_reading s e (Some (of_columns part row.0)), row.1)) (option_and_then {U = List ColumnData × List (List ℕ)} (λ longer. Some (longer, ls)) o)
paired s e ls part None = refl
paired s e ls part (Some columns) = refl

of_row : (s : List Named) (e : List PartData) (l : List ℕ) (ls : List (List ℕ)) (o : Option PartData) → is_utf8 l ≡ true
    → option_map {U = Reading × List (List ℕ)} (λ next. (next, ls)) (read_row (open_reading s e o) (words l)) ≡ first_values (open_reading s e o) (l ∷ ls)
of_row s e l ls None utf8 = refl
of_row s e l ls (Some part) utf8 = rw utf8 (paired s e ls part (with_values part.chunk.columns (words l)))

no_row : (s : List Named) (e : List PartData) (l : List ℕ) (ls : List (List ℕ)) (o : Option PartData) → is_utf8 l ≡ false → first_values (open_reading s e o) (l ∷ ls) ≡ None
no_row s e l ls None utf8 = refl
no_row s e l ls (Some part) utf8 = rw utf8 refl

open_line : (s : List Named) (e : List PartData) (o : Option PartData) (l : List ℕ) (ls : List (List ℕ)) → words (codes "row" ++ l) ≡ Plain (codes "row") ∷ words l → is_utf8 (codes "row" ++ l) ≡ is_utf8 l
    → first_read (open_reading s e o) ((codes "row" ++ l) ∷ ls) ≡ first_values (open_reading s e o) (l ∷ ls)
open_line s e o l ls split same = elim (cases_Bool (is_utf8 l)) [
  | inl is ↦ (let whole : is_utf8 (codes "row" ++ l) ≡ true = same ∙ is in rw (whole, split) (of_row s e l ls o is))
  | inr isnt ↦ (let whole : is_utf8 (codes "row" ++ l) ≡ false = same ∙ isnt in rw whole (sym (no_row s e l ls o isnt)))
]

row_line : (r : Reading) (l : List ℕ) (ls : List (List ℕ)) → r.predicate ≡ None → words (codes "row" ++ l) ≡ Plain (codes "row") ∷ words l → is_utf8 (codes "row" ++ l) ≡ is_utf8 l
    → first_read r ((codes "row" ++ l) ∷ ls) ≡ first_values r (l ∷ ls)
row_line r l ls open_yet split same =
    let is : record { scope = r.scope; ended = r.ended; current = r.current; predicate = r.predicate } ≡ open_reading r.scope r.ended r.current =
    ap (λ p. record { scope = r.scope; ended = r.ended; current = r.current; predicate = p }) open_yet in
    subst (λ (q : Reading). first_read q ((codes "row" ++ l) ∷ ls) ≡ first_values q (l ∷ ls)) (sym is) (open_line r.scope r.ended r.current l ls split same)

-- a text that begins with the word `row`
pub row_text : (r : Reading) (text values : List ℕ) → r.predicate ≡ None → text ≡ codes "row" ++ values → EndsWord values → first_read r (lines text) ≡ first_values r (lines values)
row_text r text values open_yet split end =
    let (l, ls, is) = has_line values (ends_some values end) in
    let whole : lines (codes "row" ++ values) ≡ (codes "row" ++ l) ∷ ls = lines_behind (codes "row") values l ls refl is in
    let parted = line_parted values l ls end is in
    ap (λ t. first_read r (lines t)) split ∙ ap (first_read r) whole
    ∙ row_line r l ls open_yet (word_back (Plain (codes "row")) l (is_spelled (codes "row") refl (omega arith)) parted) (utf8_behind (codes "row") l refl)
    ∙ ap (first_values r) (sym is)

-- memory may be refused while a part takes rows
pub part_takes : (r : Reading) (ls : List (List ℕ)) → is_some r.current ≡ true → may_take r ls ≡ true
part_takes r [] has = has
part_takes r (l ∷ ls) has = rw has refl

pub line_may : (r : Reading) (l : List ℕ) (ls : List (List ℕ)) → line_takes r l ≡ true → may_take r (l ∷ ls) ≡ true
line_may r l ls takes = elim (cases_Bool (is_some r.current)) [ inl is ↦ rw is refl | inr isnt ↦ rw (isnt, takes) refl ]

-- ---- all lines

-- the first line, of which something was read
pub record FirstRead (old new : Reading) (ls more : List (List ℕ)) : Type 0 where
  pub line : List ℕ
  pub split : ls ≡ line ∷ more
  pub read : read_line old line ≡ Some new

-- the lines after the first
abbrev later_of : Option (Reading × List (List ℕ)) → List (List ℕ)
later_of None = []
later_of (Some read) = read.1

of_line : (new : Reading) (later more : List (List ℕ)) (o : Option Reading) → option_map {U = Reading × List (List ℕ)} (λ next. (next, later)) o ≡ Some (new, more) → (o ≡ Some new) × (later ≡ more)
of_line new later more None read = cc
of_line new later more (Some next) read = (ap (λ (x : Option (Reading × List (List ℕ))). option_map (λ y. y.0) x) read, ap later_of read)

pub first_is : (old new : Reading) (ls more : List (List ℕ)) → first_read old ls ≡ Some (new, more) → FirstRead old new ls more
first_is old new [] more read = cc
first_is old new (line ∷ later) more read =
    let (one, rest) = of_line new later more (read_line old line) read in
    record { line = line; split = ap (λ l. line ∷ l) rest; read = one }

pub first_fits : (old new : Reading) (ls more : List (List ℕ)) → FitsTogether old → FirstRead old new ls more → FitsTogether new
first_fits old new ls more fits first = line_fits old new first.line fits first.read

no_line : (later : List (List ℕ)) (o : Option Reading) → option_map {U = Reading × List (List ℕ)} (λ next. (next, later)) o ≡ None → o ≡ None
no_line later None read = refl
no_line later (Some next) read = cc

-- a text with a byte, of which nothing is read, begins with a bad line
pub begins_bad : (old : Reading) (text : List ℕ) → 0 < length text → first_read old (lines text) ≡ None → BeginsBad old (lines text)
begins_bad old text some read =
    let (line, later, is) = has_line text some in
    subst (BeginsBad old) (sym is) (no_line later (read_line old line) (ap (first_read old) (sym is) ∙ read))

-- a line that may take memory, after lines that are fine
pub may_take_in : (text : List ℕ) (front ls : List (List ℕ)) (r : Reading) → lines text ≡ front ++ ls → Reads nothing_read front r → may_take r ls ≡ true → TakesMemory text
may_take_in text front [] r split reads takes = taken_in text front [] r split reads (rw takes refl)
may_take_in text front (line ∷ more) r split reads takes = elim (cases_Bool (is_some r.current)) [
  | inl is ↦ taken_in text front (line ∷ more) r split reads (rw is refl)
  | inr isnt ↦ (front, line, more, r, split, reads, rw isnt at takes)
]

pub none_there : {X : Type 0} (o : Option X) → is_some o ≡ false → o ≡ None
none_there None none = refl
none_there (Some x) none = cc
