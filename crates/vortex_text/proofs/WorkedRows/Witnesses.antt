-- Witnesses of the clauses of the program, of texts that come in piece by piece and of streams.
use Rattle.std.specs.Prelude.{◌≡◌, ◌≢◌, ◌<◌, ◌+◌, ◌++◌, ◌⊎◌, ℕ, Bool, false, true, IfSome, IsTrue, List, [], ◌∷◌, Option, Some, None, Result, Ok, Err, IsErrOf, codes, if◌then◌else◌, length, refl, IsErr}
use Rattle.std.specs.Fmt.{digits}
use Rattle.std.specs.Io.KnownBytes.{Appends}
use Rattle.std.specs.List.{AllByRecursion}
use Rattle.std.specs.Str.{chars, is_utf8}
use Rattle.std.proofs.Common.{ap, arith, inl, inr, sym, ◌∙◌}
use Rattle.vortex_expr.specs.Trees.Tree.{Tree, Place}
use Rattle.vortex_prune.proofs.Honesty.MeasuredParts.{measured_is_true_part}
use Rattle.vortex_prune.proofs.WorkedRows.ShutRows.{neither}
use Rattle.vortex_prune.proofs.WorkedRows.Witnesses.Parts.{above_ten, parts}
use Rattle.vortex_zone_map.proofs.WorkedRows.Witnesses.{IsWitness, i64_type, known_in, num, scope}
use Rattle.vortex_prune.proofs.WorkedRows.Witnesses.Pruning.{shut}
use Rattle.vortex_prune.specs.Part.{IsTruePart, PartData}
use Rattle.vortex_zone_map.specs.Zone.{Entries}
use Rattle.vortex_prune.specs.Scanning.Selection.{full}
use Rattle.vortex_base.specs.declared.scalar_value.ScalarValue.{ScalarValue}
use Rattle.vortex_rewrite.specs.Rewriting.Falsifiers as rewriting
use Rattle.vortex_rewrite.specs.Rewriting.Predicates.{is_predicate}
use Rattle.vortex_stats.specs.Stat.{all_stats}
use Rattle.vortex_text.specs.Fitting.{IsQuery}
use Rattle.vortex_text.specs.MemoryTaken.{TakesMemory}
use Rattle.vortex_text.specs.Naming.{Query, named}
use Rattle.vortex_text.specs.OpenTexts.{IsOpenText, IsRefused, Tells}
use Rattle.vortex_text.specs.Printing.{scan_text}
use Rattle.vortex_text.specs.Program.{Answers, IsReason, Stops, WritesFullScan, reply, reply_to, selected, skipped, whole}
use Rattle.vortex_text.specs.Progress.{Progress}
use Rattle.vortex_text.specs.Streams.{HasNotFailed, MayHaveFailed}
use Rattle.vortex_text.specs.declared.bad_line.TextError.{TextError}
use Rattle.vortex_text.specs.declared.bad_line.TextError.TheVariants as errors
use Rattle.vortex_text.specs.declared.input.ReadError.{ReadError}
use Rattle.vortex_text.specs.declared.input.ReadError.TheVariants as read
use Rattle.vortex_text.specs.declared.naming.InputError.{InputError}
use Rattle.vortex_text.specs.declared.naming.InputError.TheVariants as input
use Rattle.vortex_text.specs.declared.open_line.OpenLine.{OpenLine}
use Rattle.vortex_text.specs.declared.open_text.PushError.{PushError}
use Rattle.vortex_text.specs.declared.open_text.PushError.TheVariants as push
use Rattle.vortex_text.specs.declared.open_text.State.TheVariants as state
use Rattle.vortex_text.specs.declared.streams.TheConstants.{INPUT_LIMIT}

-- ---- a text that names two parts with true statistics, of which the first is skipped

abbrev pub two_parts : List ℕ
two_parts =
    codes "column a i64?\npart\nstat a is_constant exact false\nstat a is_sorted exact true\nstat a is_strict_sorted exact true\nstat a max exact 3\nstat a min exact 3\nstat a sum exact 3\nstat a null_count exact 1\nstat a uncompressed_size_in_bytes exact 0\nrow 3\nrow null\n"
    ++ codes "part\nstat a is_constant exact false\nstat a is_sorted exact true\nstat a is_strict_sorted exact true\nstat a max exact 30\nstat a min exact 5\nstat a sum exact 35\nstat a null_count exact 0\nstat a uncompressed_size_in_bytes exact 0\nrow 5\nrow 30\nwhere gt col a lit i64 10\n"

abbrev pub part : List (Option ScalarValue) → Entries → PartData
part vs set = record { chunk = record { scope = scope; columns = record { dtype = i64_type; values = vs; size = 0 } ∷ [] }; stats = set ∷ [] }

abbrev pub low : PartData
low = part (Some (num 3) ∷ None ∷ []) (known_in 0 3 3 3 1)

abbrev pub mixed : PartData
mixed = part (Some (num 5) ∷ Some (num 30) ∷ []) (known_in 0 5 30 35 0)

abbrev pub named_parts : List PartData
named_parts = low ∷ mixed ∷ []

abbrev pub query : List PartData → Tree Place → Result Query ℕ
query ps p = Ok (ps, p)

pub they_are_named : named two_parts ≡ query named_parts above_ten
unfolding is_utf8 chars lib.Utf8.encode digits
they_are_named = refl

pub all_true : AllByRecursion IsTruePart named_parts
unfolding all_stats
all_true = (measured_is_true_part low.chunk low.stats refl refl, (measured_is_true_part mixed.chunk mixed.stats refl refl, tt))

abbrev pub right : List ℕ
right = codes "skipped 0\nrows 1:1\n"

-- the row that satisfies is lost
abbrev pub lossy : List ℕ
lossy = codes "skipped 0 1\nrows\n"

all_rows : scan_text (skipped above_ten named_parts) (full above_ten named_parts) (whole above_ten named_parts) ≡ right
unfolding is_utf8 chars lib.Utf8.encode digits rewriting.node rewriting.reduce_balanced
all_rows = refl

replied : reply_to two_parts ≡ (0, right)
unfolding is_utf8 chars lib.Utf8.encode digits rewriting.node rewriting.reduce_balanced
replied = refl

lossy_is_shorter : lossy ≡ right → ⊥
lossy_is_shorter h = let same : ◌≡◌ {A = ℕ} 17 19 = ap length h in absurd (omega arith)

-- ---- the program: an answer whose status isn't 1

zero_is_not_one : ◌≢◌ {A = ℕ} 0 1
zero_is_not_one h = omega (arith, h)

three_is_not_one : ◌≢◌ {A = ℕ} 3 1
three_is_not_one h = omega (arith, h)

-- what a writer holds that held nothing
abbrev pub Held : Type 0
Held = Option (List ℕ)

pub run_answered : IsWitness (◌≢◌ {A = ℕ} 0 1) (λ (new : Held). IfSome (Some two_parts) (λ text. Answers text 0 (Some []) new)) (Some lossy)
run_answered = record { met = zero_is_not_one; refuted = λ h. lossy_is_shorter (h.written ∙ ap (λ (r : ℕ × List ℕ). r.1) replied) }

-- the reply to a predicate, or to an expression of another type
abbrev of_type : Bool → List ℕ → ℕ × List ℕ
of_type is printed = if is then (0, printed) else (1, codes "predicate" ++ 10 ∷ [])

type_below : (is : Bool) (printed : List ℕ) → (of_type is printed).0 < 3
type_below true printed = omega arith
type_below false printed = omega arith

-- no input has the status 3
status_below : (r : Result Query ℕ) → (reply r).0 < 3
status_below (Ok q) = type_below (is_predicate q.1) (scan_text (skipped q.1 q.0) (selected q.1 q.0) (whole q.1 q.0))
status_below (Err n) = omega arith

pub run_some_input : IsWitness (◌≢◌ {A = ℕ} 3 1) (λ (status : ℕ). (text : List ℕ) × Answers text status (Some []) (Some lossy)) 3
run_some_input = record { met = three_is_not_one; refuted = λ h. absurd (omega (arith, h.1.same_status, status_below (named h.0))) }

-- ---- status 1: the word is none of those that say why

abbrev pub other_word : List ℕ
other_word = codes "no\n"

other_type : (is : Bool) (printed : List ℕ) → 1 ≡ (of_type is printed).0 → (of_type is printed).1 ≡ codes "predicate" ++ 10 ∷ []
other_type true printed h = absurd (omega (arith, h))
other_type false printed h = refl

-- of a reply with that status the predicate is told
told_predicate : (r : Result Query ℕ) → 1 ≡ (reply r).0 → (reply r).1 ≡ codes "predicate" ++ 10 ∷ []
told_predicate (Ok q) h = other_type (is_predicate q.1) (scan_text (skipped q.1 q.0) (selected q.1 q.0) (whole q.1 q.0)) h
told_predicate (Err n) h = absurd (omega (arith, h))

reasons_are_longer : (text word : List ℕ) → IsReason text (Some false) word → 4 < length word
reasons_are_longer text word (inl is) = let long = ap length is in omega (arith, long)
reasons_are_longer text word (inr (inl is)) = let long = ap length is.1 in omega (arith, long)
reasons_are_longer text word (inr (inr is)) = let long = ap length is.1 in omega (arith, long)

not_answered : (text : List ℕ) → Answers text 1 (Some []) (Some other_word) → ⊥
not_answered text h = let long : ◌≡◌ {A = ℕ} 3 10 = ap length (h.written ∙ told_predicate (named text) h.same_status) in absurd (omega arith)

not_stopped : (text : List ℕ) → Stops text (Some false) (Some false) (Some []) (Some other_word) → ⊥
not_stopped text (inl (word, reason, written)) = let long = ap length written in absurd (omega (arith, long, reasons_are_longer text word reason))
not_stopped text (inr cut) = absurd (cut.0 refl)

pub run_refused : IsWitness (◌≡◌ {A = ℕ} 1 1)
    (λ (new : Held). IfSome (Some two_parts) (λ text. Answers text 1 (Some []) new ⊎ Stops text (Some false) (Some false) (Some []) new)) (Some other_word)
run_refused = record { met = refl; refuted = λ h. neither (not_answered two_parts) (not_stopped two_parts) h }

pub run_some_refused : IsWitness (◌≡◌ {A = ℕ} 1 1)
    (λ (new : Held). (text : List ℕ) × (Answers text 1 (Some []) new ⊎ Stops text (Some false) (Some false) (Some []) new)) (Some other_word)
run_some_refused = record { met = refl; refuted = λ h. neither (not_answered h.0) (not_stopped h.0) h.1 }

-- ---- the full scan: the parts are named, and their statistics are true

not_full : WritesFullScan two_parts (Some []) (Some lossy) → ⊥
not_full (printed, written, says) = lossy_is_shorter (written ∙ says named_parts above_ten they_are_named refl all_true ∙ all_rows)

pub run_lossless : IsWitness ((◌≡◌ {A = ℕ} 0 0) × (named two_parts ≡ query named_parts above_ten) × IsTrue (is_predicate above_ten) × AllByRecursion IsTruePart named_parts)
    (λ (new : Held). IfSome (Some two_parts) (λ text. WritesFullScan text (Some []) new)) (Some lossy)
run_lossless = record { met = (refl, they_are_named, refl, all_true); refuted = not_full }

-- ---- texts that come in piece by piece, from one without bytes on, as `OpenText::new` makes it

abbrev one_byte : List ℕ
one_byte = codes "x"

-- the byte isn't taken
pub push_read : (start : Progress) → IsOpenText [] start → IsWitness (IsOpenText [] start) (λ (new : Progress). IsOpenText ([] ++ one_byte) new) start
push_read start is = record { met = is; refuted = λ h. let long : 0 ≡ length one_byte = sym is.taken ∙ h.taken in absurd (omega (arith, long)) }

abbrev too_long : Result ℕ PushError
too_long = Err push.TooLong

-- a text of no bytes that takes one isn't too long
pub push_too_long : IsWitness (IsErrOf too_long push.TooLong) (λ (taken : ℕ). INPUT_LIMIT < taken + length one_byte) 0
push_too_long = record { met = refl; refuted = λ h. absurd (omega (arith, h)) }

-- a byte is taken all the same
pub push_same : (old : Progress) → IsWitness (IsErrOf too_long push.TooLong) (λ (new : Progress). new ≡ old) (record { taken = old.taken + 1; state = old.state })
push_same old = record { met = refl; refuted = λ h. let more : old.taken + 1 ≡ old.taken = ap (λ (p : Progress). p.taken) h in absurd (omega (arith, more)) }

-- a text without lines names nothing
abbrev as_told : Query → Query
as_told q = q

nothing_named : named [] ≡ query named_parts above_ten → ⊥
nothing_named h = cc

pub close_named : (start : Progress) → IsOpenText [] start → IsWitness (IsOpenText [] start) (λ (answer : Result Query TextError). Tells as_told answer (named [])) (Ok (named_parts, above_ten))
close_named start is = record { met = is; refuted = nothing_named }

-- ---- a text to which memory was refused

abbrev refused : Progress
refused = record { taken = 0; state = state.Refused }

-- one that goes on, whatever line is open
abbrev goes_on : OpenLine → Progress
goes_on line = record { taken = 0; state = state.Open line }

open_is_not_refused : (line : OpenLine) → IsRefused (goes_on line) → ⊥
open_is_not_refused line h = cc

abbrev memory_refused : Result ℕ PushError
memory_refused = Err push.Memory

pub push_memory : (line : OpenLine) → IsWitness (IsErrOf memory_refused push.Memory) (λ (new : Progress). IsRefused new) (goes_on line)
push_memory line = record { met = refl; refuted = open_is_not_refused line }

abbrev byte_taken : Result ℕ PushError
byte_taken = Ok 0

answered : IsErr byte_taken → ⊥
answered h = shut h

pub push_refused : IsWitness (IsRefused refused) (λ (answer : Result ℕ PushError). IsErr answer) byte_taken
push_refused = record { met = refl; refuted = answered }

pub push_stays_refused : (line : OpenLine) → IsWitness (IsRefused refused) (λ (new : Progress). IsRefused new) (goes_on line)
push_stays_refused line = record { met = refl; refuted = open_is_not_refused line }

query_is_no_error : (q : Query) (e : TextError) → Ok q ≡ Err e → ⊥
query_is_no_error q e h = cc

pub close_refused : IsWitness (IsRefused refused) (λ (answer : Result Query TextError). answer ≡ Err errors.Memory) (Ok (named_parts, above_ten))
close_refused = record { met = refl; refuted = query_is_no_error (named_parts, above_ten) errors.Memory }

-- ---- what texts name: a column of a part has no declared size

sized : IsQuery parts above_ten → ⊥
sized (names, over) = shut (over.are_parts 0 low (omega arith)).unsized

pub texts_fit : IsWitness (named two_parts ≡ query named_parts above_ten) (λ (ps : List PartData). IsQuery ps above_ten) parts
texts_fit = record { met = they_are_named; refuted = sized }

-- a text without lines takes no memory
abbrev no_memory : Result ℕ InputError
no_memory = Err input.Memory

no_line : (front : List (List ℕ)) (line : List ℕ) (rest : List (List ℕ)) → [] ≡ front ++ line ∷ rest → ⊥
no_line [] line rest h = cc
no_line (x ∷ front) line rest h = cc

takes_none : TakesMemory [] → ⊥
takes_none (front, line, rest, r, is, read, takes) = no_line front line rest is

pub read_input_memory : IsWitness (IsErrOf no_memory input.Memory) (λ (text : List ℕ). TakesMemory text) []
read_input_memory = record { met = refl; refuted = takes_none }

-- ---- readers and writers

abbrev read_refused : ReadError → Result ℕ ReadError
read_refused e = Err e

pub read_all_too_long : IsWitness (IsErrOf (read_refused read.TooLong) read.TooLong) (λ (remaining : Held). IfSome remaining (λ bytes. INPUT_LIMIT < length bytes)) (Some one_byte)
read_all_too_long = record { met = refl; refuted = λ h. absurd (omega (arith, h)) }

pub read_all_failed : IsWitness (IsErrOf (read_refused read.Failed) read.Failed) (λ (has_failed : Option Bool). MayHaveFailed has_failed) (Some false)
read_all_failed = record { met = refl; refuted = λ h. absurd (h refl) }

nothing_written : [] ≡ one_byte → ⊥
nothing_written h = cc

pub write_out_whole : IsWitness (IsTrue true) (λ (new : Held). Appends (Some []) new one_byte) (Some [])
write_out_whole = record { met = refl; refuted = nothing_written }

failed_is_told : Some true ≡ Some false → ⊥
failed_is_told h = cc

pub write_out_unfailed : IsWitness (IsTrue true) (λ (after : Option Bool). HasNotFailed (Some false) after) (Some true)
write_out_unfailed = record { met = refl; refuted = failed_is_told }
