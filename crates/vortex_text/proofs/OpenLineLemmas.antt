-- The lines of a text whose front ends in a line feed, and what they say behind those before them.
use Rattle.std.proofs.Common.{◌≡◌, ◌<◌, ◌+◌, ◌==◌, ◌||◌, ℕ, Bool, true, List, [], ◌∷◌, ◌++◌, None, Err, is_some, length, map, append_assoc, append-nil, length-append, refl, ap, sym, subst, ◌∙◌, inl, inr, arith}
use Rattle.std.proofs.lemmas.Bool.{cases_Bool}
use Rattle.std.proofs.lemmas.List.Splits.{length-slice_split}
use Rattle.std.specs.List.{onto_first, slice_split}
use Rattle.std.specs.Str.Lines.{lines, lines_of_parts, strip_carriage_return}
use Rattle.vortex_syntax.proofs.FirstLine.{ends, lines_of_parts-more}
use Rattle.vortex_text.proofs.FirstReads.{may_take_in}
use Rattle.vortex_text.proofs.MemoryLemmas.{taken_in}
use Rattle.vortex_text.specs.Blocks.{BeginsBad, EndsLine, MayRefuse, ReadsFront, ReadsTo}
use Rattle.vortex_text.specs.FirstLines.{may_take}
use Rattle.vortex_text.specs.Lines.{Reading, nothing_read, parts_of}
use Rattle.vortex_text.specs.MemoryTaken.{TakesMemory}
use Rattle.vortex_text.specs.Naming.{IsNamed, Query, Reads, finish, go_on, named_from}
use Rattle.vortex_text.specs.OpenTexts.{GoesOn, KeepsError}
use Rattle.vortex_text.specs.declared.bad_line.TextError.{TextError}
use Rattle.vortex_text.specs.declared.bad_line.TextError.TheVariants as kept
use Rattle.vortex_text.specs.declared.naming.InputError.{InputError}
use Rattle.vortex_text.specs.declared.naming.InputError.TheVariants as errors

-- ---- lines

onto_front : (b : ℕ) (front rest : List (List ℕ)) → 0 < length front → onto_first b (front ++ rest) ≡ onto_first b front ++ rest
onto_front b [] rest some = absurd (omega arith)
onto_front b (part ∷ front) rest some = refl

has_parts : (text : List ℕ) → 0 < length (slice_split ends text)
has_parts text = omega (arith, length-slice_split ends text)

-- the parts before a line feed, and those behind it
split_ended : (front more : List ℕ) → slice_split ends (front ++ 10 ∷ more) ≡ slice_split ends front ++ slice_split ends more
split_ended [] more = refl
split_ended (b ∷ front) more = elim (cases_Bool (b == 10)) [
  | inl is ↦ rw is (ap (λ parts. [] ∷ parts) (split_ended front more))
  | inr isnt ↦ rw isnt (ap (onto_first b) (split_ended front more) ∙ onto_front b (slice_split ends front) (slice_split ends more) (has_parts front))
]

lines_ended_first : (parts more : List (List ℕ)) → 0 < length more → lines_of_parts (parts ++ more) ≡ map strip_carriage_return parts ++ lines_of_parts more
lines_ended_first [] more some = refl
lines_ended_first (part ∷ parts) more some =
    lines_of_parts-more part (parts ++ more) (omega (arith, length-append parts more))
    ∙ ap (λ ls. strip_carriage_return part ∷ ls) (lines_ended_first parts more some)

-- a line feed ends the lines before it
lines_at_feed : (front more : List ℕ) → lines (front ++ 10 ∷ more) ≡ map strip_carriage_return (slice_split ends front) ++ lines more
lines_at_feed front more = ap lines_of_parts (split_ended front more) ∙ lines_ended_first (slice_split ends front) (slice_split ends more) (has_parts more)

feed_parts : (front more : List ℕ) → lines ((front ++ 10 ∷ []) ++ more) ≡ lines (front ++ 10 ∷ []) ++ lines more
feed_parts front more =
    let before = map strip_carriage_return (slice_split ends front) in
    ap lines (append_assoc front (10 ∷ []) more) ∙ lines_at_feed front more
    ∙ ap (λ ls. ls ++ lines more) (sym (lines_at_feed front [] ∙ append-nil before))

-- whole lines and those behind them
pub whole_lines : (whole more : List ℕ) → EndsLine whole → lines (whole ++ more) ≡ lines whole ++ lines more
whole_lines whole more (inl none) = rw none refl
whole_lines whole more (inr (front, is)) = rw is (feed_parts front more)

-- an open line that ends in some bytes, and the lines behind it
pub lines_behind_block : (line bytes more : List ℕ) → EndsLine (line ++ bytes) → lines (line ++ (bytes ++ more)) ≡ lines (line ++ bytes) ++ lines more
lines_behind_block line bytes more ended = ap lines (sym (append_assoc line bytes more)) ∙ whole_lines (line ++ bytes) more ended

-- bytes in front of some that end a line
pub ends_behind : (line bytes front : List ℕ) → bytes ≡ front ++ 10 ∷ [] → EndsLine (line ++ bytes)
ends_behind line bytes front is = inr (line ++ front, ap (λ l. line ++ l) is ∙ sym (append_assoc line front (10 ∷ [])))

-- ---- what lines say

no_bytes : (rest : List ℕ) → length rest ≡ 0 → lines rest ≡ []
no_bytes [] none = refl
no_bytes (b ∷ rest) none = absurd (omega arith)

-- all lines were read where no byte is left
pub reads_whole : (n m : ℕ) (r s : Reading) (text rest : List ℕ) (front : List (List ℕ)) → length rest ≡ 0 → lines text ≡ front ++ lines rest → Reads r front s → n ≡ m + length front → Reads r (lines text) s × (n ≡ m + length (lines text))
reads_whole n m r s text rest front none split reads number =
    let whole : lines text ≡ front = split ∙ ap (λ ls. front ++ ls) (no_bytes rest none) ∙ append-nil front in
    (subst (λ ls. Reads r ls s) (sym whole) reads, number ∙ ap (λ ls. m + length ls) (sym whole))

-- lines that are fine, and those behind them
pub reads_on : (n : ℕ) (r s : Reading) (front more : List (List ℕ)) → Reads r front s → named_from n r (front ++ more) ≡ named_from (n + length front) s more
reads_on n r s [] more same = ap (λ t. named_from n t more) same ∙ ap (λ m. named_from m s more) (omega arith)
reads_on n r s (line ∷ front) more (next, read, reads) =
    ap (λ o. go_on n o (λ t. named_from (n + 1) t (front ++ more))) read ∙ reads_on (n + 1) next s front more reads ∙ ap (λ m. named_from m s more) (omega arith)

bad_first : (n : ℕ) (r : Reading) (ls more : List (List ℕ)) → BeginsBad r ls → named_from n r (ls ++ more) ≡ Err n
bad_first n r [] more bad = absurd bad
bad_first n r (line ∷ ls) more bad = ap (λ o. go_on n o (λ t. named_from (n + 1) t (ls ++ more))) bad

-- lines of which one is bad, and those behind them
pub stops_on : (n bad : ℕ) (r : Reading) (ls more : List (List ℕ)) → ReadsFront r ls (λ count t rest. BeginsBad t rest × (bad ≡ n + count)) → named_from n r (ls ++ more) ≡ Err bad
stops_on n bad r ls more (front, rest, s, split, reads, (begins, is)) =
    ap (λ l. named_from n r (l ++ more)) split ∙ ap (named_from n r) (append_assoc front rest more)
    ∙ reads_on n r s front (rest ++ more) reads ∙ bad_first (n + length front) s rest more begins ∙ ap Err (sym is)

-- lines that are fine, without a predicate
pub reads_none : (n m : ℕ) (r s : Reading) (ls : List (List ℕ)) → Reads r ls s → m ≡ n + length ls → s.predicate ≡ None → named_from n r ls ≡ Err m
reads_none n m r s ls reads number none =
    ap (named_from n r) (sym (append-nil ls)) ∙ reads_on n r s ls [] reads ∙ ap (finish (n + length ls) (parts_of s)) none ∙ ap Err (sym number)

-- what is told of lines of which one is bad
pub stops_named : {X : Type 0} (view : X → Query) (n : ℕ) (r s : Reading) (ls : List (List ℕ)) (e : InputError) → ReadsTo n r ls (Err e) s → IsNamed view (Err e) (named_from n r ls)
stops_named view n r s ls errors.Memory stop = tt
stops_named view n r s ls (errors.BadLine bad) stop = ap (named_from n r) (sym (append-nil ls)) ∙ stops_on n bad.number r ls [] stop

-- memory is refused to lines only where a front of them leads to what takes some
pub stops_refused : (n : ℕ) (r s : Reading) (ls : List (List ℕ)) (e : InputError) → ReadsTo n r ls (Err e) s → e ≡ errors.Memory → MayRefuse r ls
stops_refused n r s ls errors.Memory (front, rest, t, split, reads, takes) is = (front, rest, t, split, reads, rw takes refl)
stops_refused n r s ls (errors.BadLine bad) stop is = cc

-- the same at the end of all lines
pub ends_refused : (r s : Reading) (ls : List (List ℕ)) → Reads r ls s → (is_some s.current || is_some s.predicate) ≡ true → MayRefuse r ls
ends_refused r s ls reads takes = (ls, [], s, sym (append-nil ls), reads, takes)

-- lines that are fine lead on, and else the first bad one is told
pub goes_on : (n m : ℕ) (r s : Reading) (ls : List (List ℕ)) → Reads r ls s × (m ≡ n + length ls) → (more : List (List ℕ)) → named_from n r (ls ++ more) ≡ named_from m s more
goes_on n m r s ls read more = reads_on n r s ls more read.0 ∙ ap (λ k. named_from k s more) (sym read.1)

pub stops_kept : (n : ℕ) (r s : Reading) (ls : List (List ℕ)) (e : InputError) (kept : TextError) → ReadsTo n r ls (Err e) s → KeepsError e kept → GoesOn n r ls (Err kept) s
stops_kept n r s ls e kept.Memory stop keeps = tt
stops_kept n r s ls errors.Memory (kept.BadLine bad) stop keeps = absurd keeps
stops_kept n r s ls (errors.BadLine bad) (kept.BadLine copy) stop keeps = λ more. stops_on n bad.number r ls more stop ∙ ap Err (sym keeps)

or_true : (a b : Bool) → b ≡ true → (a || b) ≡ true
or_true a b is = elim (cases_Bool a) [ inl is_a ↦ rw is_a refl | inr isnt ↦ rw isnt is ]

-- a text that may be refused memory has a line that takes some
pub refused_in : (text : List ℕ) → MayRefuse nothing_read (lines text) → TakesMemory text
refused_in text (front, rest, s, split, reads, takes) = elim (cases_Bool (may_take s rest)) [
  | inl is ↦ may_take_in text front rest s split reads is
  | inr isnt ↦ (let predicate : is_some s.predicate ≡ true = rw isnt at takes in taken_in text front rest s split reads (or_true (is_some s.current) (is_some s.predicate) predicate))
]
