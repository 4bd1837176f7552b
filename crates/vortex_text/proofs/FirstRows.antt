-- A row at the front of a text.
use Rattle.std.proofs.Common.{◌≡◌, ◌<◌, ◌≤◌, ◌+◌, ◌-◌, ℕ, true, false, List, [], ◌∷◌, ◌++◌, Option, None, Some, length, length-append, length-drop, option_and_then, option_map, append_assoc, append-nil, take, drop, get_or, set, refl, ap, sym, subst, ◌∙◌, inl, inr, arith}
use Rattle.std.proofs.lemmas.Bool.{and_from, cases_Bool}
use Rattle.std.proofs.lemmas.List.{drop_all, take_all, take_rest}
use borrow.Rule.Slice.PartMut.{put_mid}
use Rattle.std.proofs.Math.Seq.{drop-append_seam}
use Rattle.std.proofs.lemmas.List.Folds.{list_all-append}
use Rattle.std.proofs.lemmas.Str.{IsUtf8-nil, is_utf8-from_IsUtf8}
use Rattle.std.specs.Str.{is_utf8}
use Rattle.std.specs.Str.Lines.{lines}
use Rattle.vortex_base.specs.Data.Columns.{ColumnData}
use Rattle.vortex_base.specs.declared.dtype.DType.{DType}
use Rattle.vortex_base.specs.declared.scalar_value.ScalarValue.{ScalarValue}
use Rattle.vortex_syntax.proofs.Spelling.{word_back}
use Rattle.vortex_syntax.specs.Plain.{BeginsValue, EndsWord, is_line_byte}
use Rattle.vortex_syntax.specs.Spelling.{CanBeSpelled, IsParted, spelled}
use Rattle.vortex_syntax.specs.Values.{optional_value_of}
use Rattle.vortex_syntax.specs.Words.{Token, Plain, Quoted, Broken, words}
use Rattle.vortex_text.proofs.ColumnLemmas.{row_more}
use Rattle.vortex_text.proofs.FirstLineLemmas.{line_parted, lines_behind, lines_ended, parted_at, utf8_behind}
use Rattle.vortex_text.proofs.FirstReads.{ends_some, has_line}
use Rattle.vortex_text.specs.Columns.{behind, taken, with_value, with_values}
use Rattle.vortex_text.specs.FirstLines.{AddsValue, BeginsRow, TakesValue, first_row}

behind_nothing : (read : Option (List ColumnData)) → read ≡ behind [] read
behind_nothing None = refl
behind_nothing (Some more) = refl

-- no column has a value yet
pub row_begun : (cs : List ColumnData) (text : List ℕ) → BeginsRow cs cs text text 0
row_begun cs text = record { front = []; split = refl; clean = refl; row = λ tail parted. behind_nothing (with_values cs (words tail)) }

taken_first : (c : ColumnData) (w : Token) (tail : List ℕ) (v : Option ScalarValue) → CanBeSpelled w → IsParted tail → optional_value_of c.dtype w ≡ Some v
    → taken c (words (32 ∷ (spelled w ++ tail))) ≡ Some (with_value v c, words tail)
taken_first c (Plain word) tail v can parted is = rw (word_back (Plain word) tail can parted, is) refl
taken_first c (Quoted text) tail v can parted is = rw (word_back (Quoted text) tail can parted, is) refl
taken_first c Broken tail v can parted is = absurd can

-- a value in plain form with a space behind it is the first word's
taken_in_line : (c : ColumnData) (line rest : List ℕ) (v : Option ScalarValue) → BeginsValue c.dtype line v rest → get_or rest 0 0 ≡ 32
    → taken c (words line) ≡ Some (with_value v c, words rest)
taken_in_line c line rest v begins space = rw begins.split (taken_first c begins.word rest v begins.can (parted_at rest space) begins.value)

-- whatever the column is then
pub taken_as : (c new : ColumnData) (line rest : List ℕ) (v : Option ScalarValue) → BeginsValue c.dtype line v rest → get_or rest 0 0 ≡ 32 → new ≡ with_value v c
    → taken c (words line) ≡ Some (new, words rest)
taken_as c new line rest v begins space made = taken_in_line c line rest v begins space ∙ ap (λ x. Some (x, words rest)) (sym made)

-- one more column has a value
pub row_one_more : (old cs : List ColumnData) (text rest after : List ℕ) (i : ℕ) (c new d : ColumnData) → i < length cs → c ≡ get_or cs i d → TakesValue c rest new after → BeginsRow old cs text rest i
    → BeginsRow old (set cs i new) text after (i + 1)
row_one_more old cs text rest after i c new d within is (v, begins, made) so_far =
    let word = spelled begins.word in
    record {
      front = so_far.front ++ 32 ∷ word;
      split = so_far.split ∙ ap (λ l. so_far.front ++ l) begins.split ∙ sym (append_assoc so_far.front (32 ∷ word) after);
      clean = list_all-append is_line_byte so_far.front (32 ∷ word) ∙ and_from _ _ so_far.clean begins.in_line;
      row = λ tail parted.
          let took : taken c (words (32 ∷ (word ++ tail))) ≡ Some (new, words tail) = taken_first c begins.word tail v begins.can parted begins.value ∙ ap (λ x. Some (x, words tail)) (sym made) in
          ap (λ l. with_values old (words l)) (append_assoc so_far.front (32 ∷ word) tail)
          ∙ sym (row_more cs old i (words (32 ∷ (word ++ tail))) (words tail) (words (so_far.front ++ 32 ∷ (word ++ tail))) c new d within is took (sym (so_far.row (32 ∷ (word ++ tail)) refl)));
    }

-- what follows the value that a column took
pub taken_ends : (c new : ColumnData) (text rest : List ℕ) → TakesValue c text new rest → EndsWord rest
taken_ends c new text rest (v, begins, made) = begins.ends

read_first : (cs longer : List ColumnData) (l : List ℕ) (ls : List (List ℕ)) → is_utf8 l ≡ true → with_values cs (words l) ≡ Some longer → first_row cs (l ∷ ls) ≡ Some (longer, ls)
read_first cs longer l ls utf8 read = rw (utf8, read) refl

-- every column has a value, and the line ends
pub row_ends_plain : (old new : List ColumnData) (text rest after : List ℕ) (i : ℕ) → BeginsRow old new text rest i → length new ≤ i → rest ≡ 10 ∷ after → first_row old (lines text) ≡ Some (new, lines after)
row_ends_plain old new text rest after i so_far past is =
    let line : lines text ≡ (so_far.front ++ []) ∷ lines after =
    ap lines (so_far.split ∙ ap (λ l. so_far.front ++ l) is) ∙ lines_behind so_far.front (10 ∷ after) [] (lines after) so_far.clean (lines_ended after) in
    let utf8 : is_utf8 (so_far.front ++ []) ≡ true = utf8_behind so_far.front [] so_far.clean ∙ is_utf8-from_IsUtf8 [] IsUtf8-nil in
    let read : with_values old (words (so_far.front ++ [])) ≡ Some new =
    so_far.row [] tt ∙ rw (drop_all i new past, take_all i new past) (ap Some (append-nil new)) in
    ap (first_row old) line ∙ read_first old new (so_far.front ++ []) (lines after) utf8 read

-- the words of what follows the plain values
pub row_goes_on : (old new : List ColumnData) (text rest l : List ℕ) (ls : List (List ℕ)) (i : ℕ) → BeginsRow old new text rest i → EndsWord rest → lines rest ≡ l ∷ ls → is_utf8 l ≡ true
    → first_row old (lines text) ≡ option_map (λ longer. (longer, ls)) (behind (take i new) (with_values (drop i new) (words l)))
row_goes_on old new text rest l ls i so_far ends is utf8 =
    ap (λ t. first_row old (lines t)) so_far.split
    ∙ ap (first_row old) (lines_behind so_far.front rest l ls so_far.clean is)
    ∙ rw (utf8_behind so_far.front l so_far.clean, utf8) (ap (λ o. option_and_then {U = List ColumnData × List (List ℕ)} (λ longer. Some (longer, ls)) o) (so_far.row l (line_parted rest l ls ends is)) ∙ mapped _)
  where
    mapped : (o : Option (List ColumnData)) → option_and_then {U = List ColumnData × List (List ℕ)} (λ longer. Some (longer, ls)) o ≡ option_map (λ longer. (longer, ls)) o
    mapped None = refl
    mapped (Some longer) = refl

pub row_not_utf8 : (old new : List ColumnData) (text rest l : List ℕ) (ls : List (List ℕ)) (i : ℕ) → BeginsRow old new text rest i → lines rest ≡ l ∷ ls → is_utf8 l ≡ false
    → first_row old (lines text) ≡ None
row_not_utf8 old new text rest l ls i so_far is broken =
    ap (λ t. first_row old (lines t)) so_far.split
    ∙ ap (first_row old) (lines_behind so_far.front rest l ls so_far.clean is)
    ∙ rw (utf8_behind so_far.front l so_far.clean, broken) refl

-- ---- what follows the plain values

-- columns that have their values, in front of the others as they are read
abbrev pub in_front : List ColumnData → Option (List ColumnData × List (List ℕ)) → Option (List ColumnData × List (List ℕ))
in_front front read = option_map (λ row. (front ++ row.0, row.1)) read

together : (front : List ColumnData) (ls : List (List ℕ)) (o : Option (List ColumnData)) → option_map (λ longer. (longer, ls)) (behind front o) ≡ in_front front (option_and_then {U = List ColumnData × List (List ℕ)} (λ longer. Some (longer, ls)) o)
together front ls None = refl
together front ls (Some longer) = refl

first_utf8 : (cs : List ColumnData) (l : List ℕ) (ls : List (List ℕ)) → is_utf8 l ≡ true → first_row cs (l ∷ ls) ≡ option_and_then {U = List ColumnData × List (List ℕ)} (λ longer. Some (longer, ls)) (with_values cs (words l))
first_utf8 cs l ls utf8 = rw utf8 refl

first_broken : (cs : List ColumnData) (l : List ℕ) (ls : List (List ℕ)) → is_utf8 l ≡ false → first_row cs (l ∷ ls) ≡ None
first_broken cs l ls broken = rw broken refl

-- the first line of it has the values of the other columns
row_split : (old new : List ColumnData) (text rest : List ℕ) (i : ℕ) → BeginsRow old new text rest i → EndsWord rest → first_row old (lines text) ≡ in_front (take i new) (first_row (drop i new) (lines rest))
row_split old new text rest i so_far ends =
    let (l, ls, is) = has_line rest (ends_some rest ends) in
    let here : in_front (take i new) (first_row (drop i new) (lines rest)) ≡ in_front (take i new) (first_row (drop i new) (l ∷ ls)) = ap (λ x. in_front (take i new) (first_row (drop i new) x)) is in
    elim (cases_Bool (is_utf8 l)) [
      | inl utf8 ↦ row_goes_on old new text rest l ls i so_far ends is utf8 ∙ together (take i new) ls (with_values (drop i new) (words l)) ∙ sym (here ∙ ap (in_front (take i new)) (first_utf8 (drop i new) l ls utf8))
      | inr broken ↦ row_not_utf8 old new text rest l ls i so_far is broken ∙ sym (here ∙ ap (in_front (take i new)) (first_broken (drop i new) l ls broken))
    ]

-- where those are read
pub row_rest : (old new ys : List ColumnData) (text rest : List ℕ) (ls : List (List ℕ)) (i : ℕ) → BeginsRow old new text rest i → EndsWord rest → first_row (take (length new - i) (drop i new)) (lines rest) ≡ Some (ys, ls)
    → first_row old (lines text) ≡ Some (put_mid i (length new - i) new ys, ls)
row_rest old new ys text rest ls i so_far ends read =
    let others : first_row (drop i new) (lines rest) ≡ Some (ys, ls) = rw (take_rest new i) at read in
    let none : drop (length new - i) (drop i new) ≡ [] = drop_all (length new - i) (drop i new) (omega (arith, length-drop i new)) in
    row_split old new text rest i so_far ends ∙ ap (in_front (take i new)) others ∙ ap (λ z. Some (take i new ++ z, ls)) (sym (ap (λ d. ys ++ d) none ∙ append-nil ys))

-- and where they aren't
pub row_broken : (old new : List ColumnData) (text rest : List ℕ) (i : ℕ) → BeginsRow old new text rest i → EndsWord rest → first_row (take (length new - i) (drop i new)) (lines rest) ≡ None → first_row old (lines text) ≡ None
row_broken old new text rest i so_far ends read =
    let others : first_row (drop i new) (lines rest) ≡ None = rw (take_rest new i) at read in
    row_split old new text rest i so_far ends ∙ ap (in_front (take i new)) others

-- the words of the first line
pub words_read : (cs longer : List ColumnData) (text l : List ℕ) (ls : List (List ℕ)) → lines text ≡ l ∷ ls → is_utf8 l ≡ true → with_values cs (words l) ≡ Some longer → first_row cs (lines text) ≡ Some (longer, ls)
words_read cs longer text l ls is utf8 read = ap (first_row cs) is ∙ read_first cs longer l ls utf8 read

pub words_broken : (cs : List ColumnData) (text l : List ℕ) (ls : List (List ℕ)) → lines text ≡ l ∷ ls → is_utf8 l ≡ true → with_values cs (words l) ≡ None → first_row cs (lines text) ≡ None
words_broken cs text l ls is utf8 read = ap (first_row cs) is ∙ first_utf8 cs l ls utf8 ∙ ap (λ o. option_and_then {U = List ColumnData × List (List ℕ)} (λ longer. Some (longer, ls)) o) read

pub words_not_utf8 : (cs : List ColumnData) (text l : List ℕ) (ls : List (List ℕ)) → lines text ≡ l ∷ ls → is_utf8 l ≡ false → first_row cs (lines text) ≡ None
words_not_utf8 cs text l ls is broken = ap (first_row cs) is ∙ first_broken cs l ls broken

-- ---- values of one type

-- what is left of a text behind a value
pub value_leaves : (t : DType) (text rest : List ℕ) (v : Option ScalarValue) → BeginsValue t text v rest → drop (length text - length rest) text ≡ rest
value_leaves t text rest v begins = rest_of text (32 ∷ spelled begins.word) rest begins.split
  where
    rest_of : (text front rest : List ℕ) → text ≡ front ++ rest → drop (length text - length rest) text ≡ rest
    rest_of text front rest is =
        let same : length text - length rest ≡ length front = omega (arith, simp length-append at (ap length is)) in
        rw (same, is) (drop-append_seam front rest)

-- a column takes what its values take
pub taken_of : (old new : ColumnData) (t : DType) (was now : List (Option ScalarValue)) (text rest : List ℕ) → record { dtype = t; values = was; size = 0 } ≡ old → record { dtype = t; values = now; size = 0 } ≡ new
    → AddsValue t was text now rest → TakesValue old text new rest
taken_of old new t was now text rest is becomes (v, begins, made) =
    subst (λ (c : ColumnData). TakesValue c text new rest) is (v, begins, sym becomes ∙ ap (λ vs. record { dtype = t; values = vs; size = 0 }) made)
