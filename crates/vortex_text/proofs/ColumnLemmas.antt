-- Columns that take the words of a row, one after another.
use Rattle.std.proofs.Common.{◌≡◌, ◌<◌, ◌≤◌, ◌+◌, ℕ, zero, suc, List, [], ◌∷◌, ◌++◌, Option, None, Some, Result, Ok, Err, option_map, option_and_then, length, set, get_or, take, drop, refl, ap, sym, ◌∙◌, append_assoc, append-nil, add-one, drop-cons, arith}
use Rattle.std.proofs.lemmas.List.{drop_all, take_all, take_more_set}
use Rattle.vortex_base.specs.Data.Columns.{ColumnData}
use Rattle.vortex_syntax.specs.Fails.{Changes, Fails, Gives}
use Rattle.vortex_syntax.specs.Words.{Token, no_word}
use Rattle.vortex_syntax.specs.declared.line_error.LineError.{LineError}
use Rattle.vortex_syntax.specs.declared.line_error.LineError.TheVariants as errors
use Rattle.vortex_text.specs.Columns.{behind, taken, with_values}

behind_push : (front : List ColumnData) (c : ColumnData) (read : Option (List ColumnData)) → behind (front ++ c ∷ []) read ≡ behind front (option_map (λ more. c ∷ more) read)
behind_push front c None = refl
behind_push front c (Some more) = ap Some (append_assoc front (c ∷ []) more)

behind_none : (front : List ColumnData) (read : Option (List ColumnData)) → read ≡ None → behind front read ≡ None
behind_none front read none = ap (behind front) none

-- the rest of a row once its first column has its value
abbrev pub row_after : List ColumnData → Option (ColumnData × List Token) → Option (List ColumnData)
row_after cs o = option_and_then (λ (longer : ColumnData × List Token). option_and_then (λ more. Some (longer.0 ∷ more)) (with_values cs longer.1)) o

joined_map : (c : ColumnData) (read : Option (List ColumnData)) → option_and_then (λ more. Some (c ∷ more)) read ≡ option_map (λ more. c ∷ more) read
joined_map c None = refl
joined_map c (Some more) = refl

drop_set_later : {X : Type 0} (xs : List X) (i : ℕ) (y : X) → i < length xs → drop (i + 1) (set xs i y) ≡ drop (i + 1) xs
drop_set_later [] i y within = absurd (omega arith)
drop_set_later (x ∷ xs) zero y within = refl
drop_set_later (x ∷ xs) (suc i) y within = rw add-one (rw add-one at (drop_set_later xs i y (omega arith)))

row_splits : (cs : List ColumnData) (i : ℕ) (ws : List Token) → i < length cs → (d : ColumnData)
    → with_values (drop i cs) ws ≡ row_after (drop (i + 1) cs) (taken (get_or cs i d) ws)
row_splits cs i ws within d = rw (add-one, drop-cons cs i d) refl

-- one more column has its value
pub row_more : (cs all : List ColumnData) (i : ℕ) (ws rest line : List Token) (old new d : ColumnData) → i < length cs → old ≡ get_or cs i d → taken old ws ≡ Some (new, rest)
    → behind (take i cs) (with_values (drop i cs) ws) ≡ with_values all line
    → behind (take (i + 1) (set cs i new)) (with_values (drop (i + 1) (set cs i new)) rest) ≡ with_values all line
row_more cs all i ws rest line old new d within is took h =
    rw (take_more_set cs i new within, drop_set_later cs i new within)
    (behind_push (take i cs) new (with_values (drop (i + 1) cs) rest)
    ∙ ap (behind (take i cs)) (sym (joined_map new (with_values (drop (i + 1) cs) rest)) ∙ sym (ap (row_after (drop (i + 1) cs)) took) ∙ ap (λ c. row_after (drop (i + 1) cs) (taken c ws)) is ∙ sym (row_splits cs i ws within d))
    ∙ h)

-- a column has no value
pub row_stops : (cs all : List ColumnData) (i : ℕ) (ws line : List Token) (old d : ColumnData) → i < length cs → old ≡ get_or cs i d → taken old ws ≡ None
    → behind (take i cs) (with_values (drop i cs) ws) ≡ with_values all line → with_values all line ≡ None
row_stops cs all i ws line old d within is none h =
    sym h ∙ behind_none (take i cs) _ (row_splits cs i ws within d ∙ ap (λ c. row_after (drop (i + 1) cs) (taken c ws)) (sym is) ∙ ap (row_after (drop (i + 1) cs)) none)

-- every column has its value
pub row_whole : (cs all : List ColumnData) (i : ℕ) (ws line : List Token) → length cs ≤ i → no_word ws ≡ Some tt
    → behind (take i cs) (with_values (drop i cs) ws) ≡ with_values all line → with_values all line ≡ Some cs
row_whole cs all i ws line past none h =
    sym h ∙ rw (take_all i cs past, drop_all i cs past, none) (ap Some (append-nil cs))

-- words are left
pub row_longer : (cs all : List ColumnData) (i : ℕ) (ws line : List Token) → length cs ≤ i → no_word ws ≡ None
    → behind (take i cs) (with_values (drop i cs) ws) ≡ with_values all line → with_values all line ≡ None
row_longer cs all i ws line past none h =
    sym h ∙ rw (drop_all i cs past, none) refl

-- what a callee's error says goes on to the caller
pub fails_on : {A B : Type 0} (e : LineError) (inner : Option A) (outer : Option B) → (inner ≡ None → outer ≡ None) → Fails e inner → Fails e outer
fails_on errors.Memory inner outer bad h = tt
fails_on (errors.Bad fault) inner outer bad h = bad h

pub row_ends : (cs all : List ColumnData) (i : ℕ) (ws line : List Token) (r : Result (Unit {0}) LineError) → length cs ≤ i → Gives (λ x. x) r (no_word ws)
    → behind (take i cs) (with_values (drop i cs) ws) ≡ with_values all line → Changes r (with_values all line) cs
row_ends cs all i ws line (Ok x) past given h = row_whole cs all i ws line past given h
row_ends cs all i ws line (Err e) past given h = fails_on e (no_word ws) (with_values all line) (λ none. row_longer cs all i ws line past none h) given
