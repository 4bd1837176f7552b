-- Ranges of the rows of columns that grow, end and are joined.
use Rattle.std.proofs.Common.{◌≡◌, ◌≤◌, ◌+◌, ◌-◌, ◌==◌, ℕ, suc, true, List, [], ◌∷◌, ◌++◌, Option, None, Some, option_and_then, option_map, length, map, take, drop, replicate, refl, ap, ap₂, sym, ◌∙◌, subst, arith}
use Rattle.std.specs.List.{AllZip}
use Rattle.std.specs.Prelude.{◌&&◌, sum}
use Rattle.std.proofs.lemmas.Bool.Decides.{nat_tests}
use Rattle.std.proofs.Math.Seq.{take-add}
use Rattle.std.proofs.lemmas.List.{drop-append-le, drop-drop, drop_all, length-append, length-drop, take-append-le, take_all}
use Rattle.std.proofs.lemmas.List.Sums.{sum_by-cons}
use Rattle.std.specs.Str.{is_utf8}
use Rattle.vortex_base.specs.Data.Columns.{ChunkData, ColumnData, all_appended, all_long, has_types, row_count}
use Rattle.vortex_base.specs.Data.Exact.{both_true}
use Rattle.vortex_base.specs.Data.Scopes.{Named}
use Rattle.vortex_base.specs.Data.Types.{dtype_eq, dtype_eq_is_exact}
use Rattle.vortex_base.specs.declared.dtype.DType.{DType}
use Rattle.vortex_base.specs.declared.scalar_value.ScalarValue.{ScalarValue}
use Rattle.vortex_prune.specs.Part.{PartData, joined}
use Rattle.vortex_zone_map.specs.Zone.{Entries, ZoneData, merged_sets}
use Rattle.vortex_prune.specs.Scanning.RangeScans.{counts_of, range_chunk, range_column, range_parts}
use Rattle.vortex_syntax.specs.Values.{optional_value_of}
use Rattle.vortex_syntax.specs.Words.{Token, first_word, no_word, words}
use Rattle.vortex_text.proofs.ColumnLemmas.{row_after}
use Rattle.vortex_syntax.proofs.Fitting.ExpressionFits.{one_made, step_of}
use Rattle.vortex_text.specs.Columns.{taken, with_value, with_values}
use Rattle.vortex_text.specs.FirstLines.{first_row}
use Rattle.vortex_syntax.specs.Fails.{when}
use Rattle.vortex_text.specs.Rows.{empty_column, no_entries}
use Rattle.vortex_text.specs.Stores.{AreLong, HaveRows, last_row, rest_column}

-- the chunk of a scope and columns
abbrev pub chunk : List Named → List ColumnData → ChunkData
chunk scope cs = record { scope = scope; columns = cs }

-- ---- the rows behind a place take a row as the whole columns do

abbrev no_columns : Unit {0} → Option (List ColumnData)
no_columns none = Some []

abbrev onto : ColumnData → Option (List ColumnData) → Option (List ColumnData)
onto d o = option_and_then (λ more. Some (d ∷ more)) o

abbrev before_lines : List (List ℕ) → Option (List ColumnData) → Option (List ColumnData × List (List ℕ))
before_lines more o = option_and_then (λ (longer : List ColumnData). Some (longer, more)) o

abbrev with_value_in : (c : ColumnData) → List Token → Option (Option ScalarValue) → Option (ColumnData × List Token)
with_value_in c ws o = option_and_then (λ (v : Option ScalarValue). Some (with_value v c, ws)) o

abbrev with_word_in : (c : ColumnData) → Option (Token × List Token) → Option (ColumnData × List Token)
with_word_in c o = option_and_then (λ (word : Token × List Token). with_value_in c word.1 (optional_value_of c.dtype word.0)) o

abbrev with_text_in : List (List ℕ) → List ColumnData → Option (List ℕ) → Option (List ColumnData × List (List ℕ))
with_text_in more cs o = option_and_then (λ (text : List ℕ). before_lines more (with_values cs (words text))) o

module _ (n : ℕ) where
  behind_value : (c : ColumnData) (v : Option ScalarValue) → n ≤ length c.values → with_value v (rest_column n c) ≡ rest_column n (with_value v c)
  behind_value c v h = ap (λ (vs : List (Option ScalarValue)). let d : ColumnData = record { dtype = c.dtype; values = vs; size = 0 } in d) (sym (drop-append-le n c.values (v ∷ []) h))

  abbrev rest_taken : ColumnData × List Token → ColumnData × List Token
  rest_taken x = (rest_column n x.0, x.1)

  value_behind : (c : ColumnData) (ws : List Token) → n ≤ length c.values → (o : Option (Option ScalarValue)) → with_value_in (rest_column n c) ws o ≡ option_map rest_taken (with_value_in c ws o)
  value_behind c ws h None = refl
  value_behind c ws h (Some v) = ap (λ (x : ColumnData). Some (x, ws)) (behind_value c v h)

  word_behind : (c : ColumnData) → n ≤ length c.values → (o : Option (Token × List Token)) → with_word_in (rest_column n c) o ≡ option_map rest_taken (with_word_in c o)
  word_behind c h None = refl
  word_behind c h (Some word) = value_behind c word.1 h (optional_value_of c.dtype word.0)

  taken_behind : (c : ColumnData) (ws : List Token) → n ≤ length c.values → taken (rest_column n c) ws ≡ option_map rest_taken (taken c ws)
  taken_behind c ws h = word_behind c h (first_word ws)

  abbrev rest_columns : List ColumnData → List ColumnData
  rest_columns cs = map (rest_column n) cs

  none_behind : (o : Option (Unit {0})) → option_and_then no_columns o ≡ option_map rest_columns (option_and_then no_columns o)
  none_behind None = refl
  none_behind (Some none) = refl

  onto_behind : (d : ColumnData) (o : Option (List ColumnData)) → onto (rest_column n d) (option_map rest_columns o) ≡ option_map rest_columns (onto d o)
  onto_behind d None = refl
  onto_behind d (Some more) = refl

  row_behind : (cs : List ColumnData) → ((ws : List Token) → with_values (rest_columns cs) ws ≡ option_map rest_columns (with_values cs ws)) → (o : Option (ColumnData × List Token))
      → row_after (rest_columns cs) (option_map rest_taken o) ≡ option_map rest_columns (row_after cs o)
  row_behind cs more None = refl
  row_behind cs more (Some longer) = ap (onto (rest_column n longer.0)) (more longer.1) ∙ onto_behind longer.0 (with_values cs longer.1)

  pub values_behind : (cs : List ColumnData) (ws : List Token) → HaveRows n cs → with_values (rest_columns cs) ws ≡ option_map rest_columns (with_values cs ws)
  values_behind [] ws h = none_behind (no_word ws)
  values_behind (c ∷ cs) ws h = ap (row_after (rest_columns cs)) (taken_behind c ws h.0) ∙ row_behind cs (λ vs. values_behind cs vs h.1) (taken c ws)

  abbrev rest_first : List ColumnData × List (List ℕ) → List ColumnData × List (List ℕ)
  rest_first x = (rest_columns x.0, x.1)

  lines_behind : (more : List (List ℕ)) (o : Option (List ColumnData)) → before_lines more (option_map rest_columns o) ≡ option_map rest_first (before_lines more o)
  lines_behind more None = refl
  lines_behind more (Some longer) = refl

  text_behind : (cs : List ColumnData) (more : List (List ℕ)) → HaveRows n cs → (o : Option (List ℕ)) → with_text_in more (rest_columns cs) o ≡ option_map rest_first (with_text_in more cs o)
  text_behind cs more h None = refl
  text_behind cs more h (Some text) = ap (before_lines more) (values_behind cs (words text) h) ∙ lines_behind more (with_values cs (words text))

  pub first_behind : (cs : List ColumnData) (ls : List (List ℕ)) → HaveRows n cs → first_row (rest_columns cs) ls ≡ option_map rest_first (first_row cs ls)
  first_behind cs [] h = refl
  first_behind cs (line ∷ more) h = text_behind cs more h (when (is_utf8 line) line)

-- a first row is that of the words of a line
pub first_words : (cs ds : List ColumnData) (ls rest : List (List ℕ)) → first_row cs ls ≡ Some (ds, rest) → (ws : List Token) × (with_values cs ws ≡ Some ds)
first_words cs ds [] rest h = cc
first_words cs ds (line ∷ more) rest h =
    let last = λ (longer : List ColumnData). Some (longer, more) in
    let a = step_of (when (is_utf8 line) line) (λ (text : List ℕ). option_and_then last (with_values cs (words text))) (ds, rest) h in
    let b = step_of (with_values cs (words a.at)) last (ds, rest) a.then in
    let same = ap (λ (p : List ColumnData × List (List ℕ)). p.0) (one_made (b.at, more) (ds, rest) b.then) in
    (words a.at, b.made ∙ ap Some same)

-- ---- and the rows before it stay

-- the second column is the first with one more value
abbrev pub Extends : ColumnData → ColumnData → Type 0
Extends c d = (v : Option ScalarValue) × (d ≡ with_value v c)

taken_extends : (c d : ColumnData) (ws rest : List Token) → taken c ws ≡ Some (d, rest) → Extends c d
taken_extends c d ws rest h =
    let last = λ (after : List Token) (v : Option ScalarValue). Some (with_value v c, after) in
    let a = step_of (first_word ws) (λ (word : Token × List Token). option_and_then (last word.1) (optional_value_of c.dtype word.0)) (d, rest) h in
    let b = step_of (optional_value_of c.dtype a.at.0) (last a.at.1) (d, rest) a.then in
    (b.at, sym (ap (λ (p : ColumnData × List Token). p.0) (one_made (with_value b.at c, a.at.1) (d, rest) b.then)))

pub row_extends : (cs ds : List ColumnData) (ws : List Token) → with_values cs ws ≡ Some ds → AllZip Extends cs ds
row_extends [] [] ws h = tt
row_extends [] (d ∷ ds) ws h =
    let a = step_of (no_word ws) (λ (none : Unit {0}). Some []) (d ∷ ds) h in
    let same = one_made [] (d ∷ ds) a.then in
    cc
row_extends (c ∷ cs) ds ws h =
    let last = λ (e : ColumnData) (more : List ColumnData). Some (e ∷ more) in
    let a = step_of (taken c ws) (λ (longer : ColumnData × List Token). option_and_then (last longer.0) (with_values cs longer.1)) ds h in
    let b = step_of (with_values cs a.at.1) (last a.at.0) ds a.then in
    let P : List ColumnData → Type 0 = λ es. AllZip Extends (c ∷ cs) es in
    subst P (one_made (a.at.0 ∷ b.at) ds b.then) (taken_extends c a.at.0 ws a.at.1 a.made, row_extends cs b.at a.at.1 b.made)

pub rows_extend : (n : ℕ) (cs ds : List ColumnData) → AllZip Extends cs ds → HaveRows n cs → HaveRows n ds
rows_extend n [] [] e h = tt
rows_extend n [] (d ∷ ds) e h = absurd e
rows_extend n (c ∷ cs) [] e h = absurd e
rows_extend n (c ∷ cs) (d ∷ ds) ((v, is), e) h =
    let long : length d.values ≡ length c.values + 1 = ap (λ (x : ColumnData). length x.values) is ∙ length-append c.values (v ∷ []) in
    (omega (arith, long, h.0), rows_extend n cs ds e h.1)

column_kept : (from m : ℕ) (c d : ColumnData) → Extends c d → from + m ≤ length c.values → range_column from m d ≡ range_column from m c
column_kept from m c d (v, is) h =
    let dropped : drop from (c.values ++ v ∷ []) ≡ drop from c.values ++ v ∷ [] = drop-append-le from c.values (v ∷ []) (omega (arith, h)) in
    let enough : m ≤ length (drop from c.values) = omega (arith, h, length-drop from c.values) in
    ap (range_column from m) is
    ∙ ap (λ (vs : List (Option ScalarValue)). record { dtype = c.dtype; values = vs; size = 0 }) (ap (take m) dropped ∙ take-append-le m (drop from c.values) (v ∷ []) enough)

columns_kept : (from m n : ℕ) (cs ds : List ColumnData) → AllZip Extends cs ds → HaveRows n cs → from + m ≤ n → map (range_column from m) ds ≡ map (range_column from m) cs
columns_kept from m n [] [] e h less = refl
columns_kept from m n [] (d ∷ ds) e h less = absurd e
columns_kept from m n (c ∷ cs) [] e h less = absurd e
columns_kept from m n (c ∷ cs) (d ∷ ds) (e, es) h less =
    ap₂ (λ (x : ColumnData) (l : List ColumnData). x ∷ l) (column_kept from m c d e (omega (arith, less, h.0))) (columns_kept from m n cs ds es h.1 less)

-- what is put behind the ended rows changes no ended part
pub ranges_kept : (scope : List Named) (n from : ℕ) (cs ds : List ColumnData) (zones : List ZoneData) → AllZip Extends cs ds → HaveRows n cs → from + sum (counts_of zones) ≤ n
    → range_parts (chunk scope ds) from zones ≡ range_parts (chunk scope cs) from zones
ranges_kept scope n from cs ds [] e h less = refl
ranges_kept scope n from cs ds (z ∷ zones) e h less =
    let counts = sum_by-cons (λ (x : ℕ). x) z.rows (counts_of zones) in
    ap₂ (λ (l : List ColumnData) (ps : List PartData). record { chunk = chunk scope l; stats = z.stats } ∷ ps)
    (columns_kept from z.rows n cs ds e h (omega (arith, less, counts)))
    (ranges_kept scope n (from + z.rows) cs ds zones e h (omega (arith, less, counts)))

-- ---- more zones

pub ranges_append : (k : ChunkData) (from : ℕ) (xs ys : List ZoneData) → range_parts k from (xs ++ ys) ≡ range_parts k from xs ++ range_parts k (from + sum (counts_of xs)) ys
ranges_append k from [] ys = let none : from + sum [] ≡ from = omega arith in ap (λ n. range_parts k n ys) (sym none)
ranges_append k from (x ∷ xs) ys =
    let counts : (from + x.rows) + sum (counts_of xs) ≡ from + sum (counts_of (x ∷ xs)) = omega (arith, sum_by-cons (λ (n : ℕ). n) x.rows (counts_of xs)) in
    let first : PartData = record { chunk = range_chunk k from x.rows; stats = x.stats } in
    ap (λ (l : List PartData). first ∷ l) (ranges_append k (from + x.rows) xs ys ∙ ap (λ n. range_parts k (from + x.rows) xs ++ range_parts k n ys) counts)

pub counts_append : (xs ys : List ZoneData) → sum (counts_of (xs ++ ys)) ≡ sum (counts_of xs) + sum (counts_of ys)
counts_append [] ys = omega arith
counts_append (x ∷ xs) ys =
    omega (arith, counts_append xs ys, sum_by-cons (λ (n : ℕ). n) x.rows (counts_of (xs ++ ys)), sum_by-cons (λ (n : ℕ). n) x.rows (counts_of xs))

pub ranges_long : (k : ChunkData) (from : ℕ) (zones : List ZoneData) → length (range_parts k from zones) ≡ length zones
ranges_long k from [] = refl
ranges_long k from (z ∷ zones) = ap suc (ranges_long k (from + z.rows) zones)

-- ---- the open part ends

rest_range : (from last : ℕ) (cs : List ColumnData) → AreLong last cs → map (range_column from (last - from)) cs ≡ map (rest_column from) cs
rest_range from last [] h = refl
rest_range from last (c ∷ cs) h =
    let all : length (drop from c.values) ≤ last - from = omega (arith, length-drop from c.values, h.0) in
    ap₂ (λ (vs : List (Option ScalarValue)) (l : List ColumnData). record { dtype = c.dtype; values = vs; size = 0 } ∷ l) (take_all (last - from) (drop from c.values) all) (rest_range from last cs h.1)

equal_numbers : (m n : ℕ) → (m == n) ≡ true → m ≡ n
equal_numbers m n h = grind (arith, nat_tests)

are_long : (n : ℕ) (cs : List ColumnData) → all_long n cs ≡ true → AreLong n cs
are_long n [] h = tt
are_long n (c ∷ cs) h = let both = both_true (length c.values == n) (all_long n cs) h in (equal_numbers (length c.values) n both.0, are_long n cs both.1)

pub long_at_last : (from : ℕ) (cs : List ColumnData) → all_long (row_count cs) cs ≡ true → AreLong (last_row from cs) cs
long_at_last from [] h = tt
long_at_last from (c ∷ cs) h = are_long (length c.values) (c ∷ cs) h

pub last_behind : (from : ℕ) (cs : List ColumnData) → HaveRows from cs → from ≤ last_row from cs
last_behind from [] h = omega arith
last_behind from (c ∷ cs) h = h.0

pub rows_of_long : (n : ℕ) (cs : List ColumnData) → AreLong n cs → HaveRows n cs
rows_of_long n [] h = tt
rows_of_long n (c ∷ cs) h = (omega (arith, h.0), rows_of_long n cs h.1)

pub ranges_ended : (k : ChunkData) (from last : ℕ) (zones : List ZoneData) (sets : List Entries) → sum (counts_of zones) ≡ from → AreLong last k.columns
    → range_parts k 0 (zones ++ record { rows = last - from; stats = sets } ∷ [])
    ≡ range_parts k 0 zones ++ record { chunk = record { scope = k.scope; columns = map (rest_column from) k.columns }; stats = sets } ∷ []
ranges_ended k from last zones sets counted long =
    let zone : ZoneData = record { rows = last - from; stats = sets } in
    let start : 0 + sum (counts_of zones) ≡ from = omega (arith, counted) in
    ranges_append k 0 zones (zone ∷ [])
    ∙ ap (λ n. range_parts k 0 zones ++ range_parts k n (zone ∷ [])) start
    ∙ ap (λ (l : List ColumnData). range_parts k 0 zones ++ record { chunk = record { scope = k.scope; columns = l }; stats = sets } ∷ []) (rest_range from last k.columns long)

-- ---- a part begins

pub rest_is_empty : (scope : List Named) (n : ℕ) (cs : List ColumnData) → has_types scope cs ≡ true → AreLong n cs → map (rest_column n) cs ≡ map empty_column scope
rest_is_empty [] n [] h long = refl
rest_is_empty [] n (c ∷ cs) h long = absurd cc
rest_is_empty (s ∷ ss) n [] h long = absurd cc
rest_is_empty (s ∷ ss) n (c ∷ cs) h long =
    let both = both_true _ _ h in
    let type : s.1 ≡ c.dtype = (dtype_eq_is_exact s.1 c.dtype).0 both.0 in
    let none : drop n c.values ≡ [] = drop_all n c.values (omega (arith, long.0)) in
    ap₂ (λ (t : DType) (vs : List (Option ScalarValue)). record { dtype = t; values = vs; size = 0 } ∷ map (rest_column n) cs) (sym type) none
    ∙ ap (λ (l : List ColumnData). empty_column s ∷ l) (rest_is_empty ss n cs both.1 long.1)

pub range_types : (scope : List Named) (from n : ℕ) (cs : List ColumnData) → has_types scope (map (range_column from n) cs) ≡ has_types scope cs
range_types [] from n [] = refl
range_types [] from n (c ∷ cs) = refl
range_types (s ∷ ss) from n [] = refl
range_types (s ∷ ss) from n (c ∷ cs) = ap (λ b. dtype_eq s.1 c.dtype && b) (range_types ss from n cs)

pub untold_sets : (scope : List Named) → replicate (length scope) [] ≡ map no_entries scope
untold_sets [] = refl
untold_sets (s ∷ ss) = ap (λ (l : List Entries). [] ∷ l) (untold_sets ss)

pub rest_of_empty : (scope : List Named) → map (rest_column 0) (map empty_column scope) ≡ map empty_column scope
rest_of_empty [] = refl
rest_of_empty (s ∷ ss) = ap (λ (l : List ColumnData). empty_column s ∷ l) (rest_of_empty ss)

-- ---- two neighbours become one

both_columns : (from a b : ℕ) (cs : List ColumnData) → all_appended (map (range_column from a) cs) (map (range_column (from + a) b) cs) ≡ map (range_column from (a + b)) cs
both_columns from a b [] = refl
both_columns from a b (c ∷ cs) =
    let values : take a (drop from c.values) ++ take b (drop (from + a) c.values) ≡ take (a + b) (drop from c.values) =
    ap (λ (l : List (Option ScalarValue)). take a (drop from c.values) ++ take b l) (sym (drop-drop a from c.values)) ∙ sym (take-add a b (drop from c.values))
    in
    ap₂ (λ (vs : List (Option ScalarValue)) (l : List ColumnData). record { dtype = c.dtype; values = vs; size = 0 } ∷ l) values (both_columns from a b cs)

abbrev pub both_zones : ZoneData → ZoneData → ZoneData
both_zones x y = record { rows = x.rows + y.rows; stats = merged_sets x.stats y.stats }

pub ranges_both : (k : ChunkData) (f : List ZoneData) (x y : ZoneData) (rest : List ZoneData)
    → (front : List PartData) × (p : PartData) × (q : PartData) × (back : List PartData) × (length front ≡ length f)
    × (range_parts k 0 (f ++ x ∷ y ∷ rest) ≡ front ++ p ∷ q ∷ back) × (range_parts k 0 (f ++ both_zones x y ∷ rest) ≡ front ++ joined p q ∷ back)
ranges_both k f x y rest =
    let n = 0 + sum (counts_of f) in
    let front = range_parts k 0 f in
    let p : PartData = record { chunk = range_chunk k n x.rows; stats = x.stats } in
    let q : PartData = record { chunk = range_chunk k (n + x.rows) y.rows; stats = y.stats } in
    let back = range_parts k (n + x.rows + y.rows) rest in
    let behind : n + (x.rows + y.rows) ≡ n + x.rows + y.rows = omega arith in (
      front,
      p,
      q,
      back,
      ranges_long k 0 f,
      ranges_append k 0 f (x ∷ y ∷ rest),
      ranges_append k 0 f (both_zones x y ∷ rest)
          ∙ ap₂ (λ (l : List ColumnData) (m : ℕ). front ++ record { chunk = chunk k.scope l; stats = merged_sets x.stats y.stats } ∷ range_parts k m rest) (sym (both_columns n x.rows y.rows k.columns)) behind,
    )
