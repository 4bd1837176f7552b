-- The rows that satisfy a predicate are found block by block.
use Rattle.std.proofs.Common.{◌≡◌, ◌<◌, ℕ, zero, suc, Bool, true, false, List, [], ◌∷◌, ◌++◌, append_assoc, append-nil, arith, cond, get_or, length, map, refl, sym, take, ap, ◌∙◌, ◌+◌}
use Rattle.std.specs.Prelude.{replicate}
use Rattle.std.specs.List.{filter, range_with_len}
use Rattle.std.proofs.lemmas.List.{map-append, map-id}
use Rattle.std.proofs.lemmas.List.Elements.{filter-append}
use Rattle.std.proofs.lemmas.List.FromFn.{map-range_with_len_more}
use Rattle.vortex_prune.specs.Scanning.Marks.{marked, marked_rows}
use Rattle.vortex_prune.specs.Scanning.Selection.{row_if}

-- ---- the rows below a place that pass a test, as pairs for the part at a place

abbrev pub rows_below : (ℕ → Bool) → (place n : ℕ) → List (ℕ × ℕ)
rows_below test place n = map (λ i. (place, i)) (filter test (range_with_len 0 n))

range_more : (n : ℕ) → range_with_len 0 (n + 1) ≡ range_with_len 0 n ++ n ∷ []
range_more n = sym (map-id (range_with_len 0 (n + 1))) ∙ map-range_with_len_more (λ i. i) 0 n n (omega arith) ∙ ap (λ l. l ++ n ∷ []) (map-id (range_with_len 0 n))

pairs_if : (b : Bool) (place n : ℕ) → map (λ i. (place, i)) (cond b (n ∷ []) []) ≡ row_if b place n
pairs_if true place n = refl
pairs_if false place n = refl

rows_more : (test : ℕ → Bool) (place n : ℕ) → rows_below test place (n + 1) ≡ rows_below test place n ++ row_if (test n) place n
rows_more test place n =
    ap (λ l. map {B = ℕ × ℕ} (λ i. (place, i)) (filter test l)) (range_more n)
    ∙ ap (map {B = ℕ × ℕ} (λ i. (place, i))) (filter-append test (range_with_len 0 n) (n ∷ []))
    ∙ map-append {B = ℕ × ℕ} (λ i. (place, i)) (filter test (range_with_len 0 n)) (filter test (n ∷ []))
    ∙ ap (λ l. rows_below test place n ++ l) (pairs_if (test n) place n)

-- ---- rows by their marks

marked_next : (place from k : ℕ) (ms : List Bool) (d : Bool) → k < length ms → marked_rows place from (take k ms) ++ row_if (get_or ms k d) place (from + k) ≡ marked_rows place from (take (suc k) ms)
marked_next place from k [] d h = absurd (omega (arith, h))
marked_next place from zero (b ∷ bs) d h = ap (row_if b place) (omega arith) ∙ sym (append-nil (row_if b place from))
marked_next place from (suc k) (b ∷ bs) d h =
    let there : from + suc k ≡ (from + 1) + k = omega arith in
    append_assoc (row_if b place from) (marked_rows place (from + 1) (take k bs)) (row_if (get_or bs k d) place (from + suc k))
    ∙ ap (λ n. row_if b place from ++ (marked_rows place (from + 1) (take k bs) ++ row_if (get_or bs k d) place n)) there
    ∙ ap (λ l. row_if b place from ++ l) (marked_next place (from + 1) k bs d (omega (arith, h)))

marked_more : (place from k : ℕ) (ms : List Bool) (d : Bool) → k < length ms → marked_rows place from (take k ms) ++ row_if (get_or ms k d) place (from + k) ≡ marked_rows place from (take (k + 1) ms)
marked_more place from k ms d h =
    let more : suc k ≡ k + 1 = omega arith in
    marked_next place from k ms d h ∙ ap (λ n. marked_rows place from (take n ms)) more

rows_of_block : (test : ℕ → Bool) (place from n : ℕ) → rows_below test place from ++ marked_rows place from (marked test from (replicate n true)) ≡ rows_below test place (from + n)
rows_of_block test place from zero =
    let end : from ≡ from + 0 = omega arith in
    append-nil (rows_below test place from) ∙ ap (rows_below test place) end
rows_of_block test place from (suc n) =
    let end : (from + 1) + n ≡ from + suc n = omega arith in
    sym (append_assoc (rows_below test place from) (row_if (test from) place from) (marked_rows place (from + 1) (marked test (from + 1) (replicate n true))))
    ∙ ap (λ l. l ++ marked_rows place (from + 1) (marked test (from + 1) (replicate n true))) (sym (rows_more test place from))
    ∙ rows_of_block test place (from + 1) n ∙ ap (rows_below test place) end

-- one more of them
pub marked_added : (place from k : ℕ) (ms : List Bool) (xs ys : List (ℕ × ℕ)) (d : Bool) → k < length ms → xs ≡ ys ++ marked_rows place from (take k ms)
    → xs ++ row_if (get_or ms k d) place (from + k) ≡ ys ++ marked_rows place from (take (k + 1) ms)
marked_added place from k ms xs ys d h is =
    ap (λ l. l ++ row_if (get_or ms k d) place (from + k)) is ∙ append_assoc ys (marked_rows place from (take k ms)) (row_if (get_or ms k d) place (from + k))
    ∙ ap (λ l. ys ++ l) (marked_more place from k ms d h)

-- those of a block, behind the rows below it
pub block_added : (test : ℕ → Bool) (place from n to : ℕ) (xs ys zs : List (ℕ × ℕ)) → to ≡ from + n → zs ≡ ys ++ rows_below test place from
    → xs ≡ zs ++ marked_rows place from (marked test from (replicate n true)) → xs ≡ ys ++ rows_below test place to
block_added test place from n to xs ys zs end before is =
    is ∙ ap (λ l. l ++ marked_rows place from (marked test from (replicate n true))) before
    ∙ append_assoc ys (rows_below test place from) (marked_rows place from (marked test from (replicate n true)))
    ∙ ap (λ l. ys ++ l) (rows_of_block test place from n ∙ ap (rows_below test place) (sym end))

-- ---- all rows below a place

abbrev pub pairs_below : (place n : ℕ) → List (ℕ × ℕ)
pairs_below place n = map (λ i. (place, i)) (range_with_len 0 n)

-- one more of them
pub pair_added : (place n : ℕ) (xs ys : List (ℕ × ℕ)) → xs ≡ ys ++ pairs_below place n → xs ++ (place, n) ∷ [] ≡ ys ++ pairs_below place (n + 1)
pair_added place n xs ys h =
    ap (λ l. l ++ (place, n) ∷ []) h ∙ append_assoc ys (pairs_below place n) ((place, n) ∷ [])
    ∙ ap (λ l. ys ++ l) (sym (ap (map {B = ℕ × ℕ} (λ i. (place, i))) (range_more n) ∙ map-append {B = ℕ × ℕ} (λ i. (place, i)) (range_with_len 0 n) (n ∷ [])))
