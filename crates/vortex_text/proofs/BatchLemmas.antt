-- What is found in parts behind other parts is what is found in them alone, with raised places.
use Rattle.std.proofs.Common.{◌≡◌, ◌<◌, ◌≤◌, ◌+◌, ◌^◌, ℕ, suc, Bool, true, false, List, [], ◌∷◌, ◌++◌, All, Option, map, length, refl, sym, ap, subst, ◌∙◌, append_assoc, arith, inl, inr}
use Rattle.std.proofs.lemmas.Bool.{cases_Bool}
use Rattle.std.proofs.lemmas.List.{length-map, map-append}
use Rattle.std.proofs.lemmas.List.Elements.{All-append, All-cons, All-map, All-nil, All-weaker}
use Rattle.std.specs.List.{enumerate_from, filter, range_with_len}
use Rattle.vortex_base.specs.Data.Columns.{row_count as rows_of}
use Rattle.vortex_expr.specs.Trees.Tree.{Place, Tree}
use Rattle.vortex_rewrite.proofs.Completeness.Choices.{all_back, all_front}
use Rattle.vortex_prune.proofs.Scanning.ScanLemmas.{collected, passing_collected}
use Rattle.vortex_prune.specs.Part.{IsTruePart, PartData}
use Rattle.vortex_rewrite.specs.Rewriting.Falsifiers.{falsifier, satisfier}
use Rattle.vortex_rewrite.specs.Rewriting.Proof.{Assignment}
use Rattle.vortex_prune.specs.Scanning.Selection.{Answered, full, is_proved, is_whole, place_if, rows_by, satisfying, satisfying_rows, selected_rows, skipped_parts, verdict, whole_parts}
use Rattle.vortex_prune.specs.declared.scan.outcome.RangeScan.{RangeScan}
use Rattle.vortex_text.specs.Batches.{CanRise, CanRiseRows, IsFoundIn, raised, raised_row}
use Rattle.vortex_text.specs.Program.{by_statistics, selected, skipped, whole}

-- ---- lists made of the elements of a list and their places

module _ {X Y : Type 0} (f : ℕ → X → List Y) where
  collected-append : (m : ℕ) (xs ys : List X) → collected f m (xs ++ ys) ≡ collected f m xs ++ collected f (m + length xs) ys
  collected-append m [] ys =
      let here : m ≡ m + 0 = omega arith in
      ap (λ k. collected f k ys) here
  collected-append m (x ∷ xs) ys =
      let next : m + 1 + length xs ≡ m + suc (length xs) = omega arith in
      ap (λ l. f m x ++ l) (collected-append (m + 1) xs ys ∙ ap (λ k. collected f (m + 1) xs ++ collected f k ys) next)
      ∙ sym (append_assoc (f m x) (collected f (m + 1) xs) (collected f (m + suc (length xs)) ys))

  module _ (raise : ℕ → Y → Y) (rises : (n m : ℕ) (x : X) → f (n + m) x ≡ map (raise n) (f m x)) where
    collected-raised : (n m : ℕ) (xs : List X) → collected f (n + m) xs ≡ map (raise n) (collected f m xs)
    collected-raised n m [] = refl
    collected-raised n m (x ∷ xs) =
        let next : n + m + 1 ≡ n + (m + 1) = omega arith in
        ap (λ l. l ++ collected f (n + m + 1) xs) (rises n m x)
        ∙ ap (λ k. map (raise n) (f m x) ++ collected f k xs) next
        ∙ ap (λ l. map (raise n) (f m x) ++ l) (collected-raised n (m + 1) xs)
        ∙ sym (map-append (raise n) (f m x) (collected f (m + 1) xs))

    -- behind n elements the places are raised by n
    pub collected_behind : (n : ℕ) (xs ys : List X) → length xs ≡ n → collected f 0 (xs ++ ys) ≡ collected f 0 xs ++ map (raise n) (collected f 0 ys)
    collected_behind n xs ys long =
        let place : 0 + length xs ≡ n + 0 = omega (arith, long) in
        collected-append 0 xs ys ∙ ap (λ k. collected f 0 xs ++ collected f k ys) place ∙ ap (λ l. collected f 0 xs ++ l) (collected-raised n 0 ys)

  module _ (place : Y → ℕ) (stands : (m : ℕ) (x : X) → All (λ y. place y ≡ m) (f m x)) where
    below : (k m : ℕ) (xs : List X) → m + length xs ≤ k → All (λ y. place y < k) (collected f m xs)
    below k m [] h = All-nil (λ y. place y < k)
    below k m (x ∷ xs) h =
        All-append (λ y. place y < k) (f m x) (collected f (m + 1) xs)
        (All-weaker (λ y. place y ≡ m) (λ y. place y < k) (λ y is. omega (arith, is, h)) (f m x) (stands m x))
        (below k (m + 1) xs (omega (arith, h)))

    -- each place is one of the list
    pub collected_below : (xs : List X) → All (λ y. place y < length xs) (collected f 0 xs)
    collected_below xs = below (length xs) 0 xs (omega arith)

-- ---- the places of parts

place_rises : (b : Bool) (n m : ℕ) → place_if b (n + m) ≡ map (raised n) (place_if b m)
place_rises true n m = refl
place_rises false n m = refl

place_stands : (b : Bool) (m : ℕ) → All (λ i. i ≡ m) (place_if b m)
place_stands true m = All-cons (λ i. i ≡ m) m [] refl (All-nil (λ i. i ≡ m))
place_stands false m = All-nil (λ i. i ≡ m)

module _ {X : Type 0} (test : X → Bool) where
  abbrev passing : ℕ → List X → List ℕ
  passing m xs = map (λ e. e.0) (filter (λ e. test e.1) (enumerate_from m xs))

  passing_behind : (n : ℕ) (xs ys : List X) → length xs ≡ n → passing 0 (xs ++ ys) ≡ passing 0 xs ++ map (raised n) (passing 0 ys)
  passing_behind n xs ys long =
      let one : ℕ → X → List ℕ = λ i x. place_if (test x) i in
      passing_collected test 0 (xs ++ ys)
      ∙ collected_behind one raised (λ k m x. place_rises (test x) k m) n xs ys long
      ∙ ap (λ l. l ++ map (raised n) (collected one 0 ys)) (sym (passing_collected test 0 xs))
      ∙ ap (λ l. passing 0 xs ++ map (raised n) l) (sym (passing_collected test 0 ys))

  passing_below : (xs : List X) → All (λ i. i < length xs) (passing 0 xs)
  passing_below xs =
      subst (λ l. All (λ i. i < length xs) l) (sym (passing_collected test 0 xs))
      (collected_below (λ i x. place_if (test x) i) (λ i. i) (λ m x. place_stands (test x) m) xs)

-- ---- their rows

pairs_rise : (n m : ℕ) (rows : List ℕ) → map (λ i. (n + m, i)) rows ≡ map (raised_row n) (map (λ i. (m, i)) rows)
pairs_rise n m [] = refl
pairs_rise n m (i ∷ rows) = ap (λ l. (n + m, i) ∷ l) (pairs_rise n m rows)

rows_rise : (f s : Option (Tree Place)) (part : PartData) (A : Assignment) (p : Tree Place) (n m : ℕ)
    → rows_by (verdict f s part A) p (n + m) part.chunk ≡ map (raised_row n) (rows_by (verdict f s part A) p m part.chunk)
rows_rise f s part A p n m =
    elim (cases_Bool (is_proved f part A)) [
      | inl skipped ↦ rw skipped refl
      | inr kept ↦ elim (cases_Bool (is_proved s part A)) [
        | inl whole ↦ rw (kept, whole) (pairs_rise n m (range_with_len 0 (rows_of part.chunk.columns)))
        | inr tested ↦ rw (kept, tested) (pairs_rise n m (satisfying p part.chunk))
      ]
    ]

pairs_stand : (m : ℕ) (rows : List ℕ) → All (λ (r : ℕ × ℕ). r.0 ≡ m) (map (λ i. (m, i)) rows)
pairs_stand m rows = All-map (λ (r : ℕ × ℕ). r.0 ≡ m) (λ i. (m, i)) rows (λ k d h. refl)

rows_stand : (f s : Option (Tree Place)) (part : PartData) (A : Assignment) (p : Tree Place) (m : ℕ) → All (λ (r : ℕ × ℕ). r.0 ≡ m) (rows_by (verdict f s part A) p m part.chunk)
rows_stand f s part A p m =
    elim (cases_Bool (is_proved f part A)) [
      | inl skipped ↦ rw skipped (All-nil (λ (r : ℕ × ℕ). r.0 ≡ m))
      | inr kept ↦ elim (cases_Bool (is_proved s part A)) [
        | inl whole ↦ rw (kept, whole) (pairs_stand m (range_with_len 0 (rows_of part.chunk.columns)))
        | inr tested ↦ rw (kept, tested) (pairs_stand m (satisfying p part.chunk))
      ]
    ]

-- ---- what is found

module _ (p : Tree Place) where
  abbrev f : Option (Tree Place)
  f = falsifier [] p

  abbrev s : Option (Tree Place)
  s = satisfier [] p

  abbrev whole_test : Answered → Bool
  whole_test e = is_whole (verdict f s e.0 e.1)

  abbrev rows_found : ℕ → Answered → List (ℕ × ℕ)
  rows_found i e = rows_by (verdict f s e.0 e.1) p i e.0.chunk

  answered_both : (xs ys : List PartData) → map by_statistics (xs ++ ys) ≡ map by_statistics xs ++ map by_statistics ys
  answered_both xs ys = map-append by_statistics xs ys

  answered_long : (n : ℕ) (xs : List PartData) → length xs ≡ n → length (map by_statistics xs) ≡ n
  answered_long n xs long = length-map xs by_statistics ∙ long

  skipped_behind : (n : ℕ) (xs ys : List PartData) → length xs ≡ n → skipped p (xs ++ ys) ≡ skipped p xs ++ map (raised n) (skipped p ys)
  skipped_behind n xs ys long =
      ap (skipped_parts f) (answered_both xs ys)
      ∙ passing_behind (λ e. is_proved f e.0 e.1) n (map by_statistics xs) (map by_statistics ys) (answered_long n xs long)

  whole_behind : (n : ℕ) (xs ys : List PartData) → length xs ≡ n → whole p (xs ++ ys) ≡ whole p xs ++ map (raised n) (whole p ys)
  whole_behind n xs ys long =
      ap (whole_parts f s) (answered_both xs ys)
      ∙ passing_behind whole_test n (map by_statistics xs) (map by_statistics ys) (answered_long n xs long)

  selected_behind : (n : ℕ) (xs ys : List PartData) → length xs ≡ n → selected p (xs ++ ys) ≡ selected p xs ++ map (raised_row n) (selected p ys)
  selected_behind n xs ys long =
      ap (selected_rows f s p) (answered_both xs ys)
      ∙ collected_behind rows_found raised_row (λ k m e. rows_rise f s e.0 e.1 p k m) n (map by_statistics xs) (map by_statistics ys) (answered_long n xs long)

  full_behind : (n : ℕ) (xs ys : List PartData) → length xs ≡ n → full p (xs ++ ys) ≡ full p xs ++ map (raised_row n) (full p ys)
  full_behind n xs ys long =
      collected_behind (λ i (e : PartData). satisfying_rows p i e.chunk) raised_row (λ k m e. pairs_rise k m (satisfying p e.chunk)) n xs ys long

  -- what was found in some parts, with what is found in those behind them
  pub found_behind : (n : ℕ) (xs ys : List PartData) (old more new : RangeScan) → length xs ≡ n → IsFoundIn p xs old → IsFoundIn p ys more
      → new.skipped.items ≡ old.skipped.items ++ map (raised n) more.skipped.items
      → new.whole.items ≡ old.whole.items ++ map (raised n) more.whole.items
      → new.selected ≡ old.selected ++ map (raised_row n) more.selected
      → IsFoundIn p (xs ++ ys) new
  found_behind n xs ys old more new long first second skips wholes rows = record {
    skipped = skips ∙ ap (λ l. l ++ map (raised n) more.skipped.items) first.skipped ∙ ap (λ l. skipped p xs ++ map (raised n) l) second.skipped ∙ sym (skipped_behind n xs ys long);
    whole = wholes ∙ ap (λ l. l ++ map (raised n) more.whole.items) first.whole ∙ ap (λ l. whole p xs ++ map (raised n) l) second.whole ∙ sym (whole_behind n xs ys long);
    selected = rows ∙ ap (λ l. l ++ map (raised_row n) more.selected) first.selected ∙ ap (λ l. selected p xs ++ map (raised_row n) l) second.selected ∙ sym (selected_behind n xs ys long);
    lossless = λ true_parts.
        rows ∙ ap (λ l. l ++ map (raised_row n) more.selected) (first.lossless (all_front IsTruePart xs ys true_parts))
        ∙ ap (λ l. full p xs ++ map (raised_row n) l) (second.lossless (all_back IsTruePart xs ys true_parts))
        ∙ sym (full_behind n xs ys long);
  }

  -- ---- the places fit

  module _ (n : ℕ) (ys : List PartData) (more : RangeScan) (few : n + length ys < 2 ^ 64) (found : IsFoundIn p ys more) where
    long : length (map by_statistics ys) ≡ length ys
    long = length-map ys by_statistics

    fits : (i : ℕ) → i < length (map by_statistics ys) → n + i < 2 ^ 64
    fits i h = omega (arith, h, long, few)

    pub skipped_rise : CanRise n more.skipped.items
    skipped_rise =
        subst (CanRise n) (sym found.skipped)
        (All-weaker (λ i. i < length (map by_statistics ys)) (λ i. n + i < 2 ^ 64) fits (skipped p ys) (passing_below (λ e. is_proved f e.0 e.1) (map by_statistics ys)))

    pub whole_rise : CanRise n more.whole.items
    whole_rise =
        subst (CanRise n) (sym found.whole)
        (All-weaker (λ i. i < length (map by_statistics ys)) (λ i. n + i < 2 ^ 64) fits (whole p ys) (passing_below whole_test (map by_statistics ys)))

    pub selected_rise : CanRiseRows n more.selected
    selected_rise =
        subst (CanRiseRows n) (sym found.selected)
        (All-weaker (λ (r : ℕ × ℕ). r.0 < length (map by_statistics ys)) (λ r. n + r.0 < 2 ^ 64) (λ r h. fits r.0 h) (selected p ys)
        (collected_below rows_found (λ r. r.0) (λ m e. rows_stand f s e.0 e.1 p m) (map by_statistics ys)))
