-- Predicates that are satisfied by the same rows select the same rows of parts.
use Rattle.std.proofs.Common.{◌≡◌, ◌<◌, ◌+◌, ℕ, zero, suc, Bool, true, false, not as not_b, ◌||◌, List, [], ◌∷◌, ◌++◌, IsTrue, map, refl, ap, ap₂, ◌∙◌, arith, if◌then◌else◌}
use Rattle.std.specs.Prelude.{is_none, Some, Result, Ok, Err, IfOk}
use Rattle.std.proofs.Common.{length, get_or}
use Rattle.std.specs.List.{AllByRecursion, enumerate_from, filter, flat_map, range_with_len}
use Rattle.std.proofs.lemmas.Bool.{and_parts, or_parts, not-true}
use Rattle.vortex_base.proofs.Data.RowLemmas.{row_of-IsRow}
use Rattle.vortex_expr.proofs.Meanings.RowsFit.{rows-fit}
use Rattle.vortex_base.specs.Data.Columns.{ChunkData, IsChunk, row_of, row_count as rows_of}
use Rattle.vortex_base.specs.Data.Scalars.{Constant}
use Rattle.vortex_expr.specs.Meanings.Fitting.{fits_scope}
use Rattle.vortex_expr.specs.Meanings.Meaning.{applied, is_true, liked, meaning, opposite, satisfies, truth, truth_value, within}
use Rattle.vortex_expr.specs.Trees.Tree.{Tree, Place, column, literal, binary, between, is_null, is_not_null, not, like, stat, row_count, has_placeholder, has_row_count, is_plain}
use Rattle.vortex_base.specs.declared.scalar_value.ScalarValue.TheVariants as value
use Rattle.vortex_prune.specs.Part.{AreParts, PartData}
use Rattle.vortex_prune.specs.Scanning.Selection.{full, satisfying_rows}
use Rattle.vortex_normal.specs.Same.{Same}
use Rattle.vortex_predicates.specs.Full.{IsFitted, SameSelectsTheSame}

-- without row counts, the number of rows doesn't matter
module _ (row : List Constant) (n m : ℕ) where
  pub any_count : (e : Tree Place) → has_row_count e ≡ false → meaning e row n ≡ meaning e row m
  any_count (column c) h = refl
  any_count (literal c) h = refl
  any_count (binary o l r) h =
      let a = or_parts (has_row_count l) (has_row_count r) h in
      ap₂ (λ u v. truth_value (applied o u v)) (any_count l a.0) (any_count r a.1)
  any_count (between o x l u) h =
      let a = or_parts (has_row_count x) (has_row_count l || has_row_count u) h in
      let b = or_parts (has_row_count l) (has_row_count u) a.1 in
      let ex = any_count x a.0 in
      let el = any_count l b.0 in
      let eu = any_count u b.1 in
      λ i. truth_value (within o (ex i) (el i) (eu i))
  any_count (is_null x) h = ap (λ v. Some (value.Bool (is_none v))) (any_count x h)
  any_count (is_not_null x) h = ap (λ v. Some (value.Bool (not_b (is_none v)))) (any_count x h)
  any_count (not x) h = ap (λ v. truth_value (opposite (truth v))) (any_count x h)
  any_count (like o x p) h =
      let a = or_parts (has_row_count x) (has_row_count p) h in
      ap₂ (λ u v. truth_value (liked o u v)) (any_count x a.0) (any_count p a.1)
  any_count (stat f x) h = refl
  any_count row_count h = cc

pub no_count : (p : Tree Place) → is_plain p ≡ true → has_row_count p ≡ false
no_count p h = not-true (has_row_count p) (and_parts (not_b (has_placeholder p)) (not_b (has_row_count p)) h).1

passing : (test other : ℕ → Bool) (a n : ℕ) → ((i : ℕ) → i < a + n → test i ≡ other i) → filter test (range_with_len a n) ≡ filter other (range_with_len a n)
passing test other a zero same = refl
passing test other a (suc n) same =
    ap (λ (b : Bool). if b then a ∷ filter test (range_with_len (a + 1) n) else filter test (range_with_len (a + 1) n)) (same a (omega arith))
    ∙ ap (λ l. if other a then a ∷ l else l) (passing test other (a + 1) n (λ i h. same i (omega arith)))

module _ (p q : Tree Place) (plain_p : is_plain p ≡ true) (plain_q : is_plain q ≡ true) (same : Same p q) where
  pub at_row : (k : ChunkData) (i : ℕ) → IsChunk k → IsTrue (fits_scope p k.scope) → i < rows_of k.columns → satisfies q (row_of i k.columns) (rows_of k.columns) ≡ satisfies p (row_of i k.columns) (rows_of k.columns)
  at_row k i chunk fits here =
      let row = row_of i k.columns in
      ap is_true (any_count row (rows_of k.columns) 0 q (no_count q plain_q))
      ∙ same row 0 (row_of-IsRow k i chunk here) (rows-fit p k i chunk fits) (omega arith)
      ∙ ap is_true (any_count row 0 (rows_of k.columns) p (no_count p plain_p))

  one_part : (place : ℕ) (part : PartData) → IsFitted p part → satisfying_rows q place part.chunk ≡ satisfying_rows p place part.chunk
  one_part place part h =
      ap (map {B = ℕ × ℕ} (λ i. (place, i)))
      (passing (λ i. satisfies q (row_of i part.chunk.columns) (rows_of part.chunk.columns)) (λ i. satisfies p (row_of i part.chunk.columns) (rows_of part.chunk.columns)) 0 (rows_of part.chunk.columns)
      (λ i here. at_row part.chunk i h.0.0 h.1 (omega arith)))

  all_parts : (place : ℕ) (parts : List PartData) → AllByRecursion (IsFitted p) parts
      → flat_map (λ e. satisfying_rows q e.0 e.1.chunk) (enumerate_from place parts) ≡ flat_map (λ e. satisfying_rows p e.0 e.1.chunk) (enumerate_from place parts)
  all_parts place [] h = refl
  all_parts place (part ∷ parts) h = ap₂ (λ (k l : List (ℕ × ℕ)). k ++ l) (one_part place part h.0) (all_parts (place + 1) parts h.1)

pub same_selects_the_same : SameSelectsTheSame
same_selects_the_same p q parts plain_p plain_q same h = all_parts p q plain_p plain_q same 0 parts h

all_fitted : (p : Tree Place) (parts : List PartData) → AreParts parts → ((k : ℕ) (d : PartData) → k < length parts → IsTrue (fits_scope p (get_or parts k d).chunk.scope)) → AllByRecursion (IsFitted p) parts
all_fitted p [] are fits = tt
all_fitted p (part ∷ parts) are fits = (
  (are 0 part refl, fits 0 part (omega arith)),
  all_fitted p parts (λ i q e. are (suc i) q e) (λ k d h. fits (suc k) d (omega arith)),
)

pub full_of_same : (p q : Tree Place) (parts : List PartData) → IsTrue (is_plain p) → IsTrue (is_plain q) → Same p q → AreParts parts
    → ((k : ℕ) (d : PartData) → k < length parts → IsTrue (fits_scope p (get_or parts k d).chunk.scope)) → full q parts ≡ full p parts
full_of_same p q parts plain_p plain_q same are fits = same_selects_the_same p q parts plain_p plain_q same (all_fitted p parts are fits)

pub if_ok_both : {A E : Type 0} (P Q R : A → Type 0) (r : Result A E) → ((a : A) → P a → Q a → R a) → IfOk r P → IfOk r Q → IfOk r R
if_ok_both P Q R (Ok a) f h k = f a h k
if_ok_both P Q R (Err e) f h k = tt
