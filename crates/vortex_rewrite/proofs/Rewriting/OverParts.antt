-- The parts of an expression over a chunk are over it, and its texts are UTF-8.
use Rattle.std.proofs.Common.{◌≡◌, ℕ, Bool, true, false, not, ◌&&◌, ◌||◌, Option, Some, None, refl, sym, ap, ◌∙◌, arith}
use Rattle.std.specs.Prelude.{◌<◌, Result, Ok, Err, IsOk, if◌then◌else◌}
use Rattle.std.proofs.lemmas.Bool.{and_parts}
use Rattle.vortex_expr.proofs.Meanings.MeaningFits.{meaning-fits}
use Rattle.vortex_expr.proofs.Meanings.PlacedTypes.{with_types-ok}
use Rattle.vortex_base.proofs.Data.RowLemmas.{row_of-IsRow}
use Rattle.vortex_expr.proofs.Meanings.RowsFit.{rows-fit}
use Rattle.vortex_expr.specs.Trees.Between.{to_operator}
use Rattle.vortex_base.specs.Data.Columns.{ChunkData, IsChunk, row_count as rows_of, row_of}
use Rattle.vortex_base.specs.Data.Exact.{both_hold}
use Rattle.vortex_expr.specs.Meanings.Fitting.{fits_scope}
use Rattle.vortex_expr.specs.Meanings.Meaning.{meaning, truth_value}
use Rattle.vortex_base.specs.Data.Scalars.{is_optional_value}
use Rattle.vortex_expr.specs.Trees.Tree.{Tree, Place, column, literal, binary, between, is_null, is_not_null, not as not_tree, like, stat, row_count, has_placeholder}
use Rattle.vortex_base.specs.Data.Types.{as_nullable, dtype_eq_is_exact, eq_ignore_nullability, is_nullable}
use Rattle.vortex_expr.specs.Meanings.Typing.{are_comparable, between_type, binary_type, connective_type, is_state, like_type, truth_type, type_of, with_type, with_types}
use Rattle.vortex_expr.specs.declared.scalar_fn.BetweenOptions.{BetweenOptions}
use Rattle.vortex_expr.specs.declared.scalar_fn.StrictComparison.{StrictComparison}
use Rattle.vortex_expr.specs.declared.scalar_fn.StrictComparison.TheVariants.{Strict, NonStrict}
use Rattle.vortex_base.specs.declared.dtype.DType.{DType}
use Rattle.vortex_base.specs.declared.dtype.DType.TheVariants as dtype
use Rattle.vortex_base.specs.declared.error.BaseError.{BaseError}
use Rattle.vortex_base.specs.declared.error.BaseError.TheVariants.{Mismatch}
use Rattle.vortex_expr.specs.declared.like.LikeOptions.{LikeOptions}
use Rattle.vortex_expr.specs.declared.scalar_fn.Operator.{Operator}
use Rattle.vortex_base.specs.declared.scalar_value.ScalarValue.{ScalarValue}
use Rattle.vortex_base.specs.declared.scalar_value.ScalarValue.TheVariants as value
use Rattle.vortex_rewrite.proofs.Soundness.LikeRows.{IsText}
use Rattle.vortex_rewrite.specs.Rewriting.Lawful.{IsOver}
use Rattle.vortex_rewrite.specs.Rewriting.Falsifiers.{halves}
use Rattle.vortex_rewrite.proofs.NullErasure.{same_state}
use Rattle.vortex_rewrite.proofs.Logic.{ok}
use Rattle.vortex_rewrite.proofs.Rewriting.ProofTypes.{comparable_if}

-- ---- parts

two_parts : (a b c d : Bool) → (not (a || b) && (c && d)) ≡ true → ((not a && c) ≡ true) × ((not b && d) ≡ true)
two_parts true b c d h = cc
two_parts false true c d h = cc
two_parts false false true true h = (refl, refl)
two_parts false false true false h = cc
two_parts false false false d h = cc

pub binary_parts : (o : Operator) (x y : Tree Place) (k : ChunkData) → IsOver (binary o x y) k → IsOver x k × IsOver y k
binary_parts o x y k h =
    let over = two_parts (has_placeholder x) (has_placeholder y) (fits_scope x k.scope) (fits_scope y k.scope) h.over in
    let typed = with_types-ok (binary_type o) (type_of x) (type_of y) h.typed in
    (record { typed = typed.0; over = over.0 }, record { typed = typed.1; over = over.1 })

-- an expression over a chunk is so without the pattern
pub like_text_over : (o : LikeOptions) (x y : Tree Place) (k : ChunkData) → IsOver (like o x y) k → IsOver x k
like_text_over o x y k h =
    let over = two_parts (has_placeholder x) (has_placeholder y) (fits_scope x k.scope) (fits_scope y k.scope) h.over in
    let typed = with_types-ok like_type (type_of x) (type_of y) h.typed in
    record { typed = typed.0; over = over.0 }

three_parts : (a b c d e f : Bool) → (not (a || (b || c)) && (d && (e && f))) ≡ true → (not ((b || a) || (a || c)) && ((e && d) && (d && f))) ≡ true
three_parts true b c d e f h = cc
three_parts false true c d e f h = cc
three_parts false false true d e f h = cc
three_parts false false false false e f h = cc
three_parts false false false true false f h = cc
three_parts false false false true true false h = cc
three_parts false false false true true true h = refl

-- ---- the types of the two comparisons of a BETWEEN

turned : (s t : DType) → are_comparable s t ≡ true → are_comparable t s ≡ true
turned s t h =
    let k = and_parts (eq_ignore_nullability s t) (not (is_state s)) h in
    let same : as_nullable s ≡ as_nullable t = (dtype_eq_is_exact (as_nullable s) (as_nullable t)).0 k.0 in
    both_hold _ _ ((dtype_eq_is_exact (as_nullable t) (as_nullable s)).1 (sym same)) (sym (ap not (same_state s t same)) ∙ k.1)

half_type : (s : StrictComparison) (a b : DType) → are_comparable a b ≡ true → binary_type (to_operator s) a b ≡ Ok (truth_type (is_nullable a || is_nullable b))
half_type Strict a b h = rw h refl
half_type NonStrict a b h = rw h refl

pub comparable_ends : (x l u : DType) → IsOk (between_type x l u) → (are_comparable x l ≡ true) × (are_comparable x u ≡ true)
comparable_ends x l u h = and_parts (are_comparable x l) (are_comparable x u) (comparable_if (are_comparable x l && are_comparable x u) (truth_type (is_nullable x || (is_nullable l || is_nullable u))) h)

pub halves_typed : (s t : StrictComparison) (x l u : Result DType BaseError) → IsOk (with_type (λ a. with_types (between_type a) l u) x)
    → IsOk (with_types connective_type (with_types (binary_type (to_operator s)) l x) (with_types (binary_type (to_operator t)) x u))
halves_typed s t (Ok x) (Ok l) (Ok u) h =
    let c = comparable_ends x l u h in
    rw (half_type s l x (turned x l c.0), half_type t x u c.1) refl
halves_typed s t (Err e) l u h = cc
halves_typed s t (Ok x) (Err e) u h = cc
halves_typed s t (Ok x) (Ok l) (Err e) h = cc

pub halves_over : (o : BetweenOptions) (x l u : Tree Place) (k : ChunkData) → IsOver (between o x l u) k → IsOver (halves o x l u) k
halves_over o x l u k h = record {
  typed = halves_typed o.lower_strict o.upper_strict (type_of x) (type_of l) (type_of u) h.typed;
  over = three_parts (has_placeholder x) (has_placeholder l) (has_placeholder u) (fits_scope x k.scope) (fits_scope l k.scope) (fits_scope u k.scope) h.over;
}

-- ---- texts

fitting_text : (v : Option ScalarValue) (t : DType) → is_optional_value v t ≡ true → IsText v
fitting_text None t h = tt
fitting_text (Some (value.Bool b)) t h = tt
fitting_text (Some (value.Primitive p)) t h = tt
fitting_text (Some (value.Binary bs)) t h = tt
fitting_text (Some (value.Utf8 bs)) (dtype.Utf8 n) h = h
fitting_text (Some (value.Utf8 bs)) dtype.Null h = cc
fitting_text (Some (value.Utf8 bs)) (dtype.Bool n) h = cc
fitting_text (Some (value.Utf8 bs)) (dtype.Primitive p n) h = cc
fitting_text (Some (value.Utf8 bs)) (dtype.Binary n) h = cc
fitting_text (Some (value.Utf8 bs)) (dtype.MinMaxState e n) h = cc

truth_text : (o : Option Bool) → IsText (truth_value o)
truth_text None = tt
truth_text (Some b) = tt

literal_fits : (b : Bool) (t : DType) → IsOk (if b then ok t else Err Mismatch) → b ≡ true
literal_fits true t h = refl
literal_fits false t h = cc

column_text : (c : Place) (k : ChunkData) (i : ℕ) → IsChunk k → i < rows_of k.columns → fits_scope (column c) k.scope ≡ true → IsText (meaning (column c) (row_of i k.columns) 0)
column_text c k i chunk here h =
    fitting_text (meaning (column c) (row_of i k.columns) 0) (as_nullable c.dtype)
    (meaning-fits (column c) (row_of i k.columns) 0 c.dtype refl (row_of-IsRow k i chunk here) (rows-fit (column c) k i chunk h) (omega arith))

-- on each row of a chunk, an expression over it that means a text means one in UTF-8
pub means_text : (x : Tree Place) (k : ChunkData) (i : ℕ) → IsChunk k → i < rows_of k.columns → IsOver x k → IsText (meaning x (row_of i k.columns) (rows_of k.columns))
means_text (column c) k i chunk here h = column_text c k i chunk here h.over
means_text (literal c) k i chunk here h = fitting_text c.value c.dtype (literal_fits (is_optional_value c.value c.dtype) c.dtype h.typed)
means_text (binary o x y) k i chunk here h = truth_text _
means_text (between o x l u) k i chunk here h = truth_text _
means_text (is_null x) k i chunk here h = tt
means_text (is_not_null x) k i chunk here h = tt
means_text (not_tree x) k i chunk here h = truth_text _
means_text (like o x y) k i chunk here h = truth_text _
means_text (stat f x) k i chunk here h = tt
means_text row_count k i chunk here h = tt
