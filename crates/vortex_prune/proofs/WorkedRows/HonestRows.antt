-- Worked rows: over which row and row count a binder has to be faithful and its values facts, to be honest for a chunk.
use Rattle.std.specs.Prelude.{◌≡◌, ◌==◌, ℕ, Bool, true, false, MatchBool, List, [], ◌∷◌, Option, Some, None, pos, codes, if◌then◌else◌, refl, ⊤}
use Rattle.std.proofs.Common.{sym}
use Rattle.vortex_base.specs.declared.aggregate.AggregateFnRef.TheVariants.{NullCount}
use Rattle.vortex_base.specs.declared.dtype.DType.{DType}
use Rattle.vortex_base.specs.declared.dtype.DType.TheVariants as dtype
use Rattle.vortex_base.specs.declared.types.Nullability.TheVariants.{Nullable}
use Rattle.vortex_base.specs.declared.types.PType.TheVariants as ptype
use Rattle.vortex_base.specs.declared.pvalue.PValue.TheVariants as number
use Rattle.vortex_base.specs.declared.scalar_value.ScalarValue.{ScalarValue}
use Rattle.vortex_base.specs.declared.scalar_value.ScalarValue.TheVariants as value
use Rattle.vortex_base.specs.Data.Columns.{ChunkData, ColumnData}
use Rattle.vortex_base.specs.Data.Scalars.{Constant}
use Rattle.vortex_expr.specs.Meanings.Typing.{type_of}
use Rattle.vortex_expr.specs.Trees.Tree.{Tree, Place, column}
use Rattle.vortex_rewrite.proofs.NullErasure.{typed_null}
use Rattle.vortex_rewrite.specs.Facts.{IsHonest, is_over}
use Rattle.vortex_rewrite.specs.Rewriting.Proof.{Assignment}
use Rattle.vortex_stats.specs.Sets.Claims.{count_value}
use Rattle.vortex_prune.specs.Binding.Binders.{IsHonestOver}
use mathlib.Core.Bool.{true≢false}

abbrev i32_type : DType
i32_type = dtype.Primitive ptype.I32 Nullable

abbrev a : Tree Place
a = column (record { index = 0; dtype = i32_type })

-- a chunk of these values
abbrev chunk : List (Option ScalarValue) → ChunkData
chunk values = record { scope = (codes "a", i32_type) ∷ []; columns = record { dtype = i32_type; values = values; size = 0 } ∷ [] }

abbrev two_rows : ChunkData
two_rows = chunk (Some (value.Primitive (number.I32 (pos 3))) ∷ None ∷ [])

abbrev no_rows : ChunkData
no_rows = chunk []

abbrev row : List Constant
row = record { dtype = i32_type; value = None } ∷ []

-- nothing is known
abbrev nothing : Assignment
nothing f x = None

no_answer : (b : Bool) → MatchBool b ⊤ (nothing NullCount a ≡ None)
no_answer true = tt
no_answer false = refl

nothing_is_honest : (cs : List ColumnData) → IsHonest nothing cs
nothing_is_honest cs = record { facts = λ f x. no_answer (is_over x cs); types = λ f x t h. typed_null f (type_of x) t h }

-- that so many rows of any input are null
abbrev counted : ℕ → Assignment
counted n NullCount x = Some (count_value n)
counted n f x = None

two_nulls : count_value 2 ≡ count_value 1 → ⊥
two_nulls h = cc

-- ---- it is faithful over the row and the chunk's row count

abbrev faithful_at : ℕ → List Constant → ℕ → Bool
faithful_at rows r n = n == rows

at_the_count : IsHonestOver (faithful_at 2) (λ r n. nothing) [] two_rows
at_the_count = (refl, nothing_is_honest two_rows.columns)

at_another_count : IsHonestOver (faithful_at 0) (λ r n. nothing) [] two_rows → ⊥
at_another_count h = true≢false (sym h.0)

without_rows : IsHonestOver (faithful_at 0) (λ r n. nothing) [] no_rows
without_rows = (refl, nothing_is_honest no_rows.columns)

not_without_rows : IsHonestOver (faithful_at 2) (λ r n. nothing) [] no_rows → ⊥
not_without_rows h = true≢false (sym h.0)

-- only the row with no columns
abbrev is_empty_row : List Constant → ℕ → Bool
is_empty_row [] n = true
is_empty_row (c ∷ r) n = false

over_another_row : IsHonestOver is_empty_row (λ r n. nothing) row two_rows → ⊥
over_another_row h = true≢false (sym h.0)

-- ---- and the values that it names there are facts

abbrev counts_if_rows : List Constant → ℕ → Assignment
counts_if_rows r n = if n == 0 then nothing else counted 2

-- 2 is no count of the nulls of 3 and null
a_value_that_is_no_fact : IsHonestOver (λ r n. true) counts_if_rows [] two_rows → ⊥
a_value_that_is_no_fact h = absurd (two_nulls (h.1.facts NullCount a))

values_without_rows : IsHonestOver (λ r n. true) counts_if_rows [] no_rows
values_without_rows = (refl, nothing_is_honest no_rows.columns)

abbrev counts_of_a_row : List Constant → ℕ → Assignment
counts_of_a_row [] n = nothing
counts_of_a_row (c ∷ r) n = counted 2

values_of_another_row : IsHonestOver (λ r n. true) counts_of_a_row row two_rows → ⊥
values_of_another_row h = absurd (two_nulls (h.1.facts NullCount a))

values_of_the_empty_row : IsHonestOver (λ r n. true) counts_of_a_row [] two_rows
values_of_the_empty_row = (refl, nothing_is_honest two_rows.columns)
