-- A worked witness: an answer to an input that is no column is a fact too.
use Rattle.std.proofs.Common.{◌≡◌, ◌+◌, ℕ, zero, suc, Bool, true, false, List, Option, Some, None, Result, Ok, Err, refl, sym, ap, subst, map}
use Rattle.std.specs.List.{range_with_len}
use Rattle.std.specs.Prelude.{MatchBool, is_none, if◌then◌else◌, ⊤}
use Rattle.vortex_base.specs.declared.aggregate.AggregateFnRef.{AggregateFnRef}
use Rattle.vortex_base.specs.declared.aggregate.AggregateFnRef.TheVariants.{NullCount}
use Rattle.vortex_base.specs.declared.dtype.DType.{DType}
use Rattle.vortex_base.specs.declared.dtype.DType.TheVariants as dtype
use Rattle.vortex_base.specs.declared.error.BaseError.{BaseError}
use Rattle.vortex_base.specs.declared.types.Nullability.TheVariants.{Nullable}
use Rattle.vortex_base.specs.declared.types.PType.TheVariants as ptype
use Rattle.vortex_base.specs.declared.scalar_value.ScalarValue.{ScalarValue}
use Rattle.vortex_base.specs.Data.Columns.{ColumnData, row_count as rows_of}
use Rattle.vortex_base.specs.Data.Scalars.{is_optional_value}
use Rattle.vortex_expr.specs.Trees.Tree.{Tree, Place, literal, stat}
use Rattle.vortex_expr.specs.Meanings.Typing.{stat_type, type_of, with_type}
use Rattle.vortex_stats.specs.Sets.Claims.{count_value, null_count}
use Rattle.vortex_rewrite.specs.Facts.{IsFact, IsHonest, is_over, meanings, size_of}
use Rattle.vortex_rewrite.specs.Rewriting.Proof.{Assignment}
use Rattle.vortex_rewrite.proofs.NullErasure.{typed_null}

-- a literal that isn't null has no null on any row
abbrev counted_value : Tree Place → Option ScalarValue
counted_value (literal c) = if is_none c.value then None else Some (count_value 0)
counted_value e = None

-- the number of nulls of such literals is answered, and nothing else
abbrev counted : Assignment
counted NullCount x = counted_value x
counted f x = None

no_nulls : (w : ScalarValue) (a n : ℕ) → null_count (map (λ i. Some w) (range_with_len a n)) ≡ 0
no_nulls w a zero = refl
no_nulls w a (suc n) = no_nulls w (a + 1) n

literal_fact : (v : Option ScalarValue) (n : ℕ) (size : Option ℕ) → IsFact NullCount (if is_none v then None else Some (count_value 0)) (map (λ i. v) (range_with_len 0 n)) size
literal_fact None n size = tt
literal_fact (Some w) n size = ap count_value (sym (no_nulls w 0 n))

no_answer : (b : Bool) (o : Option ScalarValue) → MatchBool b ⊤ (o ≡ o)
no_answer true o = tt
no_answer false o = refl

counted_facts : (cs : List ColumnData) (f : AggregateFnRef) (x : Tree Place) → MatchBool (is_over x cs) (IsFact f (counted f x) (meanings x cs) (size_of x cs)) (counted f x ≡ None)
counted_facts cs NullCount (literal c) = literal_fact c.value (rows_of cs) (size_of (literal c) cs)
counted_facts cs f x = no_answer (is_over x cs) None

count_fits : (v : Option ScalarValue) (r : Result DType BaseError) (t : DType) → with_type (stat_type NullCount) r ≡ Ok t → is_optional_value (if is_none v then None else Some (count_value 0)) t ≡ true
count_fits None r t h = typed_null NullCount r t h
count_fits (Some w) (Ok s) t h =
    let same : dtype.Primitive ptype.U64 Nullable ≡ t = cc in
    subst (λ u. is_optional_value (Some (count_value 0)) u ≡ true) same refl
count_fits (Some w) (Err e) t h = absurd cc

counted_types : (f : AggregateFnRef) (x : Tree Place) (t : DType) → type_of (stat f x) ≡ Ok t → is_optional_value (counted f x) t ≡ true
counted_types NullCount (literal c) t h = count_fits c.value (type_of (literal c)) t h
counted_types f x t h = typed_null f (type_of x) t h

pub counted_is_honest : (cs : List ColumnData) → IsHonest counted cs
counted_is_honest cs = record { facts = counted_facts cs; types = counted_types }
