-- The binders over the statistics of a zone and of a part are faithful.
use Rattle.std.specs.Prelude.{◌≡◌, ℕ, Bool, true, false, List, Option, Some, None, Result, Ok, Err, slice_get, if◌then◌else◌, refl}
use Rattle.std.proofs.Common.{cond, sym, ap, ◌∙◌}
use Rattle.vortex_base.specs.declared.aggregate.AggregateFnRef.{AggregateFnRef}
use Rattle.vortex_base.specs.declared.dtype.DType.{DType}
use Rattle.vortex_base.specs.declared.error.BaseError.{BaseError}
use Rattle.vortex_base.specs.declared.error.BaseError.TheVariants.{Mismatch}
use Rattle.vortex_base.specs.declared.scalar_value.ScalarValue.{ScalarValue}
use Rattle.vortex_base.specs.Data.Scopes.{Named}
use Rattle.vortex_expr.specs.Meanings.Fitting.{fits_row}
use Rattle.vortex_expr.specs.Meanings.Meaning.{meaning}
use Rattle.vortex_base.specs.Data.Scalars.{Constant, is_optional_value, null_of}
use Rattle.vortex_expr.specs.Trees.Tree.{Tree, Place, column, literal, stat, has_placeholder}
use Rattle.vortex_base.specs.Data.Types.{as_nullable, dtype_eq_is_exact, eq_ignore_nullability}
use Rattle.vortex_expr.specs.Meanings.Typing.{stat_type, type_of}
use Rattle.vortex_prune.specs.Binding.Binders.{IsAnswerOf, IsFaithful}
use Rattle.vortex_prune.specs.Part.{PartData, zone_of}
use Rattle.vortex_zone_map.specs.Zone.{Entries, ZoneData}
use Rattle.vortex_prune.specs.Binding.PartAnswers.{column_value, declares, part_values, told_values}
use Rattle.vortex_prune.specs.Binding.PartBinder.{IsNullOf, column_literal, literal_if, part_answer, told_answer}
use Rattle.vortex_rewrite.specs.StateTypes.{as_nullable-again, same_stat_type}
use Rattle.vortex_zone_map.specs.StatValues.{stat_value}

abbrev ok : DType → Result DType BaseError
ok t = Ok t

abbrev constant : DType → Option ScalarValue → Constant
constant t v = record { dtype = t; value = v }

typed_literal : (c : Constant) (s : DType) (b : Bool) → is_optional_value c.value c.dtype ≡ b → cond b (ok c.dtype) (Err Mismatch) ≡ ok s → c.dtype ≡ s
typed_literal c s true e h = cc
typed_literal c s false e h = cc

-- a literal of the type asked for
pub literal_is_answer : (c : Constant) (t : DType) (row : List Constant) (r : Tree Place) → r ≡ literal c → as_nullable c.dtype ≡ as_nullable t → IsAnswerOf t row r
literal_is_answer c t row r e h = record {
  typed = λ s k. ap as_nullable (sym (typed_literal c s (is_optional_value c.value c.dtype) refl (ap type_of (sym e) ∙ k))) ∙ h;
  free = ap has_placeholder e;
  fits = ap (λ x. fits_row x row) e;
}

-- the literal that is made of a type is that of the value
literal_of_type : (a : Result DType BaseError) (t : DType) (v : Option ScalarValue) (r : Tree Place) → a ≡ Ok t → literal_if a v ≡ Some r → r ≡ literal (constant t v)
literal_of_type (Ok s) t v r h e =
    let same : s ≡ t = cc in
    let made : literal (constant s v) ≡ r = cc in
    sym made ∙ ap (λ x. literal (constant x v)) same
literal_of_type (Err f) t v r h e = cc

literal_made : (a : Result DType BaseError) (t : DType) (v : Option ScalarValue) → a ≡ Ok t → literal_if a v ≡ None → ⊥
literal_made (Ok s) t v h e = cc
literal_made (Err f) t v h e = cc

-- of a column that the set is of
module _ (f : AggregateFnRef) (s t : DType) (supported : stat_type f s ≡ Ok t) (n : ℕ) where
  own_type : (d : Named) → eq_ignore_nullability d.1 s ≡ true → stat_type f d.1 ≡ Ok t
  own_type d h = same_stat_type f d.1 s ((dtype_eq_is_exact (as_nullable d.1) (as_nullable s)).0 h) ∙ supported

  column_answered : (c : Option Named) (es : Option Entries) (r : Tree Place) (b : Bool) → declares s c ≡ b → (if b then column_literal f c es n else None) ≡ Some r → r ≡ literal (constant t (column_value f s c es n))
  column_answered None es r b h e = cc
  column_answered (Some d) None r true h e = cc
  column_answered (Some d) None r false h e = cc
  column_answered (Some d) (Some es) r true h e =
      literal_of_type (stat_type f d.1) t (stat_value f es n) r (own_type d h) e ∙
      ap (λ b. literal (constant t (if b then stat_value f es n else None))) (sym h)
  column_answered (Some d) (Some es) r false h e = cc

  column_unknown : (c : Option Named) (es : Option Entries) (b : Bool) → declares s c ≡ b → (if b then column_literal f c es n else None) ≡ None → column_value f s c es n ≡ None
  column_unknown None es b h e = refl
  column_unknown (Some d) None b h e = refl
  column_unknown (Some d) (Some es) true h e = absurd (literal_made (stat_type f d.1) t (stat_value f es n) (own_type d h) e)
  column_unknown (Some d) (Some es) false h e = ap (λ b. if b then stat_value f es n else None) h

-- the literal of the named value, where there is an answer
module _ (scope : List Named) (zone : ZoneData) where
  answer_is_literal : (f : AggregateFnRef) (x : Tree Place) (t : DType) (r : Tree Place) → type_of (stat f x) ≡ Ok t → told_answer scope zone f x t ≡ Some r → r ≡ literal (constant t (told_values scope zone f x))
  answer_is_literal f (column c) t r h e = column_answered f c.dtype t h zone.rows (slice_get scope c.index) (slice_get zone.stats c.index) r (declares c.dtype (slice_get scope c.index)) refl e
  answer_is_literal f _ t r h e = cc

  unknown_is_null : (f : AggregateFnRef) (x : Tree Place) (t : DType) → type_of (stat f x) ≡ Ok t → told_answer scope zone f x t ≡ None → told_values scope zone f x ≡ None
  unknown_is_null f (column c) t h e = column_unknown f c.dtype t h zone.rows (slice_get scope c.index) (slice_get zone.stats c.index) (declares c.dtype (slice_get scope c.index)) refl e
  unknown_is_null f _ t h e = refl

  pub told_is_faithful : (row : List Constant) (n : ℕ) → IsFaithful (told_answer scope zone) IsNullOf (told_values scope zone) row n
  told_is_faithful row n = record {
    answers = λ f x t r h e. literal_is_answer (constant t (told_values scope zone f x)) t row r (answer_is_literal f x t r h e) refl;
    named = λ f x t r h e. ap (λ y. meaning y row n) (answer_is_literal f x t r h e);
    unknown = unknown_is_null;
    missing = λ t r h. literal_is_answer (null_of (as_nullable t)) t row r h (as_nullable-again t);
    null = λ t r h. ap (λ y. meaning y row n) h;
  }

pub part_is_faithful : (p : PartData) (row : List Constant) (n : ℕ) → IsFaithful (part_answer p) IsNullOf (part_values p) row n
part_is_faithful p row n = told_is_faithful p.chunk.scope (zone_of p) row n
