-- Leaf columns of a logical type hold whole numbers of that type.
use Rattle.std.proofs.Common.{◌≡◌, ◌∙◌, ℕ, ◌≤◌, Bool, true, false, Option, Some, None, refl, sym, ap, subst, arith}
use Rattle.std.proofs.lemmas.Bool.{eqb-true, leb-true}
use Rattle.std.proofs.lemmas.Int.{ints}
use Rattle.std.proofs.lemmas.Option.{same_Some}
use Rattle.std.specs.Prelude.{◌==◌, nat_le, nat_lt, if◌then◌else◌}
use Rattle.vortex_base.specs.declared.types.Nullability.{Nullability}
use Rattle.vortex_base.specs.declared.types.PType.TheVariants as ptype
use Rattle.vortex_logical.specs.declared.decimal.DecimalDType.{DecimalDType}
use Rattle.vortex_logical.specs.declared.logical_type.LogicalType.{LogicalType}
use Rattle.vortex_logical.specs.declared.logical_type.LogicalType.TheVariants as logical
use Rattle.vortex_logical.specs.declared.time_unit.TimeUnit.{TimeUnit}
use Rattle.vortex_logical.specs.declared.time_unit.TimeUnit.TheVariants as unit
use Rattle.vortex_logical.specs.LogicalTypes.{bits_64, digits_38, range}
use Rattle.vortex_parquet.specs.declared.columns.Form.{Form}
use Rattle.vortex_parquet.specs.declared.columns.Form.TheVariants as form
use Rattle.vortex_parquet.specs.declared.columns.Leaf.{Leaf}
use Rattle.vortex_parquet.specs.declared.meaning.LeafMeaning.{LeafMeaning}
use Rattle.vortex_parquet.specs.declared.meaning.LeafMeaning.TheVariants as meaning
use Rattle.vortex_parquet.specs.declared.records.Annotation.{Annotation}
use Rattle.vortex_parquet.specs.declared.records.Annotation.TheVariants as annotation
use Rattle.vortex_parquet.specs.Records.{is_number}
use Rattle.vortex_parquet.specs.Columns.{annotation_of, bool_form, bytes_form, eight, fixed_form, float_form, form_of, four, is_short, leaf_of, nullability, ◌>=>◌}
use Rattle.vortex_logical.specs.declared.float_type.FloatType.{FloatType}
use Rattle.vortex_logical.specs.declared.float_type.FloatType.TheVariants.{F32, F64}
use Rattle.vortex_parquet.specs.LogicalLeaves.{AreCells, FloatLeaves, IsWithin, LogicalLeaves, bits_32}
use Rattle.vortex_parquet.specs.Meanings.{decimal_if, decimal_type, decimals_or, meaning_of, most_digits, proof_le, time_meaning, timestamp_meaning, told_decimals, whole_meaning}

widened : IsWithin bits_32 bits_64
widened n h = (omega (arith, ints, h.0), omega (arith, ints, h.1))

-- the forms of numbers with a sign
abbrev IsSigned : Form → Type 0
IsSigned (form.Four ptype.I32) = Unit {0}
IsSigned (form.Eight ptype.I64) = Unit {0}
IsSigned form.Decimal = Unit {0}
IsSigned f = ⊥

abbrev AreSigned : Option Form → Type 0
AreSigned None = Unit {0}
AreSigned (Some f) = IsSigned f

-- a type of 64 bits takes them all
wide : (t : LogicalType) → range t ≡ bits_64 → (f : Form) → IsSigned f → AreCells t f
wide t e (form.Four ptype.I32) h = subst (IsWithin bits_32) (sym e) widened
wide t e (form.Eight ptype.I64) h = subst (IsWithin bits_64) (sym e) (λ n i. i)
wide t e form.Decimal h = subst (IsWithin bits_64) (sym e) (λ n i. i)
wide t e f h = absurd h

either : (b : Bool) (x y : Option Form) → AreSigned x → AreSigned y → AreSigned (if b then x else y)
either true x y h k = h
either false x y h k = k

time_form : (physical : ℕ) (u : Option TimeUnit) → AreSigned (form_of physical (annotation.Time u))
unfolding form_of bool_form four eight float_form bytes_form fixed_form
time_form physical u =
    either (physical == 0) _ _ tt (either (physical == 1) _ _ tt (either (physical == 2) _ _ tt (either (physical == 4) _ _ tt (either (physical == 5) _ _ tt (either (physical == 6) _ _ tt (either (physical == 7) _ _ tt tt))))))

timestamp_form : (physical : ℕ) (a : Option Bool) (u : Option TimeUnit) → AreSigned (form_of physical (annotation.Timestamp a u))
unfolding form_of bool_form four eight float_form bytes_form fixed_form
timestamp_form physical a u =
    either (physical == 0) _ _ tt (either (physical == 1) _ _ tt (either (physical == 2) _ _ tt (either (physical == 4) _ _ tt (either (physical == 5) _ _ tt (either (physical == 6) _ _ tt (either (physical == 7) _ _ tt tt))))))

decimal_forms : (physical : ℕ) (scale precision : Option ℕ) → AreSigned (form_of physical (annotation.Decimal scale precision))
unfolding form_of bool_form four eight float_form bytes_form fixed_form
decimal_forms physical scale precision =
    let bytes = either (is_short precision) (Some form.Decimal) None tt tt in
    either (physical == 0) _ _ tt (either (physical == 1) _ _ tt (either (physical == 2) _ _ tt (either (physical == 4) _ _ tt (either (physical == 5) _ _ tt (either (physical == 6) _ _ bytes (either (physical == 7) _ _ bytes tt))))))

signed_form : (o : Option Form) (f : Form) → o ≡ Some f → AreSigned o → IsSigned f
signed_form o f e h = subst AreSigned e h

-- the type of a meaning, if it has one
type_or : LogicalType → LeafMeaning → LogicalType
type_or s (meaning.Logical t) = t
type_or s m = s

same_type : (s t : LogicalType) → meaning.Logical s ≡ meaning.Logical t → s ≡ t
unfolding type_or
same_type s t h = ap (type_or s) h

-- ---- days

days : (physical : ℕ) (b : Bool) → (physical == 1) ≡ b → (f : Form) (t : LogicalType) → form_of physical annotation.Date ≡ Some f
    → (if b then meaning.Logical logical.Date else meaning.Opaque) ≡ meaning.Logical t → AreCells t f
unfolding form_of four
days physical false e f t h m = cc
days physical true e f t h m =
    let here : form_of 1 annotation.Date ≡ Some f = subst (λ n. form_of n annotation.Date ≡ Some f) (eqb-true physical 1 e) h in
    let cells : AreCells t (form.Four ptype.I32) = subst (λ s. AreCells s (form.Four ptype.I32)) (same_type logical.Date t m) (λ n i. i) in
    subst (AreCells t) (same_Some (form.Four ptype.I32) f here) cells

-- ---- times and timestamps

-- a choice that is a type is that type
chosen_type : (b : Bool) (s t : LogicalType) → (if b then meaning.Logical s else meaning.Opaque) ≡ meaning.Logical t → s ≡ t
chosen_type true s t h = same_type s t h
chosen_type false s t h = cc

times : (physical : ℕ) (u : Option TimeUnit) (t : LogicalType) → time_meaning physical u ≡ meaning.Logical t → range t ≡ bits_64
times physical (Some unit.Milliseconds) t h = sym (ap range (chosen_type (physical == 1) (logical.Time unit.Milliseconds) t h))
times physical (Some unit.Microseconds) t h = sym (ap range (chosen_type (physical == 2) (logical.Time unit.Microseconds) t h))
times physical (Some unit.Nanoseconds) t h = sym (ap range (chosen_type (physical == 2) (logical.Time unit.Nanoseconds) t h))
times physical (Some unit.Seconds) t h = cc
times physical None t h = cc

stamps : (a : Option Bool) (u : Option TimeUnit) (t : LogicalType) → timestamp_meaning a u ≡ meaning.Logical t → range t ≡ bits_64
stamps (Some true) (Some u) t h = sym (ap range (same_type (logical.TimestampTz u) t h))
stamps (Some false) (Some u) t h = sym (ap range (same_type (logical.Timestamp u) t h))
stamps a u t h = cc

timestamps : (b : Bool) (a : Option Bool) (u : Option TimeUnit) (t : LogicalType) → (if b then timestamp_meaning a u else meaning.Opaque) ≡ meaning.Logical t → range t ≡ bits_64
timestamps true a u t h = stamps a u t h
timestamps false a u t h = cc

-- ---- decimals

precision_if : (p s : ℕ) (a : Option (1 ≤ p)) (b : Option (p ≤ 38)) (c : Option (s ≤ 38)) (d : DecimalDType) → decimal_if p s a b c ≡ Some d → p ≡ d.precision
precision_if p s (Some a) (Some b) (Some c) d h = ap (λ x. x.precision) (same_Some (record { precision = p; scale = s; some = a; digits = b; behind = c }) d h)
precision_if p s a b c d h = cc

precision_of : (p s : ℕ) (d : DecimalDType) → decimal_type p s ≡ Some d → p ≡ d.precision
unfolding decimal_type
precision_of p s d h = precision_if p s (proof_le 1 p) (proof_le p 38) (proof_le s 38) d h

few : (most p s : ℕ) (b : Bool) (d : DecimalDType) → nat_le p most ≡ b → (if b then decimal_type p s else None) ≡ Some d → d.precision ≤ most
few most p s true d e h = subst (λ n. n ≤ most) (precision_of p s d h) (leb-true p most e)
few most p s false d e h = cc

told_few : (most : ℕ) (scale precision : Option ℕ) (d : DecimalDType) → told_decimals most scale precision ≡ Some d → d.precision ≤ most
told_few most (Some s) (Some p) d h = few most p s (nat_le p most) d refl h
told_few most scale precision d h = cc

at_most_18 : (b : Bool) (n : ℕ) → n ≤ (if b then 9 else 18) → n ≤ 18
at_most_18 true n h = omega arith
at_most_18 false n h = h

short_range : (d : DecimalDType) → d.precision ≤ 18 → range (logical.Decimal d) ≡ bits_64
short_range d h =
    let short : nat_lt 18 d.precision ≡ false = grind arith in
    ap (λ b. if b then digits_38 else bits_64) short

whole_none : (b : Bool) (t : LogicalType) → whole_meaning b ≡ meaning.Logical t → ⊥
whole_none true t h = cc
whole_none false t h = cc

decimals : (b : Bool) (o : Option DecimalDType) (t : LogicalType) → ((d : DecimalDType) → o ≡ Some d → d.precision ≤ 18)
    → decimals_or (whole_meaning b) o ≡ meaning.Logical t → range t ≡ bits_64
decimals b None t known h = absurd (whole_none b t h)
decimals b (Some d) t known h = ap range (sym (same_type (logical.Decimal d) t h)) ∙ short_range d (known d refl)

-- ---- floats

bare_none : (a b : Bool) (t : LogicalType) → (if a then meaning.Float F32 else (if b then meaning.Float F64 else meaning.Plain)) ≡ meaning.Logical t → ⊥
bare_none true b t h = cc
bare_none false true t h = cc
bare_none false false t h = cc

float_or : FloatType → LeafMeaning → FloatType
float_or s (meaning.Float t) = t
float_or s m = s

same_float : (s t : FloatType) → meaning.Float s ≡ meaning.Float t → s ≡ t
unfolding float_or
same_float s t h = ap (float_or s) h

decimals_no_float : (o : Option DecimalDType) (b : Bool) (t : FloatType) → decimals_or (whole_meaning b) o ≡ meaning.Float t → ⊥
decimals_no_float None true t h = cc
decimals_no_float None false t h = cc
decimals_no_float (Some d) b t h = cc

days_no_float : (b : Bool) (t : FloatType) → (if b then meaning.Logical logical.Date else meaning.Opaque) ≡ meaning.Float t → ⊥
days_no_float true t h = cc
days_no_float false t h = cc

chosen_no_float : (b : Bool) (s : LogicalType) (t : FloatType) → (if b then meaning.Logical s else meaning.Opaque) ≡ meaning.Float t → ⊥
chosen_no_float true s t h = cc
chosen_no_float false s t h = cc

times_no_float : (physical : ℕ) (u : Option TimeUnit) (t : FloatType) → time_meaning physical u ≡ meaning.Float t → ⊥
times_no_float physical (Some unit.Milliseconds) t h = chosen_no_float (physical == 1) (logical.Time unit.Milliseconds) t h
times_no_float physical (Some unit.Microseconds) t h = chosen_no_float (physical == 2) (logical.Time unit.Microseconds) t h
times_no_float physical (Some unit.Nanoseconds) t h = chosen_no_float (physical == 2) (logical.Time unit.Nanoseconds) t h
times_no_float physical (Some unit.Seconds) t h = cc
times_no_float physical None t h = cc

stamps_no_float : (b : Bool) (a : Option Bool) (u : Option TimeUnit) (t : FloatType) → (if b then timestamp_meaning a u else meaning.Opaque) ≡ meaning.Float t → ⊥
stamps_no_float true (Some true) (Some u) t h = cc
stamps_no_float true (Some false) (Some u) t h = cc
stamps_no_float true (Some true) None t h = cc
stamps_no_float true (Some false) None t h = cc
stamps_no_float true None u t h = cc
stamps_no_float false a u t h = cc

floats_by : (physical : ℕ) (a b : Bool) (f : Form) (t : FloatType) → (physical == 4) ≡ a → (physical == 5) ≡ b → form_of physical annotation.None ≡ Some f
    → (if a then meaning.Float F32 else (if b then meaning.Float F64 else meaning.Plain)) ≡ meaning.Float t → f ≡ form.Float t
unfolding form_of float_form
floats_by physical true b f t four five h m =
    let here : form_of 4 annotation.None ≡ Some f = subst (λ n. form_of n annotation.None ≡ Some f) (eqb-true physical 4 four) h in
    sym (same_Some (form.Float F32) f here) ∙ ap form.Float (same_float F32 t m)
floats_by physical false true f t four five h m =
    let here : form_of 5 annotation.None ≡ Some f = subst (λ n. form_of n annotation.None ≡ Some f) (eqb-true physical 5 five) h in
    sym (same_Some (form.Float F64) f here) ∙ ap form.Float (same_float F64 t m)
floats_by physical false false f t four five h m = cc

floats : (physical : ℕ) (a : Annotation) (f : Form) (t : FloatType) → form_of physical a ≡ Some f → meaning_of physical a ≡ meaning.Float t → f ≡ form.Float t
unfolding meaning_of
floats physical annotation.Date f t h m = absurd (days_no_float (physical == 1) t m)
floats physical (annotation.Time u) f t h m = absurd (times_no_float physical u t m)
floats physical (annotation.Timestamp a u) f t h m = absurd (stamps_no_float (physical == 2) a u t m)
floats physical (annotation.Decimal s p) f t h m = absurd (decimals_no_float (told_decimals (most_digits physical) s p) (is_number 0 s) t m)
floats physical annotation.None f t h m = floats_by physical (physical == 4) (physical == 5) f t refl refl h m
floats physical annotation.Text f t h m = cc
floats physical (annotation.Integer bits signed) f t h m = cc
floats physical annotation.Bytes f t h m = cc
floats physical annotation.Other f t h m = cc

-- ---- leaves

cells : (physical : ℕ) (a : Annotation) (f : Form) (t : LogicalType) → form_of physical a ≡ Some f → meaning_of physical a ≡ meaning.Logical t → AreCells t f
unfolding meaning_of
cells physical annotation.Date f t h m = days physical (physical == 1) refl f t h m
cells physical (annotation.Time u) f t h m =
    wide t (times physical u t m) f (signed_form (form_of physical (annotation.Time u)) f h (time_form physical u))
cells physical (annotation.Timestamp a u) f t h m =
    wide t (timestamps (physical == 2) a u t m) f (signed_form (form_of physical (annotation.Timestamp a u)) f h (timestamp_form physical a u))
cells physical (annotation.Decimal s p) f t h m =
    let short : (d : DecimalDType) → told_decimals (most_digits physical) s p ≡ Some d → d.precision ≤ 18 =
    λ d e. at_most_18 (physical == 1) d.precision (told_few (most_digits physical) s p d e) in
    wide t (decimals (is_number 0 s) (told_decimals (most_digits physical) s p) t short m) f (signed_form (form_of physical (annotation.Decimal s p)) f h (decimal_forms physical s p))
cells physical annotation.None f t h m = absurd (bare_none (physical == 4) (physical == 5) t m)
cells physical annotation.Text f t h m = cc
cells physical (annotation.Integer bits signed) f t h m = cc
cells physical annotation.Bytes f t h m = cc
cells physical annotation.Other f t h m = cc

abbrev leaf_with : (place physical : ℕ) → Annotation → Nullability → Form → Leaf
leaf_with place physical a n f = record { place = place; physical = physical; form = f; meaning = meaning_of physical a; nullability = n }

-- what holds of the meaning and the form of each physical type with an annotation holds of each leaf
module _ (P : LeafMeaning → Form → Type 0) (known : (physical : ℕ) (a : Annotation) (f : Form) → form_of physical a ≡ Some f → P (meaning_of physical a) f) where
  abbrev Holds : Leaf → Type 0
  Holds l = P l.meaning l.form

  by_form : (place physical : ℕ) (a : Annotation) (n : Nullability) (o : Option Form) (l : Leaf) → form_of physical a ≡ o
      → (o >=> λ f. Some (leaf_with place physical a n f)) ≡ Some l → Holds l
  by_form place physical a n None l e h = cc
  by_form place physical a n (Some f) l e h = subst Holds (same_Some (leaf_with place physical a n f) l h) (known physical a f e)

  by_nullability : (place physical : ℕ) (a : Annotation) (o : Option Nullability) (l : Leaf)
      → (o >=> λ n. form_of physical a >=> λ f. Some (leaf_with place physical a n f)) ≡ Some l → Holds l
  by_nullability place physical a None l h = cc
  by_nullability place physical a (Some n) l h = by_form place physical a n (form_of physical a) l refl h

  by_repetition : (place physical : ℕ) (a : Annotation) (o : Option ℕ) (l : Leaf)
      → (o >=> λ repetition. nullability repetition >=> λ n. form_of physical a >=> λ f. Some (leaf_with place physical a n f)) ≡ Some l → Holds l
  by_repetition place physical a None l h = cc
  by_repetition place physical a (Some repetition) l h = by_nullability place physical a (nullability repetition) l h

  by_physical : (place : ℕ) (a : Annotation) (o r : Option ℕ) (l : Leaf)
      → (o >=> λ physical. r >=> λ repetition. nullability repetition >=> λ n. form_of physical a >=> λ f. Some (leaf_with place physical a n f)) ≡ Some l → Holds l
  by_physical place a None r l h = cc
  by_physical place a (Some physical) r l h = by_repetition place physical a r l h

pub logical_leaves : LogicalLeaves
unfolding leaf_of
logical_leaves place e l t h = by_physical (λ m f. m ≡ meaning.Logical t → AreCells t f) (λ physical a f is. cells physical a f t is) place (annotation_of e.annotation e.converted e.scale e.precision) e.physical e.repetition l h

pub float_leaves : FloatLeaves
unfolding leaf_of
float_leaves place e l t h = by_physical (λ m f. m ≡ meaning.Float t → f ≡ form.Float t) (λ physical a f is. floats physical a f t is) place (annotation_of e.annotation e.converted e.scale e.precision) e.physical e.repetition l h
