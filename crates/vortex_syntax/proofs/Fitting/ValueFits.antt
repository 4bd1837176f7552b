-- A value that a word writes for a type fits the type.
use Rattle.std.proofs.Common.{◌≡◌, ◌&&◌, ◌==◌, ℕ, Bool, true, false, List, Option, None, Some, ℤ, pos, negsuc, int_le, codes, drop, option_map, slice_index, if◌then◌else◌, refl, ap, sym, ◌∙◌, inl, inr}
use Rattle.std.proofs.lemmas.Bool.{cases_Bool}
use Rattle.std.specs.Str.{bytes_eq, is_utf8}
use Rattle.vortex_base.specs.Data.Scalars.{is_optional_value}
use Rattle.vortex_base.specs.Data.Types.{is_nullable, ptype_index}
use Rattle.vortex_base.specs.Data.States.{is_signed}
use Rattle.vortex_base.specs.Data.Values.{greatest, in_range, is_value, least, ptype_of}
use Rattle.vortex_base.specs.declared.dtype.DType.{DType}
use Rattle.vortex_base.specs.declared.dtype.DType.TheVariants as dtype
use Rattle.vortex_base.specs.declared.types.PType.{PType}
use Rattle.vortex_base.specs.declared.types.PType.TheVariants as ptype
use Rattle.vortex_base.specs.declared.pvalue.PValue.{PValue}
use Rattle.vortex_base.specs.declared.scalar_value.ScalarValue.{ScalarValue}
use Rattle.vortex_base.specs.declared.scalar_value.ScalarValue.TheVariants as value
use Rattle.vortex_syntax.specs.Numbers.{bytes_of, in_type, number_of, sized, whole_of}
use Rattle.vortex_syntax.specs.Values.{binary_of, null_or, optional_value_of, plain_value, quoted_value, text_of, truth_of, value_of}
use Rattle.vortex_syntax.specs.Words.{Token, Plain, Quoted, Broken}
use Rattle.vortex_syntax.proofs.Fitting.ExpressionFits.{step_of}

-- what was chosen by a test that holds, or didn't come of one that doesn't
pub chosen : {X : Type 0} (b : Bool) (x y : X) → (if b then Some x else None) ≡ Some y → (b ≡ true) × (x ≡ y)
chosen true x y h = (refl, cc)
chosen false x y h = cc

-- a mapped value
pub record Mapped {A B : Type 0} (f : A → B) (o : Option A) (y : B) : Type 0 where
  pub at : A
  pub made : o ≡ Some at
  pub same : f at ≡ y

pub mapped : {A B : Type 0} (f : A → B) (o : Option A) (y : B) → option_map f o ≡ Some y → Mapped f o y
mapped f None y h = cc
mapped f (Some x) y h = record { at = x; made = refl; same = cc }

-- a number of the type that lies in its range
abbrev is_number : PType → PValue → Bool
is_number p v = (ptype_index (ptype_of v) == ptype_index p) && in_range v

sized_fits : (p : PType) (z : ℤ) → (int_le (least p) z && int_le z (greatest p)) ≡ true → is_number p (sized p z) ≡ true
sized_fits ptype.U8 (pos n) h = h
sized_fits ptype.U8 (negsuc n) h = cc
sized_fits ptype.U16 (pos n) h = h
sized_fits ptype.U16 (negsuc n) h = cc
sized_fits ptype.U32 (pos n) h = h
sized_fits ptype.U32 (negsuc n) h = cc
sized_fits ptype.U64 (pos n) h = h
sized_fits ptype.U64 (negsuc n) h = cc
sized_fits ptype.I8 z h = h
sized_fits ptype.I16 z h = h
sized_fits ptype.I32 z h = h
sized_fits ptype.I64 z h = h

in_type_fits : (p : PType) (z : ℤ) (v : PValue) → in_type p z ≡ Some v → is_number p v ≡ true
in_type_fits p z v h =
    let found = chosen (int_le (least p) z && int_le z (greatest p)) (sized p z) v h in
    ap (is_number p) (sym found.1) ∙ sized_fits p z found.0

number_fits : (p : PType) (word : List ℕ) (v : PValue) → number_of p word ≡ Some v → is_number p v ≡ true
number_fits p word v h = let a = step_of (whole_of (is_signed p) word) (in_type p) v h in in_type_fits p a.at v a.then

truth_fits : (word : List ℕ) (v : ScalarValue) (t : DType) → ((b : Bool) → is_value (value.Bool b) t ≡ true) → truth_of word ≡ Some v → is_value v t ≡ true
truth_fits word v t both h = elim (cases_Bool (bytes_eq word (codes "true"))) [
  | inl holds ↦ (let same : value.Bool true ≡ v = (let e = rw holds at h in cc) in ap (λ x. is_value x t) (sym same) ∙ both true)
  | inr other ↦ (let rest : (if bytes_eq word (codes "false") then Some (value.Bool false) else None) ≡ Some v = rw other at h in
      let found = chosen (bytes_eq word (codes "false")) (value.Bool false) v rest in
      ap (λ x. is_value x t) (sym found.1) ∙ both false)
]

bytes_fit : (word : List ℕ) (v : ScalarValue) (t : DType) → ((bs : List ℕ) → is_value (value.Binary bs) t ≡ true) → binary_of word ≡ Some v → is_value v t ≡ true
bytes_fit word v t all h = elim (cases_Bool (slice_index word 0 == 120)) [
  | inl x ↦ (let rest : option_map (λ bs. value.Binary bs) (bytes_of (drop 1 word)) ≡ Some v = rw x at h in
      let m = mapped (λ bs. value.Binary bs) (bytes_of (drop 1 word)) v rest in
      ap (λ x. is_value x t) (sym m.same) ∙ all m.at)
  | inr other ↦ (let rest = rw other at h in cc)
]

pub plain_fits : (t : DType) (word : List ℕ) (v : ScalarValue) → plain_value t word ≡ Some v → is_value v t ≡ true
plain_fits dtype.Null word v h = cc
plain_fits (dtype.Bool n) word v h = truth_fits word v (dtype.Bool n) (λ b. refl) h
plain_fits (dtype.Primitive p n) word v h =
    let m = mapped (λ x. value.Primitive x) (number_of p word) v h in
    ap (λ x. is_value x (dtype.Primitive p n)) (sym m.same) ∙ number_fits p word m.at m.made
plain_fits (dtype.Utf8 n) word v h = cc
plain_fits (dtype.Binary n) word v h = bytes_fit word v (dtype.Binary n) (λ bs. refl) h
plain_fits (dtype.MinMaxState e n) word v h = cc

text_fits : (text bs : List ℕ) → text_of text ≡ Some bs → is_utf8 bs ≡ true
text_fits text bs h = let found = chosen (is_utf8 text) text bs h in ap is_utf8 (sym found.1) ∙ found.0

pub quoted_fits : (t : DType) (text : List ℕ) (v : ScalarValue) → quoted_value t text ≡ Some v → is_value v t ≡ true
quoted_fits dtype.Null text v h = cc
quoted_fits (dtype.Bool n) text v h = cc
quoted_fits (dtype.Primitive p n) text v h = cc
quoted_fits (dtype.Utf8 n) text v h =
    let m = mapped (λ bs. value.Utf8 bs) (text_of text) v h in
    ap (λ x. is_value x (dtype.Utf8 n)) (sym m.same) ∙ text_fits text m.at m.made
quoted_fits (dtype.Binary n) text v h = cc
quoted_fits (dtype.MinMaxState e n) text v h = cc

-- a value other than null
pub value_of_fits : (t : DType) (word : Token) (v : ScalarValue) → value_of t word ≡ Some v → is_value v t ≡ true
value_of_fits t (Plain word) v h = plain_fits t word v h
value_of_fits t (Quoted text) v h = quoted_fits t text v h
value_of_fits t Broken v h = cc

null_or_fits : (t : DType) (null nullable : Bool) (word : Option ScalarValue) (v : Option ScalarValue) → nullable ≡ is_nullable t
    → ((x : ScalarValue) → word ≡ Some x → is_value x t ≡ true) → null_or null nullable word ≡ Some v → is_optional_value v t ≡ true
null_or_fits t true true word v is fits h = let same : None ≡ v = cc in ap (λ x. is_optional_value x t) (sym same) ∙ sym is
null_or_fits t true false word v is fits h = cc
null_or_fits t false nullable word v is fits h =
    let m = mapped (λ x. Some x) word v h in
    ap (λ x. is_optional_value x t) (sym m.same) ∙ fits m.at m.made

-- a value or null
pub optional_value_fits : (t : DType) (word : Token) (v : Option ScalarValue) → optional_value_of t word ≡ Some v → is_optional_value v t ≡ true
optional_value_fits t (Plain word) v h = null_or_fits t (bytes_eq word (codes "null")) (is_nullable t) (plain_value t word) v refl (plain_fits t word) h
optional_value_fits t (Quoted text) v h =
    let m = mapped (λ x. Some x) (quoted_value t text) v h in
    ap (λ x. is_optional_value x t) (sym m.same) ∙ quoted_fits t text m.at m.made
optional_value_fits t Broken v h = cc
