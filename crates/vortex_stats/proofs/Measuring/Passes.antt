-- Steps of the loops over the values of a column, by the keys that these have.
use Rattle.std.proofs.Common.{◌≡◌, ℕ, zero, suc, ◌+◌, ◌<◌, ◌≤◌, ◌-◌, Bool, true, false, List, [], ◌∷◌, ◌++◌, length, take, Option, Some, None, Bor, refl, sym, ap, subst, ◌∙◌, arith}
use Rattle.std.specs.Prelude.{◌==◌, Contains, ℤ, pos, ◌+ℤ◌, map, slice_get, unwrap_or}
use Rattle.std.specs.Option.{option_copied, option_map}
use Rattle.std.proofs.lemmas.Bool.{and_parts, eqb-true}
use Rattle.std.proofs.lemmas.Int.{ints}
use Rattle.std.proofs.lemmas.List.{length-take, take_all, take_more}
use Rattle.std.proofs.lemmas.List.Elements.{All-contains}
use Rattle.std.proofs.lemmas.List.Sums.{AllPass-from_list_all}
use Rattle.std.proofs.lemmas.Option.{get_or_from_slice_get, slice_get_within}
use mathlib.Core.Bool.{true≢false}
use Rattle.vortex_base.specs.declared.dtype.DType.{DType}
use Rattle.vortex_base.specs.declared.dtype.DType.TheVariants as dtype
use Rattle.vortex_base.specs.declared.types.Nullability.TheVariants.{Nullable}
use Rattle.vortex_base.specs.declared.types.PType.{PType}
use Rattle.vortex_base.specs.declared.types.PType.TheVariants as ptype
use Rattle.vortex_base.specs.declared.pvalue.PValue.{PValue}
use Rattle.vortex_base.specs.declared.pvalue.PValue.TheVariants as number
use Rattle.vortex_base.specs.declared.scalar_value.ScalarValue.{ScalarValue}
use Rattle.vortex_base.specs.declared.scalar_value.ScalarValue.TheVariants as value
use Rattle.vortex_base.specs.Data.VarBinArray.{blob_at}
use Rattle.vortex_base.specs.Data.ArrayData.{text_value}
use Rattle.vortex_base.specs.Data.PrimitiveArray.{native_at}
use Rattle.vortex_base.specs.Data.Columns.{all_fit}
use Rattle.vortex_base.specs.Data.Scalars.{is_optional_value}
use Rattle.vortex_base.specs.Data.Types.{ptype_index}
use Rattle.vortex_base.specs.Data.Values.{in_range, is_value, ptype_of}
use Rattle.vortex_stats.specs.declared.measure.pass.Family.{Family}
use Rattle.vortex_stats.specs.declared.measure.pass.Family.TheVariants.{Signed, Unsigned, Texts, Bytes, Nulls}
use Rattle.vortex_stats.specs.declared.measure.tally.Tally.{Tally}
use Rattle.vortex_stats.specs.declared.stat.Stat.TheVariants.{Sum}
use Rattle.vortex_stats.specs.Measuring.Codes.{Code, bytes_code, signed_code, unsigned_code}
use Rattle.vortex_stats.specs.Measuring.Keys.{bytes_of, family_of, number_family, signed_number, text_of, unsigned_number}
use Rattle.vortex_stats.specs.Measuring.Measured.{number_in}
use Rattle.vortex_stats.specs.Measuring.Tallies.{IsOptionalKeyOf, IsTallyOf}
use Rattle.vortex_stats.specs.Sets.Claims.{present, sum_of}
use Rattle.vortex_stats.specs.Stat.{stat_dtype}
use Rattle.vortex_stats.proofs.Bounds.Ascending.{contains_first, contains_later}
use Rattle.vortex_stats.proofs.Merging.Sums.{sum_of-both}

-- ---- the value at the next place

pub native_here : {X : Type 0} (f : X → ScalarValue) (xs : List (Option X)) (i : ℕ) → i < length xs → slice_get (map (option_map f) xs) i ≡ Some (option_map f (native_at (slice_get xs i)))
native_here f [] i h = absurd (omega arith)
native_here f (x ∷ xs) zero h = refl
native_here f (x ∷ xs) (suc i) h = native_here f xs i (omega arith)

pub text_here : (xs : List (Option (List ℕ))) (i : ℕ) → i < length xs → slice_get (map text_value xs) i ≡ Some (text_value (blob_at (slice_get xs i)))
text_here [] i h = absurd (omega arith)
text_here (x ∷ xs) zero h = refl
text_here (x ∷ xs) (suc i) h = text_here xs i (omega arith)

next_taken : {X : Type 0} (xs : List X) (i : ℕ) (x : X) → slice_get xs i ≡ Some x → take (i + 1) xs ≡ take i xs ++ x ∷ []
next_taken xs i x h = take_more xs i x (slice_get_within xs i x h) ∙ ap (λ y. take i xs ++ y ∷ []) (get_or_from_slice_get xs i x x h)

pub fits_at : (t : DType) (xs : List (Option ScalarValue)) (i : ℕ) (x : Option ScalarValue) → all_fit t xs ≡ true → slice_get xs i ≡ Some x → is_optional_value x t ≡ true
fits_at t xs i x h e =
    All-contains (λ y. is_optional_value y t ≡ true) xs x (AllPass-from_list_all (λ y. is_optional_value y t) xs h) (i, slice_get_within xs i x e, get_or_from_slice_get xs i x x e)

pub value_in_column : (t : DType) (xs : List (Option ScalarValue)) (v : ScalarValue) → all_fit t xs ≡ true → Contains xs (Some v) → is_value v t ≡ true
value_in_column t xs v h i = All-contains (λ y. is_optional_value y t ≡ true) xs (Some v) (AllPass-from_list_all (λ y. is_optional_value y t) xs h) i

-- ---- values of the type of a family have its keys

abbrev family_of_value : ScalarValue → Family
family_of_value (value.Bool b) = Unsigned
family_of_value (value.Primitive p) = number_family (ptype_of p)
family_of_value (value.Utf8 bs) = Texts
family_of_value (value.Binary bs) = Bytes

same_ptype : (p q : PType) → ptype_index p ≡ ptype_index q → number_family q ≡ number_family p
same_ptype ptype.U8 ptype.U8 h = refl
same_ptype ptype.U16 ptype.U16 h = refl
same_ptype ptype.U32 ptype.U32 h = refl
same_ptype ptype.U64 ptype.U64 h = refl
same_ptype ptype.I8 ptype.I8 h = refl
same_ptype ptype.I16 ptype.I16 h = refl
same_ptype ptype.I32 ptype.I32 h = refl
same_ptype ptype.I64 ptype.I64 h = refl
same_ptype p q h = absurd (omega arith)

value_family : (v : ScalarValue) (t : DType) → is_value v t ≡ true → family_of t ≡ family_of_value v
value_family (value.Bool b) (dtype.Bool n) h = refl
value_family (value.Primitive p) (dtype.Primitive q n) h = same_ptype (ptype_of p) q (eqb-true (ptype_index (ptype_of p)) (ptype_index q) (and_parts (ptype_index (ptype_of p) == ptype_index q) (in_range p) h).0)
value_family (value.Utf8 bs) (dtype.Utf8 n) h = refl
value_family (value.Binary bs) (dtype.Binary n) h = refl
value_family v t h = absurd (true≢false (sym h))

abbrev pub is_of_numbers : Family → Bool
is_of_numbers Signed = true
is_of_numbers Unsigned = true
is_of_numbers f = false

numbers_are_of_numbers : (p : PType) → is_of_numbers (number_family p) ≡ true
numbers_are_of_numbers ptype.U8 = refl
numbers_are_of_numbers ptype.U16 = refl
numbers_are_of_numbers ptype.U32 = refl
numbers_are_of_numbers ptype.U64 = refl
numbers_are_of_numbers ptype.I8 = refl
numbers_are_of_numbers ptype.I16 = refl
numbers_are_of_numbers ptype.I32 = refl
numbers_are_of_numbers ptype.I64 = refl

number_is_no_text : (p : PValue) → number_family (ptype_of p) ≡ Texts → ⊥
number_is_no_text p s = true≢false (sym (numbers_are_of_numbers (ptype_of p)) ∙ ap is_of_numbers s)

number_is_no_bytes : (p : PValue) → number_family (ptype_of p) ≡ Bytes → ⊥
number_is_no_bytes p s = true≢false (sym (numbers_are_of_numbers (ptype_of p)) ∙ ap is_of_numbers s)

-- ---- signed numbers

signed_value : (t : DType) (v : ScalarValue) → family_of_value v ≡ Signed → is_value v t ≡ true → IsOptionalKeyOf signed_code t (signed_number (Some v)) (Some v)
signed_value t (value.Primitive (number.I8 n)) s h = (value.Primitive (number.I8 n), refl, (refl, h))
signed_value t (value.Primitive (number.I16 n)) s h = (value.Primitive (number.I16 n), refl, (refl, h))
signed_value t (value.Primitive (number.I32 n)) s h = (value.Primitive (number.I32 n), refl, (refl, h))
signed_value t (value.Primitive (number.I64 n)) s h = (value.Primitive (number.I64 n), refl, (refl, h))
signed_value t (value.Primitive (number.U8 n)) s h = absurd (cc)
signed_value t (value.Primitive (number.U16 n)) s h = absurd (cc)
signed_value t (value.Primitive (number.U32 n)) s h = absurd (cc)
signed_value t (value.Primitive (number.U64 n)) s h = absurd (cc)
signed_value t (value.Bool b) s h = absurd (cc)
signed_value t (value.Utf8 bs) s h = absurd (cc)
signed_value t (value.Binary bs) s h = absurd (cc)

pub signed_key : (t : DType) (x : Option ScalarValue) → family_of t ≡ Signed → is_optional_value x t ≡ true → IsOptionalKeyOf signed_code t (signed_number x) x
signed_key t None s h = refl
signed_key t (Some v) s h = signed_value t v (sym (value_family v t h) ∙ s) h

-- the number of an optional value is what it adds to the sum
signed_adds_value : (v : ScalarValue) → family_of_value v ≡ Signed → sum_of (v ∷ []) ≡ unwrap_or (signed_number (Some v)) (pos 0)
signed_adds_value (value.Primitive (number.I8 n)) s = omega (arith, ints)
signed_adds_value (value.Primitive (number.I16 n)) s = omega (arith, ints)
signed_adds_value (value.Primitive (number.I32 n)) s = omega (arith, ints)
signed_adds_value (value.Primitive (number.I64 n)) s = omega (arith, ints)
signed_adds_value (value.Primitive (number.U8 n)) s = absurd (cc)
signed_adds_value (value.Primitive (number.U16 n)) s = absurd (cc)
signed_adds_value (value.Primitive (number.U32 n)) s = absurd (cc)
signed_adds_value (value.Primitive (number.U64 n)) s = absurd (cc)
signed_adds_value (value.Bool b) s = absurd (cc)
signed_adds_value (value.Utf8 bs) s = absurd (cc)
signed_adds_value (value.Binary bs) s = absurd (cc)

signed_adds : (t : DType) (x : Option ScalarValue) → family_of t ≡ Signed → is_optional_value x t ≡ true → sum_of (present (x ∷ [])) ≡ unwrap_or (signed_number x) (pos 0)
signed_adds t None s h = refl
signed_adds t (Some v) s h = signed_adds_value v (sym (value_family v t h) ∙ s)

-- ---- unsigned numbers, and truths among them

unsigned_value : (t : DType) (v : ScalarValue) → family_of_value v ≡ Unsigned → is_value v t ≡ true → IsOptionalKeyOf unsigned_code t (unsigned_number (Some v)) (Some v)
unsigned_value t (value.Bool true) s h = (value.Bool true, refl, (refl, h))
unsigned_value t (value.Bool false) s h = (value.Bool false, refl, (refl, h))
unsigned_value t (value.Primitive (number.U8 n)) s h = (value.Primitive (number.U8 n), refl, (refl, h))
unsigned_value t (value.Primitive (number.U16 n)) s h = (value.Primitive (number.U16 n), refl, (refl, h))
unsigned_value t (value.Primitive (number.U32 n)) s h = (value.Primitive (number.U32 n), refl, (refl, h))
unsigned_value t (value.Primitive (number.U64 n)) s h = (value.Primitive (number.U64 n), refl, (refl, h))
unsigned_value t (value.Primitive (number.I8 n)) s h = absurd (cc)
unsigned_value t (value.Primitive (number.I16 n)) s h = absurd (cc)
unsigned_value t (value.Primitive (number.I32 n)) s h = absurd (cc)
unsigned_value t (value.Primitive (number.I64 n)) s h = absurd (cc)
unsigned_value t (value.Utf8 bs) s h = absurd (cc)
unsigned_value t (value.Binary bs) s h = absurd (cc)

pub unsigned_key : (t : DType) (x : Option ScalarValue) → family_of t ≡ Unsigned → is_optional_value x t ≡ true → IsOptionalKeyOf unsigned_code t (unsigned_number x) x
unsigned_key t None s h = refl
unsigned_key t (Some v) s h = unsigned_value t v (sym (value_family v t h) ∙ s) h

unsigned_adds_value : (v : ScalarValue) → family_of_value v ≡ Unsigned → sum_of (v ∷ []) ≡ pos (unwrap_or (unsigned_number (Some v)) 0)
unsigned_adds_value (value.Bool true) s = refl
unsigned_adds_value (value.Bool false) s = refl
unsigned_adds_value (value.Primitive (number.U8 n)) s = omega (arith, ints)
unsigned_adds_value (value.Primitive (number.U16 n)) s = omega (arith, ints)
unsigned_adds_value (value.Primitive (number.U32 n)) s = omega (arith, ints)
unsigned_adds_value (value.Primitive (number.U64 n)) s = omega (arith, ints)
unsigned_adds_value (value.Primitive (number.I8 n)) s = absurd (cc)
unsigned_adds_value (value.Primitive (number.I16 n)) s = absurd (cc)
unsigned_adds_value (value.Primitive (number.I32 n)) s = absurd (cc)
unsigned_adds_value (value.Primitive (number.I64 n)) s = absurd (cc)
unsigned_adds_value (value.Utf8 bs) s = absurd (cc)
unsigned_adds_value (value.Binary bs) s = absurd (cc)

unsigned_adds : (t : DType) (x : Option ScalarValue) → family_of t ≡ Unsigned → is_optional_value x t ≡ true → sum_of (present (x ∷ [])) ≡ pos (unwrap_or (unsigned_number x) 0)
unsigned_adds t None s h = refl
unsigned_adds t (Some v) s h = unsigned_adds_value v (sym (value_family v t h) ∙ s)

-- ---- texts and bytes

text_value_key : (t : DType) (v : ScalarValue) (k : Option (Bor (List ℕ))) → family_of_value v ≡ Texts → is_value v t ≡ true → option_copied k ≡ text_of (Some v) → IsOptionalKeyOf (λ b. bytes_code b.now) t k (Some v)
text_value_key t (value.Utf8 bs) None s h e = absurd (cc)
text_value_key t (value.Utf8 bs) (Some b) s h e = let same : b.now ≡ bs = cc in (value.Utf8 bs, refl, (ap bytes_code same, h))
text_value_key t (value.Bool b) k s h e = absurd (cc)
text_value_key t (value.Primitive p) k s h e = absurd (number_is_no_text p s)
text_value_key t (value.Binary bs) k s h e = absurd (cc)

pub text_key : (t : DType) (x : Option ScalarValue) (k : Option (Bor (List ℕ))) → family_of t ≡ Texts → is_optional_value x t ≡ true → option_copied k ≡ text_of x → IsOptionalKeyOf (λ b. bytes_code b.now) t k x
text_key t None None s h e = refl
text_key t None (Some b) s h e = absurd (cc)
text_key t (Some v) k s h e = text_value_key t v k (sym (value_family v t h) ∙ s) h e

bytes_value_key : (t : DType) (v : ScalarValue) (k : Option (Bor (List ℕ))) → family_of_value v ≡ Bytes → is_value v t ≡ true → option_copied k ≡ bytes_of (Some v) → IsOptionalKeyOf (λ b. bytes_code b.now) t k (Some v)
bytes_value_key t (value.Binary bs) None s h e = absurd (cc)
bytes_value_key t (value.Binary bs) (Some b) s h e = let same : b.now ≡ bs = cc in (value.Binary bs, refl, (ap bytes_code same, h))
bytes_value_key t (value.Bool b) k s h e = absurd (cc)
bytes_value_key t (value.Primitive p) k s h e = absurd (number_is_no_bytes p s)
bytes_value_key t (value.Utf8 bs) k s h e = absurd (cc)

pub bytes_key : (t : DType) (x : Option ScalarValue) (k : Option (Bor (List ℕ))) → family_of t ≡ Bytes → is_optional_value x t ≡ true → option_copied k ≡ bytes_of x → IsOptionalKeyOf (λ b. bytes_code b.now) t k x
bytes_key t None None s h e = refl
bytes_key t None (Some b) s h e = absurd (cc)
bytes_key t (Some v) k s h e = bytes_value_key t v k (sym (value_family v t h) ∙ s) h e

-- the bytes of an optional text that is kept as one
pub text_of_text : (text : Option (List ℕ)) → text_of (text_value text) ≡ text
text_of_text None = refl
text_of_text (Some bs) = refl

-- ---- one turn of a loop

sum_next : (xs : List (Option ScalarValue)) (i : ℕ) (x : Option ScalarValue) → slice_get xs i ≡ Some x → sum_of (present (take (i + 1) xs)) ≡ sum_of (present (take i xs)) +ℤ sum_of (present (x ∷ []))
sum_next xs i x h = ap (λ ys. sum_of (present ys)) (next_taken xs i x h) ∙ sum_of-both (take i xs) (x ∷ [])

-- what a push says of the tally
abbrev pub Pushes : {K : Type 0} → (K → Code) → Tally K → Option K → ℕ → Tally K → Type 0
Pushes code old key at new = (t : DType) (xs : List (Option ScalarValue)) (x : Option ScalarValue) → length xs ≡ at → IsOptionalKeyOf code t key x → IsTallyOf code t old xs → IsTallyOf code t new (xs ++ x ∷ [])

module _ (t : DType) (xs : List (Option ScalarValue)) (i : ℕ) (x : Option ScalarValue) (here : slice_get xs i ≡ Some x) where
  pub told_next : {K : Type 0} (code : K → Code) (old new : Tally K) (key : Option K) → Pushes code old key i new → IsOptionalKeyOf code t key x → IsTallyOf code t old (take i xs) → IsTallyOf code t new (take (i + 1) xs)
  told_next code old new key pushes is_key told =
      let long : length (take i xs) ≡ i = omega (arith, length-take i xs, slice_get_within xs i x here) in
      subst (IsTallyOf code t new) (sym (next_taken xs i x here)) (pushes t (take i xs) x long is_key told)

  pub unsigned_next : family_of t ≡ Unsigned → is_optional_value x t ≡ true → sum_of (present (take (i + 1) xs)) ≡ sum_of (present (take i xs)) +ℤ pos (unwrap_or (unsigned_number x) 0)
  unsigned_next s fits = sum_next xs i x here ∙ ap (λ n. sum_of (present (take i xs)) +ℤ n) (unsigned_adds t x s fits)

  pub signed_next : family_of t ≡ Signed → is_optional_value x t ≡ true → sum_of (present (take (i + 1) xs)) ≡ sum_of (present (take i xs)) +ℤ unwrap_or (signed_number x) (pos 0)
  signed_next s fits = sum_next xs i x here ∙ ap (λ n. sum_of (present (take i xs)) +ℤ n) (signed_adds t x s fits)

-- what was told of all values, and their sum as a number of its type
module _ (t : DType) (xs : List (Option ScalarValue)) (i : ℕ) (past : length xs ≤ i) where
  pub told_all : {K : Type 0} (code : K → Code) (tally : Tally K) → IsTallyOf code t tally (take i xs) → IsTallyOf code t tally xs
  told_all code tally told = subst (IsTallyOf code t tally) (take_all i xs past) told

  pub summed_all : (s : DType) (sum : Option PValue) (n : ℤ) → option_map value.Primitive sum ≡ number_in (Some s) n → n ≡ sum_of (present (take i xs)) → stat_dtype Sum t ≡ Some s
      → option_map value.Primitive sum ≡ number_in (stat_dtype Sum t) (sum_of (present xs))
  summed_all s sum n h summed e = h ∙ ap (number_in (Some s)) (summed ∙ ap (λ ys. sum_of (present ys)) (take_all i xs past)) ∙ ap (λ o. number_in o (sum_of (present xs))) (sym e)

-- ---- the types of sums

pub unsigned_sum_dtype : (t : DType) → family_of t ≡ Unsigned → stat_dtype Sum t ≡ Some (dtype.Primitive ptype.U64 Nullable)
unsigned_sum_dtype (dtype.Bool n) s = refl
unsigned_sum_dtype (dtype.Primitive ptype.U8 n) s = refl
unsigned_sum_dtype (dtype.Primitive ptype.U16 n) s = refl
unsigned_sum_dtype (dtype.Primitive ptype.U32 n) s = refl
unsigned_sum_dtype (dtype.Primitive ptype.U64 n) s = refl
unsigned_sum_dtype (dtype.Primitive ptype.I8 n) s = absurd (cc)
unsigned_sum_dtype (dtype.Primitive ptype.I16 n) s = absurd (cc)
unsigned_sum_dtype (dtype.Primitive ptype.I32 n) s = absurd (cc)
unsigned_sum_dtype (dtype.Primitive ptype.I64 n) s = absurd (cc)
unsigned_sum_dtype dtype.Null s = absurd (cc)
unsigned_sum_dtype (dtype.Utf8 n) s = absurd (cc)
unsigned_sum_dtype (dtype.Binary n) s = absurd (cc)
unsigned_sum_dtype (dtype.MinMaxState e n) s = absurd (cc)

-- what is not of numbers has no sum
pub no_sum : (t : DType) (n : ℤ) → is_of_numbers (family_of t) ≡ false → option_map value.Primitive None ≡ number_in (stat_dtype Sum t) n
no_sum dtype.Null n h = refl
no_sum (dtype.Utf8 m) n h = refl
no_sum (dtype.Binary m) n h = refl
no_sum (dtype.MinMaxState e m) n h = refl
no_sum (dtype.Bool m) n h = absurd (true≢false h)
no_sum (dtype.Primitive p m) n h = absurd (true≢false (sym (numbers_are_of_numbers p) ∙ h))

pub signed_sum_dtype : (t : DType) → family_of t ≡ Signed → stat_dtype Sum t ≡ Some (dtype.Primitive ptype.I64 Nullable)
signed_sum_dtype (dtype.Primitive ptype.I8 n) s = refl
signed_sum_dtype (dtype.Primitive ptype.I16 n) s = refl
signed_sum_dtype (dtype.Primitive ptype.I32 n) s = refl
signed_sum_dtype (dtype.Primitive ptype.I64 n) s = refl
signed_sum_dtype (dtype.Primitive ptype.U8 n) s = absurd (cc)
signed_sum_dtype (dtype.Primitive ptype.U16 n) s = absurd (cc)
signed_sum_dtype (dtype.Primitive ptype.U32 n) s = absurd (cc)
signed_sum_dtype (dtype.Primitive ptype.U64 n) s = absurd (cc)
signed_sum_dtype dtype.Null s = absurd (cc)
signed_sum_dtype (dtype.Bool n) s = absurd (cc)
signed_sum_dtype (dtype.Utf8 n) s = absurd (cc)
signed_sum_dtype (dtype.Binary n) s = absurd (cc)
signed_sum_dtype (dtype.MinMaxState e n) s = absurd (cc)

-- ---- cells that can't be of the type hold nulls alone

pub no_values : (t : DType) (xs : List (Option ScalarValue)) → all_fit t xs ≡ true → ((v : ScalarValue) → Contains xs (Some v) → family_of t ≡ family_of_value v → ⊥) → present xs ≡ []
no_values t [] fits differ = refl
no_values t (None ∷ xs) fits differ = no_values t xs (and_parts (is_optional_value None t) (all_fit t xs) fits).1 (λ v i. differ v (contains_later None (Some v) xs i))
no_values t (Some v ∷ xs) fits differ = absurd (differ v (contains_first (Some v) xs) (value_family v t (and_parts (is_value v t) (all_fit t xs) fits).0))

abbrev is_of_nulls : Family → Bool
is_of_nulls Nulls = true
is_of_nulls f = false

number_is_something : (p : PType) → is_of_nulls (number_family p) ≡ false
number_is_something ptype.U8 = refl
number_is_something ptype.U16 = refl
number_is_something ptype.U32 = refl
number_is_something ptype.U64 = refl
number_is_something ptype.I8 = refl
number_is_something ptype.I16 = refl
number_is_something ptype.I32 = refl
number_is_something ptype.I64 = refl

value_is_something : (v : ScalarValue) → is_of_nulls (family_of_value v) ≡ false
value_is_something (value.Bool b) = refl
value_is_something (value.Primitive p) = number_is_something (ptype_of p)
value_is_something (value.Utf8 bs) = refl
value_is_something (value.Binary bs) = refl

pub nothing_of_nulls : (t : DType) (xs : List (Option ScalarValue)) → all_fit t xs ≡ true → family_of t ≡ Nulls → present xs ≡ []
nothing_of_nulls t xs fits none = no_values t xs fits (λ v i same. true≢false (sym (ap is_of_nulls none) ∙ ap is_of_nulls same ∙ value_is_something v))
