-- The values of a column by the form in which they are kept.
use Rattle.std.proofs.Common.{◌≡◌, ◌<◌, ◌+◌, ◌&&◌, ℕ, zero, suc, true, false, List, [], ◌∷◌, ◌++◌, Option, None, length, map, option_map, replicate, set, take, slice_get, refl, ap, sym, ◌∙◌, min, add-one, arith}
use Rattle.std.proofs.lemmas.List.Folds.{list_all-append}
use Rattle.vortex_base.specs.Data.Columns.{all_fit, value_at}
use Rattle.vortex_base.specs.Data.PrimitiveArray.{native_at}
use Rattle.vortex_base.specs.Data.Scalars.{is_optional_value}
use Rattle.vortex_base.specs.declared.dtype.DType.{DType}
use Rattle.vortex_base.specs.declared.scalar_value.ScalarValue.{ScalarValue}

-- nulls are null in any form
pub mapped_nulls : {X Y : Type 0} (f : X → Y) (n : ℕ) → map (option_map f) (replicate n None) ≡ replicate n None
mapped_nulls f zero = refl
mapped_nulls f (suc n) = ap (λ xs. None ∷ xs) (mapped_nulls f n)

pub taken_nulls : {X : Type 0} (n m : ℕ) → take n (replicate {A = Option X} m None) ≡ replicate (min n m) None
taken_nulls {X} zero m =
    let none : 0 ≡ min zero m = omega arith in
    ap (λ k. replicate {A = Option X} k None) none
taken_nulls {X} (suc n) zero =
    let none : 0 ≡ min (suc n) zero = omega arith in
    ap (λ k. replicate {A = Option X} k None) none
taken_nulls {X} (suc n) (suc m) =
    let less : min (suc n) (suc m) ≡ suc (min n m) = omega arith in
    ap (λ xs. None ∷ xs) (taken_nulls n m) ∙ ap (λ k. replicate {A = Option X} k None) (sym less)

pub more_nulls : {X : Type 0} (n m : ℕ) → replicate {A = Option X} (n + m) None ≡ replicate n None ++ replicate m None
more_nulls {X} zero m =
    let same : zero + m ≡ m = omega arith in
    ap (λ k. replicate {A = Option X} k None) same
more_nulls {X} (suc n) m =
    let more : suc n + m ≡ suc (n + m) = omega arith in
    ap (λ k. replicate {A = Option X} k None) more ∙ ap (λ xs. None ∷ xs) (more_nulls n m)

pub set_null : {X : Type 0} (n i : ℕ) → set (replicate {A = Option X} n None) i None ≡ replicate n None
set_null zero i = refl
set_null (suc n) zero = refl
set_null (suc n) (suc i) = ap (λ xs. None ∷ xs) (set_null n i)

-- one more of the first values
pub taken_more : (vs : List (Option ScalarValue)) (i : ℕ) → i < length vs → take (i + 1) vs ≡ take i vs ++ value_at (slice_get vs i) ∷ []
taken_more [] i within = absurd (omega arith)
taken_more (v ∷ vs) zero within = refl
taken_more (v ∷ vs) (suc i) within = rw add-one (rw add-one at (ap (λ xs. v ∷ xs) (taken_more vs i (omega arith))))

-- the value at a place in its form
pub mapped_at : {X : Type 0} (f : X → ScalarValue) (xs : List (Option X)) (i : ℕ) → value_at (slice_get (map (option_map f) xs) i) ≡ option_map f (native_at (slice_get xs i))
mapped_at f [] i = refl
mapped_at f (x ∷ xs) zero = refl
mapped_at f (x ∷ xs) (suc i) = mapped_at f xs i

-- the first values fit a type, and one more does or doesn't
pub fit_more : (t : DType) (vs : List (Option ScalarValue)) (i : ℕ) → i < length vs → all_fit t (take i vs) ≡ true → is_optional_value (value_at (slice_get vs i)) t ≡ true → all_fit t (take (i + 1) vs) ≡ true
fit_more t vs i within h here =
    ap (all_fit t) (taken_more vs i within) ∙ list_all-append (λ v. is_optional_value v t) (take i vs) (value_at (slice_get vs i) ∷ []) ∙ rw (h, here) refl

pub fit_not : (t : DType) (vs : List (Option ScalarValue)) (i : ℕ) → i < length vs → is_optional_value (value_at (slice_get vs i)) t ≡ false → all_fit t vs ≡ false
fit_not t [] i within here = absurd (omega arith)
fit_not t (v ∷ vs) zero within here = ap (λ b. b && all_fit t vs) here
fit_not t (v ∷ vs) (suc i) within here = elim (is_optional_value v t) as (λ b. (b && all_fit t vs) ≡ false) [ true ↦ fit_not t vs i (omega arith) here | false ↦ refl ]

pub fit_nulls : (t : DType) (n : ℕ) → is_optional_value None t ≡ true → all_fit t (replicate n None) ≡ true
fit_nulls t zero h = refl
fit_nulls t (suc n) h = ap (λ b. b && all_fit t (replicate n None)) h ∙ fit_nulls t n h
