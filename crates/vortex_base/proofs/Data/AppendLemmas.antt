-- What is appended to lists and columns.
use Rattle.std.proofs.Common.{◌≡◌, ◌<◌, ◌+◌, ◌^◌, ◌&&◌, ℕ, zero, suc, nat_lt, [], true, List, ◌∷◌, ◌++◌, Option, Result, Ok, Err, IsOk, is_ok, if◌then◌else◌, length, set, get_or, take, refl, sym, ap, ◌∙◌, add-one, arith, rules}
use Rattle.std.proofs.lemmas.List.{get_or-set_same, set-get_or}
use Rattle.std.proofs.lemmas.List.Folds.{list_all-append}
use Rattle.std.specs.List.{list_all, zip}
use Rattle.vortex_base.specs.Data.Columns.{ColumnData, all_appended, all_fit, appended, can_append, sizes_fit}
use Rattle.vortex_base.specs.Data.Exact.{both_hold, both_true}
use Rattle.vortex_base.specs.Data.Scalars.{is_optional_value}
use Rattle.vortex_base.specs.Data.Types.{dtype_eq_is_exact}
use Rattle.vortex_base.specs.declared.dtype.DType.{DType}
use Rattle.vortex_base.specs.declared.scalar_value.ScalarValue.{ScalarValue}

-- a list once a call that appends to it succeeds, as it does where there is room
pub appended_in_room : {X T E : Type 0} (r : Result T E) (xs ys zs : List X) → zs ≡ (if is_ok r then xs ++ ys else xs) → IsOk r → zs ≡ xs ++ ys
appended_in_room (Ok t) xs ys zs h ok = h
appended_in_room (Err e) xs ys zs h ok = absurd (search rules)

-- two columns that may be appended are of one type
pub same_type : (c d : ColumnData) (cs ds : List ColumnData) → can_append (c ∷ cs) (d ∷ ds) ≡ true → c.dtype ≡ d.dtype
same_type c d cs ds h = (dtype_eq_is_exact c.dtype d.dtype).0 (both_true _ _ (both_true _ _ h).0).0

pub both_fit : (t : DType) (xs ys : List (Option ScalarValue)) → all_fit t xs ≡ true → all_fit t ys ≡ true → all_fit t (xs ++ ys) ≡ true
both_fit t xs ys p q = list_all-append (λ v. is_optional_value v t) xs ys ∙ rw (p, q) refl

-- the sizes of all pairs of columns fit
pub all_sizes_fit : (cs ds : List ColumnData) → list_all (λ p. nat_lt (p.0.size + p.1.size) (2 ^ 64)) (zip cs ds) ≡ sizes_fit cs ds
all_sizes_fit [] [] = refl
all_sizes_fit [] (d ∷ ds) = refl
all_sizes_fit (c ∷ cs) [] = refl
all_sizes_fit (c ∷ cs) (d ∷ ds) = ap (λ b. nat_lt (c.size + d.size) (2 ^ 64) && b) (all_sizes_fit cs ds)

-- ---- columns to which those beside them are appended one by one

pub length-all_appended : (cs ds : List ColumnData) → length (all_appended cs ds) ≡ length cs
length-all_appended [] [] = refl
length-all_appended [] (d ∷ ds) = refl
length-all_appended (c ∷ cs) [] = refl
length-all_appended (c ∷ cs) (d ∷ ds) = ap suc (length-all_appended cs ds)

pub none_appended : (cs : List ColumnData) → all_appended cs [] ≡ cs
none_appended [] = refl
none_appended (c ∷ cs) = refl

-- columns that may be appended are as many
pub as_many : (cs ds : List ColumnData) → can_append cs ds ≡ true → length cs ≡ length ds
as_many [] [] h = refl
as_many [] (d ∷ ds) h = cc
as_many (c ∷ cs) [] h = cc
as_many (c ∷ cs) (d ∷ ds) h = ap suc (as_many cs ds (both_true _ _ h).1)

-- and so may each alone
pub can_append_at : (cs ds : List ColumnData) (i : ℕ) (c d : ColumnData) → can_append cs ds ≡ true → i < length cs → can_append (get_or cs i c ∷ []) (get_or ds i d ∷ []) ≡ true
can_append_at [] ds i c d h within = absurd (omega arith)
can_append_at (x ∷ cs) [] i c d h within = cc
can_append_at (x ∷ cs) (y ∷ ds) zero c d h within = both_hold _ _ (both_true _ _ h).0 refl
can_append_at (x ∷ cs) (y ∷ ds) (suc i) c d h within = can_append_at cs ds i c d (both_true _ _ h).1 (omega arith)

-- the next column is as it was
pub next_as_it_was : (cs ds : List ColumnData) (i : ℕ) (c : ColumnData) → get_or (all_appended cs (take i ds)) i c ≡ get_or cs i c
next_as_it_was [] ds i c = refl
next_as_it_was (x ∷ cs) ds zero c = refl
next_as_it_was (x ∷ cs) [] (suc i) c = refl
next_as_it_was (x ∷ cs) (y ∷ ds) (suc i) c = next_as_it_was cs ds i c

-- one more is appended
pub one_more_appended : (cs ds : List ColumnData) (i : ℕ) (c d : ColumnData) → i < length cs → i < length ds
    → all_appended cs (take (i + 1) ds) ≡ set (all_appended cs (take i ds)) i (appended (get_or cs i c) (get_or ds i d))
one_more_appended [] ds i c d within beside = absurd (omega arith)
one_more_appended (x ∷ cs) [] i c d within beside = absurd (omega arith)
one_more_appended (x ∷ cs) (y ∷ ds) zero c d within beside = ap (λ zs. appended x y ∷ zs) (none_appended cs)
one_more_appended (x ∷ cs) (y ∷ ds) (suc i) c d within beside =
    rw add-one (ap (λ zs. appended x y ∷ zs) (rw add-one at (one_more_appended cs ds i c d (omega arith) (omega arith))))

set_twice : {X : Type 0} (xs : List X) (i : ℕ) (x y : X) → set (set xs i x) i y ≡ set xs i y
set_twice [] i x y = refl
set_twice (z ∷ xs) zero x y = refl
set_twice (z ∷ xs) (suc i) x y = ap (λ zs. z ∷ zs) (set_twice xs i x y)

-- the last that was appended
pub last_appended : (cs ds : List ColumnData) (i : ℕ) (c d : ColumnData) → i < length cs → i < length ds
    → get_or (all_appended cs (take (i + 1) ds)) i c ≡ appended (get_or cs i c) (get_or ds i d)
last_appended cs ds i c d within beside =
    ap (λ zs. get_or zs i c) (one_more_appended cs ds i c d within beside)
    ∙ get_or-set_same (all_appended cs (take i ds)) i (appended (get_or cs i c) (get_or ds i d)) c (omega (arith, within, length-all_appended cs (take i ds)))

-- and without it
pub last_taken_back : (cs ds : List ColumnData) (i : ℕ) (c d : ColumnData) → i < length cs → i < length ds
    → set (all_appended cs (take (i + 1) ds)) i (get_or cs i c) ≡ all_appended cs (take i ds)
last_taken_back cs ds i c d within beside =
    ap (λ zs. set zs i (get_or cs i c)) (one_more_appended cs ds i c d within beside)
    ∙ set_twice (all_appended cs (take i ds)) i _ (get_or cs i c)
    ∙ ap (λ x. set (all_appended cs (take i ds)) i x) (sym (next_as_it_was cs ds i c))
    ∙ set-get_or (all_appended cs (take i ds)) i c
