-- Nulls of a column that keeps which of its values are there.
use Rattle.std.proofs.Common.{◌≡◌, ◌+◌, ℕ, Bool, true, false, cond, fold, not, List, [], ◌∷◌, count_by, is_none, length, map, option_map, refl, arith}
use Rattle.vortex_base.specs.Data.PrimitiveArray.{optionals}
use Rattle.vortex_base.specs.declared.scalar_value.ScalarValue.{ScalarValue}

-- the same behind some that were counted
counted_from : {X : Type 0} (f : X → ScalarValue) (xs : List X) (ts : List Bool) (n : ℕ) → length xs ≡ length ts
    → fold (λ a t. a + cond (not t) 1 0) n ts ≡ fold (λ a v. a + cond (is_none v) 1 0) n (map (option_map f) (optionals xs ts))
counted_from f [] [] n h = refl
counted_from f [] (t ∷ ts) n h = absurd (omega arith)
counted_from f (x ∷ xs) [] n h = absurd (omega arith)
counted_from f (x ∷ xs) (true ∷ ts) n h = counted_from f xs ts (n + 0) (omega arith)
counted_from f (x ∷ xs) (false ∷ ts) n h = counted_from f xs ts (n + 1) (omega arith)

-- as many are null as are told not to be there
pub nulls_are_told : {X : Type 0} (f : X → ScalarValue) (xs : List X) (ts : List Bool) → length xs ≡ length ts → count_by not ts ≡ count_by is_none (map (option_map f) (optionals xs ts))
nulls_are_told f xs ts h = counted_from f xs ts 0 h
