-- Places in a heap, and calls that add some.
use Rattle.std.proofs.Common.{◌≡◌, ◌≤◌, ℕ, zero, suc, false, List, [], ◌∷◌, ◌++◌, Result, Ok, Err, length, refl, arith}
use Rattle.std.specs.Result.{is_err, OnOk}
use Rattle.vortex_base.specs.Data.VarBinArray.{start_at}

-- the place before one of the first or just behind them
pub start_at-front : (n start : ℕ) (xs ys : List ℕ) → n ≤ length xs → start_at start (xs ++ ys) n ≡ start_at start xs n
start_at-front zero start xs ys low = refl
start_at-front (suc n) start [] ys low = absurd (omega arith)
start_at-front (suc n) start (x ∷ xs) ys low = start_at-front n x xs ys (omega arith)

-- a call that isn't refused keeps its promise
pub unless_refused : {T E : Type 0} (P : Type 0) (r : Result T E) → is_err r ≡ false → OnOk r P → P
unless_refused P (Ok t) is h = h
unless_refused P (Err e) is h = cc
