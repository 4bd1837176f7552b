-- Which rows that a scan selects are the same.
use Rattle.std.specs.Prelude.{◌&&◌, ◌==◌, ℕ, Bool, List}
use Rattle.std.proofs.Common.{ap, refl, rules}
use lib.Pointwise.{pointwise, pointwise_decides}
use Rattle.vortex_base.specs.Data.Exact.{IsExact, both_true}

-- two are the same row
abbrev pub row_eq : ℕ × ℕ → ℕ × ℕ → Bool
row_eq a b = (a.0 == b.0) && (a.1 == b.1)

-- and all, in order
abbrev pub rows_eq : List (ℕ × ℕ) → List (ℕ × ℕ) → Bool
rows_eq = pointwise row_eq

number_eq_is_exact : IsExact {K = ℕ} (λ m n. m == n)
number_eq_is_exact m n = search rules

row_eq_is_exact : IsExact row_eq
row_eq_is_exact a b = (
  λ e.
      let both = both_true _ _ e in
      λ i. ((number_eq_is_exact a.0 b.0).0 both.0 i, (number_eq_is_exact a.1 b.1).0 both.1 i),
  λ e. rw ((number_eq_is_exact a.0 b.0).1 (ap (λ (r : ℕ × ℕ). r.0) e), (number_eq_is_exact a.1 b.1).1 (ap (λ (r : ℕ × ℕ). r.1) e)) refl,
)

pub rows_eq_is_exact : IsExact rows_eq
rows_eq_is_exact = pointwise_decides row_eq_is_exact
