-- What holds before a place, and at it.
use Rattle.std.proofs.Common.{◌≡◌, ◌≢◌, ◌<◌, ◌+◌, ℕ, List, Result, Ok, Err, slice_index_or, sym, subst, arith, inl, inr}
use Rattle.std.proofs.Math.Nat.{eq-or-lt_of_le}
use Rattle.vortex_base.specs.Data.Columns.{ColumnData}
use Rattle.vortex_capi.specs.Checks.{IsVerdict}
use Rattle.vortex_capi.specs.declared.fault.Refusal.{Refusal}
use Rattle.vortex_capi.specs.declared.statistic.Statistic.{Statistic}
use Rattle.vortex_capi.specs.declared.status.Status.TheVariants.{NoMemory}

pub before_next : {X : Type 0} (P : X → Type 0) (xs : List X) (i : ℕ) → ((k : ℕ) (d : X) → k < i → P (slice_index_or xs k d)) → ((d : X) → P (slice_index_or xs i d)) → (k : ℕ) (d : X) → k < i + 1 → P (slice_index_or xs k d)
before_next P xs i before holds k d h = elim (eq-or-lt_of_le {n = k} {m = i} (omega (arith, h))) [
  | inl e ↦ subst (λ m. P (slice_index_or xs m d)) (sym e) (holds d)
  | inr less ↦ before k d less
]

-- a column that is refused, or for which memory is
pub refused_column : (given : Result ColumnData Refusal) (rows zone : ℕ) (xs : List Statistic) (r : Refusal) → (r.status ≢ NoMemory → given ≡ Err r) → IsVerdict given rows zone xs (Err r)
refused_column (Ok c) rows zone xs r h = record {
  same = λ _ not_memory. let never : Ok c ≡ Err r = h not_memory in absurd cc;
  other = λ _ not_memory. let never : Ok c ≡ Err r = h not_memory in absurd cc;
}
refused_column (Err e) rows zone xs r h = λ not_memory. let same : Err e ≡ Err r = h not_memory in cc
