-- A true set entry by entry, and by what is looked up.
use Rattle.std.proofs.Common.{◌≡◌, zero, suc, Bool, true, false, cond, List, [], ◌∷◌, refl, sym, subst, arith}
use Rattle.std.specs.Prelude.{Contains, IsTrue, ◌↔◌}
use Rattle.vortex_base.specs.declared.scalar_value.ScalarValue.{ScalarValue}
use Rattle.vortex_base.specs.Data.Columns.{ColumnData}
use Rattle.vortex_stats.specs.declared.stat.Stat.{Stat}
use Rattle.vortex_stats.specs.declared.precision.Precision.{Precision}
use Rattle.vortex_stats.specs.Sets.Claims.{Claims, IsTrueOf}
use Rattle.vortex_stats.specs.Sets.Entries.{is_entry_of, has_entry, entry_value, value_fits, entries_fit, AreDistinct}
use Rattle.vortex_stats.specs.Stat.{same_from_stat_eq, stat_eq-itself}
use Rattle.vortex_stats.proofs.Bounds.Ascending.{contains_first, contains_later}
use Rattle.vortex_stats.proofs.Logic.{and_first, and_second}
use Rattle.vortex_stats.proofs.Truth.MergedTruth.{absent_claims}
use Rattle.vortex_stats.proofs.Sets.Places.{entry_value-none}

module _ (c : ColumnData) where
  -- the first entry is the one that is looked up
  pub first_claims : (e : Stat × Precision ScalarValue) (es : List (Stat × Precision ScalarValue)) → IsTrueOf (e ∷ es) c → Claims e.0 e.1 c
  first_claims e es h = subst (λ b. Claims e.0 (cond b e.1 (entry_value e.0 es)) c) (stat_eq-itself e.0) (h.claims e.0)

  pub first_fits : (e : Stat × Precision ScalarValue) (es : List (Stat × Precision ScalarValue)) → IsTrueOf (e ∷ es) c → value_fits e.0 c.dtype e.1 ≡ true
  first_fits e es h = and_first (value_fits e.0 c.dtype e.1) (entries_fit es c.dtype) h.fits

  later_step : (e : Stat × Precision ScalarValue) (es : List (Stat × Precision ScalarValue)) (s : Stat) (b : Bool) → is_entry_of s e ≡ b → has_entry e.0 es ≡ false
      → Claims s (cond b e.1 (entry_value s es)) c → Claims s (entry_value s es) c
  later_step e es s true i n h = subst (λ r. Claims r (entry_value r es) c) (same_from_stat_eq e.0 s i) (subst (λ p. Claims e.0 p c) (sym (entry_value-none e.0 es n)) (absent_claims e.0 c))
  later_step e es s false i n h = h

  -- so are those after it, each being of another statistic
  pub rest_is_true : (e : Stat × Precision ScalarValue) (es : List (Stat × Precision ScalarValue)) → IsTrueOf (e ∷ es) c → has_entry e.0 es ≡ false → IsTrueOf es c
  rest_is_true e es h n = record {
    fits = and_second (value_fits e.0 c.dtype e.1) (entries_fit es c.dtype) h.fits;
    claims = λ s. later_step e es s (is_entry_of s e) refl n (h.claims s);
  }

  each_claims : (es : List (Stat × Precision ScalarValue)) → AreDistinct es → IsTrueOf es c → (e : Stat × Precision ScalarValue) → Contains es e → Claims e.0 e.1 c
  each_claims [] d h e i = absurd (omega (arith, i.1))
  each_claims (x ∷ es) d h e (zero, l, r) = subst (λ y. Claims y.0 y.1 c) r (first_claims x es h)
  each_claims (x ∷ es) d h e (suc k, l, r) = each_claims es d.1 (rest_is_true x es h d.0) e (k, omega arith, r)

  found_step : (x : Stat × Precision ScalarValue) (s : Stat) (p : Precision ScalarValue) (b : Bool) → is_entry_of s x ≡ b → Claims x.0 x.1 c → Claims s p c → Claims s (cond b x.1 p) c
  found_step x s p true i h k = subst (λ r. Claims r x.1 c) (same_from_stat_eq x.0 s i) h
  found_step x s p false i h k = k

  found_claims : (es : List (Stat × Precision ScalarValue)) → ((e : Stat × Precision ScalarValue) → Contains es e → Claims e.0 e.1 c) → (s : Stat) → Claims s (entry_value s es) c
  found_claims [] h s = absent_claims s c
  found_claims (x ∷ es) h s =
      found_step x s (entry_value s es) (is_entry_of s x) refl (h x (contains_first x es)) (found_claims es (λ e i. h e (contains_later x e es i)) s)

  -- a set that fits is true exactly if each of its entries claims what holds
  pub true_by_entry : (es : List (Stat × Precision ScalarValue)) → AreDistinct es → IsTrue (entries_fit es c.dtype) → IsTrueOf es c ↔ ((e : Stat × Precision ScalarValue) → Contains es e → Claims e.0 e.1 c)
  true_by_entry es d f = (each_claims es d, λ h. record { fits = f; claims = found_claims es h })
