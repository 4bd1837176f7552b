-- What the falsifiers of null tests and of connectives are told.
use Rattle.std.proofs.Common.{◌≡◌, ◌==◌, ℕ, Bool, true, false, ◌&&◌, ◌||◌, [], Option, Some, None, refl, sym, ap, ap₂, subst, ◌∙◌, nat_lt, if◌then◌else◌}
use Rattle.std.proofs.lemmas.Bool.{eq-eqb, or_right}
use Rattle.std.proofs.lemmas.Option.{none-some, same_Some}
use Rattle.vortex_base.specs.Data.Values.{value_cmp}
use Rattle.vortex_base.specs.declared.aggregate.AggregateFnRef.TheVariants.{NullCount, AllNull, AllNonNull}
use Rattle.vortex_base.specs.declared.scalar_value.ScalarValue.{ScalarValue}
use Rattle.vortex_base.specs.declared.scalar_value.ScalarValue.TheVariants as value
use Rattle.vortex_expr.specs.Meanings.Meaning.{compared, holds, is_true, truth_value}
use Rattle.vortex_expr.specs.Trees.Tree.{Tree, Place, column, binary, is_null, is_not_null, stat, row_count}
use Rattle.vortex_expr.specs.declared.scalar_fn.Operator.TheVariants.{And, Eq, Or}
use Rattle.vortex_normal.proofs.Columns.{eqb_same}
use Rattle.vortex_zone_map.specs.StatValues.{all_non_null_value, all_null_value, count_of, null_count_value, of_count}
use Rattle.vortex_rewrite.proofs.Completeness.Decided.{one_proof}
use Rattle.vortex_rewrite.proofs.Soundness.TruthLogic.{clash, refuted, true_and, true_or}
use Rattle.vortex_rewrite.proofs.Soundness.ValueTests.{by_order, eq_le, le_antisym, le_refl}
use Rattle.vortex_rewrite.specs.Rewriting.Falsifiers.{count_literal, falsifier, node, reduce_balanced}
use Rattle.vortex_rewrite.specs.Rewriting.Proof.{Assignment, value_under}
use Rattle.vortex_stats.specs.Sets.Claims.{count_value}
use Rattle.vortex_stats.specs.declared.precision.Precision.{Precision}
use Rattle.vortex_stats.specs.declared.precision.Precision.TheVariants.{Exact, Inexact, Absent}

-- ---- counts

pub same_count : (k m : ℕ) → count_value k ≡ count_value m → k ≡ m
same_count k m h = cc

counts_compared : (k m : ℕ) (b : Bool) → (k == m) ≡ b → holds Eq (value_cmp (count_value k) (count_value m)) ≡ b
counts_compared k m true h = subst (λ (j : ℕ). holds Eq (value_cmp (count_value k) (count_value j)) ≡ true) (eqb_same k m h) (by_order Eq (count_value k) (count_value k) true true (le_refl (count_value k)) (le_refl (count_value k)))
counts_compared k m false h =
    refuted (holds Eq (value_cmp (count_value k) (count_value m)))
    (λ e. let le = eq_le (count_value k) (count_value m) e in clash (eq-eqb k m (same_count k m (le_antisym (count_value k) (count_value m) le.0 le.1))) h)

absorbed : (a b : Bool) → (b ≡ true → a ≡ true) → (a || b) ≡ a
absorbed true b f = refl
absorbed false true f = sym (f refl)
absorbed false false f = refl

-- ---- what a null count answers

never_true : (b : Bool) → is_true (if b then Some (value.Bool false) else None) ≡ true → ⊥
never_true true h = cc
never_true false h = cc

less_told : (o : Option ℕ) (n : ℕ) → is_true (of_count o (λ c. if nat_lt c n then Some (value.Bool false) else None)) ≡ true → ⊥
less_told None n h = cc
less_told (Some c) n h = never_true (nat_lt c n) h

zero_if : (b : Bool) (k : ℕ) → (if b then Some (count_value 0) else None) ≡ Some (count_value k) → (k == 0) ≡ true
zero_if true k h = eq-eqb k 0 (sym (same_count 0 k (same_Some _ _ h)))
zero_if false k h = absurd (none-some (count_value k) h)

zero_told : (o : Option ℕ) (k : ℕ) → of_count o (λ c. if c == 0 then Some (count_value 0) else None) ≡ Some (count_value k) → (k == 0) ≡ true
zero_told None k h = absurd (none-some (count_value k) h)
zero_told (Some c) k h = zero_if (c == 0) k h

-- a known null count answers whether all cells are null, and whether none is
pub every_told : (p : Precision ScalarValue) (k n : ℕ) → null_count_value p ≡ Some (count_value k) → is_true (all_null_value p n) ≡ true → (k == n) ≡ true
every_told (Exact v) k n is h = sym (ap (λ w. is_true (all_null_value (Exact w) n)) (same_Some v (count_value k) is)) ∙ h
every_told (Inexact v) k n is h = absurd (less_told (count_of v) n h)
every_told Absent k n is h = absurd (none-some (count_value k) is)

pub none_told : (p : Precision ScalarValue) (k : ℕ) → null_count_value p ≡ Some (count_value k) → is_true (all_non_null_value p) ≡ true → (k == 0) ≡ true
none_told (Exact v) k is h = sym (ap (λ w. is_true (all_non_null_value (Exact w))) (same_Some v (count_value k) is)) ∙ h
none_told (Inexact v) k is h = zero_told (count_of v) k is
none_told Absent k is h = absurd (none-some (count_value k) is)

module _ (A : Assignment) (n : ℕ) where
  -- the built-in falsifier of a predicate is true, or isn't
  pub record Says (s : Tree Place) (b : Bool) : Type 0 where
    pub proof : Tree Place
    pub proof_is : falsifier [] s ≡ Some proof
    pub told : is_true (value_under A n proof) ≡ b

  pub moved_says : (s : Tree Place) (a b : Bool) → a ≡ b → Says s a → Says s b
  moved_says s a b e h = record { proof = h.proof; proof_is = h.proof_is; told = h.told ∙ e }

  -- ---- connectives

  pub and_says : (x y : Tree Place) (a b : Bool) → Says x a → Says y b → Says (binary And x y) (a || b)
  and_says x y a b h k = record {
    proof = binary Or h.proof k.proof;
    proof_is = rw (h.proof_is, k.proof_is) (one_proof (binary And x y) (binary Or h.proof k.proof));
    told = true_or (value_under A n h.proof) (value_under A n k.proof) ∙ ap₂ ◌||◌ h.told k.told;
  }

  pub or_says : (x y : Tree Place) (a b : Bool) → Says x a → Says y b → Says (binary Or x y) (a && b)
  or_says x y a b h k = record {
    proof = binary And h.proof k.proof;
    proof_is = rw (h.proof_is, k.proof_is) (one_proof (binary Or x y) (binary And h.proof k.proof));
    told = true_and (value_under A n h.proof) (value_under A n k.proof) ∙ ap₂ ◌&&◌ h.told k.told;
  }

  -- an AND whose second side is falsified is too, whatever stands at its first
  pub and_true : (x y : Tree Place) → Says y true → Says (binary And x y) true
  and_true x y k = by_first (falsifier [] x) refl
    where
      by_first : (o : Option (Tree Place)) → falsifier [] x ≡ o → Says (binary And x y) true
      by_first None e = record {
        proof = k.proof;
        proof_is = rw (e, k.proof_is) (one_proof (binary And x y) k.proof);
        told = k.told;
      }
      by_first (Some p) e = record {
        proof = binary Or p k.proof;
        proof_is = rw (e, k.proof_is) (one_proof (binary And x y) (binary Or p k.proof));
        told = true_or (value_under A n p) (value_under A n k.proof) ∙ or_right (is_true (value_under A n p)) (is_true (value_under A n k.proof)) k.told;
      }

  -- ---- null tests

  -- the answers over a column that has so many nulls
  pub record KnowsNulls (c : Place) (k : ℕ) : Type 0 where
    pub count : A NullCount (column c) ≡ Some (count_value k)
    pub every : is_true (A AllNull (column c)) ≡ true → (k == n) ≡ true
    pub none : is_true (A AllNonNull (column c)) ≡ true → (k == 0) ≡ true

  counted : (c : Place) (k m : ℕ) (e : Tree Place) → A NullCount (column c) ≡ Some (count_value k) → value_under A n e ≡ Some (count_value m) → is_true (value_under A n (binary Eq (stat NullCount (column c)) e)) ≡ (k == m)
  counted c k m e count is = (λ i. is_true (truth_value (compared Eq (count i) (is i)))) ∙ counts_compared k m (k == m) refl

  -- a test for values is falsified where all cells are null
  pub not_null_says : (c : Place) (k : ℕ) → KnowsNulls c k → Says (is_not_null (column c)) (k == n)
  unfolding node reduce_balanced
  not_null_says c k h = record {
    proof = binary Or (binary Eq (stat NullCount (column c)) row_count) (stat AllNull (column c));
    proof_is = refl;
    told =
        true_or (value_under A n (binary Eq (stat NullCount (column c)) row_count)) (A AllNull (column c))
        ∙ ap (λ b. b || is_true (A AllNull (column c))) (counted c k n row_count h.count refl)
        ∙ absorbed (k == n) (is_true (A AllNull (column c))) h.every;
  }

  -- and a null test where none is
  pub null_says : (c : Place) (k : ℕ) → KnowsNulls c k → Says (is_null (column c)) (k == 0)
  unfolding node reduce_balanced
  null_says c k h = record {
    proof = binary Or (binary Eq (stat NullCount (column c)) (count_literal 0)) (stat AllNonNull (column c));
    proof_is = refl;
    told =
        true_or (value_under A n (binary Eq (stat NullCount (column c)) (count_literal 0))) (A AllNonNull (column c))
        ∙ ap (λ b. b || is_true (A AllNonNull (column c))) (counted c k 0 (count_literal 0) h.count refl)
        ∙ absorbed (k == 0) (is_true (A AllNonNull (column c))) h.none;
  }
