-- Entries after each statistic in turn, by number, got a new value or none.
use Rattle.std.proofs.Common.{◌≡◌, ℕ, ◌+◌, ◌≤◌, Bool, true, false, cond, List, [], ◌∷◌, Option, Some, None, refl, sym, ap, subst, ◌∙◌, arith, lit≤}
use Rattle.std.proofs.lemmas.Bool.Decides.{nat_tests}
use Rattle.std.proofs.lemmas.Cmp.{nat_eq_equiv}
use Rattle.std.specs.Prelude.{IsTrue, IsSome, IfOk, Result, Ok, Err, ◌==◌, ⊤}
use Rattle.std.specs.Option.{is_some}
use mathlib.Core.Bool.{true≢false}
use Rattle.vortex_base.specs.declared.scalar_value.ScalarValue.{ScalarValue}
use Rattle.vortex_base.specs.Data.Values.{value_cmp}
use Rattle.vortex_stats.specs.declared.merge.Change.{Change}
use Rattle.vortex_stats.specs.declared.merge.Change.TheVariants.{Kept, Set, Cleared}
use Rattle.vortex_stats.specs.declared.stat.Stat.{Stat}
use Rattle.vortex_stats.specs.declared.stat.Stat.TheVariants.{IsConstant, IsSorted, IsStrictSorted, Max, Min, Sum, NullCount, UncompressedSizeInBytes, NaNCount}
use Rattle.vortex_stats.specs.declared.precision.Precision.{Precision}
use Rattle.vortex_stats.specs.declared.precision.Precision.TheVariants.{Exact, Inexact, Absent}
use Rattle.vortex_stats.specs.Precision.{is_present}
use Rattle.vortex_stats.specs.Stat.{stat_number, stat_eq, same_from_stat_eq}
use Rattle.vortex_stats.specs.Sets.Entries.{is_entry_of, entry_value, with_entry}
use Rattle.vortex_stats.specs.Merging.Merges.{constant_merged, order_merged, is_at_most, is_below, sum_merged, count_merged, merged_value, unordered_value, revised, all_revised, merge_step, merged_by_steps, merged_ordered}
use Rattle.vortex_stats.specs.Sets.Changes.{made, changed, all_changed, MakesAll}
use Rattle.vortex_stats.specs.declared.merge.Changes.{Changes}
use Rattle.vortex_stats.specs.Bounds.LowerBound.{lower_union}
use Rattle.vortex_stats.specs.Bounds.UpperBound.{upper_union}
use Rattle.vortex_stats.proofs.Sets.Lookups.{entry_value-with_other, entry_value-without_other}

module _ {V : Type 0} where
  same_step : (s : Stat) (p : Precision V) (e : Stat × Precision V) (es : List (Stat × Precision V)) → (entry_value s es ≡ p → with_entry s p es ≡ es)
      → (b : Bool) → is_entry_of s e ≡ b → cond b e.1 (entry_value s es) ≡ p → cond b ((s, p) ∷ es) (e ∷ with_entry s p es) ≡ e ∷ es
  same_step s p e es ih true h k = ap (λ u. (u, p) ∷ es) (sym (same_from_stat_eq e.0 s h)) ∙ ap (λ q. (e.0, q) ∷ es) (sym k)
  same_step s p e es ih false h k = ap (λ r. e ∷ r) (ih k)

  -- the value that stands there is written again
  pub with_entry-same : (s : Stat) (p : Precision V) (es : List (Stat × Precision V)) → IsTrue (is_present p) → entry_value s es ≡ p → with_entry s p es ≡ es
  with_entry-same s p [] h k = absurd (true≢false (sym h ∙ ap is_present (sym k)))
  with_entry-same s p (e ∷ es) h k = same_step s p e es (with_entry-same s p es h) (is_entry_of s e) refl k

-- a change that makes one value of another makes what equals it of what equals it
pub makes-same : {E : Type 0} (r : Result Change E) (p q : Precision ScalarValue) (o u : Option (Precision ScalarValue)) → p ≡ q → o ≡ u
    → IfOk r (λ c. made c p ≡ o) → IfOk r (λ c. made c q ≡ u)
makes-same (Ok c) p q o u e f h = ap (made c) (sym e) ∙ h ∙ f
makes-same (Err x) p q o u e f h = tt

-- what a change makes of the left value stands in the entries after it, as long as that value does
pub changed-made : (s : Stat) (c : Change) (left : Precision ScalarValue) (es : List (Stat × Precision ScalarValue)) → (IsSome (made c left) → IsTrue (is_present left))
    → entry_value s es ≡ left → changed s c es ≡ revised s (made c left) es
changed-made s Kept left es h e = sym (with_entry-same s left es (h refl) e)
changed-made s (Set new) left es h e = refl
changed-made s Cleared left es h e = refl

value-revised : (s t : Stat) (o : Option (Precision ScalarValue)) (es : List (Stat × Precision ScalarValue)) → stat_eq s t ≡ false → entry_value t (revised s o es) ≡ entry_value t es
value-revised s t (Some p) es n = entry_value-with_other s t p es n
value-revised s t None es n = entry_value-without_other s t es (nat_eq_equiv.symm (stat_number t) (stat_number s) ∙ n)

-- ---- statistics by number

-- the statistics from number n on have the values that they had in the left entries
abbrev pub AgreesFrom : ℕ → (left es : List (Stat × Precision ScalarValue)) → Type 0
AgreesFrom n left es = (t : Stat) → n ≤ stat_number t → entry_value t es ≡ entry_value t left

told_apart : (m n : ℕ) → m + 1 ≤ n → (m == n) ≡ false
told_apart m n h = grind (arith, nat_tests)

pub agrees_on : (s : Stat) (o : Option (Precision ScalarValue)) (left es : List (Stat × Precision ScalarValue)) → AgreesFrom (stat_number s) left es → AgreesFrom (stat_number s + 1) left (revised s o es)
agrees_on s o left es g t h = value-revised s t o es (told_apart (stat_number s) (stat_number t) h) ∙ g t (omega arith)

-- a merged value reads no statistic of a lower number
pub reads : (s : Stat) (left es other : List (Stat × Precision ScalarValue)) → AgreesFrom (stat_number s) left es → merged_value s es other ≡ merged_value s left other
reads IsConstant left es other g =
    ap (λ p. constant_merged p (entry_value IsConstant other) (entry_value Min es) (entry_value Min other)) (g IsConstant (lit≤ tt))
    ∙ ap (λ p. constant_merged (entry_value IsConstant left) (entry_value IsConstant other) p (entry_value Min other)) (g Min (lit≤ tt))
reads IsSorted left es other g =
    ap (λ p. order_merged is_at_most p (entry_value IsSorted other) (entry_value Max es) (entry_value Min other)) (g IsSorted (lit≤ tt))
    ∙ ap (λ p. order_merged is_at_most (entry_value IsSorted left) (entry_value IsSorted other) p (entry_value Min other)) (g Max (lit≤ tt))
reads IsStrictSorted left es other g =
    ap (λ p. order_merged is_below p (entry_value IsStrictSorted other) (entry_value Max es) (entry_value Min other)) (g IsStrictSorted (lit≤ tt))
    ∙ ap (λ p. order_merged is_below (entry_value IsStrictSorted left) (entry_value IsStrictSorted other) p (entry_value Min other)) (g Max (lit≤ tt))
reads Max left es other g = ap (λ p. upper_union value_cmp p (entry_value Max other)) (g Max (lit≤ tt))
reads Min left es other g = ap (λ p. lower_union value_cmp p (entry_value Min other)) (g Min (lit≤ tt))
reads Sum left es other g = ap (λ p. sum_merged p (entry_value Sum other)) (g Sum (lit≤ tt))
reads NullCount left es other g = ap (λ p. count_merged p (entry_value NullCount other)) (g NullCount (lit≤ tt))
reads UncompressedSizeInBytes left es other g = ap (λ p. count_merged p (entry_value UncompressedSizeInBytes other)) (g UncompressedSizeInBytes (lit≤ tt))
reads NaNCount left es other g = refl

-- statistics in the order of their numbers, from n on
abbrev AreFrom : ℕ → List Stat → Type 0
AreFrom n [] = ⊤
AreFrom n (s ∷ ss) = (stat_number s ≡ n) × AreFrom (n + 1) ss

abbrev revised_in_turn : (Stat → Option (Precision ScalarValue)) → List (Stat × Precision ScalarValue) → List Stat → List (Stat × Precision ScalarValue)
revised_in_turn v es [] = es
revised_in_turn v es (s ∷ ss) = revised_in_turn v (revised s (v s) es) ss

abbrev merged_in_turn : List (Stat × Precision ScalarValue) → List (Stat × Precision ScalarValue) → List Stat → List (Stat × Precision ScalarValue)
merged_in_turn other es [] = es
merged_in_turn other es (s ∷ ss) = merged_in_turn other (merge_step other es s) ss

in_turn : (left other : List (Stat × Precision ScalarValue)) (ss : List Stat) (n : ℕ) (es : List (Stat × Precision ScalarValue)) → AreFrom n ss → AgreesFrom n left es
    → merged_in_turn other es ss ≡ revised_in_turn (λ s. merged_value s left other) es ss
in_turn left other [] n es f g = refl
in_turn left other (s ∷ ss) n es f g =
    let here : AgreesFrom (stat_number s) left es = subst (λ m. AgreesFrom m left es) (sym f.0) g in
    let new = merged_value s left other in
    let next : AgreesFrom (n + 1) left (revised s new es) = subst (λ m. AgreesFrom (m + 1) left (revised s new es)) f.0 (agrees_on s new left es here) in
    ap (λ o. merged_in_turn other (revised s o es) ss) (reads s left es other here) ∙ in_turn left other ss (n + 1) (revised s new es) f.1 next

-- the table is what the steps give, each from what the earlier ones left
pub merged_ordered-by_steps : (left other : List (Stat × Precision ScalarValue)) → merged_by_steps left other ≡ merged_ordered left other
merged_ordered-by_steps left other =
    in_turn left other (IsConstant ∷ IsSorted ∷ IsStrictSorted ∷ Max ∷ Min ∷ Sum ∷ NullCount ∷ UncompressedSizeInBytes ∷ NaNCount ∷ []) 0 left
    (refl, (refl, (refl, (refl, (refl, (refl, (refl, (refl, (refl, tt))))))))) (λ t h. refl)

-- ---- the changes of a merge

-- the statistics of changes in the order of their numbers, from n on; each change makes the new value, which is none where the left one isn't present
abbrev MakeInTurn : (Stat → Option (Precision ScalarValue)) → (left : List (Stat × Precision ScalarValue)) → ℕ → List (Stat × Change) → Type 0
MakeInTurn v left n [] = ⊤
MakeInTurn v left n (x ∷ xs) = (stat_number x.0 ≡ n) × (made x.1 (entry_value x.0 left) ≡ v x.0) × MakeInTurn v left (n + 1) xs

abbrev changed_in_turn : List (Stat × Precision ScalarValue) → List (Stat × Change) → List (Stat × Precision ScalarValue)
changed_in_turn es [] = es
changed_in_turn es (x ∷ xs) = changed_in_turn (changed x.0 x.1 es) xs

abbrev stats_of : List (Stat × Change) → List Stat
stats_of [] = []
stats_of (x ∷ xs) = x.0 ∷ stats_of xs

-- of a statistic from number 1 on there is a new value only where there is a left one
abbrev pub NeedsOwn : (Stat → Option (Precision ScalarValue)) → List (Stat × Precision ScalarValue) → Type 0
NeedsOwn v left = (s : Stat) → 1 ≤ stat_number s → IsSome (v s) → IsTrue (is_present (entry_value s left))

made_in_turn : (v : Stat → Option (Precision ScalarValue)) (left : List (Stat × Precision ScalarValue)) (xs : List (Stat × Change)) (n : ℕ) (es : List (Stat × Precision ScalarValue))
    → NeedsOwn v left → 1 ≤ n → MakeInTurn v left n xs → AgreesFrom n left es → changed_in_turn es xs ≡ revised_in_turn v es (stats_of xs)
made_in_turn v left [] n es p l f g = refl
made_in_turn v left (x ∷ xs) n es p l f g =
    let here : AgreesFrom (stat_number x.0) left es = subst (λ m. AgreesFrom m left es) (sym f.0) g in
    let next : AgreesFrom (n + 1) left (revised x.0 (v x.0) es) = subst (λ m. AgreesFrom (m + 1) left (revised x.0 (v x.0) es)) f.0 (agrees_on x.0 (v x.0) left es here) in
    let low : 1 ≤ stat_number x.0 = subst (λ m. 1 ≤ m) (sym f.0) l in
    let step : changed x.0 x.1 es ≡ revised x.0 (v x.0) es =
    changed-made x.0 x.1 (entry_value x.0 left) es (λ h. p x.0 low (subst IsSome f.1 h)) (here x.0 (omega arith)) ∙ ap (λ o. revised x.0 o es) f.1 in
    ap (λ r. changed_in_turn r xs) step ∙ made_in_turn v left xs (n + 1) (revised x.0 (v x.0) es) p (omega arith) f.2 next

pub all_changed-made : (c : Changes) (v : Stat → Option (Precision ScalarValue)) (left : List (Stat × Precision ScalarValue)) → NeedsOwn v left → v NaNCount ≡ None → MakesAll c v left
    → all_changed c left ≡ all_revised v left
all_changed-made c v left p none m =
    let first = revised IsConstant c.is_constant left in
    made_in_turn v left
    ((IsSorted, c.is_sorted) ∷ (IsStrictSorted, c.is_strict_sorted) ∷ (Max, c.max) ∷ (Min, c.min) ∷ (Sum, c.sum) ∷ (NullCount, c.null_count)
    ∷ (UncompressedSizeInBytes, c.uncompressed_size_in_bytes) ∷ (NaNCount, Cleared) ∷ [])
    1 first p (lit≤ tt)
    (refl, m.is_sorted, (refl, m.is_strict_sorted, (refl, m.max, (refl, m.min, (refl, m.sum, (refl, m.null_count, (refl, m.uncompressed_size_in_bytes, (refl, sym none, tt))))))))
    (agrees_on IsConstant c.is_constant left left (λ t h. refl))
    ∙ ap (λ o. all_revised (λ s. elim s as (λ _. Option (Precision ScalarValue)) [ IsConstant ↦ o | IsSorted ↦ v IsSorted | IsStrictSorted ↦ v IsStrictSorted | Max ↦ v Max | Min ↦ v Min | Sum ↦ v Sum | NullCount ↦ v NullCount | UncompressedSizeInBytes ↦ v UncompressedSizeInBytes | NaNCount ↦ v NaNCount ]) left) m.is_constant

-- ---- present values

present_if : (f : Precision ScalarValue → Option (Precision ScalarValue)) → f Absent ≡ None → (p : Precision ScalarValue) → IsSome (f p) → IsTrue (is_present p)
present_if f n (Exact v) h = refl
present_if f n (Inexact v) h = refl
present_if f n Absent h = absurd (true≢false (sym h ∙ ap is_some n))

pub merged-needs_own : (left other : List (Stat × Precision ScalarValue)) → NeedsOwn (λ s. merged_value s left other) left
merged-needs_own left other IsConstant l h = absurd (omega arith)
merged-needs_own left other IsSorted l h =
    present_if (λ p. order_merged is_at_most p (entry_value IsSorted other) (entry_value Max left) (entry_value Min other)) refl (entry_value IsSorted left) h
merged-needs_own left other IsStrictSorted l h =
    present_if (λ p. order_merged is_below p (entry_value IsStrictSorted other) (entry_value Max left) (entry_value Min other)) refl (entry_value IsStrictSorted left) h
merged-needs_own left other Max l h = present_if (λ p. upper_union value_cmp p (entry_value Max other)) refl (entry_value Max left) h
merged-needs_own left other Min l h = present_if (λ p. lower_union value_cmp p (entry_value Min other)) refl (entry_value Min left) h
merged-needs_own left other Sum l h = present_if (λ p. sum_merged p (entry_value Sum other)) refl (entry_value Sum left) h
merged-needs_own left other NullCount l h = present_if (λ p. count_merged p (entry_value NullCount other)) refl (entry_value NullCount left) h
merged-needs_own left other UncompressedSizeInBytes l h =
    present_if (λ p. count_merged p (entry_value UncompressedSizeInBytes other)) refl (entry_value UncompressedSizeInBytes left) h
merged-needs_own left other NaNCount l h = absurd (true≢false (sym h))

pub unordered-needs_own : (left other : List (Stat × Precision ScalarValue)) → NeedsOwn (λ s. unordered_value s left other) left
unordered-needs_own left other IsConstant l h = absurd (omega arith)
unordered-needs_own left other IsSorted l h = absurd (true≢false (sym h))
unordered-needs_own left other IsStrictSorted l h = absurd (true≢false (sym h))
unordered-needs_own left other Max l h = merged-needs_own left other Max l h
unordered-needs_own left other Min l h = merged-needs_own left other Min l h
unordered-needs_own left other Sum l h = merged-needs_own left other Sum l h
unordered-needs_own left other NullCount l h = merged-needs_own left other NullCount l h
unordered-needs_own left other UncompressedSizeInBytes l h = merged-needs_own left other UncompressedSizeInBytes l h
unordered-needs_own left other NaNCount l h = absurd (true≢false (sym h))
