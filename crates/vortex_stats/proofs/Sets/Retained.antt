-- Entries that are kept, one statistic after another.
use Rattle.std.proofs.Common.{◌≡◌, Bool, true, false, cond, not, ◌||◌, List, [], ◌∷◌, ◌++◌, refl, sym, ap, ◌∙◌}
use Rattle.std.specs.List.{filter, list_any}
use mathlib.Core.Bool.{true≢false}
use Rattle.vortex_stats.specs.declared.stat.Stat.{Stat}
use Rattle.vortex_stats.specs.declared.stat.Stat.TheVariants.{IsConstant, IsSorted, IsStrictSorted, Max, Min, Sum, NullCount, UncompressedSizeInBytes, NaNCount}
use Rattle.vortex_stats.specs.declared.precision.Precision.{Precision}
use Rattle.vortex_stats.specs.Stat.{stat_eq, same_from_stat_eq, all_stats}
use Rattle.vortex_stats.specs.Sets.Entries.{is_entry_of, without_entry, is_kept, retained_entries}

module _ {X : Type 0} where
  filter-filter : (p q : X → Bool) (xs : List X) → filter p (filter q xs) ≡ filter (λ x. cond (q x) (p x) false) xs
  filter-filter p q [] = refl
  filter-filter p q (x ∷ xs) =
      elim (q x) as (λ b. filter p (cond b (x ∷ filter q xs) (filter q xs)) ≡ cond (cond b (p x) false) (x ∷ filter (λ y. cond (q y) (p y) false) xs) (filter (λ y. cond (q y) (p y) false) xs))
      [ true ↦ ap (λ r. cond (p x) (x ∷ r) r) (filter-filter p q xs) | false ↦ filter-filter p q xs ]

  filter-same : (p q : X → Bool) → ((x : X) → p x ≡ q x) → (xs : List X) → filter p xs ≡ filter q xs
  filter-same p q h [] = refl
  filter-same p q h (x ∷ xs) = ap (λ b. cond b (x ∷ filter p xs) (filter p xs)) (h x) ∙ ap (λ r. cond (q x) (x ∷ r) r) (filter-same p q h xs)

  filter-all : (xs : List X) → filter (λ x. true) xs ≡ xs
  filter-all [] = refl
  filter-all (x ∷ xs) = ap (λ r. x ∷ r) (filter-all xs)

or_true : (a b : Bool) → b ≡ false → (a || not b) ≡ true
or_true true b h = refl
or_true false b h = ap not h

or_false : (a b : Bool) → b ≡ true → (a || not b) ≡ a
or_false true b h = refl
or_false false b h = ap not h

any_snoc : {X : Type 0} (p : X → Bool) (x : X) (xs : List X) → list_any p (xs ++ x ∷ []) ≡ (list_any p xs || p x)
any_snoc p x [] = elim (p x) as (λ b. (b || false) ≡ b) [ true ↦ refl | false ↦ refl ]
any_snoc p x (y ∷ xs) = elim (p y) as (λ b. (b || list_any p (xs ++ x ∷ [])) ≡ ((b || list_any p xs) || p x)) [ true ↦ refl | false ↦ any_snoc p x xs ]

among_all : (s : Stat) → list_any (stat_eq s) all_stats ≡ true
unfolding all_stats
among_all IsConstant = refl
among_all IsSorted = refl
among_all IsStrictSorted = refl
among_all Max = refl
among_all Min = refl
among_all Sum = refl
among_all NullCount = refl
among_all UncompressedSizeInBytes = refl
among_all NaNCount = refl

stays_step : (a b c : Bool) → (c ≡ true → a ≡ true) → (a || not b) ≡ (a || not (b || c))
stays_step true b c h = refl
stays_step false true c h = refl
stays_step false false true h = absurd (true≢false (sym (h refl)))
stays_step false false false h = refl

goes_step : (a b c : Bool) → (c ≡ true → a ≡ false) → cond (a || not b) (not c) false ≡ (a || not (b || c))
goes_step true b true h = absurd (true≢false (h refl))
goes_step true b false h = refl
goes_step false true c h = refl
goes_step false false c h = refl

module _ {V : Type 0} (stats : List Stat) where
  -- of the statistics so far those that are no part of the list have no entry
  abbrev kept_so_far : List Stat → Stat × Precision V → Bool
  kept_so_far done e = is_kept stats e || not (is_kept done e)

  abbrev pub retained_so_far : List Stat → List (Stat × Precision V) → List (Stat × Precision V)
  retained_so_far done es = filter (λ e. is_kept stats e || not (is_kept done e)) es

  pub retained_at_start : (es : List (Stat × Precision V)) → retained_so_far [] es ≡ es
  retained_at_start es = filter-same (kept_so_far []) (λ e. true) (λ e. or_true (is_kept stats e) false refl) es ∙ filter-all es

  pub retained_at_end : (es : List (Stat × Precision V)) → retained_so_far all_stats es ≡ retained_entries stats es
  retained_at_end es = filter-same (kept_so_far all_stats) (is_kept stats) (λ e. or_false (is_kept stats e) (is_kept all_stats e) (among_all e.0)) es

  module _ (s : Stat) (done : List Stat) where
    stays_at : (e : Stat × Precision V) → list_any (stat_eq s) stats ≡ true → stat_eq e.0 s ≡ true → is_kept stats e ≡ true
    stays_at e h k = ap (λ u. list_any (stat_eq u) stats) (same_from_stat_eq e.0 s k) ∙ h

    -- a statistic of the list stays
    pub retained_where_listed : list_any (stat_eq s) stats ≡ true → (es : List (Stat × Precision V)) → retained_so_far done es ≡ retained_so_far (done ++ s ∷ []) es
    retained_where_listed h =
        filter-same (kept_so_far done) (kept_so_far (done ++ s ∷ []))
        (λ e. stays_step (is_kept stats e) (is_kept done e) (is_entry_of s e) (stays_at e h) ∙ ap (λ b. is_kept stats e || not b) (sym (any_snoc (stat_eq e.0) s done)))

    goes_at : (e : Stat × Precision V) → list_any (stat_eq s) stats ≡ false → stat_eq e.0 s ≡ true → is_kept stats e ≡ false
    goes_at e h k = ap (λ u. list_any (stat_eq u) stats) (same_from_stat_eq e.0 s k) ∙ h

    -- another goes
    pub retained_where_not : list_any (stat_eq s) stats ≡ false → (es : List (Stat × Precision V)) → without_entry s (retained_so_far done es) ≡ retained_so_far (done ++ s ∷ []) es
    retained_where_not h es =
        filter-filter (λ e. not (is_entry_of s e)) (kept_so_far done) es
        ∙ filter-same (λ e. cond (kept_so_far done e) (not (is_entry_of s e)) false) (kept_so_far (done ++ s ∷ []))
        (λ e. goes_step (is_kept stats e) (is_kept done e) (is_entry_of s e) (goes_at e h) ∙ ap (λ b. is_kept stats e || not b) (sym (any_snoc (stat_eq e.0) s done))) es
