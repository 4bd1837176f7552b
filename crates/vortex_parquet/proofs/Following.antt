-- The pages of a column chunk stand one behind the other.
use Rattle.std.proofs.Common.{◌≡◌, ℕ, zero, suc, ◌+◌, ◌-◌, ◌≤◌, Bool, true, false, cond, eqb, leb, List, [], ◌∷◌, length, Ok, Err, refl, sym, ap, subst, arith}
use Rattle.std.specs.Prelude.{not as not_b}
use Rattle.std.specs.List.{range_with_len}
use Rattle.std.proofs.lemmas.Bool.{eq-eqb, eqb-true, leb-false, lt-ltb}
use Rattle.std.proofs.lemmas.Option.{slice_get_past}
use Rattle.vortex_base.specs.Data.Exact.{both_hold}
use Rattle.vortex_base.specs.declared.types.Nullability.{Nullability}
use Rattle.vortex_parquet.specs.declared.fault.Fault.TheVariants as fault
use Rattle.vortex_parquet.specs.declared.offset_index.PageLocation.{PageLocation}
use Rattle.vortex_parquet.specs.PageIndex.{IndexData}
use Rattle.vortex_parquet.specs.Pages.{PageData, first_at, first_or, has_length, page_at, pages_in, pages_of, statistics_at}
use Rattle.vortex_parquet.specs.Reading.{◌>>=◌}
use Rattle.vortex_parquet.specs.Stats.{all_of}
use Rattle.vortex_parquet.specs.Stretches.{PagesFollow, begins_at, follow}
use Rattle.vortex_parquet.proofs.Sound.{bind_ok, guard, one_ok}

module _ (rows : ℕ) (n : Nullability) (x : IndexData) (ls : List PageLocation) where
  at_end : (i : ℕ) → length ls ≤ i → first_at rows ls i ≡ rows
  at_end i le = ap (first_or rows) (slice_get_past ls i le)

  begins : (i : ℕ) (p : PageData) → page_at rows n x ls i ≡ Ok p → (begins_at (first_at rows ls i) p ≡ true) × (p.end ≡ first_at rows ls (i + 1))
  unfolding page_at
  begins i p e =
      let a = first_at rows ls i in
      let z = first_at rows ls (i + 1) in
      let made : PageData = record { first = a; end = z; statistics = statistics_at n x i (z - a) } in
      let g = guard (leb z a) fault.Pages (Ok made) p e in
      let same : made ≡ p = one_ok made p g.1 in
      let here : begins_at a made ≡ true = both_hold _ _ (eq-eqb a a refl) (lt-ltb a z (leb-false z a g.0)) in
      (subst (λ (q : PageData). begins_at a q ≡ true) same here, ap (λ (q : PageData). q.end) (sym same))

  they_follow : (k i : ℕ) (ps : List PageData) → i + k ≡ length ls → all_of (page_at rows n x ls) (range_with_len i k) ≡ Ok ps → follow (first_at rows ls i) rows ps ≡ true
  unfolding all_of
  they_follow zero i ps long e = subst (λ (qs : List PageData). follow (first_at rows ls i) rows qs ≡ true) (one_ok [] ps e) (eq-eqb (first_at rows ls i) rows (at_end i (omega arith)))
  they_follow (suc k) i ps long e =
      let one = page_at rows n x ls in
      let a = bind_ok (one i) (λ p. all_of one (range_with_len (i + 1) k) >>= λ qs. Ok (p ∷ qs)) ps e in
      let b = bind_ok (all_of one (range_with_len (i + 1) k)) (λ qs. Ok (a.0 ∷ qs)) ps a.2 in
      let h = begins i a.0 a.1 in
      let more : follow a.0.end rows b.0 ≡ true = subst (λ (j : ℕ). follow j rows b.0 ≡ true) (sym h.1) (they_follow k (i + 1) b.0 (omega (arith, long)) b.1) in
      subst (λ (qs : List PageData). follow (first_at rows ls i) rows qs ≡ true) (one_ok (a.0 ∷ b.0) ps b.2) (both_hold _ _ h.0 more)

is_not : (b : Bool) → not_b b ≡ false → b ≡ true
is_not true e = refl
is_not false e = absurd cc

pub pages_follow : PagesFollow
unfolding pages_of
pages_follow rows n x ls ps e =
    let a = guard (not_b (has_length x (length ls))) fault.Pages (cond (not_b (eqb (first_at rows ls 0) 0)) (Err fault.Pages) (pages_in rows n x ls)) ps e in
    let b = guard (not_b (eqb (first_at rows ls 0) 0)) fault.Pages (pages_in rows n x ls) ps a.1 in
    let first : first_at rows ls 0 ≡ 0 = eqb-true (first_at rows ls 0) 0 (is_not (eqb (first_at rows ls 0) 0) b.0) in
    subst (λ (j : ℕ). follow j rows ps ≡ true) first (they_follow rows n x ls (length ls) 0 ps (omega arith) b.1)
