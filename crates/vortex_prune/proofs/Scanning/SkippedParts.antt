-- A part's place stands among the skipped ones exactly if the proof is true of the part.
use Rattle.std.proofs.Common.{◌≡◌, ◌<◌, ◌+◌, ◌↔◌, ℕ, zero, suc, Bool, true, false, List, [], ◌∷◌, Option, Some, map, option_map, refl, sym, ap, ◌∙◌, subst, if◌then◌else◌, arith}
use Rattle.std.specs.Prelude.{Contains, IsTrue, filter, slice_get}
use Rattle.std.specs.List.{enumerate_from}
use Rattle.std.proofs.lemmas.Map.Made.{Contains-tail}
use Rattle.std.proofs.lemmas.Option.{same_Some, slice_get-map}
use Rattle.vortex_expr.specs.Trees.Tree.{Tree, Place}
use Rattle.vortex_prune.proofs.Honesty.ZoneLemmas.{part_is_zone}
use Rattle.vortex_prune.proofs.Scanning.Boxes.{skipping_is_complete}
use Rattle.vortex_prune.specs.Part.{zone_of}
use Rattle.vortex_prune.specs.Scanning.Complete.{ScansSkipExactly, by_own_statistics}
use Rattle.vortex_prune.specs.Binding.PartAnswers.{part_values}
use Rattle.vortex_rewrite.specs.Rewriting.Falsifiers.{falsifier}
use Rattle.vortex_prune.specs.Scanning.Selection.{Answered, is_proved, places_where, skipped_parts}
use Rattle.vortex_stats.proofs.Kit.{contains_first, contains_later}

module _ {X : Type 0} (test : X → Bool) where
  -- the places, from n on, of the elements that pass the test
  abbrev passing : ℕ → List X → List ℕ
  passing n xs = map (λ e. e.0) (filter (λ e. test e.1) (enumerate_from n xs))

  first_place : (b : Bool) (n k : ℕ) (x : X) (rest : List (ℕ × X)) → Contains (map (λ e. e.0) (if b then (n, x) ∷ rest else rest)) k → (n ≡ k → ⊥) → Contains (map (λ e. e.0) rest) k
  first_place true n k x rest h apart = Contains-tail n (map (λ e. e.0) rest) k apart h
  first_place false n k x rest h apart = h

  later_place : (b : Bool) (n k : ℕ) (x : X) (rest : List (ℕ × X)) → Contains (map (λ e. e.0) rest) k → Contains (map (λ e. e.0) (if b then (n, x) ∷ rest else rest)) k
  later_place true n k x rest h = contains_later n k (map (λ e. e.0) rest) h
  later_place false n k x rest h = h

  -- no place is below the first
  none_below : (xs : List X) (n k : ℕ) → k < n → Contains (passing n xs) k → ⊥
  none_below [] n k less h = absurd (omega (arith, h.1))
  none_below (x ∷ xs) n k less h = none_below xs (n + 1) k (omega arith) (first_place (test x) n k x (filter (λ e. test e.1) (enumerate_from (n + 1) xs)) h (λ same. absurd (omega (arith, same, less))))

  passed : (b : Bool) (n : ℕ) (x : X) (rest : List (ℕ × X)) → (Contains (map (λ e. e.0) rest) n → ⊥) → Contains (map (λ e. e.0) (if b then (n, x) ∷ rest else rest)) n → b ≡ true
  passed true n x rest none h = refl
  passed false n x rest none h = absurd (none h)

  listed : (b : Bool) (n : ℕ) (x : X) (rest : List (ℕ × X)) → b ≡ true → Contains (map (λ e. e.0) (if b then (n, x) ∷ rest else rest)) n
  listed true n x rest h = contains_first n (map (λ e. e.0) rest)
  listed false n x rest h = cc

  there : (xs : List X) (n i : ℕ) (x : X) → slice_get xs i ≡ Some x → test x ≡ true → Contains (passing n xs) (n + i)
  there [] n i x is h = cc
  there (y ∷ ys) n zero x is h =
      let same : y ≡ x = same_Some y x is in
      let at : n + 0 ≡ n = omega arith in
      subst (Contains (passing n (y ∷ ys))) (sym at) (listed (test y) n y (filter (λ e. test e.1) (enumerate_from (n + 1) ys)) (ap test same ∙ h))
  there (y ∷ ys) n (suc i) x is h =
      let at : n + 1 + i ≡ n + suc i = omega arith in
      later_place (test y) n (n + suc i) y (filter (λ e. test e.1) (enumerate_from (n + 1) ys)) (subst (Contains (passing (n + 1) ys)) at (there ys (n + 1) i x is h))

  back : (xs : List X) (n i : ℕ) (x : X) → slice_get xs i ≡ Some x → Contains (passing n xs) (n + i) → test x ≡ true
  back [] n i x is h = cc
  back (y ∷ ys) n zero x is h =
      let same : y ≡ x = same_Some y x is in
      let at : n + 0 ≡ n = omega arith in
      ap test (sym same) ∙ passed (test y) n y (filter (λ e. test e.1) (enumerate_from (n + 1) ys)) (none_below ys (n + 1) n (omega arith)) (subst (Contains (passing n (y ∷ ys))) at h)
  back (y ∷ ys) n (suc i) x is h =
      let at : n + suc i ≡ n + 1 + i = omega arith in
      back ys (n + 1) i x is (subst (Contains (passing (n + 1) ys)) at (first_place (test y) n (n + suc i) y (filter (λ e. test e.1) (enumerate_from (n + 1) ys)) h (λ same. absurd (omega (arith, same)))))

-- the place of an element is listed exactly if it passes
pub place_listed : {X : Type 0} (test : X → Bool) (xs : List X) (i : ℕ) (x : X) → slice_get xs i ≡ Some x → Contains (places_where test xs) i ↔ IsTrue (test x)
place_listed test xs i x is =
    let at : 0 + i ≡ i = omega arith in (
      (λ h. back test xs 0 i x is (subst (Contains (places_where test xs)) (sym at) h)),
      (λ h. subst (Contains (places_where test xs)) at (there test xs 0 i x is h)),
    )

-- a part's place is skipped exactly if the proof is true of the part
pub skipped_part : (proof : Option (Tree Place)) (parts : List Answered) (i : ℕ) (part : Answered) → slice_get parts i ≡ Some part → Contains (skipped_parts proof parts) i ↔ IsTrue (is_proved proof part.0 part.1)
skipped_part proof parts i part is = place_listed (λ (d : Answered). is_proved proof d.0 d.1) parts i part is

pub scans_skip_exactly : ScansSkipExactly
scans_skip_exactly p t parts i part box typed bool is is_part fits once is_box order =
    let whole = skipping_is_complete p t part.chunk.scope (zone_of part) box typed bool (part_is_zone part is_part) fits once is_box order in
    let own : slice_get (by_own_statistics parts) i ≡ Some (part, part_values part) =
    slice_get-map (λ q. (q, part_values q)) parts i ∙ ap (option_map (λ q. (q, part_values q))) is in
    let one = skipped_part (falsifier [] p) (by_own_statistics parts) i (part, part_values part) own in
    ((λ h. whole.0 (one.0 h)), (λ none. one.1 (whole.1 none)))
