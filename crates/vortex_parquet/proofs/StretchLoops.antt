-- How pages are looked through and cut, as loops do it.
use Rattle.std.proofs.Common.{◌≡◌, ℕ, ◌+◌, ◌≤◌, ◌<◌, Bool, true, false, eqb, List, [], ◌∷◌, ◌++◌, length, refl, sym, ap, ◌∙◌, map, drop, take, get_or, set, add-one, arith}
use Rattle.std.proofs.lemmas.List.{drop-set-lt, length-map, map-set, map_push, take-map, take_all, take_more_set}
use Rattle.std.proofs.Math.Seq.{take-suc}
use Rattle.vortex_parquet.specs.declared.pages.Page.{Page}
use Rattle.vortex_parquet.specs.declared.stretches.PagedColumn.{PagedColumn}
use Rattle.vortex_parquet.specs.Pages.{page_view}
use Rattle.vortex_parquet.specs.Stretches.{PagedData, all_follow, begins_at, behind, follow, next_end, paged_view, sooner}
use Rattle.vortex_parquet.proofs.Views.{drop_none, drop_view}

pub follow_goes : (ps : List Page) (i : ℕ) (d : Page) (from rows : ℕ) (total : Bool) → i < length ps → begins_at from (page_view (get_or ps i d)) ≡ true
    → follow from rows (drop i (map page_view ps)) ≡ total → follow (get_or ps i d).end rows (drop (i + 1) (map page_view ps)) ≡ total
follow_goes ps i d from rows total lt h so_far =
    let one : follow from rows (drop i (map page_view ps)) ≡ follow (get_or ps i d).end rows (drop (i + 1) (map page_view ps)) = ap (follow from rows) (drop_view page_view ps i d lt) ∙ rw h refl in
    sym one ∙ so_far

pub follow_stops : (ps : List Page) (i : ℕ) (d : Page) (from rows : ℕ) (total : Bool) → i < length ps → begins_at from (page_view (get_or ps i d)) ≡ false
    → follow from rows (drop i (map page_view ps)) ≡ total → false ≡ total
follow_stops ps i d from rows total lt h so_far =
    let one : follow from rows (drop i (map page_view ps)) ≡ false = ap (follow from rows) (drop_view page_view ps i d lt) ∙ rw h refl in
    sym one ∙ so_far

pub follow_done : (ps : List Page) (i : ℕ) (from rows : ℕ) (total : Bool) → length ps ≤ i → follow from rows (drop i (map page_view ps)) ≡ total → eqb from rows ≡ total
follow_done ps i from rows total le so_far = sym (ap (follow from rows) (drop_none page_view ps i le)) ∙ so_far

pub all_goes : (cs : List PagedColumn) (i : ℕ) (d : PagedColumn) (rows : ℕ) (total : Bool) → i < length cs → follow 0 rows (map page_view (get_or cs i d).pages.now) ≡ true
    → all_follow rows (drop i (map paged_view cs)) ≡ total → all_follow rows (drop (i + 1) (map paged_view cs)) ≡ total
all_goes cs i d rows total lt h so_far =
    let one : all_follow rows (drop i (map paged_view cs)) ≡ all_follow rows (drop (i + 1) (map paged_view cs)) = ap (all_follow rows) (drop_view paged_view cs i d lt) ∙ rw h refl in
    sym one ∙ so_far

pub all_stops : (cs : List PagedColumn) (i : ℕ) (d : PagedColumn) (rows : ℕ) (total : Bool) → i < length cs → follow 0 rows (map page_view (get_or cs i d).pages.now) ≡ false
    → all_follow rows (drop i (map paged_view cs)) ≡ total → false ≡ total
all_stops cs i d rows total lt h so_far =
    let one : all_follow rows (drop i (map paged_view cs)) ≡ false = ap (all_follow rows) (drop_view paged_view cs i d lt) ∙ rw h refl in
    sym one ∙ so_far

pub all_done : (cs : List PagedColumn) (i : ℕ) (rows : ℕ) (total : Bool) → length cs ≤ i → all_follow rows (drop i (map paged_view cs)) ≡ total → true ≡ total
all_done cs i rows total le so_far = sym (ap (all_follow rows) (drop_none paged_view cs i le)) ∙ so_far

pub next_goes : (cs : List PagedColumn) (i : ℕ) (d : PagedColumn) (end total : ℕ) → i < length cs
    → next_end end (drop i (map paged_view cs)) ≡ total → next_end (sooner end (map page_view (get_or cs i d).pages.now)) (drop (i + 1) (map paged_view cs)) ≡ total
next_goes cs i d end total lt so_far = sym (ap (next_end end) (drop_view paged_view cs i d lt)) ∙ so_far

pub next_done : (cs : List PagedColumn) (i end total : ℕ) → length cs ≤ i → next_end end (drop i (map paged_view cs)) ≡ total → end ≡ total
next_done cs i end total le so_far = sym (ap (next_end end) (drop_none paged_view cs i le)) ∙ so_far

-- ---- columns that go behind a row, one after the other

-- the first so many have, and the others are as they were
pub record AreMovedTo (row i : ℕ) (old new : List PagedData) : Type 0 where
  pub done : take i new ≡ map (behind row) (take i old)
  pub left : drop i new ≡ drop i old

take_view : {X Y : Type 0} (f : X → Y) (xs : List X) (i : ℕ) (d : X) → i < length xs → take (i + 1) (map f xs) ≡ take i (map f xs) ++ f (get_or xs i d) ∷ []
take_view {X} {Y} f xs i d lt =
    take-map f (i + 1) xs ∙ ap (λ (n : ℕ). map f (take n xs)) (add-one i) ∙ ap (map f) (take-suc xs i d lt) ∙ map_push f (take i xs) (get_or xs i d)
    ∙ ap (λ (ys : List Y). ys ++ f (get_or xs i d) ∷ []) (sym (take-map f i xs))

same_first : (c d : PagedData) (cs ds : List PagedData) → c ∷ cs ≡ d ∷ ds → c ≡ d
same_first c d cs ds e = cc

same_others : (c d : PagedData) (cs ds : List PagedData) → c ∷ cs ≡ d ∷ ds → cs ≡ ds
same_others c d cs ds e = cc

pub moved_goes : (row i : ℕ) (old now : List PagedColumn) (d c : PagedColumn) → i < length old → length now ≡ length old → paged_view c ≡ behind row (paged_view (get_or now i d))
    → AreMovedTo row i (map paged_view old) (map paged_view now) → AreMovedTo row (i + 1) (map paged_view old) (map paged_view (set now i c))
moved_goes row i old now d c lt long is h =
    let less : i < length now = omega (arith, long) in
    let at : paged_view (get_or now i d) ∷ drop (i + 1) (map paged_view now) ≡ paged_view (get_or old i d) ∷ drop (i + 1) (map paged_view old) = sym (drop_view paged_view now i d less) ∙ h.left ∙ drop_view paged_view old i d lt in
    let x : PagedData = behind row (paged_view (get_or old i d)) in
    let made : paged_view c ≡ x = is ∙ ap (behind row) (same_first _ _ _ _ at) in
    let many : length (map paged_view now) ≡ length now = length-map now paged_view in
    let inside : i < length (map paged_view now) = omega (arith, many) in
    let put : map paged_view (set now i c) ≡ set (map paged_view now) i (paged_view c) = map-set paged_view now i c in
    record {
      done = ap (take (i + 1)) put ∙ take_more_set (map paged_view now) i (paged_view c) inside ∙ ap (λ (ys : List PagedData). ys ++ paged_view c ∷ []) h.done ∙ ap (λ (y : PagedData). map (behind row) (take i (map paged_view old)) ++ y ∷ []) made
          ∙ sym (ap (map (behind row)) (take_view paged_view old i d lt) ∙ map_push (behind row) (take i (map paged_view old)) (paged_view (get_or old i d)));
      left = ap (drop (i + 1)) put ∙ drop-set-lt (i + 1) (map paged_view now) i (paged_view c) (omega arith) ∙ same_others _ _ _ _ at;
    }

pub moved_done : (row i : ℕ) (old now : List PagedColumn) → length old ≤ i → length now ≡ length old → AreMovedTo row i (map paged_view old) (map paged_view now) → map paged_view now ≡ map (behind row) (map paged_view old)
moved_done row i old now le long h =
    sym (take_all i (map paged_view now) (omega (arith, length-map now paged_view, long))) ∙ h.done ∙ ap (map (behind row)) (take_all i (map paged_view old) (omega (arith, length-map old paged_view)))
