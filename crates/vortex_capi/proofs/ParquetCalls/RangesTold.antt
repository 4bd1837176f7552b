-- What is told of stretches of rows, as a loop finds it.
use Rattle.std.proofs.Common.{◌≡◌, ℕ, suc, ◌+◌, ◌≤◌, ◌<◌, List, [], ◌∷◌, ◌++◌, length, refl, sym, ap, ap₂, subst, ◌∙◌, drop, drop-cons, get_or, append_assoc, add-one, arith}
use Rattle.std.proofs.lemmas.List.{append-nil, drop_all}
use Rattle.vortex_predicates.specs.declared.parquet.page_ranges.PageRange.{PageRange}
use Rattle.vortex_prune.specs.declared.scan.verdict.Verdict.{Verdict}
use Rattle.vortex_capi.specs.ParquetCalls.PagePrunes.{all_ranges, told_range}
use Rattle.vortex_capi.specs.declared.parquet.row_range.RowRange.{RowRange}

pub ranges_go : (rs : List PageRange) (vs : List Verdict) (front total : List RowRange) (i : ℕ) (e : PageRange) (d : Verdict) (x : RowRange) → i < length rs → length vs ≡ length rs → x ≡ told_range (get_or rs i e) (get_or vs i d)
    → front ++ all_ranges (drop i rs) (drop i vs) ≡ total → (front ++ x ∷ []) ++ all_ranges (drop (i + 1) rs) (drop (i + 1) vs) ≡ total
ranges_go rs vs front total i e d x lt same h so_far =
    let others : List RowRange = all_ranges (drop (i + 1) rs) (drop (i + 1) vs) in
    let v : Verdict = get_or vs i d in
    let less : i < length vs = subst (λ (n : ℕ). i < n) (sym same) lt in
    let r : PageRange = get_or rs i e in
    let left : drop i rs ≡ r ∷ drop (i + 1) rs = drop-cons rs i e lt ∙ ap (λ (n : ℕ). r ∷ drop n rs) (sym (add-one i)) in
    let right : drop i vs ≡ v ∷ drop (i + 1) vs = drop-cons vs i d less ∙ ap (λ (n : ℕ). v ∷ drop n vs) (sym (add-one i)) in
    let one : all_ranges (drop i rs) (drop i vs) ≡ x ∷ others = ap₂ all_ranges left right ∙ ap (λ (y : RowRange). y ∷ others) (sym h) in
    append_assoc front (x ∷ []) others ∙ ap (λ (ys : List RowRange). front ++ ys) (sym one) ∙ so_far

pub ranges_done : (rs : List PageRange) (vs : List Verdict) (front total : List RowRange) (i : ℕ) → length rs ≤ i → front ++ all_ranges (drop i rs) (drop i vs) ≡ total → front ≡ total
ranges_done rs vs front total i le so_far =
    let none : all_ranges (drop i rs) (drop i vs) ≡ [] = ap (λ (xs : List PageRange). all_ranges xs (drop i vs)) (drop_all i rs le) in
    sym (append-nil front) ∙ ap (λ (ys : List RowRange). front ++ ys) (sym none) ∙ so_far

pub ranges_told : (rs : List PageRange) (vs : List Verdict) → length vs ≡ length rs → length (all_ranges rs vs) ≡ length rs
ranges_told [] vs e = refl
ranges_told (r ∷ rs) [] e = e
ranges_told (r ∷ rs) (v ∷ vs) e = ap suc (ranges_told rs vs (omega arith))
