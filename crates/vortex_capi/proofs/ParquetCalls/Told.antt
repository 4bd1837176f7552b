-- What is told of row groups, as a loop finds it.
use Rattle.std.proofs.Common.{◌≡◌, ℕ, suc, ◌+◌, ◌≤◌, ◌<◌, List, [], ◌∷◌, ◌++◌, length, refl, sym, ap, ap₂, subst, ◌∙◌, drop, drop-cons, get_or, map, append_assoc, add-one, arith}
use Rattle.std.proofs.lemmas.List.{append-nil, drop_all}
use Rattle.vortex_parquet.specs.Stats.{group_view}
use Rattle.vortex_parquet.specs.declared.stats.GroupStats.{GroupStats}
use Rattle.vortex_prune.specs.declared.scan.verdict.Verdict.{Verdict}
use Rattle.vortex_capi.specs.ParquetCalls.FooterPrunes.{all_told, told_of}
use Rattle.vortex_capi.specs.declared.parquet.row_group.RowGroup.{RowGroup}

pub told_go : (gs : List GroupStats) (vs : List Verdict) (front total : List RowGroup) (i : ℕ) (g : GroupStats) (d : Verdict) (r : RowGroup) → i < length gs → length vs ≡ length gs → g ≡ get_or gs i g → r ≡ told_of (group_view g) (get_or vs i d)
    → front ++ all_told (map group_view (drop i gs)) (drop i vs) ≡ total → (front ++ r ∷ []) ++ all_told (map group_view (drop (i + 1) gs)) (drop (i + 1) vs) ≡ total
told_go gs vs front total i g d r lt same e h so_far =
    let others : List RowGroup = all_told (map group_view (drop (i + 1) gs)) (drop (i + 1) vs) in
    let v : Verdict = get_or vs i d in
    let less : i < length vs = subst (λ (n : ℕ). i < n) (sym same) lt in
    let left : drop i gs ≡ g ∷ drop (i + 1) gs = drop-cons gs i g lt ∙ ap₂ (λ (x : GroupStats) (n : ℕ). x ∷ drop n gs) (sym e) (sym (add-one i)) in
    let right : drop i vs ≡ v ∷ drop (i + 1) vs = drop-cons vs i d less ∙ ap (λ (n : ℕ). v ∷ drop n vs) (sym (add-one i)) in
    let one : all_told (map group_view (drop i gs)) (drop i vs) ≡ r ∷ others =
    ap₂ (λ (xs : List GroupStats) (ys : List Verdict). all_told (map group_view xs) ys) left right ∙ ap (λ (x : RowGroup). x ∷ others) (sym h) in
    append_assoc front (r ∷ []) others ∙ ap (λ (ys : List RowGroup). front ++ ys) (sym one) ∙ so_far

pub told_done : (gs : List GroupStats) (vs : List Verdict) (front total : List RowGroup) (i : ℕ) → length gs ≤ i → front ++ all_told (map group_view (drop i gs)) (drop i vs) ≡ total → front ≡ total
told_done gs vs front total i le so_far =
    let none : all_told (map group_view (drop i gs)) (drop i vs) ≡ [] = ap (λ (xs : List GroupStats). all_told (map group_view xs) (drop i vs)) (drop_all i gs le) in
    sym (append-nil front) ∙ ap (λ (ys : List RowGroup). front ++ ys) (sym none) ∙ so_far

pub length_told : (gs : List GroupStats) (vs : List Verdict) → length vs ≡ length gs → length (all_told (map group_view gs) vs) ≡ length gs
length_told [] vs e = refl
length_told (g ∷ gs) [] e = e
length_told (g ∷ gs) (v ∷ vs) e = ap suc (length_told gs vs (omega arith))
