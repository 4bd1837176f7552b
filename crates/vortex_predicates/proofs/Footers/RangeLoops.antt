-- Stretches of row groups, as loops find them.
use Rattle.std.proofs.Common.{◌≡◌, ℕ, zero, suc, ◌+◌, ◌≤◌, ◌<◌, true, true≢false, List, [], ◌∷◌, ◌++◌, Option, length, refl, sym, ap, ap₂, subst, subst₂, ◌∙◌, map, drop, drop-cons, get_or, append_assoc, add-one, arith}
use Rattle.std.proofs.lemmas.List.{append-nil, drop_all, map_push}
use Rattle.std.specs.Prelude.{slice_get}
use Rattle.vortex_base.specs.Data.Exact.{both_true}
use Rattle.vortex_parquet.specs.declared.fault.ReadError.{ReadError}
use Rattle.vortex_parquet.specs.declared.fault.ReadError.TheVariants as errors
use Rattle.vortex_parquet.specs.declared.stats.GroupStats.{GroupStats}
use Rattle.vortex_parquet.specs.declared.stretches.PagedColumn.{PagedColumn}
use Rattle.vortex_parquet.specs.Stats.{GroupData, group_view}
use Rattle.vortex_parquet.specs.Stretches.{AreStretches, AreStretchesOf, IsRefusal, PagedData, all_follow, paged_view as column_view}
use Rattle.vortex_parquet.proofs.Views.{drop_none, drop_view}
use Rattle.vortex_predicates.specs.Footers.PagedGroups.{AreStretchesFrom, PagedGroup, all_groups_follow, leaf_view, paged_view, ranges_from, rows_in}
use Rattle.vortex_predicates.specs.Footers.PagePruning.{by_group, by_groups}
use Rattle.vortex_prune.specs.declared.scan.verdict.Verdict.{Verdict}
use Rattle.vortex_predicates.specs.declared.parquet.page_ranges.PageRange.{PageRange}
use Rattle.vortex_predicates.specs.declared.parquet.paged.GroupPages.{GroupPages}
use Rattle.vortex_predicates.specs.declared.parquet.paged.LeafPages.{LeafPages}

-- ---- columns

pub columns_go : (ls : List LeafPages) (front : List PagedColumn) (i : ℕ) (l : LeafPages) (c : PagedColumn) → i < length ls → l ≡ get_or ls i l → column_view c ≡ leaf_view l
    → map column_view front ++ map leaf_view (drop i ls) ≡ map leaf_view ls → map column_view (front ++ c ∷ []) ++ map leaf_view (drop (i + 1) ls) ≡ map leaf_view ls
columns_go ls front i l c lt e h so_far =
    let others : List PagedData = map leaf_view (drop (i + 1) ls) in
    let one : map leaf_view (drop i ls) ≡ column_view c ∷ others =
    ap (map leaf_view) (drop-cons ls i l lt ∙ ap (λ (n : ℕ). get_or ls i l ∷ drop n ls) (sym (add-one i)))
    ∙ ap (λ (x : LeafPages). leaf_view x ∷ others) (sym e) ∙ ap (λ (y : PagedData). y ∷ others) (sym h) in
    ap (λ (ys : List PagedData). ys ++ others) (map_push column_view front c) ∙ append_assoc (map column_view front) (column_view c ∷ []) others
    ∙ ap (λ (ys : List PagedData). map column_view front ++ ys) (sym one) ∙ so_far

pub columns_done : (ls : List LeafPages) (front : List PagedColumn) (i : ℕ) → length ls ≤ i → map column_view front ++ map leaf_view (drop i ls) ≡ map leaf_view ls → map column_view front ≡ map leaf_view ls
columns_done ls front i le so_far =
    let none : map leaf_view (drop i ls) ≡ [] = ap (map leaf_view) (drop_all i ls le) in
    sym (append-nil (map column_view front)) ∙ ap (λ (ys : List PagedData). map column_view front ++ ys) (sym none) ∙ so_far

-- ---- where stretches stand

stretch_step : (ss : List GroupStats) (i : ℕ) (s : GroupStats) → i < length ss → s ≡ get_or ss i s → map group_view (drop i ss) ≡ group_view s ∷ map group_view (drop (i + 1) ss)
stretch_step ss i s lt e =
    ap (map group_view) (drop-cons ss i s lt ∙ ap (λ (n : ℕ). get_or ss i s ∷ drop n ss) (sym (add-one i)))
    ∙ ap (λ (x : GroupStats). group_view x ∷ map group_view (drop (i + 1) ss)) (sym e)

pub ranges_go : (ss : List GroupStats) (front total : List PageRange) (group first i : ℕ) (s : GroupStats) → i < length ss → s ≡ get_or ss i s
    → front ++ ranges_from group first (map group_view (drop i ss)) ≡ total
    → (front ++ record { group = group; first = first; end = first + s.rows } ∷ []) ++ ranges_from group (first + s.rows) (map group_view (drop (i + 1) ss)) ≡ total
ranges_go ss front total group first i s lt e so_far =
    let range : PageRange = record { group = group; first = first; end = first + s.rows } in
    append_assoc front (range ∷ []) (ranges_from group (first + s.rows) (map group_view (drop (i + 1) ss)))
    ∙ ap (λ (ks : List GroupData). front ++ ranges_from group first ks) (sym (stretch_step ss i s lt e)) ∙ so_far

pub ranges_done : (ss : List GroupStats) (front total : List PageRange) (group first i : ℕ) → length ss ≤ i → front ++ ranges_from group first (map group_view (drop i ss)) ≡ total → front ≡ total
ranges_done ss front total group first i le so_far =
    let none : map group_view (drop i ss) ≡ [] = ap (map group_view) (drop_all i ss le) in
    sym (append-nil front) ∙ ap (λ (ks : List GroupData). front ++ ranges_from group first ks) (sym none) ∙ so_far

-- how many rows are left
pub rows_go : (ss : List GroupStats) (first total i : ℕ) (s : GroupStats) → i < length ss → s ≡ get_or ss i s → first + rows_in (map group_view (drop i ss)) ≡ total
    → (first + s.rows) + rows_in (map group_view (drop (i + 1) ss)) ≡ total
rows_go ss first total i s lt e so_far = omega (arith, so_far, ap rows_in (stretch_step ss i s lt e))

-- the stretches of a row group have all its rows
pub all_rows : (cs : List PagedData) (rows from to : ℕ) (ss : List GroupData) → AreStretches cs rows from to ss → from + rows_in ss ≡ to
all_rows cs rows from to [] h = omega (arith, h)
all_rows cs rows from to (s ∷ ss) h = omega (arith, all_rows cs rows (from + s.rows) to ss h.3)

-- ---- row group by row group

follows_in : (gs : List GroupPages) (i : ℕ) (d : GroupPages) → i < length gs → all_groups_follow (map paged_view gs) ≡ true → all_follow (get_or gs i d).rows (map leaf_view (get_or gs i d).columns.items) ≡ true
follows_in [] i d lt h = absurd (omega (arith, lt))
follows_in (g ∷ gs) zero d lt h = (both_true _ _ h).0
follows_in (g ∷ gs) (suc i) d lt h = follows_in gs i d (omega (arith, lt)) (both_true _ _ h).1

pub follows_at : (gs : List GroupPages) (i : ℕ) (g : GroupPages) → i < length gs → g ≡ get_or gs i g → all_groups_follow (map paged_view gs) ≡ true → all_follow g.rows (map leaf_view g.columns.items) ≡ true
follows_at gs i g lt e h = subst (λ (x : GroupPages). all_follow x.rows (map leaf_view x.columns.items) ≡ true) (sym e) (follows_in gs i g lt h)

-- what is found so far, before what is found behind
abbrev pub AreCutTo : List GroupPages → ℕ → List PageRange → List GroupData → Type 0
AreCutTo gs i ranges known =
    (more : List PageRange) (others : List GroupData) → AreStretchesFrom i (drop i (map paged_view gs)) more others → AreStretchesFrom 0 (map paged_view gs) (ranges ++ more) (known ++ others)

pub cut_starts : (gs : List GroupPages) → AreCutTo gs 0 [] []
cut_starts gs more others h = h

pub cut_goes : (gs : List GroupPages) (ranges : List PageRange) (known found : List GroupData) (i : ℕ) (g : GroupPages) → i < length gs → g ≡ get_or gs i g → AreStretchesOf (map leaf_view g.columns.items) g.rows found
    → AreCutTo gs i ranges known → AreCutTo gs (i + 1) (ranges ++ ranges_from i 0 found) (known ++ found)
cut_goes gs ranges known found i g lt e cut so_far more others rest =
    let step : drop i (map paged_view gs) ≡ paged_view g ∷ drop (i + 1) (map paged_view gs) = drop_view paged_view gs i g lt ∙ ap (λ (x : GroupPages). paged_view x ∷ drop (i + 1) (map paged_view gs)) (sym e) in
    let here = subst (λ (xs : List PagedGroup). AreStretchesFrom i xs (ranges_from i 0 found ++ more) (found ++ others)) (sym step) (found, more, others, cut, refl, refl, rest) in
    subst₂ (λ (rs : List PageRange) (ks : List GroupData). AreStretchesFrom 0 (map paged_view gs) rs ks) (sym (append_assoc ranges (ranges_from i 0 found) more)) (sym (append_assoc known found others))
    (so_far (ranges_from i 0 found ++ more) (found ++ others) here)

pub cut_ends : (gs : List GroupPages) (ranges : List PageRange) (known : List GroupData) (i : ℕ) → length gs ≤ i → AreCutTo gs i ranges known → AreStretchesFrom 0 (map paged_view gs) ranges known
cut_ends gs ranges known i le so_far =
    let none = subst (λ (xs : List PagedGroup). AreStretchesFrom i xs [] []) (sym (drop_none paged_view gs i le)) (refl, refl) in
    subst₂ (λ (rs : List PageRange) (ks : List GroupData). AreStretchesFrom 0 (map paged_view gs) rs ks) (append-nil ranges) (append-nil known) (so_far [] [] none)

-- pages that stand one behind the other leave memory alone to refuse
pub memory_alone : (e : ReadError) (cs : List PagedData) (rows : ℕ) → all_follow rows cs ≡ true → IsRefusal cs rows e → e ≡ errors.Memory
memory_alone errors.Memory cs rows h r = refl
memory_alone (errors.Fault f) cs rows h r = let never : true ≡ all_follow rows cs = sym h in absurd (true≢false (never ∙ r.1))

-- ---- verdicts by those on row groups

pub verdicts_go : (groups : List Verdict) (rs : List PageRange) (vs : List Verdict) (front total : List Verdict) (i : ℕ) (r : PageRange) (v x : Verdict) (o : Option Verdict) → i < length rs → length vs ≡ length rs
    → o ≡ slice_get groups (get_or rs i r).group → x ≡ by_group o (get_or vs i v)
    → front ++ by_groups groups (drop i rs) (drop i vs) ≡ total → (front ++ x ∷ []) ++ by_groups groups (drop (i + 1) rs) (drop (i + 1) vs) ≡ total
verdicts_go groups rs vs front total i r v x o lt same there told so_far =
    let h : x ≡ by_group (slice_get groups (get_or rs i r).group) (get_or vs i v) = told ∙ ap (λ (p : Option Verdict). by_group p (get_or vs i v)) there in
    let others : List Verdict = by_groups groups (drop (i + 1) rs) (drop (i + 1) vs) in
    let less : i < length vs = subst (λ (n : ℕ). i < n) (sym same) lt in
    let left : drop i rs ≡ get_or rs i r ∷ drop (i + 1) rs = drop-cons rs i r lt ∙ ap (λ (n : ℕ). get_or rs i r ∷ drop n rs) (sym (add-one i)) in
    let right : drop i vs ≡ get_or vs i v ∷ drop (i + 1) vs = drop-cons vs i v less ∙ ap (λ (n : ℕ). get_or vs i v ∷ drop n vs) (sym (add-one i)) in
    let one : by_groups groups (drop i rs) (drop i vs) ≡ x ∷ others = ap₂ (by_groups groups) left right ∙ ap (λ (y : Verdict). y ∷ others) (sym h) in
    append_assoc front (x ∷ []) others ∙ ap (λ (ys : List Verdict). front ++ ys) (sym one) ∙ so_far

pub verdicts_done : (groups : List Verdict) (rs : List PageRange) (vs : List Verdict) (front total : List Verdict) (i : ℕ) → length rs ≤ i → front ++ by_groups groups (drop i rs) (drop i vs) ≡ total → front ≡ total
verdicts_done groups rs vs front total i le so_far =
    let none : by_groups groups (drop i rs) (drop i vs) ≡ [] = ap (λ (xs : List PageRange). by_groups groups xs (drop i vs)) (drop_all i rs le) in
    sym (append-nil front) ∙ ap (λ (ys : List Verdict). front ++ ys) (sym none) ∙ so_far
