-- The column of a name, as a loop looks for it.
use Rattle.std.proofs.Common.{◌≡◌, ℕ, ◌+◌, ◌≤◌, ◌<◌, Bool, true, false, cond, List, [], ◌∷◌, ◌++◌, length, Option, refl, sym, ap, subst, ◌∙◌, add-one, map, take, get_or}
use Rattle.std.specs.Prelude.{filter}
use Rattle.std.proofs.lemmas.List.{append-nil, length-map, map_push, take-map, take_all}
use Rattle.std.proofs.Math.Seq.{take-suc}
use Rattle.std.proofs.lemmas.List.Elements.{filter-append}
use Rattle.vortex_parquet.specs.declared.columns.Column.{Column}
use Rattle.vortex_parquet.specs.declared.columns.Content.{Content}
use Rattle.vortex_parquet.specs.Columns.{ColumnView, column_view, column_views, is_named, lookup, only, twice, with_column}

only_more : (cs : List ColumnView) (c : ColumnView) → only (cs ++ c ∷ []) ≡ twice (only cs) c.content
only_more [] c = refl
only_more (d ∷ []) c = refl
only_more (d ∷ e ∷ cs) c = refl

one_more : (b : Bool) (front : List ColumnView) (c : ColumnView) → only (front ++ cond b (c ∷ []) []) ≡ cond b (twice (only front) c.content) (only front)
one_more true front c = only_more front c
one_more false front c = ap only (append-nil front)

-- what is found among the columns before a place
abbrev pub found_before : List ℕ → List ColumnView → ℕ → Option Content
found_before name cs i = only (filter (is_named name) (take i cs))

take_more : (cs : List Column) (i : ℕ) (d : Column) → i < length cs → take (i + 1) (column_views cs) ≡ take i (column_views cs) ++ column_view (get_or cs i d) ∷ []
take_more cs i d lt =
    take-map column_view (i + 1) cs ∙ ap (map column_view) (ap (λ (n : ℕ). take n cs) (add-one i) ∙ take-suc cs i d lt) ∙ map_push column_view (take i cs) (get_or cs i d) ∙ ap (λ (xs : List ColumnView). xs ++ column_view (get_or cs i d) ∷ []) (sym (take-map column_view i cs))

pub lookup_goes : (name : List ℕ) (cs : List Column) (i : ℕ) (d : Column) (before : Option Content) → i < length cs
    → before ≡ found_before name (column_views cs) i
    → with_column name before (column_view (get_or cs i d)) ≡ found_before name (column_views cs) (i + 1)
lookup_goes name cs i d before lt h =
    let front : List ColumnView = take i (column_views cs) in
    let c : ColumnView = column_view (get_or cs i d) in
    ap (λ (o : Option Content). with_column name o c) h ∙ sym (one_more (is_named name c) (filter (is_named name) front) c) ∙ ap only (sym (filter-append (is_named name) front (c ∷ []))) ∙ ap (λ (xs : List ColumnView). only (filter (is_named name) xs)) (sym (take_more cs i d lt))

pub lookup_done : (name : List ℕ) (cs : List Column) (i : ℕ) (before : Option Content) → length cs ≤ i
    → before ≡ found_before name (column_views cs) i → before ≡ lookup name (column_views cs)
unfolding lookup
lookup_done name cs i before le h = h ∙ ap (λ (xs : List ColumnView). only (filter (is_named name) xs)) (take_all i (column_views cs) (subst (λ (n : ℕ). n ≤ i) (sym (length-map cs column_view)) le))
