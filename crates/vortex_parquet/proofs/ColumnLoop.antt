-- The columns of a schema, as a loop finds them.
use Rattle.std.proofs.Common.{◌≡◌, ℕ, suc, ◌+◌, ◌-◌, ◌≤◌, ◌<◌, List, [], ◌∷◌, ◌++◌, length, Result, Ok, Err, refl, sym, ap, ◌∙◌, append_assoc, arith, add-one, map, drop, drop-cons, get_or, length-drop}
use Rattle.std.proofs.lemmas.List.{append-nil, drop-map, drop_all, length-map}
use Rattle.vortex_parquet.specs.declared.fault.Fault.{Fault}
use Rattle.vortex_parquet.specs.declared.fault.ReadError.{ReadError}
use Rattle.vortex_parquet.specs.declared.fault.ReadError.TheVariants as errors
use Rattle.vortex_parquet.specs.declared.records.SchemaElement.{SchemaElement}
use Rattle.vortex_parquet.specs.Reading.{◌>>=◌, Fails}
use Rattle.vortex_parquet.specs.Records.{ElementData, element_view}
use Rattle.vortex_parquet.specs.Columns.{ColumnView, checked, columns_in, first_level, inside_after, places_after}

-- what was found before, and what is still found
abbrev pub with_columns : List ColumnView → Result (List ColumnView × ℕ) Fault → Result (List ColumnView × ℕ) Fault
with_columns front read = read >>= λ x. Ok (front ++ x.0, x.1)

no_front : (read : Result (List ColumnView × ℕ) Fault) → with_columns [] read ≡ read
no_front (Ok x) = refl
no_front (Err d) = refl

regroup : (front more : List ColumnView) (read : Result (List ColumnView × ℕ) Fault) → with_columns front (read >>= λ x. Ok (more ++ x.0, x.1)) ≡ with_columns (front ++ more) read
regroup front more (Ok x) = ap (λ (ls : List ColumnView). Ok (ls, x.1)) (sym (append_assoc front more x.0))
regroup front more (Err d) = refl

pub columns_start : (nodes : List ElementData) → with_columns [] (columns_in 0 0 (drop 0 nodes)) ≡ columns_in 0 0 nodes
columns_start nodes = no_front (columns_in 0 0 nodes)

drop_step : (nodes : List SchemaElement) (i : ℕ) (d : SchemaElement) → i < length nodes → drop i (map element_view nodes) ≡ element_view (get_or nodes i d) ∷ drop (i + 1) (map element_view nodes)
drop_step nodes i d lt =
    drop-map element_view i nodes ∙ ap (map element_view) (drop-cons nodes i d lt) ∙ ap (λ (ns : List ElementData). element_view (get_or nodes i d) ∷ ns) (sym (drop-map element_view (suc i) nodes) ∙ ap (λ (n : ℕ). drop n (map element_view nodes)) (sym (add-one i)))

left_is : (nodes : List SchemaElement) (i : ℕ) → length (drop (i + 1) (map element_view nodes)) ≡ length nodes - i - 1
left_is nodes i = omega (arith, length-drop (i + 1) (map element_view nodes), length-map nodes element_view)

pub columns_go : (nodes : List SchemaElement) (front : List ColumnView) (inside count i after : ℕ) (d : SchemaElement) (total : Result (List ColumnView × ℕ) Fault) → i < length nodes
    → checked (length nodes - i - 1) (inside_after inside (element_view (get_or nodes i d))) ≡ Ok after
    → with_columns front (columns_in inside count (drop i (map element_view nodes))) ≡ total
    → with_columns (front ++ first_level inside count (element_view (get_or nodes i d))) (columns_in after (places_after count (element_view (get_or nodes i d))) (drop (i + 1) (map element_view nodes))) ≡ total
unfolding columns_in
columns_go nodes front inside count i after d total lt h so_far =
    let node : ElementData = element_view (get_or nodes i d) in
    let others : List ElementData = drop (i + 1) (map element_view nodes) in
    let one : columns_in inside count (drop i (map element_view nodes)) ≡ (columns_in after (places_after count node) others >>= λ x. Ok (first_level inside count node ++ x.0, x.1)) =
    ap (columns_in inside count) (drop_step nodes i d lt) ∙ rw (left_is nodes i, h) refl in
    sym (regroup front (first_level inside count node) (columns_in after (places_after count node) others)) ∙ ap (with_columns front) (sym one) ∙ so_far

pub columns_fail : (e : ReadError) (nodes : List SchemaElement) (front : List ColumnView) (inside count i : ℕ) (default : SchemaElement) (total : Result (List ColumnView × ℕ) Fault) → i < length nodes
    → Fails e (checked (length nodes - i - 1) (inside_after inside (element_view (get_or nodes i default))))
    → with_columns front (columns_in inside count (drop i (map element_view nodes))) ≡ total → Fails e total
unfolding columns_in
columns_fail errors.Memory nodes front inside count i default total lt h so_far = tt
columns_fail (errors.Fault d) nodes front inside count i default total lt h so_far =
    let one : columns_in inside count (drop i (map element_view nodes)) ≡ Err d =
    ap (columns_in inside count) (drop_step nodes i default lt) ∙ rw (left_is nodes i, h) refl in
    sym so_far ∙ ap (with_columns front) one

pub columns_done : (nodes : List SchemaElement) (front : List ColumnView) (inside count i : ℕ) (total : Result (List ColumnView × ℕ) Fault) → length nodes ≤ i
    → with_columns front (columns_in inside count (drop i (map element_view nodes))) ≡ total → total ≡ Ok (front, count)
unfolding columns_in
columns_done nodes front inside count i total le so_far =
    let one : columns_in inside count (drop i (map element_view nodes)) ≡ Ok ([], count) = ap (columns_in inside count) (drop-map element_view i nodes ∙ ap (map element_view) (drop_all i nodes le)) in
    sym so_far ∙ ap (with_columns front) one ∙ ap (λ (ls : List ColumnView). Ok (ls, count)) (append-nil front)
