-- Columns that take a row stay columns of one length, and their sets of statistics go on fitting them.
use Rattle.std.proofs.Common.{◌≡◌, ◌+◌, ◌==◌, ℕ, suc, true, List, [], ◌∷◌, Option, Some, option_and_then, length, refl, ap, sym, subst, arith}
use Rattle.std.proofs.lemmas.Bool.Decides.{nat_tests}
use Rattle.std.proofs.lemmas.List.{length-append}
use Rattle.std.specs.List.{AllZip, list_all}
use Rattle.vortex_base.proofs.Data.AppendLemmas.{both_fit}
use Rattle.vortex_base.specs.Data.Columns.{ColumnData, all_fit, all_long, has_types, is_column, row_count}
use Rattle.vortex_base.specs.Data.Exact.{both_hold, both_true}
use Rattle.vortex_base.specs.Data.Scalars.{is_optional_value}
use Rattle.vortex_base.specs.Data.Scopes.{Named}
use Rattle.vortex_base.specs.Data.Types.{dtype_eq}
use Rattle.vortex_base.specs.declared.dtype.DType.{DType}
use Rattle.vortex_base.specs.declared.scalar_value.ScalarValue.{ScalarValue}
use Rattle.vortex_prune.specs.Part.{sets_fit}
use Rattle.vortex_zone_map.specs.Zone.{Entries}
use Rattle.vortex_stats.specs.Sets.Entries.{entries_fit}
use Rattle.vortex_syntax.specs.Values.{optional_value_of}
use Rattle.vortex_syntax.specs.Words.{Token, first_word, no_word}
use Rattle.vortex_syntax.proofs.Fitting.ExpressionFits.{one_made, step_of}
use Rattle.vortex_syntax.proofs.Fitting.ValueFits.{optional_value_fits}
use Rattle.vortex_text.specs.Columns.{taken, with_value, with_values}
use Rattle.vortex_text.specs.Fitting.{is_unsized}

-- the second column is the first with one more value of its type
pub record Grown (c d : ColumnData) : Type 0 where
  pub dtype : d.dtype ≡ c.dtype
  pub long : length d.values ≡ length c.values + 1
  pub size : d.size ≡ c.size
  pub fits : is_column c ≡ true → is_column d ≡ true

one_fits : (t : DType) (v : Option ScalarValue) → is_optional_value v t ≡ true → all_fit t (v ∷ []) ≡ true
one_fits t v h = both_hold _ _ h refl

with_value_grows : (c : ColumnData) (v : Option ScalarValue) → is_optional_value v c.dtype ≡ true → Grown c (with_value v c)
with_value_grows c v h = record {
  dtype = refl;
  long = length-append c.values (v ∷ []);
  size = refl;
  fits = λ all. both_fit c.dtype c.values (v ∷ []) all (one_fits c.dtype v h);
}

taken_grows : (c d : ColumnData) (ws rest : List Token) → taken c ws ≡ Some (d, rest) → Grown c d
taken_grows c d ws rest h =
    let last = λ (after : List Token) (v : Option ScalarValue). Some (with_value v c, after) in
    let a = step_of (first_word ws) (λ (word : Token × List Token). option_and_then (last word.1) (optional_value_of c.dtype word.0)) (d, rest) h in
    let b = step_of (optional_value_of c.dtype a.at.0) (last a.at.1) (d, rest) a.then in
    let same = ap (λ (p : ColumnData × List Token). p.0) (one_made (with_value b.at c, a.at.1) (d, rest) b.then) in
    let P : ColumnData → Type 0 = Grown c in
    subst P same (with_value_grows c b.at (optional_value_fits c.dtype a.at.0 b.at b.made))

-- each column of a row that was taken has one more value
pub row_grows : (cs ds : List ColumnData) (ws : List Token) → with_values cs ws ≡ Some ds → AllZip Grown cs ds
row_grows [] [] ws h = tt
row_grows [] (d ∷ ds) ws h =
    let a = step_of (no_word ws) (λ (none : Unit {0}). Some []) (d ∷ ds) h in
    let same = one_made [] (d ∷ ds) a.then in
    cc
row_grows (c ∷ cs) ds ws h =
    let last = λ (e : ColumnData) (more : List ColumnData). Some (e ∷ more) in
    let a = step_of (taken c ws) (λ (longer : ColumnData × List Token). option_and_then (last longer.0) (with_values cs longer.1)) ds h in
    let b = step_of (with_values cs a.at.1) (last a.at.0) ds a.then in
    let P : List ColumnData → Type 0 = λ es. AllZip Grown (c ∷ cs) es in
    subst P (one_made (a.at.0 ∷ b.at) ds b.then) (taken_grows c a.at.0 ws a.at.1 a.made, row_grows cs b.at a.at.1 b.made)

pub grown_count : (cs ds : List ColumnData) → AllZip Grown cs ds → length ds ≡ length cs
grown_count [] [] h = refl
grown_count [] (d ∷ ds) h = absurd h
grown_count (c ∷ cs) [] h = absurd h
grown_count (c ∷ cs) (d ∷ ds) h = ap suc (grown_count cs ds h.1)

tests_more : (m n k : ℕ) → m ≡ n + 1 → (n == k) ≡ true → (m == k + 1) ≡ true
tests_more m n k e h = grind (arith, nat_tests)

pub grown_long : (n : ℕ) (cs ds : List ColumnData) → AllZip Grown cs ds → all_long n cs ≡ true → all_long (n + 1) ds ≡ true
grown_long n [] [] h p = refl
grown_long n [] (d ∷ ds) h p = absurd h
grown_long n (c ∷ cs) [] h p = absurd h
grown_long n (c ∷ cs) (d ∷ ds) h p =
    let both = both_true _ _ p in
    both_hold _ _ (tests_more (length d.values) (length c.values) n h.0.long both.0) (grown_long n cs ds h.1 both.1)

-- all are as long as the first
pub grown_alike : (cs ds : List ColumnData) → AllZip Grown cs ds → all_long (row_count cs) cs ≡ true → all_long (row_count ds) ds ≡ true
grown_alike [] [] h p = refl
grown_alike [] (d ∷ ds) h p = absurd h
grown_alike (c ∷ cs) [] h p = absurd h
grown_alike (c ∷ cs) (d ∷ ds) h p =
    subst (λ (n : ℕ). all_long n (d ∷ ds) ≡ true) (sym h.0.long) (grown_long (length c.values) (c ∷ cs) (d ∷ ds) h p)

pub grown_types : (ss : List Named) (cs ds : List ColumnData) → AllZip Grown cs ds → has_types ss cs ≡ true → has_types ss ds ≡ true
grown_types [] [] [] h p = refl
grown_types [] [] (d ∷ ds) h p = absurd h
grown_types [] (c ∷ cs) ds h p = cc
grown_types (s ∷ ss) [] ds h p = cc
grown_types (s ∷ ss) (c ∷ cs) [] h p = absurd h
grown_types (s ∷ ss) (c ∷ cs) (d ∷ ds) h p =
    let both = both_true _ _ p in
    both_hold _ _ (subst (λ (t : DType). dtype_eq s.1 t ≡ true) (sym h.0.dtype) both.0) (grown_types ss cs ds h.1 both.1)

pub grown_fit : (cs ds : List ColumnData) → AllZip Grown cs ds → list_all is_column cs ≡ true → list_all is_column ds ≡ true
grown_fit [] [] h p = refl
grown_fit [] (d ∷ ds) h p = absurd h
grown_fit (c ∷ cs) [] h p = absurd h
grown_fit (c ∷ cs) (d ∷ ds) h p = let both = both_true _ _ p in both_hold _ _ (h.0.fits both.0) (grown_fit cs ds h.1 both.1)

pub grown_sets : (cs ds : List ColumnData) (ss : List Entries) → AllZip Grown cs ds → sets_fit cs ss ≡ true → sets_fit ds ss ≡ true
grown_sets [] [] ss h p = p
grown_sets [] (d ∷ ds) ss h p = absurd h
grown_sets (c ∷ cs) [] ss h p = absurd h
grown_sets (c ∷ cs) (d ∷ ds) [] h p = p
grown_sets (c ∷ cs) (d ∷ ds) (s ∷ ss) h p =
    let both = both_true _ _ p in
    both_hold _ _ (subst (λ (t : DType). entries_fit s t ≡ true) (sym h.0.dtype) both.0) (grown_sets cs ds ss h.1 both.1)

pub grown_unsized : (cs ds : List ColumnData) → AllZip Grown cs ds → is_unsized cs ≡ true → is_unsized ds ≡ true
grown_unsized [] [] h p = refl
grown_unsized [] (d ∷ ds) h p = absurd h
grown_unsized (c ∷ cs) [] h p = absurd h
grown_unsized (c ∷ cs) (d ∷ ds) h p =
    let both = both_true _ _ p in
    both_hold _ _ (subst (λ (n : ℕ). (n == 0) ≡ true) (sym h.0.size) both.0) (grown_unsized cs ds h.1 both.1)
