-- Two chunks of one scope, one after the other, are a chunk.
use Rattle.std.proofs.Common.{◌≡◌, ℕ, ◌+◌, ◌==◌, true, List, Option, [], ◌∷◌, ◌++◌, length, map, suc, refl, sym, ap, subst, ◌∙◌, arith}
use Rattle.std.proofs.lemmas.Bool.Decides.{nat_tests}
use Rattle.std.proofs.lemmas.List.{length-append, length-map}
use Rattle.std.specs.List.{list_all}
use Rattle.vortex_base.proofs.Data.AppendLemmas.{both_fit, length-all_appended, same_type}
use Rattle.vortex_base.specs.Data.Columns.{ChunkData, ColumnData, IsChunk, all_appended, all_long, appended_chunk, can_append, emptied, emptied_chunk, has_types, is_column, row_count, row_fits, sizes_fit, with_row}
use Rattle.vortex_base.specs.Data.Exact.{both_hold, both_true}
use Rattle.vortex_base.specs.Data.Scalars.{is_optional_value}
use Rattle.vortex_base.specs.Data.Scopes.{Named, is_scope}
use Rattle.vortex_base.specs.Data.Types.{dtype_eq, dtype_eq_is_exact}
use Rattle.vortex_base.specs.declared.dtype.DType.{DType}
use Rattle.vortex_base.specs.declared.scalar_value.ScalarValue.{ScalarValue}

pub equal_numbers : (m n : ℕ) → (m == n) ≡ true → m ≡ n
equal_numbers m n h = grind (arith, nat_tests)

tests_equal : (m n : ℕ) → m ≡ n → (m == n) ≡ true
tests_equal m n h = grind (arith, nat_tests)

-- two types that equal a third are equal
types_meet : (r s t : DType) → dtype_eq r s ≡ true → dtype_eq r t ≡ true → dtype_eq s t ≡ true
types_meet r s t p q = (dtype_eq_is_exact s t).1 (sym ((dtype_eq_is_exact r s).0 p) ∙ (dtype_eq_is_exact r t).0 q)

-- columns of one scope, whose sizes fit, may be appended
pub may_append : (ss : List Named) (cs ds : List ColumnData) → has_types ss cs ≡ true → has_types ss ds ≡ true → sizes_fit cs ds ≡ true → can_append cs ds ≡ true
may_append [] [] [] p q r = refl
may_append [] [] (d ∷ ds) p q r = cc
may_append [] (c ∷ cs) ds p q r = cc
may_append (s ∷ ss) [] ds p q r = cc
may_append (s ∷ ss) (c ∷ cs) [] p q r = cc
may_append (s ∷ ss) (c ∷ cs) (d ∷ ds) p q r =
    let cp = both_true _ _ p in
    let dq = both_true _ _ q in
    let sr = both_true _ _ r in
    both_hold _ _ (both_hold _ _ (types_meet s.1 c.dtype d.dtype cp.0 dq.0) sr.0) (may_append ss cs ds cp.1 dq.1 sr.1)

all_long-all_appended : (m n : ℕ) (cs ds : List ColumnData) → can_append cs ds ≡ true → all_long m cs ≡ true → all_long n ds ≡ true → all_long (m + n) (all_appended cs ds) ≡ true
all_long-all_appended m n [] [] h p q = refl
all_long-all_appended m n [] (d ∷ ds) h p q = refl
all_long-all_appended m n (c ∷ cs) [] h p q = cc
all_long-all_appended m n (c ∷ cs) (d ∷ ds) h p q =
    let cp = both_true _ _ p in
    let dq = both_true _ _ q in
    let cm = equal_numbers (length c.values) m cp.0 in
    let dn = equal_numbers (length d.values) n dq.0 in
    let sum : length (c.values ++ d.values) ≡ m + n = omega (arith, length-append c.values d.values) in
    both_hold _ _ (tests_equal (length (c.values ++ d.values)) (m + n) sum) (all_long-all_appended m n cs ds (both_true _ _ h).1 cp.1 dq.1)

has_types-all_appended : (ss : List Named) (cs ds : List ColumnData) → has_types ss cs ≡ true → has_types ss (all_appended cs ds) ≡ true
has_types-all_appended [] [] [] p = p
has_types-all_appended [] [] (d ∷ ds) p = p
has_types-all_appended [] (c ∷ cs) [] p = p
has_types-all_appended [] (c ∷ cs) (d ∷ ds) p = cc
has_types-all_appended (s ∷ ss) [] [] p = p
has_types-all_appended (s ∷ ss) [] (d ∷ ds) p = p
has_types-all_appended (s ∷ ss) (c ∷ cs) [] p = p
has_types-all_appended (s ∷ ss) (c ∷ cs) (d ∷ ds) p =
    let cp = both_true _ _ p in
    both_hold _ _ cp.0 (has_types-all_appended ss cs ds cp.1)

are_columns-all_appended : (cs ds : List ColumnData) → can_append cs ds ≡ true → list_all is_column cs ≡ true → list_all is_column ds ≡ true → list_all is_column (all_appended cs ds) ≡ true
are_columns-all_appended [] [] h p q = refl
are_columns-all_appended [] (d ∷ ds) h p q = refl
are_columns-all_appended (c ∷ cs) [] h p q = p
are_columns-all_appended (c ∷ cs) (d ∷ ds) h p q =
    let cp = both_true _ _ p in
    let dq = both_true _ _ q in
    let fits = subst (λ (t : DType). list_all (λ v. is_optional_value v t) d.values ≡ true) (sym (same_type c d cs ds h)) dq.0 in
    both_hold _ _ (both_fit c.dtype c.values d.values cp.0 fits) (are_columns-all_appended cs ds (both_true _ _ h).1 cp.1 dq.1)

row_count-all_appended : (cs ds : List ColumnData) → can_append cs ds ≡ true → row_count (all_appended cs ds) ≡ row_count cs + row_count ds
row_count-all_appended [] [] h = refl
row_count-all_appended [] (d ∷ ds) h = cc
row_count-all_appended (c ∷ cs) [] h = cc
row_count-all_appended (c ∷ cs) (d ∷ ds) h = length-append c.values d.values

-- what a chunk's test says, part by part
record Parts (k : ChunkData) : Type 0 where
  scope : is_scope k.scope ≡ true
  count : (length k.scope == length k.columns) ≡ true
  long : all_long (row_count k.columns) k.columns ≡ true
  types : has_types k.scope k.columns ≡ true
  columns : list_all is_column k.columns ≡ true

parts_of : (k : ChunkData) → IsChunk k → Parts k
parts_of k h =
    let a = both_true _ _ h in
    let b = both_true _ _ a.1 in
    let shape = both_true _ _ b.0 in
    let c = both_true _ _ b.1 in
    record { scope = a.0; count = shape.0; long = shape.1; types = c.0; columns = c.1 }

of_parts : (k : ChunkData) → Parts k → IsChunk k
of_parts k p = both_hold _ _ p.scope (both_hold _ _ (both_hold _ _ p.count p.long) (both_hold _ _ p.types p.columns))

-- chunks of one scope, whose sizes fit, may be appended
pub chunks_may_append : (k l : ChunkData) → IsChunk k → IsChunk l → k.scope ≡ l.scope → sizes_fit k.columns l.columns ≡ true → can_append k.columns l.columns ≡ true
chunks_may_append k l h g e s =
    may_append k.scope k.columns l.columns (parts_of k h).types (subst (λ (ss : List Named). has_types ss l.columns ≡ true) (sym e) (parts_of l g).types) s

-- the same of two chunks as they are seen
pub seen_may_append : (k l seen other : ChunkData) → k ≡ seen → l ≡ other → IsChunk k → IsChunk l → seen.scope ≡ other.scope → sizes_fit seen.columns other.columns ≡ true
    → can_append k.columns l.columns ≡ true
seen_may_append k l seen other is is' h g e s =
    let scope = ap (λ (x : ChunkData). x.scope) is ∙ e ∙ sym (ap (λ (x : ChunkData). x.scope) is') in
    let sizes = ap (λ (x : ChunkData). sizes_fit x.columns l.columns) is ∙ ap (λ (x : ChunkData). sizes_fit seen.columns x.columns) is' ∙ s in
    chunks_may_append k l h g scope sizes

-- the appended chunk is a chunk
pub IsChunk-appended : (k l : ChunkData) → IsChunk k → IsChunk l → can_append k.columns l.columns ≡ true → IsChunk (appended_chunk k l)
IsChunk-appended k l h g can =
    let p = parts_of k h in
    let q = parts_of l g in
    let long : all_long (row_count k.columns + row_count l.columns) (all_appended k.columns l.columns) ≡ true =
    all_long-all_appended (row_count k.columns) (row_count l.columns) k.columns l.columns can p.long q.long in
    of_parts (appended_chunk k l) (record {
      scope = p.scope;
      count = ap (λ n. length k.scope == n) (length-all_appended k.columns l.columns) ∙ p.count;
      long = ap (λ n. all_long n (all_appended k.columns l.columns)) (row_count-all_appended k.columns l.columns can) ∙ long;
      types = has_types-all_appended k.scope k.columns l.columns p.types;
      columns = are_columns-all_appended k.columns l.columns can p.columns q.columns;
    })

long_emptied : (cs : List ColumnData) → all_long 0 (map emptied cs) ≡ true
long_emptied [] = refl
long_emptied (c ∷ cs) = long_emptied cs

pub row_count_emptied : (cs : List ColumnData) → row_count (map emptied cs) ≡ 0
row_count_emptied [] = refl
row_count_emptied (c ∷ cs) = refl

types_emptied : (ss : List Named) (cs : List ColumnData) → has_types ss cs ≡ true → has_types ss (map emptied cs) ≡ true
types_emptied [] [] h = h
types_emptied [] (c ∷ cs) h = cc
types_emptied (s ∷ ss) [] h = cc
types_emptied (s ∷ ss) (c ∷ cs) h = let p = both_true _ _ h in both_hold _ _ p.0 (types_emptied ss cs p.1)

columns_emptied : (cs : List ColumnData) → list_all is_column (map emptied cs) ≡ true
columns_emptied [] = refl
columns_emptied (c ∷ cs) = columns_emptied cs

-- a chunk that has lost its rows is a chunk
pub IsChunk-emptied : (k : ChunkData) → IsChunk k → IsChunk (emptied_chunk k)
IsChunk-emptied k h =
    let p = parts_of k h in
    of_parts (emptied_chunk k) (record {
      scope = p.scope;
      count = ap (λ n. length k.scope == n) (length-map k.columns emptied) ∙ p.count;
      long = ap (λ n. all_long n (map emptied k.columns)) (row_count_emptied k.columns) ∙ long_emptied k.columns;
      types = types_emptied k.scope k.columns p.types;
      columns = columns_emptied k.columns;
    })

-- ---- a row that is pushed

long_pushed : (n : ℕ) (cs : List ColumnData) (vs : List (Option ScalarValue)) → row_fits cs vs ≡ true → all_long n cs ≡ true → all_long (n + 1) (with_row cs vs) ≡ true
long_pushed n [] [] f h = refl
long_pushed n [] (v ∷ vs) f h = cc
long_pushed n (c ∷ cs) [] f h = cc
long_pushed n (c ∷ cs) (v ∷ vs) f h =
    let both = both_true _ _ h in
    let long = equal_numbers (length c.values) n both.0 in
    let sum : length (c.values ++ v ∷ []) ≡ n + 1 = omega (arith, long, length-append c.values (v ∷ [])) in
    both_hold _ _ (tests_equal _ _ sum) (long_pushed n cs vs (both_true _ _ f).1 both.1)

pub length-with_row : (cs : List ColumnData) (vs : List (Option ScalarValue)) → length (with_row cs vs) ≡ length cs
length-with_row [] [] = refl
length-with_row [] (v ∷ vs) = refl
length-with_row (c ∷ cs) [] = refl
length-with_row (c ∷ cs) (v ∷ vs) = ap suc (length-with_row cs vs)

rows_pushed : (cs : List ColumnData) (vs : List (Option ScalarValue)) → row_fits cs vs ≡ true → all_long (row_count cs + 1) (with_row cs vs) ≡ true → all_long (row_count (with_row cs vs)) (with_row cs vs) ≡ true
rows_pushed [] [] f h = refl
rows_pushed [] (v ∷ vs) f h = cc
rows_pushed (c ∷ cs) [] f h = cc
rows_pushed (c ∷ cs) (v ∷ vs) f h = ap (λ n. all_long n (with_row (c ∷ cs) (v ∷ vs))) (length-append c.values (v ∷ [])) ∙ h

types_pushed : (ss : List Named) (cs : List ColumnData) (vs : List (Option ScalarValue)) → has_types ss cs ≡ true → has_types ss (with_row cs vs) ≡ true
types_pushed [] [] [] h = h
types_pushed [] [] (v ∷ vs) h = h
types_pushed [] (c ∷ cs) vs h = cc
types_pushed (s ∷ ss) [] [] h = h
types_pushed (s ∷ ss) [] (v ∷ vs) h = h
types_pushed (s ∷ ss) (c ∷ cs) [] h = h
types_pushed (s ∷ ss) (c ∷ cs) (v ∷ vs) h = let both = both_true _ _ h in both_hold _ _ both.0 (types_pushed ss cs vs both.1)

columns_pushed : (cs : List ColumnData) (vs : List (Option ScalarValue)) → row_fits cs vs ≡ true → list_all is_column cs ≡ true → list_all is_column (with_row cs vs) ≡ true
columns_pushed [] [] f h = refl
columns_pushed [] (v ∷ vs) f h = cc
columns_pushed (c ∷ cs) [] f h = cc
columns_pushed (c ∷ cs) (v ∷ vs) f h =
    let both = both_true _ _ h in
    let fits = both_true _ _ f in
    both_hold _ _ (both_fit c.dtype c.values (v ∷ []) both.0 (both_hold _ _ fits.0 refl)) (columns_pushed cs vs fits.1 both.1)

-- the chunk with one more row that fits is a chunk
pub IsChunk-pushed : (k : ChunkData) (vs : List (Option ScalarValue)) → IsChunk k → row_fits k.columns vs ≡ true → IsChunk (record { scope = k.scope; columns = with_row k.columns vs })
IsChunk-pushed k vs h fits =
    let p = parts_of k h in
    of_parts (record { scope = k.scope; columns = with_row k.columns vs }) (record {
      scope = p.scope;
      count = ap (λ n. length k.scope == n) (length-with_row k.columns vs) ∙ p.count;
      long = rows_pushed k.columns vs fits (long_pushed (row_count k.columns) k.columns vs fits p.long);
      types = types_pushed k.scope k.columns vs p.types;
      columns = columns_pushed k.columns vs fits p.columns;
    })

pub all_long_of : (k : ChunkData) → IsChunk k → all_long (row_count k.columns) k.columns ≡ true
all_long_of k h = (parts_of k h).long
