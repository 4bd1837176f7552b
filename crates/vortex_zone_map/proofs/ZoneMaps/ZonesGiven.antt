-- A table that is handed in is a chunk, and its map is kept.
use Rattle.std.proofs.Common.{◌≡◌, ◌<◌, ◌==◌, ℕ, suc, true, List, [], ◌∷◌, Ok, Result, arith, length, map, refl, sym, ap, ◌∙◌}
use Rattle.std.specs.List.{list_all}
use Rattle.std.proofs.lemmas.Bool.Decides.{nat_tests}
use Rattle.vortex_base.specs.Data.Columns.{ChunkData, ColumnData, all_long, chunk_of, has_shape, has_types, row_count as rows_of}
use Rattle.vortex_base.specs.Data.Exact.{both_hold, both_true}
use Rattle.vortex_base.specs.Data.Scopes.{IsScope, Named}
use Rattle.vortex_base.specs.declared.error.BaseError.{BaseError}
use Rattle.vortex_zone_map.proofs.ZoneMaps.ZoneNames.{has_heads}
use Rattle.vortex_zone_map.specs.GivenTables.{all_stand, chunk_with, is_table}
use Rattle.vortex_zone_map.specs.ZoneMaps.{StatColumn, IsMap, heads, named_head, starts_from}

same_count : (a b : ℕ) → (a == b) ≡ true → a ≡ b
same_count a b h = grind (arith, nat_tests)

count_same : (a b : ℕ) → a ≡ b → (a == b) ≡ true
count_same a b h = grind (arith, nat_tests)

module _ (n : ℕ) where
  as_many : (hs : List StatColumn) (cs : List ColumnData) → all_stand n hs cs ≡ true → length (map named_head hs) ≡ length cs
  as_many [] [] h = refl
  as_many [] (c ∷ cs) h = absurd cc
  as_many (x ∷ hs) [] h = absurd cc
  as_many (x ∷ hs) (c ∷ cs) h = ap suc (as_many hs cs (both_true _ _ h).1)

  all_typed : (hs : List StatColumn) (cs : List ColumnData) → all_stand n hs cs ≡ true → has_types (map named_head hs) cs ≡ true
  all_typed [] [] h = refl
  all_typed [] (c ∷ cs) h = absurd cc
  all_typed (x ∷ hs) [] h = absurd cc
  all_typed (x ∷ hs) (c ∷ cs) h = both_hold _ _ (both_true _ _ (both_true _ _ h).0).0 (all_typed hs cs (both_true _ _ h).1)

  as_long : (hs : List StatColumn) (cs : List ColumnData) → all_stand n hs cs ≡ true → all_long n cs ≡ true
  as_long [] [] h = refl
  as_long [] (c ∷ cs) h = absurd cc
  as_long (x ∷ hs) [] h = absurd cc
  as_long (x ∷ hs) (c ∷ cs) h = both_hold _ _ (both_true _ _ (both_true _ _ (both_true _ _ h).0).1).0 (as_long hs cs (both_true _ _ h).1)

  sizeless : (hs : List StatColumn) (cs : List ColumnData) → all_stand n hs cs ≡ true → list_all (λ c. c.size == 0) cs ≡ true
  sizeless [] [] h = refl
  sizeless [] (c ∷ cs) h = absurd cc
  sizeless (x ∷ hs) [] h = absurd cc
  sizeless (x ∷ hs) (c ∷ cs) h = both_hold _ _ (both_true _ _ (both_true _ _ (both_true _ _ h).0).1).1 (sizeless hs cs (both_true _ _ h).1)

  rows_given : (hs : List StatColumn) (cs : List ColumnData) → 0 < length hs → all_stand n hs cs ≡ true → rows_of cs ≡ n
  rows_given [] cs some h = absurd (omega (arith, some))
  rows_given (x ∷ hs) [] some h = absurd cc
  rows_given (x ∷ hs) (c ∷ cs) some h = same_count (length c.values) n (both_true _ _ (both_true _ _ (both_true _ _ h).0).1).0

  all_as_long : (hs : List StatColumn) (cs : List ColumnData) → 0 < length hs → all_stand n hs cs ≡ true → all_long (rows_of cs) cs ≡ true
  all_as_long hs cs some h = ap (λ k. all_long k cs) (rows_given hs cs some h) ∙ as_long hs cs h

abbrev ok_chunk : ChunkData → Result ChunkData BaseError
ok_chunk k = Ok k

-- the columns that are given and their names make a chunk
pub given_are_chunk : (n : ℕ) (scope names : List Named) (hs : List StatColumn) (cs : List ColumnData) → IsScope scope → hs ≡ heads scope → names ≡ map named_head hs → all_stand n hs cs ≡ true
    → chunk_of names cs ≡ ok_chunk (chunk_with names cs)
given_are_chunk n scope names hs cs is all named h =
    let many : (length names == length cs) ≡ true = count_same (length names) (length cs) (ap length named ∙ as_many n hs cs h) in
    let shape : has_shape names cs ≡ true = both_hold _ _ many (all_as_long n hs cs (has_heads scope hs is all) h) in
    let typed : has_types names cs ≡ true = ap (λ l. has_types l cs) named ∙ all_typed n hs cs h in
    rw (shape, typed) refl

-- the map with the columns is kept
pub given_is_kept : (scope : List Named) (rows starts : List ℕ) (table : ChunkData) (names : List Named) (cs : List ColumnData) → IsScope scope → names ≡ map named_head (heads scope) → is_table (length rows) scope cs ≡ true
    → table ≡ chunk_with names cs → starts ≡ starts_from 0 scope → IsMap (record { scope = scope; rows = rows; table = table }) starts
given_is_kept scope rows starts table names cs is named h made started = record {
  named = ap (λ (k : ChunkData). k.scope) made ∙ named;
  counted = sym (ap (λ (k : ChunkData). rows_of k.columns) made ∙ rows_given (length rows) (heads scope) cs (has_heads scope (heads scope) is refl) h);
  sizeless = ap (λ (k : ChunkData). list_all (λ c. c.size == 0) k.columns) made ∙ sizeless (length rows) (heads scope) cs h;
  started = started;
}
