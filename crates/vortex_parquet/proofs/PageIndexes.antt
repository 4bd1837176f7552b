-- The least offset of page indexes, as loops over column chunks and row groups find it.
use Rattle.std.proofs.Common.{◌≡◌, ℕ, ◌+◌, ◌-◌, ◌≤◌, ◌<◌, ◌⊎◌, List, [], ◌∷◌, ◌++◌, length, Option, Some, None, Result, Ok, Err, refl, sym, ap, ◌∙◌, subst, inl, inr, arith, drop, get_or, map, min}
use Rattle.std.specs.Prelude.{IfErr, IfOk}
use Rattle.std.proofs.Math.Nat.{min-eq_left, min-eq_right}
use Rattle.std.proofs.lemmas.Bool.{cases_order}
use Rattle.std.proofs.lemmas.List.{append-nil, flat_map_more, get_or-map, length-map}
use Rattle.std.proofs.lemmas.List.Elements.{All-append, All-cons, All-nil, All-weaker, Contains-append_left, Contains-append_right, Contains-push}
use Rattle.vortex_parquet.specs.declared.fault.ReadError.{ReadError}
use Rattle.vortex_parquet.specs.declared.fault.ReadError.TheVariants as errors
use Rattle.vortex_parquet.specs.declared.offset_index.IndexPlaces.{IndexPlaces}
use Rattle.vortex_parquet.specs.Fields.{many}
use Rattle.vortex_parquet.specs.PageIndex.{places_of}
use Rattle.vortex_parquet.specs.PageIndexes.{IsChunksBegin, IsGroupBegin, IsGroupsBegin, IsIndexesBegin, IsLeast, chunk_offsets, file_offsets, group_offsets, group_places, index_places, lesser, listed}
use Rattle.vortex_parquet.specs.Reading.{Fails}
use Rattle.vortex_parquet.specs.Records.{FileData, RowGroupData, row_group_of}
use Rattle.vortex_parquet.specs.Stats.{all_of}
use Rattle.vortex_parquet.proofs.Alls.{all_goes, all_fails, all_done}
use Rattle.vortex_parquet.proofs.Loops.{many_goes, many_fails, many_done, many_start, with_all}

-- ---- the least of lists

least_listed : (o : Option ℕ) → IsLeast (listed o) o
least_listed None = refl
least_listed (Some n) = (Contains-push [] n, All-cons (λ m. n ≤ m) n [] (omega arith) (All-nil (λ m. n ≤ m)))

least_min : (xs ys : List ℕ) (n m : ℕ) → IsLeast xs (Some n) → IsLeast ys (Some m) → (n ≤ m) ⊎ (m ≤ n) → IsLeast (xs ++ ys) (Some (min n m))
least_min xs ys n m h k (inl le) =
    let e : min n m ≡ n = min-eq_left le in
    rw e (Contains-append_left xs ys n h.0, All-append (λ j. n ≤ j) xs ys h.1 (All-weaker (λ j. m ≤ j) (λ j. n ≤ j) (λ j below. omega arith) ys k.1))
least_min xs ys n m h k (inr le) =
    let e : min n m ≡ m = min-eq_right le in
    rw e (Contains-append_right xs ys m k.0, All-append (λ j. m ≤ j) xs ys (All-weaker (λ j. n ≤ j) (λ j. m ≤ j) (λ j below. omega arith) xs h.1) k.1)

either_way : (n m : ℕ) → (n ≤ m) ⊎ (m ≤ n)
either_way n m = elim (cases_order n m) [ inl e ↦ inl (omega arith) | inr (inl lt) ↦ inl (omega arith) | inr (inr lt) ↦ inr (omega arith) ]

pub least_append : (xs ys : List ℕ) (a b : Option ℕ) → IsLeast xs a → IsLeast ys b → IsLeast (xs ++ ys) (lesser a b)
least_append xs ys None b h k = subst (λ (zs : List ℕ). IsLeast (zs ++ ys) b) (sym h) k
least_append xs ys (Some n) None h k =
    let e : xs ++ ys ≡ xs = ap (λ (zs : List ℕ). xs ++ zs) k ∙ append-nil xs in
    subst (λ (zs : List ℕ). IsLeast zs (Some n)) (sym e) h
least_append xs ys (Some n) (Some m) h k = least_min xs ys n m h k (either_way n m)

pub least_of_chunk : (p : IndexPlaces) → IsLeast (chunk_offsets p) (lesser p.column_index p.offset_index)
least_of_chunk p = least_append (listed p.column_index) (listed p.offset_index) p.column_index p.offset_index (least_listed p.column_index) (least_listed p.offset_index)

-- ---- column chunks

-- the least offset of the column chunks before a place, and those that are still read
pub record IsBeginTo (chunks : List (List ℕ)) (i : ℕ) (found : Option ℕ) : Type 0 where
  pub places : List IndexPlaces
  pub so_far : with_all places (all_of places_of (drop i chunks)) ≡ all_of places_of chunks
  pub least : IsLeast (group_offsets places) found

pub chunks_go : {X : Type 0} (view : X → List ℕ) (chunks : List X) (i : ℕ) (d : X) (p : IndexPlaces) (found : Option ℕ) → i < length chunks → places_of (view (get_or chunks i d)) ≡ Ok p → IsBeginTo (map view chunks) i found
    → IsBeginTo (map view chunks) (i + 1) (lesser found (lesser p.column_index p.offset_index))
chunks_go view chunks i d p found lt read h =
    let few : i < length (map view chunks) = omega (arith, length-map chunks view) in
    let read' : places_of (get_or (map view chunks) i []) ≡ Ok p = ap places_of (get_or-map view chunks i d [] lt) ∙ read in
    record {
      places = h.places ++ p ∷ [];
      so_far = all_goes places_of (map view chunks) h.places i [] p (all_of places_of (map view chunks)) few read' h.so_far;
      least = subst (λ (ns : List ℕ). IsLeast ns (lesser found (lesser p.column_index p.offset_index))) (flat_map_more chunk_offsets [] h.places p)
          (least_append (group_offsets h.places) (chunk_offsets p) found (lesser p.column_index p.offset_index) h.least (least_of_chunk p));
    }

pub chunks_fail : {X : Type 0} (e : ReadError) (view : X → List ℕ) (chunks : List X) (i : ℕ) (d : X) (found : Option ℕ) → i < length chunks → Fails e (places_of (view (get_or chunks i d))) → IsBeginTo (map view chunks) i found
    → Fails e (all_of places_of (map view chunks))
chunks_fail e view chunks i d found lt fails h =
    let few : i < length (map view chunks) = omega (arith, length-map chunks view) in
    all_fails e places_of (map view chunks) h.places i [] (all_of places_of (map view chunks)) few
    (subst (λ (bytes : List ℕ). Fails e (places_of bytes)) (sym (get_or-map view chunks i d [] lt)) fails) h.so_far

pub chunks_done : {X : Type 0} (view : X → List ℕ) (chunks : List X) (i : ℕ) (found : Option ℕ) → length chunks ≤ i → IsBeginTo (map view chunks) i found → IsChunksBegin (map view chunks) found
chunks_done view chunks i found le h =
    let all : length (map view chunks) ≤ i = omega (arith, length-map chunks view) in
    record {
      places = h.places;
      read = all_done places_of (map view chunks) h.places i (all_of places_of (map view chunks)) all h.so_far;
      least = h.least;
    }

-- ---- row groups

pub group_reads : (bytes : List ℕ) (g : RowGroupData) (rest : List ℕ) (found : Option ℕ) → row_group_of bytes ≡ Ok (g, rest) → IsChunksBegin g.columns found → IsGroupBegin bytes found rest
unfolding group_places
group_reads bytes g rest found read h = record {
  places = h.places;
  read = rw (read, h.read) refl;
  least = h.least;
}

pub group_unread : (e : ReadError) (bytes : List ℕ) → Fails e (row_group_of bytes) → Fails e (group_places bytes)
unfolding group_places
group_unread errors.Memory bytes h = tt
group_unread (errors.Fault d) bytes h = rw h refl

pub chunks_unread : (e : ReadError) (bytes : List ℕ) (g : RowGroupData) (rest : List ℕ) → row_group_of bytes ≡ Ok (g, rest) → Fails e (all_of places_of g.columns) → Fails e (group_places bytes)
unfolding group_places
chunks_unread errors.Memory bytes g rest read h = tt
chunks_unread (errors.Fault d) bytes g rest read h = rw (read, h) refl

-- the least offset of the row groups before a place, and those that are still read
pub record IsGroupsBeginTo (count i : ℕ) (bytes rest : List ℕ) (found : Option ℕ) : Type 0 where
  pub places : List (List IndexPlaces)
  pub so_far : with_all places (many group_places (count - i) rest) ≡ many group_places count bytes
  pub least : IsLeast (file_offsets places) found

pub groups_go : (count i : ℕ) (bytes rest after : List ℕ) (found more : Option ℕ) → i < count → IsGroupBegin rest more after → IsGroupsBeginTo count i bytes rest found
    → IsGroupsBeginTo count (i + 1) bytes after (lesser found more)
groups_go count i bytes rest after found more lt one h = record {
  places = h.places ++ one.places ∷ [];
  so_far = many_goes group_places h.places count i rest one.places after (many group_places count bytes) lt one.read h.so_far;
  least = subst (λ (ns : List ℕ). IsLeast ns (lesser found more)) (flat_map_more group_offsets [] h.places one.places)
      (least_append (file_offsets h.places) (group_offsets one.places) found more h.least one.least);
}

pub groups_fail : (e : ReadError) (count i : ℕ) (bytes rest : List ℕ) (found : Option ℕ) → i < count → Fails e (group_places rest) → IsGroupsBeginTo count i bytes rest found
    → Fails e (many group_places count bytes)
groups_fail e count i bytes rest found lt fails h = many_fails e group_places h.places count i rest (many group_places count bytes) lt fails h.so_far

pub groups_done : (count i : ℕ) (bytes rest : List ℕ) (found : Option ℕ) → count ≤ i → IsGroupsBeginTo count i bytes rest found → IsGroupsBegin count bytes found
groups_done count i bytes rest found le h = record {
  places = h.places;
  read = many_done group_places h.places count i rest (many group_places count bytes) le h.so_far;
  least = h.least;
}

pub groups_start : (count : ℕ) (bytes : List ℕ) → IsGroupsBeginTo count 0 bytes bytes None
groups_start count bytes = record { places = []; so_far = many_start group_places count bytes; least = refl }

-- ---- a file

pub file_reads : (f : FileData) (r : Result (Option ℕ) ReadError) → IfOk r (IsGroupsBegin f.groups.count f.groups.from) → IfOk r (IsIndexesBegin f)
unfolding index_places
file_reads f (Ok found) h = record { places = h.places; read = h.read; least = h.least }
file_reads f (Err e) h = tt

pub file_fails : (f : FileData) (r : Result (Option ℕ) ReadError) → IfErr r (λ e. Fails e (many group_places f.groups.count f.groups.from)) → IfErr r (λ e. Fails e (index_places f))
unfolding index_places
file_fails f (Ok found) h = tt
file_fails f (Err e) h = h
