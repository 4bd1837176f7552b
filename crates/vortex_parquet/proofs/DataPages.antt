-- The data pages of one column chunk, and of one row group, after the other, as loops read them.
use Rattle.std.proofs.Common.{◌≡◌, ℕ, suc, ◌+◌, ◌-◌, ◌≤◌, ◌<◌, List, [], ◌∷◌, ◌++◌, length, Result, Ok, Err, refl, sym, ap, ◌∙◌, add-one, append_assoc, arith, drop, drop-cons, get_or, map}
use Rattle.std.proofs.lemmas.List.{append-nil, drop_all, get_or-map, length-map}
use Rattle.vortex_parquet.specs.declared.data_pages.DataPage.{DataPage}
use Rattle.vortex_parquet.specs.declared.fault.Fault.{Fault}
use Rattle.vortex_parquet.specs.declared.fault.ReadError.{ReadError}
use Rattle.vortex_parquet.specs.declared.fault.ReadError.TheVariants as errors
use Rattle.vortex_parquet.specs.DataPages.{chunk_pages, chunks_pages, group_pages_at, groups_pages}
use Rattle.vortex_parquet.specs.GroupPages.{TailData}
use Rattle.vortex_parquet.specs.Reading.{◌>>=◌, Fails}
use Rattle.vortex_parquet.proofs.Loops.{none_before, with_all}

-- pages that were read, before those that are still read
regroup_pages : (front ps : List DataPage) (read : Result (List DataPage) Fault) → with_all front (read >>= λ others. Ok (ps ++ others)) ≡ with_all (front ++ ps) read
regroup_pages front ps (Ok others) = ap (λ (qs : List DataPage). Ok qs) (sym (append_assoc front ps others))
regroup_pages front ps (Err d) = refl

-- ---- column chunks

chunk_step : {X : Type 0} (view : X → List ℕ) (chunks : List X) (j : ℕ) (d : X) → j < length chunks → drop j (map view chunks) ≡ view (get_or chunks j d) ∷ drop (j + 1) (map view chunks)
chunk_step view chunks j d lt =
    let few : j < length (map view chunks) = omega (arith, length-map chunks view) in
    drop-cons (map view chunks) j [] few ∙ ap (λ (n : ℕ). get_or (map view chunks) j [] ∷ drop n (map view chunks)) (sym (add-one j))
    ∙ ap (λ (bytes : List ℕ). bytes ∷ drop (j + 1) (map view chunks)) (get_or-map view chunks j d [] lt)

pub chunks_start : (t : TailData) (i rows : ℕ) (chunks : List (List ℕ)) → with_all [] (chunks_pages t i rows 0 (drop 0 chunks)) ≡ chunks_pages t i rows 0 chunks
chunks_start t i rows chunks = none_before (chunks_pages t i rows 0 chunks)

pub chunks_go : {X : Type 0} (view : X → List ℕ) (chunks : List X) (t : TailData) (i rows : ℕ) (front : List DataPage) (j : ℕ) (d : X) (ps : List DataPage) (total : Result (List DataPage) Fault) → j < length chunks
    → chunk_pages t i rows j (view (get_or chunks j d)) ≡ Ok ps
    → with_all front (chunks_pages t i rows j (drop j (map view chunks))) ≡ total
    → with_all (front ++ ps) (chunks_pages t i rows (j + 1) (drop (j + 1) (map view chunks))) ≡ total
unfolding chunks_pages
chunks_go view chunks t i rows front j d ps total lt h so_far =
    let others : Result (List DataPage) Fault = chunks_pages t i rows (j + 1) (drop (j + 1) (map view chunks)) in
    let first : chunks_pages t i rows j (drop j (map view chunks)) ≡ (others >>= λ qs. Ok (ps ++ qs)) = ap (chunks_pages t i rows j) (chunk_step view chunks j d lt) ∙ rw h refl in
    sym (regroup_pages front ps others) ∙ ap (with_all front) (sym first) ∙ so_far

pub chunks_fail : {X : Type 0} (e : ReadError) (view : X → List ℕ) (chunks : List X) (t : TailData) (i rows : ℕ) (front : List DataPage) (j : ℕ) (default : X) (total : Result (List DataPage) Fault) → j < length chunks
    → Fails e (chunk_pages t i rows j (view (get_or chunks j default)))
    → with_all front (chunks_pages t i rows j (drop j (map view chunks))) ≡ total → Fails e total
unfolding chunks_pages
chunks_fail errors.Memory view chunks t i rows front j default total lt h so_far = tt
chunks_fail (errors.Fault d) view chunks t i rows front j default total lt h so_far =
    let first : chunks_pages t i rows j (drop j (map view chunks)) ≡ Err d = ap (chunks_pages t i rows j) (chunk_step view chunks j default lt) ∙ rw h refl in
    sym so_far ∙ ap (with_all front) first

pub chunks_done : {X : Type 0} (view : X → List ℕ) (chunks : List X) (t : TailData) (i rows : ℕ) (front : List DataPage) (j : ℕ) (total : Result (List DataPage) Fault) → length chunks ≤ j
    → with_all front (chunks_pages t i rows j (drop j (map view chunks))) ≡ total → total ≡ Ok front
unfolding chunks_pages
chunks_done view chunks t i rows front j total le so_far =
    let all : length (map view chunks) ≤ j = omega (arith, length-map chunks view) in
    let first : chunks_pages t i rows j (drop j (map view chunks)) ≡ Ok [] = ap (chunks_pages t i rows j) (drop_all j (map view chunks) all) in
    sym so_far ∙ ap (with_all front) first ∙ ap (λ (qs : List DataPage). Ok qs) (append-nil front)

-- ---- row groups

pub groups_start : (t : TailData) (columns n : ℕ) (bytes : List ℕ) → with_all [] (groups_pages t columns 0 (n - 0) bytes) ≡ groups_pages t columns 0 n bytes
groups_start t columns n bytes = let e : n - 0 ≡ n = omega arith in rw e (none_before (groups_pages t columns 0 n bytes))

pub groups_go : (t : TailData) (columns : ℕ) (front : List DataPage) (n i : ℕ) (bytes : List ℕ) (ps : List DataPage) (next : List ℕ) (total : Result (List DataPage) Fault) → i < n
    → group_pages_at t columns i bytes ≡ Ok (ps, next)
    → with_all front (groups_pages t columns i (n - i) bytes) ≡ total
    → with_all (front ++ ps) (groups_pages t columns (i + 1) (n - (i + 1)) next) ≡ total
unfolding groups_pages
groups_go t columns front n i bytes ps next total lt h so_far =
    let e : n - i ≡ suc (n - (i + 1)) = omega arith in
    let others : Result (List DataPage) Fault = groups_pages t columns (i + 1) (n - (i + 1)) next in
    let first : groups_pages t columns i (n - i) bytes ≡ (others >>= λ qs. Ok (ps ++ qs)) = rw (e, h) refl in
    sym (regroup_pages front ps others) ∙ ap (with_all front) (sym first) ∙ so_far

pub groups_fail : (e : ReadError) (t : TailData) (columns : ℕ) (front : List DataPage) (n i : ℕ) (bytes : List ℕ) (total : Result (List DataPage) Fault) → i < n
    → Fails e (group_pages_at t columns i bytes)
    → with_all front (groups_pages t columns i (n - i) bytes) ≡ total → Fails e total
unfolding groups_pages
groups_fail errors.Memory t columns front n i bytes total lt h so_far = tt
groups_fail (errors.Fault d) t columns front n i bytes total lt h so_far =
    let e : n - i ≡ suc (n - (i + 1)) = omega arith in
    let first : groups_pages t columns i (n - i) bytes ≡ Err d = rw (e, h) refl in
    sym so_far ∙ ap (with_all front) first

pub groups_done : (t : TailData) (columns : ℕ) (front : List DataPage) (n i : ℕ) (bytes : List ℕ) (total : Result (List DataPage) Fault) → n ≤ i
    → with_all front (groups_pages t columns i (n - i) bytes) ≡ total → total ≡ Ok front
unfolding groups_pages
groups_done t columns front n i bytes total le so_far =
    let e : n - i ≡ 0 = omega arith in
    let first : groups_pages t columns i (n - i) bytes ≡ Ok [] = rw e refl in
    sym so_far ∙ ap (with_all front) first ∙ ap (λ (qs : List DataPage). Ok qs) (append-nil front)
