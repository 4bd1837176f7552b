-- Reading one thing after another, as a loop does.
use Rattle.std.proofs.Common.{◌≡◌, ℕ, suc, ◌-◌, ◌+◌, ◌≤◌, ◌<◌, List, [], ◌∷◌, ◌++◌, length, Option, Some, None, Result, Ok, Err, refl, sym, ap, ◌∙◌, append_assoc, arith, add-one, map, drop, drop-cons, get_or}
use Rattle.std.proofs.lemmas.List.{append-nil, drop-map, drop_all}
use Rattle.vortex_parquet.specs.declared.fault.Fault.{Fault}
use Rattle.vortex_parquet.specs.declared.fault.Fault.TheVariants as fault
use Rattle.vortex_parquet.specs.declared.fault.ReadError.{ReadError}
use Rattle.vortex_parquet.specs.declared.fault.ReadError.TheVariants as errors
use Rattle.vortex_parquet.specs.declared.compact.FieldHead.{FieldHead}
use Rattle.vortex_parquet.specs.Reading.{◌>>=◌, Read, Fails}
use Rattle.vortex_parquet.specs.Compact.{head_at}
use Rattle.vortex_parquet.specs.declared.compact.Kind.{Kind}
use Rattle.vortex_parquet.specs.declared.compact.Kind.TheVariants as kind
use Rattle.vortex_parquet.specs.declared.fields.Field.{Field}
use Rattle.vortex_parquet.specs.Fields.{field_view, field_views, item_depth, last_found, many, pick, spans_in}
use Rattle.vortex_parquet.specs.Skip.{Skip, FieldData, by_head, behind, field_data, fields_in, skip_at, struct_at, times, with_field}

-- ---- so many times

pub times_goes : (f : List ℕ → Result (List ℕ) Fault) (n i : ℕ) (bytes after : List ℕ) (total : Result (List ℕ) Fault) → i < n → f bytes ≡ Ok after
    → times f (n - i) bytes ≡ total → times f (n - (i + 1)) after ≡ total
unfolding times
times_goes f n i bytes after total lt h so_far =
    let k : n - i ≡ suc (n - (i + 1)) = omega arith in
    let one : times f (n - i) bytes ≡ times f (n - (i + 1)) after = rw (k, h) refl in
    sym one ∙ so_far

pub times_fails : (e : ReadError) (f : List ℕ → Result (List ℕ) Fault) (n i : ℕ) (bytes : List ℕ) (total : Result (List ℕ) Fault) → i < n → Fails e (f bytes)
    → times f (n - i) bytes ≡ total → Fails e total
unfolding times
times_fails errors.Memory f n i bytes total lt h so_far = tt
times_fails (errors.Fault d) f n i bytes total lt h so_far =
    let k : n - i ≡ suc (n - (i + 1)) = omega arith in
    let one : times f (n - i) bytes ≡ Err d = rw (k, h) refl in
    sym so_far ∙ one

pub times_done : (f : List ℕ → Result (List ℕ) Fault) (n i : ℕ) (bytes : List ℕ) (total : Result (List ℕ) Fault) → n ≤ i → times f (n - i) bytes ≡ total → total ≡ Ok bytes
unfolding times
times_done f n i bytes total le so_far =
    let k : n - i ≡ 0 = omega arith in
    let one : times f (n - i) bytes ≡ Ok bytes = rw k refl in
    sym so_far ∙ one

-- ---- fields

-- fields that were read before, and what is still read
abbrev pub with_front : List FieldData → Read (List FieldData) → Read (List FieldData)
with_front front read = read >>= λ x. Ok (front ++ x.0, x.1)

no_front : (read : Read (List FieldData)) → with_front [] read ≡ read
no_front (Ok x) = refl
no_front (Err d) = refl

regroup : (front : List FieldData) (f : FieldData) (read : Read (List FieldData)) → with_front front (read >>= with_field f) ≡ with_front (front ++ f ∷ []) read
regroup front f (Ok x) = ap (λ (fs : List FieldData). Ok (fs, x.1)) (simp append_assoc)
regroup front f (Err d) = refl

pub fields_step : (skip : Skip) (n i last : ℕ) (bytes : List ℕ) → i < n
    → fields_in skip (n - i) last bytes ≡ (head_at last bytes >>= λ h.
    by_head (Ok ([], h.1)) (λ head. skip head.kind h.1 >>= λ next. fields_in skip (n - (i + 1)) head.id next >>= with_field (field_data head h.1)) h.0)
unfolding fields_in
fields_step skip n i last bytes lt =
    let k : n - i ≡ suc (n - (i + 1)) = omega arith in rw k refl

pub fields_goes : (skip : Skip) (front : List FieldData) (n i last : ℕ) (bytes : List ℕ) (head : FieldHead) (after next : List ℕ) (total : Read (List FieldData)) → i < n
    → head_at last bytes ≡ Ok (Some head, after) → skip head.kind after ≡ Ok next
    → with_front front (fields_in skip (n - i) last bytes) ≡ total
    → with_front (front ++ field_data head after ∷ []) (fields_in skip (n - (i + 1)) head.id next) ≡ total
fields_goes skip front n i last bytes head after next total lt h s so_far =
    let one : fields_in skip (n - i) last bytes ≡ (fields_in skip (n - (i + 1)) head.id next >>= with_field (field_data head after)) = fields_step skip n i last bytes lt ∙ rw (h, s) refl in
    sym (regroup front (field_data head after) (fields_in skip (n - (i + 1)) head.id next)) ∙ ap (with_front front) (sym one) ∙ so_far

pub fields_stop : (skip : Skip) (front : List FieldData) (n i last : ℕ) (bytes after : List ℕ) (total : Read (List FieldData)) → i < n
    → head_at last bytes ≡ Ok (None, after)
    → with_front front (fields_in skip (n - i) last bytes) ≡ total → total ≡ Ok (front, after)
fields_stop skip front n i last bytes after total lt h so_far =
    let one : fields_in skip (n - i) last bytes ≡ Ok ([], after) = fields_step skip n i last bytes lt ∙ rw h refl in
    sym so_far ∙ ap (with_front front) one ∙ ap (λ (fs : List FieldData). Ok (fs, after)) (append-nil front)

pub fields_bad_head : (e : ReadError) (skip : Skip) (front : List FieldData) (n i last : ℕ) (bytes : List ℕ) (total : Read (List FieldData)) → i < n
    → Fails e (head_at last bytes)
    → with_front front (fields_in skip (n - i) last bytes) ≡ total → Fails e total
fields_bad_head errors.Memory skip front n i last bytes total lt h so_far = tt
fields_bad_head (errors.Fault d) skip front n i last bytes total lt h so_far =
    let one : fields_in skip (n - i) last bytes ≡ Err d = fields_step skip n i last bytes lt ∙ rw h refl in
    sym so_far ∙ ap (with_front front) one

pub fields_bad : (e : ReadError) (skip : Skip) (front : List FieldData) (n i last : ℕ) (bytes : List ℕ) (head : FieldHead) (after : List ℕ) (total : Read (List FieldData)) → i < n
    → head_at last bytes ≡ Ok (Some head, after) → Fails e (skip head.kind after)
    → with_front front (fields_in skip (n - i) last bytes) ≡ total → Fails e total
fields_bad errors.Memory skip front n i last bytes head after total lt h s so_far = tt
fields_bad (errors.Fault d) skip front n i last bytes head after total lt h s so_far =
    let one : fields_in skip (n - i) last bytes ≡ Err d = fields_step skip n i last bytes lt ∙ rw (h, s) refl in
    sym so_far ∙ ap (with_front front) one

pub fields_short : (skip : Skip) (front : List FieldData) (n i last : ℕ) (bytes : List ℕ) (total : Read (List FieldData)) → n ≤ i
    → with_front front (fields_in skip (n - i) last bytes) ≡ total → total ≡ Err fault.Short
unfolding fields_in
fields_short skip front n i last bytes total le so_far =
    let k : n - i ≡ 0 = omega arith in
    let one : fields_in skip (n - i) last bytes ≡ Err fault.Short = rw k refl in
    sym so_far ∙ ap (with_front front) one

pub fields_start : (skip : Skip) (bytes : List ℕ) → with_front [] (fields_in skip (length bytes - 0) 0 bytes) ≡ struct_at skip bytes
unfolding struct_at
fields_start skip bytes = let k : length bytes - 0 ≡ length bytes = omega arith in rw k (no_front (fields_in skip (length bytes) 0 bytes))

pub behind_fails : {A : Type 0} (e : ReadError) (total : Read A) → Fails e total → Fails e (behind total)
behind_fails errors.Memory total h = tt
behind_fails (errors.Fault d) total h = ap behind h

-- ---- the bytes from each struct on

-- what was read before, and what is still read
abbrev pub with_all : {A : Type 0} → List A → Result (List A) Fault → Result (List A) Fault
with_all front read = read >>= λ x. Ok (front ++ x)

pub none_before : {A : Type 0} (read : Result (List A) Fault) → with_all [] read ≡ read
none_before (Ok x) = refl
none_before (Err d) = refl

pub regroup_all : {A : Type 0} (front : List A) (s : A) (read : Result (List A) Fault) → with_all front (read >>= λ x. Ok (s ∷ x)) ≡ with_all (front ++ s ∷ []) read
regroup_all {A} front s (Ok x) = ap (λ (fs : List A). Ok fs) (simp append_assoc)
regroup_all front s (Err d) = refl

pub spans_start : (n : ℕ) (bytes : List ℕ) → with_all [] (spans_in (n - 0) bytes) ≡ spans_in n bytes
spans_start n bytes = let e : n - 0 ≡ n = omega arith in rw e (none_before (spans_in n bytes))

pub spans_goes : (front : List (List ℕ)) (n i : ℕ) (bytes next : List ℕ) (total : Result (List (List ℕ)) Fault) → i < n
    → skip_at item_depth kind.Struct bytes ≡ Ok next
    → with_all front (spans_in (n - i) bytes) ≡ total
    → with_all (front ++ bytes ∷ []) (spans_in (n - (i + 1)) next) ≡ total
unfolding spans_in
spans_goes front n i bytes next total lt h so_far =
    let e : n - i ≡ suc (n - (i + 1)) = omega arith in
    let one : spans_in (n - i) bytes ≡ (spans_in (n - (i + 1)) next >>= λ x. Ok (bytes ∷ x)) = rw (e, h) refl in
    sym (regroup_all front bytes (spans_in (n - (i + 1)) next)) ∙ ap (with_all front) (sym one) ∙ so_far

pub spans_fails : (e : ReadError) (front : List (List ℕ)) (n i : ℕ) (bytes : List ℕ) (total : Result (List (List ℕ)) Fault) → i < n
    → Fails e (skip_at item_depth kind.Struct bytes)
    → with_all front (spans_in (n - i) bytes) ≡ total → Fails e total
unfolding spans_in
spans_fails errors.Memory front n i bytes total lt h so_far = tt
spans_fails (errors.Fault d) front n i bytes total lt h so_far =
    let e : n - i ≡ suc (n - (i + 1)) = omega arith in
    let one : spans_in (n - i) bytes ≡ Err d = rw (e, h) refl in
    sym so_far ∙ ap (with_all front) one

pub spans_done : (front : List (List ℕ)) (n i : ℕ) (bytes : List ℕ) (total : Result (List (List ℕ)) Fault) → n ≤ i → with_all front (spans_in (n - i) bytes) ≡ total → total ≡ Ok front
unfolding spans_in
spans_done front n i bytes total le so_far =
    let e : n - i ≡ 0 = omega arith in
    let one : spans_in (n - i) bytes ≡ Ok [] = rw e refl in
    sym so_far ∙ ap (with_all front) one ∙ ap (λ (fs : List (List ℕ)). Ok fs) (append-nil front)

-- ---- structs one behind the other

pub many_start : {A : Type 0} (one : List ℕ → Read A) (n : ℕ) (bytes : List ℕ) → with_all [] (many one (n - 0) bytes) ≡ many one n bytes
many_start one n bytes = let e : n - 0 ≡ n = omega arith in rw e (none_before (many one n bytes))

pub many_goes : {A : Type 0} (one : List ℕ → Read A) (front : List A) (n i : ℕ) (bytes : List ℕ) (x : A) (next : List ℕ) (total : Result (List A) Fault) → i < n
    → one bytes ≡ Ok (x, next)
    → with_all front (many one (n - i) bytes) ≡ total
    → with_all (front ++ x ∷ []) (many one (n - (i + 1)) next) ≡ total
unfolding many
many_goes one front n i bytes x next total lt h so_far =
    let e : n - i ≡ suc (n - (i + 1)) = omega arith in
    let first : many one (n - i) bytes ≡ (many one (n - (i + 1)) next >>= λ xs. Ok (x ∷ xs)) = rw (e, h) refl in
    sym (regroup_all front x (many one (n - (i + 1)) next)) ∙ ap (with_all front) (sym first) ∙ so_far

pub many_fails : {A : Type 0} (e : ReadError) (one : List ℕ → Read A) (front : List A) (n i : ℕ) (bytes : List ℕ) (total : Result (List A) Fault) → i < n
    → Fails e (one bytes)
    → with_all front (many one (n - i) bytes) ≡ total → Fails e total
unfolding many
many_fails errors.Memory one front n i bytes total lt h so_far = tt
many_fails (errors.Fault d) one front n i bytes total lt h so_far =
    let e : n - i ≡ suc (n - (i + 1)) = omega arith in
    let first : many one (n - i) bytes ≡ Err d = rw (e, h) refl in
    sym so_far ∙ ap (with_all front) first

pub many_done : {A : Type 0} (one : List ℕ → Read A) (front : List A) (n i : ℕ) (bytes : List ℕ) (total : Result (List A) Fault) → n ≤ i
    → with_all front (many one (n - i) bytes) ≡ total → total ≡ Ok front
unfolding many
many_done {A} one front n i bytes total le so_far =
    let e : n - i ≡ 0 = omega arith in
    let first : many one (n - i) bytes ≡ Ok [] = rw e refl in
    sym so_far ∙ ap (with_all front) first ∙ ap (λ (fs : List A). Ok fs) (append-nil front)

-- ---- the last field of an identifier and a kind

pub found_goes : (fs : List Field) (id i : ℕ) (k : Kind) (before : Option (List ℕ)) (d : Field) (total : Option (List ℕ)) → i < length fs
    → last_found id k before (drop i (field_views fs)) ≡ total
    → last_found id k (pick (field_view (get_or fs i d)) id k before) (drop (i + 1) (field_views fs)) ≡ total
unfolding last_found
found_goes fs id i k before d total lt so_far =
    let f : Field = get_or fs i d in
    let one : drop i (field_views fs) ≡ field_view f ∷ drop (i + 1) (field_views fs) =
    drop-map field_view i fs ∙ ap (map field_view) (drop-cons fs i d lt) ∙ ap (λ (gs : List FieldData). field_view f ∷ gs) (sym (drop-map field_view (suc i) fs) ∙ ap (λ (n : ℕ). drop n (field_views fs)) (sym (add-one i))) in
    ap (last_found id k before) (sym one) ∙ so_far

pub found_done : (fs : List Field) (id i : ℕ) (k : Kind) (before total : Option (List ℕ)) → length fs ≤ i
    → last_found id k before (drop i (field_views fs)) ≡ total → total ≡ before
unfolding last_found
found_done fs id i k before total le so_far =
    let one : drop i (field_views fs) ≡ [] = drop-map field_view i fs ∙ ap (map field_view) (drop_all i fs le) in
    sym so_far ∙ ap (last_found id k before) one
