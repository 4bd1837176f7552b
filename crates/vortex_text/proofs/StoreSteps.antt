-- What lines add to the parts of a store.
use Rattle.std.proofs.Common.{◌≡◌, ◌<◌, ◌≤◌, ◌+◌, ◌-◌, ◌==◌, ℕ, Bool, zero, suc, true, false, List, [], ◌∷◌, ◌++◌, Option, None, Some, All, is_some, option_and_then, option_map, length, map, nat_lt, String, refl, ap, ap₂, sym, ◌∙◌, subst, arith}
use Rattle.std.specs.List.{list_all}
use Rattle.std.specs.Prelude.{◌&&◌, sum}
use Rattle.std.proofs.lemmas.Bool.Decides.{nat_tests}
use Rattle.std.proofs.lemmas.List.{length-append, length-map, length-replicate}
use Rattle.std.proofs.lemmas.List.Sums.{sum_by-cons}
use Rattle.std.proofs.lemmas.Option.{same_Some}
use Rattle.std.specs.List.{slice_get}
use Rattle.vortex_base.specs.Data.Columns.{ChunkData, ColumnData, IsChunk, all_long, has_types, is_column, row_count}
use Rattle.vortex_base.specs.Data.Exact.{both_hold, both_true}
use Rattle.std.proofs.lemmas.List.Elements.{All-cons, All-nil}
use Rattle.std.specs.declared.alloc.Global.{Global}
use Rattle.vortex_base.specs.Data.Scopes.{Named, is_scope, named, named_columns}
use Rattle.vortex_base.specs.declared.dtype.DType.{DType}
use Rattle.vortex_base.specs.Data.Types.{dtype_eq}
use Rattle.vortex_prune.specs.Part.{PartData, joined}
use Rattle.vortex_zone_map.specs.Zone.{Entries, ZoneData}
use Rattle.vortex_prune.specs.Scanning.RangeScans.{counts_of, range_column, range_parts}
use Rattle.vortex_syntax.specs.Fails.{Fails, when}
use Rattle.vortex_syntax.specs.Words.{Token}
use Rattle.vortex_syntax.specs.declared.line_error.LineError.{LineError}
use Rattle.vortex_text.proofs.ColumnLemmas.{fails_on}
use Rattle.vortex_text.proofs.Fitting.PartFits.{empty_fit, empty_long, empty_part_of, empty_rows, one_of, shape_of}
use Rattle.vortex_text.proofs.Fitting.RowFits.{grown_alike, grown_fit, row_grows}
use Rattle.vortex_text.proofs.JoinLemmas.{at_seam, joined_at_seam, joins_at, nothing_to_join, two_at}
use Rattle.vortex_text.proofs.StoreLemmas.{both_zones, chunk, counts_append, rest_of_empty, first_behind, first_words, last_behind, long_at_last, range_types, ranges_both, ranges_ended, ranges_kept, ranges_long, rest_is_empty, row_extends, rows_extend, rows_of_long, untold_sets, values_behind}
use Rattle.vortex_text.specs.Columns.{with_values}
use Rattle.vortex_text.specs.FirstLines.{first_row}
use Rattle.vortex_text.specs.Fitting.{AreNeighbours, IsPartOf}
use Rattle.vortex_text.specs.Lines.{has_part}
use Rattle.vortex_text.specs.Rows.{empty_column, empty_part, joined_at, no_entries}
use Rattle.vortex_text.specs.Stores.{AreLong, HaveRows, IsShut, IsStore, StoreData, all_parts, ended_all, last_row, parts_in, rest_column, rest_part, with_first, with_joined, with_words}
use Rattle.vortex_zone_map.specs.Logs as logs
use Rattle.vortex_zone_map.specs.Logs.{LogData, empty_sets}

not_open : (b : Bool) → b ≡ true → b ≡ false → ⊥
not_open b is isnt = cc

-- ---- the first part

empty_have : (scope : List Named) → HaveRows 0 (map empty_column scope)
empty_have [] = tt
empty_have (s ∷ ss) = (omega arith, empty_have ss)

pub new_is_store : (scope : List Named) (cs : List ColumnData) (log : LogData) (columns : List (String Global × DType)) → scope ≡ named_columns columns → cs ≡ map empty_column (named_columns columns)
    → log ≡ record { zones = []; current = empty_sets (length columns) } → IsStore (chunk scope cs) log 0 true
new_is_store scope cs log columns names empty untold =
    let ns = named_columns columns in
    let alike : all_long (row_count (map empty_column ns)) (map empty_column ns) ≡ true = subst (λ (n : ℕ). all_long n (map empty_column ns) ≡ true) (sym (empty_rows ns)) (empty_long ns) in
    record {
      counted = ap (λ (l : LogData). sum (counts_of l.zones)) untold;
      within = subst (HaveRows 0) (sym empty) (empty_have ns);
      alike = subst (λ (ds : List ColumnData). all_long (row_count ds) ds ≡ true) (sym empty) alike;
      fit = subst (λ (ds : List ColumnData). list_all is_column ds ≡ true) (sym empty) (empty_fit ns);
      sets = ap (λ (l : LogData). length l.current) untold ∙ length-replicate (length columns) [] ∙ sym (length-map columns named) ∙ ap length (sym names);
      shut = λ shut. absurd (not_open true refl shut);
    }

pub new_view : (scope : List Named) (cs : List ColumnData) (log : LogData) (columns : List (String Global × DType)) → scope ≡ named_columns columns → cs ≡ map empty_column (named_columns columns)
    → log ≡ record { zones = []; current = empty_sets (length columns) } → parts_in (chunk scope cs) log 0 true ≡ record { ended = []; current = Some (empty_part (named_columns columns)) }
new_view scope cs log columns names empty untold =
    let ns = named_columns columns in
    let sets : empty_sets (length columns) ≡ map no_entries ns = ap empty_sets (sym (length-map columns named)) ∙ untold_sets ns in
    ap (λ (l : LogData). parts_in (chunk scope cs) l 0 true) untold
    ∙ ap₂ (λ (s : List Named) (ds : List ColumnData). let x : StoreData = record { ended = []; current = Some (record { chunk = chunk s (map (rest_column 0) ds); stats = empty_sets (length columns) }) } in x) names empty
    ∙ ap₂ (λ (ds : List ColumnData) (ss : List Entries). let x : StoreData = record { ended = []; current = Some (record { chunk = chunk ns ds; stats = ss }) } in x) (rest_of_empty ns) sets

-- it is a part of its scope
pub first_neighbours : (scope : List Named) (s : StoreData) → is_scope scope ≡ true → s ≡ record { ended = []; current = Some (empty_part scope) } → AreNeighbours (all_parts s)
first_neighbours scope s scoped is =
    subst (λ (x : StoreData). AreNeighbours (all_parts x)) (sym is) (scope, All-cons (IsPartOf scope) (empty_part scope) [] (empty_part_of scope scoped) (All-nil (IsPartOf scope)))

-- ---- the open part ends

pub ended_is_store : (k : ChunkData) (log new : LogData) (from last : ℕ) (b : Bool) → IsStore k log from b → last ≡ last_row from k.columns → new ≡ logs.ended (last - from) log → IsStore k new last false
ended_is_store k log new from last b s end is =
    let long : AreLong last k.columns = subst (λ n. AreLong n k.columns) (sym end) (long_at_last from k.columns s.alike) in
    let behind : from ≤ last = subst (λ n. from ≤ n) (sym end) (last_behind from k.columns s.within) in
    let zone : ZoneData = record { rows = last - from; stats = log.current } in
    let one : sum (counts_of (zone ∷ [])) ≡ last - from = sum_by-cons (λ (n : ℕ). n) (last - from) [] ∙ omega arith in
    let sets : length new.current ≡ length k.scope = ap (λ (l : LogData). length l.current) is ∙ length-replicate (length log.current) [] ∙ s.sets in
    record {
      counted = ap (λ (l : LogData). sum (counts_of l.zones)) is ∙ omega (arith, counts_append log.zones (zone ∷ []), one, s.counted, behind);
      within = rows_of_long last k.columns long;
      alike = s.alike;
      fit = s.fit;
      sets = sets;
      shut = λ (shut : false ≡ false). record {
        long = long;
        untold = ap (λ (l : LogData). l.current) is ∙ ap empty_sets s.sets;
        some = subst (λ (l : LogData). 0 < length l.zones) (sym is) (omega (arith, length-append log.zones (zone ∷ [])));
      };
    }

pub ended_view : (k : ChunkData) (log new : LogData) (from last : ℕ) (b : Bool) → IsStore k log from b → b ≡ true → last ≡ last_row from k.columns → new ≡ logs.ended (last - from) log
    → parts_in k new last false ≡ ended_all (parts_in k log from b)
ended_view k log new from last b s opened end is =
    let long : AreLong last k.columns = subst (λ n. AreLong n k.columns) (sym end) (long_at_last from k.columns s.alike) in
    ap (λ (l : LogData). parts_in k l last false) is
    ∙ ap (λ (ps : List PartData). let x : StoreData = record { ended = ps; current = None } in x) (ranges_ended k from last log.zones log.current s.counted long)
    ∙ ap (λ c. ended_all (parts_in k log from c)) (sym opened)

-- ---- a part begins

pub begun : (k : ChunkData) (log : LogData) (from : ℕ) (scope : List Named) → IsShut k log from → (zones : List ZoneData) → log.zones ≡ zones → All (IsPartOf scope) (range_parts k 0 log.zones)
    → parts_in k log from true ≡ record { ended = range_parts k 0 log.zones; current = Some (empty_part scope) }
begun k log from scope shut [] none all = absurd (let some : 0 < length log.zones = shut.some in omega (arith, some, ap length none))
begun k log from scope shut (z ∷ zones) is all =
    let p : PartData = record { chunk = record { scope = k.scope; columns = map (range_column 0 z.rows) k.columns }; stats = z.stats } in
    let first : IsPartOf scope p = one_of (IsPartOf scope) (range_parts k 0 log.zones) 0 p all (ap (λ zs. slice_get (range_parts k 0 zs) 0) is) in
    let types : has_types k.scope k.columns ≡ true = sym (range_types k.scope 0 z.rows k.columns) ∙ (shape_of scope p first).types in
    let columns = rest_is_empty k.scope from k.columns types shut.long in
    let sets = shut.untold ∙ untold_sets k.scope in
    ap₂ (λ (cs : List ColumnData) (ss : List Entries). let x : StoreData = record { ended = range_parts k 0 log.zones; current = Some (record { chunk = chunk k.scope cs; stats = ss }) } in x) columns sets
    ∙ ap (λ (ns : List Named). let x : StoreData = record { ended = range_parts k 0 log.zones; current = Some (empty_part ns) } in x) first.same_scope

pub shut_at : (k : ChunkData) (log : LogData) (from : ℕ) (b : Bool) → (parts_in k log from b).current ≡ None → b ≡ false
shut_at k log from true h = cc
shut_at k log from false h = refl

-- ---- the open part takes a row

pub row_is_store : (scope : List Named) (cs ds : List ColumnData) (log : LogData) (from : ℕ) (b : Bool) (ws : List Token) → IsStore (chunk scope cs) log from b → b ≡ true → with_values cs ws ≡ Some ds → IsStore (chunk scope ds) log from b
row_is_store scope cs ds log from b ws s opened read =
    let grown = row_grows cs ds ws read in
    record {
      counted = s.counted;
      within = rows_extend from cs ds (row_extends cs ds ws read) s.within;
      alike = grown_alike cs ds grown s.alike;
      fit = grown_fit cs ds grown s.fit;
      sets = s.sets;
      shut = λ shut. absurd (not_open b opened shut);
    }

abbrev opened_with : List Named → List PartData → List Entries → List ColumnData → StoreData
opened_with scope ended sets cs = record { ended = ended; current = Some (record { chunk = chunk scope cs; stats = sets }) }

row_read : (scope : List Named) (ended : List PartData) (sets : List Entries) (cs : List ColumnData) (ws : List Token) → with_words (opened_with scope ended sets cs) ws ≡ option_map (opened_with scope ended sets) (with_values cs ws)
row_read scope ended sets cs ws = by_values (with_values cs ws)
  where
    by_values : (o : Option (List ColumnData)) → option_and_then (λ (longer : PartData). let x : StoreData = record { ended = ended; current = Some longer } in Some x) (option_and_then (λ (ds : List ColumnData). let p : PartData = record { chunk = chunk scope ds; stats = sets } in Some p) o)
        ≡ option_map (opened_with scope ended sets) o
    by_values None = refl
    by_values (Some ds) = refl

pub row_view : (scope : List Named) (cs ds : List ColumnData) (log : LogData) (from : ℕ) (b : Bool) (ws : List Token) → IsStore (chunk scope cs) log from b → b ≡ true → with_values cs ws ≡ Some ds
    → with_words (parts_in (chunk scope cs) log from b) ws ≡ Some (parts_in (chunk scope ds) log from b)
row_view scope cs ds log from b ws s opened read =
    let ended = range_parts (chunk scope cs) 0 log.zones in
    let kept : range_parts (chunk scope ds) 0 log.zones ≡ ended = ranges_kept scope from 0 cs ds log.zones (row_extends cs ds ws read) s.within (omega (arith, s.counted)) in
    let behind : with_values (map (rest_column from) cs) ws ≡ Some (map (rest_column from) ds) = values_behind from cs ws s.within ∙ ap (option_map (map (rest_column from))) read in
    ap (λ c. with_words (parts_in (chunk scope cs) log from c) ws) opened
    ∙ row_read scope ended log.current (map (rest_column from) cs) ws
    ∙ ap (option_map (opened_with scope ended log.current)) behind
    ∙ ap (λ (ps : List PartData). Some (opened_with scope ps log.current (map (rest_column from) ds))) (sym kept)
    ∙ ap (λ c. Some (parts_in (chunk scope ds) log from c)) (sym opened)

row_none : (scope : List Named) (cs : List ColumnData) (log : LogData) (from : ℕ) (b : Bool) (ws : List Token) → IsStore (chunk scope cs) log from b → b ≡ true → with_values cs ws ≡ None
    → with_words (parts_in (chunk scope cs) log from b) ws ≡ None
row_none scope cs log from b ws s opened read =
    let behind : with_values (map (rest_column from) cs) ws ≡ None = values_behind from cs ws s.within ∙ ap (option_map (map (rest_column from))) read in
    ap (λ c. with_words (parts_in (chunk scope cs) log from c) ws) opened
    ∙ row_read scope (range_parts (chunk scope cs) 0 log.zones) log.current (map (rest_column from) cs) ws
    ∙ ap (option_map (opened_with scope (range_parts (chunk scope cs) 0 log.zones) log.current)) behind

pub row_refused : (e : LineError) (scope : List Named) (cs : List ColumnData) (log : LogData) (from : ℕ) (b : Bool) (ws : List Token) → IsStore (chunk scope cs) log from b → b ≡ true
    → Fails e (with_values cs ws) → Fails e (with_words (parts_in (chunk scope cs) log from b) ws)
row_refused e scope cs log from b ws s opened fails = fails_on e (with_values cs ws) (with_words (parts_in (chunk scope cs) log from b) ws) (row_none scope cs log from b ws s opened) fails

-- ---- or that of the first line

pub first_is_store : (scope : List Named) (cs ds : List ColumnData) (log : LogData) (from : ℕ) (b : Bool) (ls rest : List (List ℕ)) → IsStore (chunk scope cs) log from b → b ≡ true → first_row cs ls ≡ Some (ds, rest) → IsStore (chunk scope ds) log from b
first_is_store scope cs ds log from b ls rest s opened read =
    let (ws, values) = first_words cs ds ls rest read in
    row_is_store scope cs ds log from b ws s opened values

abbrev first_with : List Named → List PartData → List Entries → List ColumnData × List (List ℕ) → StoreData × List (List ℕ)
first_with scope ended sets x = (opened_with scope ended sets x.0, x.1)

first_taken : (scope : List Named) (ended : List PartData) (sets : List Entries) (cs : List ColumnData) (ls : List (List ℕ)) → with_first (opened_with scope ended sets cs) ls ≡ option_map (first_with scope ended sets) (first_row cs ls)
first_taken scope ended sets cs ls = by_row (first_row cs ls)
  where
    by_row : (o : Option (List ColumnData × List (List ℕ))) → option_and_then (λ (row : List ColumnData × List (List ℕ)). Some (opened_with scope ended sets row.0, row.1)) o ≡ option_map (first_with scope ended sets) o
    by_row None = refl
    by_row (Some row) = refl

abbrev rest_row : ℕ → List ColumnData × List (List ℕ) → List ColumnData × List (List ℕ)
rest_row from x = (map (rest_column from) x.0, x.1)

pub first_view : (scope : List Named) (cs ds : List ColumnData) (log : LogData) (from : ℕ) (b : Bool) (ls rest : List (List ℕ)) → IsStore (chunk scope cs) log from b → b ≡ true → first_row cs ls ≡ Some (ds, rest)
    → with_first (parts_in (chunk scope cs) log from b) ls ≡ Some (parts_in (chunk scope ds) log from b, rest)
first_view scope cs ds log from b ls rest s opened read =
    let (ws, values) = first_words cs ds ls rest read in
    let ended = range_parts (chunk scope cs) 0 log.zones in
    let kept : range_parts (chunk scope ds) 0 log.zones ≡ ended = ranges_kept scope from 0 cs ds log.zones (row_extends cs ds ws values) s.within (omega (arith, s.counted)) in
    let behind : first_row (map (rest_column from) cs) ls ≡ Some (map (rest_column from) ds, rest) = first_behind from cs ls s.within ∙ ap (option_map (rest_row from)) read in
    ap (λ c. with_first (parts_in (chunk scope cs) log from c) ls) opened
    ∙ first_taken scope ended log.current (map (rest_column from) cs) ls
    ∙ ap (option_map (first_with scope ended log.current)) behind
    ∙ ap (λ (ps : List PartData). Some (opened_with scope ps log.current (map (rest_column from) ds), rest)) (sym kept)
    ∙ ap (λ c. Some (parts_in (chunk scope ds) log from c, rest)) (sym opened)

first_none : (scope : List Named) (cs : List ColumnData) (log : LogData) (from : ℕ) (b : Bool) (ls : List (List ℕ)) → IsStore (chunk scope cs) log from b → b ≡ true → first_row cs ls ≡ None
    → with_first (parts_in (chunk scope cs) log from b) ls ≡ None
first_none scope cs log from b ls s opened read =
    let behind : first_row (map (rest_column from) cs) ls ≡ None = first_behind from cs ls s.within ∙ ap (option_map (rest_row from)) read in
    ap (λ c. with_first (parts_in (chunk scope cs) log from c) ls) opened
    ∙ first_taken scope (range_parts (chunk scope cs) 0 log.zones) log.current (map (rest_column from) cs) ls
    ∙ ap (option_map (first_with scope (range_parts (chunk scope cs) 0 log.zones) log.current)) behind

pub first_refused : (e : LineError) (scope : List Named) (cs : List ColumnData) (log : LogData) (from : ℕ) (b : Bool) (ls : List (List ℕ)) → IsStore (chunk scope cs) log from b → b ≡ true
    → Fails e (first_row cs ls) → Fails e (with_first (parts_in (chunk scope cs) log from b) ls)
first_refused e scope cs log from b ls s opened fails = fails_on e (first_row cs ls) (with_first (parts_in (chunk scope cs) log from b) ls) (first_none scope cs log from b ls s opened) fails

-- ---- two ended parts become one

pub record Joins (k : ChunkData) (i : ℕ) (zones new : List ZoneData) : Type 0 where
  pub counts : sum (counts_of new) ≡ sum (counts_of zones)
  pub some : 0 < length new
  pub parts : joined_at i (range_parts k 0 zones) ≡ Some (range_parts k 0 new)

pub joins : (k : ChunkData) (i : ℕ) (zones new : List ZoneData) → i + 1 < length zones → logs.joined_at i zones ≡ Some new → Joins k i zones new
joins k i zones new there h =
    let (f, x, y, rest, is, long) = two_at zones i there in
    let (front, p, q, back, as_long, apart, together) = ranges_both k f x y rest in
    let made : f ++ both_zones x y ∷ rest ≡ new = same_Some (f ++ both_zones x y ∷ rest) new (sym (joined_at_seam both_zones f x y rest i long) ∙ ap (joins_at both_zones i) (sym is) ∙ h) in
    let one = sum_by-cons (λ (n : ℕ). n) (x.rows + y.rows) (counts_of rest) in
    let two = sum_by-cons (λ (n : ℕ). n) x.rows (counts_of (y ∷ rest)) in
    let three = sum_by-cons (λ (n : ℕ). n) y.rows (counts_of rest) in
    let count : sum (counts_of (f ++ both_zones x y ∷ rest)) ≡ sum (counts_of (f ++ x ∷ y ∷ rest)) = omega (arith, counts_append f (both_zones x y ∷ rest), counts_append f (x ∷ y ∷ rest), one, two, three) in
    record {
      counts = ap (λ zs. sum (counts_of zs)) (sym made) ∙ count ∙ ap (λ zs. sum (counts_of zs)) (sym is);
      some = subst (λ (zs : List ZoneData). 0 < length zs) made (omega (arith, length-append f (both_zones x y ∷ rest)));
      parts = ap (λ zs. joined_at i (range_parts k 0 zs)) is ∙ ap (joined_at i) apart ∙ joined_at_seam joined front p q back i (as_long ∙ long) ∙ ap Some (sym together) ∙ ap (λ zs. Some (range_parts k 0 zs)) made;
    }

pub joined_is_store : (k : ChunkData) (log new : LogData) (from : ℕ) (b : Bool) (i : ℕ) → IsStore k log from b → i + 1 < length log.zones → logs.joined_at i log.zones ≡ Some new.zones → new.current ≡ log.current → IsStore k new from b
joined_is_store k log new from b i s there h same =
    let j = joins k i log.zones new.zones there h in
    record {
      counted = j.counts ∙ s.counted;
      within = s.within;
      alike = s.alike;
      fit = s.fit;
      sets = ap length same ∙ s.sets;
      shut = λ shut. record { long = (s.shut shut).long; untold = same ∙ (s.shut shut).untold; some = j.some };
    }

pub joined_view : (k : ChunkData) (log new : LogData) (from : ℕ) (b : Bool) (i : ℕ) → i + 1 < length log.zones → logs.joined_at i log.zones ≡ Some new.zones → new.current ≡ log.current
    → with_joined i (parts_in k log from b) ≡ Some (parts_in k new from b)
joined_view k log new from b i there h same =
    let j = joins k i log.zones new.zones there h in
    ap (λ (o : Option (List PartData)). option_and_then (λ (ps : List PartData). let x : StoreData = record { ended = ps; current = when b (rest_part k from log.current) } in Some x) o) j.parts
    ∙ ap (λ (ss : List Entries). let x : StoreData = record { ended = range_parts k 0 new.zones; current = when b (rest_part k from ss) } in Some x) (sym same)

pub none_joined : (k : ChunkData) (log : LogData) (from : ℕ) (b : Bool) (i : ℕ) → length log.zones ≤ i + 1 → with_joined i (parts_in k log from b) ≡ None
none_joined k log from b i past =
    ap (λ (o : Option (List PartData)). option_and_then (λ (ps : List PartData). let x : StoreData = record { ended = ps; current = when b (rest_part k from log.current) } in Some x) o)
    (nothing_to_join joined i (range_parts k 0 log.zones) (omega (arith, past, ranges_long k 0 log.zones)))

-- ---- all columns make a chunk

rest_types : (scope : List Named) (n : ℕ) (cs : List ColumnData) → has_types scope (map (rest_column n) cs) ≡ has_types scope cs
rest_types [] n [] = refl
rest_types [] n (c ∷ cs) = refl
rest_types (s ∷ ss) n [] = refl
rest_types (s ∷ ss) n (c ∷ cs) = ap (λ b. dtype_eq s.1 c.dtype && b) (rest_types ss n cs)

whole_of : (k : ChunkData) (log : LogData) (from : ℕ) (b : Bool) (scope : List Named) (f : ColumnData → ColumnData) (ss : List Entries) → IsStore k log from b
    → has_types k.scope (map f k.columns) ≡ has_types k.scope k.columns → IsPartOf scope (record { chunk = chunk k.scope (map f k.columns); stats = ss }) → IsChunk k
whole_of k log from b scope f ss s typed part =
    let shape = shape_of scope (record { chunk = chunk k.scope (map f k.columns); stats = ss }) part in
    let count : (length k.scope == length k.columns) ≡ true = ap (λ (n : ℕ). length k.scope == n) (sym (length-map k.columns f)) ∙ shape.count in
    both_hold _ _ shape.scope_is (both_hold _ _ (both_hold _ _ count s.alike) (both_hold _ _ (sym typed ∙ shape.types) s.fit))

pub whole_is_chunk : (k : ChunkData) (log : LogData) (from : ℕ) (b : Bool) (zones : List ZoneData) → log.zones ≡ zones → IsStore k log from b → AreNeighbours (all_parts (parts_in k log from b)) → IsChunk k
whole_is_chunk k log from true zones is s (scope, all) =
    let ended = range_parts k 0 log.zones in
    let last = rest_part k from log.current in
    let part = one_of (IsPartOf scope) (ended ++ last ∷ []) (length ended) last all (at_seam ended last []) in
    whole_of k log from true scope (rest_column from) log.current s (rest_types k.scope from k.columns) part
whole_is_chunk k log from false [] none s (scope, all) = absurd (let some : 0 < length log.zones = (s.shut refl).some in omega (arith, some, ap length none))
whole_is_chunk k log from false (z ∷ zones) is s (scope, all) =
    let p : PartData = record { chunk = chunk k.scope (map (range_column 0 z.rows) k.columns); stats = z.stats } in
    let part = one_of (IsPartOf scope) (range_parts k 0 log.zones) 0 p all (ap (λ zs. slice_get (range_parts k 0 zs) 0) is) in
    whole_of k log from false scope (range_column 0 z.rows) z.stats s (range_types k.scope 0 z.rows k.columns) part

some_columns : (scope : List Named) (cs : List ColumnData) (n : ℕ) → is_scope scope ≡ true → (length scope == length cs) ≡ true → HaveRows n cs → n ≤ row_count cs
some_columns [] [] n scoped same h = cc
some_columns (s ∷ ss) [] n scoped same h = absurd (let none : suc (length ss) ≡ 0 = grind (arith, nat_tests) in omega (arith, none))
some_columns scope (c ∷ cs) n scoped same h = h.0

-- the parts are within the rows of the chunk
pub within_chunk : (k : ChunkData) (log : LogData) (from : ℕ) (b : Bool) → IsStore k log from b → IsChunk k → sum (counts_of log.zones) ≤ row_count k.columns
within_chunk k log from b s h =
    let a = both_true _ _ h in
    let shape = both_true _ _ (both_true _ _ a.1).0 in
    subst (λ (n : ℕ). n ≤ row_count k.columns) (sym s.counted) (some_columns k.scope k.columns from a.0 shape.0 s.within)

-- ---- whether there is a part

pub some_ended : (k : ChunkData) (log : LogData) (from : ℕ) (b : Bool) → b ≡ false → nat_lt 0 (length log.zones) ≡ has_part (all_parts (parts_in k log from b))
some_ended k log from b shut = by_zones log.zones ∙ ap (λ c. has_part (all_parts (parts_in k log from c))) (sym shut)
  where
    by_zones : (zones : List ZoneData) → nat_lt 0 (length zones) ≡ has_part (range_parts k 0 zones)
    by_zones [] = grind (arith, nat_tests)
    by_zones (z ∷ zones) = grind (arith, nat_tests)

-- ---- two zones that are to be joined

one_count : (zones : List ZoneData) (i : ℕ) (z : ZoneData) → slice_get zones i ≡ Some z → z.rows ≤ sum (counts_of zones)
one_count [] i z h = absurd cc
one_count (y ∷ zones) zero z h =
    let same : y.rows ≡ z.rows = ap (λ (x : ZoneData). x.rows) (same_Some y z h) in
    omega (arith, same, sum_by-cons (λ (n : ℕ). n) y.rows (counts_of zones))
one_count (y ∷ zones) (suc i) z h = omega (arith, one_count zones i z h, sum_by-cons (λ (n : ℕ). n) y.rows (counts_of zones))

pub two_counts : (zones : List ZoneData) (i : ℕ) (l r : ZoneData) → slice_get zones i ≡ Some l → slice_get zones (i + 1) ≡ Some r → l.rows + r.rows ≤ sum (counts_of zones)
two_counts [] i l r h g = absurd cc
two_counts (z ∷ zones) zero l r h g =
    let same : z.rows ≡ l.rows = ap (λ (x : ZoneData). x.rows) (same_Some z l h) in
    omega (arith, same, one_count zones 0 r g, sum_by-cons (λ (n : ℕ). n) z.rows (counts_of zones))
two_counts (z ∷ zones) (suc i) l r h g =
    let next : suc (i + 1) ≡ suc i + 1 = omega arith in
    omega (arith, two_counts zones i l r h (ap (slice_get (z ∷ zones)) next ∙ g), sum_by-cons (λ (n : ℕ). n) z.rows (counts_of zones))

pub some_joined : (k : ChunkData) (log : LogData) (from : ℕ) (b : Bool) (i : ℕ) → i + 1 < length log.zones → is_some (joined_at i (parts_in k log from b).ended) ≡ true
some_joined k log from b i there =
    let (f, x, y, rest, is, long) = two_at log.zones i there in
    let (front, p, q, back, as_long, apart, together) = ranges_both k f x y rest in
    ap (λ zs. is_some (joined_at i (range_parts k 0 zs))) is ∙ ap (λ ps. is_some (joined_at i ps)) apart ∙ ap is_some (joined_at_seam joined front p q back i (as_long ∙ long))
