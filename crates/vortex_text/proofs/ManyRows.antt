-- Rows of one column at the front of a text, one after another.
use Rattle.std.proofs.Common.{◌≡◌, ◌+◌, ℕ, zero, suc, Bool, true, List, [], ◌∷◌, ◌++◌, Option, None, Some, get_or, set, length, length-append, append_assoc, option_and_then, refl, ap, sym, subst, ◌∙◌, inl, arith}
use Rattle.std.proofs.lemmas.Option.{same_Some}
use Rattle.std.specs.Str.Lines.{lines}
use Rattle.vortex_base.specs.Data.Columns.{ColumnData}
use Rattle.vortex_base.specs.Data.Scopes.{Named}
use Rattle.vortex_base.specs.declared.dtype.DType.{DType}
use Rattle.vortex_base.specs.declared.scalar_value.ScalarValue.{ScalarValue}
use Rattle.vortex_expr.specs.Trees.Tree.{Tree, Place}
use Rattle.vortex_prune.specs.Part.{PartData}
use Rattle.vortex_syntax.specs.Plain.{BeginsValue, EndsWord}
use Rattle.vortex_text.proofs.FirstReads.{first_fits, first_is, row_text}
use Rattle.vortex_text.proofs.FirstRows.{row_begun, row_ends_plain, row_one_more}
use Rattle.vortex_text.proofs.MemoryLemmas.{reads_push}
use Rattle.vortex_text.proofs.StoreLemmas.{chunk}
use Rattle.vortex_text.proofs.StoreSteps.{first_is_store, first_view}
use Rattle.vortex_text.specs.Blocks.{ReadsFront}
use Rattle.vortex_text.specs.FirstLines.{BeginsOnly, TakesRows, first_row, first_values, open_column}
use Rattle.vortex_text.specs.Fitting.{FitsTogether}
use Rattle.vortex_text.specs.Lines.{Reading}
use Rattle.vortex_text.specs.Naming.{Reads}
use Rattle.vortex_text.specs.Stores.{IsStore, StoreData, current_of, ended_of, parts_in, with_first}
use Rattle.vortex_zone_map.specs.Logs.{LogData}

-- ---- the only column

value_word : (t : DType) (text rest : List ℕ) (v : Option ScalarValue) → BeginsValue t text v rest → EndsWord text
value_word t text rest v begins = rw begins.split (inl refl)

-- the row of one value
only_row : (t : DType) (was : List (Option ScalarValue)) (v : Option ScalarValue) (values rest : List ℕ) → BeginsValue t values v (10 ∷ rest)
    → first_row (open_column t was ∷ []) (lines values) ≡ Some (open_column t (was ++ v ∷ []) ∷ [], lines rest)
only_row t was v values rest begins =
    let old = open_column t was in
    let new = open_column t (was ++ v ∷ []) in
    let row = row_one_more (old ∷ []) (old ∷ []) values values (10 ∷ rest) 0 old new old (omega arith) refl (v, begins, refl) (row_begun (old ∷ []) values) in
    row_ends_plain (old ∷ []) (new ∷ []) values (10 ∷ rest) rest 1 row (omega arith) refl

-- one row more
pub only_one_more : (t : DType) (old was now : List (Option ScalarValue)) (v : Option ScalarValue) (text row rest : List ℕ) (n : ℕ) → TakesRows first_row n (open_column t old ∷ []) text (open_column t was ∷ []) row
    → BeginsOnly t row v rest → now ≡ was ++ v ∷ [] → TakesRows first_row (n + 1) (open_column t old ∷ []) text (open_column t now ∷ []) rest
only_one_more t old was now v text row rest n so_far (values, split, begins) made =
    let read : first_row (open_column t was ∷ []) (lines values) ≡ Some (open_column t now ∷ [], lines rest) = only_row t was v values rest begins ∙ ap (λ vs. Some (open_column t vs ∷ [], lines rest)) (sym made) in
    let more : TakesRows first_row (suc n) (open_column t old ∷ []) text (open_column t now ∷ []) rest = (open_column t was ∷ [], row, values, so_far, split, value_word t values (10 ∷ rest) v begins, read) in
    let same : suc n ≡ n + 1 = omega arith in
    subst (λ m. TakesRows first_row m (open_column t old ∷ []) text (open_column t now ∷ []) rest) same more

-- ---- the open part of a store

rows_store : (n : ℕ) (scope : List Named) (cs ds : List ColumnData) (log : LogData) (from : ℕ) (b : Bool) (text rest : List ℕ) → IsStore (chunk scope cs) log from b → b ≡ true → TakesRows first_row n cs text ds rest
    → IsStore (chunk scope ds) log from b × TakesRows with_first n (parts_in (chunk scope cs) log from b) text (parts_in (chunk scope ds) log from b) rest
rows_store zero scope cs ds log from b text rest s opened (same, is) = (subst (λ (es : List ColumnData). IsStore (chunk scope es) log from b) same s, (ap (λ es. parts_in (chunk scope es) log from b) same, is))
rows_store (suc n) scope cs ds log from b text rest s opened (es, row, values, earlier, split, ends, read) =
    let (so_far, gives) = rows_store n scope cs es log from b text row s opened earlier in (
      first_is_store scope es ds log from b (lines values) (lines rest) so_far opened read,
      (parts_in (chunk scope es) log from b, row, values, gives, split, ends, first_view scope es ds log from b (lines values) (lines rest) so_far opened read),
    )

-- a store with one column, in whose place it stands when it has taken rows
alone : (xs : List ColumnData) (d : ColumnData) → length xs ≡ 1 → get_or xs 0 d ∷ [] ≡ xs
alone [] d one = absurd (omega (arith, one))
alone (x ∷ []) d one = refl
alone (x ∷ y ∷ xs) d one = absurd (omega (arith, one))

alone_set : (xs : List ColumnData) (new : ColumnData) → length xs ≡ 1 → set xs 0 new ≡ new ∷ []
alone_set [] new one = absurd (omega (arith, one))
alone_set (x ∷ []) new one = refl
alone_set (x ∷ y ∷ xs) new one = absurd (omega (arith, one))

pub only_store : (n : ℕ) (scope : List Named) (cs xs ds : List ColumnData) (d new : ColumnData) (log : LogData) (from : ℕ) (b : Bool) (text rest : List ℕ) → length xs ≡ 1 → xs ≡ cs → ds ≡ set xs 0 new → IsStore (chunk scope cs) log from b → b ≡ true
    → TakesRows first_row n (get_or xs 0 d ∷ []) text (new ∷ []) rest → IsStore (chunk scope ds) log from b × TakesRows with_first n (parts_in (chunk scope cs) log from b) text (parts_in (chunk scope ds) log from b) rest
only_store n scope cs xs ds d new log from b text rest one were are s opened rows =
    let old : get_or xs 0 d ∷ [] ≡ cs = alone xs d one ∙ were in
    let now : new ∷ [] ≡ ds = sym (are ∙ alone_set xs new one) in
    let from_all : TakesRows first_row n cs text (new ∷ []) rest = subst (λ (es : List ColumnData). TakesRows first_row n es text (new ∷ []) rest) old rows in
    rows_store n scope cs ds log from b text rest s opened (subst (λ (es : List ColumnData). TakesRows first_row n cs text es rest) now from_all)

-- ---- what lines say

-- what they say, of these parts and no predicate
abbrev store_reading : List Named → StoreData → Reading
store_reading scope s = record { scope = scope; ended = s.ended; current = s.current; predicate = None }

abbrev opened : List PartData → Option PartData → StoreData
opened ended current = record { ended = ended; current = current }

-- the open part with the columns that a row leaves
abbrev grown : List PartData → PartData → List ColumnData → StoreData
grown ended part columns = opened ended (Some (record { chunk = chunk part.chunk.scope columns; stats = part.stats }))

part_values : (scope : List Named) (ended : List PartData) (part : PartData) (o : Option (List ColumnData × List (List ℕ))) (t : StoreData) (more : List (List ℕ))
    → option_and_then {U = StoreData × List (List ℕ)} (λ (row : List ColumnData × List (List ℕ)). Some (grown ended part row.0, row.1)) o ≡ Some (t, more)
    → option_and_then {U = Reading × List (List ℕ)} (λ (row : List ColumnData × List (List ℕ)). Some (store_reading scope (grown ended part row.0), row.1)) o ≡ Some (store_reading scope t, more)
part_values scope ended part None t more read = cc
part_values scope ended part (Some row) t more read = ap (option_and_then {U = Reading × List (List ℕ)} (λ (x : StoreData × List (List ℕ)). Some (store_reading scope x.0, x.1))) read

store_values : (scope : List Named) (ended : List PartData) (current : Option PartData) (t : StoreData) (ls more : List (List ℕ)) → with_first (opened ended current) ls ≡ Some (t, more) → first_values (store_reading scope (opened ended current)) ls ≡ Some (store_reading scope t, more)
store_values scope ended None t ls more read = cc
store_values scope ended (Some part) t ls more read = part_values scope ended part (first_row part.chunk.columns ls) t more read

-- the reading leads on over the rows' lines
pub rows_read : (n : ℕ) (scope : List Named) (s t : StoreData) (text rest : List ℕ) → FitsTogether (store_reading scope s) → TakesRows with_first n s text t rest
    → FitsTogether (store_reading scope t) × ReadsFront (store_reading scope s) (lines text) (λ count reading ls. (n ≡ count) × (store_reading scope t ≡ reading) × (lines rest ≡ ls))
rows_read zero scope s t text rest fits (same, is) =
    (subst (λ (x : StoreData). FitsTogether (store_reading scope x)) same fits, ([], lines text, store_reading scope s, refl, refl, (refl, ap (store_reading scope) (sym same), ap lines (sym is))))
rows_read (suc n) scope s t text rest fits (m, row, values, earlier, split, ends, read) =
    let (fine, (front, ls, reading, parted, reads, (count, is, behind))) = rows_read n scope s m text row fits earlier in
    let before = store_reading scope m in
    let new = store_reading scope t in
    let said = row_text before row values refl split ends ∙ store_values scope m.ended m.current t (lines values) (lines rest) read in
    let first = first_is before new (lines row) (lines rest) said in
    let so_far : Reads (store_reading scope s) front before = subst (λ (r : Reading). Reads (store_reading scope s) front r) (sym is) reads in (
      first_fits before new (lines row) (lines rest) fine first,
      (
        front ++ first.line ∷ [],
        lines rest,
        new,
        parted ∙ ap (λ l. front ++ l) (sym behind) ∙ ap (λ l. front ++ l) first.split ∙ sym (append_assoc front (first.line ∷ []) (lines rest)),
        reads_push _ before new front first.line so_far first.read,
        (omega (arith, count, length-append front (first.line ∷ [])), refl, refl),
      ),
    )

-- and so does what is held of it
abbrev held : List Named → Option StoreData → Option (Tree Place) → Reading
held scope o p = record { scope = scope; ended = ended_of o; current = current_of o; predicate = p }

pub held_rows : (n : ℕ) (scope : List Named) (o : Option StoreData) (p : Option (Tree Place)) (s t : StoreData) (text rest : List ℕ) → o ≡ Some s → p ≡ None → FitsTogether (held scope o p) → TakesRows with_first n s text t rest
    → FitsTogether (held scope (Some t) p) × ReadsFront (held scope o p) (lines text) (λ count reading ls. (n ≡ count) × (held scope (Some t) p ≡ reading) × (lines rest ≡ ls))
held_rows n scope None p s t text rest is none fits rows = absurd (cc)
held_rows n scope (Some x) (Some e) s t text rest is none fits rows = absurd (cc)
held_rows n scope (Some x) None s t text rest is none fits rows = rows_read n scope x t text rest fits (subst (λ (y : StoreData). TakesRows with_first n y text t rest) (sym (same_Some x s is)) rows)

-- ---- one stretch of lines behind another

-- lines from the first one on were read, those before the rest, and counted
abbrev pub Reached : Reading → ℕ → List (List ℕ) → Reading → ℕ → List (List ℕ) → Type 0
Reached old first whole new number rest = (front : List (List ℕ)) × (whole ≡ front ++ rest) × Reads old front new × (number ≡ first + length front)

reads_append : (a b c : Reading) (front more : List (List ℕ)) → Reads a front b → Reads b more c → Reads a (front ++ more) c
reads_append a b c [] more same reads = subst (λ (r : Reading). Reads r more c) (sym same) reads
reads_append a b c (line ∷ front) more (next, read, rest) reads = (next, read, reads_append next b c front more rest reads)

pub reached_further : (a b c : Reading) (first number count : ℕ) (whole rest later : List (List ℕ)) → Reached a first whole b number rest → ReadsFront b rest (λ n reading ls. (count ≡ n) × (c ≡ reading) × (later ≡ ls))
    → Reached a first whole c (number + count) later
reached_further a b c first number count whole rest later (front, split, reads, is) (more, ls, reading, parted, on, (counted, same, behind)) =
    let to : Reads b more c = subst (λ (r : Reading). Reads b more r) (sym same) on in (
      front ++ more,
      split ∙ ap (λ l. front ++ l) (parted ∙ ap (λ l. more ++ l) (sym behind)) ∙ sym (append_assoc front more later),
      reads_append a b c front more reads to,
      omega (arith, is, counted, length-append front more),
    )
