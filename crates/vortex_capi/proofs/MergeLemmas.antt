-- What two tables have at a place, and what no statistics give.
use Rattle.std.proofs.Common.{◌≡◌, ◌<◌, ◌≤◌, ◌+◌, ◌++◌, IsTrue, ℕ, zero, suc, List, [], ◌∷◌, Result, Ok, Err, add-one, eq-eqb, length, refl, slice_get, slice_index, slice_index_or, sym, ap, ◌∙◌, ◌==◌, Bool, true, false, if◌then◌else◌, min, arith}
use Rattle.std.proofs.lemmas.List.{length-map, nil_from_length}
use borrow.Author.Tests.{eqb-true}
use Rattle.vortex_base.specs.declared.dtype.DType.{DType}
use Rattle.vortex_stats.proofs.Sets.Fitting.{entries_fit_with_entry}
use Rattle.vortex_stats.specs.Sets.Entries.{entries_fit, value_fits, with_entry}
use Rattle.vortex_stats.specs.declared.stat.Stat.{Stat}
use Rattle.vortex_capi.specs.declared.statistic.Statistic.{Statistic}
use Rattle.vortex_capi.specs.declared.status.Status.{Status}
use Rattle.vortex_capi.specs.declared.status.Status.TheVariants.{BadLength}
use Rattle.vortex_capi.specs.Merges.{Entries, common, common_of, common_stat, entry_or, merged_as, merged_sets, next_zone, numbers_of, set_given, together_as, with_next, zones_set}
use Rattle.vortex_capi.specs.Measures.{stat_of, wanted_of}
use Rattle.vortex_capi.specs.Refusals.{all_read, stepped}
use Rattle.vortex_capi.specs.declared.fault.Refusal.{Refusal}
use Rattle.vortex_stats.specs.Merging.Merges.{merged_ordered}
use Rattle.vortex_capi.specs.Statistics.{Entry}
use Rattle.vortex_capi.specs.Statuses.{at_entry, in_column}
use Rattle.vortex_capi.proofs.ReadLemmas.{followed_from, followed_read, steps_stop, stops}

-- the number at a place
pub number_there : (xs : List Statistic) (i n : ℕ) → i < length xs → ((d : Statistic) → n ≡ (slice_index_or xs i d).stat) → n ≡ slice_index (numbers_of xs) i
number_there [] i n h is = absurd (omega (arith, h))
number_there (x ∷ xs) zero n h is = is x
number_there (x ∷ xs) (suc i) n h is = number_there xs i n (omega (arith, h)) (λ d. is d)

-- the statistic at a place of both
pub common_there : (t : DType) (xs ys : List Statistic) (i m n : ℕ) (r : Result Stat Status) → i < length xs → i < length ys → ((d : Statistic) → m ≡ (slice_index_or xs i d).stat) → ((d : Statistic) → n ≡ (slice_index_or ys i d).stat)
    → r ≡ common_stat t m n → common_stat t (slice_index (numbers_of xs) i) (slice_index (numbers_of ys) i) ≡ r
common_there t xs ys i m n r h k left right is =
    ap (λ a. common_stat t a (slice_index (numbers_of ys) i)) (sym (number_there xs i m h left)) ∙ ap (common_stat t m) (sym (number_there ys i n k right)) ∙ sym is

-- without statistics each zone has a set
pub no_statistics : (t : DType) (zones : ℕ) → (sets : List Entries) × (merged_sets t [] [] zones ≡ Ok sets)
no_statistics t zero = ([], refl)
no_statistics t (suc zones) =
    let before = no_statistics t zones in
    (before.0 ++ [] ∷ [], rw before.1 refl)

alike : (t : DType) (xs ys : List Statistic) (ss : List Stat) (b : Bool) → (length xs == length ys) ≡ b → (if b then common_of t (numbers_of xs) (numbers_of ys) else Err (at_entry BadLength (min (length xs) (length ys)))) ≡ Ok ss → length xs ≡ length ys
alike t xs ys ss true is h = eqb-true (length xs) (length ys) is
alike t xs ys ss false is h = absurd cc

of_none : (t : DType) (zones : ℕ) → merged_as [] [] zones t ≡ Ok []
of_none t zones = rw (no_statistics t zones).1 refl

-- and tables without any are merged to none
pub nothing_merged : (t : DType) (xs ys : List Statistic) (zones : ℕ) (ss : List Stat) → common t xs ys ≡ Ok ss → xs ≡ [] → merged_as xs ys zones t ≡ Ok []
nothing_merged t xs ys zones ss h none =
    let long : length ys ≡ 0 = sym (alike t xs ys ss (length xs == length ys) refl h) ∙ ap length none in
    ap (λ l. merged_as l ys zones t) none ∙ ap (λ l. merged_as [] l zones t) (nil_from_length ys long) ∙ of_none t zones

-- ---- the set of a zone

pub set_stops : (table : ℕ) (t : DType) (zone : ℕ) (xs : List Statistic) (i : ℕ) (set : Entries) (s : Status) → stepped (with_next table t zone xs) [] i ≡ Ok set → entry_or t zone (slice_get xs i) ≡ Err s → i < length xs
    → set_given table t zone xs ≡ Err (in_column zone table s i)
set_stops table t zone xs i set s before stopped h = steps_stop (with_next table t zone xs) [] i (length xs) set (in_column zone table s i) before (rw stopped refl) h

pub set_goes_on : (table : ℕ) (t : DType) (zone : ℕ) (xs : List Statistic) (i : ℕ) (set new : Entries) (e : Entry) → stepped (with_next table t zone xs) [] i ≡ Ok set → entry_or t zone (slice_get xs i) ≡ Ok e → new ≡ with_entry e.0 e.1 set
    → stepped (with_next table t zone xs) [] (i + 1) ≡ Ok new
set_goes_on table t zone xs i set new e before read is = rw (add-one, before, read) (ap Ok (sym is))

pub next_fits : (t : DType) (set new : Entries) (e : Entry) → IsTrue (entries_fit set t) → IsTrue (value_fits e.0 t e.1) → new ≡ with_entry e.0 e.1 set → IsTrue (entries_fit new t)
next_fits t set new e fits one is = ap (λ es. entries_fit es t) is ∙ entries_fit_with_entry e.0 e.1 t set one fits

-- ---- what both tables tell

abbrev IsCommonUpTo : DType → List Statistic → List Statistic → ℕ → List Stat → Type 0
IsCommonUpTo t xs ys i ss = all_read at_entry (λ k. common_stat t (slice_index (numbers_of xs) k) (slice_index (numbers_of ys) k)) i ≡ Ok ss

pub common_next : (t : DType) (xs ys : List Statistic) (i m n : ℕ) (s : Stat) (ss new : List Stat) → length xs ≡ length ys → i < length xs → ((d : Statistic) → m ≡ (slice_index_or xs i d).stat)
    → ((d : Statistic) → n ≡ (slice_index_or ys i d).stat) → Ok s ≡ common_stat t m n → IsCommonUpTo t xs ys i ss → new ≡ ss ++ s ∷ [] → IsCommonUpTo t xs ys (i + 1) new
common_next t xs ys i m n s ss new long h left right read before pushed =
    let here = common_there t xs ys i m n (Ok s) h (omega (arith, h, long)) left right read in
    rw (add-one, before, here) (ap Ok (sym pushed))

pub common_stops : (t : DType) (xs ys : List Statistic) (i m n : ℕ) (s : Status) (ss : List Stat) → length xs ≡ length ys → i < length xs → ((d : Statistic) → m ≡ (slice_index_or xs i d).stat)
    → ((d : Statistic) → n ≡ (slice_index_or ys i d).stat) → Err s ≡ common_stat t m n → IsCommonUpTo t xs ys i ss → common t xs ys ≡ Err (at_entry s i)
common_stops t xs ys i m n s ss long h left right read before =
    let here = common_there t xs ys i m n (Err s) h (omega (arith, h, long)) left right read in
    let all = stops at_entry (λ k. common_stat t (slice_index (numbers_of xs) k) (slice_index (numbers_of ys) k)) i (length (numbers_of xs)) ss s before here (omega (arith, h, length-map xs (λ (x : Statistic). x.stat))) in
    ap (λ b. if b then common_of t (numbers_of xs) (numbers_of ys) else Err (at_entry BadLength (min (length xs) (length ys)))) (eq-eqb (length xs) (length ys) long) ∙ all

-- ---- the zones of one table

abbrev AreWantedUpTo : DType → List Statistic → ℕ → List Stat → Type 0
AreWantedUpTo t xs i ss = all_read at_entry (λ k. stat_of t (slice_index (numbers_of xs) k)) i ≡ Ok ss

pub wanted_next : (t : DType) (xs : List Statistic) (i m : ℕ) (s : Stat) (ss new : List Stat) → i < length xs → ((d : Statistic) → m ≡ (slice_index_or xs i d).stat) → Ok s ≡ stat_of t m → AreWantedUpTo t xs i ss → new ≡ ss ++ s ∷ [] → AreWantedUpTo t xs (i + 1) new
wanted_next t xs i m s ss new h there read before pushed =
    let here : stat_of t (slice_index (numbers_of xs) i) ≡ Ok s = ap (stat_of t) (sym (number_there xs i m h there)) ∙ sym read in
    rw (add-one, before, here) (ap Ok (sym pushed))

pub wanted_stops : (t : DType) (xs : List Statistic) (i m : ℕ) (s : Status) (ss : List Stat) → i < length xs → ((d : Statistic) → m ≡ (slice_index_or xs i d).stat) → Err s ≡ stat_of t m → AreWantedUpTo t xs i ss → wanted_of t (numbers_of xs) ≡ Err (at_entry s i)
wanted_stops t xs i m s ss h there read before =
    let here : stat_of t (slice_index (numbers_of xs) i) ≡ Err s = ap (stat_of t) (sym (number_there xs i m h there)) ∙ sym read in
    stops at_entry (λ k. stat_of t (slice_index (numbers_of xs) k)) i (length (numbers_of xs)) ss s before here (omega (arith, h, length-map xs (λ (x : Statistic). x.stat)))

pub wanted_all : (t : DType) (xs : List Statistic) (i : ℕ) (ss : List Stat) → i ≤ length xs → length xs ≤ i → AreWantedUpTo t xs i ss → wanted_of t (numbers_of xs) ≡ Ok ss
wanted_all t xs i ss h k before =
    let same : length (numbers_of xs) ≡ i = omega (arith, h, k, length-map xs (λ (x : Statistic). x.stat)) in
    ap (all_read at_entry (λ n. stat_of t (slice_index (numbers_of xs) n))) same ∙ before

-- the first zone that is refused decides of all
pub zones_stop : (t : DType) (xs : List Statistic) (zone zones : ℕ) (set : Entries) (r : Refusal) → 1 ≤ zone → zone < zones → zones_set t xs zone ≡ Ok set → next_zone t xs zone set ≡ Err r → zones_set t xs zones ≡ Err r
zones_stop t xs zero zones set r h k before stopped = absurd (omega (arith, h))
zones_stop t xs (suc n) zero set r h k before stopped = absurd (omega (arith, k))
zones_stop t xs (suc n) (suc m) set r h k before stopped =
    let step = λ (i : ℕ). next_zone t xs (suc i) in
    let p = followed_from (set_given 0 t 0 xs) (λ first. stepped step first n) set before in
    followed_read (set_given 0 t 0 xs) (λ first. stepped step first m) p.at p.made ∙ steps_stop step p.at n m set r p.then stopped (omega (arith, k))

-- without statistics the zones have a set
no_steps : (t : DType) (n : ℕ) → (set : Entries) × (stepped (λ k. next_zone t [] (suc k)) [] n ≡ Ok set)
no_steps t zero = ([], refl)
no_steps t (suc n) =
    let before = no_steps t n in
    (merged_ordered before.0 [], rw before.1 refl)

none_together : (t : DType) (zones : ℕ) → together_as [] zones t ≡ Ok []
none_together t zero = refl
none_together t (suc n) = rw (no_steps t n).1 refl

pub nothing_together : (t : DType) (xs : List Statistic) (zones : ℕ) → xs ≡ [] → together_as xs zones t ≡ Ok []
nothing_together t xs zones none = ap (λ l. together_as l zones t) none ∙ none_together t zones
