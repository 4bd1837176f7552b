-- Values that stand for zones.
use Rattle.std.proofs.Common.{◌≡◌, ◌==◌, ◌<◌, ◌≤◌, ◌+◌, ◌-◌, ◌++◌, ℕ, Bool, true, false, List, [], ◌∷◌, Option, None, Some, Ok, IsTrue, ap, arith, drop, eqb-true, get_or, length, map, refl, slice_get, subst, sym, take, ◌∙◌}
use Rattle.std.specs.List.{list_all}
use Rattle.std.specs.Prelude.{nat_le, option_map, slice_index}
use Rattle.std.proofs.lemmas.Bool.Decides.{nat_tests}
use Rattle.std.proofs.lemmas.List.{get_or-drop, get_or-take, length-drop, length-take-le, map-append}
use Rattle.std.proofs.lemmas.List.Folds.{list_all_at}
use Rattle.std.proofs.Math.Nat.{mul-le-mul_right}
use Rattle.std.proofs.lemmas.Option.{slice_get-get_or}
use Rattle.vortex_base.specs.declared.aggregate.AggregateFnRef.{AggregateFnRef}
use Rattle.vortex_base.specs.declared.aggregate.AggregateFnRef.TheVariants as aggregate
use Rattle.vortex_base.specs.declared.dtype.DType.TheVariants as dtype
use Rattle.vortex_base.specs.declared.pvalue.PValue.{PValue}
use Rattle.vortex_base.specs.declared.scalar_value.ScalarValue.{ScalarValue}
use Rattle.vortex_base.specs.declared.scalar_value.ScalarValue.TheVariants as value
use Rattle.vortex_base.specs.declared.types.Nullability.{Nullability}
use Rattle.vortex_base.specs.declared.types.PType.{PType}
use Rattle.vortex_zone_map.specs.StatValues.{told_value}
use Rattle.vortex_stats.specs.Sets.Entries.{is_value_of}
use Rattle.vortex_stats.specs.Stat.{stat_dtype}
use Rattle.vortex_stats.specs.declared.precision.Precision.{Precision}
use Rattle.vortex_stats.specs.declared.precision.Precision.TheVariants.{Absent, Exact, Inexact}
use Rattle.vortex_capi.specs.declared.status.Status.TheVariants.{BadLength}
use Rattle.vortex_capi.specs.declared.table.Source.{Source}
use Rattle.vortex_capi.specs.Encoding.{AreNumbers, number_at, number_from}
use Rattle.vortex_capi.specs.Given.{fixed, or_refused}
use Rattle.vortex_capi.specs.MapCells.{AreRead, HasNumbers, IsRead, Stand, TellsValues, is_code, is_exact, numbered, present_in, tells_value, told_cell, told_cells, told_of}
use Rattle.vortex_capi.specs.Statuses.{at_entry}
use Rattle.vortex_capi.specs.Tables.{value_of_source}
use Rattle.vortex_capi.proofs.ReadLemmas.{reads_on}
use Rattle.vortex_capi.specs.Types.{number_width}
use Rattle.vortex_capi.specs.Values.{read_of}

module _ (x : Source) (zone k : ℕ) (v : ScalarValue) (known : slice_get x.statistic.known.now zone ≡ Some k) (there : present_in x zone ≡ Ok v) (fits : IsTrue (is_value_of (stat_dtype x.stat x.dtype) v)) where
  read_by : (a b c : Bool) → (k == 0) ≡ a → (k == 1) ≡ b → (k == 2) ≡ c → nat_le k 2 ≡ true → IsRead x zone
  read_by true b c e f g h = record { value = Absent; read = rw (known, e) refl; fits = refl }
  read_by false true c e f g h = record { value = Exact v; read = rw (known, e, f, there) refl; fits = fits }
  read_by false false true e f g h = record { value = Inexact v; read = rw (known, e, f, g, there) refl; fits = fits }
  read_by false false false e f g h = absurd (grind (arith, nat_tests))

  -- a zone is read by a code and a value that stands for it
  pub read_by_code : nat_le k 2 ≡ true → IsRead x zone
  read_by_code h = read_by (k == 0) (k == 1) (k == 2) refl refl refl h

passes : {X : Type 0} (p : X → Bool) (xs : List X) (i : ℕ) (d : X) → i < length xs → list_all p xs ≡ true → (b : Bool) → p (get_or xs i d) ≡ b → p (get_or xs i d) ≡ true
passes p xs i d within all true e = e
passes p xs i d within all false e = let none = list_all_at p xs i d within e in absurd cc

by_part : (t : PType) (m : Nullability) (o : Option (List ℕ)) (n : PValue) → number_from t o ≡ Some n → read_of (dtype.Primitive t m) (or_refused BadLength o) ≡ Ok (value.Primitive n)
by_part t m None n h = absurd cc
by_part t m (Some bytes) n h = rw h refl

-- fewer zones
pub stand_among : (x : Source) (t : PType) (m n : ℕ) → m ≤ n → Stand t x n → Stand t x m
stand_among x t m n h stand = record { known = omega (arith, h, stand.known); numbers = let less = mul-le-mul_right {m = m} {n = n} (number_width t) h in omega (arith, less, stand.numbers) }

module _ (x : Source) (t : PType) (has : HasNumbers t x) where
  -- the value that stands for a zone is the number there
  pub number_present : (zone : ℕ) (n : PValue) → number_at t x.statistic.values.now zone ≡ Some n → present_in x zone ≡ Ok (value.Primitive n)
  number_present zone n there = rw has.typed (by_part t has.nullability (fixed x.statistic.values.now (number_width t) zone) n there)

  -- each of the first zones is read by its code and the number there
  pub read_by_codes : (zones : ℕ) → zones ≤ length x.statistic.known.now → AreNumbers t x.statistic.values.now zones → list_all is_code (take zones x.statistic.known.now) ≡ true → AreRead x zones
  read_by_codes zones long numbers codes zone h =
      let known = x.statistic.known.now in
      let taken : length (take zones known) ≡ zones = length-take-le zones known long in
      let same : get_or (take zones known) zone 0 ≡ get_or known zone 0 = get_or-take zones known zone 0 h in
      let code : nat_le (get_or (take zones known) zone 0) 2 ≡ true = passes is_code (take zones known) zone 0 (omega (arith, taken, h)) codes (is_code (get_or (take zones known) zone 0)) refl in
      let n = numbers zone h in
      read_by_code x zone (get_or known zone 0) (value.Primitive n.number) (slice_get-get_or known zone 0 (omega (arith, h, long))) (number_present zone n.number n.read) (rw has.typed n.fits) (rw same at code)

-- ---- numbers that are told themselves

-- of a value that is known exactly the value itself is told
exactly_told : (f : AggregateFnRef) (n : ℕ) (v : ScalarValue) → tells_value f ≡ true → told_value f (Exact v) n ≡ Some v
exactly_told aggregate.Max n v h = refl
exactly_told aggregate.Min n v h = refl
exactly_told aggregate.Sum n v h = refl
exactly_told aggregate.NullCount n v h = refl
exactly_told aggregate.UncompressedSizeInBytes n v h = refl
exactly_told aggregate.AllNull n v h = absurd cc
exactly_told aggregate.AllNonNull n v h = absurd cc
exactly_told aggregate.MinMax n v h = absurd cc
exactly_told aggregate.NanCount n v h = absurd cc

-- what is read of a zone whose value is known exactly
pub read_exactly : (x : Source) (zone : ℕ) (v : ScalarValue) → slice_get x.statistic.known.now zone ≡ Some 1 → present_in x zone ≡ Ok v → value_of_source x zone ≡ Ok (Exact v)
read_exactly x zone v exact there = rw (exact, there) refl

-- one more value that is known exactly
told_more : (x : Source) (from k : ℕ) (cells : List (Option ScalarValue)) (v : ScalarValue) → slice_get x.statistic.known.now (from + k) ≡ Some 1 → present_in x (from + k) ≡ Ok v
    → TellsValues x from k cells → TellsValues x from (k + 1) (cells ++ Some v ∷ [])
told_more x from k cells v exact there before f rows tells =
    reads_on at_entry (λ i. told_cell f (Some x) rows (from + i)) k cells (Some v) (before f rows tells)
    (ap (told_of f (slice_index rows (from + k))) (read_exactly x (from + k) v exact there) ∙ ap Ok (exactly_told f (slice_index rows (from + k)) v tells))

module _ {N : Type 0} (scalar : N → ScalarValue) where
  -- one more value, known in whatever way
  pub told_on : (f : AggregateFnRef) (x : Source) (rows : List ℕ) (from k : ℕ) (ns ms : List (Option N)) (n : Option N) (p : Precision PValue) → ms ≡ ns ++ n ∷ [] → value_of_source x (from + k) ≡ Ok (numbered p)
      → option_map scalar n ≡ told_value f (numbered p) (slice_index rows (from + k)) → told_cells f (Some x) rows from k ≡ Ok (map (option_map scalar) ns) → told_cells f (Some x) rows from (k + 1) ≡ Ok (map (option_map scalar) ms)
  told_on f x rows from k ns ms n p made read told before =
      let cell : told_cell f (Some x) rows (from + k) ≡ Ok (option_map scalar n) = ap (told_of f (slice_index rows (from + k))) read ∙ ap Ok (sym told) in
      reads_on at_entry (λ i. told_cell f (Some x) rows (from + i)) k (map (option_map scalar) ns) (option_map scalar n) before cell
      ∙ ap Ok (sym (ap (map (option_map scalar)) made ∙ map-append (option_map scalar) ns (n ∷ [])))

  -- the cells of numbers, each of which is there
  abbrev pub cells_of : List N → List (Option ScalarValue)
  cells_of ns = map (option_map scalar) (map Some ns)

  cells_more : (ns : List N) (n : N) → cells_of (ns ++ n ∷ []) ≡ cells_of ns ++ Some (scalar n) ∷ []
  cells_more ns n = ap (map (option_map scalar)) (map-append Some ns (n ∷ [])) ∙ map-append (option_map scalar) (map Some ns) (Some n ∷ [])

  -- one more number that is known exactly
  pub number_more : (x : Source) (from k : ℕ) (ns ms : List N) (n : N) (p : PValue) → ms ≡ ns ++ n ∷ [] → scalar n ≡ value.Primitive p → slice_get x.statistic.known.now (from + k) ≡ Some 1
      → present_in x (from + k) ≡ Ok (value.Primitive p) → TellsValues x from k (cells_of ns) → TellsValues x from (k + 1) (cells_of ms)
  number_more x from k ns ms n p made kept exact there before =
      let same : cells_of ns ++ Some (value.Primitive p) ∷ [] ≡ cells_of ms = sym (ap cells_of made ∙ cells_more ns n ∙ ap (λ v. cells_of ns ++ Some v ∷ []) kept) in
      subst (TellsValues x from (k + 1)) same (told_more x from k (cells_of ns) (value.Primitive p) exact there before)

-- each of some codes says that a value is known exactly
pub exact_codes : (known : List ℕ) (from n : ℕ) → from + n ≤ length known → list_all is_exact (take n (drop from known)) ≡ true → (k : ℕ) → k < n → slice_get known (from + k) ≡ Some 1
exact_codes known from n long codes k h =
    let rest = drop from known in
    let left : length rest ≡ length known - from = length-drop from known in
    let taken : length (take n rest) ≡ n = length-take-le n rest (omega (arith, left, long)) in
    let same : get_or (take n rest) k 0 ≡ get_or known (from + k) 0 = get_or-take n rest k 0 h ∙ get_or-drop from known k 0 in
    let code : is_exact (get_or (take n rest) k 0) ≡ true = passes is_exact (take n rest) k 0 (omega (arith, taken, h)) codes (is_exact (get_or (take n rest) k 0)) refl in
    let one : get_or (take n rest) k 0 ≡ 1 = eqb-true _ _ code in
    slice_get-get_or known (from + k) 0 (omega (arith, h, long)) ∙ ap Some (sym same ∙ one)
