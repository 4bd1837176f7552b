-- The table of zones that stand together, one zone after the other.
use Rattle.std.proofs.Common.{◌≡◌, ◌≤◌, ◌<◌, ◌+◌, ◌++◌, ◌∙◌, ℕ, zero, suc, List, [], ◌∷◌, Option, None, Some, ap, ap₂, arith, drop, length, map, refl, subst, sym, take}
use Rattle.std.proofs.lemmas.List.{append-nil, append_assoc, drop_all, get_or-drop, get_or-take, length-drop, length-map, length-take, length-take-le, map_push, take_all, take_more}
use Rattle.std.proofs.lemmas.Option.{get_or_from_slice_get, same_Some, slice_get-get_or, slice_get_within}
use Rattle.std.specs.List.{AllByRecursion}
use Rattle.std.specs.Prelude.{option_map, replicate, slice_get}
use Rattle.vortex_base.specs.declared.aggregate.AggregateFnRef.{AggregateFnRef}
use Rattle.vortex_base.specs.declared.aggregate.AggregateFnRef.TheVariants as aggregate
use Rattle.vortex_base.specs.declared.array_data.ArrayData.{ArrayData}
use Rattle.vortex_base.specs.declared.scalar_value.ScalarValue.{ScalarValue}
use Rattle.vortex_zone_map.proofs.ZoneLemmas.{rest_of}
use Rattle.vortex_zone_map.specs.StatValues.{stat_value}
use Rattle.vortex_zone_map.specs.Zone.{Entries, ZoneData}
use Rattle.vortex_zone_map.specs.ZoneMaps.{StatColumn, set_value}
use Rattle.vortex_zone_map.proofs.JoinLemmas.{one_more_zone}
use Rattle.vortex_zone_map.proofs.LogLemmas.{all_at}
use Rattle.vortex_zone_map.proofs.TableLemmas.{zone_with}
use Rattle.vortex_zone_map.specs.Kept.{IsWithin, said, saying}
use Rattle.vortex_zone_map.specs.Logs.{empty_sets, zones_from}
use Rattle.vortex_zone_map.specs.Tables.{AreBlank, AreCells, blank_zone, under}
use Rattle.vortex_zone_map.specs.declared.entry_range.EntryRange.{EntryRange}
use Rattle.vortex_zone_map.specs.declared.stat_entry.StatEntry.{StatEntry}

-- ---- zones of which nothing is known

none_known : (f : AggregateFnRef) (n : ℕ) → stat_value f [] n ≡ None
none_known aggregate.Max n = refl
none_known aggregate.Min n = refl
none_known aggregate.Sum n = refl
none_known aggregate.NullCount n = refl
none_known aggregate.UncompressedSizeInBytes n = refl
none_known aggregate.AllNull n = refl
none_known aggregate.AllNonNull n = refl
none_known aggregate.MinMax n = refl
none_known aggregate.NanCount n = refl

empty_tells : (f : AggregateFnRef) (n i rows : ℕ) → set_value f (slice_get (empty_sets n) i) rows ≡ None
empty_tells f zero i rows = refl
empty_tells f (suc n) zero rows = none_known f rows
empty_tells f (suc n) (suc i) rows = empty_tells f n i rows

blanks_tell : (h : StatColumn) (n : ℕ) (zones : List ZoneData) → under h (map (blank_zone n) zones) ≡ replicate (length zones) None
blanks_tell h n [] = refl
blanks_tell h n (z ∷ zones) = ap₂ (λ (v : Option ScalarValue) vs. v ∷ vs) (empty_tells h.aggregate n h.source z.rows) (blanks_tell h n zones)

pub blank_first : (heads : List StatColumn) (n count : ℕ) (zones : List ZoneData) (cells : List ArrayData) → length zones ≡ count → AreBlank heads count cells → AreCells heads (map (blank_zone n) zones) cells
blank_first heads n count zones cells long is = record {
  long = is.long;
  told = λ k h c at got. is.blank k c got ∙ ap (λ m. replicate m None) (sym long) ∙ sym (blanks_tell h n zones);
}

-- ---- zones from a place on

pub zones_long : (zones : List ZoneData) (from count : ℕ) → from + count ≤ length zones → length (zones_from from count zones) ≡ count
zones_long zones from count within = let long = length-drop from zones in length-take-le count (drop from zones) (omega (arith, long, within))

pub zone_there : (zones : List ZoneData) (from count k : ℕ) (z : ZoneData) → k < count → slice_get zones (from + k) ≡ Some z → slice_get (zones_from from count zones) k ≡ Some z
zone_there zones from count k z less at =
    let within = slice_get_within zones (from + k) z at in
    let long = length-drop from zones in
    let cut = length-take count (drop from zones) in
    slice_get-get_or (zones_from from count zones) k z (omega (arith, cut, long, within, less))
    ∙ ap Some (get_or-take count (drop from zones) k z less ∙ get_or-drop from zones k z ∙ get_or_from_slice_get zones (from + k) z z at)

-- the next zone is told
pub next_told : (heads : List StatColumn) (n : ℕ) (zones : List ZoneData) (k rows : ℕ) (full : List Entries) (old new : List ArrayData) → slice_get zones k ≡ Some (zone_with rows full)
    → ((before after : List ZoneData) (sets : List Entries) → length before ≡ k → sets ≡ empty_sets n → AreCells heads (before ++ zone_with rows sets ∷ after) old → AreCells heads (before ++ zone_with rows full ∷ after) new)
    → AreCells heads (take k zones ++ map (blank_zone n) (drop k zones)) old → AreCells heads (take (k + 1) zones ++ map (blank_zone n) (drop (k + 1) zones)) new
next_told heads n zones k rows full old new at put is =
    let z = zone_with rows full in
    let after = map (blank_zone n) (drop (k + 1) zones) in
    let within = slice_get_within zones k z at in
    let first : length (take k zones) ≡ k = length-take-le k zones (omega (arith, within)) in
    let more : take (k + 1) zones ≡ take k zones ++ z ∷ [] = take_more zones k z within ∙ ap (λ x. take k zones ++ x ∷ []) (get_or_from_slice_get zones k z z at) in
    subst (λ zs. AreCells heads zs new) (sym (ap (λ l. l ++ after) more ∙ append_assoc (take k zones) (z ∷ []) after))
    (put (take k zones) after (empty_sets n) first refl (subst (λ zs. AreCells heads zs old) (ap (λ l. take k zones ++ map (blank_zone n) l) (rest_of zones k z at)) is))

-- all are
pub all_told : (heads : List StatColumn) (n : ℕ) (zones : List ZoneData) (k : ℕ) (cells : List ArrayData) → length zones ≤ k → AreCells heads (take k zones ++ map (blank_zone n) (drop k zones)) cells → AreCells heads zones cells
all_told heads n zones k cells past is =
    subst (λ zs. AreCells heads zs cells) (ap₂ (λ (a b : List ZoneData). a ++ map (blank_zone n) b) (take_all k zones past) (drop_all k zones past) ∙ append-nil zones) is

-- a slice that is lent whole comes back whole
pub lent_whole : (len : ℕ) (new old : List ArrayData) → length new ≡ len → length old ≡ len → take len (new ++ drop (length new) old) ≡ new
lent_whole len new old long same =
    ap (take len) (ap (λ l. new ++ l) (drop_all (length new) old (omega (arith, long, same))) ∙ append-nil new) ∙ take_all len new (omega (arith, long))

-- ---- a stretch of a log

pub stretch_within : (var_len_values : List ScalarValue) (told : List StatEntry) (runs : List EntryRange) (i : ℕ) (s : EntryRange) → AllByRecursion (IsWithin (length (said var_len_values told))) runs → slice_get runs i ≡ Some s → IsWithin (length told) s
stretch_within var_len_values told runs i s all at = subst (λ n. IsWithin n s) (length-map told (saying var_len_values)) (all_at (IsWithin (length (said var_len_values told))) runs i s all at)

-- ---- row counts

record IsMapped {X Y : Type 0} (f : X → Y) (o : Option X) (y : Y) : Type 0 where
  value : X
  there : o ≡ Some value
  is : f value ≡ y

mapped_from : {X Y : Type 0} (f : X → Y) (o : Option X) (y : Y) → option_map f o ≡ Some y → IsMapped f o y
mapped_from f None y e = absurd cc
mapped_from f (Some x) y e = record { value = x; there = refl; is = same_Some (f x) y e }

pub next_rows : (zones : List ZoneData) (from k r : ℕ) (rows new : List ℕ) → option_map (λ (z : ZoneData). z.rows) (slice_get zones (from + k)) ≡ Some r → new ≡ rows ++ r ∷ [] → rows ≡ map (λ z. z.rows) (zones_from from k zones)
    → new ≡ map (λ z. z.rows) (zones_from from (k + 1) zones)
next_rows zones from k r rows new at pushed before =
    let f : ZoneData → ℕ = λ z. z.rows in
    let m = mapped_from f (slice_get zones (from + k)) r at in
    pushed ∙ ap₂ (λ l (x : ℕ). l ++ x ∷ []) before (sym m.is) ∙ sym (map_push f (zones_from from k zones) m.value) ∙ ap (map f) (sym (one_more_zone zones from k m.value m.there))
