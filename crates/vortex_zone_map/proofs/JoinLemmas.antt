-- Two zones that stand side by side, as one.
use Rattle.std.proofs.Common.{◌≡◌, ◌<◌, ◌+◌, ◌-◌, ◌++◌, ◌∷◌, ◌∙◌, Global, ℕ, zero, suc, List, [], Some, String, ap, ap₂, arith, drop, get_or, length, map, refl, sym, take, true}
use Rattle.std.proofs.lemmas.List.{append_assoc, get_or-drop, length-drop, length-map, length_push, map-append, take-map, take_more}
use Rattle.std.proofs.lemmas.Option.{get_or_from_slice_get, slice_get-get_or, slice_get-map, slice_get_within}
use Rattle.std.specs.List.{AllByRecursion}
use Rattle.std.specs.Prelude.{option_and_then, option_map, slice_get, slice_set}
use Rattle.vortex_base.specs.Data.Exact.{both_true}
use Rattle.vortex_base.specs.Data.Scopes.{Named, named, named_columns}
use Rattle.vortex_base.specs.declared.dtype.DType.{DType}
use Rattle.vortex_zone_map.proofs.ZoneLemmas.{sets_pushed, zone_set_fits}
use Rattle.vortex_rewrite.proofs.Logic.{all_append}
use Rattle.vortex_zone_map.specs.Zone.{Entries, ZoneData, fits_zone, merged_sets}
use Rattle.vortex_stats.specs.Merging.Merges.{merged_ordered}
use Rattle.vortex_stats.proofs.Sets.Places.{with_entries-distinct}
use Rattle.vortex_stats.specs.Sets.Entries.{AreDistinct, entries_fit, with_entries, with_entry}
use Rattle.vortex_base.specs.declared.scalar_value.ScalarValue.{ScalarValue}
use Rattle.vortex_zone_map.specs.Kept.{IsWithin, Saying, said, said_in, saying, sets_of, sets_with, stretch_of, zone_of, zones_of}
use Rattle.vortex_zone_map.specs.declared.stat_entry.StatEntry.{StatEntry}
use Rattle.vortex_zone_map.specs.Logs.{empty_sets, joined, joined_at, set_at}
use Rattle.vortex_zone_map.specs.declared.entry_range.EntryRange.{EntryRange}
use Rattle.vortex_zone_map.proofs.LogLemmas.{IsNext, next_is_within, next_zone, others_within, sets_with-append, zone_long, zones_grow}

pub length-merged : (xs ys : List Entries) → length xs ≡ length ys → length (merged_sets xs ys) ≡ length xs
length-merged [] ys e = refl
length-merged (x ∷ xs) [] e = absurd cc
length-merged (x ∷ xs) (y ∷ ys) e = ap suc (length-merged xs ys cc)

-- ---- the zones with two of them joined

pub joined_is : (i : ℕ) (zones : List ZoneData) (left right : ZoneData) → slice_get zones i ≡ Some left → slice_get zones (i + 1) ≡ Some right
    → joined_at i zones ≡ Some (take i zones ++ joined left right ∷ drop (i + 2) zones)
joined_is i zones left right first second =
    ap (λ o. option_and_then (λ (l : ZoneData). option_and_then (λ (r : ZoneData). Some (take i zones ++ joined l r ∷ drop (i + 2) zones)) (slice_get zones (i + 1))) o) first
    ∙ ap (λ o. option_and_then (λ (r : ZoneData). Some (take i zones ++ joined left r ∷ drop (i + 2) zones)) o) second

all_take : {X : Type 0} (P : X → Type 0) (k : ℕ) (xs : List X) → AllByRecursion P xs → AllByRecursion P (take k xs)
all_take P zero xs all = tt
all_take P (suc k) [] all = tt
all_take P (suc k) (x ∷ xs) (is, all) = (is, all_take P k xs all)

all_drop : {X : Type 0} (P : X → Type 0) (k : ℕ) (xs : List X) → AllByRecursion P xs → AllByRecursion P (drop k xs)
all_drop P zero xs all = all
all_drop P (suc k) [] all = tt
all_drop P (suc k) (x ∷ xs) (is, all) = all_drop P k xs all

drop-map : {X Y : Type 0} (f : X → Y) (n : ℕ) (xs : List X) → drop n (map f xs) ≡ map f (drop n xs)
drop-map f zero xs = refl
drop-map f (suc n) [] = refl
drop-map f (suc n) (x ∷ xs) = drop-map f n xs

-- the same of what they are told by
pub zones_joined : (n : ℕ) (ts : List Saying) (ss : List EntryRange) (i : ℕ) (s : EntryRange) → zones_of n ts (take i ss ++ s ∷ drop (i + 2) ss) ≡ take i (zones_of n ts ss) ++ zone_of n ts s ∷ drop (i + 2) (zones_of n ts ss)
zones_joined n ts ss i s =
    map-append (zone_of n ts) (take i ss) (s ∷ drop (i + 2) ss)
    ∙ ap (λ l. l ++ zone_of n ts s ∷ map (zone_of n ts) (drop (i + 2) ss)) (sym (take-map (zone_of n ts) i ss))
    ∙ ap (λ l. take i (zones_of n ts ss) ++ zone_of n ts s ∷ l) (sym (drop-map (zone_of n ts) (i + 2) ss))

-- ---- what sets tell makes the sets

at_seam : (f : List Entries) (e : Entries) (r : List Entries) → slice_get (f ++ e ∷ r) (length f) ≡ Some e
at_seam [] e r = refl
at_seam (x ∷ f) e r = at_seam f e r

set_at_seam : (f : List Entries) (e d : Entries) (r : List Entries) → slice_set (f ++ e ∷ r) (length f) d ≡ f ++ d ∷ r
set_at_seam [] e d r = refl
set_at_seam (x ∷ f) e d r = ap (λ l. x ∷ l) (set_at_seam f e d r)

pub one_set_told : (f r : List Entries) (es before : Entries) → sets_with (f ++ before ∷ r) (said_in (length f) es) ≡ f ++ with_entries es before ∷ r
one_set_told f r [] before = refl
one_set_told f r (e ∷ es) before =
    ap (λ l. sets_with l (said_in (length f) es)) (ap (set_at (length f) e.0 e.1 (f ++ before ∷ r)) (at_seam f before r) ∙ set_at_seam f before (with_entry e.0 e.1 before) r)
    ∙ one_set_told f r es (with_entry e.0 e.1 before)

-- one more set is told
pub next_set_told : (n : ℕ) (ts new : List Saying) (f : List Entries) (es : Entries) → AreDistinct es → length f < n → new ≡ ts ++ said_in (length f) es → sets_of n ts ≡ f ++ empty_sets (n - length f)
    → sets_of n new ≡ (f ++ es ∷ []) ++ empty_sets (n - length (f ++ es ∷ []))
next_set_told n ts new f es distinct less pushed before =
    let k = length f in
    let r = empty_sets (n - (k + 1)) in
    let more : n - k ≡ suc (n - (k + 1)) = omega (arith, less) in
    ap (sets_of n) pushed ∙ sets_with-append (empty_sets n) ts (said_in k es)
    ∙ ap (λ l. sets_with l (said_in k es)) (before ∙ ap (λ m. f ++ empty_sets m) more)
    ∙ one_set_told f r es []
    ∙ ap (λ e. f ++ e ∷ r) (with_entries-distinct es distinct)
    ∙ sym (append_assoc f (es ∷ []) r)
    ∙ ap (λ m. (f ++ es ∷ []) ++ empty_sets (n - m)) (sym (length_push f es))

-- ---- columns and their sets

fits_long : (scope : List Named) (sets : List Entries) → fits_zone scope sets ≡ true → length scope ≡ length sets
fits_long [] [] h = refl
fits_long [] (s ∷ ss) h = absurd cc
fits_long (c ∷ cs) [] h = absurd cc
fits_long (c ∷ cs) (s ∷ ss) h = ap suc (fits_long cs ss (both_true _ _ h).1)

-- the set of the column at a place fits its type
pub set_fits : (columns : List (String Global × DType)) (sets : List Entries) (i k : ℕ) (c : String Global × DType) (es : Entries) → fits_zone (named_columns columns) sets ≡ true → i ≡ k → k < length sets → c ≡ get_or columns i c → es ≡ get_or sets k es
    → entries_fit es (get_or columns i c).1 ≡ true
set_fits columns sets i k c es fits same within is own =
    let long : length columns ≡ length sets = sym (length-map columns named) ∙ fits_long (named_columns columns) sets fits in
    let there : slice_get (named_columns columns) k ≡ Some (named c) =
    slice_get-map named columns k ∙ ap (option_map named) (slice_get-get_or columns k c (omega (arith, long, within)) ∙ ap Some (ap (λ m. get_or columns m c) (sym same) ∙ sym is)) in
    ap (λ (x : String Global × DType). entries_fit es x.1) (sym is) ∙ zone_set_fits (named_columns columns) sets k (named c) es fits there (slice_get-get_or sets k es within ∙ ap Some (sym own))

-- both lists have a set for each of the columns
pub as_long : (columns : List (String Global × DType)) (left right : List Entries) → fits_zone (named_columns columns) left ≡ true → fits_zone (named_columns columns) right ≡ true → length left ≡ length right
as_long columns left right h g = sym (fits_long (named_columns columns) left h) ∙ fits_long (named_columns columns) right g

-- one more set is merged
pub one_more_merged : (xs ys : List Entries) (yielded : List Entries) (a b set : Entries) (place : ℕ) (old new all : List Entries) → place ≡ length yielded → length yielded < length xs → length xs ≡ length ys → a ≡ get_or xs (length yielded) a → b ≡ get_or ys place b
    → set ≡ merged_ordered a b → new ≡ old ++ set ∷ [] → old ++ merged_sets (drop (length yielded) xs) (drop (length yielded) ys) ≡ all
    → new ++ merged_sets (drop (length (yielded ++ a ∷ [])) xs) (drop (length (yielded ++ a ∷ [])) ys) ≡ all
one_more_merged xs ys yielded a b set place old new all at within long first second merged pushed before =
    let i = length yielded in
    let there : b ≡ get_or ys i b = second ∙ ap (λ k. get_or ys k b) at in
    ap (λ k. new ++ merged_sets (drop k xs) (drop k ys)) (length_push yielded a)
    ∙ sets_pushed xs ys i set old new all within (omega (arith, within, long))
    (λ x y f g. merged ∙ ap₂ merged_ordered (first ∙ get_or_from_slice_get xs i x a f) (there ∙ get_or_from_slice_get ys i y b g))
    pushed before

-- ---- the log with two zones joined

module _ (n : ℕ) (ts more : List Saying) (s : EntryRange) (next : IsNext ts more s) (ss : List EntryRange) (within : AllByRecursion (IsWithin (length ts)) ss) (i : ℕ) where
  pub joined_within : AllByRecursion (IsWithin (length (ts ++ more))) (take i ss ++ s ∷ drop (i + 2) ss)
  joined_within =
      let P = IsWithin (length (ts ++ more)) in
      let others = others_within ts more s next ss within in
      all_append P (take i ss) (s ∷ drop (i + 2) ss) (all_take P i ss others) (next_is_within ts more s next, all_drop P (i + 2) ss others)

  pub joined_zones : (left right : ZoneData) (sets : List Entries) → slice_get (zones_of n ts ss) i ≡ Some left → slice_get (zones_of n ts ss) (i + 1) ≡ Some right → s.rows ≡ left.rows + right.rows
      → sets ≡ merged_sets left.stats right.stats → sets_of (length sets) more ≡ sets → joined_at i (zones_of n ts ss) ≡ Some (zones_of n (ts ++ more) (take i ss ++ s ∷ drop (i + 2) ss))
  joined_zones left right sets first second rows merged told =
      let zones = zones_of n ts ss in
      let l = zone_long n ts ss i left first in
      let r = zone_long n ts ss (i + 1) right second in
      let long : length sets ≡ n = ap length merged ∙ length-merged left.stats right.stats (l ∙ sym r) ∙ l in
      let whole : zone_of n (ts ++ more) s ≡ joined left right =
      next_zone ts more s next n
      ∙ ap₂ (λ (k : ℕ) (es : List Entries). let made : ZoneData = record { rows = k; stats = es } in made) rows (ap (λ k. sets_of k more) (sym long) ∙ told ∙ merged) in
      joined_is i zones left right first second
      ∙ ap Some (sym (zones_joined n (ts ++ more) ss i s ∙ ap₂ (λ (zs : List ZoneData) (z : ZoneData). take i zs ++ z ∷ drop (i + 2) zs) (zones_grow n ts more ss within) whole))

-- ---- zones from a place on

pub one_more_zone : (zones : List ZoneData) (from k : ℕ) (z : ZoneData) → slice_get zones (from + k) ≡ Some z → take (k + 1) (drop from zones) ≡ take k (drop from zones) ++ z ∷ []
one_more_zone zones from k z at =
    let within = slice_get_within zones (from + k) z at in
    let long = length-drop from zones in
    take_more (drop from zones) k z (omega (arith, long, within)) ∙ ap (λ x. take k (drop from zones) ++ x ∷ []) (get_or-drop from zones k z ∙ get_or_from_slice_get zones (from + k) z z at)

-- what a stretch of what is told says is a stretch of what it says
pub stretch_said : (var_len_values : List ScalarValue) (ts : List StatEntry) (s : EntryRange) → said var_len_values (take (s.to - s.from) (drop s.from ts)) ≡ stretch_of (said var_len_values ts) s
stretch_said var_len_values ts s = sym (take-map (saying var_len_values) (s.to - s.from) (drop s.from ts)) ∙ ap (take (s.to - s.from)) (sym (drop-map (saying var_len_values) s.from ts))
