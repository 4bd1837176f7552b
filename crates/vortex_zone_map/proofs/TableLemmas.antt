-- What is told of a zone is put under the heads that read it, and changes no other cell.
use Rattle.std.proofs.Common.{◌≡◌, ◌≢◌, ◌==◌, ◌&&◌, ◌<◌, ◌≤◌, ◌+◌, ◌++◌, ◌∙◌, ℕ, zero, suc, Bool, true, false, List, [], ◌∷◌, Option, None, Some, ap, arith, eq-eqb, eqb-true, get_or, inl, inr, length, map, refl, sym, take, ◌⊎◌}
use Rattle.std.proofs.Math.Nat.{eq-or-lt_of_le}
use Rattle.std.proofs.lemmas.List.{length-map, length-set, map-append, map_push, set_at, take_more}
use Rattle.std.proofs.lemmas.Option.{same_Some, slice_get_past, slice_get_within}
use Rattle.std.specs.Prelude.{slice_get, slice_set}
use Rattle.vortex_base.specs.Data.ArrayData.{cell_values}
use Rattle.vortex_base.specs.Data.Exact.{both_true}
use Rattle.vortex_base.specs.declared.array_data.ArrayData.{ArrayData}
use Rattle.vortex_base.specs.declared.scalar_value.ScalarValue.{ScalarValue}
use Rattle.vortex_zone_map.proofs.ReadStats.{stat_value-reads, stat_value-reads_none}
use Rattle.vortex_zone_map.specs.StatValues.{read_stat, told_value}
use Rattle.vortex_zone_map.specs.Zone.{Entries, ZoneData}
use Rattle.vortex_zone_map.specs.ZoneMaps.{StatColumn, set_value, zone_value}
use Rattle.vortex_stats.proofs.Sets.Lookups.{entry_value-with_other, entry_value-with_own}
use Rattle.vortex_stats.specs.Sets.Entries.{entry_value, with_entry}
use Rattle.vortex_stats.specs.Stat.{same_from_stat_eq}
use Rattle.vortex_stats.specs.declared.stat.Stat.{Stat}
use Rattle.vortex_zone_map.proofs.LogLemmas.{sets_with-append}
use Rattle.vortex_zone_map.specs.Kept.{Saying, said, saying, sets_with}
use Rattle.vortex_zone_map.specs.declared.stat_entry.StatEntry.{StatEntry}
use Rattle.vortex_zone_map.specs.Logs.{set_at as stat_set}
use Rattle.vortex_zone_map.specs.Tables.{AreCells, IsNextReader, is_read, reads, under, with_saying}

-- a zone with these sets
abbrev pub zone_with : ℕ → List Entries → ZoneData
zone_with rows sets = record { rows = rows; stats = sets }

-- ---- an element that is set

pub set_there : {X : Type 0} (xs : List X) (i : ℕ) (x y : X) → slice_get xs i ≡ Some x → slice_get (slice_set xs i y) i ≡ Some y
set_there [] i x y h = absurd cc
set_there (z ∷ xs) zero x y h = refl
set_there (z ∷ xs) (suc i) x y h = set_there xs i x y h

pub set_elsewhere : {X : Type 0} (xs : List X) (k i : ℕ) (y : X) → k ≢ i → slice_get (slice_set xs k y) i ≡ slice_get xs i
set_elsewhere [] k i y n = refl
set_elsewhere (z ∷ xs) zero zero y n = absurd (n refl)
set_elsewhere (z ∷ xs) zero (suc i) y n = refl
set_elsewhere (z ∷ xs) (suc k) zero y n = refl
set_elsewhere (z ∷ xs) (suc k) (suc i) y n = set_elsewhere xs k i y (λ e. n (ap suc e))

pub lt_or_le : (k n : ℕ) → (k < n) ⊎ (n ≤ k)
lt_or_le k zero = inr (omega arith)
lt_or_le zero (suc n) = inl (omega arith)
lt_or_le (suc k) (suc n) = elim (lt_or_le k n) [ inl less ↦ inl (omega (arith, less)) | inr le ↦ inr (omega (arith, le)) ]

slice_get_past_not : {X : Type 0} (xs : List X) (i : ℕ) → i < length xs → slice_get xs i ≡ None → ⊥
slice_get_past_not [] i h at = omega (arith, h)
slice_get_past_not (x ∷ xs) zero h at = cc
slice_get_past_not (x ∷ xs) (suc i) h at = slice_get_past_not xs i (omega (arith, h)) at

-- ---- what a head tells of a zone with one more statistic

module _ (h : StatColumn) (t : Saying) (z : ZoneData) where
  abbrev tells : ZoneData → Option ScalarValue
  tells zone = zone_value h.aggregate h.source zone

  left_alone : t.column ≢ h.source → (e : Option Entries) → slice_get (stat_set t.column t.stat t.value z.stats e) h.source ≡ slice_get z.stats h.source
  left_alone n None = refl
  left_alone n (Some e) = set_elsewhere z.stats t.column h.source (with_entry t.stat t.value e) n

  -- of another column
  pub other_column : h.source ≢ t.column → tells (with_saying t z) ≡ tells z
  other_column n = ap (λ o. set_value h.aggregate o z.rows) (left_alone (λ e. n (sym e)) (slice_get z.stats t.column))

  other_stat : (o : Option Stat) → read_stat h.aggregate ≡ o → is_read t.stat o ≡ false → (es : Entries) → set_value h.aggregate (Some (with_entry t.stat t.value es)) z.rows ≡ set_value h.aggregate (Some es) z.rows
  other_stat None r unread es = stat_value-reads_none (with_entry t.stat t.value es) z.rows h.aggregate r ∙ sym (stat_value-reads_none es z.rows h.aggregate r)
  other_stat (Some u) r unread es =
      stat_value-reads (with_entry t.stat t.value es) z.rows h.aggregate u r
      ∙ ap (λ p. told_value h.aggregate p z.rows) (entry_value-with_other t.stat u t.value es unread)
      ∙ sym (stat_value-reads es z.rows h.aggregate u r)

  same_column : h.source ≡ t.column → is_read t.stat (read_stat h.aggregate) ≡ false → (e : Option Entries) → slice_get z.stats t.column ≡ e → tells (with_saying t z) ≡ tells z
  same_column s unread None at = ap (λ o. set_value h.aggregate (slice_get (stat_set t.column t.stat t.value z.stats o) h.source) z.rows) at
  same_column s unread (Some es) at =
      ap (λ o. set_value h.aggregate (slice_get (stat_set t.column t.stat t.value z.stats o) h.source) z.rows) at
      ∙ ap (λ k. set_value h.aggregate (slice_get (slice_set z.stats t.column (with_entry t.stat t.value es)) k) z.rows) s
      ∙ ap (λ o. set_value h.aggregate o z.rows) (set_there z.stats t.column es (with_entry t.stat t.value es) at)
      ∙ other_stat (read_stat h.aggregate) refl unread es
      ∙ ap (λ o. set_value h.aggregate o z.rows) (sym at)
      ∙ ap (λ k. set_value h.aggregate (slice_get z.stats k) z.rows) (sym s)

  by_column : (b : Bool) → (h.source == t.column) ≡ b → (b && is_read t.stat (read_stat h.aggregate)) ≡ false → tells (with_saying t z) ≡ tells z
  by_column true same unread = same_column (eqb-true h.source t.column same) unread (slice_get z.stats t.column) refl
  by_column false other unread = other_column (λ e. let is : (h.source == t.column) ≡ true = eq-eqb h.source t.column e in absurd cc)

  -- a head that doesn't read it
  pub not_read : reads h t.column t.stat ≡ false → tells (with_saying t z) ≡ tells z
  not_read unread = by_column (h.source == t.column) refl unread

  own_stat : (o : Option Stat) → read_stat h.aggregate ≡ o → is_read t.stat o ≡ true → (es : Entries) → set_value h.aggregate (Some (with_entry t.stat t.value es)) z.rows ≡ told_value h.aggregate t.value z.rows
  own_stat None r read es = absurd cc
  own_stat (Some u) r read es =
      let same : t.stat ≡ u = same_from_stat_eq t.stat u read in
      stat_value-reads (with_entry t.stat t.value es) z.rows h.aggregate u r
      ∙ ap (λ s. told_value h.aggregate (entry_value s (with_entry t.stat t.value es)) z.rows) (sym same)
      ∙ ap (λ p. told_value h.aggregate p z.rows) (entry_value-with_own t.stat t.value es)

  by_set : h.source ≡ t.column → is_read t.stat (read_stat h.aggregate) ≡ true → (e : Option Entries) → slice_get z.stats t.column ≡ e → t.column < length z.stats → tells (with_saying t z) ≡ told_value h.aggregate t.value z.rows
  by_set s read None at within = absurd (let none = slice_get_past_not z.stats t.column within at in none)
  by_set s read (Some es) at within =
      ap (λ o. set_value h.aggregate (slice_get (stat_set t.column t.stat t.value z.stats o) h.source) z.rows) at
      ∙ ap (λ k. set_value h.aggregate (slice_get (slice_set z.stats t.column (with_entry t.stat t.value es)) k) z.rows) s
      ∙ ap (λ o. set_value h.aggregate o z.rows) (set_there z.stats t.column es (with_entry t.stat t.value es) at)
      ∙ own_stat (read_stat h.aggregate) refl read es

  -- a head that reads it
  pub is_told : reads h t.column t.stat ≡ true → t.column < length z.stats → tells (with_saying t z) ≡ told_value h.aggregate t.value z.rows
  is_told read within =
      let both = both_true (h.source == t.column) (is_read t.stat (read_stat h.aggregate)) read in
      by_set (eqb-true h.source t.column both.0) both.1 (slice_get z.stats t.column) refl within

-- ---- cells of which those of the first heads tell of other zones

pub record AreMixed (heads : List StatColumn) (n : ℕ) (done left : List ZoneData) (cells : List ArrayData) : Type 0 where
  pub long : length cells ≡ length heads
  pub before : (k : ℕ) (h : StatColumn) (c : ArrayData) → slice_get heads k ≡ Some h → slice_get cells k ≡ Some c → k < n → cell_values c ≡ under h done
  pub behind : (k : ℕ) (h : StatColumn) (c : ArrayData) → slice_get heads k ≡ Some h → slice_get cells k ≡ Some c → n ≤ k → cell_values c ≡ under h left

-- what is told in a zone between others
pub told_between : (h : StatColumn) (before after : List ZoneData) (y z : ZoneData) → zone_value h.aggregate h.source y ≡ zone_value h.aggregate h.source z → under h (before ++ y ∷ after) ≡ under h (before ++ z ∷ after)
told_between h before after y z same =
    let f = zone_value h.aggregate h.source in
    map-append f before (y ∷ after) ∙ ap (λ v. map f before ++ v ∷ map f after) same ∙ sym (map-append f before (z ∷ after))

-- the cell of a zone between others
pub set_between : (h : StatColumn) (before after : List ZoneData) (y z : ZoneData) (i : ℕ) (v : Option ScalarValue) → length before ≡ i → v ≡ zone_value h.aggregate h.source y → slice_set (under h (before ++ z ∷ after)) i v ≡ under h (before ++ y ∷ after)
set_between h before after y z i v at is =
    let f = zone_value h.aggregate h.source in
    ap (λ l. slice_set l i v) (map-append f before (z ∷ after))
    ∙ set_at (map f before) (f z) (map f after) v i (length-map before f ∙ at)
    ∙ ap (λ x. map f before ++ x ∷ map f after) is ∙ sym (map-append f before (y ∷ after))

-- there is no such column
pub nothing_with : (t : Saying) (z : ZoneData) → length z.stats ≤ t.column → with_saying t z ≡ z
nothing_with t z past = ap (λ o. let with : ZoneData = record { rows = z.rows; stats = stat_set t.column t.stat t.value z.stats o } in with) (slice_get_past z.stats t.column past)

module _ (heads : List StatColumn) (t : Saying) (before after : List ZoneData) (z : ZoneData) where
  abbrev new : List ZoneData
  new = before ++ with_saying t z ∷ after

  abbrev old : List ZoneData
  old = before ++ z ∷ after

  pub none_mixed : (cells : List ArrayData) → AreCells heads old cells → AreMixed heads 0 new old cells
  none_mixed cells is = record {
    long = is.long;
    before = λ k h c at got less. absurd (omega (arith, less));
    behind = λ k h c at got le. is.told k h c at got;
  }

  -- the heads before the next reader read nothing of it
  pub mixed_on : (m n : ℕ) (cells : List ArrayData) → IsNextReader heads t.column t.stat m n → AreMixed heads m new old cells → AreMixed heads n new old cells
  mixed_on m n cells reader is = record {
    long = is.long;
    before = λ k h c at got less. elim (lt_or_le k m) [
      | inl first ↦ is.before k h c at got first
      | inr le ↦ is.behind k h c at got le ∙ sym (told_between h before after (with_saying t z) z (not_read h t z (reader.unread k h at le less)))
    ];
    behind = λ k h c at got le. is.behind k h c at got (let more = reader.behind in omega (arith, more, le));
  }

  -- there is no such column
  pub none_reads : (n : ℕ) (cells : List ArrayData) → length z.stats ≤ t.column → AreCells heads old cells → AreMixed heads n new old cells
  none_reads n cells past is = record {
    long = is.long;
    before = λ k h c at got less. is.told k h c at got ∙ sym (told_between h before after (with_saying t z) z (ap (zone_value h.aggregate h.source) (nothing_with t z past)));
    behind = λ k h c at got le. is.told k h c at got;
  }

  pub all_mixed : (n : ℕ) (cells : List ArrayData) → length heads ≤ n → AreMixed heads n new old cells → AreCells heads new cells
  all_mixed n cells past is = record {
    long = is.long;
    told = λ k h c at got. is.before k h c at got (let within = slice_get_within heads k h at in omega (arith, within, past));
  }

  module _ (n : ℕ) (g : StatColumn) (here : slice_get heads n ≡ Some g) (read : reads g t.column t.stat ≡ true) (place : t.column < length z.stats) where
    -- what is put under it
    put_value : (one two : ArrayData) (i : ℕ) → cell_values two ≡ slice_set (cell_values one) i (told_value g.aggregate t.value z.rows) → cell_values one ≡ under g old → length before ≡ i → cell_values two ≡ under g new
    put_value one two i put was at =
        put ∙ ap (λ l. slice_set l i (told_value g.aggregate t.value z.rows)) was
        ∙ set_between g before after (with_saying t z) z i (told_value g.aggregate t.value z.rows) at (sym (is_told g t z read place))

    pub mixed_next : (cells : List ArrayData) (one two : ArrayData) (i : ℕ) → cell_values two ≡ slice_set (cell_values one) i (told_value g.aggregate t.value z.rows) → length before ≡ i → slice_get cells n ≡ Some one → AreMixed heads n new old cells → AreMixed heads (n + 1) new old (slice_set cells n two)
    mixed_next cells one two i put at got is = record {
      long = length-set cells n two ∙ is.long;
      before = λ k h c there found less. elim (eq-or-lt_of_le {n = k} {m = n} (omega (arith, less))) [
        | inl same ↦
            let own : g ≡ h = same_Some g h (sym here ∙ ap (slice_get heads) (sym same) ∙ there) in
            let cell : two ≡ c = same_Some two c (sym (set_there cells n one two got) ∙ ap (slice_get (slice_set cells n two)) (sym same) ∙ found) in
            ap cell_values (sym cell) ∙ put_value one two i put (is.behind n g one here got (omega arith)) at ∙ ap (λ x. under x new) own
        | inr below ↦ is.before k h c there (sym (set_elsewhere cells n k two (λ e. omega (arith, e, below))) ∙ found) below
      ];
      behind = λ k h c there found le. is.behind k h c there (sym (set_elsewhere cells n k two (λ e. omega (arith, e, le))) ∙ found) (omega (arith, le));
    }

-- one more of what is told of a zone
pub next_sets : (var_len_values : List ScalarValue) (ts : List StatEntry) (n : ℕ) (d : StatEntry) (sets : List Entries) (rows : ℕ) → n < length ts
    → with_saying (saying var_len_values (get_or ts n d)) (zone_with rows (sets_with sets (said var_len_values (take n ts)))) ≡ zone_with rows (sets_with sets (said var_len_values (take (n + 1) ts)))
next_sets var_len_values ts n d sets rows within =
    let first = said var_len_values (take n ts) in
    let t = saying var_len_values (get_or ts n d) in
    ap (zone_with rows) (sym (sets_with-append sets first (t ∷ [])) ∙ ap (sets_with sets) (sym (map_push (saying var_len_values) (take n ts) (get_or ts n d)) ∙ ap (said var_len_values) (sym (take_more ts n d within))))
