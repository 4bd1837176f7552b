-- Stretches in blocks: what a change of one block makes of all, and of the numbers that are told of the others.
use Rattle.std.proofs.Common.{◌≡◌, ◌≢◌, ◌≤◌, ◌<◌, ◌+◌, ◌-◌, ◌++◌, ◌∷◌, ◌∙◌, ℕ, zero, suc, List, [], Some, add-one, ap, ap₂, arith, drop, get_or, inl, inr, length, refl, sym, take}
use Rattle.std.proofs.Math.ListN.{set}
use Rattle.std.proofs.Math.Seq.{drop-append-add, get_or-append_seam, take-append-add}
use Rattle.std.proofs.lemmas.List.{append-nil, append_assoc, drop-append-le, drop_all, get_or-append-add, get_or-set_other, get_or-set_same, get_or_append_left, length-append, length-set, set-append_left, set-append_right, take-append-le}
use Rattle.std.proofs.lemmas.Option.{slice_get-get_or}
use Rattle.std.specs.Prelude.{slice_get}
use Rattle.vortex_zone_map.proofs.TableLemmas.{lt_or_le}
use Rattle.vortex_zone_map.specs.Blocks.{AreCounted, IsBlockOf, all_in, before}
use Rattle.vortex_zone_map.specs.declared.blocks.Block.{Block}
use Rattle.vortex_zone_map.specs.declared.entry_range.EntryRange.{EntryRange}

abbrev own : List Block → ℕ → Block → List EntryRange
own bs k d = (get_or bs k d).stretches.items

-- ---- how many stand before a block

before_suc : (bs : List Block) (k : ℕ) (d : Block) → k < length bs → before bs (suc k) ≡ before bs k + length (own bs k d)
before_suc [] k d lt = absurd (omega arith)
before_suc (b ∷ bs) zero d lt = omega arith
before_suc (b ∷ bs) (suc k) d lt = let next = before_suc bs k d (omega (arith, lt)) in omega (arith, next)

pub before_next : (bs : List Block) (k : ℕ) (d : Block) → k < length bs → before bs (k + 1) ≡ before bs k + length (own bs k d)
before_next bs k d lt = ap (before bs) (add-one k) ∙ before_suc bs k d lt

pub before_all : (bs : List Block) → before bs (length bs) ≡ length (all_in bs)
before_all [] = refl
before_all (b ∷ bs) = ap (λ n. length b.stretches.items + n) (before_all bs) ∙ sym (length-append b.stretches.items (all_in bs))

pub before_within : (bs : List Block) (k : ℕ) → before bs k ≤ length (all_in bs)
before_within bs zero = omega arith
before_within [] (suc k) = omega arith
before_within (b ∷ bs) (suc k) = let rest = before_within bs k in let all = length-append b.stretches.items (all_in bs) in omega (arith, rest, all)

pub some_block : (bs : List Block) → 0 < length (all_in bs) → 0 < length bs
some_block [] less = absurd (omega (arith, less))
some_block (b ∷ bs) less = omega arith

length_before : (bs : List Block) (k : ℕ) → k ≤ length bs → length (all_in (take k bs)) ≡ before bs k
length_before bs zero le = refl
length_before [] (suc k) le = refl
length_before (b ∷ bs) (suc k) le = length-append b.stretches.items (all_in (take k bs)) ∙ ap (λ n. length b.stretches.items + n) (length_before bs k (omega (arith, le)))

-- where in its block a stretch stands
pub inside : (bs : List Block) (place k n : ℕ) (d b : Block) → IsBlockOf bs place k → b ≡ get_or bs k d → n ≡ before bs k → place - n < length b.stretches.items
inside bs place k n d b at is told =
    let next = before_next bs k d at.there in
    let from = at.from in
    let to = at.to in
    let same : length b.stretches.items ≡ length (own bs k d) = ap (λ (x : Block). length x.stretches.items) is in
    omega (arith, next, from, to, same, told)

-- ---- a block between others

split : (bs : List Block) (k : ℕ) (d : Block) → k < length bs → all_in bs ≡ all_in (take k bs) ++ (own bs k d ++ all_in (drop (suc k) bs))
split [] k d lt = absurd (omega arith)
split (b ∷ bs) zero d lt = refl
split (b ∷ bs) (suc k) d lt = ap (λ l. b.stretches.items ++ l) (split bs k d (omega (arith, lt))) ∙ sym (append_assoc b.stretches.items (all_in (take k bs)) (own bs k d ++ all_in (drop (suc k) bs)))

with : (bs : List Block) (k : ℕ) (b : Block) → k < length bs → all_in (set bs k b) ≡ all_in (take k bs) ++ (b.stretches.items ++ all_in (drop (suc k) bs))
with [] k b lt = absurd (omega arith)
with (x ∷ bs) zero b lt = refl
with (x ∷ bs) (suc k) b lt = ap (λ l. x.stretches.items ++ l) (with bs k b (omega (arith, lt))) ∙ sym (append_assoc x.stretches.items (all_in (take k bs)) (b.stretches.items ++ all_in (drop (suc k) bs)))

-- ---- a stretch of a block

module _ (bs : List Block) (k : ℕ) (d : Block) (lt : k < length bs) where
  abbrev front : List EntryRange
  front = all_in (take k bs)

  abbrev back : List EntryRange
  back = all_in (drop (suc k) bs)

  front_long : length front ≡ before bs k
  front_long = length_before bs k (omega (arith, lt))

  pub get_in : (i : ℕ) (e : EntryRange) → i < length (own bs k d) → slice_get (all_in bs) (before bs k + i) ≡ Some (get_or (own bs k d) i e)
  get_in i e less =
      let more = before_suc bs k d lt in
      let all = before_within bs (suc k) in
      slice_get-get_or (all_in bs) (before bs k + i) e (omega (arith, more, all, less))
      ∙ ap Some (ap₂ (λ l n. get_or l (n + i) e) (split bs k d lt) (sym front_long) ∙ get_or-append-add front (own bs k d ++ back) i e ∙ get_or_append_left (own bs k d) back e i less)

  pub set_in : (i : ℕ) (s : EntryRange) (b : Block) → i < length (own bs k d) → b.stretches.items ≡ set (own bs k d) i s → all_in (set bs k b) ≡ set (all_in bs) (before bs k + i) s
  set_in i s b less is =
      with bs k b lt
      ∙ ap (λ l. front ++ (l ++ back)) is
      ∙ ap (λ l. front ++ l) (sym (set-append_left (own bs k d) back i s less))
      ∙ ap (λ n. front ++ set (own bs k d ++ back) n s) (let e : i ≡ (before bs k + i) - before bs k = omega arith in e)
      ∙ sym (set-append_right front (own bs k d ++ back) (before bs k) (before bs k + i) s front_long (omega arith))
      ∙ ap (λ l. set l (before bs k + i) s) (sym (split bs k d lt))

  pub remove_in : (i : ℕ) (b : Block) → i < length (own bs k d) → b.stretches.items ≡ take i (own bs k d) ++ drop (i + 1) (own bs k d)
      → all_in (set bs k b) ≡ take (before bs k + i) (all_in bs) ++ drop (before bs k + i + 1) (all_in bs)
  remove_in i b less is =
      let xs = own bs k d in
      let first : take (before bs k + i) (all_in bs) ≡ front ++ take i xs =
      ap₂ (λ l n. take (n + i) l) (split bs k d lt) (sym front_long) ∙ take-append-add front (xs ++ back) i ∙ ap (λ l. front ++ l) (take-append-le i xs back (omega (arith, less))) in
      let place : before bs k + i + 1 ≡ length front + (i + 1) = let long = front_long in omega (arith, long) in
      let second : drop (before bs k + i + 1) (all_in bs) ≡ drop (i + 1) xs ++ back =
      ap₂ (λ l n. drop n l) (split bs k d lt) place ∙ drop-append-add front (xs ++ back) (i + 1) ∙ drop-append-le (i + 1) xs back (omega (arith, less)) in
      with bs k b lt
      ∙ ap (λ l. front ++ (l ++ back)) is
      ∙ ap (λ l. front ++ l) (append_assoc (take i xs) (drop (i + 1) xs) back)
      ∙ sym (append_assoc front (take i xs) (drop (i + 1) xs ++ back))
      ∙ ap₂ (λ a b. a ++ b) (sym first) (sym second)

  -- behind the last stretch of the last block
  pub push_in : (s : EntryRange) (b : Block) → length bs ≡ k + 1 → b.stretches.items ≡ own bs k d ++ s ∷ [] → all_in (set bs k b) ≡ all_in bs ++ s ∷ []
  push_in s b last is =
      let none : back ≡ [] = ap all_in (drop_all (suc k) bs (omega (arith, last))) in
      with bs k b lt
      ∙ ap₂ (λ l r. front ++ (l ++ r)) is none
      ∙ ap (λ l. front ++ l) (append-nil (own bs k d ++ s ∷ []))
      ∙ sym (append_assoc front (own bs k d) (s ∷ []))
      ∙ ap (λ l. front ++ l ++ s ∷ []) (sym (append-nil (own bs k d)))
      ∙ ap (λ r. front ++ (own bs k d ++ r) ++ s ∷ []) (sym none)
      ∙ ap (λ l. l ++ s ∷ []) (sym (split bs k d lt))

-- in a block of its own
pub new_in : (bs : List Block) (b : Block) → all_in (bs ++ b ∷ []) ≡ all_in bs ++ b.stretches.items
new_in [] b = append-nil b.stretches.items
new_in (x ∷ bs) b = ap (λ l. x.stretches.items ++ l) (new_in bs b) ∙ sym (append_assoc x.stretches.items (all_in bs) b.stretches.items)

-- ---- how many stand before a block when one has changed

same_before : (bs : List Block) (k : ℕ) (b : Block) (j : ℕ) → j ≤ k → before (set bs k b) j ≡ before bs j
same_before bs k b zero le = refl
same_before [] k b (suc j) le = refl
same_before (x ∷ bs) zero b (suc j) le = absurd (omega (arith, le))
same_before (x ∷ bs) (suc k) b (suc j) le = ap (λ n. length x.stretches.items + n) (same_before bs k b j (omega (arith, le)))

other_before : (bs : List Block) (k : ℕ) (b d : Block) (j : ℕ) → k < length bs → k < j → before (set bs k b) j + length (own bs k d) ≡ before bs j + length b.stretches.items
other_before [] k b d j lt less = absurd (omega (arith, lt))
other_before bs k b d zero lt less = absurd (omega (arith, less))
other_before (x ∷ bs) zero b d (suc j) lt less = omega arith
other_before (x ∷ bs) (suc k) b d (suc j) lt less = let rest = other_before bs k b d j (omega (arith, lt)) (omega (arith, less)) in omega (arith, rest)

new_before : (bs : List Block) (b : Block) (j : ℕ) → j ≤ length bs → before (bs ++ b ∷ []) j ≡ before bs j
new_before bs b zero le = refl
new_before [] b (suc j) le = absurd (omega (arith, le))
new_before (x ∷ bs) b (suc j) le = ap (λ n. length x.stretches.items + n) (new_before bs b j (omega (arith, le)))

-- ---- a block with as many stretches as before

module _ (bs : List Block) (k : ℕ) (d : Block) (lt : k < length bs) (b : Block) where
  pub same_in : b.stretches.items ≡ own bs k d → all_in (set bs k b) ≡ all_in bs
  same_in is = with bs k b lt ∙ ap (λ l. all_in (take k bs) ++ (l ++ all_in (drop (suc k) bs))) is ∙ sym (split bs k d lt)

  all_long : length (all_in (set bs k b)) + length (own bs k d) ≡ length (all_in bs) + length b.stretches.items
  all_long =
      let here = other_before bs k b d (length bs) lt lt in
      let old = before_all bs in
      let new : before (set bs k b) (length bs) ≡ length (all_in (set bs k b)) = ap (before (set bs k b)) (sym (length-set bs k b)) ∙ before_all (set bs k b) in
      omega (arith, here, old, new)

  before_same : length b.stretches.items ≡ length (own bs k d) → (j : ℕ) → before (set bs k b) j ≡ before bs j
  before_same long j =
      elim (lt_or_le k j) [
        | inl less ↦ let other = other_before bs k b d j lt less in omega (arith, other, long)
        | inr le ↦ same_before bs k b j le
      ]

  pub same_counted : (count : ℕ) (places : List ℕ) (near : ℕ) → AreCounted count bs places near → length b.stretches.items ≡ length (own bs k d) → AreCounted count (set bs k b) places near
  same_counted count places near is long = record {
    whole = let all = all_long in let old = is.whole in omega (arith, all, old, long);
    long = is.long ∙ sym (length-set bs k b);
    within = let n = length-set bs k b in let le = is.within in omega (arith, n, le);
    first = λ j less. is.first j less ∙ sym (before_same long j);
    others = λ j le less. ap (λ n. get_or places j 0 + n) (before_same long j) ∙ is.others j le (let n = length-set bs k b in omega (arith, n, less));
  }

  -- ---- the last one of those of which is told how many stand before them has more or fewer

  pub changed_counted : (count new : ℕ) (places : List ℕ) (near : ℕ) → AreCounted count bs places near → near ≡ k + 1 → new + length (own bs k d) ≡ count + length b.stretches.items → AreCounted new (set bs k b) places near
  changed_counted count new places near is last sum = record {
    whole = let all = all_long in let old = is.whole in omega (arith, all, old, sum);
    long = is.long ∙ sym (length-set bs k b);
    within = let n = length-set bs k b in let le = is.within in omega (arith, n, le);
    first = λ j less. is.first j less ∙ sym (same_before bs k b j (omega (arith, less, last)));
    others = λ j le less.
        let old = is.others j le (let n = length-set bs k b in omega (arith, n, less)) in
        let other = other_before bs k b d j lt (omega (arith, le, last)) in
        omega (arith, old, other, sum);
  }

-- ---- a block more

pub new_counted : (count : ℕ) (bs : List Block) (places : List ℕ) (near : ℕ) (b : Block) → AreCounted count bs places near → near ≡ length bs → length b.stretches.items ≡ 1 → AreCounted (count + 1) (bs ++ b ∷ []) (places ++ count ∷ []) (near + 1)
new_counted count bs places near b is all one = record {
  whole = ap length (new_in bs b) ∙ length-append (all_in bs) b.stretches.items ∙ ap₂ (λ (m n : ℕ). m + n) is.whole one;
  long = length-append places (count ∷ []) ∙ ap (λ n. n + 1) is.long ∙ sym (length-append bs (b ∷ []));
  within = let long = length-append bs (b ∷ []) in omega (arith, long, all);
  first = λ j less.
      elim (lt_or_le j near) [
        | inl below ↦ get_or_append_left places (count ∷ []) 0 j (let long = is.long in omega (arith, long, below, all)) ∙ is.first j below ∙ sym (new_before bs b j (omega (arith, below, all)))
        | inr le ↦
            let here : j ≡ length places = let long = is.long in omega (arith, long, le, less, all) in
            let there : j ≡ length bs = omega (arith, le, less, all) in
            ap (λ n. get_or (places ++ count ∷ []) n 0) here ∙ get_or-append_seam places count [] 0
            ∙ sym (new_before bs b j (omega (arith, there)) ∙ ap (before bs) there ∙ before_all bs ∙ is.whole)
      ];
  others = λ j le less. absurd (let long = length-append bs (b ∷ []) in omega (arith, le, less, all, long));
}

-- ---- of one block less is told how many stand before it

pub down_counted : (count : ℕ) (bs : List Block) (places : List ℕ) (near k n : ℕ) → AreCounted count bs places near → k + 1 ≡ near → n ≡ get_or places k 0 → AreCounted count bs (set places k (count - n)) k
down_counted count bs places near k n is last at =
    let long = is.long in
    let within = is.within in
    record {
      whole = is.whole;
      long = length-set places k (count - n) ∙ is.long;
      within = omega (arith, within, last);
      first = λ j less. get_or-set_other places k j (count - n) 0 (let other : j ≢ k = omega (arith, less) in other) ∙ is.first j (omega (arith, less, last));
      others = λ j le less.
          elim (lt_or_le k j) [
            | inl behind ↦
                ap (λ m. m + before bs j) (get_or-set_other places k j (count - n) 0 (let other : j ≢ k = omega (arith, behind) in other))
                ∙ is.others j (omega (arith, behind, last)) less
            | inr same ↦
                let here : j ≡ k = omega (arith, le, same) in
                let told = is.first k (omega (arith, last)) in
                let all = before_within bs k in
                let whole = is.whole in
                ap (λ i. get_or (set places k (count - n)) i 0 + before bs i) here
                ∙ ap (λ m. m + before bs k) (get_or-set_same places k (count - n) 0 (omega (arith, long, within, last)))
                ∙ omega (arith, at, told, all, whole)
          ];
    }
