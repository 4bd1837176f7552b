-- What is read out of Arrow's buffers is what they say.
use Rattle.std.proofs.Common.{◌≡◌, ◌≢◌, ◌<◌, ◌≤◌, ◌+◌, ◌-◌, ◌*◌, ◌++◌, ◌==◌, ◌||◌, ◌&&◌, ℕ, zero, suc, Bool, true, false, cond, not, List, [], ◌∷◌, None, Some, Result, Ok, Err, ap, arith, drop, get_or, inl, inr, length, map, refl, sym, take, drop-drop, take-take, drop-cons, length-drop, ◌∙◌}
use Rattle.std.specs.Prelude.{nat_le, slice_get, slice_range}
use Rattle.std.specs.List.{range_with_len}
use Rattle.std.proofs.Math.Nat.{eq-or-lt_of_le}
use Rattle.std.proofs.lemmas.Bool.Decides.{nat_tests}
use Rattle.std.proofs.lemmas.List.{drop-take, get_or_append_left, get_or-append_right, length-take-le, length_push}
use Rattle.std.proofs.lemmas.List.FromFn.{get_or-map-range_with_len, length-map-range_with_len, map-range_with_len_more}
use Rattle.std.proofs.lemmas.Nat.{row_fits}
use Rattle.std.proofs.lemmas.Option.{slice_get-get_or}
use Rattle.vortex_base.specs.declared.dtype.DType.{DType}
use Rattle.vortex_base.specs.declared.dtype.DType.TheVariants as dtype
use Rattle.vortex_base.specs.declared.types.Nullability.{Nullability}
use Rattle.vortex_base.specs.declared.types.PType.{PType}
use Rattle.vortex_base.specs.declared.scalar_value.ScalarValue.TheVariants as value
use Rattle.vortex_capi.specs.declared.arrow.ArrowValues.{ArrowValues}
use Rattle.vortex_capi.specs.declared.fault.Refusal.{Refusal}
use Rattle.vortex_capi.specs.declared.status.Status.{Status}
use Rattle.vortex_capi.specs.declared.status.Status.TheVariants.{BadEnds, BadLength}
use Rattle.vortex_capi.specs.declared.values.Values.{Values}
use Rattle.vortex_capi.specs.Arrow as arrow
use Rattle.vortex_capi.specs.Arrow.{bit_of, end_at, offset_at}
use Rattle.vortex_capi.specs.declared.arrow.Unpacked.{Unpacked}
use Rattle.vortex_capi.specs.ArrowArrays.{AreUnpacked, AreWith, IsReadFrom, byte_of, bytes_of, marks_of}
use Rattle.vortex_capi.specs.Encoding.{value_of}
use Rattle.vortex_capi.specs.Given.{begin, fixed, long, or_refused, part_of}
use Rattle.vortex_capi.specs.Refusals.{all_read, followed, one_more as one_more_read}
use Rattle.vortex_capi.specs.Statuses.{at_row, nowhere}
use Rattle.vortex_capi.specs.Types.{number_width, width}
use Rattle.vortex_capi.specs.Values.{are_filled, cell, column_of, is_null, marks_fill, null_byte, read_column, value_at}
use Rattle.vortex_capi.proofs.ReadLemmas.{followed_from}

-- ---- lists

-- a part of a part
pub part_of_part : {X : Type 0} (xs : List X) (a n i j : ℕ) → i ≤ j → j ≤ n → slice_range (slice_range xs a (a + n)) i j ≡ slice_range xs (a + i) (a + j)
part_of_part xs a n i j h k =
    let len : a + n - a ≡ i + (n - i) = omega (arith, h, k) in
    let inner : j - i ≡ a + j - (a + i) = omega (arith, h) in
    let dropped : drop i (take (a + n - a) (drop a xs)) ≡ take (n - i) (drop (a + i) xs) =
    ap (λ m. drop i (take m (drop a xs))) len ∙ drop-take i (n - i) (drop a xs) ∙ ap (take (n - i)) (drop-drop i a xs) in
    ap (take (j - i)) dropped ∙ take-take (j - i) (n - i) (drop (a + i) xs) (omega (arith, k)) ∙ ap (λ m. take m (drop (a + i) xs)) inner

-- one item
pub one_of : {X : Type 0} (xs : List X) (i : ℕ) (d : X) → i < length xs → slice_range xs i (i + 1) ≡ get_or xs i d ∷ []
one_of xs i d h =
    let one : i + 1 - i ≡ suc zero = omega arith in
    rw (drop-cons xs i d h, one) refl

-- the item at a place of a list that is made by places
pub made_at : {X : Type 0} (f : ℕ → X) (from n i : ℕ) → i < n → slice_get (map f (range_with_len from n)) i ≡ Some (f (from + i))
made_at f from n i h =
    let long = length-map-range_with_len f from n in
    slice_get-get_or (map f (range_with_len from n)) i (f 0) (omega (arith, long, h)) ∙ ap Some (get_or-map-range_with_len f from n i (from + i) (f 0) h refl)

-- one more item of such a list
pub one_more : {X : Type 0} (f : ℕ → X) (from n : ℕ) (xs ys : List X) (x : X) → xs ≡ map f (range_with_len from n) → x ≡ f (from + n) → ys ≡ xs ++ x ∷ [] → ys ≡ map f (range_with_len from (n + 1))
one_more f from n xs ys x so_far next more = more ∙ rw (so_far, next) (sym (map-range_with_len_more f from n (from + n) refl))

-- a part of a list that has it
pub there : (xs : List ℕ) (i j : ℕ) → i ≤ j → j ≤ length xs → part_of xs i j ≡ Some (slice_range xs i j)
there xs i j h k =
    let a : nat_le i j ≡ true = grind (arith, nat_tests) in
    let b : nat_le j (length xs) ≡ true = grind (arith, nat_tests) in
    rw (a, b) refl

-- ---- rows that are read

-- reads that agree on each row
pub read_alike : {X : Type 0} (at : Status → ℕ → Refusal) (f g : ℕ → Result X Status) (n : ℕ) → ((i : ℕ) → i < n → f i ≡ g i) → all_read at f n ≡ all_read at g n
read_alike at f g zero same = refl
read_alike at f g (suc n) same = rw (read_alike at f g n (λ i h. same i (omega (arith, h))), same n (omega arith)) refl

record Split {X : Type 0} (before : Result (List X) Refusal) (next : Result X Status) (xs : List X) : Type 0 where
  front : List X
  last : X
  before_is : before ≡ Ok front
  next_is : next ≡ Ok last
  all : xs ≡ front ++ last ∷ []

split : {X : Type 0} (at : Status → ℕ → Refusal) (n : ℕ) (before : Result (List X) Refusal) (next : Result X Status) (xs : List X) → one_more_read at n before next ≡ Ok xs → Split before next xs
split at n (Err r) next xs h = absurd cc
split at n (Ok ys) (Err s) xs h = absurd cc
split at n (Ok ys) (Ok y) xs h = record { front = ys; last = y; before_is = refl; next_is = refl; all = cc }

-- the items that were read stand in order
pub record Stand {X : Type 0} (f : ℕ → Result X Status) (n : ℕ) (xs : List X) : Type 0 where
  pub long : length xs ≡ n
  pub each : (i : ℕ) (d : X) → i < n → f i ≡ Ok (get_or xs i d)

pub they_stand : {X : Type 0} (at : Status → ℕ → Refusal) (f : ℕ → Result X Status) (n : ℕ) (xs : List X) → all_read at f n ≡ Ok xs → Stand f n xs
they_stand at f zero xs h =
    let none : [] ≡ xs = cc in
    record { long = ap length (sym none); each = λ i d less. absurd (omega (arith, less)) }
they_stand {X = X} at f (suc n) xs h =
    let s = split at n (all_read at f n) (f n) xs h in
    let before = they_stand at f n s.front s.before_is in
    let each : (i : ℕ) (d : X) → i < suc n → f i ≡ Ok (get_or (s.front ++ s.last ∷ []) i d) = λ i d less. elim (eq-or-lt_of_le {n = i} {m = n} (omega (arith, less))) [
      | inl same ↦ rw same (s.next_is ∙ ap Ok (sym (get_or-append_right s.front (s.last ∷ []) n n d before.long (omega arith) ∙ ap (λ k. get_or (s.last ∷ []) k d) (let none : n - n ≡ 0 = omega arith in none))))
      | inr below ↦ before.each i d below ∙ ap Ok (sym (get_or_append_left s.front (s.last ∷ []) d i (let long = before.long in omega (arith, long, below))))
    ] in
    record {
      long = ap length s.all ∙ length_push s.front s.last ∙ (let long = before.long in omega (arith, long));
      each = λ i d less. each i d less ∙ ap (λ ys. Ok (get_or ys i d)) (sym s.all);
    }

-- ---- nulls

marked : (b : Bool) → null_byte (Some (cond b 0 1)) ≡ Ok (not b)
marked true = refl
marked false = refl

-- a row is null by its byte where it is null by its bit
pub null_alike : (bits : List ℕ) (from n row : ℕ) → row < n → is_null (marks_of bits from n) row ≡ Ok (arrow.is_null bits (from + row))
null_alike [] from n row h = refl
null_alike (b ∷ bits) from zero row h = absurd (omega (arith, h))
null_alike (b ∷ bits) from (suc n) row h = ap null_byte (made_at (byte_of 0 1 (b ∷ bits)) from (suc n) row h) ∙ marked (bit_of (b ∷ bits) (from + row))

-- the marks are as many as rows, or none
pub marks_long : (bits : List ℕ) (from n : ℕ) → marks_fill n (marks_of bits from n) ≡ true
marks_long [] from n = refl
marks_long (b ∷ bits) from n =
    let long : length (bytes_of 0 1 (b ∷ bits) from n) ≡ n = length-map-range_with_len (byte_of 0 1 (b ∷ bits)) from n in
    rw long (or_same (n == 0) n)
  where
    or_same : (b : Bool) (k : ℕ) → (b || (k == k)) ≡ true
    or_same b k = grind (arith, nat_tests)

-- ---- truths

truth : (n : Nullability) (b : Bool) → value_of (dtype.Bool n) (cond b 1 0 ∷ []) ≡ Ok (value.Bool b)
truth n true = refl
truth n false = refl

module _ (n : Nullability) (bits : List ℕ) (from count : ℕ) where
  abbrev truths : List ℕ
  truths = bytes_of 1 0 bits from count

  pub truths_long : length truths ≡ count
  truths_long = length-map-range_with_len (byte_of 1 0 bits) from count

  -- the truth of a row is that of its bit
  pub truth_alike : (row start : ℕ) (ends : List ℕ) → row < count → value_at (dtype.Bool n) truths start ends row ≡ Ok (value.Bool (bit_of bits (from + row)))
  truth_alike row start ends h =
      let long = truths_long in
      let one : row * 1 ≡ row = omega arith in
      let bytes : fixed truths 1 row ≡ Some (get_or truths row 0 ∷ []) = rw one (there truths row (row + 1) (omega arith) (omega (arith, long, h)) ∙ ap Some (one_of truths row 0 (omega (arith, long, h)))) in
      let byte : get_or truths row 0 ≡ byte_of 1 0 bits (from + row) = get_or-map-range_with_len (byte_of 1 0 bits) from count row (from + row) 0 h refl in
      rw (bytes, byte) (truth n (bit_of bits (from + row)))

-- ---- numbers

module _ (values : List ℕ) (o n w : ℕ) (room : (o + n) * w ≤ length values) where
  abbrev part : List ℕ
  part = slice_range values (o * w) (o * w + n * w)

  pub part_long : length part ≡ n * w
  part_long =
      let rest : length (drop (o * w) values) ≡ length values - o * w = length-drop (o * w) values in
      let taken = length-take-le (o * w + n * w - o * w) (drop (o * w) values) (omega (arith, rest, room)) in
      omega (arith, taken)

  -- the bytes of a row's number are those of its place
  pub number_alike : (row : ℕ) → row < n → fixed part w row ≡ fixed values w (o + row)
  number_alike row h =
      let fits : row * w + w ≤ n * w = row_fits row w n w h (omega arith) in
      let long = part_long in
      let place : (o + row) * w ≡ o * w + row * w = omega arith in
      let end : o * w + (row * w + w) ≡ o * w + row * w + w = omega arith in
      there part (row * w) (row * w + w) (omega arith) (omega (arith, long, fits))
      ∙ ap Some (part_of_part values (o * w) (n * w) (row * w) (row * w + w) (omega arith) fits ∙ ap (slice_range values (o * w + row * w)) end)
      ∙ sym (rw place (there values (o * w + row * w) (o * w + row * w + w) (omega arith) (omega (arith, fits, room))))

-- ---- texts

module _ (a : ArrowValues) (es : List ℕ) (stand : Stand (end_at a) a.rows es) where
  abbrev at : ℕ → ℕ
  at = offset_at a.offset_width a.offsets.now

  ended : (b : Bool) (e x : ℕ) → ◌≡◌ {A = Result ℕ Status} (cond b (Ok e) (Err BadEnds)) (Ok x) → x ≡ e
  ended true e x h = cc
  ended false e x h = absurd cc

  end_there : (row : ℕ) → row < a.rows → get_or es row 0 ≡ at (a.offset + row + 1)
  end_there row h = ended _ (at (a.offset + row + 1)) (get_or es row 0) (stand.each row 0 h)

  begin_there : (row : ℕ) → row < a.rows → begin (at a.offset) es row ≡ at (a.offset + row)
  begin_there zero h = ap at (let same : a.offset ≡ a.offset + zero = omega arith in same)
  begin_there (suc k) h = end_there k (omega (arith, h)) ∙ ap at (let same : a.offset + k + 1 ≡ a.offset + suc k = omega arith in same)

  -- the bytes of a row's text are those between its offsets
  pub text_alike : (row : ℕ) → row < a.rows → long a.values.now (at a.offset) es row ≡ or_refused BadEnds (part_of a.values.now (at (a.offset + row)) (at (a.offset + row + 1)))
  text_alike row h =
      let long_enough = stand.long in
      let end : slice_get es row ≡ Some (at (a.offset + row + 1)) = slice_get-get_or es row 0 (omega (arith, long_enough, h)) ∙ ap Some (end_there row h) in
      rw (begin_there row h, end) refl

-- ---- columns

-- the bytes that are lent as the values of a type
abbrev pub AreBytesOf : DType → ArrowValues → Unpacked → List ℕ → Type 0
AreBytesOf (dtype.Primitive p n) a u bytes = (a.rows ≡ 0 → length bytes ≡ 0) × (a.rows ≢ 0 → bytes ≡ slice_range a.values.now (a.offset * number_width p) (a.offset * number_width p + a.rows * number_width p))
AreBytesOf dtype.Null a u bytes = bytes ≡ u.truths.items
AreBytesOf (dtype.Bool n) a u bytes = bytes ≡ u.truths.items
AreBytesOf t a u bytes = bytes ≡ a.values.now

same_number : (x y : ℕ) → x ≡ y → (x == y) ≡ true
same_number x y h = grind (arith, nat_tests)

both : (x y : Bool) → x ≡ true → y ≡ true → (x && y) ≡ true
both x y h k = rw (h, k) refl

is_filled : (b : Bool) (u : Unit {0}) → ◌≡◌ {A = Result (Unit {0}) Refusal} (cond b (Ok tt) (Err (nowhere BadLength))) (Ok u) → b ≡ true
is_filled true u h = refl
is_filled false u h = absurd cc

has_room : (lt marked : Bool) (r n k : ℕ) → (lt && (r == 0 || (marked && nat_le n k))) ≡ true → r ≢ 0 → n ≤ k
has_room lt marked r n k h some = grind (arith, nat_tests)

module _ (a : ArrowValues) (u : Unpacked) (v : Values) (bytes : List ℕ) (w : AreWith u a bytes v) where
  column_alike : (t : DType) → ((row : ℕ) → row < a.rows → cell t v.values.now v.start v.ends.now v.nulls.now row ≡ arrow.cell t a row) → read_column t v ≡ arrow.read_column t a
  column_alike t same =
      rw (w.rows, w.size)
      (ap (λ r. followed r (column_of t a.size)) (read_alike at_row (cell t v.values.now v.start v.ends.now v.nulls.now) (arrow.cell t a) a.rows same))

  no_ends : (es : List ℕ) → ◌≡◌ {A = Result (List ℕ) Refusal} (Ok []) (Ok es) → es ≡ []
  no_ends es h = cc

  -- what was read out of buffers that reach
  found : (t : DType) → AreUnpacked t a u → (arrow.are_filled t a ≡ true) × (arrow.ends_by (width t) a ≡ Ok u.ends.items)
  found t unpacked =
      let f = followed_from (arrow.filled t a) (λ x. arrow.ends_by (width t) a) u.ends.items unpacked.ends in
      (is_filled (arrow.are_filled t a) f.at f.made, f.then)

  nulls_long : u.nulls.items ≡ marks_of a.validity.now a.offset a.rows → marks_fill v.rows v.nulls.now ≡ true
  nulls_long are = rw (w.rows, w.nulls, are) (marks_long a.validity.now a.offset a.rows)

  nulls_alike : u.nulls.items ≡ marks_of a.validity.now a.offset a.rows → (row : ℕ) → row < a.rows → is_null v.nulls.now row ≡ Ok (arrow.is_null a.validity.now (a.offset + row))
  nulls_alike are row h = rw (w.nulls, are) (null_alike a.validity.now a.offset a.rows row h)

  read_nulls : AreUnpacked dtype.Null a u → bytes ≡ u.truths.items → IsReadFrom dtype.Null a v
  read_nulls unpacked is =
      let ends = no_ends u.ends.items (found dtype.Null unpacked).1 in
      let none : v.values.now ≡ [] = w.values ∙ is ∙ unpacked.truths in
      record {
        filled = rw (none, w.ends, ends, w.nulls, unpacked.nulls) (both _ true (both _ true (same_number 0 (v.rows * 0) (omega arith)) refl) refl);
        column = column_alike dtype.Null (λ row h. refl);
        size = w.size;
      }

  read_truths : (n : Nullability) → AreUnpacked (dtype.Bool n) a u → bytes ≡ u.truths.items → IsReadFrom (dtype.Bool n) a v
  read_truths n unpacked is =
      let t = dtype.Bool n in
      let ends = no_ends u.ends.items (found t unpacked).1 in
      let values : v.values.now ≡ bytes_of 1 0 a.values.now a.offset a.rows = w.values ∙ is ∙ unpacked.truths in
      let long = truths_long n a.values.now a.offset a.rows in
      record {
        filled = both _ _ (rw (values, w.rows, w.ends, ends) (both _ _ (same_number _ (a.rows * 1) (omega (arith, long))) refl)) (nulls_long unpacked.nulls);
        column = column_alike t (λ row h. let null = nulls_alike unpacked.nulls row h in rw (null, values) (rw (truth_alike n a.values.now a.offset a.rows row v.start v.ends.now h) refl));
        size = w.size;
      }

  module _ (p : PType) (n : Nullability) (unpacked : AreUnpacked (dtype.Primitive p n) a u) (is : AreBytesOf (dtype.Primitive p n) a u bytes) where
    abbrev t : DType
    t = dtype.Primitive p n

    abbrev each : ℕ
    each = number_width p

    numbers_filled : length bytes ≡ a.rows * each → are_filled t v ≡ true
    numbers_filled long =
        let ends : v.ends.now ≡ [] = w.ends ∙ no_ends u.ends.items (found t unpacked).1 in
        both _ _ (rw (w.values, w.rows, ends) (both _ true (same_number (length bytes) (a.rows * each) long) refl)) (nulls_long unpacked.nulls)

    by_rows : (k : ℕ) → a.rows ≡ k → IsReadFrom t a v
    by_rows zero none = record {
      filled = numbers_filled (is.0 none ∙ (let nothing : 0 ≡ a.rows * each = rw none (omega arith) in nothing));
      column = column_alike t (λ row h. absurd (omega (arith, h, none)));
      size = w.size;
    }
    by_rows (suc k) some =
        let present : a.rows ≢ 0 = λ none. omega (arith, some, none) in
        let room = has_room _ _ a.rows ((a.offset + a.rows) * each) (length a.values.now) (found t unpacked).0 present in
        let values : v.values.now ≡ part a.values.now a.offset a.rows each room = w.values ∙ is.1 present in
        record {
          filled = numbers_filled (ap length (is.1 present) ∙ part_long a.values.now a.offset a.rows each room);
          column = column_alike t (λ row h.
              let null = nulls_alike unpacked.nulls row h in
              let number : fixed v.values.now each row ≡ fixed a.values.now each (a.offset + row) = ap (λ xs. fixed xs each row) values ∙ number_alike a.values.now a.offset a.rows each room row h in
              rw (null, number) refl);
          size = w.size;
        }

  read_numbers : (p : PType) (n : Nullability) → AreUnpacked (dtype.Primitive p n) a u → AreBytesOf (dtype.Primitive p n) a u bytes → IsReadFrom (dtype.Primitive p n) a v
  read_numbers p n unpacked is = by_rows p n unpacked is a.rows refl

  module _ (ends : arrow.ends_by None a ≡ Ok u.ends.items) (nulls : u.nulls.items ≡ marks_of a.validity.now a.offset a.rows) (is : bytes ≡ a.values.now) where
    stand : Stand (end_at a) a.rows u.ends.items
    stand = they_stand at_row (end_at a) a.rows u.ends.items ends

    abbrev offset : ℕ → ℕ
    offset = offset_at a.offset_width a.offsets.now

    text_bytes : (row : ℕ) → row < a.rows → long v.values.now v.start v.ends.now row ≡ or_refused BadEnds (part_of a.values.now (offset (a.offset + row)) (offset (a.offset + row + 1)))
    text_bytes row h = rw (w.values, is, w.start, w.ends) (text_alike a u.ends.items stand row h)

    texts_filled : ((length v.ends.now == v.rows) && marks_fill v.rows v.nulls.now) ≡ true
    texts_filled = both _ _ (rw (w.ends, w.rows) (same_number (length u.ends.items) a.rows stand.long)) (nulls_long nulls)

  read_texts : (t : DType) → width t ≡ None → AreUnpacked t a u → bytes ≡ a.values.now → IsReadFrom t a v
  read_texts dtype.Null one unpacked is = absurd cc
  read_texts (dtype.Bool n) one unpacked is = absurd cc
  read_texts (dtype.Primitive p n) one unpacked is = absurd cc
  read_texts (dtype.Utf8 n) long unpacked is =
      let t = dtype.Utf8 n in
      let ends = (found t unpacked).1 in
      record {
        filled = texts_filled ends unpacked.nulls is;
        column = column_alike t (λ row h. rw (nulls_alike unpacked.nulls row h, text_bytes ends unpacked.nulls is row h) refl);
        size = w.size;
      }
  read_texts (dtype.Binary n) long unpacked is =
      let t = dtype.Binary n in
      let ends = (found t unpacked).1 in
      record {
        filled = texts_filled ends unpacked.nulls is;
        column = column_alike t (λ row h. rw (nulls_alike unpacked.nulls row h, text_bytes ends unpacked.nulls is row h) refl);
        size = w.size;
      }
  read_texts (dtype.MinMaxState e n) long unpacked is =
      let t = dtype.MinMaxState e n in
      let ends = (found t unpacked).1 in
      record {
        filled = texts_filled ends unpacked.nulls is;
        column = column_alike t (λ row h. rw (nulls_alike unpacked.nulls row h, text_bytes ends unpacked.nulls is row h) refl);
        size = w.size;
      }

  -- the arrays of a column are read as the column in Arrow's layout
  pub read_from : (t : DType) → AreUnpacked t a u → AreBytesOf t a u bytes → IsReadFrom t a v
  read_from dtype.Null unpacked is = read_nulls unpacked is
  read_from (dtype.Bool n) unpacked is = read_truths n unpacked is
  read_from (dtype.Primitive p n) unpacked is = read_numbers p n unpacked is
  read_from (dtype.Utf8 n) unpacked is = read_texts (dtype.Utf8 n) refl unpacked is
  read_from (dtype.Binary n) unpacked is = read_texts (dtype.Binary n) refl unpacked is
  read_from (dtype.MinMaxState e n) unpacked is = read_texts (dtype.MinMaxState e n) refl unpacked is
