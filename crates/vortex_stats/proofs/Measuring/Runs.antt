-- Steps of a pass over the values of a column.
use Rattle.std.proofs.Common.{◌≡◌, ℕ, zero, suc, ◌+◌, add-zero, Bool, true, false, cond, not, ◌&&◌, List, [], ◌∷◌, ◌++◌, length, Option, Some, None, refl, sym, ap, subst, ◌∙◌, ⊎_elim, arith}
use Rattle.std.specs.Prelude.{Contains, slice_get, ◌==◌, ⊤}
use Rattle.std.specs.declared.cmp.Ordering.{Ordering}
use Rattle.std.specs.Ordering.{is_lt, is_gt, ordering_then, nat_cmp}
use Rattle.std.specs.Cmp.{tied_itself}
use Rattle.std.proofs.lemmas.Bool.{and_parts, eqb-true}
use Rattle.std.proofs.lemmas.Cmp.{nat_cmp_total}
use Rattle.std.proofs.lemmas.List.Elements.{Contains-push_cases}
use Rattle.std.proofs.lemmas.List.{append-nil}
use mathlib.Core.Bool.{true≢false}
use Rattle.vortex_base.specs.declared.dtype.DType.{DType}
use Rattle.vortex_base.specs.declared.dtype.DType.TheVariants as dtype
use Rattle.vortex_base.specs.declared.scalar_value.ScalarValue.{ScalarValue}
use Rattle.vortex_base.specs.declared.scalar_value.ScalarValue.TheVariants as value
use Rattle.vortex_base.specs.Data.Types.{ptype_index}
use Rattle.vortex_base.specs.Data.Values.{in_range, is_value, kind_index, ptype_of, ptype_place, value_cmp}
use Rattle.vortex_stats.specs.Bounds.Order.{AtMost, greater, lesser, AtMost-refl, AtMost-trans, greater-above, lesser-below}
use Rattle.vortex_stats.specs.Measuring.Codes.{Code, code_of, code_cmp}
use Rattle.vortex_stats.specs.Measuring.Tallies.{IsKeyOf, IsOptionalRunOf, IsRunOf, IsTallyOf}
use Rattle.vortex_stats.specs.declared.measure.tally.Run.{Run}
use Rattle.vortex_stats.specs.declared.measure.tally.Tally.{Tally}
use Rattle.vortex_stats.specs.Merging.Merges.{is_at_most, is_below}
use Rattle.vortex_stats.specs.Sets.Claims.{NoneAbove, NoneBelow, is_sorted, is_strict_sorted, null_count, present}
use Rattle.vortex_stats.proofs.Bounds.Ascending.{ascends, contains_later, sorted_is, strict_is}
use Rattle.vortex_stats.proofs.Bounds.ValueOrder.{value_total}
use Rattle.vortex_stats.proofs.Merging.Constants.{inner}
use Rattle.vortex_stats.proofs.Merging.Sums.{present-append}
use Rattle.vortex_stats.proofs.Merging.Counts.{null_count-append}

-- ---- values of one type compare as their numbers and bytes

-- the kind of a type's values, and the place of its numbers' type
abbrev kind_of : DType → ℕ
kind_of (dtype.Bool n) = 0
kind_of (dtype.Primitive p n) = 1
kind_of (dtype.Utf8 n) = 2
kind_of (dtype.Binary n) = 3
kind_of t = 4

abbrev place_of : DType → ℕ
place_of (dtype.Primitive p n) = ptype_index p
place_of t = 0

kind_from_type : (v : ScalarValue) (t : DType) → is_value v t ≡ true → kind_index v ≡ kind_of t
kind_from_type (value.Bool b) (dtype.Bool n) h = refl
kind_from_type (value.Primitive p) (dtype.Primitive q n) h = refl
kind_from_type (value.Utf8 bs) (dtype.Utf8 n) h = refl
kind_from_type (value.Binary bs) (dtype.Binary n) h = refl
kind_from_type v t h = absurd (true≢false (sym h))

place_from_type : (v : ScalarValue) (t : DType) → is_value v t ≡ true → ptype_place v ≡ place_of t
place_from_type (value.Bool b) (dtype.Bool n) h = refl
place_from_type (value.Primitive p) (dtype.Primitive q n) h = eqb-true (ptype_index (ptype_of p)) (ptype_index q) (and_parts (ptype_index (ptype_of p) == ptype_index q) (in_range p) h).0
place_from_type (value.Utf8 bs) (dtype.Utf8 n) h = refl
place_from_type (value.Binary bs) (dtype.Binary n) h = refl
place_from_type v t h = absurd (true≢false (sym h))

-- what is equal is passed over
past_equal : (a b : ℕ) (o : Ordering) → a ≡ b → ordering_then (nat_cmp a b) o ≡ o
past_equal a b o e = ap (λ c. ordering_then c o) (ap (nat_cmp a) (sym e) ∙ tied_itself nat_cmp_total a)

pub compared_by_code : (t : DType) (v w : ScalarValue) → is_value v t ≡ true → is_value w t ≡ true → value_cmp v w ≡ code_cmp (code_of v) (code_of w)
compared_by_code t v w p q =
    past_equal (kind_index v) (kind_index w) _ (kind_from_type v t p ∙ sym (kind_from_type w t q))
    ∙ past_equal (ptype_place v) (ptype_place w) _ (place_from_type v t p ∙ sym (place_from_type w t q))

-- ---- one more value behind others

and_last : (a b c : Bool) → (a && (b && c)) ≡ ((a && b) && c)
and_last true b c = refl
and_last false b c = refl

and_true : (a : Bool) → (a && true) ≡ a
and_true true = refl
and_true false = refl

-- the last of the values is known, so one more ascends where it passes the test with that
ascends-push : (test : ScalarValue → ScalarValue → Bool) (vs : List ScalarValue) (u v : ScalarValue) → ascends test ((vs ++ u ∷ []) ++ v ∷ []) ≡ (ascends test (vs ++ u ∷ []) && test u v)
ascends-push test [] u v = and_true (test u v)
ascends-push test (w ∷ []) u v = and_last (test w u) (test u v) true ∙ and_true (test w u && test u v) ∙ ap (λ b. b && test u v) (sym (and_true (test w u)))
ascends-push test (w ∷ x ∷ vs) u v = ap (λ b. test w x && b) (ascends-push test (x ∷ vs) u v) ∙ and_last (test w x) (ascends test ((x ∷ vs) ++ u ∷ [])) (test u v)

front_kept : {X : Type 0} (xs ys : List X) (i : ℕ) (x : X) → slice_get xs i ≡ Some x → slice_get (xs ++ ys) i ≡ Some x
front_kept [] ys i x h = absurd (cc)
front_kept (z ∷ xs) ys zero x h = h
front_kept (z ∷ xs) ys (suc i) x h = front_kept xs ys i x h

at_end : {X : Type 0} (xs : List X) (x : X) → slice_get (xs ++ x ∷ []) (length xs) ≡ Some x
at_end [] x = refl
at_end (z ∷ xs) x = at_end xs x

-- a value that stands in the column is among those that are present
pub present-contains : (xs : List (Option ScalarValue)) (v : ScalarValue) → Contains xs (Some v) → Contains (present xs) v
present-contains [] v i = absurd (omega (arith, i.1))
present-contains (None ∷ xs) v (zero, l, e) = absurd (cc)
present-contains (None ∷ xs) v (suc k, l, e) = present-contains xs v (k, omega arith, e)
present-contains (Some w ∷ xs) v (zero, l, e) = (zero, omega arith, inner w v e)
present-contains (Some w ∷ xs) v (suc k, l, e) = contains_later w v (present xs) (present-contains xs v (k, omega arith, e))

alone : (w v : ScalarValue) → Contains (v ∷ []) w → w ≡ v
alone w v (zero, l, e) = sym e
alone w v (suc k, l, e) = absurd (omega arith)

module _ (xs : List (Option ScalarValue)) (v : ScalarValue) where
  pub none_below_both : (least : ScalarValue) → NoneBelow least xs → NoneBelow (lesser value_cmp least v) (xs ++ Some v ∷ [])
  none_below_both least h w i =
      let below = lesser-below value_total least v in
      ⊎_elim
      (λ j. AtMost-trans value_total (lesser value_cmp least v) least w below.0 (h w j))
      (λ e. subst (AtMost value_cmp (lesser value_cmp least v)) (inner v w e) below.1)
      (Contains-push_cases xs (Some v) (Some w) i)

  pub none_above_both : (greatest : ScalarValue) → NoneAbove greatest xs → NoneAbove (greater value_cmp greatest v) (xs ++ Some v ∷ [])
  none_above_both greatest h w i =
      let above = greater-above value_total greatest v in
      ⊎_elim
      (λ j. AtMost-trans value_total w greatest (greater value_cmp greatest v) (h w j) above.0)
      (λ e. subst (λ u. AtMost value_cmp u (greater value_cmp greatest v)) (inner v w e) above.1)
      (Contains-push_cases xs (Some v) (Some w) i)

  pub present-push : present (xs ++ Some v ∷ []) ≡ present xs ++ v ∷ []
  present-push = present-append xs (Some v ∷ [])

  -- both at the end of the longer list, and where it stood
  pub chosen_at : (b : Bool) (i : ℕ) (u : ScalarValue) → slice_get xs i ≡ Some (Some u) → slice_get (xs ++ Some v ∷ []) (cond b (length xs) i) ≡ Some (Some (cond b v u))
  chosen_at true i u h = at_end xs (Some v)
  chosen_at false i u h = front_kept xs (Some v ∷ []) i (Some u) h

null_passed : (xs : List (Option ScalarValue)) → present (xs ++ None ∷ []) ≡ present xs
null_passed xs = present-append xs (None ∷ []) ∙ append-nil (present xs)

-- ---- the run with one more value

module _ {K : Type 0} (code : K → Code) (t : DType) where
  pub keys_compare : (cmp : K → K → Ordering) → ((a b : K) → cmp a b ≡ code_cmp (code a) (code b)) → (k l : K) (v w : ScalarValue) → IsKeyOf code t k v → IsKeyOf code t l w → cmp k l ≡ value_cmp v w
  keys_compare cmp ordered k l v w p q = ordered k l ∙ ap (λ c. code_cmp c (code l)) p.0 ∙ ap (code_cmp (code_of v)) q.0 ∙ sym (compared_by_code t v w p.1 q.1)

  chosen_key : (b : Bool) (k l : K) (v w : ScalarValue) → IsKeyOf code t k v → IsKeyOf code t l w → IsKeyOf code t (cond b k l) (cond b v w)
  chosen_key true k l v w p q = p
  chosen_key false k l v w p q = q

  pub first_run : (xs : List (Option ScalarValue)) (k : K) (v : ScalarValue) (at : ℕ) → length xs ≡ at → present xs ≡ [] → IsKeyOf code t k v
      → IsRunOf code t (record { least = k; least_at = at; greatest = k; greatest_at = at; last = k; is_sorted = true; is_strict_sorted = true }) (xs ++ Some v ∷ [])
  first_run xs k v at l none key =
      let at_last : slice_get (xs ++ Some v ∷ []) at ≡ Some (Some v) = ap (slice_get (xs ++ Some v ∷ [])) (sym l) ∙ at_end xs (Some v) in
      let only : present (xs ++ Some v ∷ []) ≡ v ∷ [] = present-push xs v ∙ ap (λ vs. vs ++ v ∷ []) none in
      let is_v : (w : ScalarValue) → Contains (xs ++ Some v ∷ []) (Some w) → w ≡ v = λ w i. alone w v (subst (λ vs. Contains vs w) only (present-contains (xs ++ Some v ∷ []) w i)) in
      record {
        least = v;
        least_key = key;
        least_at = at_last;
        none_below = λ w i. subst (AtMost value_cmp v) (sym (is_v w i)) (AtMost-refl value_total v);
        greatest = v;
        greatest_key = key;
        greatest_at = at_last;
        none_above = λ w i. subst (λ u. AtMost value_cmp u v) (sym (is_v w i)) (AtMost-refl value_total v);
        front = [];
        last = v;
        last_key = key;
        ends = only;
        sorted = sym (ap is_sorted only);
        strict_sorted = sym (ap is_strict_sorted only);
      }

  pub longer_run : (r : Run K) (xs : List (Option ScalarValue)) (k : K) (v : ScalarValue) (at : ℕ) (q : IsRunOf code t r xs) → length xs ≡ at → IsKeyOf code t k v
      → (is_least is_greatest : Bool) (o : Ordering) → is_least ≡ is_lt (value_cmp v q.least) → is_greatest ≡ is_lt (value_cmp q.greatest v) → o ≡ value_cmp q.last v
      → IsRunOf code t (record {
        least = cond is_least k r.least;
        least_at = cond is_least at r.least_at;
        greatest = cond is_greatest k r.greatest;
        greatest_at = cond is_greatest at r.greatest_at;
        last = k;
        is_sorted = r.is_sorted && not (is_gt o);
        is_strict_sorted = r.is_strict_sorted && is_lt o;
      }) (xs ++ Some v ∷ [])
  longer_run r xs k v at q l key b c o is_b is_c is_o =
      let both : present (xs ++ Some v ∷ []) ≡ (q.front ++ q.last ∷ []) ++ v ∷ [] = present-push xs v ∙ ap (λ vs. vs ++ v ∷ []) q.ends in
      let ascend : (test : ScalarValue → ScalarValue → Bool) → ascends test (present (xs ++ Some v ∷ [])) ≡ (ascends test (present xs) && test q.last v) =
      λ test. ap (ascends test) both ∙ ascends-push test q.front q.last v ∙ ap (λ vs. ascends test vs && test q.last v) (sym q.ends) in
      record {
        least = cond b v q.least;
        least_key = chosen_key b k r.least v q.least key q.least_key;
        least_at = subst (λ n. slice_get (xs ++ Some v ∷ []) (cond b n r.least_at) ≡ Some (Some (cond b v q.least))) l (chosen_at xs v b r.least_at q.least q.least_at);
        none_below = subst (λ d. NoneBelow (cond d v q.least) (xs ++ Some v ∷ [])) (sym is_b) (none_below_both xs v q.least q.none_below);
        greatest = cond c v q.greatest;
        greatest_key = chosen_key c k r.greatest v q.greatest key q.greatest_key;
        greatest_at = subst (λ n. slice_get (xs ++ Some v ∷ []) (cond c n r.greatest_at) ≡ Some (Some (cond c v q.greatest))) l (chosen_at xs v c r.greatest_at q.greatest q.greatest_at);
        none_above = subst (λ d. NoneAbove (cond d v q.greatest) (xs ++ Some v ∷ [])) (sym is_c) (none_above_both xs v q.greatest q.none_above);
        front = q.front ++ q.last ∷ [];
        last = v;
        last_key = key;
        ends = both;
        sorted = ap (λ b. b && not (is_gt o)) (q.sorted ∙ sorted_is (present xs)) ∙ ap (λ d. ascends is_at_most (present xs) && not (is_gt d)) is_o ∙ sym (ascend is_at_most) ∙ sym (sorted_is (present (xs ++ Some v ∷ [])));
        strict_sorted = ap (λ b. b && is_lt o) (q.strict_sorted ∙ strict_is (present xs)) ∙ ap (λ d. ascends is_below (present xs) && is_lt d) is_o ∙ sym (ascend is_below) ∙ sym (strict_is (present (xs ++ Some v ∷ [])));
      }

  -- ---- one more optional value

  kept_run : (r : Run K) (xs : List (Option ScalarValue)) → IsRunOf code t r xs → IsRunOf code t r (xs ++ None ∷ [])
  kept_run r xs q =
      let same = null_passed xs in
      let earlier : (w : ScalarValue) → Contains (xs ++ None ∷ []) (Some w) → Contains xs (Some w) = λ w i. ⊎_elim (λ j. j) (λ e. absurd (cc)) (Contains-push_cases xs None (Some w) i) in
      record {
        least = q.least;
        least_key = q.least_key;
        least_at = front_kept xs (None ∷ []) r.least_at (Some q.least) q.least_at;
        none_below = λ w i. q.none_below w (earlier w i);
        greatest = q.greatest;
        greatest_key = q.greatest_key;
        greatest_at = front_kept xs (None ∷ []) r.greatest_at (Some q.greatest) q.greatest_at;
        none_above = λ w i. q.none_above w (earlier w i);
        front = q.front;
        last = q.last;
        last_key = q.last_key;
        ends = same ∙ q.ends;
        sorted = q.sorted ∙ ap is_sorted (sym same);
        strict_sorted = q.strict_sorted ∙ ap is_strict_sorted (sym same);
      }

  kept_optional : (r : Option (Run K)) (xs : List (Option ScalarValue)) → IsOptionalRunOf code t r xs → IsOptionalRunOf code t r (xs ++ None ∷ [])
  kept_optional None xs q = null_passed xs ∙ q
  kept_optional (Some r) xs q = kept_run r xs q

  pub null_counted : (tally : Tally K) (xs : List (Option ScalarValue)) → IsTallyOf code t tally xs → IsTallyOf code t (record { nulls = tally.nulls + 1; run = tally.run }) (xs ++ None ∷ [])
  null_counted tally xs q = record { nulls = ap (λ n. n + 1) q.nulls ∙ sym (null_count-append xs (None ∷ [])); run = kept_optional tally.run xs q.run }

  pub value_counted : (tally : Tally K) (r : Run K) (xs : List (Option ScalarValue)) (v : ScalarValue) → IsTallyOf code t tally xs → IsRunOf code t r (xs ++ Some v ∷ [])
      → IsTallyOf code t (record { nulls = tally.nulls; run = Some r }) (xs ++ Some v ∷ [])
  value_counted tally r xs v q run = record { nulls = q.nulls ∙ sym (null_count-append xs (Some v ∷ []) ∙ add-zero (null_count xs)); run = run }
