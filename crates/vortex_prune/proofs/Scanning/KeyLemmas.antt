-- Keys of gaps, and which gaps a search among them finds that a value is past.
use Rattle.std.proofs.Common.{◌≡◌, ◌≢◌, ◌⊎◌, inl, inr, ℕ, ◌+◌, ◌≤◌, ◌<◌, zero, suc, Bool, true, false, not, ◌||◌, List, [], ◌∷◌, ◌++◌, Option, Some, None, add-one, arith, get_or, length, length-append, map, refl, sym, ap, ◌∙◌, subst, take}
use Rattle.std.proofs.Math.Bool.{beq}
use Rattle.std.proofs.Math.Seq.{take-suc}
use Rattle.std.proofs.lemmas.Bool.{cases_lt}
use Rattle.std.proofs.lemmas.List.{get_or_append_left, get_or_push}
use Rattle.std.specs.List.Sorted.{IsPartitionPoint, IsPartitionedBy}
use Rattle.std.specs.Prelude.{IfSome, MatchOption, is_some, option_map, slice_get}
use Rattle.std.specs.declared.cmp.Ordering.{Ordering}
use Rattle.std.specs.declared.cmp.Ordering.TheVariants.{Less, Equal, Greater}
use Rattle.vortex_base.specs.Data.ArrayData.{value_of}
use Rattle.vortex_base.specs.Data.Columns.{value_at}
use Rattle.vortex_base.specs.Data.PrimitiveArray.{native_at}
use Rattle.vortex_base.specs.Data.Values.{value_cmp}
use Rattle.vortex_base.specs.declared.scalar_value.ScalarValue.{ScalarValue}
use Rattle.vortex_expr.specs.Meanings.Meaning.{holds, is_true}
use Rattle.vortex_expr.specs.declared.scalar_fn.Operator.{Operator}
use Rattle.vortex_expr.specs.declared.scalar_fn.Operator.TheVariants.{Eq, NotEq, Gt, Gte, Lt, Lte, And, Or}
use Rattle.vortex_prune.specs.Scanning.Gaps.{AreOrdered, is_past, passes_by, past_by, side_passes, upper}
use Rattle.vortex_prune.specs.Scanning.Keys.{AreKeys, IsKey, is_past_key, past_operator_by}
use Rattle.vortex_prune.specs.declared.scan.gaps.Gap.{Gap}
use Rattle.vortex_prune.specs.declared.scan.sides.Flag.{Flag}
use Rattle.vortex_prune.specs.declared.scan.sides.Side.{Side}

-- ---- the value of a gap is its key

not_below : (r : Ordering) → not (holds Lt r) ≡ holds Gte r
not_below Less = refl
not_below Equal = refl
not_below Greater = refl

not_at_most : (r : Ordering) → not (holds Lte r) ≡ holds Gt r
not_at_most Less = refl
not_at_most Equal = refl
not_at_most Greater = refl

not_within : (f : Flag) (o : Operator) (r : Ordering) → not (holds (upper o) r) ≡ holds (past_operator_by (Some f) o) r
not_within f Lt r = not_below r
not_within f Lte r = not_at_most r
not_within f Eq r = not_at_most r
not_within f NotEq r = not_at_most r
not_within f Gt r = not_at_most r
not_within f Gte r = not_at_most r
not_within f And r = not_at_most r
not_within f Or r = not_at_most r

past_is : (p : Option Flag) (s : Side) (x : Option ScalarValue) → past_by p s x ≡ is_past_key (past_operator_by p s.operator) (is_some p) (value_of s.value) x
past_is None s None = refl
past_is None s (Some v) = refl
past_is (Some f) s None = refl
past_is (Some f) s (Some v) = not_within f s.operator (value_cmp v (value_of s.value))

pub own_key : (g : Gap) (o : Operator) (null : Bool) (key : ScalarValue) → past_operator_by g.flag g.above.operator ≡ o → is_some g.flag ≡ null → key ≡ value_of g.above.value → IsKey o null key g
own_key g o null key e n is x = past_is g.flag g.above x ∙ (λ i. is_past_key (e i) (n i) (sym is i) x)

pub same_truth : (a b : Bool) → beq a b ≡ true → a ≡ b
same_truth true true h = refl
same_truth true false h = absurd cc
same_truth false true h = absurd cc
same_truth false false h = refl

-- where the value is of the keys' type
pub own_key_if : {X : Type 0} (scalar : X → ScalarValue) (g : Gap) (o : Operator) (null : Bool) (found : Option X) → past_operator_by g.flag g.above.operator ≡ o → is_some g.flag ≡ null
    → MatchOption found ((x : X) → scalar x ≢ value_of g.above.value) (λ x. scalar x ≡ value_of g.above.value) → IfSome found (λ x. IsKey o null (scalar x) g)
own_key_if scalar g o null None e n is = tt
own_key_if scalar g o null (Some x) e n is = own_key g o null (scalar x) e n is

-- a gap that the first value isn't past is passed by the second alone
pub passed_below : (p : Option Flag) (s t : Side) (x y z : Option ScalarValue) → p ≡ None → past_by p s x ≡ false → side_passes t y ≡ passes_by p (side_passes s x) (side_passes t y) (is_true z)
passed_below None s t x y z e h = sym (ap (λ a. a || side_passes t y) h)
passed_below (Some f) s t x y z e h = absurd cc

-- ---- the keys of many

module _ {X : Type 0} (o : Operator) (null : Bool) (scalar : X → ScalarValue) where
  pub no_keys : (keys : List X) (gs : List Gap) → keys ≡ [] → gs ≡ [] → AreKeys o null scalar keys gs
  no_keys keys gs e is = record { long = ap length e ∙ ap length (sym is); each = λ k x d l. absurd (omega (arith, l, ap length is)) }

  one_more_key : (keys : List X) (gs : List Gap) (key : X) (g : Gap) → AreKeys o null scalar keys gs → IsKey o null (scalar key) g → AreKeys o null scalar (keys ++ key ∷ []) (gs ++ g ∷ [])
  one_more_key keys gs key g h is = record {
    long = length-append keys (key ∷ []) ∙ ap (λ n. n + 1) h.long ∙ sym (length-append gs (g ∷ []));
    each = λ k x d l. by k x d l (cases_lt k (length gs));
  }
    where
      by : (k : ℕ) (x : X) (d : Gap) → k < length (gs ++ g ∷ []) → (k < length gs) ⊎ (length gs ≤ k) → IsKey o null (scalar (get_or (keys ++ key ∷ []) k x)) (get_or (gs ++ g ∷ []) k d)
      by k x d l (inl m) =
          subst (λ (y : X). IsKey o null (scalar y) (get_or (gs ++ g ∷ []) k d)) (sym (get_or_append_left keys (key ∷ []) x k (omega (arith, h.long, m))))
          (subst (IsKey o null (scalar (get_or keys k x))) (sym (get_or_append_left gs (g ∷ []) d k m)) (h.each k x d m))
      by k x d l (inr m) =
          let long : length (gs ++ g ∷ []) ≡ length gs + 1 = length-append gs (g ∷ []) in
          let here : length gs ≡ k = omega (arith, l, m, long) in
          subst (λ (y : X). IsKey o null (scalar y) (get_or (gs ++ g ∷ []) k d)) (sym (get_or_push keys key x k (h.long ∙ here)))
          (subst (IsKey o null (scalar key)) (sym (get_or_push gs g d k here)) is)

  -- one more gap has its key
  pub keys_more : (keys more : List X) (gs : List Gap) (key : X) (d : Gap) (k : ℕ) → AreKeys o null scalar keys (take k gs) → k < length gs → IsKey o null (scalar key) (get_or gs k d) → more ≡ keys ++ key ∷ []
      → AreKeys o null scalar more (take (k + 1) gs)
  keys_more keys more gs key d k h l is e =
      let step : take (k + 1) gs ≡ take k gs ++ get_or gs k d ∷ [] = ap (λ n. take n gs) (add-one k) ∙ take-suc gs k d l in
      subst (λ ks. AreKeys o null scalar ks (take (k + 1) gs)) (sym e) (subst (AreKeys o null scalar (keys ++ key ∷ [])) (sym step) (one_more_key keys (take k gs) key (get_or gs k d) h is))

  null_past : (keys : List X) (gs : List Gap) → AreKeys o null scalar keys gs → (k : ℕ) (d : Gap) → k < length gs → is_past (get_or gs k d) None ≡ null
  null_past [] gs h k d l = absurd (omega (arith, h.long, l))
  null_past (key ∷ keys) gs h k d l = h.each k key d l None

  -- null is past all of them or none
  pub all_at_null : (keys : List X) (gs : List Gap) → AreKeys o null scalar keys gs → null ≡ true → IsPartitionPoint (λ (g : Gap). is_past g None ≡ true) (λ (g : Gap). is_past g None ≡ false) gs (length gs)
  all_at_null keys gs h is = (λ k d low high. null_past keys gs h k d high ∙ is, λ k d low high. absurd (omega (arith, low, high)))

  pub none_at_null : (keys : List X) (gs : List Gap) → AreKeys o null scalar keys gs → null ≡ false → IsPartitionPoint (λ (g : Gap). is_past g None ≡ true) (λ (g : Gap). is_past g None ≡ false) gs 0
  none_at_null keys gs h is = (λ k d low high. absurd (omega (arith, high)), λ k d low high. null_past keys gs h k d high ∙ is)

  -- a value that is past a key is past those before it
  pub keys_partitioned : (keys : List X) (gs : List Gap) (v : ScalarValue) → AreKeys o null scalar keys gs → AreOrdered gs → IsPartitionedBy (λ (key : X). holds o (value_cmp v (scalar key))) keys
  keys_partitioned keys [] v h order i j d low high p = absurd (omega (arith, h.long, high))
  keys_partitioned keys (g ∷ gs) v h order i j d low high p =
      let there : j < length (g ∷ gs) = omega (arith, h.long, high) in
      let here : i < length (g ∷ gs) = omega (arith, low, there) in
      sym (h.each i d g here (Some v)) ∙ (order i j g low there).falls (Some v) (h.each j d g there (Some v) ∙ p)

  -- the keys that a value is past are those of the gaps that it is past
  pub gaps_by_keys : (keys : List X) (gs : List Gap) (v : ScalarValue) (d : X) (n : ℕ) → AreKeys o null scalar keys gs → n ≤ length keys
      → IsPartitionPoint (λ (key : X). holds o (value_cmp v (scalar key)) ≡ true) (λ (key : X). holds o (value_cmp v (scalar key)) ≡ false) keys n
      → IsPartitionPoint (λ (g : Gap). is_past g (Some v) ≡ true) (λ (g : Gap). is_past g (Some v) ≡ false) gs n
  gaps_by_keys keys gs v d n h bound point = (
    λ k g low high. h.each k d g (omega (arith, h.long, bound, high)) (Some v) ∙ point.0 k d low high,
    λ k g low high. h.each k d g high (Some v) ∙ point.1 k d low (omega (arith, h.long, high)),
  )

-- ---- natives of a column

there_at : {X : Type 0} (f : X → ScalarValue) (ns : List (Option X)) (i : ℕ) → value_at (slice_get (map (option_map f) ns) i) ≡ option_map f (native_at (slice_get ns i))
there_at f [] i = refl
there_at f (n ∷ ns) zero = refl
there_at f (n ∷ ns) (suc i) = there_at f ns i

pub native_there : {X : Type 0} (f : X → ScalarValue) (ns : List (Option X)) (vs : List (Option ScalarValue)) (i : ℕ) (x : Option X) → vs ≡ map (option_map f) ns → x ≡ native_at (slice_get ns i) → value_at (slice_get vs i) ≡ option_map f x
native_there f ns vs i x e is = ap (λ (l : List (Option ScalarValue)). value_at (slice_get l i)) e ∙ there_at f ns i ∙ ap (option_map f) (sym is)
