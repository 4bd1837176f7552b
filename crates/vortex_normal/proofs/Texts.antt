-- What patterns without wildcards, and those whose only wildcard is a run that is last, say of a text by its bytes.
use Rattle.std.proofs.Common.{◌≡◌, ⊎_elim, ℕ, ◌+◌, ◌<◌, Bool, true, false, not as not_b, ◌&&◌, ◌||◌, List, [], ◌∷◌, ◌++◌, Option, Some, None, refl, sym, ap, ap₂, ◌∙◌, subst, arith, length, length-append, append-nil, Ordering, Less, Equal, if◌then◌else◌}
use Rattle.std.specs.Prelude.{◌==◌, encode_utf8_all}
use Rattle.std.specs.Char.{encode_utf8}
use Rattle.std.specs.Ordering.{is_eq, is_lt, ordering_reverse}
use Rattle.std.specs.Str.{chars, is_utf8}
use Rattle.std.specs.Cmp.{tied_itself}
use Rattle.std.proofs.lemmas.Bool.{and_parts, cases_lt, eq-eqb, eqb-true}
use Rattle.std.proofs.lemmas.Option.{none-some, same_Some}
use Rattle.std.proofs.lemmas.Str.{encodes-append, encodes-chars, encodes_same, length-encode, len_utf8_bounds, IsUtf8-from_is_utf8}
use Rattle.vortex_base.proofs.Data.OrderLemmas.{value_cmp-ties, value_cmp-total}
use Rattle.vortex_base.proofs.Data.TextOrder.{bytes_cmp, encode_less, same_front}
use Rattle.vortex_expr.proofs.Patterns.Successors.{below_successor}
use Rattle.vortex_base.specs.Data.Exact.{both_hold}
use Rattle.vortex_base.specs.Data.Values.{value_cmp}
use Rattle.vortex_expr.specs.Meanings.Meaning.{holds}
use Rattle.vortex_expr.specs.Patterns.Like.{like, some_end}
use Rattle.vortex_expr.specs.Patterns.Prefix.{has_next, is_exact, literal_prefix, next_after, successor}
use Rattle.vortex_expr.specs.declared.like.Item.{Item}
use Rattle.vortex_expr.specs.declared.like.Item.TheVariants.{Char, AnyChar, AnyRun}
use Rattle.vortex_base.specs.declared.scalar_value.ScalarValue.TheVariants as value
use Rattle.vortex_expr.specs.declared.scalar_fn.Operator.TheVariants.{Eq, Gte, Lt}
use Rattle.vortex_normal.specs.Pushed.{are_runs, is_beginning, is_last_raised}

same_truth : (a b : Bool) → (a ≡ true → b ≡ true) → (b ≡ true → a ≡ true) → a ≡ b
same_truth true b f g = sym (f refl)
same_truth false true f g = g refl
same_truth false false f g = refl

-- ---- what items match

exact_is : (is : List Item) (cs : List ℕ) → is_exact is ≡ true → like is cs ≡ true → cs ≡ literal_prefix is
exact_is [] [] e h = refl
exact_is [] (c ∷ cs) e h = cc
exact_is (Char d ∷ is) [] e h = cc
exact_is (Char d ∷ is) (c ∷ cs) e h =
    let k = and_parts (d == c) (like is cs) h in
    ap₂ ◌∷◌ (sym (eqb-true d c k.0)) (exact_is is cs e k.1)
exact_is (AnyChar ∷ is) cs e h = cc
exact_is (AnyRun ∷ is) cs e h = cc

exact_like : (is : List Item) → is_exact is ≡ true → like is (literal_prefix is) ≡ true
exact_like [] e = refl
exact_like (Char d ∷ is) e = both_hold _ _ (eq-eqb d d refl) (exact_like is e)
exact_like (AnyChar ∷ is) e = cc
exact_like (AnyRun ∷ is) e = cc

prefix_is : (is : List Item) (cs : List ℕ) → like is cs ≡ true → (rest : List ℕ) × (cs ≡ literal_prefix is ++ rest)
prefix_is [] cs h = (cs, refl)
prefix_is (Char d ∷ is) [] h = cc
prefix_is (Char d ∷ is) (c ∷ cs) h =
    let k = and_parts (d == c) (like is cs) h in
    let p = prefix_is is cs k.1 in
    (p.0, ap₂ ◌∷◌ (sym (eqb-true d c k.0)) p.1)
prefix_is (AnyChar ∷ is) cs h = (cs, refl)
prefix_is (AnyRun ∷ is) cs h = (cs, refl)

any_run : (cs : List ℕ) → some_end (like []) cs ≡ true
any_run [] = refl
any_run (c ∷ cs) = any_run cs

first_end : (test : List ℕ → Bool) (cs : List ℕ) → test cs ≡ true → some_end test cs ≡ true
first_end test [] h = h
first_end test (c ∷ cs) h = ap (λ b. b || some_end test cs) h

runs_behind : (is : List Item) (cs : List ℕ) → are_runs is ≡ true → some_end (like is) cs ≡ true
runs_behind [] cs h = any_run cs
runs_behind (Char c ∷ is) cs h = cc
runs_behind (AnyChar ∷ is) cs h = cc
runs_behind (AnyRun ∷ is) cs h = first_end (like (AnyRun ∷ is)) cs (runs_behind is cs h)

-- each text matches runs
pub runs_like : (is : List Item) (cs : List ℕ) → is_exact is ≡ false → are_runs is ≡ true → like is cs ≡ true
runs_like [] cs e h = cc
runs_like (Char c ∷ is) cs e h = cc
runs_like (AnyChar ∷ is) cs e h = cc
runs_like (AnyRun ∷ is) cs e h = runs_behind is cs h

beginning_like : (is : List Item) (rest : List ℕ) → is_beginning is ≡ true → like is (literal_prefix is ++ rest) ≡ true
beginning_like [] rest e = cc
beginning_like (Char d ∷ is) rest e = both_hold _ _ (eq-eqb d d refl) (beginning_like is rest e)
beginning_like (AnyChar ∷ is) rest e = cc
beginning_like (AnyRun ∷ is) rest e = runs_behind is rest e

-- ---- texts by their bytes

text_is : (bs : List ℕ) → is_utf8 bs ≡ true → encode_utf8_all (chars bs) ≡ bs
text_is bs h = encodes-chars bs (IsUtf8-from_is_utf8 bs h)

less_is : (o : Ordering) → is_lt o ≡ true → o ≡ Less
less_is Less h = refl
less_is o h = cc

equal_is : (o : Ordering) → is_eq o ≡ true → o ≡ Equal
equal_is Equal h = refl
equal_is o h = cc

never_both : (bs cs : List ℕ) → bytes_cmp bs cs ≡ Less → bytes_cmp cs bs ≡ Less → ⊥
never_both bs cs h k = clash (sym k ∙ value_cmp-total.antisymm (value.Utf8 cs) (value.Utf8 bs) ∙ ap ordering_reverse h)
  where
    clash : Less ≡ ordering_reverse Less → ⊥
    clash e = cc

not_below_empty : (bs : List ℕ) → bytes_cmp bs [] ≡ Less → ⊥
not_below_empty [] h = cc
not_below_empty (b ∷ bs) h = cc

empty_below : (bs : List ℕ) → 0 < length bs → bytes_cmp [] bs ≡ Less
empty_below [] h = absurd (omega arith)
empty_below (b ∷ bs) h = refl

-- the empty text is below any other
none_below : (c : ℕ) (cs : List ℕ) → bytes_cmp (encode_utf8_all []) (encode_utf8_all (c ∷ cs)) ≡ Less
none_below c cs =
    let whole : length (encode_utf8 c ++ encode_utf8_all cs) ≡ length (encode_utf8 c) + length (encode_utf8_all cs) = length-append (encode_utf8 c) (encode_utf8_all cs) in
    let one : length (encode_utf8 c) ≡ _ = length-encode c in
    let bounds = len_utf8_bounds c in
    empty_below (encode_utf8 c ++ encode_utf8_all cs) (omega arith)

has_successor : (cs : List ℕ) → is_last_raised cs ≡ true → successor cs ≡ None → ⊥
has_successor [] r h = cc
has_successor (c ∷ []) r h = none_of (has_next c) r h
  where
    none_of : (b : Bool) → b ≡ true → (if b then Some ((c + 1) ∷ []) else None) ≡ None → ⊥
    none_of true e k = none-some _ (sym k)
    none_of false e k = cc
has_successor (c ∷ d ∷ cs) r h = some_of (λ e. has_successor (d ∷ cs) r e) (successor (d ∷ cs)) refl h
  where
    some_of : (successor (d ∷ cs) ≡ None → ⊥) → (o : Option (List ℕ)) → successor (d ∷ cs) ≡ o → next_after c o ≡ None → ⊥
    some_of f (Some ds) e k = none-some _ (sym k)
    some_of f None e k = f e

-- the first characters: below the one's, above the other's, or the same
by_first : (c d : ℕ) (P : Type 0) → (d < c → P) → (d ≡ c → P) → (c < d → P) → P
by_first c d P f g h = ⊎_elim f (λ l. ⊎_elim h (λ m. g (omega arith)) (cases_lt c d)) (cases_lt d c)

-- a text that isn't below a beginning, but below its successor, begins so
pub begins_between : (p cs q : List ℕ) → is_last_raised p ≡ true → successor p ≡ Some q → (bytes_cmp (encode_utf8_all cs) (encode_utf8_all p) ≡ Less → ⊥)
    → bytes_cmp (encode_utf8_all cs) (encode_utf8_all q) ≡ Less → (rest : List ℕ) × (cs ≡ p ++ rest)
begins_between [] cs q r s h k = absurd cc
begins_between (c ∷ p) [] q r s h k = absurd (h (none_below c p))
begins_between (c ∷ []) (d ∷ cs) q r s h k = raised (has_next c) r s
  where
    raised : (b : Bool) → b ≡ true → (if b then Some ((c + 1) ∷ []) else None) ≡ Some q → (rest : List ℕ) × (d ∷ cs ≡ c ∷ rest)
    raised false e i = absurd cc
    raised true e i =
        let is : (c + 1) ∷ [] ≡ q = same_Some _ _ i in
        let below = subst (λ u. bytes_cmp (encode_utf8_all (d ∷ cs)) (encode_utf8_all u) ≡ Less) (sym is) k in
        by_first c d ((rest : List ℕ) × (d ∷ cs ≡ c ∷ rest))
        (λ l. absurd (h (encode_less d c (encode_utf8_all cs) [] l)))
        (λ same. (cs, ap (λ x. x ∷ cs) same))
        (λ l. absurd (by_first (c + 1) d ⊥
        (λ m. omega arith)
        (λ m. not_below_empty (encode_utf8_all cs) (sym (same_front (encode_utf8 d) (encode_utf8_all cs) []) ∙ ap (λ x. bytes_cmp (encode_utf8_all (d ∷ cs)) (encode_utf8 x ++ [])) m ∙ below))
        (λ m. never_both (encode_utf8_all (d ∷ cs)) (encode_utf8_all ((c + 1) ∷ [])) below (encode_less (c + 1) d [] (encode_utf8_all cs) m))))
begins_between (c ∷ e ∷ p) (d ∷ cs) q r s h k = later (λ qs n. begins_between (e ∷ p) cs qs r n) (successor (e ∷ p)) refl s
  where
    later : ((qs : List ℕ) → successor (e ∷ p) ≡ Some qs → (bytes_cmp (encode_utf8_all cs) (encode_utf8_all (e ∷ p)) ≡ Less → ⊥) → bytes_cmp (encode_utf8_all cs) (encode_utf8_all qs) ≡ Less
        → (rest : List ℕ) × (cs ≡ (e ∷ p) ++ rest))
        → (o : Option (List ℕ)) → successor (e ∷ p) ≡ o → next_after c o ≡ Some q → (rest : List ℕ) × (d ∷ cs ≡ c ∷ ((e ∷ p) ++ rest))
    later f None n i = absurd (has_successor (e ∷ p) r n)
    later f (Some qs) n i =
        let is : c ∷ qs ≡ q = same_Some _ _ i in
        let below = subst (λ u. bytes_cmp (encode_utf8_all (d ∷ cs)) (encode_utf8_all u) ≡ Less) (sym is) k in
        by_first c d ((rest : List ℕ) × (d ∷ cs ≡ c ∷ ((e ∷ p) ++ rest)))
        (λ l. absurd (h (encode_less d c (encode_utf8_all cs) (encode_utf8_all (e ∷ p)) l)))
        (λ same.
        let rest = f qs n
        (λ m. h (ap (λ x. bytes_cmp (encode_utf8 x ++ encode_utf8_all cs) (encode_utf8_all (c ∷ e ∷ p))) same ∙ same_front (encode_utf8 c) (encode_utf8_all cs) (encode_utf8_all (e ∷ p)) ∙ m))
        (sym (same_front (encode_utf8 c) (encode_utf8_all cs) (encode_utf8_all qs)) ∙ sym (ap (λ x. bytes_cmp (encode_utf8 x ++ encode_utf8_all cs) (encode_utf8_all (c ∷ qs))) same) ∙ below) in
        (rest.0, ap₂ ◌∷◌ same rest.1))
        (λ l. absurd (never_both (encode_utf8_all (d ∷ cs)) (encode_utf8_all (c ∷ qs)) below (encode_less c d (encode_utf8_all qs) (encode_utf8_all cs) l)))

-- a text isn't below its beginning
not_below_beginning : (p rest : List ℕ) → bytes_cmp (encode_utf8_all (p ++ rest)) (encode_utf8_all p) ≡ Less → ⊥
not_below_beginning p rest h =
    not_below_empty (encode_utf8_all rest)
    (sym (same_front (encode_utf8_all p) (encode_utf8_all rest) [])
    ∙ (λ i. bytes_cmp (sym (encodes-append p rest) i) (append-nil (encode_utf8_all p) i))
    ∙ h)

-- ---- what the comparisons say of a text

-- a text is the literal characters of a pattern without wildcards exactly if the pattern matches it
pub exact_told : (is : List Item) (t : List ℕ) → is_utf8 t ≡ true → is_exact is ≡ true → holds Eq (value_cmp (value.Utf8 t) (value.Utf8 (encode_utf8_all (literal_prefix is)))) ≡ like is (chars t)
exact_told is t u e = same_truth (holds Eq (value_cmp (value.Utf8 t) (value.Utf8 (encode_utf8_all (literal_prefix is))))) (like is (chars t)) there back
  where
    p : List ℕ
    p = encode_utf8_all (literal_prefix is)

    same_bytes : value.Utf8 t ≡ value.Utf8 p → t ≡ p
    same_bytes h = cc

    there : holds Eq (value_cmp (value.Utf8 t) (value.Utf8 p)) ≡ true → like is (chars t) ≡ true
    there h =
        let same : t ≡ p = same_bytes ((value_cmp-ties (value.Utf8 t) (value.Utf8 p)).0 (equal_is (value_cmp (value.Utf8 t) (value.Utf8 p)) h)) in
        ap (like is) (encodes_same (chars t) (literal_prefix is) (text_is t u ∙ same)) ∙ exact_like is e

    back : like is (chars t) ≡ true → holds Eq (value_cmp (value.Utf8 t) (value.Utf8 p)) ≡ true
    back h =
        let same : t ≡ p = sym (text_is t u) ∙ ap encode_utf8_all (exact_is is (chars t) e h) in
        ap (λ bs. is_eq (value_cmp (value.Utf8 bs) (value.Utf8 p))) same ∙ ap is_eq (tied_itself value_cmp-total (value.Utf8 p))

-- a text is at least the literal characters before a run, which is last, and below their successor exactly if the pattern matches it
pub range_told : (is : List Item) (t q : List ℕ) → is_utf8 t ≡ true → is_beginning is ≡ true → is_last_raised (literal_prefix is) ≡ true → successor (literal_prefix is) ≡ Some q
    → (holds Gte (value_cmp (value.Utf8 t) (value.Utf8 (encode_utf8_all (literal_prefix is)))) && holds Lt (value_cmp (value.Utf8 t) (value.Utf8 (encode_utf8_all q)))) ≡ like is (chars t)
range_told is t q u e r s = same_truth (not_b (is_lt (bytes_cmp t p)) && is_lt (bytes_cmp t next)) (like is (chars t)) there back
  where
    p : List ℕ
    p = encode_utf8_all (literal_prefix is)

    next : List ℕ
    next = encode_utf8_all q

    not_less : (o : Ordering) → not_b (is_lt o) ≡ true → o ≡ Less → ⊥
    not_less Less h k = cc
    not_less o h k = cc

    refuted : (o : Ordering) → (o ≡ Less → ⊥) → not_b (is_lt o) ≡ true
    refuted Less f = absurd (f refl)
    refuted o f = refl

    there : (not_b (is_lt (bytes_cmp t p)) && is_lt (bytes_cmp t next)) ≡ true → like is (chars t) ≡ true
    there h =
        let k = and_parts (not_b (is_lt (bytes_cmp t p))) (is_lt (bytes_cmp t next)) h in
        let front = begins_between (literal_prefix is) (chars t) q r s
        (λ m. not_less (bytes_cmp t p) k.0 (ap (λ bs. bytes_cmp bs p) (sym (text_is t u)) ∙ m))
        (ap (λ bs. bytes_cmp bs next) (text_is t u) ∙ less_is (bytes_cmp t next) k.1) in
        ap (like is) front.1 ∙ beginning_like is front.0 e

    back : like is (chars t) ≡ true → (not_b (is_lt (bytes_cmp t p)) && is_lt (bytes_cmp t next)) ≡ true
    back h =
        let front = prefix_is is (chars t) h in
        let same : t ≡ encode_utf8_all (literal_prefix is ++ front.0) = sym (text_is t u) ∙ ap encode_utf8_all front.1 in
        both_hold _ _
        (refuted (bytes_cmp t p) (λ m. not_below_beginning (literal_prefix is) front.0 (ap (λ bs. bytes_cmp bs p) (sym same) ∙ m)))
        (ap (λ bs. is_lt (bytes_cmp bs next)) same ∙ ap is_lt (below_successor (literal_prefix is) q front.0 s))
