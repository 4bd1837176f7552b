-- Predicates whose ANDs join what is said of different columns are decided over a known box.
use Rattle.std.proofs.Common.{◌≡◌, ◌<◌, ◌⊎◌, ⊎_elim, inl, inr, ℕ, Bool, true, false, not as not_b, ◌&&◌, ◌||◌, List, [], ◌∷◌, ◌++◌, refl, sym, ap, ap₂, subst, ◌∙◌, arith, if◌then◌else◌}
use Rattle.std.specs.Prelude.{◌==◌}
use Rattle.std.specs.List.{AllByRecursion}
use Rattle.std.proofs.lemmas.Bool.{and_cases, and_parts, not-true, or_cases, or_parts}
use Rattle.std.proofs.lemmas.Bool.Decides.{nat_tests}
use Rattle.vortex_base.specs.Data.Exact.{both_hold}
use Rattle.vortex_base.specs.Data.Types.{ptype_index}
use Rattle.vortex_base.specs.Data.Values.{in_range, is_value, ptype_of}
use Rattle.vortex_expr.specs.Meanings.Meaning.{both, either, meaning, satisfies, truth, truth_value}
use Rattle.vortex_expr.specs.Trees.Tree.{Tree, Place, column, literal, binary, between, is_null, is_not_null, not, like, stat, row_count}
use Rattle.vortex_base.specs.declared.dtype.DType.{DType}
use Rattle.vortex_base.specs.declared.dtype.DType.TheVariants as dtype
use Rattle.vortex_base.specs.declared.scalar_value.ScalarValue.{ScalarValue}
use Rattle.vortex_base.specs.declared.scalar_value.ScalarValue.TheVariants as value
use Rattle.vortex_expr.specs.declared.scalar_fn.Operator.TheVariants.{Eq, NotEq, Gt, Gte, Lt, Lte, And, Or}
use Rattle.vortex_rewrite.proofs.Completeness.Choices.{Agree, AreInside, Choice, IsBetween, all_back, all_front, all_map, between_agreed, combined, combined_back, distinct_back, distinct_front, row_with, satisfies_agreed}
use Rattle.vortex_rewrite.proofs.Completeness.Decided.{Decided, both_known, either_known, one_proof}
use Rattle.vortex_rewrite.proofs.Completeness.Operands.{IsInterval}
use Rattle.vortex_rewrite.proofs.Soundness.TruthLogic.{clash, true_and, true_or}
use Rattle.vortex_rewrite.proofs.Soundness.ValueTests.{le_refl, value_le}
use Rattle.vortex_rewrite.proofs.Logic.{all_append}
use Rattle.vortex_rewrite.specs.Laws.{ReadOnceIsApart}
use Rattle.vortex_rewrite.specs.Rewriting.Proof.{Assignment}
use Rattle.vortex_rewrite.specs.Rewriting.ReadOnce.{Box, IsWithin, are_apart, are_distinct, are_sides_apart, columns_of, has_index, is_simple}

-- ---- one value's two types take the same values

eqb_same : (a b : ℕ) → (a == b) ≡ true → a ≡ b
eqb_same a b h = grind (arith, nat_tests)

number_moved : (a b c d : ℕ) (r : Bool) → (a == c) ≡ true → (a == d) ≡ true → ((b == c) && r) ≡ true → ((b == d) && r) ≡ true
number_moved a b c d r h k m =
    let e : c ≡ d = sym (eqb_same a c h) ∙ eqb_same a d k in
    sym (ap (λ t. (b == t) && r) e) ∙ m

same_kind : (v : ScalarValue) (s t : DType) (w : ScalarValue) → is_value v s ≡ true → is_value v t ≡ true → is_value w s ≡ true → is_value w t ≡ true
same_kind (value.Bool a) (dtype.Bool m) (dtype.Bool n) (value.Bool b) h k e = refl
same_kind (value.Primitive a) (dtype.Primitive s m) (dtype.Primitive t n) (value.Primitive b) h k e =
    number_moved (ptype_index (ptype_of a)) (ptype_index (ptype_of b)) (ptype_index s) (ptype_index t) (in_range b)
    (and_parts (ptype_index (ptype_of a) == ptype_index s) (in_range a) h).0 (and_parts (ptype_index (ptype_of a) == ptype_index t) (in_range a) k).0 e
same_kind (value.Utf8 a) (dtype.Utf8 m) (dtype.Utf8 n) (value.Utf8 b) h k e = e
same_kind (value.Binary a) (dtype.Binary m) (dtype.Binary n) (value.Binary b) h k e = refl
same_kind v s t w h k e = cc

-- ---- choices

found : (P : Place → Type 0) (i : ℕ) (cs : List Place) → has_index i cs ≡ true → AllByRecursion P cs → (c : Place) × (c.index ≡ i) × P c
found P i [] h k = absurd cc
found P i (c ∷ cs) h k =
    ⊎_elim (λ e. (c, sym (eqb_same i c.index e), k.0)) (λ e. found P i cs e k.1) (or_cases (i == c.index) (has_index i cs) h)

front_apart : (f g : Choice) (xs ys : List Place) → are_apart xs ys ≡ true → Agree (combined f g ys) f xs
front_apart f g [] ys h = tt
front_apart f g (x ∷ xs) ys h =
    let k = and_parts (not_b (has_index x.index ys)) (are_apart xs ys) h in
    (ap (λ (b : Bool). if b then g x.index else f x.index) (not-true (has_index x.index ys) k.0), front_apart f g xs ys k.1)

or_yes : (b : Bool) → (b || true) ≡ true
or_yes true = refl
or_yes false = refl

module _ (box : Box) (A : Assignment) (m n : ℕ) where
  abbrev pub Known : List Place → Type 0
  Known cs = AllByRecursion (IsInterval box A m n) cs

  pub all_inside : (cs : List Place) → Known cs → AreInside m cs
  all_inside cs h = all_map (IsInterval box A m n) (λ c. c.index < m) cs (λ c k. k.inside) h

  low_between : (cs : List Place) → Known cs → AllByRecursion (IsBetween box box.low) cs
  low_between cs h = all_map (IsInterval box A m n) (IsBetween box box.low) cs (λ c k. record { of_type = k.low; above_low = le_refl (box.low c.index); below_high = k.order }) h

  moved : (f : Choice) (c d : Place) → d.index ≡ c.index → IsBetween box f d → IsInterval box A m n d → IsInterval box A m n c → IsBetween box f c
  moved f c d e h k j = record {
    of_type = same_kind (box.low c.index) d.dtype c.dtype (f c.index) (subst (λ i. is_value (box.low i) d.dtype ≡ true) e k.low) j.low (subst (λ i. is_value (f i) d.dtype ≡ true) e h.of_type);
    above_low = subst (λ i. value_le (box.low i) (f i) ≡ true) e h.above_low;
    below_high = subst (λ i. value_le (f i) (box.high i) ≡ true) e h.below_high;
  }

  both_all : (f : Choice) (xs : List Place) → AllByRecursion (IsBetween box f) xs → Known xs → AllByRecursion (λ c. IsBetween box f c × IsInterval box A m n c) xs
  both_all f [] h k = tt
  both_all f (x ∷ xs) h k = ((h.0, k.0), both_all f xs h.1 k.1)

  module _ (f : Choice) (xs : List Place) (between : AllByRecursion (IsBetween box f) xs) (known : Known xs) where
    -- the choice at the columns of the list, and the low values elsewhere
    abbrev extended : Choice
    extended = combined box.low f xs

    at_column : (c : Place) → IsInterval box A m n c → (b : Bool) → has_index c.index xs ≡ b → IsBetween box extended c
    at_column c k true e =
        let w = found (λ d. IsBetween box f d × IsInterval box A m n d) c.index xs e (both_all f xs between known) in
        (between_agreed box extended f (c ∷ []) (ap (λ (b : Bool). if b then f c.index else box.low c.index) e, tt) (moved f c w.0 w.1 w.2.0 w.2.1 k, tt)).0
    at_column c k false e =
        (between_agreed box extended box.low (c ∷ []) (ap (λ (b : Bool). if b then f c.index else box.low c.index) e, tt) (low_between (c ∷ []) (k, tt))).0

    between_extended : (ys : List Place) → Known ys → AllByRecursion (IsBetween box extended) ys
    between_extended [] k = tt
    between_extended (y ∷ ys) k = (at_column y k.0 (has_index y.index xs) refl, between_extended ys k.1)

  module _ (x y : Tree Place) (dx : Decided box A m n x) (dy : Decided box A m n y) (known_x : Known (columns_of x)) (known_y : Known (columns_of y)) where
    abbrev Choosable : Tree Place → Type 0
    Choosable p = (f : Choice) × AllByRecursion (IsBetween box f) (columns_of p) × (satisfies p (row_with f m) n ≡ true)

    from_left : Choosable x → Choosable (binary Or x y)
    from_left c =
        let f = extended c.0 (columns_of x) c.1 known_x in
        let row = row_with f m in
        let agree = combined_back box.low c.0 (columns_of x) in (
          f,
          all_append (IsBetween box f) (columns_of x) (columns_of y) (between_agreed box f c.0 (columns_of x) agree c.1) (between_extended c.0 (columns_of x) c.1 known_x (columns_of y) known_y),
          true_or (meaning x row n) (meaning y row n)
              ∙ ap (λ b. b || satisfies y row n) (satisfies_agreed f c.0 m n x (all_inside (columns_of x) known_x) agree ∙ c.2),
        )

    from_right : Choosable y → Choosable (binary Or x y)
    from_right c =
        let f = extended c.0 (columns_of y) c.1 known_y in
        let row = row_with f m in
        let agree = combined_back box.low c.0 (columns_of y) in (
          f,
          all_append (IsBetween box f) (columns_of x) (columns_of y) (between_extended c.0 (columns_of y) c.1 known_y (columns_of x) known_x) (between_agreed box f c.0 (columns_of y) agree c.1),
          true_or (meaning x row n) (meaning y row n)
              ∙ ap (λ b. satisfies x row n || b) (satisfies_agreed f c.0 m n y (all_inside (columns_of y) known_y) agree ∙ c.2)
              ∙ or_yes (satisfies x row n),
        )

    -- the sides of an OR may share columns
    pub or_shared : Decided box A m n (binary Or x y)
    or_shared = record {
      proof = binary And dx.proof dy.proof;
      proof_is = rw (dx.proof_is, dy.proof_is) (one_proof (binary Or x y) (binary And dx.proof dy.proof));
      closed = λ i. dx.closed i || dy.closed i;
      says = dx.says && dy.says;
      proof_told = (λ i. truth_value (both (truth (dx.proof_told i)) (truth (dy.proof_told i)))) ∙ ap truth_value (both_known dx.says dy.says);
      refutes = λ h row within.
          let k = and_parts dx.says dy.says h in
          true_or (meaning x row n) (meaning y row n)
          ∙ ap₂ ◌||◌ (dx.refutes k.0 row (all_front (IsWithin box row) (columns_of x) (columns_of y) within)) (dy.refutes k.1 row (all_back (IsWithin box row) (columns_of x) (columns_of y) within));
      finds = λ h. ⊎_elim (λ k. from_left (dx.finds k)) (λ k. from_right (dy.finds k)) (and_cases dx.says dy.says h);
    }

    module _ (apart : are_apart (columns_of x) (columns_of y) ≡ true) where
      both_sides : Choosable x → Choosable y → Choosable (binary And x y)
      both_sides c d =
          let f : Choice = combined c.0 d.0 (columns_of y) in
          let row = row_with f m in
          let front = front_apart c.0 d.0 (columns_of x) (columns_of y) apart in
          let back = combined_back c.0 d.0 (columns_of y) in (
            f,
            all_append (IsBetween box f) (columns_of x) (columns_of y) (between_agreed box f c.0 (columns_of x) front c.1) (between_agreed box f d.0 (columns_of y) back d.1),
            true_and (meaning x row n) (meaning y row n)
                ∙ ap₂ ◌&&◌ (satisfies_agreed f c.0 m n x (all_inside (columns_of x) known_x) front ∙ c.2) (satisfies_agreed f d.0 m n y (all_inside (columns_of y) known_y) back ∙ d.2),
          )

      and_no : (a b : Bool) → (a ≡ false) ⊎ (b ≡ false) → (a && b) ≡ false
      and_no true b h = ⊎_elim (λ e. clash refl e) (λ e. e) h
      and_no false b h = refl

      -- those of an AND may not
      pub and_apart : Decided box A m n (binary And x y)
      and_apart = record {
        proof = binary Or dx.proof dy.proof;
        proof_is = rw (dx.proof_is, dy.proof_is) (one_proof (binary And x y) (binary Or dx.proof dy.proof));
        closed = λ i. dx.closed i || dy.closed i;
        says = dx.says || dy.says;
        proof_told = (λ i. truth_value (either (truth (dx.proof_told i)) (truth (dy.proof_told i)))) ∙ ap truth_value (either_known dx.says dy.says);
        refutes = λ h row within.
            true_and (meaning x row n) (meaning y row n)
            ∙ and_no (satisfies x row n) (satisfies y row n)
            (⊎_elim
            (λ k. inl (dx.refutes k row (all_front (IsWithin box row) (columns_of x) (columns_of y) within)))
            (λ k. inr (dy.refutes k row (all_back (IsWithin box row) (columns_of x) (columns_of y) within)))
            (or_cases dx.says dy.says h));
        finds = λ h. let k = or_parts dx.says dy.says h in both_sides (dx.finds k.0) (dy.finds k.1);
      }

-- ---- read-once predicates are so

not_among : (i : ℕ) (xs ys : List Place) → has_index i (xs ++ ys) ≡ false → has_index i ys ≡ false
not_among i [] ys h = h
not_among i (x ∷ xs) ys h = not_among i xs ys (or_parts (i == x.index) (has_index i (xs ++ ys)) h).1

distinct_apart : (xs ys : List Place) → are_distinct (xs ++ ys) ≡ true → are_apart xs ys ≡ true
distinct_apart [] ys h = refl
distinct_apart (x ∷ xs) ys h =
    let k = and_parts (not_b (has_index x.index (xs ++ ys))) (are_distinct (xs ++ ys)) h in
    both_hold _ _ (ap not_b (not_among x.index xs ys (not-true (has_index x.index (xs ++ ys)) k.0))) (distinct_apart xs ys k.1)

sides_apart : (p : Tree Place) → is_simple p ≡ true → are_distinct (columns_of p) ≡ true → are_sides_apart p ≡ true
sides_apart (column c) simple h = h
sides_apart (literal c) simple h = h
sides_apart (binary Eq x y) simple h = h
sides_apart (binary NotEq x y) simple h = h
sides_apart (binary Gt x y) simple h = h
sides_apart (binary Gte x y) simple h = h
sides_apart (binary Lt x y) simple h = h
sides_apart (binary Lte x y) simple h = h
sides_apart (binary And x y) simple h =
    let k = and_parts (is_simple x) (is_simple y) simple in
    both_hold _ _ (distinct_apart (columns_of x) (columns_of y) h)
    (both_hold _ _ (sides_apart x k.0 (distinct_front (columns_of x) (columns_of y) h)) (sides_apart y k.1 (distinct_back (columns_of x) (columns_of y) h)))
sides_apart (binary Or x y) simple h =
    let k = and_parts (is_simple x) (is_simple y) simple in
    both_hold _ _ (sides_apart x k.0 (distinct_front (columns_of x) (columns_of y) h)) (sides_apart y k.1 (distinct_back (columns_of x) (columns_of y) h))
sides_apart (between o x l u) simple h = h
sides_apart (is_null x) simple h = h
sides_apart (is_not_null x) simple h = h
sides_apart (not x) simple h = h
sides_apart (like o x q) simple h = h
sides_apart (stat f x) simple h = h
sides_apart row_count simple h = h

pub read_once_is_apart : ReadOnceIsApart
read_once_is_apart p h =
    let k = and_parts (is_simple p) (are_distinct (columns_of p)) h in
    both_hold _ _ k.0 (sides_apart p k.0 k.1)
