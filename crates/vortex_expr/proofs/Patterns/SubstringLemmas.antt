-- Steps of the search for a run of letters.
use Rattle.std.proofs.Common.{◌≡◌, ℕ, zero, suc, ◌+◌, ◌-◌, ◌<◌, ◌≤◌, Bool, true, false, List, [], ◌∷◌, length, drop, slice_index, refl, sym, ap, subst, ◌∙◌, arith, length-drop, ◌⊎◌, below_more, ⊎_elim}
use Rattle.std.proofs.lemmas.List.{get_or-drop}
use Rattle.std.proofs.lemmas.Bool.{cases_lt}
use Rattle.std.proofs.Math.Seq.{drop-nil}
use Rattle.std.proofs.Math.Seq.{drop-length}
use Rattle.memchr.specs.Critical.{IsCritical, NoPeriodBelow}
use Rattle.memchr.specs.TwoWay.{IsCut, OccursIn}
use Rattle.memchr.specs.declared.arch.all.twoway.Shift.TheVariants.{Small, Large}
use Rattle.memchr.proofs.lemmas.SearchLemmas.{Nowhere-right, Nowhere-left, IsShift-large, IsShift-small}
use Rattle.vortex_expr.specs.Patterns.Substring.{StandsAt, IsPast, AreSame, Precedes, IsCutOf}

-- one more letter is read
pub record IsStep (xs : List ℕ) (k c : ℕ) (left : List ℕ) : Type 0 where
  pub inside : k < length xs
  pub is : slice_index xs k ≡ c
  pub rest : left ≡ drop (k + 1) xs

pub IsStep-of : (xs : List ℕ) (k c : ℕ) (left rest : List ℕ) → left ≡ drop k xs → left ≡ c ∷ rest → IsStep xs k c rest
IsStep-of [] zero c left rest e f = cc
IsStep-of [] (suc k) c left rest e f = cc
IsStep-of (x ∷ xs) zero c left rest e f = record { inside = omega arith; is = cc; rest = cc }
IsStep-of (x ∷ xs) (suc k) c left rest e f =
    let s = IsStep-of xs k c left rest e f in
    let i = s.inside in
    record { inside = omega arith; is = s.is; rest = s.rest ∙ ap (λ n. drop n (x ∷ xs)) (let e : suc (k + 1) ≡ suc k + 1 = omega arith in e) }

pub ended : (xs : List ℕ) (k : ℕ) (left : List ℕ) → left ≡ drop k xs → left ≡ [] → length xs ≤ k
ended xs k left e f = omega (arith, length-drop k xs, ap length (sym e ∙ f))

pub drop_sum : (xs : List ℕ) (i j : ℕ) → drop j (drop i xs) ≡ drop (i + j) xs
drop_sum xs zero j = ap (λ n. drop n xs) (omega arith)
drop_sum [] (suc i) j = drop-nil j ∙ sym (drop-nil (suc i + j))
drop_sum (x ∷ xs) (suc i) j = drop_sum xs i j ∙ ap (λ n. drop n (x ∷ xs)) (let e : suc (i + j) ≡ suc i + j = omega arith in e)

-- where xs stands past the first i of ys it stands in ys
pub StandsAt-drop : (xs ys : List ℕ) (i k : ℕ) → i ≤ k → StandsAt xs ys k → StandsAt xs (drop i ys) (k - i)
StandsAt-drop xs ys i k le s =
    let f = s.fits in
    record {
      fits = omega (arith, length-drop i ys);
      reads = λ j l.
          let place : i + (k - i + j) ≡ k + j = omega arith in
          get_or-drop i ys (k - i + j) 0 ∙ ap (slice_index ys) place ∙ s.reads j l;
    }

pub StandsAt-in : (xs ys : List ℕ) (k : ℕ) → k ≤ length ys → StandsAt xs (drop k ys) 0 → StandsAt xs ys k
StandsAt-in xs ys k le s =
    let f = s.fits in
    record {
      fits = omega (arith, length-drop k ys);
      reads = λ j l.
          let place : k + (0 + j) ≡ k + j = omega arith in
          ap (slice_index ys) (sym place) ∙ sym (get_or-drop k ys (0 + j) 0) ∙ s.reads j l;
    }

pub IsPast-none : (xs ys : List ℕ) → IsPast xs ys ys
IsPast-none xs ys = record { place = 0; is = refl; none = λ k l. absurd (omega arith) }

-- past one place and then past another
pub IsPast-then : {xs ys zs rest : List ℕ} → IsPast xs ys zs → IsPast xs zs rest → IsPast xs ys rest
IsPast-then {xs} {ys} {zs} {rest} p q = record {
  place = p.place + q.place;
  is = q.is ∙ ap (drop q.place) p.is ∙ drop_sum ys p.place q.place;
  none = λ k l s.
      ⊎_elim
      (λ early. p.none k early s)
      (λ late. q.none (k - p.place) (omega arith) (subst (λ v. StandsAt xs v (k - p.place)) (sym p.is) (StandsAt-drop xs ys p.place k late s)))
      (cases_lt k p.place);
}

pub Precedes-trans : (reversed : Bool) (a b c : ℕ) → Precedes reversed a b → Precedes reversed b c → Precedes reversed a c
Precedes-trans true a b c p q = omega arith
Precedes-trans false a b c p q = omega arith

pub Precedes-irrefl : (reversed : Bool) (a : ℕ) → Precedes reversed a a → ⊥
Precedes-irrefl true a p = omega arith
Precedes-irrefl false a p = omega arith

pub Precedes-opposed : (a b : ℕ) → Precedes false a b → Precedes true a b → ⊥
Precedes-opposed a b p q = omega arith

-- nothing is left from an end on
pub drop_past_end : (xs left : List ℕ) (k count : ℕ) → left ≡ drop k xs → left ≡ [] → k ≤ count → left ≡ drop count xs
drop_past_end xs left k count e f le =
    let more : k + (count - k) ≡ count = omega arith in
    f ∙ sym (drop-nil (count - k)) ∙ ap (drop (count - k)) (sym f ∙ e) ∙ drop_sum xs k (count - k) ∙ ap (λ n. drop n xs) more

pub AreSame-more : (xs ys : List ℕ) (n : ℕ) → AreSame xs ys n → slice_index xs n ≡ slice_index ys n → AreSame xs ys (n + 1)
AreSame-more xs ys n old here = below_more (λ k. slice_index xs k ≡ slice_index ys k) n old here

-- a long shift keeps nothing
pub IsCutOf-large : (x : ℕ → ℕ) (m c s : ℕ) → IsCut x m c (Large s) → m ≤ s + c → IsCutOf x m (record { critical = c; shift = s; keep = 0 })
IsCutOf-large x m c s h reach =
    let parts = IsShift-large c h.shifts in
    record {
      below = h.below;
      critical = h.critical;
      some = parts.0;
      short = let e = parts.1 in omega arith;
      none = parts.2;
      reach = omega arith;
      kept = λ k l. absurd (omega arith);
    }

-- a shift by the period keeps what follows it
pub IsCutOf-small : (x : ℕ → ℕ) (m c p : ℕ) → IsCut x m c (Small p) → IsCutOf x m (record { critical = c; shift = p; keep = m - p })
IsCutOf-small x m c p h =
    let parts = IsShift-small c h.shifts in
    let above = parts.1 in
    let within = parts.2 in
    record {
      below = h.below;
      critical = h.critical;
      some = parts.0;
      short = omega arith;
      none = parts.4;
      reach = omega arith;
      kept = λ k l. (omega arith, parts.3 k (omega arith));
    }

module _ (xs bs : List ℕ) (m : ℕ) (size : m ≡ length xs) (c : ℕ) (critical : IsCritical (slice_index xs) m c) where
  -- what is known and what was compared from `start` on
  pub right_same : (known start i : ℕ) → AreSame xs bs known → (start ≤ c ⊎ start ≤ known) → (left front : List ℕ) → left ≡ drop start xs → front ≡ drop start bs
      → AreSame left front i → (k : ℕ) → c ≤ k → k < start + i → slice_index xs k ≡ slice_index bs (0 + k)
  right_same known start i old from left front e f more k low high =
      ⊎_elim
      (λ early. old k (⊎_elim (λ at. absurd (omega arith)) (λ at. omega arith) from) ∙ ap (slice_index bs) (let z : k ≡ 0 + k = omega arith in z))
      (λ late.
      let place : start + (k - start) ≡ k = omega arith in
      let place0 : start + (k - start) ≡ 0 + k = omega arith in
      ap (slice_index xs) (sym place) ∙ sym (get_or-drop start xs (k - start) 0) ∙ ap (λ v. slice_index v (k - start)) (sym e)
      ∙ more (k - start) (omega arith) ∙ ap (λ v. slice_index v (k - start)) f ∙ get_or-drop start bs (k - start) 0 ∙ ap (slice_index bs) place0)
      (cases_lt k start)

  -- past a letter that differs right of the cut
  pub past_difference : (i s : ℕ) → c ≤ i → i < m → ((k : ℕ) → c ≤ k → k < i → slice_index xs k ≡ slice_index bs (0 + k))
      → (slice_index xs i ≡ slice_index bs (0 + i) → ⊥) → s ≡ i - c + 1 → IsPast xs bs (drop s bs)
  past_difference i s low high same differs e = record {
    place = s;
    is = refl;
    none = λ k l stands. Nowhere-right (slice_index xs) m (slice_index bs) (length bs) c critical 0 i low high same differs k (omega arith) (omega arith)
        (subst (λ v. OccursIn (slice_index xs) v (slice_index bs) (length bs) k) (sym size) stands);
  }

  -- past a place where only the letters right of the cut stand
  pub past_shift : (s : ℕ) → NoPeriodBelow (slice_index xs) m s → ((k : ℕ) → c ≤ k → k < m → slice_index xs k ≡ slice_index bs (0 + k))
      → (StandsAt xs bs 0 → ⊥) → IsPast xs bs (drop s bs)
  past_shift s short same differs = record {
    place = s;
    is = refl;
    none = λ k l stands. Nowhere-left (slice_index xs) m (slice_index bs) (length bs) c s critical short 0 same
        (λ o. differs (subst (λ v. OccursIn (slice_index xs) v (slice_index bs) (length bs) 0) size o)) k (omega arith) (omega arith)
        (subst (λ v. OccursIn (slice_index xs) v (slice_index bs) (length bs) k) (sym size) stands);
  }

-- nothing stands in a text that is too short
pub past_all : (xs bs : List ℕ) → length bs < length xs → IsPast xs bs []
past_all xs bs short = record { place = length bs; is = sym (drop-length bs); none = λ k l stands. omega (arith, stands.fits) }
