-- Optional byte strings that are kept in one heap.
use Rattle.std.proofs.Common.{◌≡◌, ◌<◌, ◌≤◌, ◌+◌, ◌-◌, ℕ, zero, suc, Bool, IsTrue, List, [], ◌∷◌, ◌++◌, Option, None, length, get_or, map, take, drop, slice_get, slice_range, refl, ap, ap₂, sym, subst, ◌∙◌, arith, nat_le}
use Rattle.std.proofs.lemmas.Bool.{and_from, and_parts, eq-eqb, eqb-true, le-leb, leb-true}
use Rattle.std.proofs.lemmas.List.{drop-append-le, drop-drop, drop_at, length-append, length-drop, length-map, length-take-le, take-append-drop, take-append-le, take_all}
use Rattle.vortex_base.specs.Data.VarBinArray.{AreBlobs, blob, blob_at, blobs, blobs_from, rise, start_at}

-- the ends that never fall

pub rise-first : (start end : ℕ) (ends : List ℕ) (stop : ℕ) → IsTrue (rise start (end ∷ ends) stop) → start ≤ end
rise-first start end ends stop h = leb-true start end (and_parts (nat_le start end) (rise end ends stop) h).0

pub rise-rest : (start end : ℕ) (ends : List ℕ) (stop : ℕ) → IsTrue (rise start (end ∷ ends) stop) → IsTrue (rise end ends stop)
rise-rest start end ends stop h = (and_parts (nat_le start end) (rise end ends stop) h).1

pub rise-cons : (start end : ℕ) (ends : List ℕ) (stop : ℕ) → start ≤ end → IsTrue (rise end ends stop) → IsTrue (rise start (end ∷ ends) stop)
rise-cons start end ends stop first rest = and_from (nat_le start end) (rise end ends stop) (le-leb start end first) rest

pub rise-none : (start stop : ℕ) → IsTrue (rise start [] stop) → start ≡ stop
rise-none start stop h = eqb-true start stop h

pub rise-le : (start : ℕ) (ends : List ℕ) (stop : ℕ) → IsTrue (rise start ends stop) → start ≤ stop
rise-le start [] stop h = let same = rise-none start stop h in omega arith
rise-le start (end ∷ ends) stop h =
    let first = rise-first start end ends stop h in
    let rest = rise-le end ends stop (rise-rest start end ends stop h) in
    omega arith

pub rise-append : (start : ℕ) (ends more : List ℕ) (middle stop : ℕ) → IsTrue (rise start ends middle) → IsTrue (rise middle more stop) → IsTrue (rise start (ends ++ more) stop)
rise-append start [] more middle stop h g = subst (λ (k : ℕ). IsTrue (rise k more stop)) (sym (rise-none start middle h)) g
rise-append start (end ∷ ends) more middle stop h g = rise-cons start end (ends ++ more) stop (rise-first start end ends middle h) (rise-append end ends more middle stop (rise-rest start end ends middle h) g)

pub rise-take : (n start : ℕ) (ends : List ℕ) (stop : ℕ) → IsTrue (rise start ends stop) → n ≤ length ends → IsTrue (rise start (take n ends) (start_at start ends n))
rise-take zero start ends stop h low = eq-eqb start start refl
rise-take (suc n) start [] stop h low = absurd (omega arith)
rise-take (suc n) start (end ∷ ends) stop h low = rise-cons start end (take n ends) (start_at end ends n) (rise-first start end ends stop h) (rise-take n end ends stop (rise-rest start end ends stop h) (omega arith))

pub rise-shift : (k start : ℕ) (ends : List ℕ) (stop : ℕ) → IsTrue (rise start ends stop) → IsTrue (rise (k + start) (map (λ e. k + e) ends) (k + stop))
rise-shift k start [] stop h = let same = rise-none start stop h in eq-eqb (k + start) (k + stop) (omega arith)
rise-shift k start (end ∷ ends) stop h =
    let first = rise-first start end ends stop h in
    rise-cons (k + start) (k + end) (map (λ e. k + e) ends) (k + stop) (omega arith) (rise-shift k end ends stop (rise-rest start end ends stop h))

pub start_at-suc : (n start : ℕ) (ends : List ℕ) (d : ℕ) → n < length ends → start_at start ends (suc n) ≡ get_or ends n d
start_at-suc n start [] d low = absurd (omega arith)
start_at-suc zero start (end ∷ ends) d low = refl
start_at-suc (suc n) start (end ∷ ends) d low = start_at-suc n end ends d (omega arith)

pub start_at-le : (n start : ℕ) (ends : List ℕ) (stop : ℕ) → IsTrue (rise start ends stop) → n ≤ length ends → start_at start ends n ≤ stop
start_at-le zero start ends stop h low = rise-le start ends stop h
start_at-le (suc n) start [] stop h low = absurd (omega arith)
start_at-le (suc n) start (end ∷ ends) stop h low = start_at-le n end ends stop (rise-rest start end ends stop h) (omega arith)

pub start-le-end : (n start : ℕ) (ends : List ℕ) (stop d : ℕ) → IsTrue (rise start ends stop) → n < length ends → start_at start ends n ≤ get_or ends n d
start-le-end n start [] stop d h low = absurd (omega arith)
start-le-end zero start (end ∷ ends) stop d h low = rise-first start end ends stop h
start-le-end (suc n) start (end ∷ ends) stop d h low = start-le-end n end ends stop d (rise-rest start end ends stop h) (omega arith)

pub end-within : (n start : ℕ) (ends : List ℕ) (stop d : ℕ) → IsTrue (rise start ends stop) → n < length ends → get_or ends n d ≤ stop
end-within n start ends stop d h low = rw (sym (start_at-suc n start ends d low)) (start_at-le (suc n) start ends stop h (omega arith))

-- parts of the heap

slice-of-front : (a b : ℕ) (xs ys : List ℕ) → a ≤ b → b ≤ length xs → slice_range (xs ++ ys) a b ≡ slice_range xs a b
slice-of-front a b xs ys order within =
    let rest : b - a ≤ length (drop a xs) = omega (arith, length-drop a xs) in
    ap (take (b - a)) (drop-append-le a xs ys (omega arith)) ∙ take-append-le (b - a) (drop a xs) ys rest

slice-of-back : (k a b : ℕ) (xs ys : List ℕ) → k ≡ length xs → slice_range (xs ++ ys) (k + a) (k + b) ≡ slice_range ys a b
slice-of-back k a b xs ys is =
    let long : (k + b) - (k + a) ≡ b - a = omega arith in
    ap₂ (λ (n : ℕ) (l : List ℕ). take n l) long (sym (drop-drop a k (xs ++ ys)) ∙ ap (drop a) (drop_at xs ys k (sym is)))

slice-of-all-back : (xs ys : List ℕ) → slice_range (xs ++ ys) (length xs) (length (xs ++ ys)) ≡ ys
slice-of-all-back xs ys =
    let long : length ys ≤ length (xs ++ ys) - length xs = omega (arith, length-append xs ys) in
    ap (take (length (xs ++ ys) - length xs)) (drop_at xs ys (length xs) refl) ∙ take_all (length (xs ++ ys) - length xs) ys long

-- the byte strings of a heap

pub blobs-length : (start : ℕ) (ends heap : List ℕ) (validity : List Bool) → length ends ≡ length validity → length (blobs_from start ends heap validity) ≡ length ends
blobs-length start [] heap validity long = refl
blobs-length start (end ∷ ends) heap [] long = absurd (omega arith)
blobs-length start (end ∷ ends) heap (t ∷ ts) long = ap suc (blobs-length end ends heap ts (omega arith))

pub blobs-append : (start : ℕ) (ends more heap : List ℕ) (validity others : List Bool) (middle : ℕ) → length ends ≡ length validity → IsTrue (rise start ends middle) → blobs_from start (ends ++ more) heap (validity ++ others) ≡ blobs_from start ends heap validity ++ blobs_from middle more heap others
blobs-append start [] more heap [] others middle long h = ap (λ (k : ℕ). blobs_from k more heap others) (rise-none start middle h)
blobs-append start [] more heap (t ∷ ts) others middle long h = absurd (omega arith)
blobs-append start (end ∷ ends) more heap [] others middle long h = absurd (omega arith)
blobs-append start (end ∷ ends) more heap (t ∷ ts) others middle long h = ap (λ bs. blob t (slice_range heap start end) ∷ bs) (blobs-append end ends more heap ts others middle (omega arith) (rise-rest start end ends middle h))

pub blobs-front : (start : ℕ) (ends heap more : List ℕ) (validity : List Bool) (stop : ℕ) → IsTrue (rise start ends stop) → stop ≤ length heap → blobs_from start ends (heap ++ more) validity ≡ blobs_from start ends heap validity
blobs-front start [] heap more validity stop h within = refl
blobs-front start (end ∷ ends) heap more [] stop h within = refl
blobs-front start (end ∷ ends) heap more (t ∷ ts) stop h within =
    let first = rise-first start end ends stop h in
    let rest = rise-rest start end ends stop h in
    let low = rise-le end ends stop rest in
    ap₂ (λ b bs. blob t b ∷ bs) (slice-of-front start end heap more first (omega arith)) (blobs-front end ends heap more ts stop rest within)

pub blobs-cut : (start : ℕ) (ends heap : List ℕ) (validity : List Bool) (stop : ℕ) → IsTrue (rise start ends stop) → stop ≤ length heap → blobs_from start ends (take stop heap) validity ≡ blobs_from start ends heap validity
blobs-cut start ends heap validity stop h within =
    let long : stop ≤ length (take stop heap) = omega (arith, length-take-le stop heap within) in
    sym (blobs-front start ends (take stop heap) (drop stop heap) validity stop h long) ∙ ap (λ (g : List ℕ). blobs_from start ends g validity) (take-append-drop stop heap)

pub blobs-take : (n start : ℕ) (ends heap : List ℕ) (validity : List Bool) → blobs_from start (take n ends) heap (take n validity) ≡ take n (blobs_from start ends heap validity)
blobs-take zero start ends heap validity = refl
blobs-take (suc n) start [] heap validity = refl
blobs-take (suc n) start (end ∷ ends) heap [] = refl
blobs-take (suc n) start (end ∷ ends) heap (t ∷ ts) = ap (λ bs. blob t (slice_range heap start end) ∷ bs) (blobs-take n end ends heap ts)

pub blobs-back : (k start : ℕ) (ends heap more : List ℕ) (validity : List Bool) → k ≡ length heap → blobs_from (k + start) (map (λ e. k + e) ends) (heap ++ more) validity ≡ blobs_from start ends more validity
blobs-back k start [] heap more validity is = refl
blobs-back k start (end ∷ ends) heap more [] is = refl
blobs-back k start (end ∷ ends) heap more (t ∷ ts) is = ap₂ (λ b bs. blob t b ∷ bs) (slice-of-back k start end heap more is) (blobs-back k end ends heap more ts is)

-- what stands at a place
pub blobs-at : (i start : ℕ) (ends heap : List ℕ) (validity : List Bool) (t : Bool) (d : ℕ) → length ends ≡ length validity → i < length ends → blob_at (slice_get (blobs_from start ends heap validity) i) ≡ blob (get_or validity i t) (slice_range heap (start_at start ends i) (get_or ends i d))
blobs-at i start [] heap validity t d long low = absurd (omega arith)
blobs-at i start (end ∷ ends) heap [] t d long low = absurd (omega arith)
blobs-at zero start (end ∷ ends) heap (u ∷ us) t d long low = refl
blobs-at (suc i) start (end ∷ ends) heap (u ∷ us) t d long low = blobs-at i end ends heap us t d (omega arith) (omega arith)

-- nothing stands past the end
pub blobs-past : (i start : ℕ) (ends heap : List ℕ) (validity : List Bool) → length validity ≤ i → blob_at (slice_get (blobs_from start ends heap validity) i) ≡ None
blobs-past i start [] heap validity past = refl
blobs-past i start (end ∷ ends) heap [] past = refl
blobs-past zero start (end ∷ ends) heap (t ∷ ts) past = absurd (omega arith)
blobs-past (suc i) start (end ∷ ends) heap (t ∷ ts) past = blobs-past i end ends heap ts (omega arith)

-- one more

pub blobs-push : (ends heap bytes : List ℕ) (validity : List Bool) (t : Bool) → AreBlobs ends heap validity → blobs (ends ++ length (heap ++ bytes) ∷ []) (heap ++ bytes) (validity ++ t ∷ []) ≡ blobs ends heap validity ++ blob t bytes ∷ []
blobs-push ends heap bytes validity t h =
    blobs-append 0 ends (length (heap ++ bytes) ∷ []) (heap ++ bytes) validity (t ∷ []) (length heap) h.long h.rising
    ∙ ap₂ (λ (bs : List (Option (List ℕ))) (b : List ℕ). bs ++ blob t b ∷ []) (blobs-front 0 ends heap bytes validity (length heap) h.rising (omega arith)) (slice-of-all-back heap bytes)

pub AreBlobs-push : (ends heap bytes : List ℕ) (validity : List Bool) (t : Bool) → AreBlobs ends heap validity → AreBlobs (ends ++ length (heap ++ bytes) ∷ []) (heap ++ bytes) (validity ++ t ∷ [])
AreBlobs-push ends heap bytes validity t h =
    let stop = length (heap ++ bytes) in
    record {
      long = let many = h.long in omega (arith, length-append ends (stop ∷ []), length-append validity (t ∷ []));
      rising = rise-append 0 ends (stop ∷ []) (length heap) stop h.rising (rise-cons (length heap) stop [] stop (omega (arith, length-append heap bytes)) (eq-eqb stop stop refl));
    }

-- the first ones

pub blobs-truncate : (n : ℕ) (ends heap : List ℕ) (validity : List Bool) → AreBlobs ends heap validity → n ≤ length ends → blobs (take n ends) (take (start_at 0 ends n) heap) (take n validity) ≡ take n (blobs ends heap validity)
blobs-truncate n ends heap validity h low =
    blobs-cut 0 (take n ends) heap (take n validity) (start_at 0 ends n) (rise-take n 0 ends (length heap) h.rising low) (start_at-le n 0 ends (length heap) h.rising low)
    ∙ blobs-take n 0 ends heap validity

pub AreBlobs-truncate : (n : ℕ) (ends heap : List ℕ) (validity : List Bool) → AreBlobs ends heap validity → n ≤ length ends → AreBlobs (take n ends) (take (start_at 0 ends n) heap) (take n validity)
AreBlobs-truncate n ends heap validity h low =
    let many = h.long in
    let long = length-take-le (start_at 0 ends n) heap (start_at-le n 0 ends (length heap) h.rising low) in
    record {
      long = omega (arith, length-take-le n ends low, length-take-le n validity (omega arith));
      rising = subst (λ (k : ℕ). IsTrue (rise 0 (take n ends) k)) (sym long) (rise-take n 0 ends (length heap) h.rising low);
    }

-- others behind them

pub blobs-join : (ends heap more others : List ℕ) (validity those : List Bool) → AreBlobs ends heap validity → blobs (ends ++ map (λ e. length heap + e) more) (heap ++ others) (validity ++ those) ≡ blobs ends heap validity ++ blobs more others those
blobs-join ends heap more others validity those h =
    let here : length heap ≡ length heap + 0 = omega arith in
    blobs-append 0 ends (map (λ e. length heap + e) more) (heap ++ others) validity those (length heap) h.long h.rising
    ∙ ap₂ (λ (bs cs : List (Option (List ℕ))). bs ++ cs) (blobs-front 0 ends heap others validity (length heap) h.rising (omega arith)) (ap (λ (k : ℕ). blobs_from k (map (λ e. length heap + e) more) (heap ++ others) those) here ∙ blobs-back (length heap) 0 more heap others those refl)

pub AreBlobs-join : (ends heap more others : List ℕ) (validity those : List Bool) → AreBlobs ends heap validity → AreBlobs more others those → AreBlobs (ends ++ map (λ e. length heap + e) more) (heap ++ others) (validity ++ those)
AreBlobs-join ends heap more others validity those h g =
    let many = h.long in
    let others_many = g.long in
    let here : length heap + 0 ≡ length heap = omega arith in
    let long : length heap + length others ≡ length (heap ++ others) = omega (arith, length-append heap others) in
    let moved = rise-shift (length heap) 0 more (length others) g.rising in
    let behind = subst (λ (k : ℕ). IsTrue (rise k (map (λ e. length heap + e) more) (length heap + length others))) here moved in
    record {
      long = omega (arith, length-append ends (map (λ e. length heap + e) more), length-map more (λ (e : ℕ). length heap + e), length-append validity those);
      rising = rise-append 0 ends (map (λ e. length heap + e) more) (length heap) (length (heap ++ others)) h.rising (subst (λ (k : ℕ). IsTrue (rise (length heap) (map (λ e. length heap + e) more) k)) long behind);
    }
