-- A table of zones as it is built, and that it is a chunk.
use Rattle.std.proofs.Common.{◌≡◌, ◌<◌, ◌+◌, ◌++◌, ℕ, suc, Bool, true, false, if◌then◌else◌, List, [], ◌∷◌, Option, Some, append_assoc, arith, cond, drop, get_or, length, map, refl, sym, ap, take, ◌∙◌}
use Rattle.std.specs.Prelude.{slice_get}
use Rattle.std.specs.List.{filter}
use Rattle.std.proofs.lemmas.List.{drop_more, length-append, length-map, map-append}
use Rattle.std.proofs.Math.Seq.{take-suc}
use Rattle.std.proofs.lemmas.Option.{get_or_from_slice_get, slice_get-get_or}
use Rattle.vortex_base.specs.Data.Scopes.{Named}
use Rattle.vortex_expr.specs.Meanings.Typing.{stat_type}
use Rattle.vortex_base.specs.declared.aggregate.AggregateFnRef.{AggregateFnRef}
use Rattle.vortex_base.specs.declared.dtype.DType.{DType}
use Rattle.vortex_base.specs.declared.scalar_value.ScalarValue.{ScalarValue}
use Rattle.vortex_zone_map.proofs.ZoneLemmas.{rest_of}
use Rattle.vortex_zone_map.specs.Zone.{ZoneData}
use Rattle.vortex_zone_map.specs.ZoneMaps.{StatColumn, head, heads_from, is_typed, starts_from, supporting, told_of, zone_value}

-- ---- what there is for each aggregate that supports a type, as it is listed

module _ {X : Type 0} (make : AggregateFnRef → X) (t : DType) where
  -- what is made of each aggregate that supports the type
  abbrev pub listed : List AggregateFnRef → List X
  listed fs = map make (filter (λ f. is_typed (stat_type f t)) fs)

  -- what is made of one, if it supports the type
  abbrev pub listed_if : Bool → X → List X
  listed_if b x = if b then x ∷ [] else []

  one_listed : (b : Bool) (f : AggregateFnRef) (fs : List AggregateFnRef) → map make (cond b (f ∷ fs) fs) ≡ listed_if b (make f) ++ map make fs
  one_listed true f fs = refl
  one_listed false f fs = refl

  -- one more aggregate was looked at
  listed_more : (fs : List AggregateFnRef) (k : ℕ) (f : AggregateFnRef) (old new all : List X) → k < length fs → f ≡ get_or fs k f → new ≡ old ++ listed_if (is_typed (stat_type f t)) (make f)
      → old ++ listed (drop k fs) ≡ all → new ++ listed (drop (k + 1) fs) ≡ all
  listed_more fs k f old new all h is pushed before =
      let first = listed_if (is_typed (stat_type f t)) (make f) in
      let rest = listed (drop (k + 1) fs) in
      let split : listed (drop k fs) ≡ first ++ rest = ap listed (drop_more fs k f h ∙ ap (λ x. x ∷ drop (k + 1) fs) (sym is)) ∙ one_listed (is_typed (stat_type f t)) f (filter (λ g. is_typed (stat_type g t)) (drop (k + 1) fs)) in
      ap (λ l. l ++ rest) pushed ∙ append_assoc old first rest ∙ ap (λ l. old ++ l) (sym split) ∙ before

-- one more column of the scope was looked at
pub heads_more : (cs : List Named) (i : ℕ) (c : Named) (old new all : List StatColumn) → slice_get cs i ≡ Some c → new ≡ old ++ map (head i c) (supporting c.1) → old ++ heads_from i (drop i cs) ≡ all
    → new ++ heads_from (i + 1) (drop (i + 1) cs) ≡ all
heads_more cs i c old new all there pushed before =
    let rest = heads_from (i + 1) (drop (i + 1) cs) in
    ap (λ l. l ++ rest) pushed ∙ append_assoc old (map (head i c) (supporting c.1)) rest ∙ ap (λ l. old ++ heads_from i l) (sym (rest_of cs i c there)) ∙ before

pub starts_more : (cs : List Named) (i : ℕ) (c : Named) (old new : List StatColumn) (starts after all : List ℕ) → slice_get cs i ≡ Some c → new ≡ old ++ map (head i c) (supporting c.1)
    → after ≡ starts ++ length old ∷ [] → starts ++ starts_from (length old) (drop i cs) ≡ all → after ++ starts_from (length new) (drop (i + 1) cs) ≡ all
starts_more cs i c old new starts after all there headed pushed before =
    let long : length new ≡ length old + length (supporting c.1) = ap length headed ∙ length-append old (map (head i c) (supporting c.1)) ∙ ap (λ n. length old + n) (length-map (supporting c.1) (head i c)) in
    let rest = starts_from (length old + length (supporting c.1)) (drop (i + 1) cs) in
    ap (λ n. after ++ starts_from n (drop (i + 1) cs)) long ∙ ap (λ l. l ++ rest) pushed ∙ append_assoc starts (length old ∷ []) rest ∙ ap (λ l. starts ++ starts_from (length old) l) (sym (rest_of cs i c there)) ∙ before

pub listed_at : {X : Type 0} (make : AggregateFnRef → X) (t : DType) (fs : List AggregateFnRef) (k : ℕ) (d : AggregateFnRef) (old new all : List X) → k < length fs → (gs : List AggregateFnRef) → gs ≡ fs
    → new ≡ old ++ listed_if make t (is_typed (stat_type (get_or gs k d) t)) (make (get_or gs k d)) → old ++ listed make t (drop k fs) ≡ all → new ++ listed make t (drop (k + 1) fs) ≡ all
listed_at make t fs k d old new all h gs same pushed before =
    let f = get_or fs k d in
    let is : f ≡ get_or fs k f = sym (get_or_from_slice_get fs k f f (slice_get-get_or fs k d h)) in
    listed_more make t fs k f old new all h is (pushed ∙ ap (λ xs. old ++ listed_if make t (is_typed (stat_type (get_or xs k d) t)) (make (get_or xs k d))) same) before

-- one more element was mapped
pub mapped_more : {X Y : Type 0} (f : X → Y) (xs : List X) (n : ℕ) (x : X) (old : List Y) → n < length xs → x ≡ get_or xs n x → old ≡ map f (take n xs) → old ++ f x ∷ [] ≡ map f (take (n + 1) xs)
mapped_more f xs n x old h is before =
    let next : n + 1 ≡ suc n = omega arith in
    ap (λ l. l ++ f x ∷ []) before ∙ ap (λ y. map f (take n xs) ++ f y ∷ []) is ∙ sym (map-append f (take n xs) (get_or xs n x ∷ [])) ∙ ap (map f) (sym (ap (λ k. take k xs) next ∙ take-suc xs n x h))

-- ---- the values of one zone, as they are listed

module _ (zone : ZoneData) where
  values_headed : (i : ℕ) (c : Named) (fs : List AggregateFnRef) → map (told_of zone) (map (head i c) fs) ≡ map (λ f. zone_value f i zone) fs
  values_headed i c [] = refl
  values_headed i c (f ∷ fs) = ap (λ vs. zone_value f i zone ∷ vs) (values_headed i c fs)

  -- one more column of the scope was looked at
  pub values_more : (cs : List Named) (i : ℕ) (c : Named) (old new all : List (Option ScalarValue)) → slice_get cs i ≡ Some c → new ≡ old ++ map (λ f. zone_value f i zone) (supporting c.1)
      → old ++ map (told_of zone) (heads_from i (drop i cs)) ≡ all → new ++ map (told_of zone) (heads_from (i + 1) (drop (i + 1) cs)) ≡ all
  values_more cs i c old new all there pushed before =
      let rest = map (told_of zone) (heads_from (i + 1) (drop (i + 1) cs)) in
      let first = map (λ f. zone_value f i zone) (supporting c.1) in
      let split : map (told_of zone) (heads_from i (drop i cs)) ≡ first ++ rest =
      ap (λ l. map (told_of zone) (heads_from i l)) (rest_of cs i c there) ∙ map-append (told_of zone) (map (head i c) (supporting c.1)) (heads_from (i + 1) (drop (i + 1) cs))
      ∙ ap (λ vs. vs ++ rest) (values_headed i c (supporting c.1)) in
      ap (λ l. l ++ rest) pushed ∙ append_assoc old first rest ∙ ap (λ l. old ++ l) (sym split) ∙ before
