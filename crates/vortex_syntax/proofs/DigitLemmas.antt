-- The table of the values of hexadecimal digits.
use Rattle.std.proofs.Common.{◌≡◌, ◌<◌, ◌≤◌, ℕ, Bool, true, List, Option, None, Some, get_or, map, nat_lt, replicate, refl, ap, sym, ◌∙◌, arith}
use Rattle.std.proofs.lemmas.Bool.Decides.{nat_tests}
use Rattle.std.proofs.lemmas.List.{get_or-replicate}
use Rattle.std.proofs.lemmas.List.FromFn.{get_or-map-range_with_len}
use Rattle.std.specs.List.{range_with_len}
use Rattle.vortex_syntax.specs.Numbers.{hexadecimal_of}

abbrev or_16 : Option ℕ → ℕ
or_16 None = 16
or_16 (Some d) = d

abbrev is_small : Option ℕ → Bool
is_small None = true
is_small (Some d) = nat_lt d 16

-- the value of each byte
abbrev pub digits : List ℕ
digits = map (λ b. or_16 (hexadecimal_of b)) (range_with_len 0 256)

small : (b : ℕ) → b < 256 → is_small (hexadecimal_of b) ≡ true
small b within =
    let all : map (λ b. is_small (hexadecimal_of b)) (range_with_len 0 256) ≡ replicate 256 true = refl in
    sym (get_or-map-range_with_len (λ b. is_small (hexadecimal_of b)) 0 256 b b true within (omega arith)) ∙ ap (λ (l : List Bool). get_or l b true) all ∙ get_or-replicate 256 b true true within

value_at : (table : List ℕ) (b : ℕ) → table ≡ digits → b < 256 → get_or table b 0 ≡ or_16 (hexadecimal_of b)
value_at table b same within = ap (λ (l : List ℕ). get_or l b 0) same ∙ get_or-map-range_with_len (λ b. or_16 (hexadecimal_of b)) 0 256 b b 0 within (omega arith)

pub digit_at : (table : List ℕ) (b : ℕ) → table ≡ digits → b < 256 → get_or table b 0 < 16 → hexadecimal_of b ≡ Some (get_or table b 0)
digit_at table b same within low = by (hexadecimal_of b) refl
  where
    by : (o : Option ℕ) → hexadecimal_of b ≡ o → hexadecimal_of b ≡ Some (get_or table b 0)
    by None none = let value : get_or table b 0 ≡ 16 = value_at table b same within ∙ ap or_16 none in absurd (omega arith)
    by (Some d) some = some ∙ ap Some (sym (value_at table b same within ∙ ap or_16 some))

pub other_at : (table : List ℕ) (b : ℕ) → table ≡ digits → b < 256 → 16 ≤ get_or table b 0 → hexadecimal_of b ≡ None
other_at table b same within high = by (hexadecimal_of b) refl
  where
    by : (o : Option ℕ) → hexadecimal_of b ≡ o → hexadecimal_of b ≡ None
    by None none = none
    by (Some d) some =
        let value : get_or table b 0 ≡ d = value_at table b same within ∙ ap or_16 some in
        let few : nat_lt d 16 ≡ true = sym (ap is_small some) ∙ small b within in
        let below : d < 16 = grind (arith, nat_tests, few) in
        absurd (omega arith)
