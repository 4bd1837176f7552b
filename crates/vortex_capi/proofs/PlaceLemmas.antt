-- Tables with nine places for each column.
use Rattle.std.proofs.Common.{◌≡◌, ◌≢◌, ◌<◌, ◌+◌, ◌*◌, ℕ, zero, suc, Bool, true, false, List, Some, Result, Ok, Err, ap, arith, inl, inr, length, refl, subst, sym, take, drop, get_or, ◌++◌, ◌⊎◌, ◌∙◌}
use Rattle.std.proofs.Math.Seq.{take-append_seam}
use Rattle.std.proofs.lemmas.Option.{same_Some, slice_get-get_or, slice_get_within}
use Rattle.vortex_base.specs.Data.Scopes.{Named}
use Rattle.vortex_zone_map.proofs.ZoneMaps.ZoneNames.{head_tells}
use Rattle.vortex_zone_map.specs.ZoneMaps.{StatColumn, heads}
use Rattle.std.specs.Prelude.{IfOk, replicate, slice_get}
use Rattle.std.specs.Result.{result_ok}

-- each number of each column has a place of its own
pub own_place : (i j a b : ℕ) → a < 9 → b < 9 → i * 9 + a ≡ j * 9 + b → (i ≡ j) × (a ≡ b)
own_place i j a b first second same = (omega (arith, first, second, same), omega (arith, first, second, same))

-- a place within those of so many columns is one of theirs
pub column_within : (i n a : ℕ) → i * 9 + a < n * 9 → i < n
column_within i n a less = omega (arith, less)

pub place_there : (i n a : ℕ) → a < 9 → i < n → i * 9 + a < n * 9
place_there i n a few less = omega (arith, few, less)

pub same_or_not : (j i : ℕ) → (j ≡ i) ⊎ (j ≢ i)
same_or_not zero zero = inl refl
same_or_not zero (suc i) = inr (λ e. omega (arith, e))
same_or_not (suc j) zero = inr (λ e. omega (arith, e))
same_or_not (suc j) (suc i) = elim (same_or_not j i) [ inl e ↦ inl (ap suc e) | inr ne ↦ inr (λ e. ne (omega (arith, e))) ]

pub untrue : (b : Bool) → (b ≡ true → ⊥) → b ≡ false
untrue true n = absurd (n refl)
untrue false n = refl

pub replicated : {X : Type 0} (m : ℕ) (x : X) (k : ℕ) (y : X) → slice_get (replicate m x) k ≡ Some y → x ≡ y
replicated zero x k y at = absurd cc
replicated (suc m) x zero y at = same_Some x y at
replicated (suc m) x (suc k) y at = replicated m x k y at

-- what an allocation holds is what it was made with
pub of_some : {X E : Type 0} (r : Result X E) (P : X → Type 0) (x : X) → Some x ≡ result_ok r → IfOk r P → P x
of_some (Ok y) P x same holds = subst P (sym (same_Some x y same)) holds
of_some (Err e) P x same holds = absurd cc

-- what a call leaves in a list whose length stays
pub written : {X : Type 0} (n : ℕ) (new old : List X) → length new ≡ n → take n (new ++ drop (length new) old) ≡ new
written n new old long = ap (λ k. take k (new ++ drop (length new) old)) (sym long) ∙ take-append_seam new (drop (length new) old)

-- the column that a head of a scope tells of is one of the scope's
pub source_within : (scope : List Named) (hs : List StatColumn) (place : ℕ) (h : StatColumn) → hs ≡ heads scope → place < length hs → h ≡ get_or hs place h → h.source < length scope
source_within scope hs place h same within is =
    let tells = head_tells scope place h (ap (λ l. slice_get l place) (sym same) ∙ slice_get-get_or hs place h within ∙ ap Some (sym is)) in
    slice_get_within scope h.source tells.0 tells.1
