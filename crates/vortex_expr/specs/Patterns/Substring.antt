-- Words for the search for a run of letters in a text.
use Rattle.std.specs.Prelude.{◌≡◌, ◌≢◌, ℕ, ◌+◌, ◌<◌, ◌≤◌, Bool, true, false, List, length, drop, max, slice_index, if◌then◌else◌}
use Rattle.memchr.specs.Critical.{IsCritical, NoPeriodBelow}
use Rattle.memchr.specs.TwoWay.{OccursIn}
use Rattle.vortex_expr.specs.declared.like.substring.Letters.{Letters}
use Rattle.vortex_expr.specs.declared.like.substring.Cut.{Cut}
use Rattle.vortex_expr.specs.declared.like.substring.Comparison.{Comparison}
use Rattle.vortex_expr.specs.declared.like.substring.Comparison.TheVariants.{Same, Differs, Short}
use Rattle.vortex_expr.specs.Patterns.Like.{items}
use Rattle.vortex_expr.specs.Patterns.LikeSearch.{characters}
use Rattle.vortex_expr.specs.Patterns.Prefix.{literal_prefix}

-- the letters that are left
abbrev pub letters : Letters → List ℕ
letters l = if l.of_pattern then literal_prefix (items (characters l.rest)) else characters l.rest

-- xs stands in ys at place k
abbrev pub StandsAt : List ℕ → List ℕ → ℕ → Type 0
StandsAt xs ys k = OccursIn (slice_index xs) (length xs) (slice_index ys) (length ys) k

-- rest is what is left of ys from some place on, and xs stands at no place before it
pub record IsPast (xs ys rest : List ℕ) : Type 0 where
  pub place : ℕ
  pub is : rest ≡ drop place ys
  pub none : (k : ℕ) → k < place → ¬ StandsAt xs ys k

-- which of two letters comes first in an order or in its reverse
abbrev pub Precedes : Bool → ℕ → ℕ → Type 0
Precedes true a b = b < a
Precedes false a b = a < b

-- the first n letters are the same
abbrev pub AreSame : List ℕ → List ℕ → ℕ → Type 0
AreSame xs ys n = (k : ℕ) → k < n → slice_index xs k ≡ slice_index ys k

-- the first n letters of xs compare so with those of ys
abbrev pub Compared : List ℕ → List ℕ → ℕ → Comparison → Type 0
Compared xs ys n (Same rest) = (n ≤ length ys) × AreSame xs ys n × (letters rest ≡ drop n ys)
Compared xs ys n (Differs i rest) = (i < n) × (i < length ys) × AreSame xs ys i × (slice_index xs i ≢ slice_index ys i) × (letters rest ≡ drop (i + 1) ys)
Compared xs ys n Short = length ys < n

-- m letters are cut at a critical place, the shift passes over no match, and what is kept stands after it
pub record IsCutOf (x : ℕ → ℕ) (m : ℕ) (c : Cut) : Type 0 where
  pub below : c.critical < m
  pub critical : IsCritical x m c.critical
  pub some : 0 < c.shift
  pub short : c.shift + c.keep ≤ m
  pub none : NoPeriodBelow x m c.shift
  pub reach : m ≤ c.shift + max c.critical c.keep
  pub kept : (k : ℕ) → k < c.keep → (c.critical ≤ k + c.shift) × (x k ≡ x (k + c.shift))
