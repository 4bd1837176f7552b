-- Optional byte strings, one behind another in one heap.
use Rattle.std.specs.Prelude.{◌≡◌, ◌&&◌, ◌==◌, ℕ, zero, suc, nat_le, Bool, true, false, IsTrue, List, [], ◌∷◌, Option, None, Some, length, slice_range}

-- a byte string that is there or isn't
abbrev pub blob : Bool → List ℕ → Option (List ℕ)
blob true b = Some b
blob false b = None

-- the optional byte strings of a heap, in order: where the first begins, where each ends, and
-- which of them are there
abbrev pub blobs_from : ℕ → List ℕ → List ℕ → List Bool → List (Option (List ℕ))
blobs_from start [] heap validity = []
blobs_from start (end ∷ ends) heap [] = []
blobs_from start (end ∷ ends) heap (t ∷ ts) = blob t (slice_range heap start end) ∷ blobs_from end ends heap ts

-- the same, the first of them at the heap's beginning
abbrev pub blobs : List ℕ → List ℕ → List Bool → List (Option (List ℕ))
blobs ends heap validity = blobs_from 0 ends heap validity

-- the ends never fall from the start on, and the last is that of the heap
abbrev pub rise : ℕ → List ℕ → ℕ → Bool
rise start [] stop = start == stop
rise start (end ∷ ends) stop = nat_le start end && rise end ends stop

-- where the byte string at a place begins
abbrev pub start_at : ℕ → List ℕ → ℕ → ℕ
start_at start ends zero = start
start_at start [] (suc i) = start
start_at start (end ∷ ends) (suc i) = start_at end ends i

-- each byte string has its end, and the ends are in order within the heap
pub record AreBlobs (ends heap : List ℕ) (validity : List Bool) : Type 0 where
  pub long : length ends ≡ length validity
  pub rising : IsTrue (rise 0 ends (length heap))

-- the optional byte string at a place, and none past the end
abbrev pub blob_at : Option (Option (List ℕ)) → Option (List ℕ)
blob_at None = None
blob_at (Some b) = b
