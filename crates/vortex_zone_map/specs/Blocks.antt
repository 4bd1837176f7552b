-- Stretches in blocks, one block behind the other, and how many stretches stand before each block.
use Rattle.std.specs.Prelude.{◌≡◌, ◌<◌, ◌≤◌, ◌+◌, ◌++◌, ℕ, zero, suc, List, [], ◌∷◌, Some, length, slice_get, slice_index_or}
use Rattle.vortex_zone_map.specs.declared.blocks.Block.{Block}
use Rattle.vortex_zone_map.specs.declared.blocks.Blocks.{Blocks}
use Rattle.vortex_zone_map.specs.declared.entry_range.EntryRange.{EntryRange}

-- the stretches of blocks
abbrev pub all_in : List Block → List EntryRange
all_in [] = []
all_in (b ∷ bs) = b.stretches.items ++ all_in bs

abbrev pub all_of : Blocks → List EntryRange
all_of b = all_in b.blocks.items

-- how many stretches stand before the block at a place
abbrev pub before : List Block → ℕ → ℕ
before bs zero = 0
before [] (suc k) = 0
before (b ∷ bs) (suc k) = length b.stretches.items + before bs k

-- the stretch at a place stands in that block
pub record IsBlockOf (bs : List Block) (place k : ℕ) : Type 0 where
  pub there : k < length bs
  pub from : before bs k ≤ place
  pub to : place < before bs (k + 1)

-- so many stretches are counted. For each of so many blocks, the first ones, it is told how many stand before it, for each other one how many stand from it on
pub record AreCounted (count : ℕ) (bs : List Block) (places : List ℕ) (near : ℕ) : Type 0 where
  pub whole : length (all_in bs) ≡ count
  pub long : length places ≡ length bs
  pub within : near ≤ length bs
  pub first : (k : ℕ) → k < near → slice_index_or places k 0 ≡ before bs k
  pub others : (k : ℕ) → near ≤ k → k < length bs → slice_index_or places k 0 + before bs k ≡ count

abbrev pub IsCounted : Blocks → Type 0
IsCounted b = AreCounted b.count b.blocks.items b.places.items b.near

-- these stretches stand together, the first of them at that place
pub record IsRun (ss : List EntryRange) (first : ℕ) (run : List EntryRange) : Type 0 where
  pub at : (i : ℕ) (s : EntryRange) → slice_get run i ≡ Some s → slice_get ss (first + i) ≡ Some s
