-- Row groups as zones, as a loop makes them.
use Rattle.std.proofs.Common.{◌≡◌, ℕ, ◌+◌, ◌≤◌, ◌<◌, List, [], ◌∷◌, ◌++◌, length, sym, ap, ◌∙◌, map, drop, drop-cons, get_or, append_assoc, add-one}
use Rattle.std.proofs.lemmas.List.{append-nil, drop_all}
use Rattle.vortex_parquet.specs.declared.stats.GroupStats.{GroupStats}
use Rattle.vortex_zone_map.specs.Zone.{ZoneData}
use Rattle.vortex_predicates.specs.RowGroups.Pruning.{zone_data}

pub zones_go : (gs : List GroupStats) (front : List ZoneData) (i : ℕ) (g : GroupStats) (z : ZoneData) → i < length gs → g ≡ get_or gs i g → z ≡ zone_data g
    → front ++ map zone_data (drop i gs) ≡ map zone_data gs → (front ++ z ∷ []) ++ map zone_data (drop (i + 1) gs) ≡ map zone_data gs
zones_go gs front i g z lt e h so_far =
    let others : List ZoneData = map zone_data (drop (i + 1) gs) in
    let one : map zone_data (drop i gs) ≡ z ∷ others =
    ap (map zone_data) (drop-cons gs i g lt ∙ ap (λ (n : ℕ). get_or gs i g ∷ drop n gs) (sym (add-one i)))
    ∙ ap (λ (x : GroupStats). zone_data x ∷ others) (sym e) ∙ ap (λ (y : ZoneData). y ∷ others) (sym h) in
    append_assoc front (z ∷ []) others ∙ ap (λ (ys : List ZoneData). front ++ ys) (sym one) ∙ so_far

pub zones_done : (gs : List GroupStats) (front : List ZoneData) (i : ℕ) → length gs ≤ i → front ++ map zone_data (drop i gs) ≡ map zone_data gs → front ≡ map zone_data gs
zones_done gs front i le so_far =
    let none : map zone_data (drop i gs) ≡ [] = ap (map zone_data) (drop_all i gs le) in
    sym (append-nil front) ∙ ap (λ (ys : List ZoneData). front ++ ys) (sym none) ∙ so_far
