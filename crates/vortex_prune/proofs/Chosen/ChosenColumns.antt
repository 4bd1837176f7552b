-- Sets that are true of columns stay so of those that are chosen.
use Rattle.std.proofs.Common.{ℕ, zero, suc, List, [], ◌∷◌, Option, Some, None}
use Rattle.std.specs.Prelude.{⊤, slice_get}
use Rattle.std.specs.List.{cons_option}
use Rattle.vortex_base.specs.Data.Columns.{ColumnData}
use Rattle.vortex_stats.specs.Sets.Claims.{IsTrueOf}
use Rattle.vortex_prune.specs.Choosing.{ChosenSetsStayTrue}
use Rattle.vortex_zone_map.specs.Choosing.{chosen}
use Rattle.vortex_prune.specs.Part.{AreTrueSets}
use Rattle.vortex_zone_map.specs.Zone.{Entries}

-- ---- truth

-- both are there, and the set is true of the column, or neither is
abbrev BothTrue : Option ColumnData → Option Entries → Type 0
BothTrue None None = ⊤
BothTrue (Some c) (Some es) = IsTrueOf es c
BothTrue o q = ⊥

true_at : (p : ℕ) (cs : List ColumnData) (ss : List Entries) → AreTrueSets cs ss → BothTrue (slice_get cs p) (slice_get ss p)
true_at p [] [] h = tt
true_at p [] (es ∷ ss) h = absurd h
true_at p (c ∷ cs) [] h = absurd h
true_at zero (c ∷ cs) (es ∷ ss) h = h.0
true_at (suc p) (c ∷ cs) (es ∷ ss) h = true_at p cs ss h.1

true_with : (o : Option ColumnData) (q : Option Entries) (cs : List ColumnData) (ss : List Entries) → BothTrue o q → AreTrueSets cs ss → AreTrueSets (cons_option o cs) (cons_option q ss)
true_with None None cs ss b h = h
true_with None (Some es) cs ss b h = absurd b
true_with (Some c) None cs ss b h = absurd b
true_with (Some c) (Some es) cs ss b h = (b, h)

pub chosen_stay_true : ChosenSetsStayTrue
chosen_stay_true [] cs ss h = tt
chosen_stay_true (p ∷ ps) cs ss h = true_with (slice_get cs p) (slice_get ss p) (chosen ps cs) (chosen ps ss) (true_at p cs ss h) (chosen_stay_true ps cs ss h)
