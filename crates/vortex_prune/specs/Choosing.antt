-- What stays true of some columns alone.
use Rattle.std.specs.Prelude.{ℕ, List}
use Rattle.vortex_base.specs.Data.Columns.{ColumnData}
use Rattle.vortex_prune.specs.Part.{AreTrueSets}
use Rattle.vortex_zone_map.specs.Zone.{Entries}
use Rattle.vortex_zone_map.specs.Choosing.{chosen}

-- sets that are true of the columns beside them stay so beside the columns chosen
abbrev pub ChosenSetsStayTrue : Type 0
ChosenSetsStayTrue = (places : List ℕ) (cs : List ColumnData) (ss : List Entries) → AreTrueSets cs ss → AreTrueSets (chosen places cs) (chosen places ss)
