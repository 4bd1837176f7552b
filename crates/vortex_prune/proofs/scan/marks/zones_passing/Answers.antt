use Rattle.std.proofs.Common.{Option, ap, sym, ◌∙◌}
use Rattle.std.specs.Prelude.{option_copied}
use Rattle.vortex_expr.specs.Trees.Tree.{Place, Tree}
use Rattle.vortex_prune.proofs.ZoneMaps.ZoneMarks.{marked_none}
use Rattle.vortex_prune.specs.Scanning.Marks.{is_told, marked}
use Rattle.vortex_prune.proofs.scan.marks.zones_passing.Goals as goal

pub returns-in_ok-vec-in-None : goal.returns-in_ok-vec-in-None
returns-in_ok-vec-in-None c =
    c.in_ok-vec-in-None.ensures.items_if_clones_equal (λ y e. e) ∙ marked_none c.args.map.now 0 c.args.marks.now ∙ ap (λ (o : Option (Tree Place)). marked (is_told o c.args.map.now) 0 c.args.marks.now) (sym (ap option_copied c.in-None.is))
