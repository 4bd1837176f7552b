-- The boxes of a list of rules, read as plain data.
use Rattle.std.specs.Prelude.{List, map}
use Rattle.std.specs.declared.alloc.Global.{Global}
use Rattle.std.specs.declared.dyn_box.DynBox.{DynBox}
use Rattle.vortex_rewrite.specs.Rewriting.Lawful.{OwnRule}
use Rattle.vortex_rewrite.specs.declared.rewrite.rule.StatsRewriteRule.{Ghosts}

abbrev pub own_rule : {I : Type 0} {D : I → Type 0} → ((b : DynBox I Global D) → Ghosts (D b.vtable)) → DynBox I Global D → OwnRule
own_rule M b = record {
  id = (M b).id b.value;
  falsifier = (M b).falsifier b.value;
  satisfier = (M b).satisfier b.value;
  can_fault = (M b).can_fault b.value;
  is_lawful = (M b).is_lawful b.value;
}

abbrev pub own_rules : {I : Type 0} {D : I → Type 0} → ((b : DynBox I Global D) → Ghosts (D b.vtable)) → List (DynBox I Global D) → List OwnRule
own_rules M bs = map (own_rule M) bs
