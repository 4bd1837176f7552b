use Rattle.std.proofs.Common.{◌≡◌, ℕ, List, false, take}
use denote.Bor.{Bor}
use Rattle.std.specs.Ordering.{nat_cmp}
use Rattle.std.specs.BTreeSet.{contains_by}
use Rattle.std.specs.Cmp.Lexicographic.{slice_cmp}
use Rattle.std.specs.List.{list_any}
use Rattle.vortex_base.specs.Data.Scopes.{has_duplicate, is_named, named_columns}
use Rattle.vortex_base.proofs.scope.has_duplicate_in_set.Given as goal

-- the set has the names so far, of which none stands twice
abbrev pub invariant-loop-column : goal.invariant-loop-column
invariant-loop-column l = record {
  seen : (q : Bor (List ℕ)) → contains_by (λ k. slice_cmp nat_cmp q.now k.now) l.names ≡ list_any (is_named q.now) (named_columns (take l.column-index l.columns.items));
  distinct : has_duplicate (named_columns (take l.column-index l.columns.items)) ≡ false;
}
