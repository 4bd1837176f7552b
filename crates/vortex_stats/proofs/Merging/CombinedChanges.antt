-- A combination that finds all changes before it makes one.
use Rattle.std.proofs.Common.{◌≡◌, false, List, [], ◌∷◌, ◌++◌, Some, Ok, refl, sym, ap, ◌∙◌}
use Rattle.std.proofs.lemmas.Cmp.{nat_eq_equiv}
use Rattle.vortex_base.specs.declared.scalar_value.ScalarValue.{ScalarValue}
use Rattle.vortex_stats.specs.declared.merge.Change.{Change}
use Rattle.vortex_stats.specs.declared.merge.Change.TheVariants.{Kept, Set, Cleared}
use Rattle.vortex_stats.specs.declared.precision.Precision.{Precision}
use Rattle.vortex_stats.specs.declared.stat.Stat.{Stat}
use Rattle.vortex_stats.specs.Sets.Changes.{changed, changed_by}
use Rattle.vortex_stats.specs.Merging.Combined.{combined_by, combined_entry}
use Rattle.vortex_stats.specs.Merging.CombineSteps.{IsChange, AgreeOn}
use Rattle.vortex_stats.specs.Sets.Entries.{has_entry, entry_value}
use Rattle.vortex_stats.specs.Stat.{stat_number, stat_eq}
use Rattle.vortex_stats.proofs.Logic.{or_left_false, or_right_false}
use Rattle.vortex_stats.proofs.Sets.Lookups.{entry_value-with_other, entry_value-without_other}

-- one more change is made last
pub changed_by-last : (xs : List (Stat × Change)) (x : Stat × Change) (es : List (Stat × Precision ScalarValue)) → changed_by (xs ++ x ∷ []) es ≡ changed x.0 x.1 (changed_by xs es)
changed_by-last [] x es = refl
changed_by-last (y ∷ xs) x es = changed_by-last xs x (changed y.0 y.1 es)

pub agree_with_itself : (es left : List (Stat × Precision ScalarValue)) → AgreeOn es left left
agree_with_itself [] left = tt
agree_with_itself (e ∷ es) left = (refl, agree_with_itself es left)

other_value : (s t : Stat) (c : Change) (es : List (Stat × Precision ScalarValue)) → stat_eq t s ≡ false → entry_value t (changed s c es) ≡ entry_value t es
other_value s t Kept es n = refl
other_value s t (Set p) es n = entry_value-with_other s t p es (nat_eq_equiv.symm (stat_number s) (stat_number t) ∙ n)
other_value s t Cleared es n = entry_value-without_other s t es n

-- a change touches no other statistic
pub agree_after : (s : Stat) (c : Change) (es left work : List (Stat × Precision ScalarValue)) → has_entry s es ≡ false → AgreeOn es left work → AgreeOn es left (changed s c work)
agree_after s c [] left work n h = tt
agree_after s c (e ∷ es) left work n h =
    (other_value s e.0 c work (or_left_false (stat_eq e.0 s) (has_entry s es) n) ∙ h.0, agree_after s c es left work (or_right_false (stat_eq e.0 s) (has_entry s es) n) h.1)

-- the change that was found at the left value is the step from the entries as they are by then
pub combined-by_change : (left work : List (Stat × Precision ScalarValue)) (e : Stat × Precision ScalarValue) (p : Precision ScalarValue) (c : Change)
    → p ≡ entry_value e.0 left → entry_value e.0 work ≡ entry_value e.0 left → IsChange e.0 p e.1 (Ok c) → combined_entry work e ≡ Some (changed e.0 c work)
combined-by_change left work e p c found agree h = ap (λ q. combined_by e.0 q e.1 work) (agree ∙ sym found) ∙ h work
