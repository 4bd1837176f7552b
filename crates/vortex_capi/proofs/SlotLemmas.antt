-- One more statistic behind others.
use Rattle.std.proofs.Common.{◌≡◌, ℕ, suc, ◌+◌, List, [], ◌∷◌, ◌++◌, length, refl, sym, ◌∙◌, ap, arith, length-append, add_assoc, zero-add}
use Rattle.std.proofs.lemmas.Grind.{common_steps}
use Rattle.std.proofs.lemmas.List.{map-append}
use Rattle.vortex_capi.specs.declared.slots.Slots.{Slots}
use Rattle.vortex_capi.specs.Slots.{AreSlots, IsOpen, Slot, ends_from, heap}

-- where it ends: behind the values before it and its own
pub ends_more : (n : ℕ) (slots : List Slot) (x : Slot) → ends_from n (slots ++ x ∷ []) ≡ ends_from n slots ++ (n + length (heap slots) + length x.1) ∷ []
ends_more n [] x = grind (arith)
ends_more n (s ∷ slots) x = let e : ends_from (n + length s.1) (slots ++ x ∷ []) ≡ ends_from (n + length s.1) slots ++ (n + length s.1 + length (heap slots) + length x.1) ∷ [] = ends_more (n + length s.1) slots x in rw e (rw (length-append s.1 (heap slots)) (rw (add_assoc n (length s.1) (length (heap slots))) refl))

pub heap_more : (slots : List Slot) (x : Slot) → heap (slots ++ x ∷ []) ≡ heap slots ++ x.1
heap_more [] x = grind (arith, common_steps)
heap_more (s ∷ slots) x = rw (heap_more slots x) (grind (arith, common_steps))

pub length_ends : (n : ℕ) (slots : List Slot) → length (ends_from n slots) ≡ length slots
length_ends n [] = refl
length_ends n (s ∷ slots) = ap suc (length_ends (n + length s.1) slots)

-- the bytes behind the values are those of one more statistic, once it is told how it is known and where it ends
pub slots_closed : (s t : Slots) (slots : List Slot) (k : ℕ) (bytes : List ℕ) → IsOpen s slots bytes → t.values.items ≡ s.values.items → t.known.items ≡ s.known.items ++ k ∷ [] → t.ends.items ≡ s.ends.items ++ length s.values.items ∷ [] → AreSlots t (slots ++ (k, bytes) ∷ [])
slots_closed s t slots k bytes opened v w e = record {
  known = w ∙ ap (λ l. l ++ k ∷ []) opened.known ∙ sym (map-append (λ (x : Slot). x.0) slots ((k, bytes) ∷ []));
  ends =
      let more : ends_from 0 (slots ++ (k, bytes) ∷ []) ≡ ends_from 0 slots ++ (length (heap slots) + length bytes) ∷ [] = ends_more 0 slots (k, bytes) ∙ ap (λ n. ends_from 0 slots ++ (n + length bytes) ∷ []) (zero-add (length (heap slots))) in
      e ∙ rw (opened.ends, opened.values, length-append (heap slots) bytes) (sym more);
  values = v ∙ opened.values ∙ sym (heap_more slots (k, bytes));
}
