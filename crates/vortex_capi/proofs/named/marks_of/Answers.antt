use Rattle.std.proofs.Common.{◌≡◌, ◌++◌, Bool, List, Option, drop, false, length, rules, subst, subst₂, sym, take, ◌∙◌}
use Rattle.vortex_expr.specs.Trees.Tree.{Place, Tree}
use Rattle.vortex_capi.specs.NamedStats.{AreMarks, either_names, names_if}
use Rattle.vortex_capi.proofs.MarkLemmas.{no_marks}
use Rattle.vortex_capi.proofs.PlaceLemmas.{of_some, written}
use Rattle.vortex_capi.proofs.named.marks_of.Goals as goal

pub returns : goal.returns
returns c =
    let f = c.args.proofs.now.falsifier in
    let t = c.args.proofs.now.satisfier in
    let v = c.in_ok-marks.marks in
    let first = c.mark_if.new.marks in
    let both = c.mark_if-2.new.marks in
    let made = of_some c.vec.result _ v c.in_ok-marks.ensures.value c.vec.ensures.items_if_clones_equal in
    let none = no_marks c.in_ok-checked_mul.field-0 c.deref_mut.result.now (c.deref_mut.ensures.value ∙ made (λ y h. h)) in
    let first_is : take v.len (first ++ drop (length first) v.items) ≡ first = written v.len first v.items (c.mark_if.auto.marks ∙ c.deref_mut.ensures.len) in
    let both_is : take v.len (both ++ drop (length both) (take v.len (first ++ drop (length first) v.items))) ≡ both =
    written v.len both (take v.len (first ++ drop (length first) v.items)) (c.mark_if-2.auto.marks ∙ c.deref_mut-2.ensures.len) in
    let by_first : AreMarks (names_if f) c.deref_mut-2.result.now = subst₂ (λ (o : Option (Tree Place)) (m : List Bool). AreMarks (names_if o) m) c.falsifier.ensures (sym (c.deref_mut-2.ensures.value ∙ first_is)) (c.mark_if.ensures (λ i g. false) none) in
    let by_both : AreMarks (either_names f t) both = subst (λ (o : Option (Tree Place)). AreMarks (either_names f o) both) c.satisfier.ensures (c.mark_if-2.ensures (names_if f) by_first) in
    record {
      wide = search rules;
      told = subst (AreMarks (either_names f t)) (sym both_is) by_both;
    }
