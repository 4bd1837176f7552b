use Rattle.std.proofs.Common.{◌≡◌, ◌+◌, ◌++◌, ◌∷◌, ℕ, [], List, ap, ap₂, arith, length, subst, sym, ◌∙◌}
use Rattle.vortex_zone_map.proofs.BlockLemmas.{new_counted, new_in}
use Rattle.vortex_zone_map.specs.Blocks.{AreCounted, all_in}
use Rattle.vortex_zone_map.specs.declared.blocks.Block.{Block}
use Rattle.vortex_zone_map.specs.declared.entry_range.EntryRange.{EntryRange}
use Rattle.vortex_zone_map.proofs.blocks.Blocks.push_block.Goals as goal

pub returns-clause-pushed : goal.returns-clause-pushed
returns-clause-pushed c =
    let bs = c.count_to.new.self.blocks.items in
    let s = c.args.stretch in
    let new : Block = record { stretches = c.push_reserved.new.self } in
    let same = ap (λ v. v.items) c.count_to.ensures.same in
    let all : c.push_reserved-2.new.self.items ≡ bs ++ new ∷ [] = c.push_reserved-2.ensures.items ∙ ap (λ (l : List Block). l ++ new ∷ []) c.in_ok-reserve.ensures.items in
    let one : c.push_reserved.new.self.items ≡ s ∷ [] = c.push_reserved.ensures.items ∙ ap (λ (l : List EntryRange). l ++ s ∷ []) c.in_ok-stretches.ensures.items in
    ap all_in all ∙ new_in bs new ∙ ap₂ (λ (l : List Block) (r : List EntryRange). all_in l ++ r) same one

pub returns-clause-counted : goal.returns-clause-counted
returns-clause-counted c =
    let l = c.count_to.new.self in
    let bs = l.blocks.items in
    let s = c.args.stretch in
    let new : Block = record { stretches = c.push_reserved.new.self } in
    let same = ap (λ v. v.items) c.count_to.ensures.same in
    let counted = c.count_to.ensures.counted in
    let all : c.push_reserved-2.new.self.items ≡ bs ++ new ∷ [] = c.push_reserved-2.ensures.items ∙ ap (λ (l : List Block). l ++ new ∷ []) c.in_ok-reserve.ensures.items in
    let places : c.push_reserved-3.new.self.items ≡ l.places.items ++ l.count ∷ [] = c.push_reserved-3.ensures.items ∙ ap (λ (l : List ℕ). l ++ c.count_to.new.self.count ∷ []) c.in_ok-reserve-2.ensures.items in
    let one : length c.push_reserved.new.self.items ≡ 1 = ap length (c.push_reserved.ensures.items ∙ ap (λ (l : List EntryRange). l ++ s ∷ []) c.in_ok-stretches.ensures.items) in
    let near : l.near ≡ length bs = c.count_to.ensures.near ∙ c.len-near.ensures ∙ c.args.self.now.blocks.ok.0 ∙ ap length (sym same) in
    let whole = counted.whole in
    let before = c.requires.whole in
    let more = c.in-Some.ensures.1 in
    let long = ap (λ (bs : List Block). length (all_in bs)) same in
    let count : l.count + 1 ≡ c.in-Some.count = omega (arith, whole, before, more, long) in
    let next : l.near + 1 ≡ c.len-near.result + 1 = ap (λ n. n + 1) c.count_to.ensures.near in
    let made = new_counted l.count bs l.places.items l.near new counted near one in
    subst (λ (n : ℕ). AreCounted n c.push_reserved-2.new.self.items c.push_reserved-3.new.self.items (c.len-near.result + 1)) count
    (subst (λ (n : ℕ). AreCounted (l.count + 1) c.push_reserved-2.new.self.items c.push_reserved-3.new.self.items n) next
    (subst (λ (bs : List Block). AreCounted (l.count + 1) bs c.push_reserved-3.new.self.items (l.near + 1)) (sym all)
    (subst (λ (ps : List ℕ). AreCounted (l.count + 1) (bs ++ new ∷ []) ps (l.near + 1)) (sym places) made)))
