use Rattle.std.proofs.Common.{sym}
use Rattle.vortex_base.proofs.Data.ChunkLemmas.{IsChunk-appended, IsChunk-emptied, row_count_emptied, seen_may_append}
use Rattle.vortex_base.specs.contracts.chunk.Chunk.{the_view}
use Rattle.vortex_base.proofs.chunk.Chunk.append.Goals as goal

-- both chunks are of one scope, and their sizes fit
pub append_all-requires : goal.append_all-requires
append_all-requires c =
    seen_may_append (the_view c.self.inside) (the_view c.other.inside) _ _ c.self.view_is c.other.view_is c.self.invariant.1 c.other.invariant.1 c.requires.scope c.requires.sizes

-- the appended columns are a chunk's
pub invariant_of-self-2 : goal.invariant_of-self-2
invariant_of-self-2 c =
    let k = the_view c.self.inside in
    let l = the_view c.other.inside in
    let can = seen_may_append k l _ _ c.self.view_is c.other.view_is c.self.invariant.1 c.other.invariant.1 c.requires.scope c.requires.sizes in
    (rw c.deref.ensures.value at c.row_count-self-inside.ensures, rw c.in_ok-append_all.ensures.appended (IsChunk-appended k l c.self.invariant.1 c.other.invariant.1 can))

-- so are the emptied ones
pub invariant_of-other-2 : goal.invariant_of-other-2
invariant_of-other-2 c =
    let l = the_view c.other.inside in
    (rw c.in_ok-append_all.ensures.emptied (sym (row_count_emptied l.columns)), rw c.in_ok-append_all.ensures.emptied (IsChunk-emptied l c.other.invariant.1))
