-- Joined parts are parts, and of true parts true ones.
use Rattle.std.proofs.Common.{◌≡◌, true, List, [], ◌∷◌, Result, Ok, Err, IfOk, refl, sym, ap, subst, ◌∙◌}
use Rattle.vortex_base.proofs.Data.AppendLemmas.{same_type}
use Rattle.vortex_base.proofs.Data.ChunkLemmas.{IsChunk-appended, chunks_may_append}
use Rattle.vortex_base.specs.Data.Columns.{ChunkData, ColumnData, all_appended, appended_chunk, can_append, sizes_fit}
use Rattle.vortex_base.specs.Data.Exact.{both_hold, both_true}
use Rattle.vortex_base.specs.declared.dtype.DType.{DType}
use Rattle.vortex_prune.specs.Part.{AreTrueSets, IsPart, IsTruePart, PartData, joined, sets_fit}
use Rattle.vortex_zone_map.specs.Zone.{Entries, merged_sets}
use Rattle.vortex_stats.proofs.Kit.{merged_ordered-fits, merged_ordered_is_true}
use Rattle.vortex_stats.specs.Sets.Entries.{entries_fit}

merged_fit : (cs ds : List ColumnData) (xs ys : List Entries) → can_append cs ds ≡ true → sets_fit cs xs ≡ true → sets_fit ds ys ≡ true → sets_fit (all_appended cs ds) (merged_sets xs ys) ≡ true
merged_fit [] [] [] [] h p q = refl
merged_fit [] [] [] (y ∷ ys) h p q = cc
merged_fit [] [] (x ∷ xs) ys h p q = cc
merged_fit [] (d ∷ ds) xs ys h p q = cc
merged_fit (c ∷ cs) [] xs ys h p q = cc
merged_fit (c ∷ cs) (d ∷ ds) [] ys h p q = cc
merged_fit (c ∷ cs) (d ∷ ds) (x ∷ xs) [] h p q = cc
merged_fit (c ∷ cs) (d ∷ ds) (x ∷ xs) (y ∷ ys) h p q =
    let types = same_type c d cs ds h in
    let fits = subst (λ (t : DType). entries_fit y t ≡ true) (sym types) (both_true _ _ q).0 in
    both_hold _ _ (merged_ordered-fits c.dtype x y (both_true _ _ p).0 fits) (merged_fit cs ds xs ys (both_true _ _ h).1 (both_true _ _ p).1 (both_true _ _ q).1)

merged_true : (cs ds : List ColumnData) (xs ys : List Entries) → can_append cs ds ≡ true → AreTrueSets cs xs → AreTrueSets ds ys → AreTrueSets (all_appended cs ds) (merged_sets xs ys)
merged_true [] [] [] [] h p q = tt
merged_true [] [] [] (y ∷ ys) h p q = absurd q
merged_true [] [] (x ∷ xs) ys h p q = absurd p
merged_true [] (d ∷ ds) xs ys h p q = cc
merged_true (c ∷ cs) [] xs ys h p q = cc
merged_true (c ∷ cs) (d ∷ ds) [] ys h p q = absurd p
merged_true (c ∷ cs) (d ∷ ds) (x ∷ xs) [] h p q = absurd q
merged_true (c ∷ cs) (d ∷ ds) (x ∷ xs) (y ∷ ys) h p q =
    (merged_ordered_is_true x y c d (same_type c d cs ds h) p.0 q.0, merged_true cs ds xs ys (both_true _ _ h).1 p.1 q.1)

may_join : (p q : PartData) → IsPart p → IsPart q → p.chunk.scope ≡ q.chunk.scope → sizes_fit p.chunk.columns q.chunk.columns ≡ true → can_append p.chunk.columns q.chunk.columns ≡ true
may_join p q h g scope sizes = chunks_may_append p.chunk q.chunk h.0 g.0 scope sizes

-- the joined part is a part
pub joined_is_part : (p q : PartData) → IsPart p → IsPart q → p.chunk.scope ≡ q.chunk.scope → sizes_fit p.chunk.columns q.chunk.columns ≡ true → IsPart (joined p q)
joined_is_part p q h g scope sizes =
    let can = may_join p q h g scope sizes in
    (IsChunk-appended p.chunk q.chunk h.0 g.0 can, merged_fit p.chunk.columns q.chunk.columns p.stats q.stats can h.1 g.1)

-- of true parts it is a true one
pub joined_is_true : (p q : PartData) → IsPart p → IsPart q → p.chunk.scope ≡ q.chunk.scope → sizes_fit p.chunk.columns q.chunk.columns ≡ true → IsTruePart p → IsTruePart q → IsTruePart (joined p q)
joined_is_true p q h g scope sizes = merged_true p.chunk.columns q.chunk.columns p.stats q.stats (may_join p q h g scope sizes)

-- the same of parts as they are seen
pub seen_is_part : (k l p q : PartData) (chunk : ChunkData) (sets : List Entries) → k ≡ p → l ≡ q → IsPart k → IsPart l → p.chunk.scope ≡ q.chunk.scope
    → sizes_fit p.chunk.columns q.chunk.columns ≡ true → chunk ≡ appended_chunk k.chunk l.chunk → sets ≡ merged_sets p.stats q.stats → IsPart (record { chunk = chunk; stats = sets })
seen_is_part k l p q chunk sets first second h g scope sizes is merged =
    let p' : IsPart p = subst (λ (x : PartData). IsPart x) first h in
    let q' : IsPart q = subst (λ (x : PartData). IsPart x) second g in
    let chunk' : chunk ≡ appended_chunk p.chunk q.chunk = is ∙ ap (λ (x : PartData). appended_chunk x.chunk l.chunk) first ∙ ap (λ (x : PartData). appended_chunk p.chunk x.chunk) second in
    rw (chunk', merged) (joined_is_part p q p' q' scope sizes)

-- the truth of a joined part, where there is one
pub truth_of_join : {E : Type 0} (k l p q : PartData) (r : Result PartData E) → k ≡ p → l ≡ q → IsPart k → IsPart l → p.chunk.scope ≡ q.chunk.scope
    → sizes_fit k.chunk.columns l.chunk.columns ≡ true → IfOk r (λ part. part ≡ joined p q) → IfOk r (λ part. IsTruePart p → IsTruePart q → IsTruePart part)
truth_of_join k l p q (Err e) first second h g scope sizes is = tt
truth_of_join k l p q (Ok part) first second h g scope sizes is =
    let sizes' : sizes_fit p.chunk.columns q.chunk.columns ≡ true =
    ap (λ (x : PartData). sizes_fit x.chunk.columns q.chunk.columns) (sym first) ∙ ap (λ (x : PartData). sizes_fit k.chunk.columns x.chunk.columns) (sym second) ∙ sizes in
    λ t u. subst (λ (x : PartData). IsTruePart x) (sym is)
    (joined_is_true p q (subst (λ (x : PartData). IsPart x) first h) (subst (λ (x : PartData). IsPart x) second g) scope sizes' t u)
