-- Sets made of statistics that are true are true.
use Rattle.std.proofs.Common.{◌≡◌, ℕ, Bool, true, false, cond, List, [], ◌∷◌, Option, Some, None, Ok, refl, sym, ap, subst, Contains}
use Rattle.std.specs.Prelude.{slice_get}
use Rattle.vortex_base.specs.declared.scalar_value.ScalarValue.{ScalarValue}
use Rattle.vortex_base.specs.declared.scalar_value.ScalarValue.TheVariants as value
use Rattle.vortex_base.specs.declared.pvalue.PValue.TheVariants as number
use Rattle.vortex_base.specs.Data.Columns.{ColumnData}
use Rattle.vortex_stats.specs.declared.stat.Stat.{Stat}
use Rattle.vortex_stats.specs.declared.stat.Stat.TheVariants.{IsConstant, IsSorted, IsStrictSorted, Max, Min, Sum, NullCount, UncompressedSizeInBytes, NaNCount}
use Rattle.vortex_stats.specs.Sets.Claims.{Claims, ClaimsCount, ClaimsMax, ClaimsMin, NoneAbove, NoneBelow, null_count}
use Rattle.vortex_stats.specs.Sets.Entries.{entry_value}
use Rattle.vortex_parquet.specs.declared.columns.Form.{Form}
use Rattle.vortex_parquet.specs.declared.columns.Leaf.{Leaf}
use Rattle.vortex_parquet.specs.Reading.{◌>>=◌}
use Rattle.vortex_parquet.specs.Fields.{on_found}
use Rattle.vortex_parquet.specs.Records.{ColumnChunkData, StatisticsData, chunk_of, is_number}
use Rattle.vortex_parquet.specs.Columns.{is_signed}
use Rattle.vortex_parquet.specs.Stats.{Entries, all_of, bound_by, chosen, chunk_set, count_of, greatest_value, leaf_set, or_false, precise, set_of, set_or_none, span_set, statistics_by, told, value_of}
use Rattle.vortex_parquet.specs.Truth.{AreTrue, AreTrueOf, AreTrueSets, Fit, TrueGroups}
use Rattle.vortex_parquet.proofs.Sound.{bind_ok, one_ok}

precise_max : (exact : Bool) (o : Option ScalarValue) (xs : List (Option ScalarValue)) → ((v : ScalarValue) → o ≡ Some v → NoneAbove v xs × (exact ≡ true → Contains xs (Some v))) → ClaimsMax (precise exact o) xs
precise_max true None xs h = tt
precise_max false None xs h = tt
precise_max true (Some v) xs h = let k = h v refl in (k.1 refl, k.0)
precise_max false (Some v) xs h = (h v refl).0

precise_min : (exact : Bool) (o : Option ScalarValue) (xs : List (Option ScalarValue)) → ((v : ScalarValue) → o ≡ Some v → NoneBelow v xs × (exact ≡ true → Contains xs (Some v))) → ClaimsMin (precise exact o) xs
precise_min true None xs h = tt
precise_min false None xs h = tt
precise_min true (Some v) xs h = let k = h v refl in (k.1 refl, k.0)
precise_min false (Some v) xs h = (h v refl).0

old_max_true : (f : Form) (signed : Bool) (older : Option (List ℕ)) (xs : List (Option ScalarValue)) → (signed ≡ true → (b : List ℕ) (v : ScalarValue) → older ≡ Some b → greatest_value f b ≡ Some v → NoneAbove v xs) → ClaimsMax (bound_by (greatest_value f) (cond signed (told older false) None)) xs
old_max_true f false older xs h = tt
old_max_true f true None xs h = tt
old_max_true f true (Some b) xs h = precise_max false (greatest_value f b) xs (λ v e. (h refl b v refl e, λ t. absurd cc))

old_min_true : (f : Form) (signed : Bool) (older : Option (List ℕ)) (xs : List (Option ScalarValue)) → (signed ≡ true → (b : List ℕ) (v : ScalarValue) → older ≡ Some b → value_of f b ≡ Some v → NoneBelow v xs) → ClaimsMin (bound_by (value_of f) (cond signed (told older false) None)) xs
old_min_true f false older xs h = tt
old_min_true f true None xs h = tt
old_min_true f true (Some b) xs h = precise_min false (value_of f b) xs (λ v e. (h refl b v refl e, λ t. absurd cc))

max_true : (f : Form) (ordered : Bool) (newer older : Option (List ℕ)) (exact : Bool) (xs : List (Option ScalarValue))
    → (ordered ≡ true → (b : List ℕ) (v : ScalarValue) → newer ≡ Some b → greatest_value f b ≡ Some v → NoneAbove v xs × (exact ≡ true → Contains xs (Some v)))
    → (is_signed f ≡ true → (b : List ℕ) (v : ScalarValue) → older ≡ Some b → greatest_value f b ≡ Some v → NoneAbove v xs)
    → ClaimsMax (bound_by (greatest_value f) (chosen f ordered newer older exact)) xs
max_true f false newer older exact xs h k = old_max_true f (is_signed f) older xs k
max_true f true None older exact xs h k = old_max_true f (is_signed f) older xs k
max_true f true (Some b) older exact xs h k = precise_max exact (greatest_value f b) xs (λ v e. h refl b v refl e)

min_true : (f : Form) (ordered : Bool) (newer older : Option (List ℕ)) (exact : Bool) (xs : List (Option ScalarValue))
    → (ordered ≡ true → (b : List ℕ) (v : ScalarValue) → newer ≡ Some b → value_of f b ≡ Some v → NoneBelow v xs × (exact ≡ true → Contains xs (Some v)))
    → (is_signed f ≡ true → (b : List ℕ) (v : ScalarValue) → older ≡ Some b → value_of f b ≡ Some v → NoneBelow v xs)
    → ClaimsMin (bound_by (value_of f) (chosen f ordered newer older exact)) xs
min_true f false newer older exact xs h k = old_min_true f (is_signed f) older xs k
min_true f true None older exact xs h k = old_min_true f (is_signed f) older xs k
min_true f true (Some b) older exact xs h k = precise_min exact (value_of f b) xs (λ v e. h refl b v refl e)

count_true : (o : Option ℕ) (n : ℕ) → ((m : ℕ) → o ≡ Some m → n ≡ m) → ClaimsCount (count_of o) n
count_true None n h = tt
count_true (Some m) n h = ap (λ (k : ℕ). value.Primitive (number.U64 k)) (sym (h m refl))

-- the claim of each entry of the set holds
pub set_claims : (f : Form) (ordered : Bool) (s : StatisticsData) (c : ColumnData) → AreTrue f ordered s c.values → (stat : Stat) → Claims stat (entry_value stat (set_of f ordered s)) c
unfolding set_of
set_claims f ordered s c h IsConstant = tt
set_claims f ordered s c h IsSorted = tt
set_claims f ordered s c h IsStrictSorted = tt
set_claims f ordered s c h Max = max_true f ordered s.max s.old_max s.is_max_exact c.values h.max h.old_max
set_claims f ordered s c h Min = min_true f ordered s.min s.old_min s.is_min_exact c.values h.min h.old_min
set_claims f ordered s c h Sum = tt
set_claims f ordered s c h NullCount = count_true s.null_count (null_count c.values) h.null_count
set_claims f ordered s c h UncompressedSizeInBytes = tt
set_claims f ordered s c h NaNCount = tt

-- a set without an entry claims nothing
none_claims : (c : ColumnData) (stat : Stat) → Claims stat (entry_value stat (let es : Entries = [] in es)) c
none_claims c IsConstant = tt
none_claims c IsSorted = tt
none_claims c IsStrictSorted = tt
none_claims c Max = tt
none_claims c Min = tt
none_claims c Sum = tt
none_claims c NullCount = tt
none_claims c UncompressedSizeInBytes = tt
none_claims c NaNCount = tt

some_claims : (f : Form) (ordered : Bool) (o : Option StatisticsData) (c : ColumnData) → ((s : StatisticsData) → o ≡ Some s → AreTrue f ordered s c.values) → (stat : Stat) → Claims stat (entry_value stat (set_or_none f ordered o)) c
some_claims f ordered None c h stat = none_claims c stat
some_claims f ordered (Some s) c h stat = set_claims f ordered s c (h s refl) stat

cond_claims : (b : Bool) (es : Entries) (c : ColumnData) → (b ≡ true → (stat : Stat) → Claims stat (entry_value stat es) c) → (stat : Stat) → Claims stat (entry_value stat (cond b es [])) c
cond_claims true es c h stat = h refl stat
cond_claims false es c h stat = none_claims c stat

chunk_claims : (l : Leaf) (ordered : Bool) (chunk : ColumnChunkData) (c : ColumnData) → ((s : StatisticsData) → is_number l.physical chunk.physical ≡ true → statistics_by l.nullability chunk.statistics ≡ Some s → AreTrue l.form ordered s c.values)
    → (stat : Stat) → Claims stat (entry_value stat (chunk_set l ordered chunk)) c
unfolding chunk_set
chunk_claims l ordered chunk c h stat = cond_claims (is_number l.physical chunk.physical) (set_or_none l.form ordered (statistics_by l.nullability chunk.statistics)) c (λ t. some_claims l.form ordered (statistics_by l.nullability chunk.statistics) c (λ s e. h s t e)) stat

span_claims : (l : Leaf) (ordered : Bool) (o : Option (List ℕ)) (c : ColumnData) (es : Entries) → on_found (Ok []) (span_set l ordered) o ≡ Ok es → AreTrueOf l ordered o c.values → (stat : Stat) → Claims stat (entry_value stat es) c
unfolding span_set
span_claims l ordered None c es e h stat = subst (λ (xs : Entries). Claims stat (entry_value stat xs) c) (one_ok [] es e) (none_claims c stat)
span_claims l ordered (Some bytes) c es e h stat =
    let b = bind_ok (chunk_of bytes) (λ x. Ok (chunk_set l ordered x)) es e in
    subst (λ (xs : Entries). Claims stat (entry_value stat xs) c) (one_ok (chunk_set l ordered b.0) es b.2) (chunk_claims l ordered b.0 c (λ s t k. h b.0 s b.1 t k) stat)

-- where the statistics of a row group are true, so are its sets
pub group_true : TrueGroups
unfolding leaf_set all_of
group_true orders chunks [] [] sets e fit h = subst (λ (ss : List Entries). AreTrueSets [] ss) (one_ok [] sets e) tt
group_true orders chunks (l ∷ ls) (c ∷ cs) sets e fit h =
    let one = leaf_set orders chunks in
    let a = bind_ok (one l) (λ x. all_of one ls >>= λ xs. Ok (x ∷ xs)) sets e in
    let b = bind_ok (all_of one ls) (λ xs. Ok (a.0 ∷ xs)) sets a.2 in
    let whole : Fit (c ∷ cs) (a.0 ∷ b.0) → AreTrueSets (c ∷ cs) (a.0 ∷ b.0) = λ f. (
      record { fits = f.0; claims = span_claims l (or_false (slice_get orders l.place)) (slice_get chunks l.place) c a.0 a.1 h.0 },
      group_true orders chunks ls cs b.0 b.1 f.1 h.1,
    ) in
    subst (λ (ss : List Entries). Fit (c ∷ cs) ss → AreTrueSets (c ∷ cs) ss) (one_ok (a.0 ∷ b.0) sets b.2) whole fit
group_true orders chunks [] (c ∷ cs) sets e fit h = absurd h
group_true orders chunks (l ∷ ls) [] sets e fit h = absurd h
