-- Worked rows: the aggregates that proofs name, and a map that has no others.
use Rattle.std.proofs.Common.{◌≡◌, ℕ, zero, suc, Bool, List, [], ◌∷◌, Option, ap, codes, get_or, None, Some, true, false, refl}
use Rattle.vortex_base.specs.Data.Columns.{ColumnData}
use Rattle.vortex_base.specs.Data.Scopes.{Named}
use Rattle.vortex_expr.specs.Trees.Tree.{Place, Tree, between, binary, column, is_not_null, is_null, like, literal, not, row_count, stat as placeholder}
use Rattle.vortex_base.specs.declared.aggregate.AggregateFnRef.{AggregateFnRef}
use Rattle.vortex_base.specs.declared.aggregate.AggregateFnRef.TheVariants as aggregate
use Rattle.vortex_base.specs.declared.dtype.DType.TheVariants as dtype
use Rattle.vortex_expr.specs.declared.like.LikeOptions.{LikeOptions}
use Rattle.vortex_base.specs.declared.pvalue.PValue.TheVariants as number
use Rattle.vortex_base.specs.declared.scalar_value.ScalarValue.{ScalarValue}
use Rattle.vortex_base.specs.declared.scalar_value.ScalarValue.TheVariants as value
use Rattle.vortex_expr.specs.declared.scalar_fn.BetweenOptions.{BetweenOptions}
use Rattle.vortex_base.specs.declared.types.Nullability.TheVariants.{Nullable}
use Rattle.vortex_expr.specs.declared.scalar_fn.Operator.TheVariants.{Gt}
use Rattle.vortex_base.specs.declared.types.PType.TheVariants as ptype
use Rattle.vortex_zone_map.specs.GivenTables.{map_with}
use Rattle.vortex_zone_map.specs.Zone.{ZoneData}
use Rattle.vortex_prune.specs.Scanning.ZoneScans.{AreRowVerdicts}
use Rattle.vortex_zone_map.specs.ZoneMaps.{MapData, head, heads}
use Rattle.vortex_prune.specs.declared.scan.verdict.Verdict.TheVariants.{Tested, Whole}
use Rattle.vortex_stats.specs.declared.precision.Precision.TheVariants.{Exact}
use Rattle.vortex_stats.specs.declared.stat.Stat.TheVariants as stats
use Rattle.vortex_capi.specs.MapCells.{null_column}
use Rattle.vortex_capi.specs.NamedStats.{AreNamed, HasNamed, asks, either_names, mark_place, names, names_head}
use Rattle.vortex_capi.specs.Prunes.{AreRowAnswers}

-- ---- the aggregates that proofs name, with the placeholder at each place of each node

abbrev place : ℕ → Tree Place
place i = column (record { index = i; dtype = dtype.Primitive ptype.U8 Nullable })

abbrev truth : Tree Place
truth = literal (record { dtype = dtype.Bool Nullable; value = Some (value.Bool true) })

abbrev greatest : Tree Place
greatest = placeholder aggregate.Max (place 1)

own_placeholder : names greatest 1 aggregate.Max ≡ true
own_placeholder = refl

another_column : names greatest 0 aggregate.Max ≡ false
another_column = refl

another_aggregate : names greatest 1 aggregate.Min ≡ false
another_aggregate = refl

another_of_the_nulls : asks aggregate.AllNonNull (place 1) 1 aggregate.NullCount ≡ false
another_of_the_nulls = refl

of_the_nulls : asks aggregate.AllNonNull (place 1) 1 aggregate.AllNonNull ≡ true
of_the_nulls = refl

of_no_column : asks aggregate.Max truth 1 aggregate.Max ≡ false
of_no_column = refl

bare_column : names (place 1) 1 aggregate.Max ≡ false
bare_column = refl

no_placeholder : names truth 1 aggregate.Max ≡ false
no_placeholder = refl

no_row_count : names row_count 1 aggregate.Max ≡ false
no_row_count = refl

below_is_null : names (is_null greatest) 1 aggregate.Max ≡ true
below_is_null = refl

below_is_not_null : names (is_not_null greatest) 1 aggregate.Max ≡ true
below_is_not_null = refl

on_the_left : names (binary Gt greatest truth) 1 aggregate.Max ≡ true
on_the_left = refl

on_the_right : names (binary Gt truth greatest) 1 aggregate.Max ≡ true
on_the_right = refl

below_not : names (not greatest) 1 aggregate.Max ≡ true
below_not = refl

of_a_range : (o : BetweenOptions) → names (between o greatest truth truth) 1 aggregate.Max ≡ true
of_a_range o = refl

of_its_lower_end : (o : BetweenOptions) → names (between o truth greatest truth) 1 aggregate.Max ≡ true
of_its_lower_end o = refl

of_its_upper_end : (o : BetweenOptions) → names (between o truth truth greatest) 1 aggregate.Max ≡ true
of_its_upper_end o = refl

of_a_text : (o : LikeOptions) → names (like o greatest truth) 1 aggregate.Max ≡ true
of_a_text o = refl

of_its_pattern : (o : LikeOptions) → names (like o truth greatest) 1 aggregate.Max ≡ true
of_its_pattern o = refl

by_the_first : either_names (Some greatest) None 1 aggregate.Max ≡ true
by_the_first = refl

by_the_second : either_names None (Some greatest) 1 aggregate.Max ≡ true
by_the_second = refl

by_neither : either_names None None 1 aggregate.Max ≡ false
by_neither = refl

-- ---- below a head

abbrev own : ℕ → Named
own n = (n ∷ [], dtype.Primitive ptype.U8 Nullable)

its_head : names_head (Some greatest) None (head 1 (own 98) aggregate.Max) ≡ true
its_head = refl

head_of_another_column : names_head (Some greatest) None (head 0 (own 98) aggregate.Max) ≡ false
head_of_another_column = refl

head_of_another_aggregate : names_head (Some greatest) None (head 1 (own 98) aggregate.Min) ≡ false
head_of_another_aggregate = refl

-- ---- the marks of two columns, of which the greatest value of the second is asked for

place_of_the_greatest : mark_place 1 aggregate.Max ≡ 9
place_of_the_greatest = refl

place_of_the_least : mark_place 1 aggregate.Min ≡ 10
place_of_the_least = refl

last_place : mark_place 1 aggregate.MinMax ≡ 17
last_place = refl

-- ---- a map that has what is named: of a column of nulls, whether none is null

abbrev scope : List Named
scope = (codes "n", dtype.Null) ∷ []

-- two zones of five rows, with one null and with none
abbrev zone : ℕ → ZoneData
zone n = record { rows = 5; stats = ((stats.NullCount, Exact (value.Primitive (number.U64 n))) ∷ []) ∷ [] }

abbrev zones : List ZoneData
zones = zone 1 ∷ zone 0 ∷ []

abbrev none_null : Tree Place
none_null = placeholder aggregate.AllNonNull (column (record { index = 0; dtype = dtype.Null }))

abbrev last_named : List Bool
last_named = false ∷ false ∷ false ∷ true ∷ []

abbrev below : AggregateFnRef → ColumnData
below f = null_column (head 0 (codes "n", dtype.Null) f) 2

abbrev truths : List Bool → ColumnData
truths (a ∷ b ∷ bs) = record { dtype = dtype.Bool Nullable; values = Some (value.Bool a) ∷ Some (value.Bool b) ∷ []; size = 0 }
truths bs = below aggregate.AllNonNull

abbrev partial : MapData
partial = map_with scope (5 ∷ 5 ∷ []) (below aggregate.NullCount ∷ below aggregate.UncompressedSizeInBytes ∷ below aggregate.AllNull ∷ truths (false ∷ true ∷ []) ∷ [])

partial_told : AreNamed last_named (heads scope) zones partial.table.columns
partial_told zero h c there is at = absurd cc
partial_told (suc zero) h c there is at = absurd cc
partial_told (suc (suc zero)) h c there is at = absurd cc
partial_told (suc (suc (suc zero))) h c there is at = cc
partial_told (suc (suc (suc (suc k)))) h c there is at = absurd cc

partial_has : HasNamed last_named zones partial
partial_has = record { counted = refl; table = refl; told = partial_told }

-- not where more is named, nor where the truths are turned round
not_the_first : AreNamed (true ∷ []) (heads scope) zones partial.table.columns → ⊥
not_the_first h =
    let no : None ≡ Some (value.Primitive (number.U64 1)) = ap (λ (c : ColumnData). get_or c.values 0 None) (h 0 _ _ refl refl refl) in
    absurd cc

abbrev first_of : List (Option ScalarValue) → Bool
first_of (Some (value.Bool b) ∷ vs) = b
first_of vs = false

not_turned_round : AreNamed (true ∷ []) (head 0 (codes "n", dtype.Null) aggregate.AllNonNull ∷ []) zones (truths (true ∷ false ∷ []) ∷ []) → ⊥
not_turned_round h =
    let no : true ≡ false = ap (λ (c : ColumnData). first_of c.values) (h 0 _ _ refl refl refl) in
    absurd cc

-- so the second zone is whole
each_verdict : AreRowVerdicts None (Some none_null) partial (Tested ∷ Whole ∷ [])
each_verdict zero n v at is = cc
each_verdict (suc zero) n v at is = cc
each_verdict (suc (suc r)) n v at is = absurd cc

second_whole : AreRowAnswers None (Some none_null) partial (0 ∷ 2 ∷ [])
second_whole = record { verdicts = Tested ∷ Whole ∷ []; rows = each_verdict; long = refl; told = refl }
