-- Worked rows: tables of statistics, merged and pruned, each case by computation.
use Rattle.std.proofs.Common.{◌≡◌, ℕ, zero, suc, inl, inr, List, [], ◌∷◌, codes, None, Some, Ok, Err, true, false, Bool, Bor, if◌then◌else◌, map, refl}
use Rattle.std.specs.Str.{chars, is_utf8}
use Rattle.vortex_base.specs.Data.Scopes.{Named}
use Rattle.vortex_expr.specs.Trees.Tree.{Place, Tree, binary, column, is_null, literal, not}
use Rattle.vortex_expr.specs.declared.scalar_fn.Operator.TheVariants.{And}
use Rattle.vortex_base.specs.declared.dtype.DType.TheVariants as dtype
use Rattle.vortex_base.specs.declared.types.Nullability.TheVariants.{Nullable, NonNullable}
use Rattle.vortex_base.specs.declared.types.PType.TheVariants as ptype
use Rattle.vortex_base.specs.declared.pvalue.PValue.TheVariants as number
use Rattle.vortex_base.specs.declared.scalar_value.ScalarValue.TheVariants as value
use Rattle.vortex_zone_map.specs.Zone.{ZoneData}
use Rattle.vortex_stats.specs.declared.precision.Precision.TheVariants.{Exact, Inexact, Absent}
use Rattle.vortex_prune.specs.declared.scan.verdict.Verdict.TheVariants.{Skipped, Tested, Whole}
use Rattle.vortex_stats.specs.declared.stat.Stat.TheVariants as stat
use Rattle.vortex_capi.specs.declared.field.Field.{Field}
use Rattle.vortex_capi.specs.declared.logical.Kinds.TheVariants.{Plain}
use Rattle.vortex_capi.specs.declared.statistic.Statistic.{Statistic}
use Rattle.vortex_capi.specs.declared.table.Source.{Source}
use Rattle.vortex_capi.specs.declared.status.Status.TheVariants.{BadColumn, BadFlag, BadKind, BadKnown, BadLength, BadLine, BadName, BadSql, BadStat, Misfit, NotAPredicate, TooDeep}
use Rattle.vortex_capi.specs.Merges.{merged, set_given}
use Rattle.vortex_capi.specs.Prunes.{IsRefused, answer_by, answer_of, answered, asked, with_flags}
use Rattle.vortex_capi.specs.Scopes.{filled_scope_given, if_predicate, predicate_given, scope_given}
use Rattle.vortex_capi.specs.Statuses.{at_column, at_entry, in_column, nowhere, status_number}
use Rattle.vortex_capi.specs.Tables.{source_of, zones_given}

abbrev pub lent : List ℕ → Bor (List ℕ)
lent xs = record { ref_ptr = (0, 0); now = xs }

-- a statistic of a column: its number, how it is known in each zone, and the values
abbrev pub told : (column number : ℕ) → (known values : List ℕ) → Statistic
told c n known values = record { column = c; stat = n; start = 0; known = lent known; values = lent values; ends = lent [] }

abbrev pub byte : ℕ → Bool → Named
byte n b = (n ∷ [], dtype.Primitive ptype.U8 (if b then Nullable else NonNullable))

-- ---- merges: zone by zone, the left table in front

two_zones : merged 2 0 2 (told 0 3 (1 ∷ 2 ∷ []) (5 ∷ 7 ∷ []) ∷ []) (told 0 3 (1 ∷ 1 ∷ []) (6 ∷ 4 ∷ []) ∷ []) ≡ Ok ((1, 6 ∷ []) ∷ (2, 7 ∷ []) ∷ [])
two_zones = refl

-- two statistics stand one after another, each in all zones
two_statistics : merged 2 0 2 (told 0 3 (1 ∷ 1 ∷ []) (5 ∷ 7 ∷ []) ∷ told 0 4 (1 ∷ 1 ∷ []) (1 ∷ 2 ∷ []) ∷ []) (told 0 3 (1 ∷ 1 ∷ []) (6 ∷ 4 ∷ []) ∷ told 0 4 (1 ∷ 0 ∷ []) (3 ∷ 1 ∷ []) ∷ [])
    ≡ Ok ((1, 6 ∷ []) ∷ (1, 7 ∷ []) ∷ (1, 1 ∷ []) ∷ (0, 0 ∷ []) ∷ [])
two_statistics = refl

no_zones : merged 2 0 0 (told 0 3 [] [] ∷ []) (told 0 3 [] [] ∷ []) ≡ Ok []
no_zones = refl

no_statistics : merged 2 0 3 [] [] ≡ Ok []
no_statistics = refl

-- of two of the same number the later counts, at the place of the first
later_counts : set_given 0 (dtype.Primitive ptype.U8 NonNullable) 0 (told 0 3 (1 ∷ []) (5 ∷ []) ∷ told 0 4 (1 ∷ []) (1 ∷ []) ∷ told 0 3 (2 ∷ []) (6 ∷ []) ∷ [])
    ≡ Ok ((stat.Max, Inexact (value.Primitive (number.U8 6))) ∷ (stat.Min, Exact (value.Primitive (number.U8 1))) ∷ [])
later_counts = refl

bad_kind : merged 17 0 1 [] [] ≡ Err (nowhere BadKind)
bad_kind = refl

-- the first statistic that one table lacks, on either side
right_lacks : merged 2 0 1 (told 0 3 (1 ∷ []) (5 ∷ []) ∷ told 0 4 (1 ∷ []) (5 ∷ []) ∷ []) (told 0 3 (1 ∷ []) (5 ∷ []) ∷ []) ≡ Err (at_entry BadLength 1)
right_lacks = refl

left_lacks : merged 2 0 1 [] (told 0 3 (1 ∷ []) (5 ∷ []) ∷ []) ≡ Err (at_entry BadLength 0)
left_lacks = refl

-- others at the same place, and one that the type lacks
unlike : merged 2 0 1 (told 0 3 (1 ∷ []) (5 ∷ []) ∷ told 0 3 (1 ∷ []) (5 ∷ []) ∷ []) (told 0 3 (1 ∷ []) (5 ∷ []) ∷ told 0 4 (1 ∷ []) (5 ∷ []) ∷ []) ≡ Err (at_entry BadStat 1)
unlike = refl

no_sum_of_nulls : merged 0 0 1 (told 0 5 (0 ∷ []) [] ∷ []) (told 0 5 (0 ∷ []) [] ∷ []) ≡ Err (at_entry BadStat 0)
no_sum_of_nulls = refl

-- the zone, the table and the statistic of a value that is refused; the left one is read first
left_refused : merged 2 0 2 (told 0 3 (1 ∷ 3 ∷ []) (5 ∷ 7 ∷ []) ∷ []) (told 0 3 (1 ∷ 3 ∷ []) (6 ∷ 4 ∷ []) ∷ []) ≡ Err (in_column 1 0 BadKnown 0)
left_refused = refl

right_refused : merged 2 0 2 (told 0 3 (1 ∷ 1 ∷ []) (5 ∷ 7 ∷ []) ∷ []) (told 0 3 (1 ∷ 3 ∷ []) (6 ∷ 4 ∷ []) ∷ []) ≡ Err (in_column 1 1 BadKnown 0)
right_refused = refl

-- ---- scopes and predicates

abbrev pub field : List ℕ → (kind nullable : ℕ) → Field
field name k n = record { name = lent name; kind = k; nullable = n; unit = 0; precision = 0; scale = 0 }

two_columns : scope_given Plain (field (97 ∷ []) 7 0 ∷ field (98 ∷ []) 10 1 ∷ []) ≡ Ok ((97 ∷ [], dtype.Primitive ptype.I16 NonNullable) ∷ (98 ∷ [], dtype.Utf8 Nullable) ∷ [])
two_columns = refl

name_twice : scope_given Plain (field (97 ∷ []) 7 0 ∷ field (97 ∷ []) 10 1 ∷ []) ≡ Err (at_column BadName 1)
name_twice = refl

no_name : scope_given Plain (field [] 7 0 ∷ []) ≡ Err (at_column BadName 0)
no_name = refl

-- the kind is looked at before the name
no_kind : scope_given Plain (field (97 ∷ []) 7 0 ∷ field [] 17 0 ∷ []) ≡ Err (at_column BadKind 1)
no_kind = refl

asks_null : predicate_given (byte 97 true ∷ []) (codes "isnull col a") ≡ Ok (is_null (column (record { index = 0; dtype = dtype.Primitive ptype.U8 Nullable })))
unfolding is_utf8 chars lib.Utf8.encode
asks_null = refl

no_predicate : predicate_given (byte 97 true ∷ []) (codes "col a") ≡ Err (nowhere NotAPredicate)
unfolding is_utf8 chars lib.Utf8.encode
no_predicate = refl

no_column : predicate_given (byte 97 true ∷ []) (codes "isnull col b") ≡ Err (nowhere BadLine)
unfolding is_utf8 chars lib.Utf8.encode
no_column = refl

a_word_more : predicate_given (byte 97 true ∷ []) (codes "isnull col a a") ≡ Err (nowhere BadLine)
unfolding is_utf8 chars lib.Utf8.encode
a_word_more = refl

no_text : predicate_given (byte 97 true ∷ []) (255 ∷ []) ≡ Err (nowhere BadLine)
unfolding is_utf8 chars lib.Utf8.encode
no_text = refl

no_scope : predicate_given [] (codes "lit bool true") ≡ Err (nowhere BadLine)
unfolding is_utf8 chars lib.Utf8.encode
no_scope = refl

-- ---- levels: as many as are allowed, one more, and a chain of five, which has three

abbrev nots : ℕ → Tree Place → Tree Place
nots zero e = e
nots (suc n) e = not (nots n e)

abbrev is_true_column : Tree Place
is_true_column = column (record { index = 0; dtype = dtype.Bool Nullable })

most_levels : if_predicate (Some (nots 128 is_true_column)) ≡ Ok (nots 128 is_true_column)
most_levels = refl

a_level_more : if_predicate (Some (nots 129 is_true_column)) ≡ Err (nowhere TooDeep)
a_level_more = refl

abbrev chain_of_five : Tree Place
chain_of_five = binary And is_true_column (binary And (binary And is_true_column is_true_column) (binary And is_true_column is_true_column))

chain_on_top : if_predicate (Some (nots 125 chain_of_five)) ≡ Ok (nots 125 chain_of_five)
chain_on_top = refl

chain_too_deep : if_predicate (Some (nots 126 chain_of_five)) ≡ Err (nowhere TooDeep)
chain_too_deep = refl

-- too deep comes before a type that is none of a predicate's
levels_first : if_predicate (Some (is_null (nots 128 is_true_column))) ≡ Err (nowhere TooDeep)
levels_first = refl

-- a text that is no expression may be told as too deep, and as nothing else
told_as_deep : IsRefused (Err (nowhere BadLine)) 17 (record { row = 0; column = 0; entry = 0 })
told_as_deep = inr (refl, (refl, refl))

told_as_bad : IsRefused (Err (nowhere BadLine)) 2 (record { row = 0; column = 0; entry = 0 })
told_as_bad = inl (refl, refl)

-- ---- zones

abbrev greatest : List ℕ → List ℕ → Statistic
greatest known values = told 1 3 known values

abbrev two_bytes : List Named
two_bytes = byte 97 false ∷ byte 98 true ∷ []

abbrev source : Statistic → Source
source x = record { statistic = x; dtype = dtype.Primitive ptype.U8 Nullable; stat = stat.Max }

-- each zone has a set a column, its row count and its own value
zones : zones_given two_bytes (source (greatest (1 ∷ 2 ∷ []) (5 ∷ 7 ∷ [])) ∷ []) (3 ∷ 4 ∷ [])
    ≡ Ok (record { rows = 3; stats = [] ∷ ((stat.Max, Exact (value.Primitive (number.U8 5))) ∷ []) ∷ [] } ∷ record { rows = 4; stats = [] ∷ ((stat.Max, Inexact (value.Primitive (number.U8 7))) ∷ []) ∷ [] } ∷ [])
zones = refl

-- an absent one is an entry
absent : zones_given two_bytes (source (greatest (0 ∷ []) (5 ∷ [])) ∷ []) (3 ∷ []) ≡ Ok (record { rows = 3; stats = [] ∷ ((stat.Max, Absent) ∷ []) ∷ [] } ∷ [])
absent = refl

zone_refused : zones_given two_bytes (source (greatest (1 ∷ 1 ∷ []) (5 ∷ 7 ∷ [])) ∷ source (greatest (1 ∷ 3 ∷ []) (5 ∷ 7 ∷ [])) ∷ []) (3 ∷ 4 ∷ []) ≡ Err (in_column 1 1 BadKnown 1)
zone_refused = refl

column_missing : source_of (told 2 3 [] []) None ≡ Err BadColumn
column_missing = refl

stat_missing : source_of (told 0 8 [] []) (Some (byte 97 true)) ≡ Err BadStat
stat_missing = refl

-- ---- answers

abbrev truth : Tree Place
truth = literal (record { dtype = dtype.Bool NonNullable; value = Some (value.Bool true) })

abbrev empty_zone : ZoneData
empty_zone = record { rows = 3; stats = [] }

skipped : answer_by (Some truth) None [] empty_zone ≡ 1
skipped = refl

whole : answer_by None (Some truth) [] empty_zone ≡ 2
whole = refl

skipped_first : answer_by (Some truth) (Some truth) [] empty_zone ≡ 1
skipped_first = refl

read : answer_by None None [] empty_zone ≡ 0
read = refl

places : answered 1 (0 ∷ 1 ∷ 2 ∷ 1 ∷ []) ≡ 1 ∷ 3 ∷ []
places = refl

of_verdicts : map answer_of (Skipped ∷ Whole ∷ Tested ∷ []) ≡ 1 ∷ 2 ∷ 0 ∷ []
of_verdicts = refl

-- ---- what is asked, in the order of the refusals

no_flag : with_flags 0 ≡ Ok tt
no_flag = refl

known_flag : with_flags 1 ≡ Ok tt
known_flag = refl

flag_first : asked (field [] 17 0 ∷ []) (3 ∷ []) [] [] 2 9 ≡ Err (nowhere BadFlag)
flag_first = refl

then_room : asked (field [] 17 0 ∷ []) (3 ∷ []) [] [] 0 9 ≡ Err (nowhere BadLength)
then_room = refl

then_scope : asked (field [] 17 0 ∷ []) (3 ∷ []) [] [] 0 1 ≡ Err (at_column BadKind 0)
then_scope = refl

then_predicate : asked (field (97 ∷ []) 2 0 ∷ []) (3 ∷ []) (told 1 3 [] [] ∷ []) (codes "col a") 0 1 ≡ Err (nowhere NotAPredicate)
unfolding is_utf8 chars lib.Utf8.encode
then_predicate = refl

then_columns : asked (field (97 ∷ []) 2 0 ∷ []) (3 ∷ []) (told 0 3 (0 ∷ []) (0 ∷ []) ∷ told 1 3 [] [] ∷ []) (codes "isnull col a") 0 1 ≡ Err (at_entry BadColumn 1)
unfolding is_utf8 chars lib.Utf8.encode
then_columns = refl

then_lengths : asked (field (97 ∷ []) 2 0 ∷ []) (3 ∷ []) (told 0 3 (3 ∷ []) (0 ∷ []) ∷ told 0 3 (0 ∷ 0 ∷ []) (0 ∷ []) ∷ []) (codes "isnull col a") 0 1 ≡ Err (at_entry BadLength 1)
unfolding is_utf8 chars lib.Utf8.encode
then_lengths = refl

then_values : asked (field (97 ∷ []) 2 0 ∷ []) (3 ∷ []) (told 0 3 (0 ∷ []) (0 ∷ []) ∷ told 0 3 (3 ∷ []) (0 ∷ []) ∷ []) (codes "isnull col a") 0 1 ≡ Err (in_column 0 0 BadKnown 1)
unfolding is_utf8 chars lib.Utf8.encode
then_values = refl

-- a scope of a call by SQL has a column
no_column_given : filled_scope_given Plain [] ≡ Err (nowhere BadLength)
no_column_given = refl

a_column_given : filled_scope_given Plain (field (97 ∷ []) 2 0 ∷ []) ≡ Ok (byte 97 false ∷ [])
a_column_given = refl

faults_first : filled_scope_given Plain (field [] 17 0 ∷ []) ≡ Err (at_column BadKind 0)
faults_first = refl

-- the numbers of the header
last_number : status_number Misfit ≡ 19
last_number = refl

number_before : status_number BadSql ≡ 18
number_before = refl

number_of_depth : status_number TooDeep ≡ 17
number_of_depth = refl

first_number : status_number BadLine ≡ 2
first_number = refl
