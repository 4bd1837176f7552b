-- Worked rows: which zones may be joined.
use Rattle.std.specs.Prelude.{ℕ, List, [], ◌∷◌, codes, refl}
use Rattle.std.proofs.Common.{arith, subst, sym}
use Rattle.std.proofs.lemmas.Option.{same_Some}
use Rattle.vortex_base.specs.declared.dtype.DType.{DType}
use Rattle.vortex_base.specs.declared.dtype.DType.TheVariants as dtype
use Rattle.vortex_base.specs.declared.types.Nullability.TheVariants.{Nullable}
use Rattle.vortex_base.specs.declared.types.PType.TheVariants as ptype
use Rattle.vortex_base.specs.Data.Scopes.{Named}
use Rattle.vortex_zone_map.specs.Zone.{ZoneData}
use Rattle.vortex_stats.specs.declared.precision.Precision.TheVariants.{Exact}
use Rattle.vortex_stats.specs.declared.stat.Stat.TheVariants.{Max}
use Rattle.vortex_zone_map.proofs.WorkedRows.LogRows.{count, zone, zone_1, zone_2}
use Rattle.vortex_zone_map.specs.Logs.{MayJoin, MayJoinAt}
use mathlib.Core.Bool.{true≢false}

abbrev i64_type : DType
i64_type = dtype.Primitive ptype.I64 Nullable

abbrev two_columns : List Named
two_columns = (codes "a", i64_type) ∷ (codes "b", i64_type) ∷ []

-- a greatest value of another type than its column
abbrev unfit_first : ZoneData
unfit_first = zone 3 ((Max, Exact (count 7)) ∷ []) []

abbrev unfit_second : ZoneData
unfit_second = zone 3 [] ((Max, Exact (count 7)) ∷ [])

abbrev of_rows : ℕ → ZoneData
of_rows n = zone n [] []

-- ---- two zones

may_join : MayJoin two_columns zone_1 zone_2
may_join = record { left_fits = refl; right_fits = refl; rows = omega arith }

left_does_not_fit : MayJoin two_columns unfit_first zone_2 → ⊥
left_does_not_fit h = true≢false (sym h.left_fits)

right_does_not_fit : MayJoin two_columns zone_1 unfit_first → ⊥
right_does_not_fit h = true≢false (sym h.right_fits)

last_set_of_left : MayJoin two_columns unfit_second zone_2 → ⊥
last_set_of_left h = true≢false (sym h.left_fits)

last_set_of_right : MayJoin two_columns zone_1 unfit_second → ⊥
last_set_of_right h = true≢false (sym h.right_fits)

a_set_too_few : MayJoin two_columns zone_1 (record { rows = 3; stats = [] ∷ [] }) → ⊥
a_set_too_few h = true≢false (sym h.right_fits)

of_another_scope : MayJoin ((codes "a", i64_type) ∷ []) zone_1 zone_2 → ⊥
of_another_scope h = true≢false (sym h.left_fits)

as_many_rows_as_fit : MayJoin two_columns (of_rows 18446744073709551614) (of_rows 1)
as_many_rows_as_fit = record { left_fits = refl; right_fits = refl; rows = omega arith }

a_row_too_many : MayJoin two_columns (of_rows 18446744073709551614) (of_rows 2) → ⊥
a_row_too_many h = absurd (omega (arith, h.rows))

right_has_too_many : MayJoin two_columns (of_rows 1) (of_rows 18446744073709551615) → ⊥
right_has_too_many h = absurd (omega (arith, h.rows))

-- ---- the one at a place and the one behind it

at_the_front : MayJoinAt two_columns 0 (zone_1 ∷ zone_2 ∷ unfit_first ∷ [])
at_the_front left right here behind =
    subst (λ (x : ZoneData). MayJoin two_columns x right) (same_Some zone_1 left here) (subst (λ (x : ZoneData). MayJoin two_columns zone_1 x) (same_Some zone_2 right behind) may_join)

behind_it : MayJoinAt two_columns 1 (zone_1 ∷ zone_2 ∷ unfit_first ∷ []) → ⊥
behind_it h = true≢false (sym (h zone_2 unfit_first refl refl).right_fits)

at_the_place : MayJoinAt two_columns 1 (zone_1 ∷ unfit_first ∷ zone_2 ∷ []) → ⊥
at_the_place h = left_does_not_fit (h unfit_first zone_2 refl refl)

none_behind : MayJoinAt two_columns 1 (zone_1 ∷ unfit_first ∷ [])
none_behind left right here behind = absurd cc
