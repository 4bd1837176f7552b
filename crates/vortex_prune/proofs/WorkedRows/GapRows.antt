-- Worked rows of gaps, found by computation alone.
use Rattle.std.specs.Prelude.{◌≡◌, ℕ, true, false, [], ◌∷◌, Option, Some, None, pos, refl}
use Rattle.vortex_base.specs.declared.pvalue.PValue.TheVariants as number
use Rattle.vortex_base.specs.declared.scalar_value.ScalarValue.{ScalarValue}
use Rattle.vortex_base.specs.declared.scalar_value.ScalarValue.TheVariants as value
use Rattle.vortex_base.specs.declared.value_ref.ValueRef.TheVariants as lent
use Rattle.vortex_expr.specs.declared.scalar_fn.Operator.{Operator}
use Rattle.vortex_expr.specs.declared.scalar_fn.Operator.TheVariants.{Eq, NotEq, Gt, Gte, Lt, Lte, And, Or}
use Rattle.vortex_prune.specs.Scanning.Gaps.{gap_passes, is_end, is_falling, is_past, is_rising, upper}
use Rattle.vortex_prune.specs.Scanning.Keys.{is_past_key, past_operator_by}
use Rattle.vortex_prune.specs.declared.scan.gaps.Gap.{Gap}
use Rattle.vortex_prune.specs.declared.scan.sides.Flag.{Flag}
use Rattle.vortex_prune.specs.declared.scan.sides.Side.{Side}

-- ---- operators

rising : is_rising Eq ∷ is_rising NotEq ∷ is_rising Gt ∷ is_rising Gte ∷ is_rising Lt ∷ is_rising Lte ∷ is_rising And ∷ is_rising Or ∷ [] ≡ false ∷ false ∷ true ∷ true ∷ false ∷ false ∷ false ∷ false ∷ []
rising = refl

falling : is_falling Eq ∷ is_falling NotEq ∷ is_falling Gt ∷ is_falling Gte ∷ is_falling Lt ∷ is_falling Lte ∷ is_falling And ∷ is_falling Or ∷ []
    ≡ false ∷ false ∷ false ∷ false ∷ true ∷ true ∷ false ∷ false ∷ []
falling = refl

ends : is_end Eq ∷ is_end NotEq ∷ is_end Gt ∷ is_end Gte ∷ is_end Lt ∷ is_end Lte ∷ is_end And ∷ is_end Or ∷ [] ≡ true ∷ false ∷ false ∷ false ∷ true ∷ true ∷ false ∷ false ∷ []
ends = refl

upper_ends : upper Eq ∷ upper Lt ∷ upper Lte ∷ [] ≡ Lte ∷ Lt ∷ Lte ∷ []
upper_ends = refl

-- ---- gaps between the values 10 and 20, and beside the span of both

abbrev num : ℕ → Option ScalarValue
num n = Some (value.Primitive (number.I64 (pos n)))

abbrev set : Option ScalarValue
set = Some (value.Bool true)

abbrev unset : Option ScalarValue
unset = Some (value.Bool false)

module _ (s : Side) (f : Flag) where
  abbrev side : Operator → ℕ → Side
  side o n = record s { operator = o; value = lent.Primitive (number.I64 (pos n)) }

  -- the least value is above 10, or the greatest below 20
  abbrev gap : Gap
  gap = record { above = side Gt 10; below = side Lt 20; flag = None }

  first_is_enough : gap_passes gap (num 11) (num 30) None ≡ true
  first_is_enough = refl

  second_is_enough : gap_passes gap (num 5) (num 19) None ≡ true
  second_is_enough = refl

  neither_is : gap_passes gap (num 10) (num 20) set ≡ false
  neither_is = refl

  nulls_pass_no_gap : gap_passes gap None None None ≡ false
  nulls_pass_no_gap = refl

  past_the_gap : is_past gap (num 11) ≡ true
  past_the_gap = refl

  not_past_the_gap : is_past gap (num 10) ≡ false
  not_past_the_gap = refl

  -- the greatest value is at most 20, the least at least 10, and none is null
  abbrev span : Gap
  span = record { above = side Lte 20; below = side Gte 10; flag = Some f }

  within_the_span : gap_passes span (num 20) (num 10) set ≡ false
  within_the_span = refl

  above_the_span : gap_passes span (num 21) (num 10) set ≡ true
  above_the_span = refl

  below_the_span : gap_passes span (num 20) (num 9) set ≡ true
  below_the_span = refl

  span_with_nulls : gap_passes span (num 20) (num 10) unset ≡ true
  span_with_nulls = refl

  span_of_unknown_nulls : gap_passes span (num 20) (num 10) None ≡ true
  span_of_unknown_nulls = refl

  unknown_greatest : gap_passes span None (num 10) set ≡ true
  unknown_greatest = refl

  past_the_span : is_past span (num 21) ∷ is_past span None ∷ [] ≡ true ∷ true ∷ []
  past_the_span = refl

  not_past_the_span : is_past span (num 20) ≡ false
  not_past_the_span = refl

  -- both are 20
  abbrev point : Gap
  point = record { above = side Eq 20; below = side Eq 20; flag = Some f }

  at_the_point : gap_passes point (num 20) (num 20) set ≡ false
  at_the_point = refl

  beside_the_point : gap_passes point (num 20) (num 19) set ∷ gap_passes point (num 21) (num 20) set ∷ [] ≡ true ∷ true ∷ []
  beside_the_point = refl

  past_the_point : is_past point (num 21) ∷ is_past point (num 20) ∷ is_past point (num 19) ∷ [] ≡ true ∷ false ∷ false ∷ []
  past_the_point = refl

  -- ---- keys

  past_operators : past_operator_by None Gt ∷ past_operator_by None Gte ∷ past_operator_by (Some f) Lt ∷ past_operator_by (Some f) Lte ∷ past_operator_by (Some f) Eq ∷ [] ≡ Gt ∷ Gte ∷ Gte ∷ Gt ∷ Gt ∷ []
  past_operators = refl

  -- the key 20, which a value above it is past, or one from it on
  abbrev key : ScalarValue
  key = value.Primitive (number.I64 (pos 20))

  above_the_key : is_past_key Gt false key (num 21) ∷ is_past_key Gt false key (num 20) ∷ is_past_key Gt false key (num 19) ∷ [] ≡ true ∷ false ∷ false ∷ []
  above_the_key = refl

  from_the_key_on : is_past_key Gte false key (num 21) ∷ is_past_key Gte false key (num 20) ∷ is_past_key Gte false key (num 19) ∷ [] ≡ true ∷ true ∷ false ∷ []
  from_the_key_on = refl

  null_by_keys : is_past_key Gt false key None ∷ is_past_key Gt true key None ∷ [] ≡ false ∷ true ∷ []
  null_by_keys = refl
