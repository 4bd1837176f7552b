-- Keys of gaps: the values of one type with which gaps compare the first column's value. A search among them finds the first gap that a value isn't past.
use Rattle.std.specs.Prelude.{◌≡◌, ℕ, ◌<◌, Bool, List, length, Option, Some, None, slice_index_or}
use Rattle.vortex_base.specs.Data.Values.{value_cmp}
use Rattle.vortex_base.specs.declared.scalar_value.ScalarValue.{ScalarValue}
use Rattle.vortex_expr.specs.Meanings.Meaning.{holds}
use Rattle.vortex_expr.specs.declared.scalar_fn.Operator.{Operator}
use Rattle.vortex_expr.specs.declared.scalar_fn.Operator.TheVariants as operator
use Rattle.vortex_prune.specs.Scanning.Gaps.{is_past}
use Rattle.vortex_prune.specs.declared.scan.gaps.Gap.{Gap}
use Rattle.vortex_prune.specs.declared.scan.sides.Flag.{Flag}

-- a value compares so with a key, and null is past each key or none
abbrev pub is_past_key : Operator → (null : Bool) → (key : ScalarValue) → Option ScalarValue → Bool
is_past_key o null key None = null
is_past_key o null key (Some v) = holds o (value_cmp v key)

-- exactly the values past the key are past the gap
abbrev pub IsKey : Operator → (null : Bool) → (key : ScalarValue) → Gap → Type 0
IsKey o null key g = (x : Option ScalarValue) → is_past g x ≡ is_past_key o null key x

-- the comparison with its own value by which the first value is past a gap
abbrev pub past_operator_by : Option Flag → Operator → Operator
past_operator_by None o = o
past_operator_by (Some f) operator.Lt = operator.Gte
past_operator_by (Some f) o = operator.Gt

-- each gap has the key at its place
pub record AreKeys {X : Type 0} (o : Operator) (null : Bool) (scalar : X → ScalarValue) (keys : List X) (gs : List Gap) : Type 0 where
  pub long : length keys ≡ length gs
  pub each : (k : ℕ) (x : X) (d : Gap) → k < length gs → IsKey o null (scalar (slice_index_or keys k x)) (slice_index_or gs k d)
