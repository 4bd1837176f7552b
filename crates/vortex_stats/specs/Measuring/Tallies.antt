-- What a pass over the values of a column has found up to some place.
use Rattle.std.specs.Prelude.{◌≡◌, true, List, [], ◌∷◌, ◌++◌, Option, Some, None, MatchOption, slice_get}
use Rattle.vortex_base.specs.declared.dtype.DType.{DType}
use Rattle.vortex_base.specs.declared.scalar_value.ScalarValue.{ScalarValue}
use Rattle.vortex_base.specs.Data.Values.{is_value}
use Rattle.vortex_stats.specs.declared.measure.tally.Run.{Run}
use Rattle.vortex_stats.specs.declared.measure.tally.Tally.{Tally}
use Rattle.vortex_stats.specs.Measuring.Codes.{Code, code_of}
use Rattle.vortex_stats.specs.Sets.Claims.{NoneAbove, NoneBelow, is_sorted, is_strict_sorted, null_count, present}

module _ {K : Type 0} (code : K → Code) (t : DType) where
  -- the key stands for the value, which is one of the type
  abbrev pub IsKeyOf : K → ScalarValue → Type 0
  IsKeyOf k v = (code k ≡ code_of v) × (is_value v t ≡ true)

  -- the key is there where the value is
  abbrev pub IsOptionalKeyOf : Option K → Option ScalarValue → Type 0
  IsOptionalKeyOf k x = MatchOption k (x ≡ None) (λ key. (v : ScalarValue) × (x ≡ Some v) × IsKeyOf key v)

  -- the least, the greatest and the last value, and whether they ascend
  pub record IsRunOf (run : Run K) (xs : List (Option ScalarValue)) : Type 0 where
    pub least : ScalarValue
    pub least_key : IsKeyOf run.least least
    pub least_at : slice_get xs run.least_at ≡ Some (Some least)
    pub none_below : NoneBelow least xs
    pub greatest : ScalarValue
    pub greatest_key : IsKeyOf run.greatest greatest
    pub greatest_at : slice_get xs run.greatest_at ≡ Some (Some greatest)
    pub none_above : NoneAbove greatest xs
    pub front : List ScalarValue
    pub last : ScalarValue
    pub last_key : IsKeyOf run.last last
    pub ends : present xs ≡ front ++ last ∷ []
    pub sorted : run.is_sorted ≡ is_sorted (present xs)
    pub strict_sorted : run.is_strict_sorted ≡ is_strict_sorted (present xs)

  -- no run where there are no values
  abbrev pub IsOptionalRunOf : Option (Run K) → List (Option ScalarValue) → Type 0
  IsOptionalRunOf run xs = MatchOption run (present xs ≡ []) (λ r. IsRunOf r xs)

  -- how many are null, and the run of the values, if there are any
  pub record IsTallyOf (tally : Tally K) (xs : List (Option ScalarValue)) : Type 0 where
    pub nulls : tally.nulls ≡ null_count xs
    pub run : IsOptionalRunOf tally.run xs
