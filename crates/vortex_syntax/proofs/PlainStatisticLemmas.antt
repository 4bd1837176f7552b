-- A `stat` line in plain form, word by word.
use Rattle.std.proofs.Common.{◌≡◌, ℕ, Bool, true, false, List, [], ◌∷◌, Some, codes, map, refl}
use Rattle.vortex_base.specs.Data.Scopes.{Named}
use Rattle.vortex_expr.specs.Meanings.Binding.{find_column}
use Rattle.vortex_base.specs.declared.dtype.DType.{DType}
use Rattle.vortex_base.specs.declared.scalar_value.ScalarValue.{ScalarValue}
use Rattle.vortex_stats.specs.Stat.{stat_dtype}
use Rattle.vortex_stats.specs.declared.stat.Stat.{Stat}
use Rattle.vortex_syntax.specs.PlainStatistics.{BeginsClaim, BeginsSpaced, BeginsSpacedStat, BeginsSpacedValue, BeginsStat, precise, precision_name, told_by}
use Rattle.vortex_syntax.specs.Statistics.{claimed, stat_of}
use Rattle.vortex_syntax.specs.Values.{plain_value}
use Rattle.vortex_syntax.specs.Words.{Token, Plain}

pub claim_is : (scope : List Named) (name word : List ℕ) (place : ℕ) (column t : DType) (s : Stat) → find_column scope name ≡ Some (record { index = place; dtype = column }) → stat_of word ≡ Some s → stat_dtype s column ≡ Some t
    → (later : List Token) → claimed scope (Plain name ∷ Plain word ∷ later) ≡ Some ((place, s, t), later)
claim_is scope name word place column t s column_is stat_is type_is later = rw (column_is, stat_is, type_is) refl

pub claim_begins : (scope : List Named) (text name middle rest : List ℕ) (place : ℕ) (column t : DType) (s : Stat) → BeginsSpaced text name middle → BeginsSpacedStat middle s rest
    → find_column scope name ≡ Some (record { index = place; dtype = column }) → stat_dtype s column ≡ Some t → BeginsClaim scope text (place, s, t) rest
claim_begins scope text name middle rest place column t s first (word, second, stat_is) column_is type_is =
    (name, word, (middle, first, (rest, second, refl)), claim_is scope name word place column t s column_is stat_is type_is)

told_is : (scope : List Named) (name word value : List ℕ) (place : ℕ) (t : DType) (s : Stat) (is_exact : Bool) (v : ScalarValue)
    → ((later : List Token) → claimed scope (Plain name ∷ Plain word ∷ later) ≡ Some ((place, s, t), later)) → plain_value t value ≡ Some v
    → told_by scope (map Plain (name ∷ word ∷ precision_name is_exact ∷ value ∷ [])) ≡ Some (place, s, precise is_exact v)
told_is scope name word value place t s true v claim is = rw (claim (Plain (codes "exact") ∷ Plain value ∷ []), is) refl
told_is scope name word value place t s false v claim is = rw (claim (Plain (codes "inexact") ∷ Plain value ∷ []), is) refl

pub stat_begins : (scope : List Named) (text middle behind rest after : List ℕ) (place : ℕ) (t : DType) (s : Stat) (is_exact : Bool) (v : ScalarValue) → BeginsClaim scope text (place, s, t) middle
    → BeginsSpaced middle (precision_name is_exact) behind → BeginsSpacedValue t behind v rest → rest ≡ 10 ∷ after → BeginsStat scope text (place, s, precise is_exact v) after
stat_begins scope text middle behind rest after place t s is_exact v (name, word, (m, first, (n, second, same)), claim) precision (said, space, (value, begins, is)) feed = (
  name ∷ word ∷ precision_name is_exact ∷ value ∷ [],
  (m, first, (n, second, (behind, rw same precision, (rest, (said, space, begins), feed)))),
  told_is scope name word value place t s is_exact v claim is,
)
