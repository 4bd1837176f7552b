-- A `stat` line in plain form, at the front of a text: what was passed, and what follows.
use Rattle.std.specs.Prelude.{◌≡◌, ℕ, Bool, true, false, List, [], ◌∷◌, Option, Some, codes, map}
use Rattle.vortex_base.specs.Data.Scopes.{Named}
use Rattle.vortex_base.specs.declared.dtype.DType.{DType}
use Rattle.vortex_base.specs.declared.scalar_value.ScalarValue.{ScalarValue}
use Rattle.vortex_stats.specs.declared.precision.Precision.{Precision}
use Rattle.vortex_stats.specs.declared.precision.Precision.TheVariants.{Exact, Inexact}
use Rattle.vortex_stats.specs.declared.stat.Stat.{Stat}
use Rattle.vortex_syntax.specs.Fails.{◌>>=◌}
use Rattle.vortex_syntax.specs.Plain.{BeginsWord}
use Rattle.vortex_syntax.specs.Statistics.{claimed, claimed_value, stat_of}
use Rattle.vortex_syntax.specs.Values.{plain_value}
use Rattle.vortex_syntax.specs.Words.{Token, Plain}

-- the text begins with a space and a word in plain form, and what follows that
abbrev pub BeginsSpaced : (text word rest : List ℕ) → Type 0
BeginsSpaced text word rest = (behind : List ℕ) × (text ≡ 32 ∷ behind) × BeginsWord behind word rest

-- with these words in plain form, each behind one space
abbrev pub BeginsWords : (text : List ℕ) → List (List ℕ) → (rest : List ℕ) → Type 0
BeginsWords text [] rest = text ≡ rest
BeginsWords text (w ∷ ws) rest = (after : List ℕ) × BeginsSpaced text w after × BeginsWords after ws rest

abbrev pub precision_name : (is_exact : Bool) → List ℕ
precision_name true = codes "exact"
precision_name false = codes "inexact"

-- the value with its precision
abbrev pub precise : (is_exact : Bool) → ScalarValue → Precision ScalarValue
precise true v = Exact v
precise false v = Inexact v

-- with a word in plain form that writes this value of the type, which isn't null
abbrev pub BeginsPlainValue : DType → (text : List ℕ) → ScalarValue → (rest : List ℕ) → Type 0
BeginsPlainValue t text v rest = (word : List ℕ) × BeginsWord text word rest × (plain_value t word ≡ Some v)

-- with a space and such a word
abbrev pub BeginsSpacedValue : DType → (text : List ℕ) → ScalarValue → (rest : List ℕ) → Type 0
BeginsSpacedValue t text v rest = (behind : List ℕ) × (text ≡ 32 ∷ behind) × BeginsPlainValue t behind v rest

-- with a space and the name of a statistic in plain form
abbrev pub BeginsSpacedStat : (text : List ℕ) → Stat → (rest : List ℕ) → Type 0
BeginsSpacedStat text s rest = (word : List ℕ) × BeginsSpaced text word rest × (stat_of word ≡ Some s)

-- with two words in plain form that name this column and this statistic, which has this type there
abbrev pub BeginsClaim : List Named → (text : List ℕ) → ℕ × Stat × DType → (rest : List ℕ) → Type 0
BeginsClaim scope text claim rest = (name : List ℕ) × (word : List ℕ) × BeginsWords text (name ∷ word ∷ []) rest
    × ((later : List Token) → claimed scope (Plain name ∷ Plain word ∷ later) ≡ Some (claim, later))

-- what the words of a `stat` line tell: the place of the column, the statistic and its value
abbrev pub told_by : List Named → List Token → Option (ℕ × Stat × Precision ScalarValue)
told_by scope ws = do
  claim ← claimed scope ws
  p ← claimed_value claim.0.2 claim.1
  Some (claim.0.0, claim.0.1, p)

-- the text begins with words in plain form that tell this statistic, and a line feed
abbrev pub BeginsStat : List Named → (text : List ℕ) → ℕ × Stat × Precision ScalarValue → (rest : List ℕ) → Type 0
BeginsStat scope text told rest = (ws : List (List ℕ)) × BeginsWords text ws (10 ∷ rest) × (told_by scope (map Plain ws) ≡ Some told)
