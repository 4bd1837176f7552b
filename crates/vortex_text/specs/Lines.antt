-- What the lines of a text say, one after another.
use Rattle.std.specs.Prelude.{ℕ, Bool, true, false, nat_le, List, [], ◌∷◌, ◌++◌, Option, None, Some, is_some, length, if◌then◌else◌}
use Rattle.std.specs.Str.{is_utf8}
use Rattle.vortex_base.specs.Data.Scopes.{Named, is_empty}
use Rattle.vortex_expr.specs.Trees.Tree.{Tree, Place}
use Rattle.vortex_base.specs.declared.dtype.DType.{DType}
use Rattle.vortex_base.specs.declared.scalar_value.ScalarValue.{ScalarValue}
use Rattle.vortex_prune.specs.Part.{PartData}
use Rattle.vortex_stats.specs.declared.precision.Precision.{Precision}
use Rattle.vortex_stats.specs.declared.stat.Stat.{Stat}
use Rattle.vortex_syntax.specs.Expressions.{expression_of}
use Rattle.vortex_syntax.specs.Fails.{◌>>=◌, when}
use Rattle.vortex_syntax.specs.LineKinds.{kind_of}
use Rattle.vortex_syntax.specs.Names.{is_new, type_of}
use Rattle.vortex_syntax.specs.Numbers.{in_64_bits, natural_of}
use Rattle.vortex_syntax.specs.Statistics.{claimed, claimed_value}
use Rattle.vortex_syntax.specs.Words.{Token, no_word, plain_word, word_limit, words}
use Rattle.vortex_syntax.specs.declared.line_kind.LineKind.{LineKind}
use Rattle.vortex_syntax.specs.declared.line_kind.LineKind.TheVariants as kind
use Rattle.vortex_text.specs.Rows.{empty_part, joined_at, with_row, with_statistic}

-- what lines say: the scope, the parts that take no more rows, the one that does, and the predicate
pub record Reading : Type 0 where
  pub scope : List Named
  pub ended : List PartData
  pub current : Option PartData
  pub predicate : Option (Tree Place)

abbrev pub nothing_read : Reading
nothing_read = record { scope = []; ended = []; current = None; predicate = None }

abbrev pub and_current : List PartData → Option PartData → List PartData
and_current parts None = parts
and_current parts (Some part) = parts ++ part ∷ []

-- all parts so far
abbrev pub parts_of : Reading → List PartData
parts_of r = and_current r.ended r.current

abbrev pub has_part : List PartData → Bool
has_part [] = false
has_part (p ∷ ps) = true

-- one more column, before the first part
abbrev pub with_column : Reading → List ℕ → DType → Option Reading
with_column r name t = when (if has_part (parts_of r) then false else is_new r.scope name) (record r { scope = r.scope ++ (name, t) ∷ [] })

-- `column NAME TYPE`: the next column
abbrev pub read_column : Reading → List Token → Option Reading
read_column r ws = do
  name ← plain_word ws
  type ← plain_word name.1
  none ← no_word type.1
  t ← type_of type.0
  with_column r name.0 t

-- `part`: begins a part, once there is a column
abbrev pub read_part : Reading → List Token → Option Reading
read_part r ws = do
  none ← no_word ws
  when (if is_empty r.scope then false else true) (record { scope = r.scope; ended = parts_of r; current = Some (empty_part r.scope); predicate = r.predicate })

-- the statistic of the column at a place of the current part
abbrev pub with_claim : Reading → ℕ → Stat → Precision ScalarValue → Option Reading
with_claim r i s p = do
  part ← r.current
  Some (record r { current = Some (with_statistic i s p part) })

-- `stat NAME STAT exact VALUE`, `.. inexact VALUE`: a statistic of the current part
abbrev pub read_stat : Reading → List Token → Option Reading
read_stat r ws = do
  claim ← claimed r.scope ws
  p ← claimed_value claim.0.2 claim.1
  with_claim r claim.0.0 claim.0.1 p

-- `row V ..`: a row of the current part
abbrev pub read_row : Reading → List Token → Option Reading
read_row r ws = do
  part ← r.current
  longer ← with_row part ws
  Some (record r { current = Some longer })

-- `join N`: joins a part and the one behind it; the next rows take a new part
abbrev pub read_join : Reading → List Token → Option Reading
read_join r ws = do
  place ← plain_word ws
  none ← no_word place.1
  n ← natural_of place.0
  i ← in_64_bits n
  parts ← joined_at i (parts_of r)
  Some (record r { ended = parts; current = None })

-- `where EXPR`: the predicate, once there is a column
abbrev pub read_where : Reading → List Token → Option Reading
read_where r ws = do
  short ← when (nat_le (length ws) word_limit) ws
  e ← expression_of r.scope short
  when (if is_empty r.scope then false else true) (record r { predicate = Some e })

abbrev pub read_kind : LineKind → Reading → List Token → Option Reading
read_kind kind.Column r ws = read_column r ws
read_kind kind.Part r ws = read_part r ws
read_kind kind.Stat r ws = read_stat r ws
read_kind kind.Row r ws = read_row r ws
read_kind kind.Join r ws = read_join r ws
read_kind kind.Where r ws = read_where r ws

-- the words of one line. A line without words says nothing, and after the predicate no line may have words.
abbrev pub read_words : Reading → List Token → Option Reading
read_words r [] = Some r
read_words r (w ∷ ws) = do
  within ← when (if is_some r.predicate then false else true) (w ∷ ws)
  first ← plain_word within
  k ← kind_of first.0
  read_kind k r first.1

-- one line, after those that gave r
abbrev pub read_line : Reading → List ℕ → Option Reading
read_line r line = do
  text ← when (is_utf8 line) line
  read_words r (words text)
