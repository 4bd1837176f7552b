-- Steps of the lines of a text.
use Rattle.std.proofs.Common.{◌≡◌, ◌<◌, ℕ, true, false, if◌then◌else◌, List, [], ◌∷◌, ◌++◌, Option, None, Some, String, is_some, length, refl, inl, inr, arith}
use Rattle.std.proofs.lemmas.Bool.{cases_Bool}
use Rattle.std.specs.declared.alloc.Global.{Global}
use Rattle.vortex_base.specs.Data.Scopes.{Named, named_columns, place_of}
use Rattle.vortex_expr.specs.Trees.Tree.{Tree, Place}
use Rattle.vortex_base.specs.declared.dtype.DType.{DType}
use Rattle.vortex_prune.specs.Part.{PartData}
use Rattle.vortex_syntax.specs.Fails.{Fails}
use Rattle.vortex_syntax.specs.LineKinds.{kind_of}
use Rattle.vortex_syntax.specs.Names.{is_name, is_new}
use Rattle.vortex_syntax.specs.Words.{Token, plain_word}
use Rattle.vortex_syntax.specs.declared.line_error.LineError.{LineError}
use Rattle.vortex_syntax.specs.declared.line_kind.LineKind.{LineKind}
use Rattle.vortex_text.proofs.ColumnLemmas.{fails_on}
use Rattle.vortex_text.specs.Lines.{Reading, and_current, has_part, read_kind, read_words, with_column}

pub has_last : (parts : List PartData) (part : PartData) → has_part (parts ++ part ∷ []) ≡ true
has_last [] part = refl
has_last (p ∷ ps) part = refl

-- a column before the first part
pub column_added : (cs new : List (String Global × DType)) (ended : List PartData) (current : Option PartData) (predicate : Option (Tree Place)) (name : List ℕ) (t : DType)
    → has_part (and_current ended current) ≡ false → is_new (named_columns cs) name ≡ true
    → named_columns new ≡ named_columns cs ++ (name, t) ∷ []
    → with_column (record { scope = named_columns cs; ended = ended; current = current; predicate = predicate }) name t
    ≡ Some (record { scope = named_columns new; ended = ended; current = current; predicate = predicate })
column_added cs new ended current predicate name t none is_new more = rw (none, is_new, more) refl

-- no line with words after the predicate
pub stops_after : (r : Reading) (ws : List Token) → 0 < length ws → is_some r.predicate ≡ true → read_words r ws ≡ None
stops_after r [] some h = absurd (omega arith)
stops_after r (w ∷ ws) some h = rw h refl

no_first : (r : Reading) (ws : List Token) → 0 < length ws → is_some r.predicate ≡ false → plain_word ws ≡ None → read_words r ws ≡ None
no_first r [] some h none = absurd (omega arith)
no_first r (w ∷ ws) some h none = rw (h, none) refl

-- the first word is none without quotes
pub fails_first : (e : LineError) (r : Reading) (ws : List Token) → 0 < length ws → is_some r.predicate ≡ false → Fails e (plain_word ws) → Fails e (read_words r ws)
fails_first e r ws some h fails = fails_on e (plain_word ws) (read_words r ws) (no_first r ws some h) fails

-- the first word says no kind
pub no_kind : (r : Reading) (ws rest : List Token) (name : List ℕ) → is_some r.predicate ≡ false → plain_word ws ≡ Some (name, rest) → kind_of name ≡ None → read_words r ws ≡ None
no_kind r [] rest name h plain none = cc
no_kind r (w ∷ ws) rest name h plain none = rw (h, plain, none) refl

-- the first word says the kind
pub by_kind : (r : Reading) (ws rest : List Token) (name : List ℕ) (k : LineKind) → is_some r.predicate ≡ false → plain_word ws ≡ Some (name, rest) → kind_of name ≡ Some k
    → read_words r ws ≡ read_kind k r rest
by_kind r [] rest name k h plain kind = cc
by_kind r (w ∷ ws) rest name k h plain kind = rw (h, plain, kind) refl

-- a name that no column has yet has no place
pub new_has_no_place : (scope : List Named) (name : List ℕ) → is_new scope name ≡ true → place_of name scope ≡ None
new_has_no_place scope name new = elim (cases_Bool (is_name name)) [
  | inl word ↦ none (place_of name scope) (rw word at new)
  | inr other ↦ (let e = rw other at new in cc)
]
  where
    none : (o : Option ℕ) → (if is_some o then false else true) ≡ true → o ≡ None
    none None h = refl
    none (Some i) h = cc
