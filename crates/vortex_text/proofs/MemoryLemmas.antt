-- Which lines take memory: those that begin a part or name a predicate do.
use Rattle.std.proofs.Common.{◌≡◌, ◌||◌, ℕ, zero, suc, Bool, true, false, List, [], ◌∷◌, ◌++◌, Some, is_some, length, nat_le, if◌then◌else◌, refl, ap, ◌∙◌, append_assoc, inl, inr}
use Rattle.std.proofs.lemmas.Bool.{cases_Bool}
use Rattle.std.specs.List.{list_any}
use Rattle.std.specs.Str.{is_utf8}
use Rattle.std.specs.Str.Lines.{lines}
use Rattle.vortex_base.specs.Data.Scopes.{Named}
use Rattle.vortex_expr.specs.Trees.Tree.{Tree, Place}
use Rattle.vortex_syntax.specs.Copies.{is_copied}
use Rattle.vortex_syntax.specs.Expressions.{begins_expression, expression_of, expression_within, form_of}
use Rattle.vortex_syntax.specs.LineKinds.{kind_of}
use Rattle.vortex_syntax.specs.Numbers.{in_64_bits, natural_of}
use Rattle.vortex_syntax.specs.Statistics.{claimed, claimed_value}
use Rattle.vortex_syntax.specs.Words.{Token, Plain, Quoted, Broken, no_word, plain_word, word_limit, words}
use Rattle.vortex_syntax.specs.declared.line_kind.LineKind.{LineKind}
use Rattle.vortex_syntax.specs.declared.line_kind.LineKind.TheVariants as kind
use Rattle.vortex_syntax.proofs.Fitting.ExpressionFits.{step_of}
use Rattle.vortex_syntax.proofs.Fitting.ValueFits.{chosen}
use Rattle.vortex_text.specs.Lines.{Reading, nothing_read, read_join, read_kind, read_line, read_stat, read_where, read_words}
use Rattle.vortex_syntax.specs.Fails.{when}
use Rattle.vortex_text.specs.MemoryTaken.{TakesMemory, kind_takes, line_takes, place_in, words_take}
use Rattle.vortex_text.specs.Naming.{Reads}

-- there is a part that takes rows, or a predicate
abbrev pub holds : Reading → Bool
holds r = is_some r.current || is_some r.predicate

or_false : (a b : Bool) → (a || b) ≡ false → (a ≡ false) × (b ≡ false)
or_false true b h = cc
or_false false b h = (refl, h)

or_true : (b : Bool) → (b || true) ≡ true
or_true true = refl
or_true false = refl

-- the words begin an expression, if one is read of them
begins : (scope : List Named) (most : ℕ) (ws : List Token) (x : Tree Place × List Token) → expression_within scope most ws ≡ Some x → begins_expression ws ≡ true
begins scope zero ws x h = cc
begins scope (suc most) [] x h = cc
begins scope (suc most) (Plain word ∷ ws) x h = ap is_some (step_of (form_of word) _ x h).made
begins scope (suc most) (Quoted text ∷ ws) x h = cc
begins scope (suc most) (Broken ∷ ws) x h = cc

where_takes : (a next : Reading) (ws : List Token) → read_where a ws ≡ Some next → (list_any is_copied ws || begins_expression ws) ≡ true
where_takes a next ws read =
    let short = step_of (when (nat_le (length ws) word_limit) ws) _ next read in
    let same = (chosen (nat_le (length ws) word_limit) ws short.at short.made).1 in
    let whole = step_of (expression_of a.scope short.at) _ next short.then in
    let e = step_of (expression_within a.scope (length short.at) short.at) _ whole.at whole.made in
    let begun : begins_expression ws ≡ true = ap begins_expression same ∙ begins a.scope (length short.at) short.at e.at e.made in
    rw begun (or_true (list_any is_copied ws))

stat_has_part : (a next : Reading) (ws : List Token) → read_stat a ws ≡ Some next → is_some a.current ≡ true
stat_has_part a next ws read =
    let claim = step_of (claimed a.scope ws) _ next read in
    let value = step_of (claimed_value claim.at.0.2 claim.at.1) _ next claim.then in
    ap is_some (step_of a.current _ next value.then).made

join_takes : (a next : Reading) (ws : List Token) → read_join a ws ≡ Some next → kind_takes kind.Join a ws ≡ true
join_takes a next ws read =
    let place = step_of (plain_word ws) _ next read in
    let none = step_of (no_word place.at.1) _ next place.then in
    let n = step_of (natural_of place.at.0) _ next none.then in
    let i = step_of (in_64_bits n.at) _ next n.then in
    let named : is_some (place_in ws) ≡ true = rw (place.made, none.made, n.made, i.made) refl in
    let fine : is_some (read_join a ws) ≡ true = ap is_some read in
    rw (named, fine) (or_true (is_some a.current))

kind_holds : (k : LineKind) (a next : Reading) (ws : List Token) → read_kind k a ws ≡ Some next → is_some a.current ≡ false → kind_takes k a ws ≡ true
kind_holds kind.Column a next ws read none = ap is_some read
kind_holds kind.Part a next ws read none = ap is_some read
kind_holds kind.Stat a next ws read none = let some = stat_has_part a next ws read in cc
kind_holds kind.Row a next ws read none = ap is_some (step_of a.current _ next read).made
kind_holds kind.Join a next ws read none = join_takes a next ws read
kind_holds kind.Where a next ws read none = where_takes a next ws read

-- the words of a line of which something comes take memory, while there is neither a part nor a predicate
words_hold : (a next : Reading) (ws : List Token) → read_words a ws ≡ Some next → holds a ≡ false → holds next ≡ true → words_take a ws ≡ true
words_hold a next [] read none some = let same : a ≡ next = cc in let held = ap holds same in cc
words_hold a next (w ∷ ws) read none some =
    let nothing = or_false (is_some a.current) (is_some a.predicate) none in
    let within = step_of (when (if is_some a.predicate then false else true) (w ∷ ws)) _ next read in
    let first = step_of (plain_word within.at) _ next within.then in
    let k = step_of (kind_of first.at.0) _ next first.then in
    let takes = kind_holds k.at a next first.at.1 k.then nothing.0 in
    rw (within.made, first.made, k.made, takes) refl

line_holds : (a next : Reading) (line : List ℕ) → read_line a line ≡ Some next → holds a ≡ false → holds next ≡ true → line_takes a line ≡ true
line_holds a next line read none some =
    let text = step_of (when (is_utf8 line) line) _ next read in
    let is = chosen (is_utf8 line) line text.at text.made in
    let same = ap words is.1 in
    rw (is.0, same) (words_hold a next (words text.at) text.then none some)

-- one more line
pub reads_push : (a b c : Reading) (front : List (List ℕ)) (line : List ℕ) → Reads a front b → read_line b line ≡ Some c → Reads a (front ++ line ∷ []) c
reads_push a b c [] line same read = (c, ap (λ r. read_line r line) same ∙ read, refl)
reads_push a b c (l ∷ front) line (next, first, more) read = (next, first, reads_push next b c front line more read)

-- a line of those that lead to a part or a predicate takes memory
pub taken_before : (a b : Reading) (ls : List (List ℕ)) → Reads a ls b → holds a ≡ false → holds b ≡ true
    → (front : List (List ℕ)) × (line : List ℕ) × (rest : List (List ℕ)) × (r : Reading) × (ls ≡ front ++ line ∷ rest) × Reads a front r × (line_takes r line ≡ true)
taken_before a b [] same none some = let held = ap holds same in absurd (cc)
taken_before a b (line ∷ more) (next, read, reads) none some = elim (cases_Bool (holds next)) [
  | inl held ↦ ([], line, more, a, refl, refl, line_holds a next line read none held)
  | inr free ↦ (let (front, l, rest, r, split, before, takes) = taken_before next b more reads free some in
      (line ∷ front, l, rest, r, ap (λ ls. line ∷ ls) split, (next, read, before), takes))
]

-- the text has such a line among the first ones
pub taken_in : (text : List ℕ) (front later : List (List ℕ)) (b : Reading) → lines text ≡ front ++ later → Reads nothing_read front b → holds b ≡ true → TakesMemory text
taken_in text front later b split reads some =
    let (before, line, rest, r, same, fine, takes) = taken_before nothing_read b front reads refl some in
    (before, line, rest ++ later, r, split ∙ ap (λ ls. ls ++ later) same ∙ append_assoc before (line ∷ rest) later, fine, takes)
