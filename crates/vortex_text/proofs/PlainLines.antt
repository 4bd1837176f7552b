-- Lines that are read straight from the bytes of a text, in terms of their words.
use Rattle.std.proofs.Common.{◌≡◌, ◌<◌, ◌||◌, ℕ, Bool, true, false, List, [], ◌∷◌, ◌++◌, Option, None, Some, length, is_some, option_and_then, option_map, append_assoc, append-nil, codes, map, refl, ap, sym, ◌∙◌, arith}
use Rattle.std.proofs.lemmas.Bool.{and_from}
use Rattle.std.proofs.lemmas.List.Folds.{list_all-append}
use Rattle.std.proofs.lemmas.Str.{IsUtf8-nil, is_utf8-from_IsUtf8}
use Rattle.std.specs.List.{list_all}
use Rattle.std.specs.Str.{is_utf8}
use Rattle.std.specs.Str.Lines.{lines}
use Rattle.vortex_base.specs.declared.dtype.DType.{DType}
use Rattle.vortex_base.specs.declared.scalar_value.ScalarValue.{ScalarValue}
use Rattle.vortex_prune.specs.Part.{PartData}
use Rattle.vortex_stats.specs.declared.precision.Precision.{Precision}
use Rattle.vortex_stats.specs.declared.stat.Stat.{Stat}
use Rattle.vortex_syntax.proofs.PlainLemmas.{is_spelled, line_bytes}
use Rattle.vortex_syntax.proofs.Spelling.{word_back}
use Rattle.vortex_syntax.specs.Fails.{Fails}
use Rattle.vortex_syntax.specs.LineKinds.{kind_of}
use Rattle.vortex_syntax.specs.Plain.{is_line_byte, is_word_byte}
use Rattle.vortex_syntax.specs.PlainStatistics.{BeginsStat, BeginsWords, told_by}
use Rattle.vortex_syntax.specs.Spelling.{IsParted}
use Rattle.vortex_syntax.specs.Statistics.{claimed, claimed_value}
use Rattle.vortex_syntax.specs.Words.{Token, Plain, words}
use Rattle.vortex_syntax.specs.declared.line_error.LineError.{LineError}
use Rattle.vortex_syntax.specs.declared.line_kind.LineKind.{LineKind}
use Rattle.vortex_syntax.specs.declared.line_kind.LineKind.TheVariants as kind
use Rattle.vortex_text.proofs.ColumnLemmas.{fails_on}
use Rattle.vortex_text.proofs.DraftLemmas.{by_kind}
use Rattle.vortex_text.proofs.FirstLineLemmas.{lines_behind, lines_ended, utf8_behind}
use Rattle.vortex_text.proofs.FirstReads.{line_may}
use Rattle.vortex_syntax.proofs.Fitting.ExpressionFits.{one_made, step_of}
use Rattle.vortex_text.specs.FirstLines.{first_read, may_take}
use Rattle.vortex_text.specs.Lines.{Reading, read_kind, read_line, read_part, read_stat, with_claim}
use Rattle.vortex_text.specs.MemoryTaken.{kind_takes, line_takes}

-- ---- words in plain form, each behind one space

abbrev spaced : List (List ℕ) → List ℕ
spaced [] = []
spaced (w ∷ ws) = 32 ∷ (w ++ spaced ws)

spaced_parted : (ws : List (List ℕ)) → IsParted (spaced ws)
spaced_parted [] = tt
spaced_parted (w ∷ ws) = refl

spaced_split : (text rest : List ℕ) (ws : List (List ℕ)) → BeginsWords text ws rest → text ≡ spaced ws ++ rest
spaced_split text rest [] is = is
spaced_split text rest (w ∷ ws) (after, (behind, is, begins), more) =
    is ∙ ap (λ l. 32 ∷ l) (begins.split ∙ ap (λ l. w ++ l) (spaced_split after rest ws more) ∙ sym (append_assoc w (spaced ws) rest))

spaced_clean : (text rest : List ℕ) (ws : List (List ℕ)) → BeginsWords text ws rest → list_all is_line_byte (spaced ws) ≡ true
spaced_clean text rest [] is = refl
spaced_clean text rest (w ∷ ws) (after, (behind, is, begins), more) =
    list_all-append is_line_byte w (spaced ws) ∙ and_from _ _ (line_bytes w begins.is_plain) (spaced_clean after rest ws more)

spaced_words : (text rest : List ℕ) (ws : List (List ℕ)) → BeginsWords text ws rest → words (spaced ws) ≡ map Plain ws
spaced_words text rest [] is = refl
spaced_words text rest (w ∷ ws) (after, (behind, is, begins), more) =
    word_back (Plain w) (spaced ws) (is_spelled w begins.is_plain begins.some) (spaced_parted ws) ∙ ap (λ l. Plain w ∷ l) (spaced_words after rest ws more)

-- ---- a line of some kind

-- the line of a text, whose first word says its kind, and what stands behind that in it
record IsLine (text first line after : List ℕ) : Type 0 where
  split : text ≡ first ++ (line ++ 10 ∷ after)
  plain : list_all is_word_byte first ≡ true
  some : 0 < length first
  clean : list_all is_line_byte line ≡ true
  parted : IsParted line

module _ (r : Reading) (text first line after : List ℕ) (k : LineKind) (is : IsLine text first line after) (open_yet : is_some r.predicate ≡ false) (kind_is : kind_of first ≡ Some k) where
  whole_clean : list_all is_line_byte (first ++ line) ≡ true
  whole_clean = list_all-append is_line_byte first line ∙ and_from _ _ (line_bytes first is.plain) is.clean

  first_line : lines text ≡ (first ++ line) ∷ lines after
  first_line =
      ap lines (is.split ∙ sym (append_assoc first line (10 ∷ after)))
      ∙ lines_behind (first ++ line) (10 ∷ after) [] (lines after) whole_clean (lines_ended after)
      ∙ ap (λ l. l ∷ lines after) (append-nil (first ++ line))

  whole_utf8 : is_utf8 (first ++ line) ≡ true
  whole_utf8 = ap is_utf8 (sym (append-nil (first ++ line))) ∙ utf8_behind (first ++ line) [] whole_clean ∙ is_utf8-from_IsUtf8 [] IsUtf8-nil

  whole_words : words (first ++ line) ≡ Plain first ∷ words line
  whole_words = word_back (Plain first) line (is_spelled first is.plain is.some) is.parted

  read_is : read_line r (first ++ line) ≡ read_kind k r (words line)
  read_is = rw (whole_utf8, whole_words) (by_kind r (Plain first ∷ words line) (words line) first k open_yet refl kind_is)

  kind_first : first_read r (lines text) ≡ option_map (λ next. (next, lines after)) (read_kind k r (words line))
  kind_first = ap (first_read r) first_line ∙ ap (option_map {U = Reading × List (List ℕ)} (λ next. (next, lines after))) read_is

  kind_may : kind_takes k r (words line) ≡ true → may_take r (lines text) ≡ true
  kind_may takes =
      let line_does : line_takes r (first ++ line) ≡ true = rw (whole_utf8, whole_words, open_yet, kind_is, takes) refl in
      ap (may_take r) first_line ∙ line_may r (first ++ line) (lines after) line_does

-- ---- `stat`

stat_told : (r : Reading) (ws : List Token) (told : ℕ × Stat × Precision ScalarValue) → told_by r.scope ws ≡ Some told → read_stat r ws ≡ with_claim r told.0 told.1 told.2
stat_told r ws told is =
    let a = step_of (claimed r.scope ws) (λ (claim : (ℕ × Stat × DType) × List Token). option_and_then (λ (p : Precision ScalarValue). Some (claim.0.0, claim.0.1, p)) (claimed_value claim.0.2 claim.1)) told is in
    let b = step_of (claimed_value a.at.0.2 a.at.1) (λ (p : Precision ScalarValue). Some (a.at.0.0, a.at.0.1, p)) told a.then in
    rw (a.made, b.made) (ap (λ (x : ℕ × Stat × Precision ScalarValue). with_claim r x.0 x.1 x.2) (one_made _ _ b.then))

stat_line : (text said after : List ℕ) (ws : List (List ℕ)) → text ≡ codes "stat" ++ said → BeginsWords said ws (10 ∷ after) → IsLine text (codes "stat") (spaced ws) after
stat_line text said after ws split begins = record {
  split = split ∙ ap (λ l. codes "stat" ++ l) (spaced_split said (10 ∷ after) ws begins);
  plain = refl;
  some = omega arith;
  clean = spaced_clean said (10 ∷ after) ws begins;
  parted = spaced_parted ws;
}

pub stat_first : (r : Reading) (text said after : List ℕ) (told : ℕ × Stat × Precision ScalarValue) → is_some r.predicate ≡ false → text ≡ codes "stat" ++ said → BeginsStat r.scope said told after
    → first_read r (lines text) ≡ option_map (λ next. (next, lines after)) (with_claim r told.0 told.1 told.2)
stat_first r text said after told open_yet split (ws, begins, is) =
    kind_first r text (codes "stat") (spaced ws) after kind.Stat (stat_line text said after ws split begins) open_yet refl
    ∙ ap (λ l. option_map {U = Reading × List (List ℕ)} (λ next. (next, lines after)) (read_stat r l)) (spaced_words said (10 ∷ after) ws begins)
    ∙ ap (option_map {U = Reading × List (List ℕ)} (λ next. (next, lines after))) (stat_told r (map Plain ws) told is)

-- a claim of a part that takes rows is read
claim_read : (r : Reading) (told : ℕ × Stat × Precision ScalarValue) (o : Option PartData) → r.current ≡ o → is_some o ≡ true → is_some (with_claim r told.0 told.1 told.2) ≡ true
claim_read r told None is some = cc
claim_read r told (Some part) is some = rw is refl

pub stat_read : (r : Reading) (ws later : List Token) (i : ℕ) (s : Stat) (t : DType) (p : Precision ScalarValue) (takes : Bool) → claimed r.scope ws ≡ Some ((i, s, t), later) → claimed_value t later ≡ Some p → is_some r.current ≡ true
    → (takes || is_some (read_stat r ws)) ≡ true
stat_read r ws later i s t p true claim_is value_is some = refl
stat_read r ws later i s t p false claim_is value_is some = rw (claim_is, value_is) (claim_read r (i, s, p) r.current refl some)

pub stat_refused : (e : LineError) (r : Reading) (text said after : List ℕ) (told : ℕ × Stat × Precision ScalarValue) → is_some r.predicate ≡ false → text ≡ codes "stat" ++ said → BeginsStat r.scope said told after
    → Fails e (with_claim r told.0 told.1 told.2) → Fails e (first_read r (lines text))
stat_refused e r text said after told open_yet split begins fails =
    fails_on e (with_claim r told.0 told.1 told.2) (first_read r (lines text))
    (λ none. stat_first r text said after told open_yet split begins ∙ ap (option_map {U = Reading × List (List ℕ)} (λ next. (next, lines after))) none) fails

-- ---- `part`

part_line : (text after : List ℕ) → text ≡ codes "part" ++ 10 ∷ after → IsLine text (codes "part") [] after
part_line text after split = record { split = split; plain = refl; some = omega arith; clean = refl; parted = tt }

pub part_first : (r : Reading) (text after : List ℕ) → is_some r.predicate ≡ false → text ≡ codes "part" ++ 10 ∷ after → first_read r (lines text) ≡ option_map (λ next. (next, lines after)) (read_part r [])
part_first r text after open_yet split = kind_first r text (codes "part") [] after kind.Part (part_line text after split) open_yet refl

pub part_may : (r : Reading) (text after : List ℕ) → is_some r.predicate ≡ false → text ≡ codes "part" ++ 10 ∷ after → kind_takes kind.Part r [] ≡ true → may_take r (lines text) ≡ true
part_may r text after open_yet split = kind_may r text (codes "part") [] after kind.Part (part_line text after split) open_yet refl
