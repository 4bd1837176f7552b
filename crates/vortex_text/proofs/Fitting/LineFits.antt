-- What each line says fits together with what was said before it.
use Rattle.std.proofs.Common.{◌≡◌, ℕ, Bool, true, false, List, [], ◌∷◌, ◌++◌, Option, None, Some, All, IfSome, OnOk, Result, Ok, Err, is_some, codes, nat_le, option_and_then, length, slice_get, if◌then◌else◌, refl, ap, sym, ◌∙◌, subst, inl, inr}
use Rattle.std.proofs.lemmas.Bool.{cases_Bool}
use Rattle.std.proofs.lemmas.List.Elements.{All-append, All-cons, All-nil}
use Rattle.std.specs.Str.{bytes_eq, is_utf8}
use Rattle.vortex_expr.specs.Meanings.Binding.{find_column}
use Rattle.vortex_base.specs.Data.Columns.{ColumnData}
use Rattle.vortex_expr.specs.Meanings.Fitting.{is_of_type}
use Rattle.vortex_base.specs.Data.Scopes.{Named, is_empty, is_state_column, place_of}
use Rattle.vortex_expr.specs.Trees.Tree.{Tree, Place}
use Rattle.vortex_base.specs.Data.Types.{dtype_eq_is_exact}
use Rattle.vortex_base.specs.Data.Values.{is_value}
use Rattle.vortex_base.specs.declared.dtype.DType.{DType}
use Rattle.vortex_base.specs.declared.scalar_value.ScalarValue.{ScalarValue}
use Rattle.vortex_prune.specs.Part.{PartData}
use Rattle.vortex_stats.specs.Sets.Entries.{is_value_of, value_fits}
use Rattle.vortex_stats.specs.Stat.{stat_dtype}
use Rattle.vortex_stats.specs.declared.precision.Precision.{Precision}
use Rattle.vortex_stats.specs.declared.precision.Precision.TheVariants.{Exact, Inexact}
use Rattle.vortex_stats.specs.declared.stat.Stat.{Stat}
use Rattle.vortex_syntax.specs.Expressions.{expression_of}
use Rattle.vortex_syntax.specs.Fails.{Changes, when}
use Rattle.vortex_syntax.specs.LineKinds.{kind_of}
use Rattle.vortex_syntax.specs.Names.{is_new, type_of}
use Rattle.vortex_syntax.specs.Numbers.{in_64_bits, natural_of}
use Rattle.vortex_syntax.specs.Statistics.{claimed, claimed_value, precision_of, stat_of}
use Rattle.vortex_syntax.specs.Values.{value_of}
use Rattle.vortex_syntax.specs.Words.{Token, first_word, no_word, plain_word, word_limit, words}
use Rattle.vortex_syntax.specs.declared.line_error.LineError.{LineError}
use Rattle.vortex_syntax.specs.declared.line_kind.LineKind.{LineKind}
use Rattle.vortex_syntax.specs.declared.line_kind.LineKind.TheVariants as kind
use Rattle.vortex_text.proofs.DraftLemmas.{has_last}
use Rattle.vortex_syntax.proofs.Fitting.ExpressionFits.{expression_fits, found_place, one_made, step_of}
use Rattle.vortex_text.proofs.Fitting.PartFits.{empty_is_part, joined_at_are_parts, row_is_part, shape_of, statistic_is_part, type_at}
use Rattle.vortex_syntax.proofs.Fitting.ScopeFits.{distinct_more, storable_more, type_storable}
use Rattle.vortex_syntax.proofs.Fitting.ValueFits.{chosen, value_of_fits}
use Rattle.vortex_text.specs.Fitting.{FitsTogether, IsPartOf, IsPredicateOver}
use Rattle.vortex_text.specs.Lines.{Reading, and_current, has_part, parts_of, read_column, read_join, read_kind, read_line, read_part, read_row, read_stat, read_where, read_words, with_claim, with_column}
use Rattle.vortex_text.specs.Rows.{empty_part, joined_at, with_row, with_statistic}

-- a test that holds after another that doesn't
second_holds : (b c : Bool) → (if b then false else c) ≡ true → (b ≡ false) × (c ≡ true)
second_holds true c h = cc
second_holds false c h = (refl, h)

-- all parts so far are parts of the scope
and_current_fit : (scope : List Named) (ended : List PartData) (current : Option PartData) → All (IsPartOf scope) ended → IfSome current (IsPartOf scope) → All (IsPartOf scope) (and_current ended current)
and_current_fit scope ended None all one = all
and_current_fit scope ended (Some part) all one = All-append (IsPartOf scope) ended (part ∷ []) all (All-cons (IsPartOf scope) part [] one (All-nil (IsPartOf scope)))

pub parts_fit : (r : Reading) → FitsTogether r → All (IsPartOf r.scope) (parts_of r)
parts_fit r h = and_current_fit r.scope r.ended r.current h.ended h.current

-- once the current part takes no more rows
pub ended_fit : (r s : Reading) → FitsTogether r → s ≡ record r { ended = parts_of r; current = None } → FitsTogether s
ended_fit r s h same =
    let P : Reading → Type 0 = FitsTogether in
    subst P (sym same) (record { distinct = h.distinct; storable = h.storable; ended = parts_fit r h; current = tt; predicate = h.predicate })

-- ---- `column`

no_parts : (ended : List PartData) (current : Option PartData) → has_part (and_current ended current) ≡ false → (ended ≡ []) × (current ≡ None)
no_parts [] None h = (refl, refl)
no_parts (p ∷ ps) None h = cc
no_parts ended (Some part) h = let some = has_last ended part in cc

no_predicate : (scope : List Named) (o : Option (Tree Place)) → is_some o ≡ false → IfSome o (IsPredicateOver scope)
no_predicate scope None h = tt
no_predicate scope (Some e) h = cc

column_added_fits : (r s : Reading) (name : List ℕ) (t : DType) → FitsTogether r → is_some r.predicate ≡ false → is_state_column (name, t) ≡ false → with_column r name t ≡ Some s → FitsTogether s
column_added_fits r s name t h open_yet storable read =
    let next : Reading = record r { scope = r.scope ++ (name, t) ∷ [] } in
    let made = chosen (if has_part (parts_of r) then false else is_new r.scope name) next s read in
    let test = second_holds (has_part (parts_of r)) (is_new r.scope name) made.0 in
    let none = no_parts r.ended r.current test.0 in
    let P : Reading → Type 0 = FitsTogether in
    subst P made.1 (record {
      distinct = distinct_more r.scope name t h.distinct test.1;
      storable = storable_more r.scope name t h.storable storable;
      ended = subst (λ (ps : List PartData). All (IsPartOf next.scope) ps) (sym none.0) (All-nil (IsPartOf next.scope));
      current = subst (λ (o : Option PartData). IfSome o (IsPartOf next.scope)) (sym none.1) tt;
      predicate = no_predicate next.scope r.predicate open_yet;
    })

column_line_fits : (r s : Reading) (ws : List Token) → FitsTogether r → is_some r.predicate ≡ false → read_column r ws ≡ Some s → FitsTogether s
column_line_fits r s ws h open_yet read =
    let last = λ (name : List ℕ) (t : DType). with_column r name t in
    let third = λ (name word : List ℕ) (none : Unit {0}). option_and_then (last name) (type_of word) in
    let second = λ (name : List ℕ) (type : List ℕ × List Token). option_and_then (third name type.0) (no_word type.1) in
    let a = step_of (plain_word ws) (λ (name : List ℕ × List Token). option_and_then (second name.0) (plain_word name.1)) s read in
    let b = step_of (plain_word a.at.1) (second a.at.0) s a.then in
    let c = step_of (no_word b.at.1) (third a.at.0 b.at.0) s b.then in
    let d = step_of (type_of b.at.0) (last a.at.0) s c.then in
    column_added_fits r s a.at.0 d.at h open_yet (type_storable a.at.0 b.at.0 d.at d.made) d.then

-- ---- `part`

part_line_fits : (r s : Reading) (ws : List Token) → FitsTogether r → read_part r ws ≡ Some s → FitsTogether s
part_line_fits r s ws h read =
    let next : Reading = record { scope = r.scope; ended = parts_of r; current = Some (empty_part r.scope); predicate = r.predicate } in
    let a = step_of (no_word ws) (λ (none : Unit {0}). when (if is_empty r.scope then false else true) next) s read in
    let made = chosen (if is_empty r.scope then false else true) next s a.then in
    let some = second_holds (is_empty r.scope) true made.0 in
    let P : Reading → Type 0 = FitsTogether in
    subst P made.1 (record {
      distinct = h.distinct;
      storable = h.storable;
      ended = parts_fit r h;
      current = empty_is_part r.scope h.distinct h.storable some.0;
      predicate = h.predicate;
    })

-- ---- `stat`

-- what is known of a claim: the column that it is of
record ClaimFits (scope : List Named) (i : ℕ) (s : Stat) (t : DType) : Type 0 where
  column : DType
  typed : stat_dtype s column ≡ Some t
  stands : is_of_type column (slice_get scope i) ≡ true

claim_fits : (scope : List Named) (ws : List Token) (x : (ℕ × Stat × DType) × List Token) → claimed scope ws ≡ Some x → ClaimFits scope x.0.0 x.0.1 x.0.2
claim_fits scope ws x h =
    let last = λ (column : Place) (s : Stat) (rest : List Token) (t : DType). Some ((column.index, s, t), rest) in
    let fourth = λ (column : Place) (rest : List Token) (s : Stat). option_and_then (last column s rest) (stat_dtype s column.dtype) in
    let third = λ (column : Place) (stat : List ℕ × List Token). option_and_then (fourth column stat.1) (stat_of stat.0) in
    let second = λ (rest : List Token) (column : Place). option_and_then (third column) (plain_word rest) in
    let a = step_of (plain_word ws) (λ (name : List ℕ × List Token). option_and_then (second name.1) (find_column scope name.0)) x h in
    let b = step_of (find_column scope a.at.0) (second a.at.1) x a.then in
    let c = step_of (plain_word a.at.1) (third b.at) x b.then in
    let d = step_of (stat_of c.at.0) (fourth b.at c.at.1) x c.then in
    let e = step_of (stat_dtype d.at b.at.dtype) (last b.at d.at c.at.1) x d.then in
    let same = one_made ((b.at.index, d.at, e.at), c.at.1) x e.then in
    let P : (ℕ × Stat × DType) × List Token → Type 0 = λ y. ClaimFits scope y.0.0 y.0.1 y.0.2 in
    subst P same (record { column = b.at.dtype; typed = e.made; stands = found_place scope (place_of a.at.0 scope) b.at b.made })

precision_fits : (s : Stat) (column t : DType) (word : List ℕ) (v : ScalarValue) (p : Precision ScalarValue) → stat_dtype s column ≡ Some t → is_value v t ≡ true
    → precision_of word v ≡ Some p → value_fits s column p ≡ true
precision_fits s column t word v p typed fits h =
    let own : is_value_of (stat_dtype s column) v ≡ true = ap (λ o. is_value_of o v) typed ∙ fits in
    elim (cases_Bool (bytes_eq word (codes "exact"))) [
      | inl exact ↦ (let same : Exact v ≡ p = (let e = rw exact at h in cc) in ap (value_fits s column) (sym same) ∙ own)
      | inr other ↦ (let found = chosen (bytes_eq word (codes "inexact")) (Inexact v) p (rw other at h) in ap (value_fits s column) (sym found.1) ∙ own)
    ]

claimed_value_fits : (s : Stat) (column t : DType) (ws : List Token) (p : Precision ScalarValue) → stat_dtype s column ≡ Some t → claimed_value t ws ≡ Some p → value_fits s column p ≡ true
claimed_value_fits s column t ws p typed h =
    let last = λ (q : Precision ScalarValue) (none : Unit {0}). Some q in
    let fourth = λ (rest : List Token) (q : Precision ScalarValue). option_and_then (last q) (no_word rest) in
    let third = λ (word : List ℕ) (rest : List Token) (v : ScalarValue). option_and_then (fourth rest) (precision_of word v) in
    let second = λ (word : List ℕ) (value : Token × List Token). option_and_then (third word value.1) (value_of t value.0) in
    let a = step_of (plain_word ws) (λ (precision : List ℕ × List Token). option_and_then (second precision.0) (first_word precision.1)) p h in
    let b = step_of (first_word a.at.1) (second a.at.0) p a.then in
    let c = step_of (value_of t b.at.0) (third a.at.0 b.at.1) p b.then in
    let d = step_of (precision_of a.at.0 c.at) (fourth b.at.1) p c.then in
    let e = step_of (no_word b.at.1) (last d.at) p d.then in
    ap (value_fits s column) (sym (one_made d.at p e.then)) ∙ precision_fits s column t a.at.0 c.at d.at typed (value_of_fits t b.at.0 c.at c.made) d.made

of_type : (t : DType) (o : Option Named) → is_of_type t o ≡ true → (name : Named) × (o ≡ Some name) × (name.1 ≡ t)
of_type t None h = cc
of_type t (Some name) h = (name, refl, (dtype_eq_is_exact name.1 t).0 h)

with_current : (r s : Reading) (part : PartData) → FitsTogether r → IsPartOf r.scope part → Some (record r { current = Some part }) ≡ Some s → FitsTogether s
with_current r s part h one same =
    let next : Reading = record r { current = Some part } in
    let P : Reading → Type 0 = FitsTogether in
    subst P (one_made next s same) (record { distinct = h.distinct; storable = h.storable; ended = h.ended; current = one; predicate = h.predicate })

-- the current part, where there is one
current_is : (scope : List Named) (o : Option PartData) (part : PartData) → o ≡ Some part → IfSome o (IsPartOf scope) → IsPartOf scope part
current_is scope None part e h = cc
current_is scope (Some p) part e h = let same : p ≡ part = cc in let P : PartData → Type 0 = IsPartOf scope in subst P same h

claimed_of_part : (r : Reading) (part : PartData) (i : ℕ) (s : Stat) (t : DType) (p : Precision ScalarValue) (ws : List Token) → IsPartOf r.scope part → ClaimFits r.scope i s t → claimed_value t ws ≡ Some p
    → (c : ColumnData) → slice_get part.chunk.columns i ≡ Some c → value_fits s c.dtype p ≡ true
claimed_of_part r part i s t p ws h claim read c there =
    let (name, stands, typed) = of_type claim.column (slice_get r.scope i) claim.stands in
    let own : slice_get part.chunk.scope i ≡ Some name = ap (λ ss. slice_get ss i) h.same_scope ∙ stands in
    let type : claim.column ≡ c.dtype = sym typed ∙ type_at part.chunk.scope part.chunk.columns i name c (shape_of r.scope part h).types own there in
    ap (λ u. value_fits s u p) (sym type) ∙ claimed_value_fits s claim.column t ws p claim.typed read

stat_line_fits : (r s : Reading) (ws : List Token) → FitsTogether r → read_stat r ws ≡ Some s → FitsTogether s
stat_line_fits r s ws h read =
    let a = step_of (claimed r.scope ws) (λ (claim : (ℕ × Stat × DType) × List Token). option_and_then (with_claim r claim.0.0 claim.0.1) (claimed_value claim.0.2 claim.1)) s read in
    let b = step_of (claimed_value a.at.0.2 a.at.1) (with_claim r a.at.0.0 a.at.0.1) s a.then in
    let c = step_of r.current (λ (part : PartData). Some (record r { current = Some (with_statistic a.at.0.0 a.at.0.1 b.at part) })) s b.then in
    let part = current_is r.scope r.current c.at c.made h.current in
    let claim = claim_fits r.scope ws a.at a.made in
    with_current r s (with_statistic a.at.0.0 a.at.0.1 b.at c.at) h
    (statistic_is_part r.scope c.at a.at.0.0 a.at.0.1 b.at part (claimed_of_part r c.at a.at.0.0 a.at.0.1 a.at.0.2 b.at a.at.1 part claim b.made)) c.then

-- ---- `row`

row_line_fits : (r s : Reading) (ws : List Token) → FitsTogether r → read_row r ws ≡ Some s → FitsTogether s
row_line_fits r s ws h read =
    let last = λ (longer : PartData). Some (record r { current = Some longer }) in
    let a = step_of r.current (λ (part : PartData). option_and_then last (with_row part ws)) s read in
    let b = step_of (with_row a.at ws) last s a.then in
    with_current r s b.at h (row_is_part r.scope a.at b.at ws (current_is r.scope r.current a.at a.made h.current) b.made) b.then

-- ---- `join`

join_line_fits : (r s : Reading) (ws : List Token) → FitsTogether r → read_join r ws ≡ Some s → FitsTogether s
join_line_fits r s ws h read =
    let last = λ (parts : List PartData). Some (record r { ended = parts; current = None }) in
    let fourth = λ (i : ℕ). option_and_then last (joined_at i (parts_of r)) in
    let third = λ (n : ℕ). option_and_then fourth (in_64_bits n) in
    let second = λ (word : List ℕ) (none : Unit {0}). option_and_then third (natural_of word) in
    let a = step_of (plain_word ws) (λ (place : List ℕ × List Token). option_and_then (second place.0) (no_word place.1)) s read in
    let b = step_of (no_word a.at.1) (second a.at.0) s a.then in
    let c = step_of (natural_of a.at.0) third s b.then in
    let d = step_of (in_64_bits c.at) fourth s c.then in
    let e = step_of (joined_at d.at (parts_of r)) last s d.then in
    let next : Reading = record r { ended = e.at; current = None } in
    let P : Reading → Type 0 = FitsTogether in
    subst P (one_made next s e.then) (record {
      distinct = h.distinct;
      storable = h.storable;
      ended = joined_at_are_parts r.scope d.at (parts_of r) e.at (parts_fit r h) e.made;
      current = tt;
      predicate = h.predicate;
    })

-- ---- `where`

where_line_fits : (r s : Reading) (ws : List Token) → FitsTogether r → read_where r ws ≡ Some s → FitsTogether s
where_line_fits r s ws h read =
    let next = λ (e : Tree Place). record r { predicate = Some e } in
    let last = λ (e : Tree Place). when (if is_empty r.scope then false else true) (next e) in
    let a = step_of (when (nat_le (length ws) word_limit) ws) (λ (short : List Token). option_and_then last (expression_of r.scope short)) s read in
    let b = step_of (expression_of r.scope a.at) last s a.then in
    let made = chosen (if is_empty r.scope then false else true) (next b.at) s b.then in
    let fits = expression_fits r.scope a.at b.at b.made in
    let P : Reading → Type 0 = FitsTogether in
    subst P made.1 (record {
      distinct = h.distinct;
      storable = h.storable;
      ended = h.ended;
      current = h.current;
      predicate = record { plain = fits.0; fits = fits.1; scoped = (second_holds (is_empty r.scope) true made.0).0 };
    })

-- ---- a line of any kind

kind_fits : (k : LineKind) (r s : Reading) (ws : List Token) → FitsTogether r → is_some r.predicate ≡ false → read_kind k r ws ≡ Some s → FitsTogether s
kind_fits kind.Column r s ws h open_yet read = column_line_fits r s ws h open_yet read
kind_fits kind.Part r s ws h open_yet read = part_line_fits r s ws h read
kind_fits kind.Stat r s ws h open_yet read = stat_line_fits r s ws h read
kind_fits kind.Row r s ws h open_yet read = row_line_fits r s ws h read
kind_fits kind.Join r s ws h open_yet read = join_line_fits r s ws h read
kind_fits kind.Where r s ws h open_yet read = where_line_fits r s ws h read

words_fit : (r s : Reading) (ws : List Token) → FitsTogether r → read_words r ws ≡ Some s → FitsTogether s
words_fit r s [] h read = let same : r ≡ s = cc in let P : Reading → Type 0 = FitsTogether in subst P same h
words_fit r s (w ∷ ws) h read =
    let third = λ (rest : List Token) (k : LineKind). read_kind k r rest in
    let second = λ (first : List ℕ × List Token). option_and_then (third first.1) (kind_of first.0) in
    let open_yet = if is_some r.predicate then false else true in
    let a = step_of (when open_yet (w ∷ ws)) (λ (within : List Token). option_and_then second (plain_word within)) s read in
    let test = second_holds (is_some r.predicate) true (chosen open_yet (w ∷ ws) a.at a.made).0 in
    let b = step_of (plain_word a.at) second s a.then in
    let c = step_of (kind_of b.at.0) (third b.at.1) s b.then in
    kind_fits c.at r s b.at.1 h test.0 c.then

-- what a call left that read the words of a line
pub left_fits : (r s : Reading) (ws : List Token) (result : Result (Unit {0}) LineError) → FitsTogether r → Changes result (read_words r ws) s → OnOk result (FitsTogether s)
left_fits r s ws (Ok x) h read = words_fit r s ws h read
left_fits r s ws (Err e) h read = tt

-- a line that is read after lines that fit together
pub line_fits : (r s : Reading) (line : List ℕ) → FitsTogether r → read_line r line ≡ Some s → FitsTogether s
line_fits r s line h read =
    let a = step_of (when (is_utf8 line) line) (λ (text : List ℕ). read_words r (words text)) s read in
    words_fit r s (words a.at) h a.then
