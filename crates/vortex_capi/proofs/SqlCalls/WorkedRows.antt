-- Worked rows, found by computation alone, and witnesses of the clauses with premises.
use Rattle.std.proofs.Common.{◌≡◌, ◌+◌, ℕ, List, [], ◌∷◌, Bor, Ok, Err, ap, arith, length, map, refl, ◌∙◌}
use Rattle.std.specs.Prelude.{drop}
use Rattle.std.proofs.lemmas.List.{length-append, length-map}
use Rattle.vortex_base.specs.declared.dtype.DType.{DType}
use Rattle.vortex_base.specs.declared.dtype.DType.TheVariants as dtype
use Rattle.vortex_base.specs.declared.types.Nullability.TheVariants.{NonNullable}
use Rattle.vortex_base.specs.declared.types.PType.TheVariants as ptype
use Rattle.vortex_capi.specs.Spans.{leaf_span, span_at}
use Rattle.vortex_capi.specs.Statuses.{at_column, nowhere}
use Rattle.vortex_capi.specs.declared.fault.Fault.{Fault}
use Rattle.vortex_capi.specs.declared.field.Field.{Field}
use Rattle.vortex_capi.specs.declared.status.Status.TheVariants.{BadFlag, BadKind, BadLength, BadName, BadSql, Misfit, NoMemory, TooDeep}
use Rattle.vortex_zone_map.proofs.WorkedRows.Witnesses.{IsWitness}
use Rattle.vortex_sql.specs.declared.error.SqlError.TheVariants as sql
use Rattle.vortex_sql.specs.declared.cells.Cells.{Cells}
use Rattle.vortex_sql.specs.declared.cells.Cells.TheVariants.{Exact, Values}
use Rattle.vortex_logical.specs.declared.logical_type.LogicalType.TheVariants.{Date}
use Rattle.vortex_sql.specs.declared.syntax.cursor.Names.{Names}
use Rattle.vortex_sql.specs.declared.syntax.cursor.Names.TheVariants.{Last, Plain}
use Rattle.vortex_sql.specs.declared.syntax.error.ParseError.TheVariants as syntax
use Rattle.vortex_capi.specs.SqlCalls.SqlPrunes.{AreAnswered, Arrays, Columns, IsRefusedFor, columns_by, in_text, names_of, of_sql, columns_asked, unread_of}
use Rattle.vortex_capi.specs.declared.span.Span.{Span}

-- ---- how names are read

plain : names_of 0 ≡ Ok Plain
plain = refl

last : names_of 2 ≡ Ok Last
last = refl

normal_form : names_of 1 ≡ Err (nowhere BadFlag)
normal_form = refl

-- ---- the scope that is asked for, and the order of refusals

abbrev bytes_at : List ℕ → Bor (List ℕ)
bytes_at xs = record { ref_ptr = (0, 0); now = xs }

abbrev byte_field : ℕ → Field
byte_field kind = record { name = bytes_at (97 ∷ []); kind = kind; nullable = 0; unit = 0; precision = 0; scale = 0 }

abbrev bytes_by : DType → Cells → Names → Columns
bytes_by t cells names = columns_by (record { scope = (97 ∷ [], t) ∷ []; cells = cells ∷ [] }) names

asked : columns_asked (byte_field 2 ∷ []) (4 ∷ 4 ∷ []) 2 2 ≡ Ok (bytes_by (dtype.Primitive ptype.U8 NonNullable) Values Last)
asked = refl

asked_of_days : columns_asked (byte_field 12 ∷ []) (4 ∷ 4 ∷ []) 0 2 ≡ Ok (bytes_by (dtype.Primitive ptype.I32 NonNullable) (Exact Date) Plain)
asked_of_days = refl

flags_first : columns_asked [] (4 ∷ []) 3 0 ≡ Err (nowhere BadFlag)
flags_first = refl

then_room : columns_asked (byte_field 17 ∷ []) (4 ∷ []) 0 2 ≡ Err (nowhere BadLength)
then_room = refl

then_scope : columns_asked (byte_field 17 ∷ []) (4 ∷ []) 0 1 ≡ Err (at_column BadKind 0)
then_scope = refl

then_a_column : columns_asked [] (4 ∷ []) 0 1 ≡ Err (nowhere BadLength)
then_a_column = refl

-- ---- faults of a text

unexpected : of_sql (sql.Syntax (syntax.Unexpected 7)) ≡ record { status = BadSql; fault = in_text 7 0 0 }
unexpected = refl

unclosed : of_sql (sql.Syntax (syntax.Unclosed 7)) ≡ record { status = BadSql; fault = in_text 7 0 1 }
unclosed = refl

comment : of_sql (sql.Syntax (syntax.Comment 7)) ≡ record { status = BadSql; fault = in_text 7 0 2 }
comment = refl

prefixed : of_sql (sql.Syntax (syntax.Prefixed 7)) ≡ record { status = BadSql; fault = in_text 7 0 3 }
prefixed = refl

dollar : of_sql (sql.Syntax (syntax.Dollar 7)) ≡ record { status = BadSql; fault = in_text 7 0 4 }
dollar = refl

glued : of_sql (sql.Syntax (syntax.Glued 7)) ≡ record { status = BadSql; fault = in_text 7 0 5 }
glued = refl

adjacent : of_sql (sql.Syntax (syntax.Adjacent 7)) ≡ record { status = BadSql; fault = in_text 7 0 6 }
adjacent = refl

deep : of_sql (sql.Syntax (syntax.TooDeep 7)) ≡ record { status = TooDeep; fault = in_text 7 0 0 }
deep = refl

no_memory : of_sql (sql.Syntax syntax.Memory) ≡ nowhere NoMemory
no_memory = refl

no_more_memory : of_sql sql.Memory ≡ nowhere NoMemory
no_more_memory = refl

misfit : of_sql (sql.Misfit 7 9) ≡ record { status = Misfit; fault = in_text 7 9 0 }
misfit = refl

name : of_sql sql.Name ≡ nowhere BadName
name = refl

begins_in_entry : (in_text 7 9 3).entry ≡ 7
begins_in_entry = refl

ends_in_row : (in_text 7 9 3).row ≡ 9
ends_in_row = refl

why_in_column : (in_text 7 9 3).column ≡ 3
why_in_column = refl

place : span_at (7, 9) ≡ record { start = 7; end = 9 }
place = refl

-- a refusal of the scope has its status and its place
told_scope : IsRefusedFor (columns_asked (byte_field 17 ∷ []) (4 ∷ []) 0 1) (4 ∷ []) [] [] 0 5 77 (record { row = 0; column = 0; entry = 0 })
told_scope = (refl, refl)

-- ---- witnesses

abbrev none : List Span → Arrays
none spans = record { answers = []; unread = spans }

abbrev somewhere : Span
somewhere = record { start = 0; end = 1 }

abbrev fault_at : ℕ → Fault
fault_at n = record { row = n; column = 0; entry = 0 }

-- a place is written, and none is told
prune_sql_answered : IsWitness (◌≡◌ {A = ℕ} 0 0) (λ (new : Arrays). AreAnswered (byte_field 2 ∷ []) [] [] [] 0 (none []) new 0) (none (somewhere ∷ []))
prune_sql_answered = record {
  met = refl;
  refuted = λ h.
      let leaves = unread_of h.answered.condition in
      let long : 1 ≡ length (map leaf_span leaves) + 0 = ap length h.answered.unread ∙ length-append (map leaf_span leaves) (drop 0 []) in
      omega (arith, long, length-map leaves leaf_span, h.answered.len);
}

differ : fault_at 1 ≡ fault_at 0 → ⊥
differ h = let same : ◌≡◌ {A = ℕ} 1 0 = ap (λ (f : Fault). f.row) h in absurd (omega arith)

not_zero : ◌≡◌ {A = ℕ} 5 0 → ⊥
not_zero h = absurd (omega arith)

not_three : ◌≡◌ {A = ℕ} 5 3 → ⊥
not_three h = absurd (omega arith)

not_four : ◌≡◌ {A = ℕ} 5 4 → ⊥
not_four h = absurd (omega arith)

prune_sql_told : IsWitness (◌≡◌ {A = ℕ} 0 0) (λ (new : Fault). new ≡ fault_at 0) (fault_at 1)
prune_sql_told = record { met = refl; refuted = differ }

-- of a refusal an answer is written, a place, and how many there are
prune_sql_answers : IsWitness (◌≡◌ {A = ℕ} 5 0 → ⊥) (λ (new : List ℕ). new ≡ 0 ∷ []) []
prune_sql_answers = record { met = not_zero; refuted = λ h. let same : ◌≡◌ {A = ℕ} 0 1 = ap length h in absurd (omega arith) }

prune_sql_unread : IsWitness (◌≡◌ {A = ℕ} 5 0 → ⊥) (λ (new : List Span). new ≡ somewhere ∷ []) []
prune_sql_unread = record { met = not_zero; refuted = λ h. let same : ◌≡◌ {A = ℕ} 0 1 = ap length h in absurd (omega arith) }

prune_sql_counted : IsWitness ((◌≡◌ {A = ℕ} 5 0 → ⊥) × (◌≡◌ {A = ℕ} 5 3 → ⊥)) (λ (len : ℕ). len ≡ 7) 8
prune_sql_counted = record { met = (not_zero, not_three); refuted = λ h. absurd (omega (arith, h)) }

-- another place is told than that of the column
prune_sql_refused : IsWitness ((◌≡◌ {A = ℕ} 5 0 → ⊥) × (◌≡◌ {A = ℕ} 5 4 → ⊥)) (λ (fault : Fault). IsRefusedFor (columns_asked (byte_field 17 ∷ []) (4 ∷ []) 0 1) (4 ∷ []) [] [] 0 5 77 fault) (fault_at 1)
prune_sql_refused = record { met = (not_zero, not_four); refuted = λ h. differ h.1 }
