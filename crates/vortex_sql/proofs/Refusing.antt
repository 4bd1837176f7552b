-- A misfit of a part is one of the whole.
use Rattle.std.proofs.Common.{◌≡◌, ℕ, List, [], ◌∷◌, ◌++◌, Result, Ok, Err, IfErr, false, length, inl, inr, sym, ap, subst, ◌∙◌}
use Rattle.std.specs.Prelude.{map}
use Rattle.vortex_base.specs.Data.Scopes.{Named, has_duplicate}
use Rattle.vortex_expr.specs.Trees.Tree.{Place, Tree}
use Rattle.vortex_sql.specs.Lowering.{leaf_columns, lowered, opaques, span_of}
use Rattle.vortex_sql.specs.Parsing.Joining.{Joins, ands}
use Rattle.vortex_sql.specs.Parsing.Places.{Ascends, leaves}
use Rattle.vortex_sql.specs.declared.syntax.tree.Condition.{Condition}
use Rattle.vortex_sql.specs.declared.syntax.tree.Leaf.{Leaf}
use Rattle.vortex_sql.specs.declared.lower.LowerError.{LowerError}
use Rattle.vortex_sql.specs.declared.lower.LowerError.TheVariants.{Memory, Misfit}
use Rattle.vortex_sql.specs.declared.condition.Predicate.{Predicate}
use Rattle.vortex_sql.specs.declared.error.SqlError.{SqlError}
use Rattle.vortex_sql.specs.declared.error.SqlError.TheVariants as sql
use Rattle.vortex_sql.specs.Schemas.{SchemaData}
use Rattle.vortex_sql.specs.Refusals.{IsNameRefusal, IsRefusal, IsSchemaRefusal, IsTextRefusal, is_fit, misfits, of_lower}

pub of_left : (ls ms : List Leaf) (f : LowerError) → IsRefusal ls f → IsRefusal (ls ++ ms) f
of_left ls ms Memory h = tt
of_left [] ms (Misfit s e) h = absurd h
of_left (l ∷ ls) ms (Misfit s e) h = h

pub of_right : (ls ms : List Leaf) (f : LowerError) → ls ≡ [] → IsRefusal ms f → IsRefusal (ls ++ ms) f
of_right ls ms f none h = let P : List Leaf → Type 0 = λ xs. IsRefusal (xs ++ ms) f in subst P (sym none) h

pub none_of_either : (ls ms : List Leaf) → ls ≡ [] → ms ≡ [] → ls ++ ms ≡ []
none_of_either ls ms h k = ap (λ xs. xs ++ ms) h ∙ k

-- why a condition isn't said is why it is refused
pub lower_refused : (text : List ℕ) (s : SchemaData) (c : Condition) (f : LowerError) → IsRefusal (misfits s c) f → IsSchemaRefusal text s c (of_lower f)
lower_refused text s c Memory h = tt
lower_refused text s c (Misfit b e) h = h

pub name_refused : (text : List ℕ) (s : SchemaData) (c : Condition) (spans : List (ℕ × ℕ)) (e : SqlError) → spans ≡ map span_of (opaques s c) → IsNameRefusal (s.scope ++ leaf_columns text spans) e → IsSchemaRefusal text s c e
name_refused text s c spans sql.Memory same h = tt
name_refused text s c spans (sql.Syntax e) same h = absurd h
name_refused text s c spans (sql.Misfit b e) same h = absurd h
name_refused text s c spans sql.Name same h = inl (ap (λ ls. has_duplicate (s.scope ++ leaf_columns text ls)) (sym same) ∙ h)

-- an expression that is no plain predicate
pub unfit_refused : (text : List ℕ) (s : SchemaData) (c : Condition) (spans : List (ℕ × ℕ)) (e : Tree Place) (scope : List Named) → spans ≡ map span_of (opaques s c) → e ≡ lowered s (length s.scope) c → scope ≡ s.scope ++ leaf_columns text spans
    → is_fit e scope ≡ false → IsSchemaRefusal text s c sql.Name
unfit_refused text s c spans e scope places said wide h =
    inr (sym (ap (λ t. is_fit t scope) said ∙ ap (is_fit (lowered s (length s.scope) c)) (wide ∙ ap (λ ls. s.scope ++ leaf_columns text ls) places)) ∙ h)

-- a misfit of the condition that was read is one of its text
pub text_refused : (text : List ℕ) (s : SchemaData) (c : Condition) (e : SqlError) → Ascends 0 (leaves c) (length text) → Joins text 0 (leaves c) (false ∷ ands c) → IsSchemaRefusal text s c e → IsTextRefusal text s e
text_refused text s c sql.Memory places joined h = tt
text_refused text s c (sql.Syntax e) places joined h = absurd h
text_refused text s c (sql.Misfit b e) places joined h = record { condition = c; places = places; joined = joined; first = h }
text_refused text s c sql.Name places joined h = record { condition = c; places = places; joined = joined; unnamed = h }

pub refused_over : (text : List ℕ) (s : SchemaData) (c : Condition) (r : Result Predicate SqlError) → Ascends 0 (leaves c) (length text) → Joins text 0 (leaves c) (false ∷ ands c)
    → IfErr r (IsSchemaRefusal text s c) → IfErr r (IsTextRefusal text s)
refused_over text s c (Ok p) places joined h = tt
refused_over text s c (Err e) places joined h = text_refused text s c e places joined h

pub ruleset parts = (of_left, of_right, none_of_either)
