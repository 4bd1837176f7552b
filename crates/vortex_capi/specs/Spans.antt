-- Where the tests of a condition stand in its text.
use Rattle.std.specs.Prelude.{ℕ}
use Rattle.vortex_sql.specs.Lowering.{span_of}
use Rattle.vortex_sql.specs.declared.syntax.tree.Leaf.{Leaf}
use Rattle.vortex_capi.specs.declared.span.Span.{Span}

abbrev pub span_at : ℕ × ℕ → Span
span_at p = record { start = p.0; end = p.1 }

abbrev pub leaf_span : Leaf → Span
leaf_span l = span_at (span_of l)
