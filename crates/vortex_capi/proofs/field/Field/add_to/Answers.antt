use Rattle.std.proofs.Common.{ap, sym, ◌∙◌}
use Rattle.vortex_base.specs.Data.Scopes.{named_columns, place_of}
use Rattle.vortex_capi.proofs.ScopeLemmas.{new_is_unnamed}
use Rattle.vortex_syntax.proofs.Fitting.ScopeFits.{new_is_text}
use Rattle.vortex_capi.proofs.field.Field.add_to.Goals as goal

pub unreachable-requires : goal.unreachable-requires
unreachable-requires c = c.in_default.ensures.cases.0 (new_is_text (named_columns c.args.columns.now) c.args.self.now.name.now (sym c.if-not-is_new.ensures))

pub push-requires : goal.push-requires
push-requires c =
    ap (λ n. place_of n (named_columns c.args.columns.now)) (c.in_ok-name.ensures.ok ∙ c.in-Ok.ensures.cases.0)
    ∙ new_is_unnamed (named_columns c.args.columns.now) c.args.self.now.name.now (sym c.if-not-is_new.ensures)
