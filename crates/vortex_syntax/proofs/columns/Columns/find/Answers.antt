use Rattle.std.proofs.Common.{Some, String, ap, sym, ◌∙◌}
use Rattle.std.proofs.lemmas.List.{length-map}
use Rattle.std.specs.declared.alloc.Global.{Global}
use Rattle.vortex_base.proofs.Data.ScopeLemmas.{column_at}
use Rattle.vortex_base.specs.Data.Scopes.{named}
use Rattle.vortex_base.specs.declared.dtype.DType.{DType}
use Rattle.vortex_syntax.proofs.Found.{found_none, found_some}
use Rattle.vortex_syntax.proofs.columns.Columns.find.Goals as goal

pub returns-in-None : goal.returns-in-None
returns-in-None c = sym (found_none c.args.self.now c.args.name.now c.place_of.result c.place_of.ensures.value c.in-None.is)

pub returns-in-Some : goal.returns-in-Some
returns-in-Some c =
    ap (λ (x : String Global × DType). Some (record { index = c.in-Some.place; dtype = x.1 })) (sym c.index-named-place.is) ∙
    sym (found_some c.args.self.now c.args.name.now c.place_of.result c.in-Some.place c.index-named-place.result c.place_of.ensures.value c.in-Some.is
    (column_at c.args.self.now c.in-Some.place c.index-named-place.result (rw (length-map c.args.self.now named) c.in-Some.ensures.in_range) (rw c.as_slice-named.ensures at c.index-named-place.is)))
