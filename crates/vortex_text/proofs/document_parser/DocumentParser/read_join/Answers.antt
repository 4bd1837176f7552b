use Rattle.std.proofs.Common.{All, List, Option, String, subst, sym}
use Rattle.std.specs.declared.alloc.Global.{Global}
use Rattle.vortex_base.specs.Data.Scopes.{named_columns}
use Rattle.vortex_base.specs.declared.dtype.DType.{DType}
use Rattle.vortex_text.proofs.Fitting.LineFits.{ended_fit}
use Rattle.vortex_text.specs.Drafts.{reading_of}
use Rattle.vortex_text.specs.Fitting.{IsPartOf}
use Rattle.vortex_text.specs.Stores.{StoreData, ended_of}
use Rattle.vortex_text.proofs.document_parser.DocumentParser.read_join.Goals as goal

pub join_at-requires : goal.join_at-requires
join_at-requires c =
    let d = c.end_part.new.self in
    let fits = ended_fit (reading_of c.args.self.now) (reading_of d) c.requires c.in_ok-end_part.ensures.ended in
    let P : List (String Global × DType) → Type 0 = λ columns. All (IsPartOf (named_columns columns)) c.in-Some-store.store.ended in
    let Q : Option StoreData → Type 0 = λ o. All (IsPartOf (named_columns d.columns)) (ended_of o) in
    subst P (sym c.as_slice.ensures) (subst Q c.in-Some-store.is fits.ended)
