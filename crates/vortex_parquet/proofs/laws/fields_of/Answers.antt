use Rattle.vortex_parquet.specs.Fields.{field_views}
use Rattle.vortex_parquet.proofs.Structs.{gives_struct, struct_gives}
use Rattle.vortex_parquet.proofs.laws.fields_of.Goals as goal

pub returns-clause-found : goal.returns-clause-found
returns-clause-found c = gives_struct c.args.bytes.now (λ x. (field_views x.0.items, x.1.now)) c.struct_of.result c.struct_of.ensures

pub returns-clause-only : goal.returns-clause-only
returns-clause-only c = struct_gives c.args.bytes.now (λ x. (field_views x.0.items, x.1.now)) c.struct_of.result c.struct_of.ensures
