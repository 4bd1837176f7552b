-- The values are the cells', one by one.
use Rattle.std.proofs.Common.{rules}
use Rattle.vortex_base.proofs.Data.CellLemmas.{taken_nulls}
use Rattle.vortex_base.proofs.Data.PushLemmas.{map-take}
use Rattle.vortex_base.proofs.array_data.ArrayData.truncate.Goals as goal

pub returns-in-Bool : goal.returns-in-Bool
returns-in-Bool c = search (rules, map-take)

pub returns-in-U8 : goal.returns-in-U8
returns-in-U8 c = search (rules, map-take)

pub returns-in-U16 : goal.returns-in-U16
returns-in-U16 c = search (rules, map-take)

pub returns-in-U32 : goal.returns-in-U32
returns-in-U32 c = search (rules, map-take)

pub returns-in-U64 : goal.returns-in-U64
returns-in-U64 c = search (rules, map-take)

pub returns-in-I8 : goal.returns-in-I8
returns-in-I8 c = search (rules, map-take)

pub returns-in-I16 : goal.returns-in-I16
returns-in-I16 c = search (rules, map-take)

pub returns-in-I32 : goal.returns-in-I32
returns-in-I32 c = search (rules, map-take)

pub returns-in-I64 : goal.returns-in-I64
returns-in-I64 c = search (rules, map-take)

pub returns-in-Utf8 : goal.returns-in-Utf8
returns-in-Utf8 c = search (rules, map-take)

pub returns-in-Nulls : goal.returns-in-Nulls
returns-in-Nulls c = search (rules, taken_nulls)

pub returns-in-Binary : goal.returns-in-Binary
returns-in-Binary c = search (rules, map-take)
