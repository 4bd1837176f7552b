use Rattle.std.proofs.Common.{◌≡◌, map}
use Rattle.std.proofs.lemmas.List.Elements.{All-map, All-same}
use Rattle.vortex_prune.specs.Part.{PartData, measured_part}
use Rattle.vortex_examples.proofs.writer.write_zones.Goals as goal

pub try_new-requires : goal.try_new-requires
try_new-requires c =
    let P : PartData → Type 0 = λ part. part.chunk.scope ≡ c.args.scope in
    All-same P c.in_ok-parts.parts.items (map measured_part c.args.chunks.items) c.in_ok-parts.ensures.measured (All-map P measured_part c.args.chunks.items c.requires)
