use Rattle.std.proofs.Common.{refl}
use Rattle.vortex_rewrite.proofs.Rewriting.ProofTypes.{lower_compares, upper_compares}
use Rattle.vortex_normal.proofs.tested.between_tested.Goals as goal

pub end_tested-requires : goal.end_tested-requires
end_tested-requires c = lower_compares c.args.options c.args.x.now c.args.lower.now c.args.upper.now _ _ _ c.to_operator-above.ensures refl refl c.requires

pub end_tested-requires-2 : goal.end_tested-requires-2
end_tested-requires-2 c = upper_compares c.args.options c.args.x.now c.args.lower.now c.args.upper.now _ _ _ c.to_operator-below.ensures refl refl c.requires
