use Rattle.vortex_zone_map.proofs.told.Told.of.Goals as goal

pub returns-in-AllNonNull : goal.returns-in-AllNonNull
returns-in-AllNonNull c = λ v h. rw c.in-AllNonNull.is (c.is_all_non_null.ensures c.args.rows v h)
