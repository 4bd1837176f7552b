use Rattle.vortex_examples.proofs.reader.zones_left_out.Goals as goal

pub returns-in-Ok-clause-lossless : goal.returns-in-Ok-clause-lossless
returns-in-Ok-clause-lossless c = λ zones of i zone part there is is_true listed. (c.in-Ok.ensures.sound zones of i zone part there is is_true).0 listed
