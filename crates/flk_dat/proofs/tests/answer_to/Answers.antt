use Rattle.flk_dat.proofs.tests.answer_to.Goals as goal

pub read-answer-requires : goal.read-answer-requires
read-answer-requires c = c.in_ok-reader.ensures.fits c.in_ok-out.out c.in_ok-out.ensures.0
