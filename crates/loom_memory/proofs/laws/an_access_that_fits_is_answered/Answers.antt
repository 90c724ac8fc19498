use Rattle.loom_memory.proofs.OwnLaws.{ample-answered}
use Rattle.loom_memory.proofs.laws.an_access_that_fits_is_answered.Goals as goal

pub returns : goal.returns
returns g c = λ old new a spell ample done. ample-answered old new a spell c.args.answer.now ample done
