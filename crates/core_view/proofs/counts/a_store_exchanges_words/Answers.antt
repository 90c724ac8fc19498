use Rattle.core_view.proofs.StoreLaws.{stored-sound}
use Rattle.core_view.proofs.counts.a_store_exchanges_words.Goals as goal

pub returns : goal.returns
returns c = stored-sound
