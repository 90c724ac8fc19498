use Rattle.core_view.proofs.Bare.{entries-few}
use Rattle.core_view.proofs.Chunks.{words-few}
use Rattle.core_view.proofs.laws.what_is_left_is_pinned.Goals as goal

pub returns-clause-entries : goal.returns-clause-entries
returns-clause-entries c = entries-few

pub returns-clause-words : goal.returns-clause-words
returns-clause-words c = words-few
