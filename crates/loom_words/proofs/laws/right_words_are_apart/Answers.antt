use Rattle.loom_words.proofs.FileRows.{apart-asked, apart-kept}
use Rattle.loom_words.proofs.laws.right_words_are_apart.Goals as goal

pub returns-clause-asked : goal.returns-clause-asked
returns-clause-asked c = apart-asked

pub returns-clause-kept : goal.returns-clause-kept
returns-clause-kept c = apart-kept
