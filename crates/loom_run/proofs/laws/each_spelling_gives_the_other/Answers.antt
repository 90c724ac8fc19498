use Rattle.loom_run.proofs.SpellingLaws.{image-again, image-of, text-again, text-of}
use Rattle.loom_run.proofs.laws.each_spelling_gives_the_other.Goals as goal

pub returns-clause-listed : goal.returns-clause-listed
returns-clause-listed c = text-of

pub returns-clause-assembled : goal.returns-clause-assembled
returns-clause-assembled c = image-of

pub returns-clause-image : goal.returns-clause-image
returns-clause-image c = image-again

pub returns-clause-text : goal.returns-clause-text
returns-clause-text c = text-again
