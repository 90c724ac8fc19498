use Rattle.image_format.proofs.Lengths.{longest, whole_words}
use Rattle.image_format.proofs.laws.longest_record.Goals as goal

pub returns-clause-longest : goal.returns-clause-longest
returns-clause-longest c = longest

pub returns-clause-whole : goal.returns-clause-whole
returns-clause-whole c = whole_words
