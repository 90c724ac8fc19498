use Rattle.loom_gen.specs.Notation.{zeros}
use Rattle.loom_gen.proofs.rows.Form.body.Goals as goal

pub returns-in-ZeroWords : goal.returns-in-ZeroWords
unfolding zeros
returns-in-ZeroWords c = rw c.in-ZeroWords.is c.new_words.ensures

pub returns-in-ZeroBytes : goal.returns-in-ZeroBytes
unfolding zeros
returns-in-ZeroBytes c = rw c.in-ZeroBytes.is c.new_bytes.ensures
