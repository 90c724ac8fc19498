use Rattle.text_lines.proofs.SpellingLaws.{byte-again, kind-again, long-again, name-again, small-again, value-again, word-again}
use Rattle.text_lines.proofs.part_laws.read_back.Goals as goal

pub returns-clause-long : goal.returns-clause-long
returns-clause-long c = λ n small. long-again n small

pub returns-clause-name : goal.returns-clause-name
returns-clause-name c = λ n is. name-again n is

pub returns-clause-small : goal.returns-clause-small
returns-clause-small c = λ z is. small-again z is

pub returns-clause-value : goal.returns-clause-value
returns-clause-value c = λ v is. value-again v is

pub returns-clause-byte : goal.returns-clause-byte
returns-clause-byte c = λ b small. byte-again b small

pub returns-clause-word : goal.returns-clause-word
returns-clause-word c = λ w small. word-again w small

pub returns-clause-kind : goal.returns-clause-kind
returns-clause-kind c = λ k. kind-again k
