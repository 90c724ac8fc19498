use Rattle.std.proofs.Common.{arith}
use Rattle.loom_gen.proofs.NameLaws.{character-found, node-found, table-found}
use Rattle.loom_gen.proofs.generator.object_of.Goals as goal

pub returns-then-word-lt-FIRST_CHARACTER : goal.returns-then-word-lt-FIRST_CHARACTER
returns-then-word-lt-FIRST_CHARACTER c = table-found c.args.number c.args.name c.get-word.result c.tabled.result c.get-word.ensures.value c.if-word-lt-FIRST_CHARACTER.true c.tabled.ensures

pub returns-in_ok-character : goal.returns-in_ok-character
returns-in_ok-character c = character-found c.args.number c.args.name c.get-word.result c.in_ok-character.character c.get-word.ensures.value c.get-word.ensures.name c.if-word-lt-FIRST_CHARACTER.false c.if-word-lt-FIRST_NODE.true c.in_ok-character.ensures

pub returns-in_ok-node : goal.returns-in_ok-node
returns-in_ok-node c = node-found c.args.number c.args.name c.get-word.result c.in_ok-node.node c.get-word.ensures.value c.get-word.ensures.name c.if-word-lt-FIRST_NODE.false (omega arith) c.in_ok-node.ensures
