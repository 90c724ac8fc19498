use Rattle.st80_parser.proofs.expressions.Grammar.nested.Goals as goal

pub returns-clause-runs : goal.returns-clause-runs
returns-clause-runs g c = c.requires.nests.runs _ _ _ _ c.reader.ensures
