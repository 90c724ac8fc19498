use Rattle.std.proofs.Common.{sym, ◌∙◌}
use Rattle.memory_files.proofs.Laws.{kinds}
use Rattle.memory_files.proofs.memory.MemoryFilesSystem.look.Goals as goal

pub returns-in-Some-clause-kind : goal.returns-in-Some-clause-kind
returns-in-Some-clause-kind c told = kinds c.args.self.now.calls c.regular.result.file ∙ sym c.regular.ensures.kind
