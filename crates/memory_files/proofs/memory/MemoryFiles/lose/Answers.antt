use Rattle.memory_files.proofs.Relations.{lost-next}
use Rattle.memory_files.proofs.memory.MemoryFiles.lose.Goals as goal

pub returns : goal.returns
returns c = record { lost = lost-next c.args.loss.names c.args.loss.fill c.args.self.now.calls c.note.new.self.calls c.note.result c.note.ensures.noted }
