use Rattle.memory_files.proofs.Relations.{found-after}
use Rattle.memory_files.proofs.memory.MemoryFilesSystem.open_folder.Goals as goal

pub returns-clause-opened : goal.returns-clause-opened
returns-clause-opened c told = found-after c.args.self.now.calls c.burns.new.self.calls c.open_found.new.self.calls c.open_found.result c.burns.ensures.calls c.open_found.ensures.opened
