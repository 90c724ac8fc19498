use Rattle.memory_files.proofs.Relations.{found-noted}
use Rattle.memory_files.proofs.memory.MemoryFiles.open_found.Goals as goal

pub returns-clause-opened : goal.returns-clause-opened
returns-clause-opened c less = found-noted c.args.self.now.calls c.note.new.self.calls c.in_ok-number.number c.args.file c.args.way c.in_ok-note.ensures.noted less c.in_ok-number.ensures
