use Rattle.file_system.specs.Calls.{ChangesBy, emptied}
use Rattle.memory_files.specs.declared.calls.Call.TheVariants.{On}
use Rattle.memory_files.specs.declared.calls.Change.TheVariants.{Cut}
use Rattle.memory_files.proofs.Relations.{cuts-next, noted-ok}
use Rattle.memory_files.proofs.memory.MemoryFilesSystem.cut.Goals as goal

pub returns-clause-cut : goal.returns-clause-cut
returns-clause-cut c told = λ o is. noted-ok (ChangesBy emptied o) (On c.args.descriptor Cut) c.args.self.now.calls c.burns.new.self.calls c.on.new.self.calls c.on.result c.burns.ensures.calls c.on.ensures.noted (cuts-next c.args.self.now.calls c.args.descriptor o is)
