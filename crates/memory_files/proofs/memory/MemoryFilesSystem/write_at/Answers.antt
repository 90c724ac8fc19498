use Rattle.std.proofs.Common.{take}
use Rattle.file_system.specs.Calls.{ChangesBy, written_at}
use Rattle.memory_files.specs.declared.calls.Call.TheVariants.{On}
use Rattle.memory_files.specs.declared.calls.Change.TheVariants.{Written}
use Rattle.memory_files.proofs.Relations.{noted-from, writes-next}
use Rattle.memory_files.proofs.memory.MemoryFilesSystem.write_at.Goals as goal

pub returns-clause-written : goal.returns-clause-written
returns-clause-written c told = λ o is way. noted-from (ChangesBy (written_at c.args.place (take c.min-n.result c.args.buf.now)) o) (On c.args.descriptor (Written c.args.place c.in-Ok.bytes)) c.args.self.now.calls c.burns.new.self.calls c.on.new.self.calls c.burns.ensures.calls
    c.in_ok-on.ensures.noted (writes-next c.args.self.now.calls c.args.descriptor c.args.place c.in-Ok.bytes (take c.min-n.result c.args.buf.now) o is c.in-Ok.ensures.items)
