use Rattle.std.proofs.Common.{take}
use Rattle.file_system.specs.Calls.{Appends}
use Rattle.memory_files.specs.declared.calls.Call.TheVariants.{On}
use Rattle.memory_files.specs.declared.calls.Change.TheVariants.{Put}
use Rattle.memory_files.proofs.Relations.{appends-next, noted-from}
use Rattle.memory_files.proofs.memory.MemoryFilesSystem.append.Goals as goal

pub returns-clause-put : goal.returns-clause-put
returns-clause-put c told = λ o is order. noted-from (Appends c.args.descriptor o (take c.min-n.result c.args.buf.now)) (On c.args.descriptor (Put c.in-Ok.bytes)) c.args.self.now.calls c.burns.new.self.calls c.on.new.self.calls c.burns.ensures.calls
    c.in_ok-on.ensures.noted (appends-next c.args.self.now.calls c.args.descriptor c.in-Ok.bytes (take c.min-n.result c.args.buf.now) o is c.in-Ok.ensures.items)
