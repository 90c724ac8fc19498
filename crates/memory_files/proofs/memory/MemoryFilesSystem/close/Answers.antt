use Rattle.std.proofs.Common.{refl}
use Rattle.file_system.specs.Calls.{Closes}
use Rattle.memory_files.specs.declared.calls.Call.TheVariants.{On}
use Rattle.memory_files.specs.declared.calls.Change.TheVariants.{Closed}
use Rattle.memory_files.proofs.Relations.{closes-next, may-noted}
use Rattle.memory_files.proofs.memory.MemoryFilesSystem.close.Goals as goal

pub returns : goal.returns
returns c told = may-noted (Closes c.args.descriptor) (On c.args.descriptor Closed) c.args.self.now.calls c.args.self.now.calls c.on.new.self.calls c.on.result refl c.on.ensures.noted c.on.ensures.failed (closes-next c.args.self.now.calls c.args.descriptor)
