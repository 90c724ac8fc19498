use Rattle.std.proofs.Common.{◌∙◌}
use Rattle.file_system.specs.Calls.{Removes}
use Rattle.memory_files.specs.Memory.{entry_of}
use Rattle.memory_files.specs.declared.calls.Call.TheVariants.{Removed}
use Rattle.memory_files.proofs.Relations.{noted-ok, removes-next}
use Rattle.memory_files.proofs.memory.MemoryFilesSystem.remove.Goals as goal

pub returns-clause-removed : goal.returns-clause-removed
returns-clause-removed c told = noted-ok (Removes (entry_of c.args.path.now)) (Removed c.in-Ok.path) c.args.self.now.calls c.burns.new.self.calls c.note.new.self.calls c.note.result c.burns.ensures.calls c.note.ensures.noted
    (removes-next c.args.self.now.calls c.in-Ok.path c.args.path.now (c.in-Ok.ensures.items ∙ c.as_bytes-2.ensures.value))
