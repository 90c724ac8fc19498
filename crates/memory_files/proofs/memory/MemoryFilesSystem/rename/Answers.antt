use Rattle.std.proofs.Common.{◌∙◌}
use Rattle.file_system.specs.Calls.{Renames}
use Rattle.memory_files.specs.Memory.{entry_of}
use Rattle.memory_files.specs.declared.calls.Call.TheVariants.{Renamed}
use Rattle.memory_files.proofs.Relations.{noted-ok, renames-next}
use Rattle.memory_files.proofs.memory.MemoryFilesSystem.rename.Goals as goal

pub returns-clause-renamed : goal.returns-clause-renamed
returns-clause-renamed c told = λ can. noted-ok (Renames (entry_of c.args.from.now) (entry_of c.args.to.now)) (Renamed c.in-Ok-Ok.from c.in-Ok-Ok.to) c.args.self.now.calls c.burns.new.self.calls c.note.new.self.calls c.note.result c.burns.ensures.calls c.note.ensures.noted
    (renames-next c.args.self.now.calls c.in-Ok-Ok.from c.in-Ok-Ok.to c.args.from.now c.args.to.now (c.in-Ok-Ok.ensures.items ∙ c.as_bytes-2.ensures.value) (c.in-Ok-Ok.ensures'.items ∙ c.as_bytes-3.ensures.value) can)
