use Rattle.std.proofs.Common.{◌∙◌}
use Rattle.memory_files.proofs.Relations.{made-noted}
use Rattle.memory_files.proofs.memory.MemoryFiles.make.Goals as goal

pub returns-clause-made : goal.returns-clause-made
returns-clause-made c none = made-noted c.args.self.now.calls c.note.new.self.calls c.in-Ok.path c.args.path.now c.args.way c.in_ok-descriptor.descriptor c.regular.result.file
    c.in_ok-note.ensures.noted (c.in-Ok.ensures.items ∙ c.as_bytes.ensures.value) none c.in_ok-descriptor.ensures (c.regular.ensures.file ∙ c.from.ensures)
