use Rattle.std.proofs.Common.{ap, ℕ, ◌∙◌}
use Rattle.file_system.specs.Calls.{Syncs}
use Rattle.memory_files.specs.Memory.{world_of}
use Rattle.memory_files.specs.declared.calls.Call.TheVariants.{Synced}
use Rattle.memory_files.proofs.Relations.{noted-ok, sync-fails, syncs-next}
use Rattle.memory_files.proofs.memory.MemoryFilesSystem.sync.Goals as goal

pub returns-clause-synced : goal.returns-clause-synced
returns-clause-synced c told = λ o is. noted-ok (Syncs o.way o) (Synced c.from.result) c.args.self.now.calls c.burns-burns.new.self.calls c.note.new.self.calls c.note.result c.burns-burns.ensures.calls c.note.ensures.noted
    (syncs-next c.args.self.now.calls c.from.result o (ap (λ (k : ℕ). (world_of c.args.self.now.calls).opened k) c.from.ensures ∙ is))

pub returns-then-is_some-clause-failed : goal.returns-then-is_some-clause-failed
returns-then-is_some-clause-failed c told = λ o is. sync-fails c.args.self.now.calls c.burns-burns.new.self.calls c.on.new.self.calls c.args.descriptor o c.in_ok-seen.seen c.is_some.result c.on.result c.burns-burns.ensures.calls is
    c.in_ok-seen.ensures c.is_some.ensures c.if-is_some.true c.on.ensures.noted c.on.ensures.failed
