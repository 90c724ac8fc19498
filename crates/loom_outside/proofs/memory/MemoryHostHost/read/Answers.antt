use Rattle.std.proofs.Common.{refl}
use Rattle.loom_host.specs.declared.outside.Role.TheVariants.{Work}
use Rattle.loom_outside.specs.Memory.{roles_of}
use Rattle.loom_outside.proofs.Frames.{work_not_read, told-other}
use Rattle.loom_outside.proofs.memory.MemoryHostHost.read.Goals as goal

pub returns-then-begin-clause-work : goal.returns-then-begin-clause-work
unfolding roles_of
returns-then-begin-clause-work c = told-other c.args.role Work c.args.self.now.calls c.begin.new.self c.args.self.now.store c.args.self.now.store (work_not_read c.args.role c.requires) c.begin.ensures.others (λ _ _. refl)

pub returns-clause-work : goal.returns-clause-work
unfolding roles_of
returns-clause-work c = told-other c.args.role Work c.args.self.now.calls c.begin.new.self c.args.self.now.store c.take.new.self (work_not_read c.args.role c.requires) c.begin.ensures.others c.take.ensures.others
