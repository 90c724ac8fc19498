use Rattle.std.proofs.Common.{refl, sym, ◌∙◌}
use Rattle.loom_host.specs.declared.outside.Role.TheVariants.{Work}
use Rattle.loom_outside.specs.PerRole.{at_role}
use Rattle.loom_outside.specs.Memory.{roles_of}
use Rattle.loom_outside.proofs.Frames.{work_not_written, told-other, told-same, at_is_err, always_on_err, PutPrefix-none}
use Rattle.loom_outside.proofs.memory.MemoryHostHost.write.Goals as goal

pub returns-then-begin-clause-work : goal.returns-then-begin-clause-work
unfolding roles_of
returns-then-begin-clause-work c = told-other c.args.role Work c.args.self.now.calls c.begin.new.self c.args.self.now.store c.args.self.now.store (work_not_written c.args.role c.requires) c.begin.ensures.others (λ _ _. refl)

pub returns-then-is_err-clause-failed : goal.returns-then-is_err-clause-failed
unfolding roles_of
returns-then-is_err-clause-failed c =
    let held = at_is_err c.put.result (sym c.is_err.ensures.value ∙ c.if-is_err.true) c.put.ensures.err in
    always_on_err c.fail-then-is_err.result (PutPrefix-none _ _ _ (told-same (at_role c.args.self.now.calls c.args.role) (at_role c.begin.new.self c.args.role) _ _ c.begin.ensures.attaches c.begin.ensures.named c.begin.ensures.ended held))

pub returns-then-is_err-clause-work : goal.returns-then-is_err-clause-work
unfolding roles_of
returns-then-is_err-clause-work c = told-other c.args.role Work c.args.self.now.calls c.begin.new.self c.args.self.now.store c.put.new.self (work_not_written c.args.role c.requires) c.begin.ensures.others c.put.ensures.others

pub returns-clause-work : goal.returns-clause-work
unfolding roles_of
returns-clause-work c = told-other c.args.role Work c.args.self.now.calls c.end_write.new.self c.args.self.now.store c.put.new.self (work_not_written c.args.role c.requires) (λ r apart. c.end_write.ensures.others r apart ∙ c.begin.ensures.others r apart) c.put.ensures.others
