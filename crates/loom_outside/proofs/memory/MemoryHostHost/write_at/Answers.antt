use Rattle.std.proofs.Common.{refl, sym, ◌∙◌}
use Rattle.loom_host.specs.declared.outside.Role.TheVariants.{Work}
use Rattle.loom_outside.specs.PerRole.{at_role}
use Rattle.loom_outside.specs.Memory.{roles_of}
use Rattle.loom_outside.specs.Store.{held_of}
use Rattle.loom_outside.proofs.Frames.{told-same, at_is_err, always_on_err, Holds-some}
use Rattle.loom_outside.proofs.memory.MemoryHostHost.write_at.Goals as goal

pub returns-then-begin-clause-failed : goal.returns-then-begin-clause-failed
unfolding roles_of
returns-then-begin-clause-failed c = always_on_err c.fail.result (Holds-some _ _ (told-same (at_role c.args.self.now.calls Work) (at_role c.begin.new.self Work) (held_of c.args.self.now.store Work) (held_of c.args.self.now.store Work) c.begin.ensures.attaches c.begin.ensures.named c.begin.ensures.ended refl))

pub returns-then-is_err-clause-failed : goal.returns-then-is_err-clause-failed
unfolding roles_of
returns-then-is_err-clause-failed c =
    let held = at_is_err c.write_at.result (sym c.is_err.ensures.value ∙ c.if-is_err.true) c.write_at.ensures.err in
    always_on_err c.fail-then-is_err.result (Holds-some _ _ (told-same (at_role c.args.self.now.calls Work) (at_role c.begin.new.self Work) _ _ c.begin.ensures.attaches c.begin.ensures.named c.begin.ensures.ended held))
