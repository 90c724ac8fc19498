use Rattle.std.proofs.Common.{refl, ap}
use Rattle.object_memory.proofs.Callers.{may_mark}
use Rattle.blue_model.specs.Machine.{done}
use Rattle.contexts.proofs.ServesLaws.{exits}
use Rattle.send_lookup.proofs.SlotLaws.{differs}
use Rattle.send_lookup.proofs.ClassLaws.{look_stuck}
use Rattle.send_lookup.proofs.PathLaws.{is_marked_name, mark_keeps, mark_serves, mark_refused}
use Rattle.send_lookup.proofs.path.mark.Goals as goal

pub returns-then-not-is_name-clause-serves : goal.returns-then-not-is_name-clause-serves
returns-then-not-is_name-clause-serves g c = λ cpu. look_stuck c.args.of _ (λ _. done (tt {0})) refl (differs _ _ c.is_name.ensures c.if-not-is_name.true)

pub mark-requires-clause-may : goal.mark-requires-clause-may
mark-requires-clause-may g c = may_mark _ c.args.of c.requires.fit.ready (c.is_name.ensures.0 c.if-not-is_name.false)

pub returns-in_err-mark-clause-serves : goal.returns-in_err-mark-clause-serves
returns-in_err-mark-clause-serves g c = λ cpu. exits _ c.from_residual.ensures.1 (mark_refused c.args.of c.requires.fit.ready (c.is_name.ensures.0 c.if-not-is_name.false) c.in_err-mark.ensures.access.called)

pub returns-clause-serves : goal.returns-clause-serves
returns-clause-serves g c = λ cpu. mark_serves c.args.of c.requires.fit.ready c.in_ok-mark.ensures.fit.ready (c.is_name.ensures.0 c.if-not-is_name.false) c.in_ok-mark.ensures.access.called

pub returns-clause-named : goal.returns-clause-named
returns-clause-named g c = c.is_name.ensures.0 c.if-not-is_name.false

pub returns-clause-marked : goal.returns-clause-marked
returns-clause-marked g c = is_marked_name (g.M.ObjectMemory.told c.mark.new.self) _ (c.is_name.ensures.0 c.if-not-is_name.false) c.in_ok-mark.ensures.marked

pub returns-clause-regs : goal.returns-clause-regs
returns-clause-regs g c = λ r. ap (λ f. f r) c.in_ok-mark.ensures.access.called.ok.regs

pub returns-clause-keeps : goal.returns-clause-keeps
returns-clause-keeps g c = mark_keeps _ _ c.args.of c.in_ok-mark.ensures.access.called
