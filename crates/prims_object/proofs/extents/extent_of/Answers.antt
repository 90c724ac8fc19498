use Rattle.std.proofs.Common.{[], None, refl, sym, ◌∙◌}
use Rattle.long_names.specs.Access.{KindOf}
use Rattle.object_memory.specs.Shape.{literals_count}
use Rattle.object_memory.proofs.LooksLaws.{Looks-read, Looks-trans, part_looked}
use Rattle.contexts.proofs.ServesLaws.{exits}
use Rattle.contexts.proofs.PeekLaws.{peek_serves, first_refused, then_refused}
use Rattle.prims_object.specs.Extents.{extent_of}
use Rattle.prims_object.proofs.ExtentLaws.{extent_is, extent_none}
use Rattle.prims_object.proofs.extents.extent_of.Goals as goal

pub returns-in_err-kind-clause-serves : goal.returns-in_err-kind-clause-serves
returns-in_err-kind-clause-serves g c = λ cpu. exits _ c.from_residual.ensures.1 (first_refused extent_of c.args.of c.requires.fit.ready c.in_err-kind.ensures.read)

pub returns-in_default-clause-serves : goal.returns-in_default-clause-serves
returns-in_default-clause-serves g c = λ cpu.
    let t = g.M.ObjectMemory.told c.args.m.now in
    let found = c.in_ok-kind.ensures in
    peek_serves [] extent_of c.args.of None refl c.requires.fit.ready found.fit.ready (Looks-read _ _ c.args.of found.read) (λ told. extent_none t.heap (t.regs c.args.of) (found.shape.before.there told ∙ c.in_default.is))

pub returns-in_err-literals-clause-serves : goal.returns-in_err-literals-clause-serves
returns-in_err-literals-clause-serves g c = λ cpu.
    let found = c.in_ok-kind.ensures in
    let asked = c.in_err-literals.ensures.read in
    exits _ c.from_residual-in_err-literals.ensures.1 (then_refused [] extent_of c.args.of (KindOf c.args.of) refl refl refl c.requires.fit.ready found.fit.ready (Looks-read _ _ c.args.of found.read) asked.named asked.called)

pub returns-clause-serves : goal.returns-clause-serves
returns-clause-serves g c = λ cpu.
    let t = g.M.ObjectMemory.told c.args.m.now in
    let u = g.M.ObjectMemory.told c.shape.new.m in
    let found = c.in_ok-kind.ensures in
    let counted = c.in_ok-literals.ensures in
    let first = Looks-read t u c.args.of found.read in
    let second = Looks-read _ _ c.args.of counted.read in
    rw (sym c.code_start-start.ensures.start) at (peek_serves {cpu = cpu} [] extent_of c.args.of _ refl c.requires.fit.ready counted.fit.ready (Looks-trans [] [] _ _ _ found.fit.ready first second)
    (λ told. extent_is t.heap (t.regs c.args.of) c.in-Some.kind c.in-Some.len _ (found.shape.before.there told ∙ c.in-Some.is) (sym (part_looked [] t u c.args.of literals_count found.fit.ready first refl told) ∙ counted.literals.before.there (first.later.tells ∙ told))))

pub returns-clause-looks : goal.returns-clause-looks
returns-clause-looks g c =
    let found = c.in_ok-kind.ensures in
    Looks-trans [] [] _ _ _ found.fit.ready (Looks-read _ _ c.args.of found.read) (Looks-read _ _ c.args.of c.in_ok-literals.ensures.read)
