use Rattle.std.proofs.Common.{[], ◌∷◌, Some, None, refl, ◌∙◌}
use Rattle.long_names.specs.Access.{Field}
use Rattle.object_memory.proofs.Callers.{may_literal}
use Rattle.object_memory.proofs.LooksLaws.{Looks-read}
use Rattle.object_memory.proofs.ShapeLaws.{has_passed}
use Rattle.blue_model.specs.Parts.{literal}
use Rattle.contexts.proofs.ReadLaws.{scratch, loaded, looks_loaded}
use Rattle.contexts.proofs.PartLaws.{literal_is, literal_none}
use Rattle.contexts.proofs.PeekLaws.{peek_serves, first_refused, then_refused, exits_found}
use Rattle.contexts.proofs.peeks.peek_literal.Goals as goal

pub returns-in_err-has_literal-clause-serves : goal.returns-in_err-has_literal-clause-serves
returns-in_err-has_literal-clause-serves g c = λ cpu. exits_found _ _ c.from_residual.ensures.1 (first_refused (literal c.args.i) c.args.of c.requires.fit.ready c.in_err-has_literal.ensures.read)

pub returns-then-not-branch-clause-serves : goal.returns-then-not-branch-clause-serves
returns-then-not-branch-clause-serves g c = λ cpu.
    let test = c.in_ok-has_literal.ensures in
    peek_serves [] (literal c.args.i) c.args.of None refl c.requires.fit.ready test.fit.ready (Looks-read _ _ c.args.of test.read) (literal_none c.args.i test.literal.before c.if-not-branch.true)

pub field-requires-clause-may : goal.field-requires-clause-may
field-requires-clause-may g c = may_literal _ c.args.to c.args.of c.args.i (has_passed c.in_ok-has_literal.ensures.literal.after c.if-not-branch.false)

pub returns-in_err-field-clause-serves : goal.returns-in_err-field-clause-serves
returns-in_err-field-clause-serves g c = λ cpu.
    let test = c.in_ok-has_literal.ensures in
    exits_found _ _ c.from_residual-in_err-field.ensures.1 (then_refused [] (literal c.args.i) c.args.of (Field c.args.to c.args.of c.args.i) refl refl refl c.requires.fit.ready test.fit.ready (Looks-read _ _ c.args.of test.read) (test.literal.after.name c.if-not-branch.false) c.in_err-field.ensures.access.called)

pub returns-clause-serves : goal.returns-clause-serves
returns-clause-serves g c = λ cpu.
    let t = g.M.ObjectMemory.told c.args.m.now in
    let u = g.M.ObjectMemory.told c.has_literal.new.m in
    let w = g.M.ObjectMemory.told c.field.new.self in
    let to = c.args.to in
    let of = c.args.of in
    let i = c.args.i in
    let test = c.in_ok-has_literal.ensures in
    let load = c.in_ok-field.ensures in
    let first = Looks-read t u of test.read in
    peek_serves (to ∷ []) (literal i) of (Some (w.regs to)) (scratch to c.requires.scratch) c.requires.fit.ready load.fit.ready (looks_loaded [] t u w to of i test.fit.ready first load.access.called)
    (λ told. literal_is i (has_passed test.literal.before c.if-not-branch.false) told ∙ loaded [] t u w to of i test.fit.ready first refl load.access.called told)

pub returns-clause-looks : goal.returns-clause-looks
returns-clause-looks g c =
    let t = g.M.ObjectMemory.told c.args.m.now in
    let u = g.M.ObjectMemory.told c.has_literal.new.m in
    let w = g.M.ObjectMemory.told c.field.new.self in
    let test = c.in_ok-has_literal.ensures in
    looks_loaded [] t u w c.args.to c.args.of c.args.i test.fit.ready (Looks-read t u c.args.of test.read) c.in_ok-field.ensures.access.called
