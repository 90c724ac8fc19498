use Rattle.std.proofs.Common.{[], ◌∷◌, refl, ◌∙◌}
use Rattle.long_names.specs.Access.{Field}
use Rattle.object_memory.proofs.Callers.{may_literal}
use Rattle.object_memory.proofs.LooksLaws.{Looks-read}
use Rattle.object_memory.proofs.ShapeLaws.{has_passed}
use Rattle.blue_model.specs.declared.cause.Cause.TheVariants.{Shape}
use Rattle.blue_model.specs.Parts.{literal}
use Rattle.contexts.proofs.ReadLaws.{scratch, read_serves, read_stuck, read_refused, later_refused, loaded, looks_loaded, exits_with}
use Rattle.contexts.proofs.PartLaws.{literal_is, literal_none}
use Rattle.contexts.proofs.parts.literal.Goals as goal

pub returns-in_err-has_literal-clause-serves : goal.returns-in_err-has_literal-clause-serves
returns-in_err-has_literal-clause-serves g c = λ cpu. exits_with _ _ c.from_residual.ensures.1 (read_refused Shape (literal c.args.i) c.args.of c.requires.fit.ready c.in_err-has_literal.ensures.read)

pub returns-then-not-branch-clause-serves : goal.returns-then-not-branch-clause-serves
returns-then-not-branch-clause-serves g c = λ cpu.
    let test = c.in_ok-has_literal.ensures in
    read_stuck [] (literal c.args.i) c.args.of refl c.requires.fit.ready test.fit.ready (Looks-read _ _ c.args.of test.read) (literal_none c.args.i test.literal.before c.if-not-branch.true)

pub field-requires-clause-may : goal.field-requires-clause-may
field-requires-clause-may g c = may_literal _ c.args.to c.args.of c.args.i (has_passed c.in_ok-has_literal.ensures.literal.after c.if-not-branch.false)

pub returns-in_err-field-clause-serves : goal.returns-in_err-field-clause-serves
returns-in_err-field-clause-serves g c = λ cpu.
    let test = c.in_ok-has_literal.ensures in
    exits_with _ _ c.from_residual-in_err-field.ensures.1 (later_refused [] Shape (literal c.args.i) c.args.of (Field c.args.to c.args.of c.args.i) refl refl refl c.requires.fit.ready test.fit.ready (Looks-read _ _ c.args.of test.read) (test.literal.after.name c.if-not-branch.false) c.in_err-field.ensures.access.called)

pub returns-clause-serves : goal.returns-clause-serves
returns-clause-serves g c = λ cpu.
    let t = g.M.ObjectMemory.told c.args.m.now in
    let u = g.M.ObjectMemory.told c.has_literal.new.m in
    let w = g.M.ObjectMemory.told c.field.new.self in
    let to = c.args.to in
    let of = c.args.of in
    let i = c.args.i in
    let test = c.in_ok-has_literal.ensures in
    let load = c.in_ok-field.ensures in
    let first = Looks-read t u of test.read in
    read_serves (to ∷ []) Shape (literal i) of (w.regs to) (scratch to c.requires.scratch) c.requires.fit.ready load.fit.ready (looks_loaded [] t u w to of i test.fit.ready first load.access.called)
    (λ told. literal_is i (has_passed test.literal.before c.if-not-branch.false) told ∙ loaded [] t u w to of i test.fit.ready first refl load.access.called told)

pub returns-clause-looks : goal.returns-clause-looks
returns-clause-looks g c =
    let t = g.M.ObjectMemory.told c.args.m.now in
    let u = g.M.ObjectMemory.told c.has_literal.new.m in
    let w = g.M.ObjectMemory.told c.field.new.self in
    let test = c.in_ok-has_literal.ensures in
    looks_loaded [] t u w c.args.to c.args.of c.args.i test.fit.ready (Looks-read t u c.args.of test.read) c.in_ok-field.ensures.access.called
