use Rattle.std.proofs.Common.{Some, [], is_some, refl, sym, ◌∙◌, ap}
use Rattle.long_names.specs.Objects.{literals_of, header_of}
use Rattle.long_names.specs.Access.{Header}
use Rattle.object_memory.proofs.Callers.{may_header}
use Rattle.object_memory.proofs.LooksLaws.{Looks-read, Looks-trans, Looks-access, part_looked}
use Rattle.object_memory.proofs.ShapeLaws.{signed_answer, small_number, has_sized}
use Rattle.blue_model.specs.declared.cause.Cause.TheVariants.{Shape}
use Rattle.blue_model.specs.Parts.{heading}
use Rattle.contexts.proofs.ServesLaws.{exits}
use Rattle.contexts.proofs.ReadLaws.{read_serves, read_stuck, read_refused, later_refused}
use Rattle.contexts.proofs.PartLaws.{heading_is, heading_none}
use Rattle.contexts.proofs.parts.header.Goals as goal

pub returns-in_err-literals-clause-serves : goal.returns-in_err-literals-clause-serves
returns-in_err-literals-clause-serves g c = λ cpu. exits _ c.from_residual.ensures.1 (read_refused Shape heading c.args.of c.requires.fit.ready c.in_err-literals.ensures.read)

pub returns-in_default-clause-serves : goal.returns-in_default-clause-serves
returns-in_default-clause-serves g c = λ cpu.
    let found = c.in_ok-literals.ensures in
    read_stuck [] heading c.args.of refl c.requires.fit.ready found.fit.ready (Looks-read _ _ c.args.of found.read) (heading_none found.literals.before c.in_default.is)

pub header-requires-clause-may : goal.header-requires-clause-may
header-requires-clause-may g c = may_header _ c.args.of _ (has_sized _ c.args.of literals_of (λ n. Unit {0}) _ _ c.in_ok-literals.ensures.literals.after c.in-Some.is tt)

pub returns-in_err-header-clause-serves : goal.returns-in_err-header-clause-serves
returns-in_err-header-clause-serves g c = λ cpu.
    let found = c.in_ok-literals.ensures in
    exits _ c.from_residual-in_err-header.ensures.1 (later_refused [] Shape heading c.args.of (Header c.args.of) refl refl refl c.requires.fit.ready found.fit.ready (Looks-read _ _ c.args.of found.read) (found.literals.after.name (ap is_some c.in-Some.is)) c.in_err-header.ensures.access.called)

pub returns-clause-serves : goal.returns-clause-serves
returns-clause-serves g c = λ cpu.
    let t = g.M.ObjectMemory.told c.args.m.now in
    let u = g.M.ObjectMemory.told c.literals.new.m in
    let w = g.M.ObjectMemory.told c.header.new.self in
    let of = c.args.of in
    let found = c.in_ok-literals.ensures in
    let got = c.in_ok-header.ensures in
    let first = Looks-read t u of found.read in
    let second = Looks-access u w (Header of) refl got.access.called in
    read_serves [] Shape heading of _ refl c.requires.fit.ready got.fit.ready (Looks-trans [] [] t u w found.fit.ready first second)
    (λ told. heading_is t of told ∙ sym (part_looked [] t u of header_of found.fit.ready first refl told) ∙ signed_answer _ _ (got.access.answer (first.later.tells ∙ told)) ∙ ap (λ z. Some z) (sym (small_number c.in_ok-header.header got.range)))

pub returns-clause-looks : goal.returns-clause-looks
returns-clause-looks g c =
    let found = c.in_ok-literals.ensures in
    Looks-trans [] [] _ _ _ found.fit.ready (Looks-read _ _ c.args.of found.read) (Looks-access _ _ (Header c.args.of) refl c.in_ok-header.ensures.access.called)
