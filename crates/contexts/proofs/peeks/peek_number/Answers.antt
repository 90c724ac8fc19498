use Rattle.std.proofs.Common.{◌≤◌, ◌<◌, [], ◌∷◌, Option, Some, None, Ok, is_some, ℤ, refl, sym, ◌∙◌, ap, subst, inl, inr, arith}
use Rattle.long_names.specs.Objects.{pointers_of}
use Rattle.long_names.specs.Access.{Field}
use Rattle.object_memory.proofs.Callers.{may_field}
use Rattle.object_memory.proofs.LooksLaws.{Looks-weaker, part_looked}
use Rattle.object_memory.proofs.ShapeLaws.{has_sized, small_number}
use Rattle.object_memory.specs.Shape.{number_in}
use Rattle.blue_model.specs.Parts.{field, number}
use Rattle.blue_model.specs.Trials.{peek}
use Rattle.contexts.specs.Serves.{Serves}
use Rattle.contexts.proofs.ServesLaws.{exits}
use Rattle.contexts.proofs.ReadLaws.{scratch, loaded, looks_loaded}
use Rattle.contexts.proofs.PartLaws.{field_is, field_few, field_past, field_none, number_is}
use Rattle.contexts.proofs.PeekLaws.{peek_serves, first_refused, then_refused, number_found}
use Rattle.contexts.proofs.peeks.peek_number.Goals as goal

pub returns-in_err-len-clause-serves : goal.returns-in_err-len-clause-serves
returns-in_err-len-clause-serves g c = λ cpu. exits _ c.from_residual.ensures.1 (first_refused (number c.args.least c.args.i) c.args.of c.requires.fit.ready c.in_err-len.ensures.refused)

pub returns-in_default-clause-serves : goal.returns-in_default-clause-serves
returns-in_default-clause-serves g c = λ cpu.
    let found = c.in_ok-len.ensures in
    number_found c.args.least c.args.i _ None found.fit.ready (peek_serves [] (field c.args.least c.args.i) c.args.of None refl c.requires.fit.ready found.fit.ready found.looks (field_none c.args.least c.args.i found.fields.before c.in_default.is))

pub returns-then-len-least-clause-serves : goal.returns-then-len-least-clause-serves
returns-then-len-least-clause-serves g c = λ cpu.
    let found = c.in_ok-len.ensures in
    number_found c.args.least c.args.i _ None found.fit.ready (peek_serves [] (field c.args.least c.args.i) c.args.of None refl c.requires.fit.ready found.fit.ready found.looks (elim c.then-len-least.either [
      | inl few ↦ field_few c.args.least c.args.i c.in-Some.len found.fields.before c.in-Some.is few
      | inr past ↦ field_past c.args.least c.args.i c.in-Some.len found.fields.before c.in-Some.is past.1
    ]))

pub returns-in-Some-number_at-clause-serves : goal.returns-in-Some-number_at-clause-serves
returns-in-Some-number_at-clause-serves g c = λ cpu.
    let t = g.M.ObjectMemory.told c.args.m.now in
    let u = g.M.ObjectMemory.told c.fields_of.new.m in
    let found = c.in_ok-len.ensures in
    let low : c.args.least ≤ c.in-Some.len = omega (arith, c.if-len-least.false) in
    rw (small_number c.in-Some-number_at.number c.in-Some-number_at.ensures.range) (peek_serves [] (number c.args.least c.args.i) c.args.of (Some c.in-Some-number_at.number) refl c.requires.fit.ready found.fit.ready found.looks
    (λ told. number_is c.args.least c.args.i c.in-Some.len found.fields.before c.in-Some.is low told ∙ sym (part_looked [] t u c.args.of (number_in c.args.i) found.fit.ready found.looks refl told) ∙ c.in-Some-number_at.ensures.number.there (found.looks.later.tells ∙ told)))

pub returns-in-Some-number_at-clause-looks : goal.returns-in-Some-number_at-clause-looks
returns-in-Some-number_at-clause-looks g c = Looks-weaker [] (c.args.to ∷ []) _ _ (λ k e. refl) c.in_ok-len.ensures.looks

pub field-requires-clause-may : goal.field-requires-clause-may
field-requires-clause-may g c =
    let within : c.args.i < c.in-Some.len = omega (arith, c.if-len-i.false) in
    may_field _ c.args.to c.args.of c.args.i (has_sized _ c.args.of pointers_of (λ n. c.args.i < n) _ c.in-Some.len c.in_ok-len.ensures.fields.after c.in-Some.is within)

pub returns-in_err-field-clause-serves : goal.returns-in_err-field-clause-serves
returns-in_err-field-clause-serves g c = λ cpu.
    let found = c.in_ok-len.ensures in
    exits _ c.from_residual-in_err-field.ensures.1 (then_refused [] (number c.args.least c.args.i) c.args.of (Field c.args.to c.args.of c.args.i) refl refl refl c.requires.fit.ready found.fit.ready found.looks (found.fields.after.name (ap is_some c.in-Some.is)) c.in_err-field.ensures.access.called)

pub returns-clause-serves : goal.returns-clause-serves
returns-clause-serves g c = λ cpu.
    let t = g.M.ObjectMemory.told c.args.m.now in
    let u = g.M.ObjectMemory.told c.fields_of.new.m in
    let w = g.M.ObjectMemory.told c.field.new.self in
    let to = c.args.to in
    let of = c.args.of in
    let i = c.args.i in
    let found = c.in_ok-len.ensures in
    let load = c.in_ok-field.ensures in
    let first = found.looks in
    let low : c.args.least ≤ c.in-Some.len = omega (arith, c.if-len-least.false) in
    let P : Option ℤ → Type 0 = λ x. Serves t cpu w cpu (peek (number c.args.least i) (t.regs of)) (Ok x) in
    subst P (sym c.as_int.ensures.number) (number_found c.args.least i _ (Some (w.regs to)) load.fit.ready
    (peek_serves (to ∷ []) (field c.args.least i) of (Some (w.regs to)) (scratch to c.requires.scratch) c.requires.fit.ready load.fit.ready (looks_loaded [] t u w to of i found.fit.ready first load.access.called)
    (λ told. field_is c.args.least i c.in-Some.len found.fields.before c.in-Some.is low told ∙ loaded [] t u w to of i found.fit.ready first refl load.access.called told)))

pub returns-clause-looks : goal.returns-clause-looks
returns-clause-looks g c =
    let t = g.M.ObjectMemory.told c.args.m.now in
    let u = g.M.ObjectMemory.told c.fields_of.new.m in
    let w = g.M.ObjectMemory.told c.field.new.self in
    let found = c.in_ok-len.ensures in
    looks_loaded [] t u w c.args.to c.args.of c.args.i found.fit.ready found.looks c.in_ok-field.ensures.access.called
