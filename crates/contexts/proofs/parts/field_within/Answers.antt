use Rattle.std.proofs.Common.{[], ◌∷◌, refl, sym, ◌∙◌}
use Rattle.long_names.specs.Access.{Field}
use Rattle.object_memory.proofs.Callers.{may_field}
use Rattle.object_memory.proofs.LooksLaws.{Looks-access}
use Rattle.blue_model.specs.declared.cause.Cause.TheVariants.{Shape}
use Rattle.blue_model.specs.Parts.{field}
use Rattle.contexts.proofs.ReadLaws.{scratch, read_serves, part_refused, exits_with}
use Rattle.contexts.proofs.PartLaws.{field_in, value_in}
use Rattle.contexts.proofs.parts.field_within.Goals as goal

pub field-requires-clause-may : goal.field-requires-clause-may
field-requires-clause-may g c = may_field _ c.args.to c.args.of c.args.i (value_in c.args.i c.requires.within)

pub returns-in_err-field-clause-serves : goal.returns-in_err-field-clause-serves
returns-in_err-field-clause-serves g c = λ cpu. exits_with _ _ c.from_residual.ensures.1 (part_refused Shape (field c.args.least c.args.i) c.args.of (Field c.args.to c.args.of c.args.i) refl c.requires.fit.ready (λ told. c.requires.within.name) c.in_err-field.ensures.access.called)

pub returns-clause-serves : goal.returns-clause-serves
returns-clause-serves g c = λ cpu.
    let t = g.M.ObjectMemory.told c.args.m.now in
    let w = g.M.ObjectMemory.told c.field.new.self in
    let to = c.args.to in
    let load = c.in_ok-field.ensures in
    read_serves (to ∷ []) Shape (field c.args.least c.args.i) c.args.of (w.regs to) (scratch to c.requires.scratch) c.requires.fit.ready load.fit.ready (Looks-access t w (Field to c.args.of c.args.i) refl load.access.called)
    (λ told. (let it = field_in c.args.least c.args.i c.requires.within told in it.1 ∙ sym it.2 ∙ load.access.called.ok.brings told))

pub returns-clause-looks : goal.returns-clause-looks
returns-clause-looks g c = Looks-access _ _ (Field c.args.to c.args.of c.args.i) refl c.in_ok-field.ensures.access.called
