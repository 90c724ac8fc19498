use Rattle.std.proofs.Common.{◌≡◌, refl}
use Rattle.long_names.specs.Access.{SetField}
use Rattle.object_memory.proofs.Callers.{may_store}
use Rattle.object_memory.proofs.LeftLaws.{fields_stored}
use Rattle.blue_model.specs.declared.cause.Cause.TheVariants.{Shape}
use Rattle.blue_model.specs.Parts.{field}
use Rattle.blue_model.specs.Contexts.{store_field}
use Rattle.contexts.proofs.ServesLaws.{exits}
use Rattle.contexts.proofs.ReadLaws.{part_first}
use Rattle.contexts.proofs.PartLaws.{field_tested}
use Rattle.contexts.proofs.StoreLaws.{store_serves, store_refused}
use Rattle.contexts.proofs.parts.store_within.Goals as goal

pub set_field-requires-clause-may : goal.set_field-requires-clause-may
set_field-requires-clause-may g c = may_store _ c.args.of c.args.i c.args.from c.requires.within

pub returns-in_err-set_field-clause-serves : goal.returns-in_err-set_field-clause-serves
unfolding store_field
returns-in_err-set_field-clause-serves g c = λ cpu.
    exits _ c.from_residual.ensures.1
    (part_first Shape (field 0 c.args.i) c.args.of (λ told. (let it = field_tested c.args.i c.requires.within told in (it.0, it.1)))
    (store_refused c.args.of c.args.i c.args.from c.requires.fit.ready c.requires.within.name c.in_err-set_field.ensures.access.called))

pub returns-clause-serves : goal.returns-clause-serves
unfolding store_field
returns-clause-serves g c = λ cpu.
    let stored = c.in_ok-set_field.ensures in
    part_first Shape (field 0 c.args.i) c.args.of (λ told. (let it = field_tested c.args.i c.requires.within told in (it.0, it.1)))
    (store_serves c.args.of c.args.i c.args.from c.requires.fit.ready stored.fit.ready (may_store _ c.args.of c.args.i c.args.from c.requires.within) stored.access.called)

pub returns-clause-counted : goal.returns-clause-counted
returns-clause-counted g c = λ n known. fields_stored _ _ (SetField c.args.of c.args.i c.args.from) c.args.of c.args.of (λ k. k ≡ n) refl refl (may_store _ c.args.of c.args.i c.args.from c.requires.within) c.in_ok-set_field.ensures.fit.ready c.in_ok-set_field.ensures.access.called known
