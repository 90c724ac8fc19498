use Rattle.std.proofs.Common.{◌<◌, [], refl, arith}
use Rattle.long_names.specs.Objects.{pointers_of}
use Rattle.object_memory.proofs.Callers.{may_store}
use Rattle.object_memory.proofs.ShapeLaws.{has_sized}
use Rattle.blue_model.specs.declared.cause.Cause.TheVariants.{Shape}
use Rattle.blue_model.specs.Parts.{field}
use Rattle.blue_model.specs.Contexts.{store_field}
use Rattle.contexts.proofs.ServesLaws.{serves_stop, exits}
use Rattle.contexts.proofs.ReadLaws.{read_stuck, read_refused}
use Rattle.contexts.proofs.PartLaws.{field_none, field_past}
use Rattle.contexts.proofs.StoreLaws.{store_serves, store_refused, store_first}
use Rattle.contexts.proofs.parts.store_field.Goals as goal

pub returns-in_err-len-clause-serves : goal.returns-in_err-len-clause-serves
unfolding store_field
returns-in_err-len-clause-serves g c = λ cpu. exits _ c.from_residual.ensures.1 (serves_stop _ (read_refused Shape (field 0 c.args.i) c.args.of c.requires.fit.ready c.in_err-len.ensures.refused))

pub returns-in_default-clause-serves : goal.returns-in_default-clause-serves
unfolding store_field
returns-in_default-clause-serves g c = λ cpu.
    let found = c.in_ok-len.ensures in
    serves_stop _ (read_stuck [] (field 0 c.args.i) c.args.of refl c.requires.fit.ready found.fit.ready found.looks (field_none 0 c.args.i found.fields.before c.in_default.is))

pub returns-then-len-i-clause-serves : goal.returns-then-len-i-clause-serves
unfolding store_field
returns-then-len-i-clause-serves g c = λ cpu.
    let found = c.in_ok-len.ensures in
    serves_stop _ (read_stuck [] (field 0 c.args.i) c.args.of refl c.requires.fit.ready found.fit.ready found.looks (field_past 0 c.args.i c.in-Some.len found.fields.before c.in-Some.is c.if-len-i.true))

pub set_field-requires-clause-may : goal.set_field-requires-clause-may
set_field-requires-clause-may g c =
    let within : c.args.i < c.in-Some.len = omega (arith, c.if-len-i.false) in
    may_store _ c.args.of c.args.i c.args.from (has_sized _ c.args.of pointers_of (λ n. c.args.i < n) _ c.in-Some.len c.in_ok-len.ensures.fields.after c.in-Some.is within)

pub returns-in_err-set_field-clause-serves : goal.returns-in_err-set_field-clause-serves
returns-in_err-set_field-clause-serves g c = λ cpu.
    let found = c.in_ok-len.ensures in
    let within : c.args.i < c.in-Some.len = omega (arith, c.if-len-i.false) in
    let known = has_sized _ c.args.of pointers_of (λ n. c.args.i < n) _ c.in-Some.len found.fields.after c.in-Some.is within in
    exits _ c.from_residual-in_err-set_field.ensures.1
    (store_first c.args.of c.args.i c.args.from c.requires.fit.ready found.fit.ready found.looks known
    (store_refused c.args.of c.args.i c.args.from found.fit.ready known.name c.in_err-set_field.ensures.access.called))

pub returns-clause-serves : goal.returns-clause-serves
returns-clause-serves g c = λ cpu.
    let found = c.in_ok-len.ensures in
    let within : c.args.i < c.in-Some.len = omega (arith, c.if-len-i.false) in
    let known = has_sized _ c.args.of pointers_of (λ n. c.args.i < n) _ c.in-Some.len found.fields.after c.in-Some.is within in
    let stored = c.in_ok-set_field.ensures in
    store_first c.args.of c.args.i c.args.from c.requires.fit.ready found.fit.ready found.looks known
    (store_serves c.args.of c.args.i c.args.from found.fit.ready stored.fit.ready (may_store _ c.args.of c.args.i c.args.from known) stored.access.called)
