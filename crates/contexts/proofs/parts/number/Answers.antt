use Rattle.std.proofs.Common.{◌≤◌, ◌<◌, [], ◌∷◌, Result, Ok, Err, OnOk, refl, subst, inl, inr, arith}
use Rattle.long_names.specs.declared.value.Value.{Value}
use Rattle.long_names.specs.Objects.{int_of, pointers_of}
use Rattle.object_memory.proofs.LooksLaws.{Looks-trans}
use Rattle.object_memory.proofs.ShapeLaws.{has_sized}
use Rattle.blue_model.specs.declared.cause.Cause.TheVariants.{Shape}
use Rattle.blue_model.specs.Machine.{given, part}
use Rattle.blue_model.specs.Parts.{field, number}
use Rattle.contexts.specs.Serves.{Serves}
use Rattle.contexts.proofs.ServesLaws.{serves_stop, exits}
use Rattle.contexts.proofs.Steps.{read_first}
use Rattle.contexts.proofs.ReadLaws.{quiet, read_stuck, read_refused}
use Rattle.contexts.proofs.PartLaws.{number_by, field_few, field_past, field_none}
use Rattle.contexts.proofs.parts.number.Goals as goal

on_ok : {A E P Q : Type 0} (r : Result A E) → (P → Q) → OnOk r P → OnOk r Q
on_ok (Ok a) f p = f p
on_ok (Err e) f p = tt

pub returns-in_err-len-clause-serves : goal.returns-in_err-len-clause-serves
returns-in_err-len-clause-serves g c = λ cpu. exits _ c.from_residual.ensures.1 (read_refused Shape (number c.args.least c.args.i) c.args.of c.requires.fit.ready c.in_err-len.ensures.refused)

pub returns-in_default-clause-serves : goal.returns-in_default-clause-serves
returns-in_default-clause-serves g c = λ cpu.
    let found = c.in_ok-len.ensures in
    number_by c.args.least c.args.i _ (serves_stop (λ x. given Shape (int_of x)) (read_stuck [] (field c.args.least c.args.i) c.args.of refl c.requires.fit.ready found.fit.ready found.looks (field_none c.args.least c.args.i found.fields.before c.in_default.is)))

pub returns-then-len-least-clause-serves : goal.returns-then-len-least-clause-serves
returns-then-len-least-clause-serves g c = λ cpu.
    let found = c.in_ok-len.ensures in
    number_by c.args.least c.args.i _ (serves_stop (λ x. given Shape (int_of x)) (read_stuck [] (field c.args.least c.args.i) c.args.of refl c.requires.fit.ready found.fit.ready found.looks (elim c.then-len-least.either [
      | inl few ↦ field_few c.args.least c.args.i c.in-Some.len found.fields.before c.in-Some.is few
      | inr past ↦ field_past c.args.least c.args.i c.in-Some.len found.fields.before c.in-Some.is past.1
    ])))

pub number_within-requires-clause-within : goal.number_within-requires-clause-within
number_within-requires-clause-within g c =
    let low : c.args.least ≤ c.in-Some.len = omega (arith, c.if-len-least.false) in
    let within : c.args.i < c.in-Some.len = omega (arith, c.if-len-i.false) in
    has_sized _ c.args.of pointers_of (λ n. (c.args.least ≤ n) × (c.args.i < n)) _ c.in-Some.len c.in_ok-len.ensures.fields.after c.in-Some.is (low, within)

pub returns-clause-serves : goal.returns-clause-serves
returns-clause-serves g c = λ cpu.
    let t = g.M.ObjectMemory.told c.args.m.now in
    let u = g.M.ObjectMemory.told c.fields_of.new.m in
    let w = g.M.ObjectMemory.told c.number_within.new.m in
    let found = c.in_ok-len.ensures in
    read_first c.requires.fit.ready (quiet [] t u refl c.requires.fit.ready found.fit.ready found.looks)
    (subst (λ (v : Value). Serves u cpu w cpu (part Shape (number c.args.least c.args.i) v) c.number_within.result) (found.looks.regs c.args.of refl) (c.number_within.ensures.serves cpu))

pub returns-clause-looks : goal.returns-clause-looks
returns-clause-looks g c = on_ok c.number_within.result (Looks-trans [] (c.args.to ∷ []) _ _ _ c.in_ok-len.ensures.fit.ready c.in_ok-len.ensures.looks) c.number_within.ensures.looks
