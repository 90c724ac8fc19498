use Rattle.std.proofs.Common.{◌≤◌, ◌<◌, ◌-◌, ℕ, is_some, [], ◌∷◌, refl, ◌∙◌, ap, arith}
use Rattle.long_names.specs.Objects.{literals_of}
use Rattle.long_names.specs.Access.{Field}
use Rattle.object_memory.proofs.Callers.{may_literal}
use Rattle.object_memory.proofs.LooksLaws.{Looks-read}
use Rattle.object_memory.proofs.ShapeLaws.{has_sized}
use Rattle.blue_model.specs.declared.cause.Cause.TheVariants.{Shape}
use Rattle.blue_model.specs.Messages.{literal_before_last}
use Rattle.contexts.proofs.ReadLaws.{scratch, read_serves, read_stuck, read_refused, later_refused, loaded, looks_loaded, exits_with}
use Rattle.contexts.proofs.PartLaws.{before_last_is, before_last_few, before_last_none}
use Rattle.contexts.proofs.parts.literal_before_last.Goals as goal

pub returns-in_err-count-clause-serves : goal.returns-in_err-count-clause-serves
returns-in_err-count-clause-serves g c = λ cpu. exits_with _ _ c.from_residual.ensures.1 (read_refused Shape literal_before_last c.args.of c.requires.fit.ready c.in_err-count.ensures.read)

pub returns-in_default-clause-serves : goal.returns-in_default-clause-serves
returns-in_default-clause-serves g c = λ cpu.
    let found = c.in_ok-count.ensures in
    read_stuck [] literal_before_last c.args.of refl c.requires.fit.ready found.fit.ready (Looks-read _ _ c.args.of found.read) (before_last_none found.literals.before c.in_default.is)

pub returns-then-count-lt2-clause-serves : goal.returns-then-count-lt2-clause-serves
returns-then-count-lt2-clause-serves g c = λ cpu.
    let found = c.in_ok-count.ensures in
    read_stuck [] literal_before_last c.args.of refl c.requires.fit.ready found.fit.ready (Looks-read _ _ c.args.of found.read) (before_last_few c.in-Some.count found.literals.before c.in-Some.is c.if-count-lt2.true)

pub field-requires-clause-may : goal.field-requires-clause-may
field-requires-clause-may g c =
    let low : c.in-Some.count - 2 < c.in-Some.count = omega (arith, c.if-count-lt2.false) in
    may_literal _ c.args.to c.args.of (c.in-Some.count - 2) (has_sized _ c.args.of literals_of (λ n. c.in-Some.count - 2 < n) _ _ c.in_ok-count.ensures.literals.after c.in-Some.is low)

pub returns-in_err-field-clause-serves : goal.returns-in_err-field-clause-serves
returns-in_err-field-clause-serves g c = λ cpu.
    let found = c.in_ok-count.ensures in
    exits_with _ _ c.from_residual-in_err-field.ensures.1 (later_refused [] Shape literal_before_last c.args.of (Field c.args.to c.args.of (c.in-Some.count - 2)) refl refl refl c.requires.fit.ready found.fit.ready (Looks-read _ _ c.args.of found.read) (found.literals.after.name (ap is_some c.in-Some.is)) c.in_err-field.ensures.access.called)

pub returns-clause-serves : goal.returns-clause-serves
returns-clause-serves g c = λ cpu.
    let t = g.M.ObjectMemory.told c.args.m.now in
    let u = g.M.ObjectMemory.told c.literals.new.m in
    let w = g.M.ObjectMemory.told c.field.new.self in
    let to = c.args.to in
    let of = c.args.of in
    let i : ℕ = c.in-Some.count - 2 in
    let found = c.in_ok-count.ensures in
    let load = c.in_ok-field.ensures in
    let first = Looks-read t u of found.read in
    let many : 2 ≤ c.in-Some.count = omega (arith, c.if-count-lt2.false) in
    read_serves (to ∷ []) Shape literal_before_last of (w.regs to) (scratch to c.requires.scratch) c.requires.fit.ready load.fit.ready (looks_loaded [] t u w to of i found.fit.ready first load.access.called)
    (λ told. before_last_is c.in-Some.count found.literals.before c.in-Some.is many told ∙ loaded [] t u w to of i found.fit.ready first refl load.access.called told)

pub returns-clause-looks : goal.returns-clause-looks
returns-clause-looks g c =
    let t = g.M.ObjectMemory.told c.args.m.now in
    let u = g.M.ObjectMemory.told c.literals.new.m in
    let w = g.M.ObjectMemory.told c.field.new.self in
    let found = c.in_ok-count.ensures in
    looks_loaded [] t u w c.args.to c.args.of (c.in-Some.count - 2) found.fit.ready (Looks-read t u c.args.of found.read) c.in_ok-field.ensures.access.called
