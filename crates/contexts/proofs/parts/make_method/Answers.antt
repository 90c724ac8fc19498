use Rattle.std.proofs.Common.{◌≡◌, ℕ, ℤ, false, eqb, Ok, Err, sym, ◌∙◌, ap, subst, arith}
use Rattle.std.proofs.lemmas.Grind.{common_steps}
use Rattle.long_names.specs.declared.value.Value.{Value}
use Rattle.long_names.specs.Access.{Make, Nothing}
use Rattle.long_names.specs.Objects.{OfMethod}
use Rattle.object_memory.specs.Contract.{Does, MayDo, Called, Accessed}
use Rattle.object_memory.proofs.Callers.{may_make}
use Rattle.object_memory.proofs.LooksLaws.{set_other}
use Rattle.object_memory.proofs.ShapeLaws.{small_number}
use Rattle.contexts.proofs.ReadLaws.{exits_with}
use Rattle.contexts.proofs.MakeLaws.{make_serves, make_refused}
use Rattle.contexts.proofs.parts.make_method.Goals as goal

pub new_method-requires-clause-may : goal.new_method-requires-clause-may
new_method-requires-clause-may g c =
    let t = g.M.ObjectMemory.told c.args.m.now in
    let P : ℤ → Type 0 = λ z. MayDo t (Make c.args.to c.args.class (OfMethod z c.args.code)) in
    subst P (sym (small_number c.args.header c.requires.header)) (may_make t c.args.to c.args.class (OfMethod c.args.header c.args.code) c.requires.class (c.requires.header, c.requires.few))

pub returns-in_err-new_method-clause-serves : goal.returns-in_err-new_method-clause-serves
returns-in_err-new_method-clause-serves g c = λ cpu.
    let t = g.M.ObjectMemory.told c.args.m.now in
    let u = g.M.ObjectMemory.told c.new_method.new.self in
    let P : ℤ → Type 0 = λ z. Called {A = Unit {0}} t u (Does (Make c.args.to c.args.class (OfMethod z c.args.code))) (Err c.in_err-new_method.field-0.0) in
    exits_with _ _ c.from_residual.ensures.1 (make_refused c.args.to c.args.class (OfMethod c.args.header c.args.code) c.requires.fit.ready (subst P (small_number c.args.header c.requires.header) c.in_err-new_method.ensures.access.called))

pub returns-clause-serves : goal.returns-clause-serves
returns-clause-serves g c = λ cpu.
    let t = g.M.ObjectMemory.told c.args.m.now in
    let u = g.M.ObjectMemory.told c.new_method.new.self in
    let P : ℤ → Type 0 = λ z. Accessed t u (Make c.args.to c.args.class (OfMethod z c.args.code)) (λ _. Nothing) (Ok c.in_ok-new_method.field-0) in
    make_serves c.args.to c.args.class (OfMethod c.args.header c.args.code) c.requires.scratch c.requires.fit.ready c.in_ok-new_method.ensures.fit.ready (subst P (small_number c.args.header c.requires.header) c.in_ok-new_method.ensures.access)

pub returns-clause-regs : goal.returns-clause-regs
returns-clause-regs g c = λ r apart.
    let there = c.in_ok-new_method.ensures.access.called.ok.regs in
    let other : eqb r c.args.to ≡ false = grind (arith, common_steps, apart) in
    ap (λ (g : ℕ → Value). g r) there ∙ set_other (g.M.ObjectMemory.told c.args.m.now).regs c.args.to _ r other
