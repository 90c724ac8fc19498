use Rattle.std.proofs.Common.{◌≡◌, ℕ, false, eqb, ◌∙◌, ap, arith}
use Rattle.std.proofs.lemmas.Grind.{common_steps}
use Rattle.long_names.specs.declared.value.Value.{Value}
use Rattle.long_names.specs.Objects.{OfPointers}
use Rattle.object_memory.proofs.Callers.{may_make}
use Rattle.object_memory.proofs.LooksLaws.{set_other}
use Rattle.contexts.proofs.ReadLaws.{exits_with}
use Rattle.contexts.proofs.MakeLaws.{make_serves, make_refused}
use Rattle.contexts.proofs.parts.make_pointers.Goals as goal

pub new_pointers-requires-clause-may : goal.new_pointers-requires-clause-may
new_pointers-requires-clause-may g c = may_make _ c.args.to c.args.class (OfPointers c.args.n) c.requires.class c.requires.few

pub returns-in_err-new_pointers-clause-serves : goal.returns-in_err-new_pointers-clause-serves
returns-in_err-new_pointers-clause-serves g c = λ cpu. exits_with _ _ c.from_residual.ensures.1 (make_refused c.args.to c.args.class (OfPointers c.args.n) c.requires.fit.ready c.in_err-new_pointers.ensures.access.called)

pub returns-clause-serves : goal.returns-clause-serves
returns-clause-serves g c = λ cpu. make_serves c.args.to c.args.class (OfPointers c.args.n) c.requires.scratch c.requires.fit.ready c.in_ok-new_pointers.ensures.fit.ready c.in_ok-new_pointers.ensures.access

pub returns-clause-regs : goal.returns-clause-regs
returns-clause-regs g c = λ r apart.
    let there = c.in_ok-new_pointers.ensures.access.called.ok.regs in
    let other : eqb r c.args.to ≡ false = grind (arith, common_steps, apart) in
    ap (λ (g : ℕ → Value). g r) there ∙ set_other (g.M.ObjectMemory.told c.args.m.now).regs c.args.to _ r other
