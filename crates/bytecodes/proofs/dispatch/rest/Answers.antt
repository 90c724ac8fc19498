use Rattle.std.proofs.Common.{◌≡◌, ◌∙◌, ℕ, pos, sym, ap, cond, eqb, if◌then◌else◌, arith}
use Rattle.std.proofs.lemmas.Grind.{common_steps}
use Rattle.long_names.specs.declared.value.Value.{Value}
use Rattle.long_names.specs.State.{set_register, SELECTOR, NEW_METHOD}
use Rattle.long_names.specs.declared.value.Value.TheVariants.{Int}
use Rattle.object_memory.specs.Told.{Told}
use Rattle.blue_model.specs.Cycle.{is_message}
use Rattle.contexts.proofs.Steps.{clear_serves, read_last}
use Rattle.contexts.proofs.RegisterLaws.{clear_quiet}
use Rattle.bytecodes.proofs.dispatch.rest.Goals as goal

-- nothing but registers has changed
others : (a b c : Told) → b ≡ (record a { regs = set_register a.regs SELECTOR (Int (pos 0)) }) → c ≡ (record b { regs = set_register b.regs NEW_METHOD (Int (pos 0)) }) → c ≡ (record a { regs = c.regs })
others a b c e f = f ∙ ap (λ (t : Told). record t { regs = set_register b.regs NEW_METHOD (Int (pos 0)) }) e ∙ sym (ap (λ (t : Told). record a { regs = t.regs }) f)

-- the two registers of a message hold 0, and the others what they held
two : (r : ℕ) (v : Value) → cond (eqb r NEW_METHOD) (Int (pos 0)) (cond (eqb r SELECTOR) (Int (pos 0)) v) ≡ (if is_message r then Int (pos 0) else v)
two r v = grind (arith, common_steps)

message : (a b c : Told) (r : ℕ) → b ≡ (record a { regs = set_register a.regs SELECTOR (Int (pos 0)) }) → c ≡ (record b { regs = set_register b.regs NEW_METHOD (Int (pos 0)) }) → c.regs r ≡ (if is_message r then Int (pos 0) else a.regs r)
message a b c r e f = ap (λ (t : Told). t.regs r) f ∙ ap (λ v. cond (eqb r NEW_METHOD) (Int (pos 0)) v) (ap (λ (t : Told). t.regs r) e) ∙ two r (a.regs r)

pub returns-clause-serves : goal.returns-clause-serves
returns-clause-serves g c = λ cpu.
    let ready = c.int-2.ensures.fit.ready (c.int.ensures.fit.ready c.requires.fit.ready) in
    read_last (clear_serves is_message ready (others _ _ _ c.int.ensures.told c.int-2.ensures.told) (λ r low. message _ _ _ r c.int.ensures.told c.int-2.ensures.told))
    (clear_quiet _ _ 10 24 (omega arith) (c.clear_scratch.ensures.fit.ready ready) c.clear_scratch.ensures.rest c.clear_scratch.ensures.regs)
