use Rattle.std.proofs.Common.{◌≡◌, ℕ, ◌≤◌, List, inr, Err, refl, sym, subst, subst₂, ap, ◌∙◌}
use Rattle.long_names.specs.Access.{Say, Nothing}
use Rattle.object_memory.specs.Told.{Told}
use Rattle.object_memory.specs.declared.fault.MemFault.{MemFault}
use Rattle.object_memory.specs.declared.fault.MemFault.TheVariants.{Memory}
use Rattle.object_memory.specs.Contract.{Accessed}
use Rattle.object_memory.specs.Plain.{plain_told, refused}
use Rattle.object_memory.proofs.PlainLaws.{refuses, says-refused, makes-none}
use Rattle.object_memory.proofs.plain.PlainMemoryObjectMemory.say.Goals as goal

pub returns-in-Err-clause-access : goal.returns-in-Err-clause-access
returns-in-Err-clause-access c =
    let t = plain_told c.args.self.now in
    let is : plain_told c.refuse.new.self ≡ refused t Memory = c.refuse.ensures.refused ∙ ap (λ (x : List ℕ). refused (record t { transcript = x }) Memory) c.in-Err.ensures.err in
    subst₂ (λ (u : Told) (f : MemFault). Accessed {A = Unit {0}} t u (Say c.args.of) (λ _. Nothing) (Err f)) (sym is) (sym c.refuse.ensures.result)
    (refuses t (Say c.args.of) (λ _. Nothing) Memory refl c.requires.fit.ready (subst (λ (u : Told). t.refusals ≤ u.refusals) is c.refuse.ensures.later) (inr (refl, tt, λ low. makes-none t.heap low)) (says-refused t c.args.of))
