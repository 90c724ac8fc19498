use Rattle.std.proofs.Common.{◌≡◌, ◌≤◌, inr, Err, refl, sym, subst, subst₂, ap, ◌∙◌}
use Rattle.long_names.specs.Access.{Mark, Nothing}
use Rattle.object_memory.specs.Told.{Told, Cache}
use Rattle.object_memory.specs.declared.fault.MemFault.{MemFault}
use Rattle.object_memory.specs.declared.fault.MemFault.TheVariants.{Memory}
use Rattle.object_memory.specs.Contract.{Accessed}
use Rattle.object_memory.specs.Plain.{plain_told, cache_of, refused}
use Rattle.object_memory.proofs.PlainLaws.{answered, answered-ready, refuses, marked-there, marks-are, mark-here, makes-none}
use Rattle.object_memory.proofs.plain.PlainMemoryObjectMemory.mark.Goals as goal

pub returns-in-Ok-clause-access : goal.returns-in-Ok-clause-access
returns-in-Ok-clause-access c =
    let t = plain_told c.args.self.now in
    let k = cache_of c.add.new.self in
    let named = c.name-name.ensures.value in
    answered t (Mark c.args.r) t.transcript k (λ _. Nothing) (tt {0}) refl refl (c.requires.may.heap refl) (marks-are t (t.regs c.args.r) c.name-name.result k named c.in-Ok.ensures.ok) (λ _. refl) refl (makes-none t.heap)

pub returns-in-Ok-clause-marked : goal.returns-in-Ok-clause-marked
returns-in-Ok-clause-marked c =
    let t = plain_told c.args.self.now in
    mark-here t.cache (t.regs c.args.r) c.name-name.result (cache_of c.add.new.self) c.name-name.ensures.value c.in-Ok.ensures.ok

pub returns-in-Ok-clause-fit : goal.returns-in-Ok-clause-fit
returns-in-Ok-clause-fit c = record {
  sound = tt;
  ready = (let t = plain_told c.args.self.now in
      let k = cache_of c.add.new.self in
      answered-ready t (Mark c.args.r) t.transcript k c.requires.fit.ready refl (c.requires.may.heap refl)
      (λ n e. marked-there t c.args.r c.name-name.result n c.requires.fit.ready refl c.name-name.ensures.value (sym (ap (λ (x : Cache). x.marks n) c.in-Ok.ensures.ok) ∙ e))
      (λ i j k. refl));
  lender = refl;
  outside = refl;
}

pub returns-in-Err-clause-access : goal.returns-in-Err-clause-access
returns-in-Err-clause-access c =
    let t = plain_told c.args.self.now in
    let is : plain_told c.refuse.new.self ≡ refused t Memory = c.refuse.ensures.refused ∙ ap (λ (k : Cache). refused (record t { cache = k }) Memory) c.in-Err.ensures.err in
    subst₂ (λ (u : Told) (f : MemFault). Accessed {A = Unit {0}} t u (Mark c.args.r) (λ _. Nothing) (Err f)) (sym is) (sym c.refuse.ensures.result)
    (refuses t (Mark c.args.r) (λ _. Nothing) Memory refl c.requires.fit.ready (subst (λ (u : Told). t.refusals ≤ u.refusals) is c.refuse.ensures.later) (inr (refl, tt, λ low. makes-none t.heap low)) (λ g is told. refl))
