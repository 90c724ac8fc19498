use Rattle.std.proofs.Common.{ℕ, refl, sym, subst, Ok}
use Rattle.long_names.specs.declared.value.Value.{Value}
use Rattle.long_names.specs.Access.{Known, Nothing}
use Rattle.object_memory.specs.Told.{IsReady}
use Rattle.object_memory.specs.Contract.{Accessed}
use Rattle.object_memory.specs.Plain.{plain_told}
use Rattle.object_memory.proofs.PlainLaws.{here, kept_cache, answered, answered-ready, makes-none}
use Rattle.object_memory.proofs.plain.PlainMemoryObjectMemory.known.Goals as goal

pub returns-clause-access : goal.returns-clause-access
returns-clause-access c =
    let t = plain_told c.args.self.now in
    let a = Known c.args.to c.args.name in
    subst (λ (regs : ℕ → Value). Accessed t (record t { regs = regs }) a (λ _. Nothing) (Ok (tt {0}))) (sym c.set.ensures)
    (answered t a t.transcript t.cache (λ _. Nothing) (tt {0}) refl refl (c.requires.may.heap refl) (kept_cache t.cache) (λ _. refl) refl (makes-none t.heap))

pub returns-clause-name : goal.returns-clause-name
returns-clause-name c = here _ _ c.args.to _ c.set.ensures

pub returns-clause-fit : goal.returns-clause-fit
returns-clause-fit c = record {
  sound = tt;
  ready = (let t = plain_told c.args.self.now in
      let a = Known c.args.to c.args.name in
      subst (λ (regs : ℕ → Value). IsReady (record t { regs = regs })) (sym c.set.ensures) (answered-ready t a t.transcript t.cache c.requires.fit.ready refl (c.requires.may.heap refl) (c.requires.fit.ready.marked refl) (λ i j k. refl)));
  lender = refl;
  outside = refl;
}
