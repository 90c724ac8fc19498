use Rattle.std.proofs.Common.{ℕ, refl, sym, subst, ap, ◌∙◌, Ok, Some}
use Rattle.std.specs.Option.{option_and_then}
use Rattle.long_names.specs.declared.value.Value.{Value}
use Rattle.long_names.specs.declared.value.Value.TheVariants.{Ref}
use Rattle.long_names.specs.Access.{Class, Nothing, brought}
use Rattle.object_memory.specs.Told.{IsReady}
use Rattle.object_memory.specs.Contract.{Accessed}
use Rattle.object_memory.specs.Plain.{plain_told}
use Rattle.object_memory.proofs.PlainLaws.{class-of-number, here, kept_cache, answered, answered-ready, loaded-is, is-ref, makes-none}
use Rattle.object_memory.proofs.plain.PlainMemoryObjectMemory.class.Goals as goal

pub returns-clause-access : goal.returns-clause-access
returns-clause-access c =
    let t = plain_told c.args.self.now in
    let a = Class c.args.to c.args.of in
    let is = loaded-is t.regs _ c.args.to (brought t.heap t.regs a) (Ref c.class_of-class.result) (ap (option_and_then (λ class. Some (Ref class))) c.class_of-class.ensures.value) c.set.ensures in
    subst (λ (regs : ℕ → Value). Accessed t (record t { regs = regs }) a (λ _. Nothing) (Ok (tt {0}))) (sym is)
    (answered t a t.transcript t.cache (λ _. Nothing) (tt {0}) refl refl (c.requires.may.heap refl) (kept_cache t.cache) (λ _. refl) refl (makes-none t.heap))

pub returns-clause-name : goal.returns-clause-name
returns-clause-name c = is-ref _ _ (here _ _ c.args.to _ c.set.ensures)

pub returns-clause-fit : goal.returns-clause-fit
returns-clause-fit c = record {
  sound = tt;
  ready = (let t = plain_told c.args.self.now in
      let a = Class c.args.to c.args.of in
      let is = loaded-is t.regs _ c.args.to (brought t.heap t.regs a) (Ref c.class_of-class.result) (ap (option_and_then (λ class. Some (Ref class))) c.class_of-class.ensures.value) c.set.ensures in
      subst (λ (regs : ℕ → Value). IsReady (record t { regs = regs })) (sym is) (answered-ready t a t.transcript t.cache c.requires.fit.ready refl (c.requires.may.heap refl) (c.requires.fit.ready.marked refl) (λ i j k. refl)));
  lender = refl;
  outside = refl;
}

pub returns-clause-number : goal.returns-clause-number
returns-clause-number c number = here _ _ c.args.to _ c.set.ensures ∙ ap Ref (class-of-number (plain_told c.args.self.now).heap ((plain_told c.args.self.now).regs c.args.of) c.class_of-class.result c.class_of-class.ensures.value number)
