use Rattle.std.proofs.Common.{ℕ, refl, sym, subst, ap, ◌∙◌, Ok}
use Rattle.std.specs.Option.{option_and_then}
use Rattle.long_names.specs.declared.value.Value.{Value}
use Rattle.long_names.specs.declared.object.Object.{Object}
use Rattle.long_names.specs.Access.{Field, Nothing, brought}
use Rattle.long_names.specs.Objects.{field_of}
use Rattle.object_memory.specs.Told.{IsReady}
use Rattle.object_memory.specs.Contract.{Accessed}
use Rattle.object_memory.specs.Plain.{plain_told}
use Rattle.object_memory.proofs.PlainLaws.{kept_cache, answered, answered-ready, loaded-is, makes-none}
use Rattle.object_memory.proofs.plain.PlainMemoryObjectMemory.field.Goals as goal

pub returns-clause-access : goal.returns-clause-access
returns-clause-access c =
    let t = plain_told c.args.self.now in
    let a = Field c.args.to c.args.of c.args.i in
    let is = loaded-is t.regs _ c.args.to (brought t.heap t.regs a) c.field-value.result (ap (option_and_then (λ (o : Object). field_of o.body c.args.i)) c.object.ensures.at ∙ c.field-value.ensures.value) c.set.ensures in
    subst (λ (regs : ℕ → Value). Accessed t (record t { regs = regs }) a (λ _. Nothing) (Ok (tt {0}))) (sym is)
    (answered t a t.transcript t.cache (λ _. Nothing) (tt {0}) refl refl (c.requires.may.heap refl) (kept_cache t.cache) (λ _. refl) refl (makes-none t.heap))

pub returns-clause-fit : goal.returns-clause-fit
returns-clause-fit c = record {
  sound = tt;
  ready = (let t = plain_told c.args.self.now in
      let a = Field c.args.to c.args.of c.args.i in
      let is = loaded-is t.regs _ c.args.to (brought t.heap t.regs a) c.field-value.result (ap (option_and_then (λ (o : Object). field_of o.body c.args.i)) c.object.ensures.at ∙ c.field-value.ensures.value) c.set.ensures in
      subst (λ (regs : ℕ → Value). IsReady (record t { regs = regs })) (sym is) (answered-ready t a t.transcript t.cache c.requires.fit.ready refl (c.requires.may.heap refl) (c.requires.fit.ready.marked refl) (λ i j k. refl)));
  lender = refl;
  outside = refl;
}
