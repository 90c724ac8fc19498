use Rattle.std.proofs.Common.{◌≡◌, ℕ, Option, Some, refl, sym, subst, ap, ◌∙◌, Ok}
use Rattle.long_names.specs.Access.{Pin, Nothing}
use Rattle.long_names.specs.State.{name_at, set_slot}
use Rattle.object_memory.specs.Told.{IsReady}
use Rattle.object_memory.specs.Contract.{Accessed}
use Rattle.object_memory.specs.Plain.{plain_told, names_of}
use Rattle.object_memory.proofs.PlainLaws.{kept_cache, answered, answered-ready, makes-none}
use Rattle.object_memory.proofs.plain.PlainMemoryObjectMemory.pin.Goals as goal

pub returns-clause-access : goal.returns-clause-access
returns-clause-access c =
    let t = plain_told c.args.self.now in
    let a = Pin c.args.slot c.args.r in
    let is : names_of c.set.new.self ≡ set_slot t.slots c.args.slot (Some (name_at (t.regs c.args.r))) = c.set.ensures ∙ ap (λ v. set_slot t.slots c.args.slot (Some (name_at v))) (sym c.name-name.ensures.value) in
    subst (λ (slots : ℕ → Option ℕ). Accessed t (record t { slots = slots }) a (λ _. Nothing) (Ok (tt {0}))) (sym is)
    (answered t a t.transcript t.cache (λ _. Nothing) (tt {0}) refl refl (c.requires.may.heap refl) (kept_cache t.cache) (λ _. refl) refl (makes-none t.heap))

pub returns-clause-fit : goal.returns-clause-fit
returns-clause-fit c = record {
  sound = tt;
  ready = (let t = plain_told c.args.self.now in
      let a = Pin c.args.slot c.args.r in
      let is : names_of c.set.new.self ≡ set_slot t.slots c.args.slot (Some (name_at (t.regs c.args.r))) = c.set.ensures ∙ ap (λ v. set_slot t.slots c.args.slot (Some (name_at v))) (sym c.name-name.ensures.value) in
      subst (λ (slots : ℕ → Option ℕ). IsReady (record t { slots = slots })) (sym is) (answered-ready t a t.transcript t.cache c.requires.fit.ready refl (c.requires.may.heap refl) (c.requires.fit.ready.marked refl) (λ i j k. refl)));
  lender = refl;
  outside = refl;
}
