use Rattle.std.proofs.Common.{◌≡◌, refl, sym, subst, ap, ◌∙◌, Ok, [], ◌∷◌}
use Rattle.long_names.specs.declared.value.Value.{Value}
use Rattle.long_names.specs.Heap.{Heap}
use Rattle.long_names.specs.Access.{SetByte, Nothing, heap_after, with_body}
use Rattle.long_names.specs.Objects.{with_bytes}
use Rattle.object_memory.specs.Told.{IsReady}
use Rattle.object_memory.specs.Contract.{Accessed}
use Rattle.object_memory.specs.Plain.{plain_told, heap_of, cache_of}
use Rattle.object_memory.proofs.PlainLaws.{answered, answered-ready, touched-is, makes-none}
use Rattle.object_memory.proofs.plain.PlainMemoryObjectMemory.set_byte.Goals as goal

pub returns-clause-access : goal.returns-clause-access
returns-clause-access c =
    let t = plain_told c.args.self.now in
    let a = SetByte c.args.of c.args.i c.args.b in
    let k = cache_of c.touch.new.self in
    let is : heap_of c.put_bytes.new.self ≡ heap_after t.heap t.regs a =
    (c.put_bytes.ensures
    ∙ ap (λ (v : Value). with_body t.heap v (λ b. with_bytes b c.args.i (c.args.b ∷ []))) (sym c.name-name.ensures.value)) in
    subst (λ (h : Heap). Accessed t (record t { heap = h; cache = k }) a (λ _. Nothing) (Ok (tt {0}))) (sym is)
    (answered t a t.transcript k (λ _. Nothing) (tt {0}) refl refl (c.requires.may.heap refl) (touched-is (t.regs c.args.of) c.name-name.result t.cache k c.name-name.ensures.value c.touch.ensures.leaves) (λ _. refl) refl (makes-none t.heap))

pub returns-clause-fit : goal.returns-clause-fit
returns-clause-fit c = record {
  sound = tt;
  ready = (let t = plain_told c.args.self.now in
      let a = SetByte c.args.of c.args.i c.args.b in
      let k = cache_of c.touch.new.self in
      let is : heap_of c.put_bytes.new.self ≡ heap_after t.heap t.regs a =
      (c.put_bytes.ensures
      ∙ ap (λ (v : Value). with_body t.heap v (λ b. with_bytes b c.args.i (c.args.b ∷ []))) (sym c.name-name.ensures.value)) in
      subst (λ (h : Heap). IsReady (record t { heap = h; cache = k })) (sym is) (answered-ready t a t.transcript k c.requires.fit.ready refl (c.requires.may.heap refl) (λ n e. c.requires.fit.ready.marked refl n (c.touch.ensures.fewer n e)) (λ i j k. refl)));
  lender = refl;
  outside = refl;
}
