use Rattle.std.proofs.Common.{◌≡◌, refl, sym, subst, ap₂, ◌∙◌, Ok}
use Rattle.long_names.specs.declared.value.Value.{Value}
use Rattle.long_names.specs.Heap.{Heap}
use Rattle.long_names.specs.Access.{Swap, Nothing, heap_after, with_swapped}
use Rattle.object_memory.specs.Told.{IsReady}
use Rattle.object_memory.specs.Contract.{Accessed}
use Rattle.object_memory.specs.Plain.{plain_told, heap_of, cache_of}
use Rattle.object_memory.proofs.PlainLaws.{answered, answered-ready, touched-both, makes-none}
use Rattle.object_memory.proofs.plain.PlainMemoryObjectMemory.swap.Goals as goal

pub swap-requires-clause-first : goal.swap-requires-clause-first
swap-requires-clause-first c = (c.requires.fit.ready.whole refl).rooted c.args.a c.name-first.result c.name-first.ensures.value

pub swap-requires-clause-second : goal.swap-requires-clause-second
swap-requires-clause-second c = (c.requires.fit.ready.whole refl).rooted c.args.b c.name-second.result c.name-second.ensures.value

pub returns-clause-access : goal.returns-clause-access
returns-clause-access c =
    let t = plain_told c.args.self.now in
    let a = Swap c.args.a c.args.b in
    let k = cache_of c.touch-2.new.self in
    let is : heap_of c.swap.new.self ≡ heap_after t.heap t.regs a = c.swap.ensures ∙ ap₂ (λ (v w : Value). with_swapped t.heap v w) (sym c.name-first.ensures.value) (sym c.name-second.ensures.value) in
    subst (λ (h : Heap). Accessed t (record t { heap = h; cache = k }) a (λ _. Nothing) (Ok (tt {0}))) (sym is)
    (answered t a t.transcript k (λ _. Nothing) (tt {0}) refl refl (c.requires.may.heap refl)
    (touched-both (t.regs c.args.a) (t.regs c.args.b) c.name-first.result c.name-second.result t.cache (cache_of c.touch.new.self) k c.name-first.ensures.value c.name-second.ensures.value c.touch.ensures.leaves c.touch-2.ensures.leaves)
    (λ _. refl) refl (makes-none t.heap))

pub returns-clause-fit : goal.returns-clause-fit
returns-clause-fit c = record {
  sound = tt;
  ready = (let t = plain_told c.args.self.now in
      let a = Swap c.args.a c.args.b in
      let k = cache_of c.touch-2.new.self in
      let is : heap_of c.swap.new.self ≡ heap_after t.heap t.regs a = c.swap.ensures ∙ ap₂ (λ (v w : Value). with_swapped t.heap v w) (sym c.name-first.ensures.value) (sym c.name-second.ensures.value) in
      subst (λ (h : Heap). IsReady (record t { heap = h; cache = k })) (sym is)
      (answered-ready t a t.transcript k c.requires.fit.ready refl (c.requires.may.heap refl) (λ n e. c.requires.fit.ready.marked refl n (c.touch.ensures.fewer n (c.touch-2.ensures.fewer n e))) (λ i j k. refl)));
  lender = refl;
  outside = refl;
}
