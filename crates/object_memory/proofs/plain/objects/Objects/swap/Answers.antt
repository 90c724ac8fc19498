use Rattle.std.proofs.Common.{◌≡◌, Bool, true, false, eqb, sym, ap, ◌∙◌, subst, arith}
use Rattle.std.proofs.lemmas.Grind.{common_steps}
use Rattle.long_names.specs.Heap.{Heap, Has, put_object}
use Rattle.long_names.proofs.ThinLemmas.{has_put}
use Rattle.object_memory.specs.Plain.{heap_of}
use Rattle.object_memory.proofs.MapLaws.{exchanged}
use Rattle.object_memory.proofs.plain.objects.Objects.swap.Goals as goal

pub replace-second-requires-clause-there : goal.replace-second-requires-clause-there
replace-second-requires-clause-there c = subst (λ (h : Heap). Has h c.args.b) (sym c.replace-first.ensures.heap) (has_put (heap_of c.args.self.now) c.args.a _ (heap_of c.args.self.now).next c.args.b c.requires.second)

pub replace-blank-requires-clause-there : goal.replace-blank-requires-clause-there
replace-blank-requires-clause-there c =
    let h = heap_of c.args.self.now in
    let one = heap_of c.replace-first.new.self in
    let first : Has one c.args.a = subst (λ (h : Heap). Has h c.args.a) (sym c.replace-first.ensures.heap) (has_put h c.args.a _ h.next c.args.a c.requires.first) in
    subst (λ (h : Heap). Has h c.args.a) (sym c.replace-second.ensures.heap) (has_put one c.args.b _ one.next c.args.a first)

pub returns : goal.returns
returns c =
    let h = heap_of c.args.self.now in
    c.replace-blank.ensures.heap
    ∙ ap (λ (g : Heap). put_object g c.args.a c.replace-second.result) c.replace-second.ensures.heap
    ∙ ap (λ (g : Heap). put_object (put_object g c.args.b c.replace-first.result) c.args.a c.replace-second.result) c.replace-first.ensures.heap
    ∙ exchanged h c.args.a c.args.b _ c.replace-first.result c.replace-second.result (λ e. (let same : eqb c.args.a c.args.b ≡ true = grind (arith, common_steps) in let no : ◌≡◌ {A = Bool} true false = sym same ∙ sym c.eq.ensures ∙ c.if-eq.false in cc)) c.replace-first.ensures.was (ap (λ (g : Heap). g.at c.args.b) (sym c.replace-first.ensures.heap) ∙ c.replace-second.ensures.was)
