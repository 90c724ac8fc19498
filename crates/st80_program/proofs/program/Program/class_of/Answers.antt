use Rattle.std.proofs.Common.{◌≡◌, ◌≢◌, ◌+◌, true, false, sym, ap, ◌∙◌}
use Rattle.std.proofs.lemmas.Bool.Decides.{Decides-eqb}
use Rattle.std.proofs.lemmas.List.{take_all}
use Rattle.std.proofs.lemmas.List.Elements.{All-more}
use Rattle.std.proofs.lemmas.Slice.Eq.{slice_eq-Decides}
use Rattle.st80_program.proofs.program.Program.class_of.Goals as goal

pub each-preserved : goal.each-preserved
each-preserved c =
    let other : c.class-item.result.name.items ≢ c.args.name.now = (λ same. let no : false ≡ true = sym c.if-eq.false ∙ (slice_eq-Decides Decides-eqb _ _ _ c.eq.ensures).1 (c.as_slice.ensures.value ∙ same) in absurd (cc)) in
    (ap (λ n. n + 1) c.each.invariant.0, All-more (λ class. class.name.items ≢ c.args.name.now) c.args.self.now.classes.items c.each.class-index c.class-item.result (rw c.deref-class-items.ensures.value at c.each-test.true) c.each.invariant.1 (rw (rw c.deref-class-items.ensures.value at c.class-item.is) at other))

pub returns-clause-none : goal.returns-clause-none
returns-clause-none c = rw (take_all c.each.class-index c.args.self.now.classes.items (rw c.deref-class-items.ensures.value at c.each-test.false)) at c.each.invariant.1
