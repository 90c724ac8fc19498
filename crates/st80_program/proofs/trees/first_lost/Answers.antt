use Rattle.std.proofs.Common.{sym, ◌∙◌}
use Rattle.std.proofs.lemmas.List.{take_all}
use Rattle.std.proofs.lemmas.List.Elements.{All-more}
use Rattle.st80_program.specs.Understood.{HasSelector}
use Rattle.st80_program.proofs.trees.first_lost.Goals as goal

pub each-preserved : goal.each-preserved
each-preserved c =
    let read = c.deref-sending-items.ensures.value in
    let sendings = c.args.trees.now.sendings.items in
    All-more (λ sending. HasSelector c.args.trees.now.methods.items sending.selector) sendings c.each.sending-index (record { selector = 0; source = 0; place = 0 }) (rw read at c.each-test.true) c.each.invariant (c.requires.has _ (rw read at (sym c.contains.ensures ∙ c.if-not-contains.false)))

pub returns-clause-none : goal.returns-clause-none
returns-clause-none c = rw (take_all c.each.sending-index c.args.trees.now.sendings.items (rw c.deref-sending-items.ensures.value at c.each-test.false)) at c.each.invariant
