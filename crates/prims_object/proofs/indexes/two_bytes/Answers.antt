use Rattle.std.proofs.Common.{[], Some, sym, ◌∙◌, ap, refl}
use Rattle.object_memory.proofs.LooksLaws.{Looks-trans}
use Rattle.contexts.proofs.ServesLaws.{serves_then, serves_stop, exits}
use Rattle.contexts.proofs.Steps.{pick_true, pick_false, done_serves}
use Rattle.prims_object.proofs.TestLaws.{done_as}
use Rattle.prims_object.proofs.WithinLaws.{serves_within}
use Rattle.prims_object.proofs.NumberLaws.{index_kept, two_within}
use Rattle.prims_object.proofs.indexes.two_bytes.Goals as goal

pub returns-in_err-text_length-clause-serves : goal.returns-in_err-text_length-clause-serves
returns-in_err-text_length-clause-serves g c = λ cpu. exits _ c.from_residual.ensures.1 (serves_within (two_within _) (serves_stop _ (c.in_err-text_length.ensures.serves cpu)))

pub returns-then-not-is_pair-clause-serves : goal.returns-then-not-is_pair-clause-serves
returns-then-not-is_pair-clause-serves g c = λ cpu.
    let found = c.in_ok-text_length.ensures in
    serves_within (two_within _) (serves_then _ (found.serves cpu) (pick_false _ _ _ (sym c.is_pair.ensures ∙ c.if-not-is_pair.true) (done_serves found.fit.ready)))

pub returns-in_err-low-clause-serves : goal.returns-in_err-low-clause-serves
returns-in_err-low-clause-serves g c = λ cpu.
    let found = c.in_ok-text_length.ensures in
    let same = found.looks.regs c.args.of refl in
    exits _ c.from_residual-in_err-low.ensures.1 (serves_within (two_within _) (serves_then _ (found.serves cpu) (pick_true _ _ _ (sym c.is_pair.ensures ∙ c.if-not-is_pair.false)
    (serves_stop _ (rw same at c.in_err-low.ensures.serves cpu)))))

pub returns-in_err-high-clause-serves : goal.returns-in_err-high-clause-serves
returns-in_err-high-clause-serves g c = λ cpu.
    let found = c.in_ok-text_length.ensures in
    let low = c.in_ok-low.ensures in
    let same = found.looks.regs c.args.of refl in
    exits _ c.from_residual-in_err-high.ensures.1 (serves_within (two_within _) (serves_then _ (found.serves cpu) (pick_true _ _ _ (sym c.is_pair.ensures ∙ c.if-not-is_pair.false)
    (serves_then _ (rw same at low.serves cpu)
    (serves_stop _ (rw (low.looks.regs c.args.of refl ∙ same) at c.in_err-high.ensures.serves cpu))))))

pub returns-clause-serves : goal.returns-clause-serves
returns-clause-serves g c = λ cpu.
    let found = c.in_ok-text_length.ensures in
    let low = c.in_ok-low.ensures in
    let high = c.in_ok-high.ensures in
    let same = found.looks.regs c.args.of refl in
    serves_within (two_within _) (serves_then _ (found.serves cpu) (pick_true _ _ _ (sym c.is_pair.ensures ∙ c.if-not-is_pair.false)
    (serves_then _ (rw same at low.serves cpu)
    (serves_then _ (rw (low.looks.regs c.args.of refl ∙ same) at high.serves cpu)
    (done_as _ _ (ap (λ z. Some z) (sym (index_kept _ c.joined.ensures.range ∙ c.joined.ensures.number))) high.fit.ready)))))

pub returns-clause-looks : goal.returns-clause-looks
returns-clause-looks g c =
    let found = c.in_ok-text_length.ensures in
    let low = c.in_ok-low.ensures in
    Looks-trans [] [] _ _ _ found.fit.ready found.looks (Looks-trans [] [] _ _ _ low.fit.ready low.looks c.in_ok-high.ensures.looks)
