use Rattle.std.proofs.Common.{[], ◌∷◌, sym, ◌∙◌}
use Rattle.object_memory.proofs.LooksLaws.{Looks-trans}
use Rattle.contexts.proofs.Frames.{below}
use Rattle.contexts.proofs.ServesLaws.{serves_then, serves_stop, exits}
use Rattle.contexts.proofs.Steps.{pick_true, pick_false, done_serves}
use Rattle.prims_object.proofs.TestLaws.{on_ok}
use Rattle.prims_object.proofs.WithinLaws.{serves_within}
use Rattle.prims_object.proofs.NumberLaws.{large_within}
use Rattle.prims_object.proofs.indexes.large_number.Goals as goal

pub returns-in_err-class_of-clause-serves : goal.returns-in_err-class_of-clause-serves
returns-in_err-class_of-clause-serves g c = λ cpu. exits _ c.from_residual.ensures.1 (serves_within (large_within _ c.requires.named) (serves_stop _ (c.in_err-class_of.ensures.serves cpu)))

pub returns-then-not-is-clause-serves : goal.returns-then-not-is-clause-serves
returns-then-not-is-clause-serves g c = λ cpu.
    let class = c.in_ok-class_of.ensures in
    serves_within (large_within _ c.requires.named) (serves_then _ (class.serves cpu) (pick_false _ _ _ (sym c.is.ensures ∙ c.if-not-is.true) (done_serves class.fit.ready)))

pub returns-clause-serves : goal.returns-clause-serves
returns-clause-serves g c = λ cpu.
    let class = c.in_ok-class_of.ensures in
    let same = class.looks.regs c.args.of (below 19 c.args.of c.requires.low) in
    serves_within (large_within _ c.requires.named) (serves_then _ (class.serves cpu) (pick_true _ _ _ (sym c.is.ensures ∙ c.if-not-is.false) (rw same at c.two_bytes.ensures.serves cpu)))

pub returns-clause-looks : goal.returns-clause-looks
returns-clause-looks g c =
    let class = c.in_ok-class_of.ensures in
    on_ok c.two_bytes.result (λ last. Looks-trans (19 ∷ []) [] _ _ _ class.fit.ready class.looks last) c.two_bytes.ensures.looks
