use Rattle.std.proofs.Common.{ap, ◌∙◌}
use Rattle.object_memory.proofs.LooksLaws.{not_among}
use Rattle.blue_model.specs.Elements.{make_large}
use Rattle.contexts.proofs.ServesLaws.{serves_then, serves_stop}
use Rattle.contexts.proofs.ReadLaws.{exits_with}
use Rattle.contexts.proofs.Steps.{done_same}
use Rattle.prims_object.proofs.indexes.make_large.Goals as goal

pub returns-in_err-known-clause-serves : goal.returns-in_err-known-clause-serves
unfolding make_large
returns-in_err-known-clause-serves g c = λ cpu. exits_with _ _ c.from_residual.ensures.1 (serves_stop _ (c.in_err-known.ensures.serves cpu))

pub returns-in_err-make_bytes-clause-serves : goal.returns-in_err-make_bytes-clause-serves
unfolding make_large
returns-in_err-make_bytes-clause-serves g c = λ cpu.
    exits_with _ _ c.from_residual-in_err-make_bytes.ensures.1
    (serves_then _ (c.in_ok-known.ensures.serves cpu) (serves_stop _ (c.in_err-make_bytes.ensures.serves cpu)))

pub returns-in_err-store_byte-clause-serves : goal.returns-in_err-store_byte-clause-serves
unfolding make_large
returns-in_err-store_byte-clause-serves g c = λ cpu.
    exits_with _ _ c.from_residual-in_err-store_byte.ensures.1
    (serves_then _ (c.in_ok-known.ensures.serves cpu)
    (serves_then _ (c.in_ok-make_bytes.ensures.serves cpu)
    (serves_stop _ (c.in_err-store_byte.ensures.serves cpu))))

pub returns-in_err-store_byte-2-clause-serves : goal.returns-in_err-store_byte-2-clause-serves
unfolding make_large
returns-in_err-store_byte-2-clause-serves g c = λ cpu.
    exits_with _ _ c.from_residual-in_err-store_byte-2.ensures.1
    (serves_then _ (c.in_ok-known.ensures.serves cpu)
    (serves_then _ (c.in_ok-make_bytes.ensures.serves cpu)
    (serves_then _ (c.in_ok-store_byte.ensures.serves cpu)
    (serves_stop _ (rw (ap (λ f. f 12) c.in_ok-store_byte.ensures.regs) at c.in_err-store_byte-2.ensures.serves cpu)))))

pub returns-clause-serves : goal.returns-clause-serves
unfolding make_large
returns-clause-serves g c = λ cpu.
    let stored = c.in_ok-store_byte-2.ensures in
    let first = ap (λ f. f 12) c.in_ok-store_byte.ensures.regs in
    serves_then _ (c.in_ok-known.ensures.serves cpu)
    (serves_then _ (c.in_ok-make_bytes.ensures.serves cpu)
    (serves_then _ (c.in_ok-store_byte.ensures.serves cpu)
    (serves_then _ (rw first at stored.serves cpu)
    (done_same (ap (λ f. f 12) stored.regs ∙ first) stored.fit.ready))))

pub returns-clause-regs : goal.returns-clause-regs
returns-clause-regs g c = λ r apart other. ap (λ f. f r) c.in_ok-store_byte-2.ensures.regs ∙ ap (λ f. f r) c.in_ok-store_byte.ensures.regs ∙ c.in_ok-make_bytes.ensures.regs r apart ∙ c.in_ok-known.ensures.looks.regs r (not_among 19 r other)
