use Rattle.std.proofs.Common.{◌<◌, ap, ◌∙◌, arith}
use Rattle.object_memory.proofs.LooksLaws.{Looks-put, not_among, put_value}
use Rattle.long_names.specs.declared.value.Value.TheVariants.{Int}
use Rattle.contexts.proofs.Frames.{below}
use Rattle.contexts.proofs.RegisterLaws.{int_quiet}
use Rattle.contexts.proofs.Steps.{read_first}
use Rattle.contexts.proofs.TrialLaws.{found_then, none_found, finding_stopped}
use Rattle.prims_object.proofs.LeadLaws.{found_exit, leads_through}
use Rattle.prims_object.proofs.NumberLaws.{byte_kept}
use Rattle.prims_object.proofs.TestLaws.{on_ok, of_some}
use Rattle.prims_object.proofs.characters.store_character.Goals as goal

pub returns-in_err-byte-clause-leads : goal.returns-in_err-byte-clause-leads
returns-in_err-byte-clause-leads g c = λ cpu. found_exit _ _ _ c.from_residual.ensures.1 (λ rest. finding_stopped _ (c.in_err-byte.ensures.serves cpu))

pub returns-in_default-clause-leads : goal.returns-in_default-clause-leads
returns-in_default-clause-leads g c = λ cpu rest. none_found _ c.in_default.is (c.in_ok-byte.ensures.serves cpu)

pub returns-clause-leads : goal.returns-clause-leads
returns-clause-leads g c = λ cpu.
    let found = c.in_ok-byte.ensures in
    let low : c.args.array < 19 = omega (arith, c.requires.array) in
    let put = Looks-put _ _ 18 _ c.int.ensures.told in
    let array = put.regs c.args.array (below 18 c.args.array c.requires.array) ∙ found.looks.regs c.args.array (below 19 c.args.array low) in
    let byte = put_value _ _ 18 _ c.int.ensures.told ∙ ap (λ z. Int z) (byte_kept _ _ c.from.ensures (of_some (λ b. b < 256) _ c.in-Some.is found.few)) in
    leads_through _ _ _ _ _ (λ rest later now answer next. found_then _ c.in-Some.is (found.serves cpu) (read_first found.fit.ready (int_quiet _ _ 18 _ (omega arith) found.fit.ready (c.int.ensures.fit.ready found.fit.ready) c.int.ensures.told) next))
    (rw (array, byte) at c.store_element.ensures.leads cpu)

pub returns-clause-regs : goal.returns-clause-regs
returns-clause-regs g c =
    let put = Looks-put _ _ 18 _ c.int.ensures.told in
    on_ok c.store_element.result (λ kept r apart other. kept r other ∙ put.regs r (not_among 18 r apart) ∙ c.in_ok-byte.ensures.looks.regs r (not_among 19 r other)) c.store_element.ensures.regs
