use Rattle.std.proofs.Common.{◌+◌, refl, ap, ◌∙◌, arith}
use Rattle.std.proofs.lemmas.Int.{to_z_pos}
use mir.Syntax.{w16}
use Rattle.long_names.specs.declared.value.Value.TheVariants.{Int}
use Rattle.object_memory.proofs.LooksLaws.{Looks-put, not_among, put_value}
use Rattle.blue_model.specs.Storage.{advance}
use Rattle.contexts.proofs.RegisterLaws.{int_quiet}
use Rattle.contexts.proofs.Steps.{read_first}
use Rattle.prims_object.proofs.TestLaws.{on_ok}
use Rattle.prims_object.proofs.streams.advance.Goals as goal

pub returns-clause-serves : goal.returns-clause-serves
unfolding advance
returns-clause-serves g c = λ cpu.
    let before = c.requires.fit.ready in
    let stream = (Looks-put _ _ 19 _ c.int.ensures.told).regs 10 refl in
    let index = put_value _ _ 19 _ c.int.ensures.told ∙ ap (λ z. Int z) (to_z_pos w16 (c.args.index + 1) (omega (arith, c.requires.few))) in
    read_first before (int_quiet _ _ 19 _ (omega arith) before (c.int.ensures.fit.ready before) c.int.ensures.told) (rw (stream, index) at c.store_field.ensures.serves cpu)

pub returns-clause-regs : goal.returns-clause-regs
returns-clause-regs g c =
    let put = Looks-put _ _ 19 _ c.int.ensures.told in
    on_ok c.store_field.result (λ same r apart. ap (λ f. f r) same ∙ put.regs r (not_among 19 r apart)) c.store_field.ensures.regs
