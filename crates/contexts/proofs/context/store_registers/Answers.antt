use Rattle.std.proofs.Common.{[], ◌∷◌, refl, sym, ap, ◌∙◌, arith}
use Rattle.object_memory.specs.Told.{Told}
use Rattle.object_memory.proofs.LooksLaws.{put_value, Looks-put, has_looked}
use Rattle.object_memory.proofs.ShapeLaws.{small_number}
use Rattle.blue_model.specs.Contexts.{store_registers}
use Rattle.contexts.proofs.ExitLaws.{store_unsized}
use Rattle.contexts.proofs.ReadLaws.{quiet}
use Rattle.contexts.proofs.ServesLaws.{serves_then, serves_exit, exits}
use Rattle.contexts.proofs.Steps.{register_then, numbers_then, given_then, given_stuck, read_first}
use Rattle.contexts.proofs.RegisterLaws.{int_quiet}
use Rattle.contexts.proofs.context.store_registers.Goals as goal

pub returns-in_default-clause-serves : goal.returns-in_default-clause-serves
unfolding store_registers
returns-in_default-clause-serves g c = numbers_then _ (register_then _ _ refl (given_stuck _ _ (λ told. sym c.in_default.ensures.value)))

pub returns-in_default-stated_depth-clause-serves : goal.returns-in_default-stated_depth-clause-serves
unfolding store_registers
returns-in_default-stated_depth-clause-serves g c =
    numbers_then _ (register_then _ _ refl (given_then _ _ _ _ (λ told. sym c.in-Some.ensures.value) (given_stuck _ _ (λ told. sym c.in_default-stated_depth.ensures.value))))

pub returns-in_err-len-clause-serves : goal.returns-in_err-len-clause-serves
unfolding store_registers
returns-in_err-len-clause-serves g c =
    numbers_then _ (register_then _ _ refl (given_then _ _ _ _ (λ told. sym c.in-Some.ensures.value) (given_then _ _ _ _ (λ told. sym c.in-Some-stated_depth.ensures.value)
    (serves_exit _ _ (store_unsized _ _ _ (c.in_err-len.ensures.serves _)) c.from_residual.ensures.1))))

pub store_below-requires-clause-counted : goal.store_below-requires-clause-counted
store_below-requires-clause-counted g c = has_looked (20 ∷ []) _ _ 0 _ _ (c.int.ensures.fit.ready c.in_ok-len.ensures.fit.ready) (Looks-put _ _ 20 _ c.int.ensures.told) refl c.in_ok-len.ensures.there

pub returns-in_err-store_below-clause-serves : goal.returns-in_err-store_below-clause-serves
unfolding store_registers
returns-in_err-store_below-clause-serves g c =
    let sized = c.in_ok-len.ensures in
    let active = ap (λ (t : Told). t.regs 0) c.int.ensures.told ∙ sized.looks.regs 0 refl in
    let ip = put_value _ _ 20 _ c.int.ensures.told in
    numbers_then _ (register_then _ _ refl (given_then _ _ _ _ (λ told. sym c.in-Some.ensures.value) (given_then _ _ _ _ (λ told. sym c.in-Some-stated_depth.ensures.value)
    (read_first c.requires.fit.ready (quiet [] _ _ refl c.requires.fit.ready sized.fit.ready sized.looks)
    (read_first sized.fit.ready (int_quiet _ _ 20 _ (omega arith) sized.fit.ready (c.int.ensures.fit.ready sized.fit.ready) c.int.ensures.told)
    (serves_exit _ _ (rw (active, ip, small_number _ c.in-Some.ensures.range) at c.in_err-store_below.ensures.serves _) c.from_residual-in_err-store_below.ensures.1))))))

pub store_below-requires-2-clause-counted : goal.store_below-requires-2-clause-counted
store_below-requires-2-clause-counted g c = has_looked (20 ∷ []) _ _ 0 _ _ (c.int-2.ensures.fit.ready c.in_ok-store_below.ensures.fit.ready) (Looks-put _ _ 20 _ c.int-2.ensures.told) refl c.in_ok-store_below.ensures.counted

pub returns-in_err-store_below-2-clause-serves : goal.returns-in_err-store_below-2-clause-serves
unfolding store_registers
returns-in_err-store_below-2-clause-serves g c =
    let sized = c.in_ok-len.ensures in
    let active = ap (λ (t : Told). t.regs 0) c.int.ensures.told ∙ sized.looks.regs 0 refl in
    let ip = put_value _ _ 20 _ c.int.ensures.told in
    let still = ap (λ (t : Told). t.regs 0) c.int-2.ensures.told ∙ ap (λ f. f 0) c.in_ok-store_below.ensures.regs ∙ active in
    let depth = put_value _ _ 20 _ c.int-2.ensures.told in
    let ready = c.in_ok-store_below.ensures.fit.ready in
    numbers_then _ (register_then _ _ refl (given_then _ _ _ _ (λ told. sym c.in-Some.ensures.value) (given_then _ _ _ _ (λ told. sym c.in-Some-stated_depth.ensures.value)
    (read_first c.requires.fit.ready (quiet [] _ _ refl c.requires.fit.ready sized.fit.ready sized.looks)
    (read_first sized.fit.ready (int_quiet _ _ 20 _ (omega arith) sized.fit.ready (c.int.ensures.fit.ready sized.fit.ready) c.int.ensures.told)
    (serves_then _ (rw (active, ip, small_number _ c.in-Some.ensures.range) at c.in_ok-store_below.ensures.serves _)
    (read_first ready (int_quiet _ _ 20 _ (omega arith) ready (c.int-2.ensures.fit.ready ready) c.int-2.ensures.told)
    (exits _ c.from_residual-in_err-store_below-2.ensures.1 (rw (still, depth, small_number _ c.in-Some-stated_depth.ensures.range) at c.in_err-store_below-2.ensures.serves _)))))))))

pub returns-clause-serves : goal.returns-clause-serves
unfolding store_registers
returns-clause-serves g c =
    let sized = c.in_ok-len.ensures in
    let active = ap (λ (t : Told). t.regs 0) c.int.ensures.told ∙ sized.looks.regs 0 refl in
    let ip = put_value _ _ 20 _ c.int.ensures.told in
    let still = ap (λ (t : Told). t.regs 0) c.int-2.ensures.told ∙ ap (λ f. f 0) c.in_ok-store_below.ensures.regs ∙ active in
    let depth = put_value _ _ 20 _ c.int-2.ensures.told in
    let ready = c.in_ok-store_below.ensures.fit.ready in
    numbers_then _ (register_then _ _ refl (given_then _ _ _ _ (λ told. sym c.in-Some.ensures.value) (given_then _ _ _ _ (λ told. sym c.in-Some-stated_depth.ensures.value)
    (read_first c.requires.fit.ready (quiet [] _ _ refl c.requires.fit.ready sized.fit.ready sized.looks)
    (read_first sized.fit.ready (int_quiet _ _ 20 _ (omega arith) sized.fit.ready (c.int.ensures.fit.ready sized.fit.ready) c.int.ensures.told)
    (serves_then _ (rw (active, ip, small_number _ c.in-Some.ensures.range) at c.in_ok-store_below.ensures.serves _)
    (read_first ready (int_quiet _ _ 20 _ (omega arith) ready (c.int-2.ensures.fit.ready ready) c.int-2.ensures.told)
    (rw (still, depth, small_number _ c.in-Some-stated_depth.ensures.range) at c.in_ok-store_below-2.ensures.serves _))))))))
