use Rattle.std.proofs.Common.{[], ◌∷◌, refl, arith}
use Rattle.object_memory.proofs.LooksLaws.{regs_looked, has_looked}
use Rattle.blue_model.specs.declared.indexes.TheConstants.{TEMP_FRAME_START}
use Rattle.blue_model.specs.Parts.{size, number}
use Rattle.contexts.proofs.ExitLaws.{part_exit, number_unsized}
use Rattle.contexts.proofs.PartLaws.{sized_both, sized_least}
use Rattle.contexts.proofs.ReadLaws.{quiet}
use Rattle.contexts.proofs.Steps.{read_first}
use Rattle.object_memory.proofs.ShapeLaws.{small_number}
use Rattle.blue_model.specs.Contexts.{load}
use Rattle.contexts.proofs.Frames.{below}
use Rattle.contexts.proofs.ServesLaws.{serves_then, serves_exit, exits}
use Rattle.contexts.proofs.context.load.Goals as goal

pub returns-in_err-pin-clause-serves : goal.returns-in_err-pin-clause-serves
unfolding load
returns-in_err-pin-clause-serves g c =
    serves_then _ (c.unpin_all.ensures.serves _) (serves_exit _ _ (rw c.unpin_all.ensures.regs at c.in_err-pin.ensures.serves _) c.from_residual.ensures.1)

pub returns-in_err-size-clause-serves : goal.returns-in_err-size-clause-serves
unfolding load
returns-in_err-size-clause-serves g c =
    serves_then _ (c.unpin_all.ensures.serves _)
    (serves_then _ (rw c.unpin_all.ensures.regs at c.in_ok-pin.ensures.serves _)
    (serves_exit _ _ (part_exit (size TEMP_FRAME_START) (number TEMP_FRAME_START 1) _ (number_unsized TEMP_FRAME_START 1) (rw (c.in_ok-pin.ensures.regs, c.unpin_all.ensures.regs) at c.in_err-size.ensures.serves _)) c.from_residual-in_err-size.ensures.1))

pub number_within-requires-clause-within : goal.number_within-requires-clause-within
number_within-requires-clause-within g c = sized_both TEMP_FRAME_START 1 c.in_ok-size.ensures.least (let low = c.in_ok-size.ensures.least in omega arith) c.in_ok-size.ensures.there

pub number_within-requires-2-clause-within : goal.number_within-requires-2-clause-within
number_within-requires-2-clause-within g c =
    has_looked (20 ∷ []) _ _ c.args.context _ _ c.in_ok-ip.ensures.fit.ready c.in_ok-ip.ensures.looks (below 20 c.args.context c.requires.context)
    (sized_both TEMP_FRAME_START 2 c.in_ok-size.ensures.least (let low = c.in_ok-size.ensures.least in omega arith) c.in_ok-size.ensures.there)

pub home_within-requires-clause-within : goal.home_within-requires-clause-within
home_within-requires-clause-within g c =
    has_looked (20 ∷ []) _ _ c.args.context _ _ c.in_ok-depth.ensures.fit.ready c.in_ok-depth.ensures.looks (below 20 c.args.context c.requires.context)
    (has_looked (20 ∷ []) _ _ c.args.context _ _ c.in_ok-ip.ensures.fit.ready c.in_ok-ip.ensures.looks (below 20 c.args.context c.requires.context)
    (sized_least TEMP_FRAME_START c.in_ok-size.ensures.least c.in_ok-size.ensures.there))

pub returns-in_err-ip-clause-serves : goal.returns-in_err-ip-clause-serves
unfolding load
returns-in_err-ip-clause-serves g c =
    let sized = c.in_ok-size.ensures in
    let same = regs_looked _ _ sized.looks in
    serves_then _ (c.unpin_all.ensures.serves _)
    (serves_then _ (rw c.unpin_all.ensures.regs at c.in_ok-pin.ensures.serves _)
    (read_first c.in_ok-pin.ensures.fit.ready (quiet [] _ _ refl c.in_ok-pin.ensures.fit.ready sized.fit.ready sized.looks)
    (serves_exit _ _ (rw (same, c.in_ok-pin.ensures.regs, c.unpin_all.ensures.regs) at c.in_err-ip.ensures.serves _) c.from_residual-in_err-ip.ensures.1)))

pub returns-in_err-depth-clause-serves : goal.returns-in_err-depth-clause-serves
unfolding load
returns-in_err-depth-clause-serves g c =
    let sized = c.in_ok-size.ensures in
    let same = regs_looked _ _ sized.looks in
    let first = c.in_ok-ip.ensures.looks.regs c.args.context (below 20 c.args.context c.requires.context) in
    serves_then _ (c.unpin_all.ensures.serves _)
    (serves_then _ (rw c.unpin_all.ensures.regs at c.in_ok-pin.ensures.serves _)
    (read_first c.in_ok-pin.ensures.fit.ready (quiet [] _ _ refl c.in_ok-pin.ensures.fit.ready sized.fit.ready sized.looks)
    (serves_then _ (rw (same, c.in_ok-pin.ensures.regs, c.unpin_all.ensures.regs) at c.in_ok-ip.ensures.serves _)
    (serves_exit _ _ (rw (first, same, c.in_ok-pin.ensures.regs, c.unpin_all.ensures.regs) at c.in_err-depth.ensures.serves _) c.from_residual-in_err-depth.ensures.1))))

pub returns-in_err-home_within-clause-serves : goal.returns-in_err-home_within-clause-serves
unfolding load
returns-in_err-home_within-clause-serves g c =
    let sized = c.in_ok-size.ensures in
    let same = regs_looked _ _ sized.looks in
    let first = c.in_ok-ip.ensures.looks.regs c.args.context (below 20 c.args.context c.requires.context) in
    let second = c.in_ok-depth.ensures.looks.regs c.args.context (below 20 c.args.context c.requires.context) in
    serves_then _ (c.unpin_all.ensures.serves _)
    (serves_then _ (rw c.unpin_all.ensures.regs at c.in_ok-pin.ensures.serves _)
    (read_first c.in_ok-pin.ensures.fit.ready (quiet [] _ _ refl c.in_ok-pin.ensures.fit.ready sized.fit.ready sized.looks)
    (serves_then _ (rw (same, c.in_ok-pin.ensures.regs, c.unpin_all.ensures.regs) at c.in_ok-ip.ensures.serves _)
    (serves_then _ (rw (first, same, c.in_ok-pin.ensures.regs, c.unpin_all.ensures.regs) at c.in_ok-depth.ensures.serves _)
    (serves_exit _ _ (rw (second, first, same, c.in_ok-pin.ensures.regs, c.unpin_all.ensures.regs) at c.in_err-home_within.ensures.serves _) c.from_residual-in_err-home_within.ensures.1)))))

pub returns-in_err-load_home-clause-serves : goal.returns-in_err-load_home-clause-serves
unfolding load
returns-in_err-load_home-clause-serves g c =
    let sized = c.in_ok-size.ensures in
    let same = regs_looked _ _ sized.looks in
    let first = c.in_ok-ip.ensures.looks.regs c.args.context (below 20 c.args.context c.requires.context) in
    let second = c.in_ok-depth.ensures.looks.regs c.args.context (below 20 c.args.context c.requires.context) in
    let third = c.in_ok-home_within.ensures.looks.regs c.args.context (below 21 c.args.context (let low = c.requires.context in omega arith)) in
    serves_then _ (c.unpin_all.ensures.serves _)
    (serves_then _ (rw c.unpin_all.ensures.regs at c.in_ok-pin.ensures.serves _)
    (read_first c.in_ok-pin.ensures.fit.ready (quiet [] _ _ refl c.in_ok-pin.ensures.fit.ready sized.fit.ready sized.looks)
    (serves_then _ (rw (same, c.in_ok-pin.ensures.regs, c.unpin_all.ensures.regs) at c.in_ok-ip.ensures.serves _)
    (serves_then _ (rw (first, same, c.in_ok-pin.ensures.regs, c.unpin_all.ensures.regs) at c.in_ok-depth.ensures.serves _)
    (serves_then _ (rw (second, first, same, c.in_ok-pin.ensures.regs, c.unpin_all.ensures.regs) at c.in_ok-home_within.ensures.serves _)
    (exits _ c.from_residual-in_err-load_home.ensures.1 (rw (small_number _ c.in_ok-ip.ensures.range, small_number _ c.in_ok-depth.ensures.range, third, second, first, same, c.in_ok-pin.ensures.regs, c.unpin_all.ensures.regs) at c.in_err-load_home.ensures.serves)))))))

pub returns-clause-serves : goal.returns-clause-serves
unfolding load
returns-clause-serves g c =
    let sized = c.in_ok-size.ensures in
    let same = regs_looked _ _ sized.looks in
    let first = c.in_ok-ip.ensures.looks.regs c.args.context (below 20 c.args.context c.requires.context) in
    let second = c.in_ok-depth.ensures.looks.regs c.args.context (below 20 c.args.context c.requires.context) in
    let third = c.in_ok-home_within.ensures.looks.regs c.args.context (below 21 c.args.context (let low = c.requires.context in omega arith)) in
    serves_then _ (c.unpin_all.ensures.serves _)
    (serves_then _ (rw c.unpin_all.ensures.regs at c.in_ok-pin.ensures.serves _)
    (read_first c.in_ok-pin.ensures.fit.ready (quiet [] _ _ refl c.in_ok-pin.ensures.fit.ready sized.fit.ready sized.looks)
    (serves_then _ (rw (same, c.in_ok-pin.ensures.regs, c.unpin_all.ensures.regs) at c.in_ok-ip.ensures.serves _)
    (serves_then _ (rw (first, same, c.in_ok-pin.ensures.regs, c.unpin_all.ensures.regs) at c.in_ok-depth.ensures.serves _)
    (serves_then _ (rw (second, first, same, c.in_ok-pin.ensures.regs, c.unpin_all.ensures.regs) at c.in_ok-home_within.ensures.serves _)
    (rw (small_number _ c.in_ok-ip.ensures.range, small_number _ c.in_ok-depth.ensures.range, third, second, first, same, c.in_ok-pin.ensures.regs, c.unpin_all.ensures.regs) at c.in_ok-load_home.ensures.serves))))))
