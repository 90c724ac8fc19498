use Rattle.contexts.proofs.ServesLaws.{exits}
use Rattle.bitblt.proofs.RunReads.{rooms_looked}
use Rattle.bitblt.proofs.CopySteps.{plan_rooms, copy_end, copy_no_columns, copy_no_rows, copy_tone_stopped}
use Rattle.bitblt.proofs.copy.copy_pixels.Goals as goal

pub returns-in_default-clause-serves : goal.returns-in_default-clause-serves
returns-in_default-clause-serves g c = λ cpu. copy_no_columns c.args.q.now c.args.dest c.args.source c.args.halftone c.requires.fit.ready c.requires.dest_room c.requires.source_room c.requires.halftone_room c.in_default.ensures

pub returns-in_default-rows-clause-serves : goal.returns-in_default-rows-clause-serves
returns-in_default-rows-clause-serves g c = λ cpu. copy_no_rows c.args.q.now c.args.dest c.args.source c.args.halftone c.requires.fit.ready c.requires.dest_room c.requires.source_room c.requires.halftone_room c.in_default-rows.ensures

pub returns-in_err-read_halftone-clause-serves : goal.returns-in_err-read_halftone-clause-serves
returns-in_err-read_halftone-clause-serves g c = λ cpu.
    exits _ c.from_residual.ensures.1 (copy_tone_stopped c.args.q.now c.args.dest c.args.source c.args.halftone c.requires.fit.ready c.requires.dest_room c.requires.source_room c.requires.halftone_room (c.in_err-read_halftone.ensures.serves cpu))

pub change_rows-requires-clause-rooms : goal.change_rows-requires-clause-rooms
change_rows-requires-clause-rooms g c =
    let read = c.in_ok-read_halftone.ensures in
    let t = g.M.ObjectMemory.told c.args.m.now in
    rooms_looked c.plan-t.result t _ read.fit.ready read.looks (plan_rooms c.args.q.now c.args.dest c.args.source c.plan-t.result t c.plan-t.ensures.plan c.requires.dest_room c.requires.source_room)

pub returns-clause-serves : goal.returns-clause-serves
returns-clause-serves g c = λ cpu.
    let read = c.in_ok-read_halftone.ensures in
    copy_end c.change_rows.result c.args.q.now c.args.dest c.args.source c.args.halftone c.plan-t.result c.read_halftone.new.out c.requires.fit.ready read.fit.ready read.looks c.requires.dest_room c.requires.source_room c.requires.halftone_room
    c.plan-t.ensures.plan read.words (c.change_rows.ensures.serves cpu)
