use Rattle.std.proofs.Common.{refl}
use Rattle.work_directory.specs.Directory.{room_of, held_of, was_written, slots_of}
use Rattle.loom_host.specs.Work.{work_of}
use Rattle.work_directory.proofs.ChangeLaws.{added}
use Rattle.work_directory.proofs.directory.Directory.add_at.Goals as goal

pub returns-clause-added : goal.returns-clause-added
unfolding room_of held_of was_written
returns-clause-added g c = λ told.
    let h = g.H.Host in
    let d = c.args.self.now in
    let of = c.requires.vacant.0 in
    added d _ (work_of h c.args.host.now) (work_of h c.args.host.now) (work_of h c.put.new.host) c.args.at c.args.slot
    refl (c.requires.stands told) refl of.1 of.0
    (c.in_ok-put.ensures.writes told (slots_of d) of.0) refl c.set.ensures (c.requires.vacant.1 told)

pub returns-clause-written : goal.returns-clause-written
unfolding was_written
returns-clause-written g c = λ block. c.set.ensures block
