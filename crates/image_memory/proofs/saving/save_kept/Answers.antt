use Rattle.std.proofs.Common.{ap}
use Rattle.long_names.specs.Heap.{Heap}
use Rattle.long_names.specs.Kept.{kept, no_roots}
use Rattle.image_writer.specs.Saved.{disk_heap, saved_text}
use Rattle.image_writer.proofs.PutsLaws.{untold_puts}
use Rattle.image_memory.proofs.EndLaws.{ended-exact, ended-heap, ended-holds}
use Rattle.image_memory.proofs.saving.save_kept.Goals as goal

pub save-requires : goal.save-requires
save-requires g c = record {
  stands = λ told. let e = c.requires.ended told in ended-holds g.H.Host c.args.disk.now.host.now c.args.disk.now.rest c.args.next e.0 e.1 told;
  exact = λ told. let e = c.requires.ended told in ended-exact g.H.Host c.args.disk.now.host.now c.args.disk.now.rest c.args.next e.0 e.1;
}

pub returns-clause-saved : goal.returns-clause-saved
returns-clause-saved g c = λ h ended.
    let at = disk_heap g.H.Host c.args.disk.now.host.now c.args.disk.now.rest c.args.next in
    untold_puts g.H.Host c.args.disk.now.host.now c.save.new.disk.host.now (saved_text at c.args.state.now) (saved_text (kept h no_roots) c.args.state.now) c.save.result
    (λ told. ap (λ (k : Heap). saved_text k c.args.state.now) (ended-heap g.H.Host c.args.disk.now.host.now c.args.disk.now.rest c.args.next h (ended told))) c.save.ensures.saved
