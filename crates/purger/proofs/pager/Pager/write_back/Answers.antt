use Rattle.std.proofs.Common.{◌≡◌, ◌∙◌, refl, ap, subst}
use Rattle.object_record.specs.Buffer.{raw_of}
use Rattle.core_segment.specs.Segment.{size_of}
use Rattle.disk_objects.proofs.StayLaws.{stays-trans}
use Rattle.core_view.specs.Core.{with_entry}
use Rattle.core_view.specs.Held.{Disk, object_at}
use Rattle.core_view.specs.Steps.{written}
use Rattle.leaf_lambda.specs.declared.parts.Parts.{Parts}
use Rattle.leaf_lambda.specs.Parts.{core_of}
use Rattle.leaf_lambda.proofs.TranslateLaws.{Within-trans}
use Rattle.purger.specs.Pager.{core_in}
use Rattle.purger.proofs.LeavingLaws.{reads-others, wrote-evicts, wrote-fault, wrote-others}
use Rattle.purger.proofs.SoundLaws.{disk-at, has-objects, written-reached}
use Rattle.purger.proofs.DyingLaws.{reads-stands}
use Rattle.purger.proofs.pager.Pager.write_back.Goals as goal

pub store-requires-clause-stands : goal.store-requires-clause-stands
store-requires-clause-stands g c = let l = c.make_record.new.self.levels in has-objects g.H.Host l.parts l.disk.host.now l.disk.rest (λ told. let x = c.requires.ready.sound told in (x.0, reads-stands c.args.self.now c.make_record.new.self c.make_record.result c.make_record.ensures.reads x.0 x.1, x.2))

pub returns-in_err-store-clause-evicts : goal.returns-in_err-store-clause-evicts
returns-in_err-store-clause-evicts g c =
    let e = c.store.ensures in
    let b = c.make_record.new.self in
    wrote-fault c.args.s.0 c.requires.body.0 c.args.self.now b _ c.make_record.result c.from_residual-in_err-store.result c.in_err-store.field-0.0 c.requires.ready c.requires.body.1 c.make_record.ensures.reads c.from_residual-in_err-store.ensures.1
    (wrote-others c.args.s.0 c.args.self.now b _ c.make_record.result c.make_record.ensures.reads e.disk refl refl)
    (raw_of b.out).name c.in_ok-make_record.ensures.record.1 c.in_err-store.ensures.fault

pub returns-clause-evicts : goal.returns-clause-evicts
returns-clause-evicts g c =
    let h = g.H.Host in
    let s = c.args.s.0 in
    let a = c.args.self.now in
    let b = c.make_record.new.self in
    let at = c.requires.body in
    let e = c.store.ensures in
    let w = c.set_written.ensures in
    let x = reads-others s a b c.make_record.result c.make_record.ensures.reads in
    let core : core_of c.set_written.new.p ≡ with_entry (core_in a) s (written ((core_in a).entries s)) =
    subst (λ (q : Parts). core_of c.set_written.new.p ≡ with_entry (core_of q) s (written ((core_of q).entries s))) c.make_record.ensures.reads.parts w.core in
    wrote-evicts s a _ tt
    (record {
      disk = stays-trans h a.levels.disk b.levels.disk c.store.new.disk x.disk e.disk;
      pinned = x.pinned;
      size = ap size_of w.segment ∙ x.size;
      spare = w.spare ∙ x.spare;
      within = Within-trans s (core_in a) (core_in b) (core_of c.set_written.new.p) x.within w.within;
    })
    (λ told t stands z.
    let there = reads-stands a b c.make_record.result c.make_record.ensures.reads t stands in
    let object = c.in_ok-make_record.ensures.object told t at.0 there z at.1 ∙ ap (λ (d : Disk). object_at (core_in a) d ((core_in a).entries s) at.0) (disk-at h a.levels.parts a.levels.disk.host.now a.levels.disk.rest t stands) in
    written-reached h a.levels.parts c.set_written.new.p a.levels.disk.host.now c.store.new.disk.host.now a.levels.disk.rest c.store.new.disk.rest t s at.0 (raw_of b.out) stands z at.1 object c.in_ok-make_record.ensures.record.1 core
    (c.in_ok-store.ensures.stored told t.stored t.pending there.disk))
