use Rattle.std.proofs.Common.{◌∙◌, sym, ap, subst}
use Rattle.disk_objects.specs.Function.{disk_of}
use Rattle.core_view.specs.Held.{Disk, object_at}
use Rattle.leaf_lambda.specs.declared.parts.Parts.{Parts}
use Rattle.leaf_lambda.specs.Parts.{core_of}
use Rattle.purger.specs.Counts.{StandsFor}
use Rattle.purger.proofs.SoundLaws.{disk-at, has-backed, has-objects, sound-backed}
use Rattle.purger.proofs.pager.Pager.make_record.Goals as goal

pub read_copy-requires-clause-stands : goal.read_copy-requires-clause-stands
read_copy-requires-clause-stands g c = let l = c.args.self.now.levels in has-objects g.H.Host l.parts l.disk.host.now l.disk.rest c.requires.sound

pub read_copy-requires-clause-backed : goal.read_copy-requires-clause-backed
read_copy-requires-clause-backed g c = λ told. let l = c.args.self.now.levels in has-backed g.H.Host l.parts l.disk.host.now l.disk.rest c.requires.sound told

pub returns-clause-object : goal.returns-clause-object
returns-clause-object g c = λ told t a at x place.
    let p = c.args.self.now.levels.parts in
    let h = g.H.Host in
    let d = c.read_copy.new.disk in
    let there = subst (λ (q : Parts). StandsFor h q d.host.now d.rest t) c.merge_out.ensures.same at in
    c.merge_out.ensures.object (disk_of h d.host.now d.rest) a (sound-backed h p d.host.now d.rest t there x) place
    (λ f. ap (λ (k : Disk). k ((core_of p).entries c.args.s.0).name) c.read_copy.ensures.same ∙ c.in_ok-read_copy.ensures.there told f)
    ∙ ap (λ (k : Disk). object_at (core_of p) k ((core_of p).entries c.args.s.0) a) (sym (disk-at h p d.host.now d.rest t there))
