use Rattle.std.proofs.Common.{ap, refl, arith, ◌∙◌}
use Rattle.loom_host.proofs.WorkLaws.{exits}
use Rattle.loom_host.specs.declared.outside.Role.TheVariants.{Work}
use Rattle.object_record.specs.Buffer.{raw_of}
use Rattle.object_record.specs.Objects.{object_in}
use Rattle.disk_objects.specs.Disk.{disk_room}
use Rattle.core_view.specs.Counted.{words_of}
use Rattle.core_view.specs.LevelSteps.{removed}
use Rattle.delta_counts.specs.Faults.{IsFreeFault}
use Rattle.delta_counts.proofs.LowerLaws.{ok-map, ok-of}
use Rattle.delta_counts.proofs.FaultLaws.{err-map, fault-free, words-free}
use Rattle.delta_counts.proofs.FreeLaws.{at-read, may-object, got-is, may-idle, removed-at, removed-owes, freed-at}
use Rattle.delta_counts.proofs.WordLaws.{free-values}
use Rattle.delta_counts.proofs.freeing.free.Goals as goal

pub get_held-requires : goal.get_held-requires
get_held-requires g c = record {
  stands = λ told.
      let x = c.requires.may told in
      (x.2.disk.objects, x.1.pending, x.2.disk.disk, (may-idle g.H.Host x.0 c.args.p.now c.args.disk.now.host.now c.args.disk.now.rest c.args.name x.1 x.2 x.3).0);
}

pub returns-in_err-place-clause-fault : goal.returns-in_err-place-clause-fault
returns-in_err-place-clause-fault g c =
    let h = g.H.Host in
    exits c.from_residual.result c.in_err-place.field-0.0
    (IsFreeFault (h.tells Work) (h.faults c.args.disk.now.host.now Work) (h.faults c.get_held.new.self.host.now Work) c.args.disk.now.rest)
    c.from_residual.ensures.1
    (fault-free _ _ _ _ c.args.disk.now.rest c.args.disk.now.rest c.args.name c.in_err-place.field-0.0 (omega arith) refl c.in_err-place.ensures.fault)

pub remove-requires : goal.remove-requires
remove-requires g c = record {
  stands = λ told.
      let x = c.requires.may told in
      let at = at-read g.H.Host x.0 c.args.p.now c.args.disk.now.host.now c.get_held.new.self.host.now c.args.disk.now.rest c.get_held.new.self.rest x.1 c.get_held.ensures.read c.get_held.ensures.rest x.2 in
      (at.disk.objects, x.1.pending, at.disk.disk, may-idle g.H.Host x.0 c.args.p.now c.get_held.new.self.host.now c.get_held.new.self.rest c.args.name x.1 at x.3);
}

pub returns-in_err-remove-clause-fault : goal.returns-in_err-remove-clause-fault
returns-in_err-remove-clause-fault g c =
    let h = g.H.Host in
    exits c.from_residual-in_err-remove.result c.in_err-remove.field-0.0
    (IsFreeFault (h.tells Work) (h.faults c.args.disk.now.host.now Work) (h.faults c.remove.new.self.host.now Work) c.args.disk.now.rest)
    c.from_residual-in_err-remove.ensures.1
    (fault-free _ _ _ _ c.args.disk.now.rest c.get_held.new.self.rest c.args.name c.in_err-remove.field-0.0 c.get_held.ensures.read.later (ap disk_room c.get_held.ensures.rest) c.in_err-remove.ensures.fault)

pub lower_words-requires-clause-values : goal.lower_words-requires-clause-values
lower_words-requires-clause-values g c = λ told.
    let x = c.requires.may told in
    let o = may-object g.H.Host x.0 c.args.p.now c.args.disk.now.host.now c.args.disk.now.rest c.args.name x.1 x.2 x.3 in
    free-values c.args.name x.1 (raw_of c.get_held.new.buf) x.3 (got-is c.get_held.new.buf _ o.0 x.3.stored o.1 o.2 (c.in_ok-place.ensures.got told x.2.disk.objects x.1.pending x.2.disk.disk))

pub lower_words-requires-clause-sound : goal.lower_words-requires-clause-sound
lower_words-requires-clause-sound g c = λ told.
    let x = c.requires.may told in
    let at = at-read g.H.Host x.0 c.args.p.now c.args.disk.now.host.now c.get_held.new.self.host.now c.args.disk.now.rest c.get_held.new.self.rest x.1 c.get_held.ensures.read c.get_held.ensures.rest x.2 in
    let o = may-object g.H.Host x.0 c.args.p.now c.args.disk.now.host.now c.args.disk.now.rest c.args.name x.1 x.2 x.3 in
    let is = got-is c.get_held.new.buf _ o.0 x.3.stored o.1 o.2 (c.in_ok-place.ensures.got told x.2.disk.objects x.1.pending x.2.disk.disk) in
    let idle = may-idle g.H.Host x.0 c.args.p.now c.get_held.new.self.host.now c.get_held.new.self.rest c.args.name x.1 at x.3 in
    let now = removed-at g.H.Host x.0 c.args.p.now c.get_held.new.self.host.now c.remove.new.self.host.now c.get_held.new.self.rest c.remove.new.self.rest c.args.name x.1 at x.3 (c.in_ok-remove.ensures.removed told at.disk.objects x.1.pending at.disk.disk idle) in
    (x.0, _, now, removed-owes c.args.name x.1 (object_in (raw_of c.get_held.new.buf)) x.3 is)

pub returns-clause-freed : goal.returns-clause-freed
returns-clause-freed g c = λ told chunks l was may.
    let at = at-read g.H.Host chunks c.args.p.now c.args.disk.now.host.now c.get_held.new.self.host.now c.args.disk.now.rest c.get_held.new.self.rest l c.get_held.ensures.read c.get_held.ensures.rest was in
    let o = may-object g.H.Host chunks c.args.p.now c.args.disk.now.host.now c.args.disk.now.rest c.args.name l was may in
    let is = got-is c.get_held.new.buf _ o.0 may.stored o.1 o.2 (c.in_ok-place.ensures.got told was.disk.objects l.pending was.disk.disk) in
    let idle = may-idle g.H.Host chunks c.args.p.now c.get_held.new.self.host.now c.get_held.new.self.rest c.args.name l at may in
    let now = removed-at g.H.Host chunks c.args.p.now c.get_held.new.self.host.now c.remove.new.self.host.now c.get_held.new.self.rest c.remove.new.self.rest c.args.name l at may (c.in_ok-remove.ensures.removed told at.disk.objects l.pending at.disk.disk idle) in
    ok-map c.lower_words.result (λ x. freed-at g.H.Host chunks c.lower_words.new.p c.lower_words.new.disk.host.now c.lower_words.new.disk.rest c.args.name l may x)
    (c.lower_words.ensures.lowered told chunks (removed may.levels c.args.name l.pending) now (removed-owes c.args.name l (object_in (raw_of c.get_held.new.buf)) may is))

pub returns-clause-fault : goal.returns-clause-fault
returns-clause-fault g c = err-map c.lower_words.result
    (λ f x. words-free _ _ _ _ c.args.disk.now.rest c.remove.new.self.rest (words_of (object_in (raw_of c.get_held.new.buf))) c.in_ok-place.place (raw_of c.get_held.new.buf).name f
    (let a = c.get_held.ensures.read.later in let b = c.remove.ensures.work.later in omega arith)
    (c.remove.ensures.room ∙ ap disk_room c.get_held.ensures.rest) c.in_ok-place.ensures.place x) c.lower_words.ensures.fault

pub returns-clause-record : goal.returns-clause-record
returns-clause-record g c = ok-of c.lower_words.result c.in_ok-place.ensures.record.0
