use Rattle.std.proofs.Common.{take, refl, sym, ap}
use Rattle.loom_host.specs.Outside.{RoleState}
use Rattle.loom_host.specs.declared.outside.Role.TheVariants.{Transcript}
use Rattle.loom_memory.specs.Memory.{loom_told, loom_outside}
use Rattle.loom_memory.proofs.ExactLaws.{exact-work}
use Rattle.loom_memory.proofs.SayLaws.{put-told, put-sound, put-outside, put-part}
use Rattle.loom_memory.specs.Residents.{fetched}
use Rattle.loom_memory.proofs.DeadLaws.{thin-of}
use Rattle.object_memory.specs.Told.{Told}
use Rattle.loom_memory.proofs.memory.LoomMemory.put_run.Goals as goal

pub returns-in-Ok-clause-put : goal.returns-in-Ok-clause-put
unfolding loom_told
returns-in-Ok-clause-put g c = put-told g.H.Host c.args.self.now c.write_to.new.self.host.now c.write_to.new.self.rest c.args.run.now c.write_to.ensures.rest c.write_to.ensures.work c.write_to.ensures.other_faults c.write_to.ensures.cause.later (λ told. ap (λ (s : RoleState). s.put) (c.in-Ok.ensures.put told))

pub returns-in-Ok-clause-leaves : goal.returns-in-Ok-clause-leaves
unfolding loom_outside fetched
returns-in-Ok-clause-leaves g c = record {
  sound = record {
    kept = c.requires.sound.kept;
    over = put-sound g.H.Host c.args.self.now c.write_to.new.self.host.now c.write_to.new.self.rest c.requires.sound c.write_to.ensures.rest c.write_to.ensures.work (λ told. (c.write_to.ensures.keeps c.requires.sound.over.stands told).stands told);
    soon = c.requires.sound.soon;
    exact = exact-work g.H.Host c.args.self.now.pager.levels.parts c.args.self.now.pager.levels.disk.host.now c.write_to.new.self.host.now c.args.self.now.pager.levels.disk.rest c.write_to.new.self.rest c.args.self.now.ledger.next c.requires.sound.exact c.write_to.ensures.rest c.write_to.ensures.work;
    thin = thin-of g.H.Host c.args.self.now _ c.requires.sound.thin (λ on. on) (ap (λ (t : Told). t.heap) (returns-in-Ok-clause-put g c).same) (ap (λ (t : Told). t.regs) (returns-in-Ok-clause-put g c).same) (ap (λ (t : Told). t.slots) (returns-in-Ok-clause-put g c).same);
  };
  fetches = refl;
  lender = c.write_to.ensures.same_host;
  outside = put-outside g.H.Host c.args.self.now.pager.levels.disk.host.now c.write_to.new.self.host.now c.write_to.ensures.others c.write_to.ensures.other_faults;
}

pub returns-in-Err-clause-part : goal.returns-in-Err-clause-part
unfolding loom_told
returns-in-Err-clause-part g c =
    let m = c.args.self.now in
    let part = put-part (g.H.Host.tells Transcript) c.args.run.now (g.H.Host.roles m.pager.levels.disk.host.now Transcript) (g.H.Host.roles c.write_to.new.self.host.now Transcript) c.in-Err.ensures.failed in
    (part.0, put-told g.H.Host m c.write_to.new.self.host.now c.write_to.new.self.rest (take part.0 c.args.run.now) c.write_to.ensures.rest c.write_to.ensures.work c.write_to.ensures.other_faults c.write_to.ensures.cause.later part.1)

pub returns-in-Err-clause-count : goal.returns-in-Err-clause-count
unfolding loom_told
returns-in-Err-clause-count g c = sym c.fault_count.ensures

pub returns-in-Err-clause-rose : goal.returns-in-Err-clause-rose
unfolding loom_told
returns-in-Err-clause-rose g c = c.in-Err.ensures.cause.rose refl

pub returns-in-Err-clause-leaves : goal.returns-in-Err-clause-leaves
unfolding loom_outside fetched
returns-in-Err-clause-leaves g c = record {
  sound = record {
    kept = c.requires.sound.kept;
    over = put-sound g.H.Host c.args.self.now c.write_to.new.self.host.now c.write_to.new.self.rest c.requires.sound c.write_to.ensures.rest c.write_to.ensures.work (λ told. (c.write_to.ensures.keeps c.requires.sound.over.stands told).stands told);
    soon = c.requires.sound.soon;
    exact = exact-work g.H.Host c.args.self.now.pager.levels.parts c.args.self.now.pager.levels.disk.host.now c.write_to.new.self.host.now c.args.self.now.pager.levels.disk.rest c.write_to.new.self.rest c.args.self.now.ledger.next c.requires.sound.exact c.write_to.ensures.rest c.write_to.ensures.work;
    thin = thin-of g.H.Host c.args.self.now _ c.requires.sound.thin (λ on. on) (ap (λ (t : Told). t.heap) (returns-in-Err-clause-part g c).1.same) (ap (λ (t : Told). t.regs) (returns-in-Err-clause-part g c).1.same) (ap (λ (t : Told). t.slots) (returns-in-Err-clause-part g c).1.same);
  };
  fetches = refl;
  lender = c.write_to.ensures.same_host;
  outside = put-outside g.H.Host c.args.self.now.pager.levels.disk.host.now c.write_to.new.self.host.now c.write_to.ensures.others c.write_to.ensures.other_faults;
}

pub returns-in-Ok-clause-speech : goal.returns-in-Ok-clause-speech
returns-in-Ok-clause-speech g c = record { parts = refl; ledger = refl; due = refl; thinned = refl; work = c.write_to.ensures.work; writes = c.write_to.ensures.writes }

pub returns-in-Err-clause-speech : goal.returns-in-Err-clause-speech
returns-in-Err-clause-speech g c = record { parts = refl; ledger = refl; due = refl; thinned = refl; work = c.write_to.ensures.work; writes = c.write_to.ensures.writes }
