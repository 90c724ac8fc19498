use Rattle.std.proofs.Common.{◌≡◌, refl, sym, ap, subst}
use Rattle.std.specs.Result.{OnOk, OnErr}
use Rattle.loom_host.specs.Outside.{RoleState, PutPrefix, HasCause, puts}
use Rattle.loom_memory.specs.Memory.{loom_told, loom_outside, Others, others_of}
use Rattle.loom_memory.proofs.ExactLaws.{exact-work}
use Rattle.loom_memory.proofs.SayLaws.{put-sound}
use Rattle.loom_memory.proofs.LentLaws.{lent-write, lent-others, lent-told, others-lent}
use Rattle.loom_host.specs.declared.outside.Role.TheVariants.{Work}
use Rattle.loom_memory.specs.Residents.{is_resident, words_resident, fetched}
use Rattle.loom_memory.proofs.DeadLaws.{thin-of}
use Rattle.object_memory.specs.Told.{Told}
use Rattle.loom_memory.proofs.memory.LoomMemory.write_to.Goals as goal

pub write_to-requires : goal.write_to-requires
write_to-requires g c = lent-write c.args.role c.requires.role

pub returns-clause-told : goal.returns-clause-told
unfolding loom_told
returns-clause-told g c = lent-told g.H.Host c.args.self.now c.write_to.new.self.host.now c.write_to.new.self.rest c.args.role c.requires.role c.write_to.ensures.rest c.write_to.ensures.others c.write_to.ensures.other_faults

pub returns-clause-sound : goal.returns-clause-sound
returns-clause-sound g c = record {
  kept = c.requires.sound.kept;
  over = put-sound g.H.Host c.args.self.now c.write_to.new.self.host.now c.write_to.new.self.rest c.requires.sound c.write_to.ensures.rest c.write_to.ensures.work (λ told. (c.write_to.ensures.keeps c.requires.sound.over.stands told).stands told);
  soon = c.requires.sound.soon;
  exact = exact-work g.H.Host c.args.self.now.pager.levels.parts c.args.self.now.pager.levels.disk.host.now c.write_to.new.self.host.now c.args.self.now.pager.levels.disk.rest c.write_to.new.self.rest c.args.self.now.ledger.next c.requires.sound.exact c.write_to.ensures.rest c.write_to.ensures.work;
  thin = thin-of g.H.Host c.args.self.now _ c.requires.sound.thin (λ on. on) (ap (λ (t : Told). t.heap) (returns-clause-told g c)) (ap (λ (t : Told). t.regs) (returns-clause-told g c)) (ap (λ (t : Told). t.slots) (returns-clause-told g c));
}

pub returns-clause-put : goal.returns-clause-put
unfolding loom_outside
returns-clause-put g c = λ told.
    let m = c.args.self.now in
    let old = ap (λ (o : Others). o.role) (lent-others (g.H.Host.tells Work) c.args.role (g.H.Host.roles m.pager.levels.disk.host.now c.args.role) (g.H.Host.faults m.pager.levels.disk.host.now c.args.role) c.requires.role) in
    let new = ap (λ (o : Others). o.role) (lent-others (g.H.Host.tells Work) c.args.role (g.H.Host.roles c.write_to.new.self.host.now c.args.role) (g.H.Host.faults c.write_to.new.self.host.now c.args.role) c.requires.role) in
    subst (λ (s : RoleState). OnOk c.write_to.result (s ≡ puts c.args.buf.now (others_of (g.H.Host.tells Work) c.args.role (g.H.Host.roles m.pager.levels.disk.host.now c.args.role) (g.H.Host.faults m.pager.levels.disk.host.now c.args.role)).role)) (sym new)
    (subst (λ (s : RoleState). OnOk c.write_to.result (g.H.Host.roles c.write_to.new.self.host.now c.args.role ≡ puts c.args.buf.now s)) (sym old) (c.write_to.ensures.put told))

pub returns-clause-failed : goal.returns-clause-failed
unfolding loom_outside
returns-clause-failed g c = λ told.
    let m = c.args.self.now in
    let old = ap (λ (o : Others). o.role) (lent-others (g.H.Host.tells Work) c.args.role (g.H.Host.roles m.pager.levels.disk.host.now c.args.role) (g.H.Host.faults m.pager.levels.disk.host.now c.args.role) c.requires.role) in
    let new = ap (λ (o : Others). o.role) (lent-others (g.H.Host.tells Work) c.args.role (g.H.Host.roles c.write_to.new.self.host.now c.args.role) (g.H.Host.faults c.write_to.new.self.host.now c.args.role) c.requires.role) in
    subst (λ (s : RoleState). OnErr c.write_to.result (PutPrefix c.args.buf.now (others_of (g.H.Host.tells Work) c.args.role (g.H.Host.roles m.pager.levels.disk.host.now c.args.role) (g.H.Host.faults m.pager.levels.disk.host.now c.args.role)).role s)) (sym new)
    (subst (λ (s : RoleState). OnErr c.write_to.result (PutPrefix c.args.buf.now s (g.H.Host.roles c.write_to.new.self.host.now c.args.role))) (sym old) (c.write_to.ensures.failed told))

pub returns-clause-cause : goal.returns-clause-cause
unfolding loom_outside
returns-clause-cause g c =
    let m = c.args.self.now in
    let old = ap (λ (o : Others). o.faults) (lent-others (g.H.Host.tells Work) c.args.role (g.H.Host.roles m.pager.levels.disk.host.now c.args.role) (g.H.Host.faults m.pager.levels.disk.host.now c.args.role) c.requires.role) in
    let new = ap (λ (o : Others). o.faults) (lent-others (g.H.Host.tells Work) c.args.role (g.H.Host.roles c.write_to.new.self.host.now c.args.role) (g.H.Host.faults c.write_to.new.self.host.now c.args.role) c.requires.role) in
    subst (λ n. HasCause (others_of (g.H.Host.tells Work) c.args.role (g.H.Host.roles m.pager.levels.disk.host.now c.args.role) (g.H.Host.faults m.pager.levels.disk.host.now c.args.role)).faults n c.write_to.result) (sym new)
    (subst (λ n. HasCause n (g.H.Host.faults c.write_to.new.self.host.now c.args.role) c.write_to.result) (sym old) c.write_to.ensures.cause)

pub returns-clause-others : goal.returns-clause-others
unfolding loom_outside
returns-clause-others g c = others-lent g.H.Host c.args.self.now.pager.levels.disk.host.now c.write_to.new.self.host.now c.args.role c.write_to.ensures.others c.write_to.ensures.other_faults

pub returns-clause-steady : goal.returns-clause-steady
unfolding is_resident words_resident fetched
returns-clause-steady g c = record { residents = λ k. refl; words = refl; fetches = refl; work = c.write_to.ensures.work; writes = c.write_to.ensures.writes }
