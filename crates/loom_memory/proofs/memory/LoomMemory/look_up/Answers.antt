use Rattle.std.proofs.Common.{refl, ◌∙◌, ap, arith, IsTrue}
use Rattle.object_record.specs.Buffer.{raw_of}
use Rattle.object_record.specs.Objects.{object_in}
use Rattle.core_view.specs.Held.{Disk, held}
use Rattle.loom_host.specs.declared.outside.Role.TheVariants.{Work}
use Rattle.loom_memory.proofs.BelowLaws.{own-below}
use Rattle.leaf_lambda.specs.Parts.{core_of}
use Rattle.leaf_lambda.proofs.RecordLaws.{unresolved-words}
use Rattle.disk_objects.specs.Function.{disk_of}
use Rattle.loom_memory.specs.Memory.{loom_told, loom_outside}
use Rattle.purger.proofs.EvictLaws.{not-fetched, was-fetched}
use Rattle.loom_memory.proofs.ExactLaws.{exact-read}
use Rattle.loom_memory.proofs.CalmLaws.{read-over, work-outside}
use Rattle.loom_memory.proofs.FieldLaws.{read-only}
use Rattle.loom_memory.proofs.LambdaLaws.{still-calm, calm-read, fault-after}
use Rattle.loom_memory.proofs.GentleLaws.{remains-refl}
use Rattle.loom_memory.proofs.DamageLaws.{nowhere-damage, refusal-damage}
use Rattle.loom_memory.specs.Residents.{fetched}
use Rattle.loom_memory.proofs.DeadLaws.{thin-quiet}
use Rattle.loom_memory.proofs.memory.LoomMemory.look_up.Goals as goal
use Rattle.loom_memory.proofs.EffectLaws.{damaged-all, lost-by}
use Rattle.loom_memory.proofs.memory.LoomMemory.look_up.Given as given

pub returns-else-not-holds_below-clause-reads : goal.returns-else-not-holds_below-clause-reads
unfolding loom_told
returns-else-not-holds_below-clause-reads g c = record {
  quiet = let m = c.args.self.now in calm-read g.H.Host m m.pager.levels.parts c.fetch.new.disk.host.now c.fetch.new.disk.rest c.requires.fit.sound c.args.self.now.pager.levels.whole.parts (still-calm m.pager.pinned (core_of m.pager.levels.parts)) c.in-Ok.ensures.read c.in-Ok.ensures.rest c.in-Ok.ensures.same (λ told. refl);
  gentle = record { remains = remains-refl (core_of c.args.self.now.pager.levels.parts); read = c.in-Ok.ensures.read; cache = refl };
  parts = refl;
  regs = refl;
  pins = refl;
  ledger = refl;
  due = refl;
  flag = refl;
}

pub returns-else-not-holds_below-clause-sized : goal.returns-else-not-holds_below-clause-sized
unfolding core_of
returns-else-not-holds_below-clause-sized g c =
    let m = c.args.self.now in
    let disk : Disk = disk_of g.H.Host m.pager.levels.disk.host.now m.pager.levels.disk.rest in
    record {
      object = object_in (raw_of c.fetch.new.buf);
      sized = let all = unresolved-words (raw_of c.fetch.new.buf).body in let is = c.words_of.ensures.words in omega arith;
      there = λ told. ap (λ (d : Disk). d c.args.name) c.in-Ok.ensures.same ∙ was-fetched c.fetch.new.buf (disk_of g.H.Host m.pager.levels.disk.host.now m.pager.levels.disk.rest c.args.name) c.in-Ok.held c.if-not-held.false (c.in-Ok.ensures.found told);
    }

pub returns-else-not-holds_below-clause-record : goal.returns-else-not-holds_below-clause-record
returns-else-not-holds_below-clause-record g c =
    let m = c.args.self.now in
    let there = c.in-Ok.ensures.record c.if-not-held.false in
    record {
      record_there = there.0;
      named = there.1;
      sized = let all = unresolved-words (raw_of c.fetch.new.buf).body in let is = c.words_of.ensures.words in omega arith;
      there = λ told. ap (λ (d : Disk). d c.args.name) c.in-Ok.ensures.same ∙ was-fetched c.fetch.new.buf (disk_of g.H.Host m.pager.levels.disk.host.now m.pager.levels.disk.rest c.args.name) c.in-Ok.held c.if-not-held.false (c.in-Ok.ensures.found told);
    }

pub returns-else-not-holds_below-clause-leaves : goal.returns-else-not-holds_below-clause-leaves
unfolding loom_outside fetched
returns-else-not-holds_below-clause-leaves g c = record {
  sound =
      let m = c.args.self.now in
      record {
        kept = c.requires.fit.sound.kept;
        over = read-over g.H.Host m.pager.levels.disk.host.now c.fetch.new.disk.host.now m.pager.levels.disk.rest c.fetch.new.disk.rest (core_of m.pager.levels.parts) m.ledger c.requires.fit.sound.over c.in-Ok.ensures.stands c.in-Ok.ensures.rest c.in-Ok.ensures.same;
        soon = c.requires.fit.sound.soon;
        exact = exact-read g.H.Host m.pager.levels.parts m.pager.levels.disk.host.now c.fetch.new.disk.host.now m.pager.levels.disk.rest c.fetch.new.disk.rest m.ledger.next c.requires.fit.sound.exact c.in-Ok.ensures.rest c.in-Ok.ensures.read;
        thin = thin-quiet g.H.Host c.args.self.now _ c.requires.fit.sound.thin (λ on. on) (returns-else-not-holds_below-clause-reads g c).quiet;
      };
  fetches = refl;
  lender = c.fetch.ensures.same_host;
  outside = work-outside g.H.Host c.args.self.now.pager.levels.disk.host.now c.fetch.new.disk.host.now (read-only g.H.Host c.args.self.now.pager.levels.disk.host.now c.fetch.new.disk.host.now c.in-Ok.ensures.read);
}

none-there : (g : given.Over) (c : goal.After-wrong g) → IsTrue (loom_told g.H.Host c.args.self.now).tells → ⊥
unfolding loom_told
none-there g c = λ told. c.requires.there told (not-fetched c.fetch.new.buf (disk_of g.H.Host c.args.self.now.pager.levels.disk.host.now c.args.self.now.pager.levels.disk.rest c.args.name) c.in-Ok.held c.if-not-held.true (c.in-Ok.ensures.found told))

pub returns-then-not-held-clause-err : goal.returns-then-not-held-clause-err
unfolding loom_told
returns-then-not-held-clause-err g c = λ a silent none.
    let m = c.args.self.now in
    c.wrong.ensures.err (loom_told g.H.Host m) a
    (calm-read g.H.Host m m.pager.levels.parts c.fetch.new.disk.host.now c.fetch.new.disk.rest c.requires.fit.sound c.args.self.now.pager.levels.whole.parts (still-calm m.pager.pinned (core_of m.pager.levels.parts)) c.in-Ok.ensures.read c.in-Ok.ensures.rest c.in-Ok.ensures.same (λ told. refl))
    c.requires.fit.ready silent none (none-there g c)

pub returns-then-not-held-clause-leaves : goal.returns-then-not-held-clause-leaves
unfolding loom_outside fetched
returns-then-not-held-clause-leaves g c = record {
  sound = damaged-all c.wrong.result _ _ _ c.wrong.ensures.is;
  fetches = c.wrong.ensures.brings;
  lender = c.wrong.ensures.lender ∙ c.fetch.ensures.same_host;
  outside = c.wrong.ensures.outside ∙ work-outside g.H.Host c.args.self.now.pager.levels.disk.host.now c.fetch.new.disk.host.now (read-only g.H.Host c.args.self.now.pager.levels.disk.host.now c.fetch.new.disk.host.now c.in-Ok.ensures.read);
}

-- where the heap is told, each name in the record has its object
none-above : (g : given.Over) (c : goal.After-wrong-then-not-holds_below g) → IsTrue (loom_told g.H.Host c.args.self.now).tells → ⊥
unfolding loom_told
none-above g c = λ told.
    let m = c.args.self.now in
    let disk : Disk = disk_of g.H.Host m.pager.levels.disk.host.now m.pager.levels.disk.rest in
    let there = was-fetched c.fetch.new.buf (disk c.args.name) c.in-Ok.held c.if-not-held.false (c.in-Ok.ensures.found told) in
    let below = own-below (g.H.Host.tells Work) (held (core_of m.pager.levels.parts) disk) m.ledger.next (loom_told g.H.Host m).regs (loom_told g.H.Host m).slots c.args.name (object_in (raw_of c.fetch.new.buf)) told (c.requires.fit.ready.whole told) (c.requires.own told ∙ there) in
    let yes = c.holds_below.ensures.1 below in
    let no = c.if-not-holds_below.true in
    absurd (cc)

pub returns-then-not-holds_below-clause-err : goal.returns-then-not-holds_below-clause-err
unfolding loom_told
returns-then-not-holds_below-clause-err g c = λ a silent none.
    let m = c.args.self.now in
    c.wrong-then-not-holds_below.ensures.err (loom_told g.H.Host m) a
    (calm-read g.H.Host m m.pager.levels.parts c.fetch.new.disk.host.now c.fetch.new.disk.rest c.requires.fit.sound c.args.self.now.pager.levels.whole.parts (still-calm m.pager.pinned (core_of m.pager.levels.parts)) c.in-Ok.ensures.read c.in-Ok.ensures.rest c.in-Ok.ensures.same (λ told. refl))
    c.requires.fit.ready silent none (none-above g c)

pub returns-then-not-holds_below-clause-leaves : goal.returns-then-not-holds_below-clause-leaves
unfolding loom_outside fetched
returns-then-not-holds_below-clause-leaves g c = record {
  sound = damaged-all c.wrong-then-not-holds_below.result _ _ _ c.wrong-then-not-holds_below.ensures.is;
  fetches = c.wrong-then-not-holds_below.ensures.brings;
  lender = c.wrong-then-not-holds_below.ensures.lender ∙ c.fetch.ensures.same_host;
  outside = c.wrong-then-not-holds_below.ensures.outside ∙ work-outside g.H.Host c.args.self.now.pager.levels.disk.host.now c.fetch.new.disk.host.now (read-only g.H.Host c.args.self.now.pager.levels.disk.host.now c.fetch.new.disk.host.now c.in-Ok.ensures.read);
}

pub returns-else-not-holds_below-clause-tested : goal.returns-else-not-holds_below-clause-tested
returns-else-not-holds_below-clause-tested g c =
    let there = c.in-Ok.ensures.record c.if-not-held.false in
    record { record_there = there.0; named = there.1; below = c.holds_below.ensures.0 c.if-not-holds_below.false }

pub returns-in-Err-clause-err : goal.returns-in-Err-clause-err
unfolding loom_told
returns-in-Err-clause-err g c = λ a silent none.
    let m = c.args.self.now in
    fault-after g.H.Host m (loom_told g.H.Host c.refuse.new.self) (core_of m.pager.levels.parts) c.fetch.new.disk.host.now c.fetch.new.disk.rest a c.in-Err.f c.refusal_of-f.result c.refuse.result
    (calm-read g.H.Host m m.pager.levels.parts c.fetch.new.disk.host.now c.fetch.new.disk.rest c.requires.fit.sound c.args.self.now.pager.levels.whole.parts (still-calm m.pager.pinned (core_of m.pager.levels.parts)) c.in-Err.ensures.read c.in-Err.ensures.rest c.in-Err.ensures.same (λ told. refl))
    c.refuse.ensures.told c.refuse.ensures.result c.requires.fit.ready silent none c.refuse.ensures.later c.in-Err.ensures.fault c.refusal_of-f.ensures

pub returns-in-Err-clause-leaves : goal.returns-in-Err-clause-leaves
unfolding loom_outside fetched
returns-in-Err-clause-leaves g c = record {
  sound = lost-by c.in-Err.f c.refusal_of-f.result c.refuse.result _ c.refusal_of-f.ensures c.refuse.ensures.result;
  fetches = c.refuse.ensures.brings;
  lender = c.refuse.ensures.lender ∙ c.fetch.ensures.same_host;
  outside = c.refuse.ensures.outside ∙ work-outside g.H.Host c.args.self.now.pager.levels.disk.host.now c.fetch.new.disk.host.now (read-only g.H.Host c.args.self.now.pager.levels.disk.host.now c.fetch.new.disk.host.now c.in-Err.ensures.read);
}

pub returns-then-not-held-clause-damage : goal.returns-then-not-held-clause-damage
returns-then-not-held-clause-damage g c = nowhere-damage c.wrong.new.self.pager.levels.disk.rest c.args.name c.wrong.result c.wrong.ensures.is

pub returns-then-not-holds_below-clause-damage : goal.returns-then-not-holds_below-clause-damage
returns-then-not-holds_below-clause-damage g c = nowhere-damage c.wrong-then-not-holds_below.new.self.pager.levels.disk.rest c.args.name c.wrong-then-not-holds_below.result c.wrong-then-not-holds_below.ensures.is

pub returns-in-Err-clause-damage : goal.returns-in-Err-clause-damage
returns-in-Err-clause-damage g c =
    let m = c.args.self.now in
    refusal-damage (g.H.Host.tells Work) (g.H.Host.faults m.pager.levels.disk.host.now Work) (g.H.Host.faults c.fetch.new.disk.host.now Work) m.pager.levels.disk.rest c.refuse.new.self.pager.levels.disk.rest c.args.name c.in-Err.f c.refusal_of-f.result c.refuse.result c.in-Err.ensures.fault c.in-Err.ensures.damage (c.refuse.ensures.rest ∙ c.in-Err.ensures.rest) c.refusal_of-f.ensures c.refuse.ensures.result
