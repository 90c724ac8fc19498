use Rattle.std.proofs.Common.{inr, ℕ, ◌+◌, ◌≤◌, ◌/◌, ◌∙◌, refl, sym, subst, arith}
use Rattle.purger.specs.Pager.{core_in}
use Rattle.purger.specs.declared.room.Pinned.{Pinned}
use Rattle.loom_memory.specs.Memory.{loom_told, loom_outside, told_of}
use Rattle.loom_memory.proofs.CalmLaws.{work-outside}
use Rattle.loom_memory.proofs.RegLaws.{kept-rooted}
use Rattle.loom_memory.proofs.ThinLaws.{thin-calm, fault-purge, thin-again, thin-nothing, thin-bodies, thin-count, thin-exact, thin-is-kept, thin-kept, thin-over, thin-freed, fewer-held, thin-told}
use Rattle.loom_memory.specs.Residents.{fetched}
use Rattle.loom_memory.specs.Makings.{HasKept}
use Rattle.loom_memory.proofs.MindLaws.{minds-left}
use Rattle.loom_memory.specs.Thinned.{is_thinned}
use Rattle.loom_memory.proofs.DeadLaws.{thin-is}
use Rattle.loom_memory.proofs.EffectLaws.{faulted-by, lost-all}
use Rattle.loom_memory.proofs.OverLaws.{over_pager}
use Rattle.loom_memory.proofs.memory.LoomMemory.thin.Goals as goal

pub returns-in-Ok-clause-swept : goal.returns-in-Ok-clause-swept
unfolding loom_told is_thinned
returns-in-Ok-clause-swept g c = record {
  is_kept =
      let m = c.args.self.now in
      subst (λ (q : Pinned). HasKept (loom_told g.H.Host m) (told_of g.H.Host c.drain.new.self.levels.disk.host.now c.drain.new.self.levels.disk.rest (core_in c.drain.new.self) m.regs q (record m.ledger { held = c.recount-held.result }))) (sym c.drain.ensures.frees.leaves.pinned) (thin-is-kept g.H.Host m.pager.levels.parts c.drain.new.self.levels.parts m.pager.levels.disk.host.now c.drain.new.self.levels.disk.host.now m.pager.levels.disk.rest c.drain.new.self.levels.disk.rest m.regs m.pager.pinned m.ledger c.recount-held.result (thin-freed g.H.Host m c.drain.new.self c.requires.fit.sound c.drain.ensures.frees.leaves c.in-Ok.ensures.drained));
  count =
      let m = c.args.self.now in λ told.
      thin-count g.H.Host m.pager.levels.parts c.drain.new.self.levels.parts m.pager.levels.disk.host.now c.drain.new.self.levels.disk.host.now m.pager.levels.disk.rest c.drain.new.self.levels.disk.rest m.regs m.pager.pinned m.ledger c.recount-held.result (thin-freed g.H.Host m c.drain.new.self c.requires.fit.sound c.drain.ensures.frees.leaves c.in-Ok.ensures.drained) told
      (sym (c.recount-held.ensures.same (let less = fewer-held g.H.Host m c.drain.new.self c.requires.fit.sound c.in-Ok.ensures.frees.keeps told in let was = c.requires.fit.sound.over.counted told in omega (arith, less, was))));
  again =
      let m = c.args.self.now in λ told.
      rw c.drain.ensures.frees.leaves.pinned (thin-again g.H.Host m.pager.levels.parts c.drain.new.self.levels.parts m.pager.levels.disk.host.now c.drain.new.self.levels.disk.host.now m.pager.levels.disk.rest c.drain.new.self.levels.disk.rest m.regs m.pager.pinned m.ledger c.recount-held.result (thin-freed g.H.Host m c.drain.new.self c.requires.fit.sound c.drain.ensures.frees.leaves c.in-Ok.ensures.drained) told);
  set = refl;
}

pub returns-in-Ok-clause-leaves : goal.returns-in-Ok-clause-leaves
unfolding loom_told loom_outside fetched
returns-in-Ok-clause-leaves g c = record {
  sound =
      let m = c.args.self.now in
      let x = thin-exact g.H.Host m.pager.levels.parts c.drain.new.self.levels.parts m.pager.levels.disk.host.now c.drain.new.self.levels.disk.host.now m.pager.levels.disk.rest c.drain.new.self.levels.disk.rest m.ledger.next c.requires.fit.sound.exact c.in-Ok.ensures.drained in
      let pins = c.drain.ensures.frees.leaves.pinned in
      let kept = thin-kept g.H.Host m.pager.levels.parts c.drain.new.self.levels.parts m.pager.levels.disk.host.now c.drain.new.self.levels.disk.host.now m.pager.levels.disk.rest c.drain.new.self.levels.disk.rest m.regs m.pager.pinned m.ledger c.recount-held.result (thin-freed g.H.Host m c.drain.new.self c.requires.fit.sound c.drain.ensures.frees.leaves c.in-Ok.ensures.drained) in
      record {
        kept = rw pins kept;
        over = thin-over g.H.Host m.pager.levels.parts c.drain.new.self.levels.parts m.pager.levels.disk.host.now c.drain.new.self.levels.disk.host.now m.pager.levels.disk.rest c.drain.new.self.levels.disk.rest m.ledger c.recount-held.result c.requires.fit.sound.over x c.drain.ensures.frees.leaves.disk.limit c.recount-held.ensures.most
            (λ told. sym (c.recount-held.ensures.same (let less = fewer-held g.H.Host m c.drain.new.self c.requires.fit.sound c.in-Ok.ensures.frees.keeps told in let was = c.requires.fit.sound.over.counted told in omega (arith, less, was))));
        soon = subst (λ (n : ℕ). c.due_after-self.result ≤ m.ledger.next + n / 8) kept.entries c.due_after-self.ensures.soon;
        exact = x;
        thin = thin-is g.H.Host _ (λ on. rw pins (thin-nothing g.H.Host m.pager.levels.parts c.drain.new.self.levels.parts m.pager.levels.disk.host.now c.drain.new.self.levels.disk.host.now m.pager.levels.disk.rest c.drain.new.self.levels.disk.rest m.regs m.pager.pinned m.ledger c.recount-held.result (thin-freed g.H.Host m c.drain.new.self c.requires.fit.sound c.drain.ensures.frees.leaves c.in-Ok.ensures.drained)));
      };
  fetches = refl;
  lender = c.drain.ensures.frees.leaves.disk.lender;
  outside = work-outside g.H.Host c.args.self.now.pager.levels.disk.host.now c.drain.new.self.levels.disk.host.now c.drain.ensures.frees.leaves.disk.work;
}

pub returns-in-Ok-clause-frees : goal.returns-in-Ok-clause-frees
unfolding loom_told
returns-in-Ok-clause-frees g c = record {
  thins = record {
    thinned =
        let m = c.args.self.now in
        rw c.drain.ensures.frees.leaves.pinned (thin-told g.H.Host m.pager.levels.parts c.drain.new.self.levels.parts m.pager.levels.disk.host.now c.drain.new.self.levels.disk.host.now m.pager.levels.disk.rest c.drain.new.self.levels.disk.rest m.regs m.pager.pinned m.ledger c.recount-held.result (thin-freed g.H.Host m c.drain.new.self c.requires.fit.sound c.drain.ensures.frees.leaves c.in-Ok.ensures.drained));
    minds = minds-left g.H.Host c.args.self.now _ c.requires.fit.sound (returns-in-Ok-clause-leaves g c).sound refl refl refl c.in-Ok.ensures.frees.keeps.minds;
    regs = refl;
    pins = c.drain.ensures.frees.leaves.pinned;
    next = refl;
    due = inr (returns-in-Ok-clause-swept g c).again;
    flag = λ on. refl;
  };
  calm = let m = c.args.self.now in thin-calm m.pager.levels.parts c.drain.new.self.levels.parts m.regs m.pager.pinned (kept-rooted m.pager.levels.parts m.regs m.pager.pinned m.ledger m.pager.levels.whole c.requires.fit.sound.kept) c.drain.ensures.frees.leaves.rest;
  ledger = refl;
  less = c.recount-held.ensures.most;
  limit = c.drain.ensures.frees.leaves.disk.limit;
  bodies =
      let m = c.args.self.now in λ told.
      thin-bodies g.H.Host m.pager.levels.parts c.drain.new.self.levels.parts m.pager.levels.disk.host.now c.drain.new.self.levels.disk.host.now m.pager.levels.disk.rest c.drain.new.self.levels.disk.rest m.regs m.pager.pinned m.ledger c.recount-held.result (thin-freed g.H.Host m c.drain.new.self c.requires.fit.sound c.drain.ensures.frees.leaves c.in-Ok.ensures.drained) told;
  entries = c.drain.ensures.frees.leaves.rest.entries;
  words = c.drain.ensures.frees.leaves.rest.words;
}

pub returns-in-Err-clause-faulted : goal.returns-in-Err-clause-faulted
returns-in-Err-clause-faulted g c =
    let m = c.args.self.now in
    let disk = c.drain.ensures.frees.leaves.disk in
    faulted-by g.H.Host m (over_pager m c.drain.new.self) (loom_told g.H.Host c.refuse.new.self) c.in-Err.f c.refusal_of-f.result c.refuse.result refl disk.work disk.limit
    (fault-purge g.H.Host m.pager.levels.disk.host.now c.drain.new.self.levels.disk.host.now c.in-Err.f c.in-Err.ensures.frees.fault)
    c.refusal_of-f.ensures c.refuse.ensures.told c.refuse.ensures.result c.refuse.ensures.later

pub returns-in-Err-clause-leaves : goal.returns-in-Err-clause-leaves
unfolding loom_outside fetched
returns-in-Err-clause-leaves g c = record {
  sound = lost-all c.refuse.result _ (returns-in-Err-clause-faulted g c).lost;
  fetches = c.refuse.ensures.brings;
  lender = c.refuse.ensures.lender ∙ c.drain.ensures.frees.leaves.disk.lender;
  outside = c.refuse.ensures.outside ∙ work-outside g.H.Host c.args.self.now.pager.levels.disk.host.now c.drain.new.self.levels.disk.host.now c.drain.ensures.frees.leaves.disk.work;
}
