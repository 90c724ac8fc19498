use Rattle.std.proofs.Common.{◌≡◌, ℕ, ◌+◌, ◌≤◌, ap, refl, sym, subst, arith}
use Rattle.long_names.specs.Counting.{counted}
use Rattle.object_memory.specs.declared.fault.MemFault.{MemFault}
use Rattle.object_memory.specs.Plain.{refused}
use Rattle.object_memory.specs.Told.{Told}
use Rattle.loom_memory.specs.declared.ledger.Ledger.{Ledger}
use Rattle.loom_memory.specs.Memory.{loom_told}
use Rattle.loom_memory.specs.Residents.{fetched}
use Rattle.loom_memory.proofs.AddLaws.{overfull-making}
use Rattle.loom_memory.proofs.MakingLaws.{thinned-ready}
use Rattle.loom_memory.specs.Makings.{OnCoreFull}
use Rattle.loom_memory.proofs.MadeLaws.{core-lost}
use Rattle.loom_memory.proofs.memory.LoomMemory.free_one.Goals as goal

pub overfull-requires-clause-fit : goal.overfull-requires-clause-fit
overfull-requires-clause-fit g c = record {
  sound = c.in-Ok.ensures.leaves.sound;
  ready = thinned-ready (loom_told g.H.Host c.args.self.now) (loom_told g.H.Host c.thin.new.self) c.in-Ok.ensures.frees.thins.thinned c.requires.fit.ready;
}

pub returns-else-self-room-clause-err : goal.returns-else-self-room-clause-err
returns-else-self-room-clause-err g c =
    let m = c.args.self.now in
    let n = c.thin.new.self in
    overfull-making g.H.Host m n (loom_told g.H.Host c.overfull.new.self) (n.ledger.held + 1) _ c.overfull.result c.requires.fit.ready c.in-Ok.ensures.frees.thins.thinned c.in-Ok.ensures.swept.is_kept
    (λ told. ap (λ k. k + 1) (c.in-Ok.ensures.swept.count told)) c.requires.late refl (let all = c.if-self-room.false in omega (arith, all))
    (subst (λ (f : MemFault). loom_told g.H.Host c.overfull.new.self ≡ refused (loom_told g.H.Host n) f) c.overfull.ensures.full c.overfull.ensures.told) c.overfull.ensures.full
    (subst (λ (k : ℕ). k ≤ counted k) (ap (λ (z : Told). z.refusals) c.in-Ok.ensures.frees.thins.thinned.same) c.overfull.ensures.later)

pub returns-then-self-room-clause-leaves : goal.returns-then-self-room-clause-leaves
unfolding fetched
returns-then-self-room-clause-leaves g c = record {
  sound = c.in-Ok.ensures.leaves.sound;
  fetches = ap (λ (k : Ledger). k.fetches) c.in-Ok.ensures.frees.ledger;
  lender = c.thin.ensures.leaves.lender;
  outside = c.thin.ensures.leaves.outside;
}

pub returns-else-self-room-clause-full : goal.returns-else-self-room-clause-full
returns-else-self-room-clause-full g c = subst (λ (f : MemFault). OnCoreFull f ⊥) (sym c.overfull.ensures.full) tt

pub returns-in-Err-clause-full : goal.returns-in-Err-clause-full
returns-in-Err-clause-full g c = core-lost c.in-Err.f ⊥ c.in-Err.ensures.faulted.lost

pub returns-then-self-room-clause-asks : goal.returns-then-self-room-clause-asks
returns-then-self-room-clause-asks g c = record {
  thinned = c.in-Ok.ensures.frees.thins.thinned;
  held = let less = c.if-self-room.true in let is = c.room.ensures in omega (arith, less, is);
  next = c.in-Ok.ensures.frees.thins.next;
  minds = λ told. c.in-Ok.ensures.frees.thins.minds;
  bodies = c.in-Ok.ensures.frees.bodies;
  room = λ words has.
      let wider = c.in-Ok.ensures.frees.words in
      let more = c.in-Ok.ensures.frees.entries in
      let first = has.0 in
      let second = has.1 in
      (omega (arith, wider, first), omega (arith, more, second));
}

pub returns-then-self-room-clause-alive : goal.returns-then-self-room-clause-alive
unfolding loom_told
returns-then-self-room-clause-alive g c = λ told. c.in-Ok.ensures.swept.again told
