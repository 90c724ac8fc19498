use Rattle.std.proofs.Common.{◌∙◌}
use Rattle.loom_memory.proofs.TimeLaws.{time-same}
use Rattle.std.proofs.Common.{◌≡◌, None, Ok, refl, sym, ap, subst, inl, arith, true}
use Rattle.loom_host.specs.declared.outside.Role.TheVariants.{Work}
use Rattle.disk_objects.specs.Disk.{disk_room}
use Rattle.leaf_lambda.specs.declared.parts.Parts.{Parts}
use Rattle.leaf_lambda.specs.Parts.{core_of, spare_of}
use Rattle.object_memory.specs.Told.{Told}
use Rattle.loom_memory.specs.declared.ledger.Ledger.{Ledger}
use Rattle.loom_memory.specs.Memory.{loom_told, loom_outside, others_of}
use Rattle.loom_memory.specs.Own.{HasRested}
use Rattle.loom_memory.specs.Residents.{fetched, has_body, is_resident}
use Rattle.loom_memory.proofs.MindLaws.{minds-anew, minds-refl}
use Rattle.loom_memory.proofs.SettleLaws.{numbers-none, rested-cached, rested-idle, settled-called, settled-none, settled-ready}
use Rattle.loom_memory.proofs.memory.LoomMemory.settle.Goals as goal
use Rattle.loom_memory.proofs.memory.LoomMemory.settle.Given as given

pub count_anew-requires-clause-numbers : goal.count_anew-requires-clause-numbers
count_anew-requires-clause-numbers g c =
    let m = c.args.self.now in
    numbers-none m.ledger.base m.ledger.made m.ledger.held m.ledger.next (disk_room m.pager.levels.disk.rest) c.requires.fit.sound.over.based (c.is_settled.ensures.yes c.if-is_settled.true).0

-- ---- nothing had to be done

has-rested : (g : given.Over) (c : goal.After-count_anew g) → HasRested c.args.self.now c.count_anew.new.self (Ok tt)
has-rested g c = record { ok = refl; same = c.count_anew.ensures.same }

pub returns-then-is_settled-clause-called : goal.returns-then-is_settled-clause-called
returns-then-is_settled-clause-called g c =
    let t = loom_told g.H.Host c.args.self.now in
    let u = loom_told g.H.Host c.count_anew.new.self in
    settled-called t u (settled-none t u c.requires.fit.ready c.count_anew.ensures.begun)

pub returns-then-is_settled-clause-full : goal.returns-then-is_settled-clause-full
returns-then-is_settled-clause-full g c = λ less. absurd (let enough = (c.is_settled.ensures.yes c.if-is_settled.true).0 in omega (arith, less, enough))

pub returns-then-is_settled-clause-spare : goal.returns-then-is_settled-clause-spare
returns-then-is_settled-clause-spare g c = inl (let enough = (c.is_settled.ensures.yes c.if-is_settled.true).1 in let same = ap (λ (p : Parts). spare_of p) c.count_anew.ensures.parts in omega (arith, enough, same))

pub returns-then-is_settled-clause-fetches : goal.returns-then-is_settled-clause-fetches
unfolding fetched
returns-then-is_settled-clause-fetches g c = ap (λ (k : Ledger). k.fetches) c.count_anew.ensures.ledger

pub returns-then-is_settled-clause-stays : goal.returns-then-is_settled-clause-stays
unfolding is_resident
returns-then-is_settled-clause-stays g c = λ enough told k here has. subst (λ (p : Parts). has_body (core_of p) ((core_of p).find k) ≡ true) (sym c.count_anew.ensures.parts) here

pub returns-then-is_settled-clause-untouched : goal.returns-then-is_settled-clause-untouched
returns-then-is_settled-clause-untouched g c = λ room enough. record {
  whole = ap (λ (z : Told). z.heap) c.count_anew.ensures.begun.same;
  idle = rested-idle (Ok tt) c.args.self.now c.count_anew.new.self (has-rested g c);
  cached = rested-cached (Ok tt) g.H.Host c.args.self.now c.count_anew.new.self (has-rested g c);
}

pub returns-then-is_settled-clause-ended : goal.returns-then-is_settled-clause-ended
returns-then-is_settled-clause-ended g c = record {
  none = ap (λ (k : Ledger). k.made) c.count_anew.ensures.ledger;
  minds = λ told. minds-anew g.H.Host c.args.self.now c.args.self.now c.count_anew.new.self None (minds-refl g.H.Host c.args.self.now (λ k. ⊥) c.requires.fit.sound) c.count_anew.ensures.same;
  due = time-same g.H.Host c.args.self.now c.count_anew.new.self (ap (λ m. m.due) c.count_anew.ensures.same);
  flag = λ on. ap (λ m. m.thinned) c.count_anew.ensures.same ∙ on;
}

pub returns-then-is_settled-clause-rests : goal.returns-then-is_settled-clause-rests
returns-then-is_settled-clause-rests g c = λ room enough. has-rested g c

pub returns-then-is_settled-clause-gone : goal.returns-then-is_settled-clause-gone
returns-then-is_settled-clause-gone g c = λ room lacks due. absurd (lacks (omega arith, (c.is_settled.ensures.yes c.if-is_settled.true).1))

pub returns-then-is_settled-clause-fit : goal.returns-then-is_settled-clause-fit
unfolding loom_outside
returns-then-is_settled-clause-fit g c = record {
  sound = c.count_anew.ensures.sound;
  ready = settled-ready (loom_told g.H.Host c.args.self.now) (loom_told g.H.Host c.count_anew.new.self) (settled-none (loom_told g.H.Host c.args.self.now) (loom_told g.H.Host c.count_anew.new.self) c.requires.fit.ready c.count_anew.ensures.begun) c.requires.fit.ready;
  lender = ap (λ d. d.host.ghost_name) c.count_anew.ensures.disk;
  outside = ap (λ d. (λ r. others_of (g.H.Host.tells Work) r (g.H.Host.roles d.host.now r) (g.H.Host.faults d.host.now r))) c.count_anew.ensures.disk;
}

-- ---- something had to

pub returns-clause-untouched : goal.returns-clause-untouched
returns-clause-untouched g c = λ room enough. absurd (c.is_settled.ensures.no c.if-is_settled.false room enough)

pub returns-clause-rests : goal.returns-clause-rests
returns-clause-rests g c = λ room enough. absurd (c.is_settled.ensures.no c.if-is_settled.false room enough)

pub returns-then-is_settled-clause-thins : goal.returns-then-is_settled-clause-thins
returns-then-is_settled-clause-thins g c = λ less. absurd (let enough = (c.is_settled.ensures.yes c.if-is_settled.true).0 in omega (arith, less, enough))

pub returns-then-is_settled-clause-lasts : goal.returns-then-is_settled-clause-lasts
returns-then-is_settled-clause-lasts g c = λ less. absurd (let enough = (c.is_settled.ensures.yes c.if-is_settled.true).0 in omega (arith, less, enough))
