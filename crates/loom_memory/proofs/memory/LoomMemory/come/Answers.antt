use Rattle.std.proofs.Common.{◌+◌, ◌/◌, ◌≤◌, ◌≡◌, [], refl, sym, ◌∙◌, ap, subst, arith, IsTrue}
use Rattle.loom_host.specs.declared.outside.Role.TheVariants.{Work}
use Rattle.loom_host.proofs.WorkLaws.{read-itself}
use Rattle.object_record.specs.Buffer.{raw_of}
use Rattle.object_record.specs.Objects.{object_in}
use Rattle.core_view.specs.Held.{Disk}
use Rattle.core_view.specs.Kept.{Keeps, IsValued}
use Rattle.core_view.specs.Purge.{fresh_of}
use Rattle.core_view.proofs.Fresh.{fresh-came, not-fresh}
use Rattle.leaf_lambda.specs.Parts.{core_of}
use Rattle.disk_objects.specs.Function.{disk_of}
use Rattle.method_cache.specs.Found.{found}
use Rattle.purger.proofs.MarkLaws.{within-marks}
use Rattle.loom_memory.specs.declared.ledger.Ledger.{Ledger}
use Rattle.loom_memory.specs.Memory.{loom_told, loom_outside, told_of}
use Rattle.loom_memory.specs.Gentle.{IsCalm, IsQuiet}
use Rattle.loom_memory.specs.Cache.{cache_of}
use Rattle.loom_memory.specs.Residents.{fetched}
use Rattle.loom_memory.proofs.ResidentLaws.{fetched-kept, fetched-over}
use Rattle.loom_memory.proofs.ExactLaws.{exact-next, exact-brought}
use Rattle.loom_memory.proofs.RegLaws.{kept-rooted, few-held}
use Rattle.loom_memory.proofs.CalmLaws.{within-calm, calm-kept, quiet-is}
use Rattle.loom_memory.proofs.FieldLaws.{read-only}
use Rattle.loom_memory.proofs.CacheLaws.{cache-same}
use Rattle.loom_memory.proofs.GentleLaws.{within-remains}
use Rattle.loom_memory.proofs.MindLaws.{minds-come}
use Rattle.loom_memory.proofs.DeadLaws.{thin-quiet}
use Rattle.loom_memory.proofs.WholeLaws.{come-whole}
use Rattle.loom_memory.proofs.memory.LoomMemory.come.Goals as goal
use Rattle.loom_memory.proofs.memory.LoomMemory.come.Given as given

pub translate_in-requires-clause-light : goal.translate_in-requires-clause-light
translate_in-requires-clause-light g c = λ t. let m = c.args.self.now in few-held (core_of m.pager.levels.parts) m.regs m.pager.pinned t (kept-rooted m.pager.levels.parts m.regs m.pager.pinned m.ledger m.pager.levels.whole c.requires.sound.kept) c.requires.sound.kept.many

-- the disk has to have the same, and the held heap stays
keeps-of : (g : given.Over) (c : goal.After-count_fetch g) → IsTrue (g.H.Host.tells Work) → Keeps (disk_of g.H.Host c.args.self.now.pager.levels.disk.host.now c.args.self.now.pager.levels.disk.rest) (core_of c.args.self.now.pager.levels.parts) (core_of c.translate_in.new.p)
keeps-of g c = λ told. c.translate_in.ensures.keeps (disk_of g.H.Host c.args.self.now.pager.levels.disk.host.now c.args.self.now.pager.levels.disk.rest) (c.requires.sound.over.backed told) (c.requires.there told)

calm-of : (g : given.Over) (c : goal.After-count_fetch g) → IsCalm c.args.self.now.pager.pinned (core_of c.args.self.now.pager.levels.parts) (core_of c.translate_in.new.p)
calm-of g c = within-calm c.args.self.now.pager.pinned c.args.s.0 (core_of c.args.self.now.pager.levels.parts) (core_of c.translate_in.new.p) c.args.self.now.pager.levels.whole.parts.core c.translate_in.ensures.parts.core c.translate_in.ensures.opens.1.within c.requires.leaf.0 c.requires.leaf.1

-- it isn't fresh
fresh-of : (g : given.Over) (c : goal.After-count_fetch g) → IsTrue (g.H.Host.tells Work) → fresh_of (core_of c.translate_in.new.p) ≡ fresh_of (core_of c.args.self.now.pager.levels.parts)
fresh-of g c = λ told.
    let m = c.args.self.now in
    let disk : Disk = disk_of g.H.Host m.pager.levels.disk.host.now m.pager.levels.disk.rest in
    let within = c.translate_in.ensures.opens.1.within in
    let opens = c.translate_in.ensures.opens in
    fresh-came (core_of m.pager.levels.parts) (core_of c.translate_in.new.p) c.args.s.0 within.about c.requires.leaf.1
    (not-fresh (core_of c.translate_in.new.p) disk c.args.s.0 opens.0 (object_in (raw_of m.buf)) (keeps-of g c told).backed opens.1.body.place (ap disk (within.live c.args.s.0 c.requires.leaf.0).1 ∙ c.requires.there told))

pub returns-clause-gains : goal.returns-clause-gains
unfolding loom_told
returns-clause-gains g c = record {
  quiet =
      let m = c.args.self.now in
      let now = m.pager.levels.disk.host.now in
      subst (λ (k : Ledger). IsQuiet (loom_told g.H.Host m) (told_of g.H.Host now m.pager.levels.disk.rest (core_of c.translate_in.new.p) m.regs m.pager.pinned k)) (sym c.count_fetch.ensures)
      (quiet-is g.H.Host now now m.pager.levels.disk.rest m.pager.levels.disk.rest (core_of m.pager.levels.parts) (core_of c.translate_in.new.p) m.regs m.pager.pinned m.ledger (kept-rooted m.pager.levels.parts m.regs m.pager.pinned m.ledger m.pager.levels.whole c.requires.sound.kept) c.translate_in.ensures.parts.core c.requires.sound.kept.cached (calm-of g c)
      (read-only g.H.Host now now (read-itself g.H.Host now)) refl (λ told. (keeps-of g c told).held));
  gentle =
      let m = c.args.self.now in
      let x = core_of m.pager.levels.parts in
      let y = core_of c.translate_in.new.p in
      record {
        remains = within-remains c.args.s.0 x y c.translate_in.ensures.opens.1.within c.requires.leaf.1;
        read = read-itself g.H.Host m.pager.levels.disk.host.now;
        cache = ap (λ (k : Ledger). cache_of y (found k.rows) k.mark k.begun) c.count_fetch.ensures
            ∙ cache-same x y (found m.ledger.rows) m.ledger.mark m.ledger.begun c.args.self.now.pager.levels.whole.parts.core c.translate_in.ensures.parts.core (within-marks x y c.args.s.0 c.args.self.now.pager.levels.whole.parts.core c.translate_in.ensures.parts.core c.translate_in.ensures.opens.1.within) c.requires.sound.kept.cached;
      };
  regs = refl;
  pins = refl;
  next = ap (λ (k : Ledger). k.next) c.count_fetch.ensures;
  due = refl;
  flag = refl;
}

pub returns-clause-counted : goal.returns-clause-counted
unfolding fetched
returns-clause-counted g c = ap (λ (k : Ledger). k.fetches) c.count_fetch.ensures

pub returns-clause-leaves : goal.returns-clause-leaves
unfolding loom_outside
returns-clause-leaves g c = record {
  sound =
      let m = c.args.self.now in
      let q = c.translate_in.new.p in
      record {
        kept = fetched-kept q m.regs m.pager.pinned m.ledger c.count_fetch.new.self _ c.count_fetch.ensures (calm-kept m.pager.levels.parts q m.regs m.pager.pinned m.ledger m.pager.levels.whole c.requires.sound.kept (calm-of g c) c.translate_in.ensures.parts c.translate_in.ensures.opens.1.room.size);
        over = fetched-over g.H.Host m.pager.levels.disk.host.now m.pager.levels.disk.rest (core_of q) m.ledger c.count_fetch.new.self _ c.count_fetch.ensures record {
          stands = c.requires.sound.over.stands;
          backed = λ told. (keeps-of g c told).backed;
          counted = λ told. let was = c.requires.sound.over.counted told in let same = fresh-of g c told in omega (arith, was, same);
          based = c.requires.sound.over.based;
          roomy = c.requires.sound.over.roomy;
          valued = λ told. subst (λ (d : Disk). IsValued d) (sym (keeps-of g c told).held) (c.requires.sound.over.valued told);
        };
        soon = subst (λ (k : Ledger). m.due ≤ k.next + k.entries / 8) (sym c.count_fetch.ensures) c.requires.sound.soon;
        exact = exact-next g.H.Host q m.pager.levels.disk.host.now m.pager.levels.disk.rest m.ledger.next c.count_fetch.new.self.next [] (ap (λ (k : Ledger). k.next) c.count_fetch.ensures)
            (exact-brought g.H.Host m.pager.levels.parts q m.pager.levels.disk.host.now m.pager.levels.disk.host.now m.pager.levels.disk.rest m.pager.levels.disk.rest c.args.s.0 m.ledger.next c.requires.sound.exact refl (read-itself g.H.Host m.pager.levels.disk.host.now) c.translate_in.ensures.parts (keeps-of g c) c.translate_in.ensures.opens.1.naming c.translate_in.ensures.opens.1.within);
        thin = thin-quiet g.H.Host c.args.self.now _ c.requires.sound.thin (λ on. on) (returns-clause-gains g c).quiet;
      };
  lender = refl;
  outside = refl;
}

pub returns-clause-minds : goal.returns-clause-minds
returns-clause-minds g c = minds-come g.H.Host c.args.self.now _ c.args.s.0 c.requires.sound (returns-clause-leaves g c).sound c.translate_in.ensures.opens.1.within (c.translate_in.ensures.opens.1.within.live c.args.s.0 c.requires.leaf.0).1 (returns-clause-gains g c).gentle.cache

pub invariant_of-levels : goal.invariant_of-levels
invariant_of-levels g c = let l = c.args.self.now.pager.levels in record { whole = come-whole l.parts c.translate_in.new.p c.args.s.0 l.whole c.translate_in.ensures.parts c.translate_in.ensures.opens.1.within c.requires.leaf.0 c.requires.leaf.1 }
