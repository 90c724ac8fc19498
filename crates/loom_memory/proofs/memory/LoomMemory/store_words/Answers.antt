use Rattle.std.proofs.Common.{◌≡◌, [], IsTrue, refl, sym, ◌∙◌, ap, subst, arith, length}
use Rattle.long_names.specs.declared.object.Kind.{Kind}
use Rattle.long_names.specs.declared.object.Kind.TheVariants as kind
use Rattle.long_names.specs.Access.{WriteWords}
use Rattle.long_names.specs.Objects.{with_words}
use Rattle.loom_host.specs.declared.outside.Role.TheVariants.{Work}
use Rattle.object_table.specs.declared.entry.Entry.{Entry}
use Rattle.object_table.specs.Entries.{place_of}
use Rattle.core_view.specs.Words.{meant}
use Rattle.core_view.specs.Core.{Core}
use Rattle.core_view.specs.Held.{object_at}
use Rattle.core_view.specs.Purge.{fresh_by}
use Rattle.core_view.proofs.Core.{placed-used, held-at}
use Rattle.core_view.proofs.Words.{meant-short}
use Rattle.disk_objects.specs.Function.{disk_of}
use Rattle.leaf_lambda.specs.Parts.{core_of}
use Rattle.loom_memory.specs.Memory.{loom_told, loom_outside}
use Rattle.loom_memory.proofs.FieldLaws.{told-bounds, damaged-refused}
use Rattle.loom_memory.proofs.StoreLaws.{stored-kept, stored-over, words-fields, words-can, body-told, stored-is}
use Rattle.loom_memory.proofs.OwingLaws.{IsRewritten, exact-rewritten}
use Rattle.loom_memory.proofs.GentleLaws.{rest-refl, store-remains}
use Rattle.purger.proofs.MarkLaws.{within-marks}
use Rattle.loom_memory.proofs.MindLaws.{marks-keep}
use Rattle.purger.specs.declared.eviction.TheConstants.{NOWHERE}
use Rattle.object_memory.specs.declared.fault.MemFault.TheVariants.{Damaged}
use Rattle.loom_memory.proofs.DamageLaws.{nowhere-damage}
use Rattle.loom_memory.proofs.MindLaws.{came-remains, stored-came}
use Rattle.loom_memory.specs.Residents.{fetched}
use Rattle.loom_memory.proofs.LivingLaws.{thin-rewritten}
use Rattle.object_memory.specs.Told.{Told}
use Rattle.loom_memory.proofs.WholeLaws.{store-whole}
use Rattle.loom_memory.proofs.memory.LoomMemory.store_words.Goals as goal
use Rattle.loom_memory.proofs.memory.LoomMemory.store_words.Given as given

pub used_entry-e-requires : goal.used_entry-e-requires
unfolding core_of
used_entry-e-requires g c = placed-used ((core_of c.args.self.now.pager.levels.parts).entries c.args.s.0).state c.requires.there.0 c.requires.there.1

pub put_words-requires-clause-kind : goal.put_words-requires-clause-kind
unfolding core_of
put_words-requires-clause-kind g c = subst (λ (k : Kind). k ≡ kind.Words) (ap (λ (e : Entry). e.kind) c.used_entry-e.ensures) (c.has_words-fits.ensures.yes c.if-fits.true).0

pub put_words-requires-clause-within : goal.put_words-requires-clause-within
unfolding core_of
put_words-requires-clause-within g c = let low = (c.has_words-fits.ensures.yes c.if-fits.true).1 in let same = ap (λ (e : Entry). e.len) c.used_entry-e.ensures in omega (arith, low, same)

place-same : (g : given.Over) (c : goal.After-levels-then-fits-1 g) → place_of ((core_of c.put_words.new.p).entries c.args.s.0).state ≡ place_of ((core_of c.args.self.now.pager.levels.parts).entries c.args.s.0).state
place-same g c = ap (λ (e : Entry). place_of e.state) c.put_words.ensures.entry

name-same : (g : given.Over) (c : goal.After-levels-then-fits-1 g) → ((core_of c.put_words.new.p).entries c.args.s.0).name ≡ ((core_of c.args.self.now.pager.levels.parts).entries c.args.s.0).name
name-same g c = ap (λ (e : Entry). e.name) c.put_words.ensures.entry

pub returns-then-fits-clause-stored : goal.returns-then-fits-clause-stored
unfolding loom_told
returns-then-fits-clause-stored g c =
    let m = c.args.self.now in
    let p = c.place_of_body-place.result.place in
    stored-is g.H.Host m c.put_words.new.p (WriteWords c.args.of c.args.at c.args.run.now) c.args.of c.args.s.0 p c.requires.fit.sound.kept c.put_words.ensures.parts c.put_words.ensures.within c.place_of_body-place.ensures (place-same g c) (name-same g c) c.requires.gone refl refl c.requires.word
    (λ told.
    let disk = disk_of g.H.Host m.pager.levels.disk.host.now m.pager.levels.disk.rest in
    let core = c.args.self.now.pager.levels.whole.parts.core in
    let used = placed-used ((core_of m.pager.levels.parts).entries c.args.s.0).state p c.place_of_body-place.ensures in
    let there = held-at (core_of m.pager.levels.parts) disk ((core_of m.pager.levels.parts).entries c.args.s.0).name c.args.s.0 p (core.found c.args.s.0 used) c.place_of_body-place.ensures in
    body-told (g.H.Host.tells Work) (core_of m.pager.levels.parts) (core_of c.put_words.new.p) disk disk m.ledger.next ((core_of m.pager.levels.parts).entries c.args.s.0).name _ (object_at (core_of m.pager.levels.parts) disk ((core_of m.pager.levels.parts).entries c.args.s.0) p) (λ b. with_words b c.args.at c.args.run.now) told
    (ap (meant (core_of m.pager.levels.parts).entries [] 0) (sym c.requires.word) ∙ meant-short (core_of m.pager.levels.parts).entries [] 0 c.args.s.0 (core.short c.args.s.0 used))
    there
    (c.put_words.ensures.held disk (object_at (core_of m.pager.levels.parts) disk ((core_of m.pager.levels.parts).entries c.args.s.0) p) (c.requires.fit.sound.over.backed told) there))

rewritten-of : (g : given.Over) (c : goal.After-levels-then-fits-1 g) → IsTrue (g.H.Host.tells Work) → IsRewritten (core_of c.args.self.now.pager.levels.parts) (core_of c.put_words.new.p) (disk_of g.H.Host c.args.self.now.pager.levels.disk.host.now c.args.self.now.pager.levels.disk.rest) c.args.s.0 c.place_of_body-place.result.place (with_words (object_at (core_of c.args.self.now.pager.levels.parts) (disk_of g.H.Host c.args.self.now.pager.levels.disk.host.now c.args.self.now.pager.levels.disk.rest) ((core_of c.args.self.now.pager.levels.parts).entries c.args.s.0) c.place_of_body-place.result.place).body c.args.at c.args.run.now)
rewritten-of g c told =
    let m = c.args.self.now in
    let p = c.place_of_body-place.result.place in
    let disk = disk_of g.H.Host m.pager.levels.disk.host.now m.pager.levels.disk.rest in
    let core = c.args.self.now.pager.levels.whole.parts.core in
    let o = object_at (core_of m.pager.levels.parts) disk ((core_of m.pager.levels.parts).entries c.args.s.0) p in
    record {
      core = c.put_words.ensures.parts.core;
      backed = c.put_words.ensures.backed disk (c.requires.fit.sound.over.backed told);
      place = c.place_of_body-place.ensures;
      fields = words-fields o.body c.args.at c.args.run.now;
      stored = c.put_words.ensures.held disk o (c.requires.fit.sound.over.backed told)
          (held-at (core_of m.pager.levels.parts) disk ((core_of m.pager.levels.parts).entries c.args.s.0).name c.args.s.0 p (core.found c.args.s.0 (placed-used ((core_of m.pager.levels.parts).entries c.args.s.0).state p c.place_of_body-place.ensures)) c.place_of_body-place.ensures);
      valued = c.put_words.ensures.valued disk (c.requires.fit.sound.over.backed told) (c.requires.fit.sound.over.valued told);
      find = ap (λ (d : Core). d.find) c.put_words.ensures.core;
      changes = c.put_words.ensures.within.changes;
    }

pub returns-then-fits-clause-leaves : goal.returns-then-fits-clause-leaves
unfolding loom_outside fetched
returns-then-fits-clause-leaves g c = record {
  sound =
      let m = c.args.self.now in
      let p = c.place_of_body-place.result.place in
      let disk = disk_of g.H.Host m.pager.levels.disk.host.now m.pager.levels.disk.rest in
      let core = c.args.self.now.pager.levels.whole.parts.core in
      let o = object_at (core_of m.pager.levels.parts) disk ((core_of m.pager.levels.parts).entries c.args.s.0) p in
      record {
        kept = stored-kept m.pager.levels.parts c.put_words.new.p m.regs m.pager.pinned m.ledger c.args.s.0 p m.pager.levels.whole c.requires.fit.sound.kept c.put_words.ensures.parts c.put_words.ensures.within c.place_of_body-place.ensures (place-same g c) (name-same g c) c.put_words.ensures.size;
        over = stored-over g.H.Host m.pager.levels.disk.host.now m.pager.levels.disk.rest (core_of m.pager.levels.parts) (core_of c.put_words.new.p) m.ledger c.args.s.0 c.requires.fit.sound.over c.put_words.ensures.within (ap fresh_by c.put_words.ensures.entry) c.put_words.ensures.backed c.put_words.ensures.valued;
        exact = exact-rewritten g.H.Host m.pager.levels.parts c.put_words.new.p m.pager.levels.disk.host.now m.pager.levels.disk.rest m.ledger.next c.args.s.0 p (with_words o.body c.args.at c.args.run.now) c.requires.fit.sound.exact (rewritten-of g c);
        soon = c.requires.fit.sound.soon;
        thin = thin-rewritten g.H.Host m c.put_words.new.p _ c.args.s.0 p (with_words o.body c.args.at c.args.run.now) c.requires.fit.sound (ap (λ (t : Told). t.regs) (returns-then-fits-clause-stored g c).same) (ap (λ (t : Told). t.slots) (returns-then-fits-clause-stored g c).same) (rewritten-of g c);
      };
  fetches = refl;
  lender = refl;
  outside = refl;
}

none-there : (g : given.Over) (c : goal.After-refuse g) → IsTrue (loom_told g.H.Host c.args.self.now).tells → ⊥
unfolding loom_told core_of
none-there g c = λ told.
    let m = c.args.self.now in
    let can = words-can (g.H.Host.tells Work) (core_of m.pager.levels.parts) (disk_of g.H.Host m.pager.levels.disk.host.now m.pager.levels.disk.rest) m.ledger.next c.args.s.0 c.requires.there.0 c.args.at (length c.args.run.now) _ told c.args.self.now.pager.levels.whole.parts.core c.requires.there.1 (ap (meant (core_of m.pager.levels.parts).entries [] 0) (sym c.requires.word)) (c.requires.may told) in
    let e = c.used_entry-e.ensures in
    let kind_ : c.used_entry-e.result.kind ≡ kind.Words = subst (λ (k : Kind). k ≡ kind.Words) (ap (λ (e : Entry). e.kind) (sym c.used_entry-e.ensures)) can.0 in
    let past = c.has_words-fits.ensures.no c.if-fits.false kind_ in
    let low = can.1 in
    let same = ap (λ (e : Entry). e.len) c.used_entry-e.ensures in
    omega (arith, past, low, same)

pub returns-clause-err : goal.returns-clause-err
returns-clause-err g c = λ a silent none. let b = told-bounds g.H.Host c.args.self.now in damaged-refused (loom_told g.H.Host c.args.self.now) (loom_told g.H.Host c.refuse.new.self) a _ _ c.refuse.result c.refuse.ensures.told c.refuse.ensures.result c.requires.fit.ready none silent c.refuse.ensures.later (none-there g c) b.0 b.1

pub returns-then-fits-clause-resting : goal.returns-then-fits-clause-resting
returns-then-fits-clause-resting g c = rest-refl c.args.self.now _ (store-remains c.args.s.0 (core_of c.args.self.now.pager.levels.parts) (core_of c.put_words.new.p) c.put_words.ensures.within (place-same g c) (name-same g c)) refl refl refl

pub returns-clause-sure : goal.returns-clause-sure
unfolding loom_told
returns-clause-sure g c = none-there g c

pub returns-then-fits-clause-cached : goal.returns-then-fits-clause-cached
returns-then-fits-clause-cached g c =
    let m = c.args.self.now in
    let core = c.put_words.ensures.parts.core in
    marks-keep g.H.Host m _ c.requires.fit.sound core (within-marks (core_of m.pager.levels.parts) (core_of c.put_words.new.p) c.args.s.0 c.args.self.now.pager.levels.whole.parts.core core c.put_words.ensures.within) refl

pub returns-clause-damage : goal.returns-clause-damage
unfolding core_of
returns-clause-damage g c = nowhere-damage c.refuse.new.self.pager.levels.disk.rest ((core_of c.args.self.now.pager.levels.parts).entries c.args.s.0).name c.refuse.result (c.refuse.ensures.result ∙ ap (Damaged NOWHERE) (c.get.ensures.value ∙ ap (λ (e : Entry). e.name) c.used_entry-e.ensures))

pub returns-then-fits-clause-none : goal.returns-then-fits-clause-none
returns-then-fits-clause-none g c =
    let x = core_of c.args.self.now.pager.levels.parts in
    let y = core_of c.put_words.new.p in
    came-remains x y (stored-came x y c.args.s.0 c.put_words.ensures.within (place-same g c) (name-same g c))

pub invariant_of-levels : goal.invariant_of-levels
invariant_of-levels g c =
    let l = c.args.self.now.pager.levels in
    let entry = c.put_words.ensures.entry in
    record { whole = store-whole l.parts c.put_words.new.p c.args.s.0 c.place_of_body-place.result.place l.whole c.put_words.ensures.parts c.put_words.ensures.within c.place_of_body-place.ensures (ap (λ (e : Entry). place_of e.state) entry) (ap (λ (e : Entry). e.name) entry) }
