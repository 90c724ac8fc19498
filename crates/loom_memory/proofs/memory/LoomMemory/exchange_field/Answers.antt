use Rattle.std.proofs.Common.{true, IsTrue, ◌≡◌, [], ◌∷◌, Some, refl, sym, ◌∙◌, ap, subst}
use Rattle.std.specs.List.{slice_index_or}
use Rattle.long_names.specs.declared.value.Value.{Value}
use Rattle.long_names.specs.Access.{Field, SetField, brought}
use Rattle.loom_host.specs.declared.outside.Role.TheVariants.{Work}
use Rattle.object_memory.specs.Told.{Told}
use Rattle.object_table.specs.declared.entry.Entry.{Entry}
use Rattle.object_table.specs.Entries.{is_short, is_used, place_of}
use Rattle.disk_objects.specs.Function.{disk_of}
use Rattle.core_view.specs.Words.{meant}
use Rattle.core_view.specs.Held.{object_at}
use Rattle.core_view.specs.Purge.{fresh_by}
use Rattle.core_view.proofs.Core.{placed-used, held-at, meant-names}
use Rattle.core_view.proofs.Steps.{outside-used}
use Rattle.core_view.proofs.Words.{meant-short}
use Rattle.leaf_lambda.specs.Parts.{core_of}
use Rattle.loom_memory.specs.Memory.{loom_told, loom_outside, told_of, word_in, IsKept, IsOver, IsExact}
use Rattle.loom_memory.proofs.RegLaws.{kept-rooted, few-held, register-held, old-there, word-is}
use Rattle.loom_memory.proofs.RecountLaws.{recount-kept, recount-marks, recount-over, recount-told, recount-place, recount-used, recount-name, recount-at, recount-meant, recount-mark}
use Rattle.loom_memory.proofs.StoreLaws.{stored-is, stored-kept, stored-over, stored-between}
use Rattle.loom_memory.proofs.LoadLaws.{field-before, stored-told}
use Rattle.loom_memory.proofs.OwingLaws.{IsExchange, exact-raised, exact-exchanged, exact-lowered}
use Rattle.loom_memory.proofs.GentleLaws.{recount-none, recount-remains, remains-trans, rest-refl, store-remains}
use Rattle.purger.proofs.MarkLaws.{Kept-trans, within-marks}
use Rattle.loom_memory.proofs.MindLaws.{marks-keep}
use Rattle.loom_memory.proofs.MindLaws.{came-remains, stored-came}
use Rattle.loom_memory.proofs.LivingLaws.{thin-exchanged}
use Rattle.loom_memory.proofs.OverLaws.{over_parts}
use Rattle.leaf_lambda.specs.Whole.{IsWhole}
use Rattle.loom_memory.proofs.WholeLaws.{recount-whole, store-whole}
use Rattle.loom_memory.proofs.memory.LoomMemory.exchange_field.Goals as goal
use Rattle.loom_memory.proofs.memory.LoomMemory.exchange_field.Given as given

pub raise_word-requires-clause-used : goal.raise_word-requires-clause-used
raise_word-requires-clause-used g c = λ is.
    let m = c.args.self.now in
    outside-used (core_of m.pager.levels.parts) (slice_index_or m.regs c.index.result 0) c.args.self.now.pager.levels.whole.parts.core
    (register-held (core_of m.pager.levels.parts) m.regs m.pager.pinned c.index.result (slice_index_or m.regs c.index.result 0) (kept-rooted m.pager.levels.parts m.regs m.pager.pinned m.ledger m.pager.levels.whole c.requires.sound.kept) (old-there m.regs c.index.result c.index.result c.index.result refl refl c.index.ensures.within c.requires.sound.kept.many) is)

pub put_field-requires-clause-light : goal.put_field-requires-clause-light
put_field-requires-clause-light g c = λ t.
    let m = c.args.self.now in
    let q = c.raise_word.new.p in
    few-held (core_of q) m.regs m.pager.pinned t (kept-rooted q m.regs m.pager.pinned m.ledger (recount-whole m.pager.levels.parts q m.pager.levels.whole c.raise_word.ensures.parts c.raise_word.ensures.recount) (recount-kept m.pager.levels.parts q m.regs m.pager.pinned m.ledger m.pager.levels.whole c.requires.sound.kept c.raise_word.ensures.parts c.raise_word.ensures.recount c.raise_word.ensures.segment)) c.requires.sound.kept.many

pub put_field-requires-clause-there : goal.put_field-requires-clause-there
put_field-requires-clause-there g c = (c.requires.there.0, recount-at (core_of c.args.self.now.pager.levels.parts) (core_of c.raise_word.new.p) c.args.s.0 c.args.at.place c.args.i c.requires.there.0 c.raise_word.ensures.recount c.requires.there.1)

pub put_field-requires-clause-held : goal.put_field-requires-clause-held
put_field-requires-clause-held g c = λ is.
    let m = c.args.self.now in
    let q = c.raise_word.new.p in
    register-held (core_of q) m.regs m.pager.pinned c.index.result (slice_index_or m.regs c.index.result 0) (kept-rooted q m.regs m.pager.pinned m.ledger (recount-whole m.pager.levels.parts q m.pager.levels.whole c.raise_word.ensures.parts c.raise_word.ensures.recount) (recount-kept m.pager.levels.parts q m.regs m.pager.pinned m.ledger m.pager.levels.whole c.requires.sound.kept c.raise_word.ensures.parts c.raise_word.ensures.recount c.raise_word.ensures.segment))
    (old-there m.regs c.index.result c.index.result c.index.result refl refl c.index.ensures.within c.requires.sound.kept.many) is

pub put_field-requires-clause-some : goal.put_field-requires-clause-some
put_field-requires-clause-some g c = λ e. c.requires.sound.kept.filled c.args.from (sym (word-is c.args.self.now.regs c.index.result c.args.from c.index.ensures.same c.index.ensures.within c.requires.sound.kept.many) ∙ e)

pub lower_word-requires-clause-used : goal.lower_word-requires-clause-used
lower_word-requires-clause-used g c = λ is. (c.put_field.ensures.within.live c.args.old (recount-used (core_of c.args.self.now.pager.levels.parts) (core_of c.raise_word.new.p) c.args.old c.raise_word.ensures.recount ∙ c.requires.used is)).0

pub note_gone-requires-clause-used : goal.note_gone-requires-clause-used
note_gone-requires-clause-used g c = λ is.
    recount-used (core_of c.put_field.new.p) (core_of c.lower_word.new.p) c.args.old c.lower_word.ensures.recount
    ∙ (c.put_field.ensures.within.live c.args.old (recount-used (core_of c.args.self.now.pager.levels.parts) (core_of c.raise_word.new.p) c.args.old c.raise_word.ensures.recount ∙ c.requires.used is)).0

-- ---- the three steps

place-one : (g : given.Over) (c : goal.After-note_gone g) → place_of ((core_of c.raise_word.new.p).entries c.args.s.0).state ≡ Some c.args.at.place
place-one g c = recount-place (core_of c.args.self.now.pager.levels.parts) (core_of c.raise_word.new.p) c.args.s.0 c.raise_word.ensures.recount ∙ c.requires.there.1.place

whole-one : (g : given.Over) (c : goal.After-note_gone g) → IsWhole c.raise_word.new.p
whole-one g c = let l = c.args.self.now.pager.levels in recount-whole l.parts c.raise_word.new.p l.whole c.raise_word.ensures.parts c.raise_word.ensures.recount

whole-two : (g : given.Over) (c : goal.After-note_gone g) → IsWhole c.put_field.new.p
whole-two g c =
    let l = c.args.self.now.pager.levels in
    let entry = c.put_field.ensures.entry in
    store-whole c.raise_word.new.p c.put_field.new.p c.args.s.0 c.args.at.place (whole-one g c) c.put_field.ensures.parts c.put_field.ensures.within
    (recount-place (core_of l.parts) (core_of c.raise_word.new.p) c.args.s.0 c.raise_word.ensures.recount ∙ c.requires.there.1.place) (ap (λ (e : Entry). place_of e.state) entry) (ap (λ (e : Entry). e.name) entry)

kept-one : (g : given.Over) (c : goal.After-note_gone g) → IsKept c.raise_word.new.p c.args.self.now.regs c.args.self.now.pager.pinned c.args.self.now.ledger
kept-one g c = let m = c.args.self.now in recount-kept m.pager.levels.parts c.raise_word.new.p m.regs m.pager.pinned m.ledger m.pager.levels.whole c.requires.sound.kept c.raise_word.ensures.parts c.raise_word.ensures.recount c.raise_word.ensures.segment

kept-two : (g : given.Over) (c : goal.After-note_gone g) → IsKept c.put_field.new.p c.args.self.now.regs c.args.self.now.pager.pinned c.args.self.now.ledger
kept-two g c = let m = c.args.self.now in stored-kept c.raise_word.new.p c.put_field.new.p m.regs m.pager.pinned m.ledger c.args.s.0 c.args.at.place (whole-one g c) (kept-one g c) c.put_field.ensures.parts c.put_field.ensures.within (place-one g c) (ap (λ (e : Entry). place_of e.state) c.put_field.ensures.entry) (ap (λ (e : Entry). e.name) c.put_field.ensures.entry) c.put_field.ensures.size

over-one : (g : given.Over) (c : goal.After-note_gone g) → IsOver g.H.Host c.args.self.now.pager.levels.disk.host.now c.args.self.now.pager.levels.disk.rest (core_of c.raise_word.new.p) c.args.self.now.ledger
over-one g c = let m = c.args.self.now in recount-over g.H.Host m.pager.levels.disk.host.now m.pager.levels.disk.rest (core_of m.pager.levels.parts) (core_of c.raise_word.new.p) m.ledger c.requires.sound.over c.raise_word.ensures.recount

over-two : (g : given.Over) (c : goal.After-note_gone g) → IsOver g.H.Host c.args.self.now.pager.levels.disk.host.now c.args.self.now.pager.levels.disk.rest (core_of c.put_field.new.p) c.args.self.now.ledger
over-two g c = let m = c.args.self.now in stored-over g.H.Host m.pager.levels.disk.host.now m.pager.levels.disk.rest (core_of c.raise_word.new.p) (core_of c.put_field.new.p) m.ledger c.args.s.0 (over-one g c) c.put_field.ensures.within (ap fresh_by c.put_field.ensures.entry) c.put_field.ensures.backed c.put_field.ensures.valued

told-one : (g : given.Over) (c : goal.After-note_gone g) → told_of g.H.Host c.args.self.now.pager.levels.disk.host.now c.args.self.now.pager.levels.disk.rest (core_of c.raise_word.new.p) c.args.self.now.regs c.args.self.now.pager.pinned c.args.self.now.ledger ≡ told_of g.H.Host c.args.self.now.pager.levels.disk.host.now c.args.self.now.pager.levels.disk.rest (core_of c.args.self.now.pager.levels.parts) c.args.self.now.regs c.args.self.now.pager.pinned c.args.self.now.ledger
told-one g c = let m = c.args.self.now in recount-told g.H.Host m.pager.levels.disk.host.now m.pager.levels.disk.rest m.pager.levels.parts c.raise_word.new.p m.regs m.pager.pinned m.ledger m.pager.levels.whole c.requires.sound.kept c.requires.sound.over c.raise_word.ensures.parts c.raise_word.ensures.recount

told-three : (g : given.Over) (c : goal.After-note_gone g) → told_of g.H.Host c.args.self.now.pager.levels.disk.host.now c.args.self.now.pager.levels.disk.rest (core_of c.lower_word.new.p) c.args.self.now.regs c.args.self.now.pager.pinned c.args.self.now.ledger ≡ told_of g.H.Host c.args.self.now.pager.levels.disk.host.now c.args.self.now.pager.levels.disk.rest (core_of c.put_field.new.p) c.args.self.now.regs c.args.self.now.pager.pinned c.args.self.now.ledger
told-three g c = let m = c.args.self.now in recount-told g.H.Host m.pager.levels.disk.host.now m.pager.levels.disk.rest c.put_field.new.p c.lower_word.new.p m.regs m.pager.pinned m.ledger (whole-two g c) (kept-two g c) (over-two g c) c.lower_word.ensures.parts c.lower_word.ensures.recount

-- ---- what they leave

exact-one : (g : given.Over) (c : goal.After-note_gone g) → IsExact g.H.Host c.raise_word.new.p c.args.self.now.pager.levels.disk.host.now c.args.self.now.pager.levels.disk.rest c.args.self.now.ledger.next (meant (core_of c.raise_word.new.p).entries [] 0 (slice_index_or c.args.self.now.regs c.index.result 0) ∷ [])
exact-one g c =
    let m = c.args.self.now in
    let w = slice_index_or m.regs c.index.result 0 in
    subst (λ (u : Value). IsExact g.H.Host c.raise_word.new.p m.pager.levels.disk.host.now m.pager.levels.disk.rest m.ledger.next (u ∷ [])) (sym (recount-meant (core_of m.pager.levels.parts) (core_of c.raise_word.new.p) w c.raise_word.ensures.recount))
    (exact-raised g.H.Host m.pager.levels.parts c.raise_word.new.p m.pager.levels.disk.host.now m.pager.levels.disk.rest m.ledger.next w c.requires.sound.exact
    (λ is. outside-used (core_of m.pager.levels.parts) w c.args.self.now.pager.levels.whole.parts.core (register-held (core_of m.pager.levels.parts) m.regs m.pager.pinned c.index.result w (kept-rooted m.pager.levels.parts m.regs m.pager.pinned m.ledger m.pager.levels.whole c.requires.sound.kept) (old-there m.regs c.index.result c.index.result c.index.result refl refl c.index.ensures.within c.requires.sound.kept.many) is))
    c.raise_word.ensures.raised c.raise_word.ensures.same)

exchanged-of : (g : given.Over) (c : goal.After-note_gone g) → IsTrue (g.H.Host.tells Work) → IsExchange (core_of c.raise_word.new.p) (core_of c.put_field.new.p) (disk_of g.H.Host c.args.self.now.pager.levels.disk.host.now c.args.self.now.pager.levels.disk.rest) c.args.s.0 c.args.at.place c.args.i
    (meant (core_of c.args.self.now.pager.levels.parts).entries [] 0 c.args.old) (meant (core_of c.raise_word.new.p).entries [] 0 (slice_index_or c.args.self.now.regs c.index.result 0))
unfolding loom_told
exchanged-of g c = λ told.
    let m = c.args.self.now in
    let q = c.raise_word.new.p in
    let s = c.args.s.0 in
    let p = c.args.at.place in
    let disk = disk_of g.H.Host m.pager.levels.disk.host.now m.pager.levels.disk.rest in
    let core = c.raise_word.ensures.parts.core in
    let used = placed-used ((core_of q).entries s).state p (place-one g c) in
    record {
      core = c.put_field.ensures.parts.core;
      backed = c.put_field.ensures.backed disk ((over-one g c).backed told);
      place = place-one g c;
      field = field-before (g.H.Host.tells Work) (core_of q) disk m.ledger.next s p c.args.of c.args.i (meant (core_of m.pager.levels.parts).entries [] 0 c.args.old) (λ r. meant (core_of q).entries [] 0 (word_in m.regs r)) told core (place-one g c) (ap (meant (core_of q).entries [] 0) (sym c.requires.word))
          (subst (λ (t : Told). brought t.heap t.regs (Field 0 c.args.of c.args.i) ≡ Some (meant (core_of m.pager.levels.parts).entries [] 0 c.args.old)) (sym (told-one g c)) (c.requires.before told));
      stored = c.put_field.ensures.held disk (object_at (core_of q) disk ((core_of q).entries s) p) ((over-one g c).backed told) (held-at (core_of q) disk ((core_of q).entries s).name s p (core.found s used) (place-one g c));
      valued = c.put_field.ensures.valued disk ((over-one g c).backed told) ((over-one g c).valued told);
      find = c.put_field.ensures.find;
      changes = c.put_field.ensures.within.changes;
    }

exact-two : (g : given.Over) (c : goal.After-note_gone g) → IsExact g.H.Host c.put_field.new.p c.args.self.now.pager.levels.disk.host.now c.args.self.now.pager.levels.disk.rest c.args.self.now.ledger.next (meant (core_of c.args.self.now.pager.levels.parts).entries [] 0 c.args.old ∷ [])
exact-two g c =
    let m = c.args.self.now in
    let q = c.raise_word.new.p in
    exact-exchanged g.H.Host q c.put_field.new.p m.pager.levels.disk.host.now m.pager.levels.disk.rest m.ledger.next c.args.s.0 c.args.at.place c.args.i (meant (core_of m.pager.levels.parts).entries [] 0 c.args.old) (meant (core_of q).entries [] 0 (slice_index_or m.regs c.index.result 0)) (exact-one g c) (exchanged-of g c)

pub returns-clause-stored : goal.returns-clause-stored
unfolding loom_told
returns-clause-stored g c =
    let m = c.args.self.now in
    let q = c.raise_word.new.p in
    let s = c.args.s.0 in
    let p = c.args.at.place in
    let disk = disk_of g.H.Host m.pager.levels.disk.host.now m.pager.levels.disk.rest in
    let core = c.raise_word.ensures.parts.core in
    let used = placed-used ((core_of q).entries s).state p (place-one g c) in
    let there = held-at (core_of q) disk ((core_of q).entries s).name s p (core.found s used) (place-one g c) in
    stored-between _ _ _ _ (SetField c.args.of c.args.i c.args.from) (told-one g c) (told-three g c)
    (stored-is g.H.Host (over_parts m q (whole-one g c)) c.put_field.new.p (SetField c.args.of c.args.i c.args.from) c.args.of s p (kept-one g c) c.put_field.ensures.parts c.put_field.ensures.within (place-one g c)
    (ap (λ (e : Entry). place_of e.state) c.put_field.ensures.entry) (ap (λ (e : Entry). e.name) c.put_field.ensures.entry) (recount-mark (core_of m.pager.levels.parts) (core_of q) s c.raise_word.ensures.recount ∙ c.requires.gone) refl refl c.requires.word
    (λ told.
    stored-told (g.H.Host.tells Work) (core_of q) (core_of c.put_field.new.p) disk disk m.ledger.next c.args.of c.args.i c.args.from ((core_of q).entries s).name (λ r. meant (core_of q).entries [] 0 (word_in m.regs r)) (object_at (core_of q) disk ((core_of q).entries s) p) (meant (core_of q).entries [] 0 (slice_index_or m.regs c.index.result 0)) told
    (ap (meant (core_of q).entries [] 0) (sym c.requires.word) ∙ meant-short (core_of q).entries [] 0 s (core.short s used))
    there
    (ap (meant (core_of q).entries [] 0) (sym (word-is m.regs c.index.result c.args.from c.index.ensures.same c.index.ensures.within c.requires.sound.kept.many)))
    (c.put_field.ensures.held disk (object_at (core_of q) disk ((core_of q).entries s) p) ((over-one g c).backed told) there)))

-- the entry of the word that went is as it was
alive : (g : given.Over) (c : goal.After-note_gone g) → is_short c.args.old ≡ true → (is_used ((core_of c.lower_word.new.p).entries c.args.old).state ≡ true) × (((core_of c.lower_word.new.p).entries c.args.old).name ≡ ((core_of c.args.self.now.pager.levels.parts).entries c.args.old).name)
alive g c is =
    let x = core_of c.args.self.now.pager.levels.parts in
    let a = core_of c.raise_word.new.p in
    let b = core_of c.put_field.new.p in
    let d = core_of c.lower_word.new.p in
    let two = c.put_field.ensures.within.live c.args.old (recount-used x a c.args.old c.raise_word.ensures.recount ∙ c.requires.used is) in (
      recount-used b d c.args.old c.lower_word.ensures.recount ∙ two.0,
      recount-name b d c.args.old c.lower_word.ensures.recount ∙ two.1 ∙ recount-name x a c.args.old c.raise_word.ensures.recount,
    )

pub returns-clause-leaves : goal.returns-clause-leaves
unfolding loom_outside
returns-clause-leaves g c = record {
  sound =
      let m = c.args.self.now in
      let old : meant (core_of c.put_field.new.p).entries [] 0 c.args.old ≡ meant (core_of m.pager.levels.parts).entries [] 0 c.args.old = meant-names (core_of m.pager.levels.parts).entries (core_of c.put_field.new.p).entries [] 0 c.args.old
      (λ is. (c.put_field.ensures.within.live c.args.old (recount-used (core_of m.pager.levels.parts) (core_of c.raise_word.new.p) c.args.old c.raise_word.ensures.recount ∙ c.requires.used is)).1 ∙ recount-name (core_of m.pager.levels.parts) (core_of c.raise_word.new.p) c.args.old c.raise_word.ensures.recount) in
      let kept_ = recount-kept c.put_field.new.p c.lower_word.new.p m.regs m.pager.pinned m.ledger (whole-two g c) (kept-two g c) c.lower_word.ensures.parts c.lower_word.ensures.recount c.lower_word.ensures.segment in
      let exact_ = exact-lowered g.H.Host c.put_field.new.p c.lower_word.new.p m.pager.levels.disk.host.now m.pager.levels.disk.rest m.ledger.next c.args.old
      (subst (λ (u : Value). IsExact g.H.Host c.put_field.new.p m.pager.levels.disk.host.now m.pager.levels.disk.rest m.ledger.next (u ∷ [])) (sym old) (exact-two g c))
      (λ is. (c.put_field.ensures.within.live c.args.old (recount-used (core_of m.pager.levels.parts) (core_of c.raise_word.new.p) c.args.old c.raise_word.ensures.recount ∙ c.requires.used is)).0)
      c.lower_word.ensures.lowered c.lower_word.ensures.same in
      record {
        kept = kept_;
        over = recount-over g.H.Host m.pager.levels.disk.host.now m.pager.levels.disk.rest (core_of c.put_field.new.p) (core_of c.lower_word.new.p) m.ledger (over-two g c) c.lower_word.ensures.recount;
        exact = exact_;
        soon = c.requires.sound.soon;
        thin = thin-exchanged g.H.Host m c.raise_word.new.p c.put_field.new.p c.lower_word.new.p _ c.note_gone.new.thinned c.args.s.0 c.args.at.place c.args.i c.args.old (meant (core_of m.pager.levels.parts).entries [] 0 c.args.old) (meant (core_of c.raise_word.new.p).entries [] 0 (slice_index_or m.regs c.index.result 0)) c.requires.sound kept_ exact_
            (ap (λ (t : Told). t.regs) (returns-clause-stored g c).same) (ap (λ (t : Told). t.slots) (returns-clause-stored g c).same)
            c.raise_word.ensures.parts.core (λ told. (c.raise_word.ensures.recount.stays (disk_of g.H.Host m.pager.levels.disk.host.now m.pager.levels.disk.rest) (c.requires.sound.over.backed told)).held)
            (exchanged-of g c) (λ told. (c.lower_word.ensures.recount.stays (disk_of g.H.Host m.pager.levels.disk.host.now m.pager.levels.disk.rest) ((over-two g c).backed told)).held) refl
            (λ is. (alive g c is)) (λ on. c.note_gone.ensures.was on) (λ on. c.note_gone.ensures.named on);
      };
  lender = refl;
  outside = refl;
}

pub returns-clause-resting : goal.returns-clause-resting
returns-clause-resting g c =
    let x = core_of c.args.self.now.pager.levels.parts in
    let a = core_of c.raise_word.new.p in
    let b = core_of c.put_field.new.p in
    let d = core_of c.lower_word.new.p in
    rest-refl c.args.self.now _ (remains-trans x a d (recount-remains x a c.raise_word.ensures.recount) (remains-trans a b d (store-remains c.args.s.0 a b c.put_field.ensures.within (ap (λ (e : Entry). place_of e.state) c.put_field.ensures.entry) (ap (λ (e : Entry). e.name) c.put_field.ensures.entry)) (recount-remains b d c.lower_word.ensures.recount))) refl refl refl

pub returns-clause-cached : goal.returns-clause-cached
returns-clause-cached g c =
    let x = core_of c.args.self.now.pager.levels.parts in
    let a = core_of c.raise_word.new.p in
    let b = core_of c.put_field.new.p in
    let d = core_of c.lower_word.new.p in
    marks-keep g.H.Host c.args.self.now _ c.requires.sound c.lower_word.ensures.parts.core
    (Kept-trans x a d (recount-marks x a c.raise_word.ensures.recount) (Kept-trans a b d (within-marks a b c.args.s.0 c.raise_word.ensures.parts.core c.put_field.ensures.parts.core c.put_field.ensures.within) (recount-marks b d c.lower_word.ensures.recount))) refl

pub returns-clause-none : goal.returns-clause-none
returns-clause-none g c =
    let x = core_of c.args.self.now.pager.levels.parts in
    let a = core_of c.raise_word.new.p in
    let b = core_of c.put_field.new.p in
    let d = core_of c.lower_word.new.p in
    remains-trans d a x (remains-trans d b a (recount-none b d c.lower_word.ensures.recount) (came-remains a b (stored-came a b c.args.s.0 c.put_field.ensures.within (ap (λ (e : Entry). place_of e.state) c.put_field.ensures.entry) (ap (λ (e : Entry). e.name) c.put_field.ensures.entry)))) (recount-none x a c.raise_word.ensures.recount)

pub returns-clause-stays : goal.returns-clause-stays
returns-clause-stays g c = c.note_gone.ensures.stays

pub invariant_of-levels : goal.invariant_of-levels
invariant_of-levels g c =
    let l = c.args.self.now.pager.levels in
    let entry = c.put_field.ensures.entry in
    let one = recount-whole l.parts c.raise_word.new.p l.whole c.raise_word.ensures.parts c.raise_word.ensures.recount in
    let two = store-whole c.raise_word.new.p c.put_field.new.p c.args.s.0 c.args.at.place one c.put_field.ensures.parts c.put_field.ensures.within
    (recount-place (core_of l.parts) (core_of c.raise_word.new.p) c.args.s.0 c.raise_word.ensures.recount ∙ c.requires.there.1.place) (ap (λ (e : Entry). place_of e.state) entry) (ap (λ (e : Entry). e.name) entry) in
    record { whole = recount-whole c.put_field.new.p c.lower_word.new.p two c.lower_word.ensures.parts c.lower_word.ensures.recount }
