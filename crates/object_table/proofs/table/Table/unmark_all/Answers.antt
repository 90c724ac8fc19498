use Rattle.std.proofs.Common.{◌≡◌, ℕ, Bool, true, false, List, get_or, ◌/◌, ◌-◌, cond, sym, refl, ◌∙◌, arith}
use Rattle.std.proofs.Math.Path.{fun_ext}
use Rattle.object_table.specs.declared.entry.Entry.{Entry}
use Rattle.object_table.specs.Entries.{free_entry, is_short, with_no_mark}
use Rattle.object_table.specs.Inside.{ArePlain}
use Rattle.object_table.specs.Table.{entry_at, entries_of, free_of}
use Rattle.object_table.proofs.ShortLaws.{at_short}
use Rattle.object_table.proofs.VacantLaws.{free-is, vacant-plain}
use Rattle.object_table.proofs.table.Table.unmark_all.Goals as goal

pub invariant_of-self : goal.invariant_of-self
invariant_of-self c =
    let t = c.args.self.now in
    let n = c.unmark.new in
    let same = c.unmark.ensures.entries.size in
    record {
      small = t.small;
      within = let within = t.within in omega arith;
      known = vacant-plain t.entries.items n.entries.items t.vacant.items c.unmark.ensures.entries t.known;
      counted = let counted = t.counted in omega arith;
      marks = c.unmark.ensures.marks;
      rooms = (omega (arith, t.rooms.0, c.unmark.ensures.rooms.0), t.rooms.1, omega (arith, t.rooms.2, c.unmark.ensures.rooms.1), omega (arith, t.rooms.3, c.unmark.ensures.rooms.2));
    }

plain : (old new : List Entry) → ArePlain old new → at_short free_entry new ≡ (λ s. with_no_mark (at_short free_entry old s))
plain old new p = fun_ext (λ s. go s (is_short s))
  where
    go : (s : ℕ) (b : Bool) → cond b (get_or new (s / 2 - 1) free_entry) free_entry ≡ with_no_mark (cond b (get_or old (s / 2 - 1) free_entry) free_entry)
    go s true = p.plain (s / 2 - 1)
    go s false = refl

pub returns-clause-entry : goal.returns-clause-entry
unfolding entry_at
returns-clause-entry c = plain c.args.self.now.entries.items c.unmark.new.entries.items c.unmark.ensures.entries

pub returns-clause-entries : goal.returns-clause-entries
unfolding entries_of
returns-clause-entries c = refl

pub returns-clause-free : goal.returns-clause-free
unfolding free_of
returns-clause-free c =
    let t = c.args.self.now in
    let n = c.unmark.new in
    let same = c.unmark.ensures.entries.size in
    let within = t.within in
    let counted = t.counted in
    free-is n.entries.items t.vacant.items t.size t.free (vacant-plain t.entries.items n.entries.items t.vacant.items c.unmark.ensures.entries t.known) (omega arith) (omega arith)
    ∙ sym (free-is t.entries.items t.vacant.items t.size t.free t.known t.within t.counted)
