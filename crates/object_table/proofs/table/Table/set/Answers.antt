use Rattle.std.proofs.Common.{ℕ, ◌≡◌, ◌<◌, true, List, slice_set, ◌/◌, ◌-◌, length, sym, ◌∙◌, ap, subst, arith}
use Rattle.std.proofs.Math.ListN.{length-set}
use Rattle.object_table.specs.declared.entry.Entry.{Entry}
use Rattle.object_table.specs.declared.table.Table.{Table}
use Rattle.object_table.specs.Entries.{is_short, is_used, put, free_entry}
use Rattle.object_table.specs.Table.{entry_at, entries_of, free_of}
use Rattle.object_table.proofs.ShortLaws.{at_short, at_short-set}
use Rattle.object_table.proofs.VacantLaws.{known-set, used-bound, used-within, free-is}
use Rattle.object_table.proofs.NoteLaws.{noted-set}
use Rattle.object_table.proofs.table.Table.set.Goals as goal

pub note-requires : goal.note-requires
unfolding entry_at
note-requires c = used-within c.args.self.now.entries.items c.args.s.0 c.index-place.result c.index-place.ensures c.requires.short c.requires.used

-- the same entries, behind the note
low : (old new : Table) (s i : ℕ) → new.entries ≡ old.entries → i ≡ s / 2 - 1 → is_short s ≡ true → is_used (at_short free_entry old.entries.items s).state ≡ true → i < length new.entries.items
low old new s i same at short used = subst (λ (l : List Entry). i < length l) (sym (ap (λ v. v.items) same)) (used-within old.entries.items s i at short used)

pub index_mut-requires : goal.index_mut-requires
unfolding entry_at
index_mut-requires c =
    subst (λ (z : ℕ). c.index-place.result < z) (sym c.note.new.self.entries.ok.0)
    (low c.args.self.now c.note.new.self c.args.s.0 c.index-place.result c.note.ensures.entries c.index-place.ensures c.requires.short c.requires.used)

used : (old new : Table) (s : ℕ) → new.entries ≡ old.entries → is_used (at_short free_entry old.entries.items s).state ≡ true → is_used (at_short free_entry new.entries.items s).state ≡ true
used old new s same h = subst (λ (l : List Entry). is_used (at_short free_entry l s).state ≡ true) (sym (ap (λ v. v.items) same)) h

pub invariant_of-self : goal.invariant_of-self
unfolding entry_at
invariant_of-self c =
    let t = c.note.new.self in
    let i = c.index-place.result in
    let now = used c.args.self.now t c.args.s.0 c.note.ensures.entries c.requires.used in
    let size = length-set t.entries.items i c.args.e in
    record {
      small = t.small;
      within = let within = t.within in omega arith;
      known = known-set t.entries.items t.vacant.items c.args.s.0 i c.args.e t.known c.index-place.ensures c.requires.short now c.requires.stays;
      counted = let counted = t.counted in omega arith;
      marks = noted-set t.entries.items t.listed.items t.noted.items i c.args.e t.marks (used-within t.entries.items c.args.s.0 i c.index-place.ensures c.requires.short now) c.note.ensures.noted;
      rooms = t.rooms;
    }

pub returns-clause-entry : goal.returns-clause-entry
unfolding entry_at
returns-clause-entry c =
    let t = c.note.new.self in
    let now = used c.args.self.now t c.args.s.0 c.note.ensures.entries c.requires.used in
    at_short-set free_entry t.entries.items c.args.s.0 c.index-place.result c.args.e c.index-place.ensures c.requires.short
    (used-bound t.entries.items c.args.s.0 c.requires.short now)
    ∙ ap (λ (l : List Entry). put (at_short free_entry l) c.args.s.0 c.args.e) (ap (λ v. v.items) c.note.ensures.entries)

pub returns-clause-entries : goal.returns-clause-entries
unfolding entries_of
returns-clause-entries c = c.note.ensures.size

pub returns-clause-free : goal.returns-clause-free
unfolding free_of entry_at
returns-clause-free c =
    let t = c.note.new.self in
    let o = c.args.self.now in
    let i = c.index-place.result in
    let now = used o t c.args.s.0 c.note.ensures.entries c.requires.used in
    let size = length-set t.entries.items i c.args.e in
    let within = t.within in
    let counted = t.counted in
    free-is (slice_set t.entries.items i c.args.e) t.vacant.items t.size t.free
    (known-set t.entries.items t.vacant.items c.args.s.0 i c.args.e t.known c.index-place.ensures c.requires.short now c.requires.stays) (omega arith) (omega arith)
    ∙ c.note.ensures.free ∙ sym (free-is o.entries.items o.vacant.items o.size o.free o.known o.within o.counted)
