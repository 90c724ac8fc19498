use Rattle.std.proofs.Common.{ℕ, ◌/◌, ◌-◌, false, ◌≡◌, ◌<◌, ◌+◌, List, [], ◌∷◌, ◌++◌, length, slice_set, true, sym, ◌∙◌, ap, subst, arith, refl}
use Rattle.std.proofs.Math.ListN.{length-set}
use Rattle.std.proofs.lemmas.List.{length_push}
use Rattle.object_table.specs.declared.entry.Entry.{Entry}
use Rattle.object_table.specs.Entries.{put, is_short, is_used, free_entry}
use Rattle.object_table.specs.Inside.{IsVacant}
use Rattle.object_table.specs.Table.{entry_at, entries_of, free_of}
use Rattle.object_table.proofs.ShortLaws.{at_short, at_short-set}
use Rattle.object_table.proofs.VacantLaws.{free-is, known-give, known-room, used-bound, used-within}
use Rattle.object_table.proofs.NoteLaws.{noted-set}
use Rattle.object_table.proofs.table.Table.give.Goals as goal

pub index_mut-requires : goal.index_mut-requires
unfolding entry_at
index_mut-requires c =
    subst (λ (z : ℕ). c.index-place.result < z) (sym c.args.self.now.entries.ok.0)
    (used-within c.args.self.now.entries.items c.args.s.0 c.index-place.result c.index-place.ensures c.requires.short c.requires.used)

pub push_reserved-requires : goal.push_reserved-requires
unfolding entry_at
push_reserved-requires c =
    let t = c.args.self.now in
    let room = known-room t.entries.items t.vacant.items c.args.s.0 c.index-place.result t.known c.index-place.ensures c.requires.short c.requires.used in
    let size = t.vacant.ok.0 in
    let within = t.within in
    omega (arith, t.rooms.1)

none-is : (entries : List Entry) (places places' : List ℕ) (i s : ℕ) (none : Entry) → IsVacant entries places → i ≡ s / 2 - 1 → is_short s ≡ true
    → is_used (at_short free_entry entries s).state ≡ true → none ≡ free_entry → places' ≡ places ++ i ∷ [] → IsVacant (slice_set entries i none) places'
none-is entries places places' i s none v at short used is more =
    subst (λ (x : Entry). IsVacant (slice_set entries i x) places') (sym is)
    (subst (λ (l : List ℕ). IsVacant (slice_set entries i free_entry) l) (sym more) (known-give entries places s i v at short used))

clash : true ≡ false → ⊥
clash h = cc

pub invariant_of-self : goal.invariant_of-self
unfolding entry_at
invariant_of-self c =
    let t = c.args.self.now in
    let i = c.index-place.result in
    let size = length-set t.entries.items i c.none.result in
    let more = ap (λ (l : List ℕ). length l) c.push_reserved.ensures.items in
    let one = length_push t.vacant.items i in
    let low = used-within t.entries.items c.args.s.0 i c.index-place.ensures c.requires.short c.requires.used in
    record {
      small = t.small;
      within = let within = t.within in omega arith;
      known = none-is t.entries.items t.vacant.items c.push_reserved.new.self.items i c.args.s.0 c.none.result t.known c.index-place.ensures
          c.requires.short c.requires.used c.none.ensures c.push_reserved.ensures.items;
      counted = let counted = t.counted in omega arith;
      marks = noted-set t.entries.items t.listed.items t.noted.items i c.none.result t.marks low (λ h. absurd (clash (sym h ∙ ap (λ (x : Entry). x.flags.marked) c.none.ensures)));
      rooms = (t.rooms.0, omega (arith, t.rooms.1, c.push_reserved.ensures.capacity), t.rooms.2, t.rooms.3);
    }

pub returns-clause-entry : goal.returns-clause-entry
unfolding entry_at
returns-clause-entry c =
    let t = c.args.self.now in
    at_short-set free_entry t.entries.items c.args.s.0 c.index-place.result c.none.result c.index-place.ensures c.requires.short
    (used-bound t.entries.items c.args.s.0 c.requires.short c.requires.used)
    ∙ ap (put (at_short free_entry t.entries.items) c.args.s.0) c.none.ensures

pub returns-clause-entries : goal.returns-clause-entries
unfolding entries_of
returns-clause-entries c = refl

pub returns-clause-free : goal.returns-clause-free
unfolding free_of entry_at
returns-clause-free c =
    let t = c.args.self.now in
    let i = c.index-place.result in
    let size = length-set t.entries.items i c.none.result in
    let more = ap (λ (l : List ℕ). length l) c.push_reserved.ensures.items in
    let one = length_push t.vacant.items i in
    let old = free-is t.entries.items t.vacant.items t.size t.free t.known t.within t.counted in
    let within = t.within in
    let counted = t.counted in
    let new = free-is (slice_set t.entries.items i c.none.result) c.push_reserved.new.self.items t.size (t.free + 1)
    (none-is t.entries.items t.vacant.items c.push_reserved.new.self.items i c.args.s.0 c.none.result t.known c.index-place.ensures
    c.requires.short c.requires.used c.none.ensures c.push_reserved.ensures.items) (omega arith) (omega arith) in
    omega arith
