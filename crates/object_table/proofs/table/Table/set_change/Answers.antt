use Rattle.std.proofs.Common.{ℕ, ℤ, to_z, of_z, ◌<◌, refl, sym, ◌∙◌, ap, subst, arith}
use Rattle.std.specs.Int.{w64}
use Rattle.std.proofs.lemmas.Int.{to_z-of_z}
use Rattle.std.proofs.Math.ListN.{length-set}
use Rattle.object_table.specs.declared.entry.Entry.{Entry}
use Rattle.object_table.specs.Entries.{put, with_change_of}
use Rattle.object_table.specs.Table.{entry_at, entries_of, free_of}
use Rattle.object_table.proofs.UsedLaws.{used-short, used-low, field-known, field-noted, field-entry, field-free}
use Rattle.object_table.proofs.table.Table.set_change.Goals as goal

pub index-place-requires : goal.index-place-requires
unfolding entry_at
index-place-requires c = used-short c.args.self.now.entries.items c.args.s.0 c.requires

pub index_mut-requires : goal.index_mut-requires
unfolding entry_at
index_mut-requires c =
    subst (λ (z : ℕ). c.index-place.result < z) (sym c.args.self.now.entries.ok.0)
    (used-low c.args.self.now.entries.items c.args.s.0 c.index-place.result c.index-place.ensures c.requires)

pub invariant_of-self : goal.invariant_of-self
unfolding entry_at
invariant_of-self c =
    let t = c.args.self.now in
    let i = c.index-place.result in
    let r = c.index_mut.result.now in
    let e = with_change_of r (to_z w64 (of_z w64 c.args.change)) in
    let size = length-set t.entries.items i e in
    record {
      small = t.small;
      within = let within = t.within in omega arith;
      known = field-known t.entries.items t.vacant.items c.args.s.0 i r e t.known c.index-place.ensures c.requires c.index_mut.ensures.value refl;
      counted = let counted = t.counted in omega arith;
      marks = field-noted t.entries.items t.listed.items t.noted.items c.args.s.0 i r e t.marks c.index-place.ensures c.requires c.index_mut.ensures.value refl;
      rooms = t.rooms;
    }

pub returns-clause-entry : goal.returns-clause-entry
unfolding entry_at
returns-clause-entry c =
    let t = c.args.self.now in
    field-entry (λ (e : Entry). with_change_of e (to_z w64 (of_z w64 c.args.change))) t.entries.items c.args.s.0 c.index-place.result c.index_mut.result.now
    c.index-place.ensures c.requires c.index_mut.ensures.value
    ∙ ap (λ (z : ℤ). put (entry_at t) c.args.s.0 (with_change_of (entry_at t c.args.s.0) z)) (to_z-of_z w64 c.args.change c.ranges.change)

pub returns-clause-entries : goal.returns-clause-entries
unfolding entries_of
returns-clause-entries c = refl

pub returns-clause-free : goal.returns-clause-free
unfolding free_of entry_at
returns-clause-free c =
    let t = c.args.self.now in
    let r = c.index_mut.result.now in
    field-free t.entries.items t.vacant.items t.size t.free c.args.s.0 c.index-place.result r (with_change_of r (to_z w64 (of_z w64 c.args.change))) t.known t.within t.counted
    c.index-place.ensures c.requires c.index_mut.ensures.value refl
