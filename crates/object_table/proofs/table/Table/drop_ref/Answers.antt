use Rattle.std.proofs.Common.{ℕ, ◌≡◌, ◌<◌, ◌-◌, ◌/◌, true, List, slice_set, get_or, refl, sym, ◌∙◌, ap, subst, arith}
use Rattle.std.proofs.Math.ListN.{length-set}
use Rattle.std.proofs.lemmas.List.{get_or_default}
use Rattle.object_table.specs.declared.entry.Entry.{Entry}
use Rattle.object_table.specs.Entries.{is_short, is_used, put, free_entry, with_refs}
use Rattle.object_table.specs.Table.{entry_at, entries_of, free_of}
use Rattle.object_table.proofs.ShortLaws.{at_short, at_short-is, at_short-set}
use Rattle.object_table.proofs.VacantLaws.{known-set, used-bound, used-within, free-is}
use Rattle.object_table.proofs.NoteLaws.{noted-set}
use Rattle.object_table.proofs.table.Table.drop_ref.Goals as goal

pub index_mut-requires : goal.index_mut-requires
unfolding entry_at
index_mut-requires c =
    subst (λ (z : ℕ). c.index-place.result < z) (sym c.args.self.now.entries.ok.0)
    (used-within c.args.self.now.entries.items c.args.s.0 c.index-place.result c.index-place.ensures c.requires.short c.requires.used)

-- the entry that is changed is that of the short name
here : (entries : List Entry) (s i : ℕ) (e : Entry) → i ≡ s / 2 - 1 → is_short s ≡ true → is_used (at_short free_entry entries s).state ≡ true → e ≡ get_or entries i e → e ≡ at_short free_entry entries s
here entries s i e at short used is =
    is ∙ get_or_default entries i e free_entry (used-within entries s i at short used) ∙ sym (at_short-is free_entry entries s i at short)

pub invariant_of-self : goal.invariant_of-self
unfolding entry_at
invariant_of-self c =
    let t = c.args.self.now in
    let i = c.index-place.result in
    let r = c.index_mut.result.now in
    let same = here t.entries.items c.args.s.0 i r c.index-place.ensures c.requires.short c.requires.used c.index_mut.ensures.value in
    let low = used-within t.entries.items c.args.s.0 i c.index-place.ensures c.requires.short c.requires.used in
    let size = length-set t.entries.items i (with_refs r (r.refs - 1)) in
    record {
      small = t.small;
      within = let within = t.within in omega arith;
      known = known-set t.entries.items t.vacant.items c.args.s.0 i (with_refs r (r.refs - 1)) t.known c.index-place.ensures c.requires.short c.requires.used (ap (λ (e : Entry). is_used e.state) same ∙ c.requires.used);
      counted = let counted = t.counted in omega arith;
      marks = noted-set t.entries.items t.listed.items t.noted.items i (with_refs r (r.refs - 1)) t.marks low (λ h. t.marks.every i (sym (ap (λ (e : Entry). e.flags.marked) (c.index_mut.ensures.value ∙ get_or_default t.entries.items i r free_entry low)) ∙ h));
      rooms = t.rooms;
    }

pub returns-clause-entry : goal.returns-clause-entry
unfolding entry_at
returns-clause-entry c =
    let t = c.args.self.now in
    let i = c.index-place.result in
    let r = c.index_mut.result.now in
    let same = here t.entries.items c.args.s.0 i r c.index-place.ensures c.requires.short c.requires.used c.index_mut.ensures.value in
    at_short-set free_entry t.entries.items c.args.s.0 i (with_refs r (r.refs - 1)) c.index-place.ensures c.requires.short (used-bound t.entries.items c.args.s.0 c.requires.short c.requires.used)
    ∙ ap (λ (e : Entry). put (at_short free_entry t.entries.items) c.args.s.0 (with_refs e (e.refs - 1))) same

pub returns-clause-entries : goal.returns-clause-entries
unfolding entries_of
returns-clause-entries c = refl

pub returns-clause-free : goal.returns-clause-free
unfolding free_of entry_at
returns-clause-free c =
    let t = c.args.self.now in
    let i = c.index-place.result in
    let r = c.index_mut.result.now in
    let same = here t.entries.items c.args.s.0 i r c.index-place.ensures c.requires.short c.requires.used c.index_mut.ensures.value in
    let size = length-set t.entries.items i (with_refs r (r.refs - 1)) in
    let within = t.within in
    let counted = t.counted in
    free-is (slice_set t.entries.items i (with_refs r (r.refs - 1))) t.vacant.items t.size t.free
    (known-set t.entries.items t.vacant.items c.args.s.0 i (with_refs r (r.refs - 1)) t.known c.index-place.ensures c.requires.short c.requires.used (ap (λ (e : Entry). is_used e.state) same ∙ c.requires.used)) (omega arith) (omega arith)
    ∙ sym (free-is t.entries.items t.vacant.items t.size t.free t.known t.within t.counted)

pub overflow_sub-index_mut : goal.overflow_sub-index_mut
unfolding entry_at
overflow_sub-index_mut c =
    let t = c.args.self.now in
    let same = ap (λ (e : Entry). e.refs) (here t.entries.items c.args.s.0 c.index-place.result c.index_mut.result.now c.index-place.ensures c.requires.short c.requires.used c.index_mut.ensures.value) in
    omega (arith, c.requires.some)
