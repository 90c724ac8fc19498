use Rattle.std.specs.List.{slice_index_or}
use Rattle.std.proofs.Common.{ℕ, refl, sym, ◌∙◌, ap, subst}
use Rattle.long_names.specs.State.{name_at}
use Rattle.long_names.specs.Access.{IsUnpinned}
use Rattle.long_names.specs.declared.value.Value.{Value}
use Rattle.object_table.specs.declared.entry.Entry.{Entry}
use Rattle.object_table.specs.Entries.{place_of}
use Rattle.leaf_lambda.specs.Parts.{core_of}
use Rattle.purger.specs.Pager.{core_in}
use Rattle.purger.proofs.RoomLaws.{some-of, none-of}
use Rattle.loom_memory.specs.Memory.{loom_told, word_in}
use Rattle.loom_memory.proofs.RegLaws.{word-is}
use Rattle.loom_memory.proofs.BringLaws.{quiet-same}
use Rattle.loom_memory.proofs.CallLaws.{purge-refused}
use Rattle.loom_memory.proofs.OverLaws.{over_pager}
use Rattle.loom_memory.proofs.PagerLaws.{pager-minds, pager-outside, pager-quiet, pager-ready, pager-sound}
use Rattle.loom_memory.proofs.SwapLaws.{left-others, named-now, unpinned-is}
use Rattle.loom_memory.specs.Residents.{fetched}
use Rattle.loom_memory.proofs.KeepingLaws.{flag-off}
use Rattle.loom_memory.proofs.MindLaws.{marks-keep}
use Rattle.loom_memory.proofs.MindLaws.{minds-refl}
use Rattle.loom_memory.proofs.EffectLaws.{lost-by}
use Rattle.loom_memory.proofs.memory.LoomMemory.put_away.Goals as goal

pub used_entry-requires : goal.used_entry-requires
unfolding core_of
used_entry-requires g c = let m = c.args.self.now in (named-now g.H.Host m c.args.of (slice_index_or m.regs c.index.result 0) c.requires.fit.sound c.requires.fit.ready c.requires.name (word-is m.regs c.index.result c.args.of c.index.ensures.same c.index.ensures.within c.requires.fit.sound.kept.many)).used

pub evict-requires-clause-ready : goal.evict-requires-clause-ready
evict-requires-clause-ready g c = pager-ready g.H.Host c.args.self.now c.requires.fit.sound

pub evict-requires-clause-body : goal.evict-requires-clause-body
unfolding core_of
evict-requires-clause-body g c = let there = some-of c.place.result c.is_some.result c.is_some.ensures c.if-is_some.true in (there.0, ap (λ (e : Entry). place_of e.state) (sym c.used_entry.ensures) ∙ sym c.place.ensures ∙ there.1)

pub evict-requires-clause-loose : goal.evict-requires-clause-loose
unfolding loom_told
evict-requires-clause-loose g c =
    let m = c.args.self.now in
    let w = slice_index_or m.regs c.index.result 0 in
    let same = word-is m.regs c.index.result c.args.of c.index.ensures.same c.index.ensures.within c.requires.fit.sound.kept.many in
    let named = named-now g.H.Host m c.args.of w c.requires.fit.sound c.requires.fit.ready c.requires.name same in
    unpinned-is (core_in m.pager) m.pager.pinned w (λ none. c.requires.fit.sound.kept.filled c.args.of (sym same ∙ none))
    (subst (λ (v : Value). IsUnpinned (loom_told g.H.Host m).slots (name_at v)) named.name c.requires.unpinned)

pub returns-in-Ok-clause-quiet : goal.returns-in-Ok-clause-quiet
returns-in-Ok-clause-quiet g c = pager-quiet g.H.Host c.args.self.now c.evict.new.self c.requires.fit.sound c.evict.ensures.purges.leaves c.in-Ok.ensures.purges.keeps

pub returns-in-Ok-clause-leaves : goal.returns-in-Ok-clause-leaves
unfolding fetched
returns-in-Ok-clause-leaves g c = record {
  sound = pager-sound g.H.Host c.args.self.now c.evict.new.self c.requires.fit.sound c.evict.ensures.purges.leaves c.in-Ok.ensures.purges.keeps;
  fetches = refl;
  lender = c.evict.ensures.purges.leaves.disk.lender;
  outside = pager-outside g.H.Host c.args.self.now c.evict.new.self c.evict.ensures.purges.leaves;
}

pub returns-in-Ok-clause-away : goal.returns-in-Ok-clause-away
returns-in-Ok-clause-away g c =
    let m = c.args.self.now in
    ap (λ (w : ℕ). place_of ((core_in c.evict.new.self).entries w).state) (sym (word-is m.regs c.index.result c.args.of c.index.ensures.same c.index.ensures.within c.requires.fit.sound.kept.many)) ∙ c.in-Ok.ensures.left.gone

pub returns-in-Ok-clause-still : goal.returns-in-Ok-clause-still
returns-in-Ok-clause-still g c = λ r was. c.evict.ensures.purges.leaves.purged.leaves (word_in c.args.self.now.regs r) was

pub returns-in-Err-clause-leaves : goal.returns-in-Err-clause-leaves
unfolding fetched
returns-in-Err-clause-leaves g c = record {
  sound = lost-by c.in-Err.f c.refusal_of-f.result c.refuse.result _ c.refusal_of-f.ensures c.refuse.ensures.result;
  fetches = c.refuse.ensures.brings;
  lender = c.refuse.ensures.lender ∙ c.evict.ensures.purges.leaves.disk.lender;
  outside = c.refuse.ensures.outside ∙ pager-outside g.H.Host c.args.self.now c.evict.new.self c.evict.ensures.purges.leaves;
}

pub returns-in-Err-clause-err : goal.returns-in-Err-clause-err
returns-in-Err-clause-err g c = λ a silent none.
    let m = c.args.self.now in
    let disk = c.evict.ensures.purges.leaves.disk in
    purge-refused g.H.Host m (over_pager m c.evict.new.self) (loom_told g.H.Host c.refuse.new.self) a c.in-Err.f c.refusal_of-f.result c.refuse.result refl disk.work disk.limit
    c.in-Err.ensures.purges.fault c.refusal_of-f.ensures c.refuse.ensures.told c.refuse.ensures.result c.refuse.ensures.later silent none

pub returns-clause-quiet : goal.returns-clause-quiet
returns-clause-quiet g c = quiet-same g.H.Host c.args.self.now

pub returns-clause-away : goal.returns-clause-away
unfolding core_of
returns-clause-away g c =
    let m = c.args.self.now in
    ap (λ (w : ℕ). place_of ((core_of m.pager.levels.parts).entries w).state) (sym (word-is m.regs c.index.result c.args.of c.index.ensures.same c.index.ensures.within c.requires.fit.sound.kept.many))
    ∙ ap (λ (e : Entry). place_of e.state) (sym c.used_entry.ensures) ∙ sym c.place.ensures ∙ none-of c.place.result c.is_some.result c.is_some.ensures c.if-is_some.false

pub returns-in-Ok-clause-others : goal.returns-in-Ok-clause-others
returns-in-Ok-clause-others g c =
    let m = c.args.self.now in
    left-others g.H.Host m (over_pager m c.evict.new.self) c.args.of (slice_index_or m.regs c.index.result 0) c.requires.fit.sound c.evict.new.self.levels.whole.parts.core c.requires.name (word-is m.regs c.index.result c.args.of c.index.ensures.same c.index.ensures.within c.requires.fit.sound.kept.many) c.evict.ensures.one

pub returns-clause-others : goal.returns-clause-others
returns-clause-others g c = λ k away here. here

pub returns-in-Ok-clause-cached : goal.returns-in-Ok-clause-cached
returns-in-Ok-clause-cached g c = λ off.
    let m = c.args.self.now in
    let word = word-is m.regs c.index.result c.args.of c.index.ensures.same c.index.ensures.within c.requires.fit.sound.kept.many in
    marks-keep g.H.Host m (over_pager m c.evict.new.self) c.requires.fit.sound c.evict.new.self.levels.whole.parts.core (c.evict.ensures.unmarked (flag-off g.H.Host m c.args.of (slice_index_or m.regs c.index.result 0) c.requires.fit.sound c.requires.name word off)) refl

pub returns-in-Ok-clause-minds : goal.returns-in-Ok-clause-minds
returns-in-Ok-clause-minds g c = pager-minds g.H.Host c.args.self.now c.evict.new.self c.requires.fit.sound c.evict.ensures.purges.leaves c.in-Ok.ensures.purges.keeps

pub returns-clause-minds : goal.returns-clause-minds
returns-clause-minds g c = minds-refl g.H.Host c.args.self.now (λ k. ⊥) c.requires.fit.sound
