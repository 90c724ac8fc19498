use Rattle.std.proofs.Common.{◌≡◌, ℕ, Option, Some, [], refl, sym, ◌∙◌, ap, arith}
use Rattle.std.specs.Option.{is_some}
use Rattle.object_table.specs.declared.entry.Entry.{Entry}
use Rattle.object_table.specs.Entries.{place_of}
use Rattle.loom_host.specs.declared.outside.Role.TheVariants.{Work}
use Rattle.core_segment.specs.Segment.{chunk_at, chunks_of, free_of, size_of}
use Rattle.core_view.specs.Words.{meant}
use Rattle.disk_objects.specs.Function.{disk_of}
use Rattle.leaf_lambda.specs.Parts.{core_of}
use Rattle.purger.proofs.RoomLaws.{some-of, none-of}
use Rattle.loom_memory.specs.Memory.{loom_told}
use Rattle.loom_memory.proofs.BringLaws.{quiet-same}
use Rattle.loom_memory.proofs.FieldLaws.{told-bounds}
use Rattle.loom_memory.proofs.LoadLaws.{body-fits, object-loaded, named-words}
use Rattle.loom_memory.proofs.ReadLaws.{core-has}
use Rattle.loom_memory.proofs.GentleLaws.{entry-at, resident-at, bounded-at}
use Rattle.loom_memory.proofs.memory.LoomMemory.here.Goals as goal
use Rattle.loom_memory.proofs.memory.LoomMemory.here.Given as given

pub used_entry-e-requires : goal.used_entry-e-requires
unfolding core_of
used_entry-e-requires g c = (entry-at g.H.Host c.args.self.now c.args.of c.word_of-w.result c.requires.sound c.requires.name c.word_of-w.ensures.word).used

there-of : (g : given.Over) (c : goal.After-chunks_never_overlap g) → (p : ℕ) × (place_of ((core_of c.args.self.now.pager.levels.parts).entries c.word_of-w.result).state ≡ Some p)
unfolding core_of
there-of g c = let there = some-of c.place.result c.is_some.result c.is_some.ensures c.if-is_some.true in (there.0, ap (λ (e : Entry). place_of e.state) (sym c.used_entry-e.ensures) ∙ sym c.place.ensures ∙ there.1)

register-is : (g : given.Over) (c : goal.After-chunks_never_overlap g) → (loom_told g.H.Host c.args.self.now).regs c.args.of ≡ meant (core_of c.args.self.now.pager.levels.parts).entries [] 0 c.word_of-w.result
unfolding loom_told
register-is g c = ap (meant (core_of c.args.self.now.pager.levels.parts).entries [] 0) (sym c.word_of-w.ensures.word)

pub returns-then-is_some-clause-here : goal.returns-then-is_some-clause-here
unfolding loom_told core_of chunk_at
returns-then-is_some-clause-here g c = record {
  word = c.word_of-w.ensures.word;
  loaded =
      let n = c.args.self.now in
      let there = there-of g c in
      record {
        at = there.0;
        place = there.1;
        object = λ told. object-loaded (g.H.Host.tells Work) (core_of n.pager.levels.parts) (disk_of g.H.Host n.pager.levels.disk.host.now n.pager.levels.disk.rest) n.ledger.next c.word_of-w.result there.0 ((loom_told g.H.Host n).regs c.args.of) told c.args.self.now.pager.levels.whole.parts.core there.1 (register-is g c);
      };
  core =
      let n = c.args.self.now in
      let there = there-of g c in
      core-has (loom_told g.H.Host n) (loom_told g.H.Host n) (told-bounds g.H.Host n).0 c.args.of (quiet-same g.H.Host n) (told-bounds g.H.Host n).1
      (λ told.
      let words = named-words (g.H.Host.tells Work) (core_of n.pager.levels.parts) (disk_of g.H.Host n.pager.levels.disk.host.now n.pager.levels.disk.rest) n.ledger.next c.word_of-w.result there.0 ((loom_told g.H.Host n).regs c.args.of) told c.args.self.now.pager.levels.whole.parts.core there.1 (register-is g c) in
      let most = body-fits (core_of n.pager.levels.parts) (chunks_of n.pager.levels.parts.segment) (free_of n.pager.levels.parts.segment) (size_of n.pager.levels.parts.segment) c.word_of-w.result there.0 c.args.self.now.pager.levels.whole.parts.core refl c.chunks_never_overlap.ensures there.1 in
      let size = c.requires.sound.kept.size in
      let core = (told-bounds g.H.Host n).2 in
      omega (arith, words, most, size, core));
  bounded = bounded-at g.H.Host c.args.self.now c.requires.sound c.chunks_never_overlap.ensures;
  there = resident-at g.H.Host c.args.self.now c.args.of c.word_of-w.result c.requires.sound c.requires.name c.word_of-w.ensures.word ∙ ap (λ (x : Option ℕ). is_some x) (there-of g c).1;
}

pub returns-clause-leaf : goal.returns-clause-leaf
unfolding core_of
returns-clause-leaf g c = ap (λ (w : ℕ). place_of ((core_of c.args.self.now.pager.levels.parts).entries w).state) (sym c.word_of-w.ensures.word) ∙ ap (λ (e : Entry). place_of e.state) (sym c.used_entry-e.ensures) ∙ sym c.place.ensures ∙ none-of c.place.result c.is_some.result c.is_some.ensures c.if-is_some.false

pub returns-clause-away : goal.returns-clause-away
unfolding core_of
returns-clause-away g c =
    resident-at g.H.Host c.args.self.now c.args.of c.word_of-w.result c.requires.sound c.requires.name c.word_of-w.ensures.word
    ∙ ap (λ (x : Option ℕ). is_some x) (ap (λ (e : Entry). place_of e.state) (sym c.used_entry-e.ensures) ∙ sym c.place.ensures ∙ none-of c.place.result c.is_some.result c.is_some.ensures c.if-is_some.false)
