use Rattle.loom_memory.proofs.TimeLaws.{time-thinned, gone-short}
use Rattle.std.specs.List.{slice_index_or}
use Rattle.std.proofs.Common.{◌≡◌, ◌≤◌, ℕ, List, [], None, Some, refl, sym, ◌∙◌, ap, subst, arith}
use Rattle.core_view.specs.Counts.{outside}
use Rattle.leaf_lambda.specs.Parts.{core_of}
use Rattle.loom_memory.specs.Memory.{loom_told, word_in}
use Rattle.loom_memory.proofs.RegLaws.{word-is}
use Rattle.loom_memory.proofs.BringLaws.{quiet-same}
use Rattle.loom_memory.proofs.FirstRoomLaws.{gone-loaded, named-first, register-out}
use Rattle.loom_memory.proofs.FreedLaws.{at-freed, core-freed}
use Rattle.loom_memory.proofs.MakingLaws.{thinned-ready, thinned-trans}
use Rattle.loom_host.specs.declared.outside.Role.TheVariants.{Work}
use Rattle.core_segment.specs.Segment.{chunk_at, chunks_of, free_of, size_of}
use Rattle.core_view.specs.Words.{meant}
use Rattle.disk_objects.specs.Function.{disk_of}
use Rattle.loom_memory.proofs.FieldLaws.{told-bounds}
use Rattle.loom_memory.proofs.LoadLaws.{body-fits, object-loaded, named-words}
use Rattle.loom_memory.proofs.ReadLaws.{core-has}
use Rattle.long_names.specs.Counting.{counted}
use Rattle.long_names.specs.State.{name_at}
use Rattle.long_names.specs.Need.{words_at}
use Rattle.object_table.specs.Entries.{place_of}
use Rattle.loom_memory.proofs.GentleLaws.{bounded-at, entry-at, gentle-from, resident-then, room-from, room-less, place-from}
use Rattle.loom_memory.specs.Below.{IsTested}
use Rattle.loom_memory.specs.Damage.{IsDamageOf, words_read}
use Rattle.loom_memory.proofs.DamageLaws.{room-same}
use Rattle.loom_memory.specs.Own.{IsBrought}
use Rattle.loom_memory.proofs.MindLaws.{minds-then}
use Rattle.purger.specs.Purge.{HasRoom}
use Rattle.loom_memory.proofs.OneLaws.{brings-later, brings-none, brings-where, leaf-away}
use Rattle.loom_memory.proofs.memory.LoomMemory.load_with_room.Goals as goal
use Rattle.loom_memory.proofs.memory.LoomMemory.load_with_room.Given as given

pub bring-requires-clause-fit : goal.bring-requires-clause-fit
bring-requires-clause-fit g c = record {
  sound = c.in-Ok.ensures.leaves.sound;
  ready = thinned-ready (loom_told g.H.Host c.args.self.now) (loom_told g.H.Host c.clear_first.new.self) c.in-Ok.ensures.thins.thinned c.requires.fit.ready;
}

pub bring-requires-clause-out : goal.bring-requires-clause-out
bring-requires-clause-out g c = (named-first g.H.Host c.args.self.now c.clear_first.new.self c.args.of (slice_index_or c.args.self.now.regs c.index.result 0) c.requires.fit.sound c.in-Ok.ensures.leaves.sound c.requires.name
    (word-is c.args.self.now.regs c.index.result c.args.of c.index.ensures.same c.index.ensures.within c.requires.fit.sound.kept.many) c.in-Ok.ensures.calm).out

pub bring-requires-clause-has : goal.bring-requires-clause-has
bring-requires-clause-has g c = (named-first g.H.Host c.args.self.now c.clear_first.new.self c.args.of (slice_index_or c.args.self.now.regs c.index.result 0) c.requires.fit.sound c.in-Ok.ensures.leaves.sound c.requires.name
    (word-is c.args.self.now.regs c.index.result c.args.of c.index.ensures.same c.index.ensures.within c.requires.fit.sound.kept.many) c.in-Ok.ensures.calm).has

pub want-requires-clause-used : goal.want-requires-clause-used
want-requires-clause-used g c = (named-first g.H.Host c.args.self.now c.clear_first.new.self c.args.of (slice_index_or c.args.self.now.regs c.index.result 0) c.requires.fit.sound c.in-Ok.ensures.leaves.sound c.requires.name
    (word-is c.args.self.now.regs c.index.result c.args.of c.index.ensures.same c.index.ensures.within c.requires.fit.sound.kept.many) c.in-Ok.ensures.calm).used

pub want-requires-clause-has : goal.want-requires-clause-has
want-requires-clause-has g c = (named-first g.H.Host c.args.self.now c.clear_first.new.self c.args.of (slice_index_or c.args.self.now.regs c.index.result 0) c.requires.fit.sound c.in-Ok.ensures.leaves.sound c.requires.name
    (word-is c.args.self.now.regs c.index.result c.args.of c.index.ensures.same c.index.ensures.within c.requires.fit.sound.kept.many) c.in-Ok.ensures.calm).has

pub returns-in-Err-clause-err : goal.returns-in-Err-clause-err
returns-in-Err-clause-err g c = λ a target none silent. c.in-Err.ensures.err a c.args.of target silent none

pub returns-in-Err-bring-clause-err : goal.returns-in-Err-bring-clause-err
returns-in-Err-bring-clause-err g c = λ a target none silent.
    at-freed (loom_told g.H.Host c.args.self.now) (loom_told g.H.Host c.clear_first.new.self) (loom_told g.H.Host c.bring.new.self) ((core_of c.clear_first.new.self.pager.levels.parts).entries (slice_index_or c.args.self.now.regs c.index.result 0)).name c.in-Err-bring.f c.in-Ok.ensures.thins.thinned c.in-Err-bring.ensures.err a c.args.of target
    (named-first g.H.Host c.args.self.now c.clear_first.new.self c.args.of (slice_index_or c.args.self.now.regs c.index.result 0) c.requires.fit.sound c.in-Ok.ensures.leaves.sound c.requires.name
    (word-is c.args.self.now.regs c.index.result c.args.of c.index.ensures.same c.index.ensures.within c.requires.fit.sound.kept.many) c.in-Ok.ensures.calm).name silent none

pub returns-else-enough-clause-err : goal.returns-else-enough-clause-err
returns-else-enough-clause-err g c = λ a target none silent.
    at-freed (loom_told g.H.Host c.args.self.now) (loom_told g.H.Host c.clear_first.new.self) (loom_told g.H.Host c.want.new.self) ((core_of c.clear_first.new.self.pager.levels.parts).entries (slice_index_or c.args.self.now.regs c.index.result 0)).name c.want.result c.in-Ok.ensures.thins.thinned c.want.ensures.err a c.args.of target
    (named-first g.H.Host c.args.self.now c.clear_first.new.self c.args.of (slice_index_or c.args.self.now.regs c.index.result 0) c.requires.fit.sound c.in-Ok.ensures.leaves.sound c.requires.name
    (word-is c.args.self.now.regs c.index.result c.args.of c.index.ensures.same c.index.ensures.within c.requires.fit.sound.kept.many) c.in-Ok.ensures.calm).name silent none

pub want-requires-clause-fit : goal.want-requires-clause-fit
want-requires-clause-fit g c = record {
  sound = c.in-Ok.ensures.leaves.sound;
  ready = thinned-ready (loom_told g.H.Host c.args.self.now) (loom_told g.H.Host c.clear_first.new.self) c.in-Ok.ensures.thins.thinned c.requires.fit.ready;
}

register-is : (g : given.Over) (c : goal.After-chunks_never_overlap g) → (loom_told g.H.Host c.bring.new.self).regs c.args.of ≡ meant (core_of c.bring.new.self.pager.levels.parts).entries [] 0 (slice_index_or c.args.self.now.regs c.index.result 0)
unfolding loom_told
register-is g c = ap (meant (core_of c.bring.new.self.pager.levels.parts).entries [] 0) (ap (λ (regs : List ℕ). word_in regs c.args.of) (c.in-Ok-bring.ensures.thins.regs ∙ c.in-Ok.ensures.thins.regs) ∙ sym (word-is c.args.self.now.regs c.index.result c.args.of c.index.ensures.same c.index.ensures.within c.requires.fit.sound.kept.many))

word-here : (g : given.Over) (c : goal.After-chunks_never_overlap g) → slice_index_or c.args.self.now.regs c.index.result 0 ≡ word_in c.args.self.now.regs c.args.of
word-here g c = word-is c.args.self.now.regs c.index.result c.args.of c.index.ensures.same c.index.ensures.within c.requires.fit.sound.kept.many

pub returns-in-Ok-bring-clause-thins : goal.returns-in-Ok-bring-clause-thins
returns-in-Ok-bring-clause-thins g c = record {
  thinned = thinned-trans (loom_told g.H.Host c.args.self.now) (loom_told g.H.Host c.clear_first.new.self) (loom_told g.H.Host c.bring.new.self) c.in-Ok.ensures.thins.thinned c.in-Ok-bring.ensures.thins.thinned;
  minds =
      let m = c.args.self.now in
      let u = c.clear_first.new.self in
      let n = c.bring.new.self in
      let s = slice_index_or m.regs c.index.result 0 in
      let named = named-first g.H.Host m u c.args.of s c.requires.fit.sound c.in-Ok.ensures.leaves.sound c.requires.name (word-here g c) c.in-Ok.ensures.calm in
      let own = ((core_of u.pager.levels.parts).entries s).name in
      let name = name_at ((loom_told g.H.Host m).regs c.args.of) in
      minds-then g.H.Host m u n (λ k. ⊥) (IsBrought u n own) (IsBrought m n name) (λ k no. absurd no) (λ k is. (is.0 ∙ sym (ap name_at named.name), is.1 ∙ ap counted c.clear_first.ensures.leaves.fetches)) c.in-Ok.ensures.thins.minds c.in-Ok-bring.ensures.thins.minds;
  regs = c.in-Ok-bring.ensures.thins.regs ∙ c.in-Ok.ensures.thins.regs;
  pins = c.in-Ok-bring.ensures.thins.pins ∙ c.in-Ok.ensures.thins.pins;
  next = c.in-Ok-bring.ensures.thins.next ∙ c.in-Ok.ensures.thins.next;
  due = time-thinned g.H.Host c.args.self.now c.clear_first.new.self c.bring.new.self c.in-Ok.ensures.thins.due c.in-Ok-bring.ensures.thins.due c.in-Ok-bring.ensures.thins.thinned (thinned-ready (loom_told g.H.Host c.args.self.now) (loom_told g.H.Host c.clear_first.new.self) c.in-Ok.ensures.thins.thinned c.requires.fit.ready);
  flag = λ on. c.in-Ok-bring.ensures.thins.flag (c.in-Ok.ensures.thins.flag on);
}

pub returns-in-Ok-bring-clause-here : goal.returns-in-Ok-bring-clause-here
unfolding loom_told core_of chunk_at
returns-in-Ok-bring-clause-here g c = record {
  word = word-here g c ∙ ap (λ (regs : List ℕ). word_in regs c.args.of) (sym (c.in-Ok-bring.ensures.thins.regs ∙ c.in-Ok.ensures.thins.regs));
  loaded =
      let n = c.bring.new.self in
      let there = c.in-Ok-bring.ensures.there in
      record {
        at = there.0;
        place = there.1;
        object = λ told. object-loaded (g.H.Host.tells Work) (core_of n.pager.levels.parts) (disk_of g.H.Host n.pager.levels.disk.host.now n.pager.levels.disk.rest) n.ledger.next (slice_index_or c.args.self.now.regs c.index.result 0) there.0 ((loom_told g.H.Host n).regs c.args.of) told c.bring.new.self.pager.levels.whole.parts.core there.1 (register-is g c);
      };
  core = λ a target none.
      let m = c.args.self.now in
      let n = c.bring.new.self in
      let s = slice_index_or m.regs c.index.result 0 in
      let there = c.in-Ok-bring.ensures.there in
      core-freed (loom_told g.H.Host m) (loom_told g.H.Host n) a c.args.of target (thinned-trans (loom_told g.H.Host m) (loom_told g.H.Host c.clear_first.new.self) (loom_told g.H.Host n) c.in-Ok.ensures.thins.thinned c.in-Ok-bring.ensures.thins.thinned)
      (core-has (loom_told g.H.Host n) (loom_told g.H.Host n) (told-bounds g.H.Host n).0 c.args.of (quiet-same g.H.Host n) (told-bounds g.H.Host n).1
      (λ told.
      let words = named-words (g.H.Host.tells Work) (core_of n.pager.levels.parts) (disk_of g.H.Host n.pager.levels.disk.host.now n.pager.levels.disk.rest) n.ledger.next s there.0 ((loom_told g.H.Host n).regs c.args.of) told c.bring.new.self.pager.levels.whole.parts.core there.1 (register-is g c) in
      let most = body-fits (core_of n.pager.levels.parts) (chunks_of n.pager.levels.parts.segment) (free_of n.pager.levels.parts.segment) (size_of n.pager.levels.parts.segment) s there.0 c.bring.new.self.pager.levels.whole.parts.core refl c.chunks_never_overlap.ensures there.1 in
      let size = c.in-Ok-bring.ensures.leaves.sound.kept.size in
      let core = (told-bounds g.H.Host n).2 in
      omega (arith, words, most, size, core)) a target none);
  bounded = bounded-at g.H.Host c.bring.new.self c.in-Ok-bring.ensures.leaves.sound c.chunks_never_overlap.ensures;
  there =
      let m = c.args.self.now in
      let n = c.bring.new.self in
      let there = c.in-Ok-bring.ensures.there in
      resident-then g.H.Host m n c.args.of (slice_index_or m.regs c.index.result 0) there.0 c.in-Ok-bring.ensures.leaves.sound (thinned-trans (loom_told g.H.Host m) (loom_told g.H.Host c.clear_first.new.self) (loom_told g.H.Host n) c.in-Ok.ensures.thins.thinned c.in-Ok-bring.ensures.thins.thinned) c.requires.name
      (word-here g c ∙ ap (λ (regs : List ℕ). word_in regs c.args.of) (sym (c.in-Ok-bring.ensures.thins.regs ∙ c.in-Ok.ensures.thins.regs))) there.1;
}

out-here : (g : given.Over) (c : goal.After-chunks_never_overlap g) → 1 ≤ outside (core_of c.args.self.now.pager.levels.parts) (slice_index_or c.args.self.now.regs c.index.result 0)
out-here g c = register-out g.H.Host c.args.self.now c.args.of (slice_index_or c.args.self.now.regs c.index.result 0) c.requires.fit.sound c.requires.name (word-here g c)

leaf-here : (g : given.Over) (c : goal.After-chunks_never_overlap g) → place_of ((core_of c.args.self.now.pager.levels.parts).entries (word_in c.args.self.now.regs c.args.of)).state ≡ None → place_of ((core_of c.args.self.now.pager.levels.parts).entries (slice_index_or c.args.self.now.regs c.index.result 0)).state ≡ None
leaf-here g c leaf = ap (λ (w : ℕ). place_of ((core_of c.args.self.now.pager.levels.parts).entries w).state) (word-here g c) ∙ leaf

pub returns-in-Ok-bring-clause-counted : goal.returns-in-Ok-bring-clause-counted
returns-in-Ok-bring-clause-counted g c = λ leaf. c.in-Ok-bring.ensures.counted (c.in-Ok.ensures.leaf (slice_index_or c.args.self.now.regs c.index.result 0) (out-here g c) (leaf-here g c leaf)) ∙ ap counted c.clear_first.ensures.leaves.fetches

pub returns-in-Ok-bring-clause-comes : goal.returns-in-Ok-bring-clause-comes
returns-in-Ok-bring-clause-comes g c = λ told leaf. record {
  gone =
      let m = c.args.self.now in
      let u = c.clear_first.new.self in
      let s = slice_index_or m.regs c.index.result 0 in
      let it = entry-at g.H.Host m c.args.of s c.requires.fit.sound c.requires.name (word-here g c) in
      gone-loaded g.H.Host m u c.bring.new.self s (name_at ((loom_told g.H.Host m).regs c.args.of)) (thinned-ready (loom_told g.H.Host m) (loom_told g.H.Host u) c.in-Ok.ensures.thins.thinned c.requires.fit.ready) c.in-Ok-bring.ensures.thins.thinned c.in-Ok.ensures.gone
      (λ room. c.in-Ok.ensures.idle room refl) (ap name_at it.name) (λ told leaf. (c.in-Ok-bring.ensures.comes told leaf).gone) told (leaf-here g c leaf);
  gentle = λ room.
      let m = c.args.self.now in
      let s = slice_index_or m.regs c.index.result 0 in
      let name = name_at ((loom_told g.H.Host m).regs c.args.of) in
      let same = c.in-Ok.ensures.idle (room-less m.pager.levels.parts (words_at (loom_told g.H.Host m).heap name) 27 room) refl in
      let it = entry-at g.H.Host m c.args.of s c.requires.fit.sound c.requires.name (word-here g c) in
      gentle-from g.H.Host m c.clear_first.new.self c.bring.new.self same ((c.in-Ok-bring.ensures.comes told (c.in-Ok.ensures.leaf s (out-here g c) (leaf-here g c leaf))).gentle (room-from g.H.Host m c.clear_first.new.self s name same (ap name_at it.name) room));
}

pub returns-in-Ok-bring-clause-idle : goal.returns-in-Ok-bring-clause-idle
returns-in-Ok-bring-clause-idle g c = λ at is room.
    let m = c.args.self.now in
    let s = slice_index_or m.regs c.index.result 0 in
    let same = c.in-Ok.ensures.idle room refl in
    let here : place_of ((core_of m.pager.levels.parts).entries s).state ≡ Some at = ap (λ (w : ℕ). place_of ((core_of m.pager.levels.parts).entries w).state) (word-here g c) ∙ is in
    c.in-Ok-bring.ensures.idle at (place-from m c.clear_first.new.self s at same here) ∙ same

pub returns-in-Ok-bring-clause-tested : goal.returns-in-Ok-bring-clause-tested
returns-in-Ok-bring-clause-tested g c = λ leaf.
    let m = c.args.self.now in
    let s = slice_index_or m.regs c.index.result 0 in
    let named = named-first g.H.Host m c.clear_first.new.self c.args.of s c.requires.fit.sound c.in-Ok.ensures.leaves.sound c.requires.name (word-here g c) c.in-Ok.ensures.calm in
    subst (λ (k : ℕ). IsTested c.bring.new.self k) (sym (ap name_at named.name)) (c.in-Ok-bring.ensures.tested (c.in-Ok.ensures.leaf s (out-here g c) (leaf-here g c leaf)))

pub returns-in-Err-clause-damage : goal.returns-in-Err-clause-damage
returns-in-Err-clause-damage g c = λ room. absurd (c.in-Err.ensures.sure (room-less c.args.self.now.pager.levels.parts (words_read c.clear_first.new.self) 27 room))

pub returns-in-Err-bring-clause-damage : goal.returns-in-Err-bring-clause-damage
returns-in-Err-bring-clause-damage g c = λ room.
    let m = c.args.self.now in
    let s = slice_index_or m.regs c.index.result 0 in
    let same = c.in-Ok.ensures.idle (room-less m.pager.levels.parts (words_read c.bring.new.self) 27 room) refl in
    let is = word-is m.regs c.index.result c.args.of c.index.ensures.same c.index.ensures.within c.requires.fit.sound.kept.many in
    let named = named-first g.H.Host m c.clear_first.new.self c.args.of s c.requires.fit.sound c.in-Ok.ensures.leaves.sound c.requires.name is c.in-Ok.ensures.calm in
    subst (λ (k : ℕ). IsDamageOf c.bring.new.self.pager.levels.disk.rest k c.in-Err-bring.f) (sym (ap name_at named.name))
    (c.in-Err-bring.ensures.damage (room-same m c.clear_first.new.self (words_read c.bring.new.self) same room))

pub returns-else-enough-clause-damage : goal.returns-else-enough-clause-damage
returns-else-enough-clause-damage g c = λ room.
    let m = c.args.self.now in
    let s = slice_index_or m.regs c.index.result 0 in
    let is = word-is m.regs c.index.result c.args.of c.index.ensures.same c.index.ensures.within c.requires.fit.sound.kept.many in
    let named = named-first g.H.Host m c.clear_first.new.self c.args.of s c.requires.fit.sound c.in-Ok.ensures.leaves.sound c.requires.name is c.in-Ok.ensures.calm in
    subst (λ (k : ℕ). IsDamageOf c.want.new.self.pager.levels.disk.rest k c.want.result) (sym (ap name_at named.name)) c.want.ensures.damage

pub returns-in-Err-clause-brings : goal.returns-in-Err-clause-brings
returns-in-Err-clause-brings g c = brings-none c.args.self.now c.clear_first.new.self _ c.clear_first.ensures.leaves.fetches

pub returns-else-enough-clause-brings : goal.returns-else-enough-clause-brings
returns-else-enough-clause-brings g c = brings-none c.args.self.now c.want.new.self _ (c.want.ensures.leaves.fetches ∙ c.clear_first.ensures.leaves.fetches)

pub returns-in-Ok-bring-clause-brings : goal.returns-in-Ok-bring-clause-brings
returns-in-Ok-bring-clause-brings g c = brings-where c.args.self.now c.bring.new.self _ _ (leaf-away g.H.Host c.args.self.now c.args.of (slice_index_or c.args.self.now.regs c.index.result 0) (HasRoom c.args.self.now.pager.levels.parts 0 27 → ⊥) c.requires.fit.sound c.requires.name (word-is c.args.self.now.regs c.index.result c.args.of c.index.ensures.same c.index.ensures.within c.requires.fit.sound.kept.many))
    (brings-later c.args.self.now c.clear_first.new.self c.bring.new.self (slice_index_or c.args.self.now.regs c.index.result 0) c.clear_first.ensures.leaves.fetches (λ room. c.in-Ok.ensures.idle room refl) c.bring.ensures.brings)

pub returns-in-Err-bring-clause-brings : goal.returns-in-Err-bring-clause-brings
returns-in-Err-bring-clause-brings g c = brings-where c.args.self.now c.bring.new.self _ _ (leaf-away g.H.Host c.args.self.now c.args.of (slice_index_or c.args.self.now.regs c.index.result 0) (HasRoom c.args.self.now.pager.levels.parts 0 27 → ⊥) c.requires.fit.sound c.requires.name (word-is c.args.self.now.regs c.index.result c.args.of c.index.ensures.same c.index.ensures.within c.requires.fit.sound.kept.many))
    (brings-later c.args.self.now c.clear_first.new.self c.bring.new.self (slice_index_or c.args.self.now.regs c.index.result 0) c.clear_first.ensures.leaves.fetches (λ room. c.in-Ok.ensures.idle room refl) c.bring.ensures.brings)

pub returns-in-Ok-bring-clause-entries : goal.returns-in-Ok-bring-clause-entries
returns-in-Ok-bring-clause-entries g c = gone-short g.H.Host c.args.self.now c.clear_first.new.self c.bring.new.self c.in-Ok.ensures.gone c.in-Ok-bring.ensures.thins.thinned (thinned-ready (loom_told g.H.Host c.args.self.now) (loom_told g.H.Host c.clear_first.new.self) c.in-Ok.ensures.thins.thinned c.requires.fit.ready)
