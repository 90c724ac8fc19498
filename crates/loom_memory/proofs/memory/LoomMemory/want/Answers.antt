use Rattle.std.proofs.Common.{◌≡◌, ◌+◌, true, None, sym, ◌∙◌, ap, subst}
use Rattle.loom_host.specs.declared.outside.Role.TheVariants.{Work}
use Rattle.object_table.specs.declared.entry.Entry.{Entry}
use Rattle.object_table.specs.Entries.{is_used, place_of}
use Rattle.object_table.specs.Table.{entry_at, entries_of, bound_of, free_of}
use Rattle.leaf_lambda.specs.declared.parts.Parts.{Parts}
use Rattle.leaf_lambda.specs.Parts.{core_of}
use Rattle.disk_objects.specs.Function.{disk_of}
use Rattle.object_table.specs.Entries.{sum_below, used_by}
use Rattle.loom_memory.specs.Memory.{loom_told, IsRefusedAt}
use Rattle.loom_memory.proofs.AccessLaws.{quiet-ready}
use Rattle.loom_memory.proofs.CallLaws.{body-told, leaf-words, refused-at}
use Rattle.loom_memory.proofs.BringLaws.{unfit-spare, short-same}
use Rattle.purger.proofs.RoomLaws.{some-of, none-of}
use Rattle.loom_memory.proofs.DamageLaws.{full-damage}
use Rattle.loom_memory.proofs.memory.LoomMemory.want.Goals as goal

pub used_entry-requires : goal.used_entry-requires
unfolding core_of
used_entry-requires g c = c.requires.used

pub full-requires-clause-sized : goal.full-requires-clause-sized
unfolding loom_told core_of
full-requires-clause-sized g c = λ told.
    let m = c.args.self.now in
    let there = some-of c.place.result c.is_some.result c.is_some.ensures c.if-is_some.true in
    body-told (g.H.Host.tells Work) (core_of m.pager.levels.parts) (disk_of g.H.Host m.pager.levels.disk.host.now m.pager.levels.disk.rest) m.ledger.next c.args.s.0 there.0 told c.args.self.now.pager.levels.whole.parts.core (ap (λ (e : Entry). place_of e.state) (sym c.used_entry.ensures) ∙ sym c.place.ensures ∙ there.1) ∙ sym c.room_of-words.ensures.words

pub full-requires-clause-unfit : goal.full-requires-clause-unfit
full-requires-clause-unfit g c = λ need is. let m = c.args.self.now in unfit-spare m.pager.levels.parts m.regs m.pager.pinned m.ledger c.args.s.0 c.room_of-words.result need m.pager.levels.whole c.requires.fit.sound.kept c.requires.short c.entries_are_counted.ensures is

pub look-requires-clause-leaf : goal.look-requires-clause-leaf
unfolding core_of
look-requires-clause-leaf g c = (c.requires.used, ap (λ (e : Entry). place_of e.state) (sym c.used_entry.ensures) ∙ sym c.place.ensures ∙ none-of c.place.result c.is_some.result c.is_some.ensures c.if-is_some.false)

pub full-requires-in-Ok-clause-sized : goal.full-requires-in-Ok-clause-sized
unfolding loom_told core_of
full-requires-in-Ok-clause-sized g c = λ told.
    let n = c.look.new.self in
    leaf-words (g.H.Host.tells Work) (core_of n.pager.levels.parts) (disk_of g.H.Host n.pager.levels.disk.host.now n.pager.levels.disk.rest) n.ledger.next c.args.s.0 c.in-Ok.words told c.look.new.self.pager.levels.whole.parts.core
    (subst (λ (p : Parts). is_used ((core_of p).entries c.args.s.0).state ≡ true) (sym c.in-Ok.ensures.reads.parts) c.requires.used)
    (subst (λ (p : Parts). place_of ((core_of p).entries c.args.s.0).state ≡ None) (sym c.in-Ok.ensures.reads.parts) (ap (λ (e : Entry). place_of e.state) (sym c.used_entry.ensures) ∙ sym c.place.ensures ∙ none-of c.place.result c.is_some.result c.is_some.ensures c.if-is_some.false)) c.in-Ok.ensures.sized

pub full-requires-in-Ok-clause-unfit : goal.full-requires-in-Ok-clause-unfit
full-requires-in-Ok-clause-unfit g c = λ need is.
    let n = c.look.new.self in
    unfit-spare n.pager.levels.parts n.regs n.pager.pinned n.ledger c.args.s.0 c.in-Ok.words need n.pager.levels.whole c.in-Ok.ensures.leaves.sound.kept (short-same c.args.self.now.pager.levels.parts n.pager.levels.parts c.args.self.now.pager.pinned n.pager.pinned 0 27 c.in-Ok.ensures.reads.parts c.in-Ok.ensures.reads.pins c.requires.short)
    (subst (λ (p : Parts). entries_of p.names.table ≡ free_of p.names.table + sum_below (bound_of p.names.table) (λ t. used_by (entry_at p.names.table t))) (sym c.in-Ok.ensures.reads.parts) c.entries_are_counted.ensures) is

pub returns-in-Ok-clause-err : goal.returns-in-Ok-clause-err
returns-in-Ok-clause-err g c = refused-at (loom_told g.H.Host c.args.self.now) (loom_told g.H.Host c.look.new.self) (loom_told g.H.Host c.full-in-Ok.new.self) ((core_of c.args.self.now.pager.levels.parts).entries c.args.s.0).name c.full-in-Ok.result c.in-Ok.ensures.reads.quiet
    (subst (λ (p : Parts). IsRefusedAt (loom_told g.H.Host c.look.new.self) (loom_told g.H.Host c.full-in-Ok.new.self) ((core_of p).entries c.args.s.0).name c.full-in-Ok.result) c.in-Ok.ensures.reads.parts c.full-in-Ok.ensures.err)

pub full-requires-in-Ok-clause-fit : goal.full-requires-in-Ok-clause-fit
full-requires-in-Ok-clause-fit g c = record {
  sound = c.in-Ok.ensures.leaves.sound;
  ready = quiet-ready (loom_told g.H.Host c.args.self.now) (loom_told g.H.Host c.look.new.self) c.in-Ok.ensures.reads.quiet c.requires.fit.ready;
}

pub returns-then-is_some-clause-damage : goal.returns-then-is_some-clause-damage
returns-then-is_some-clause-damage g c = full-damage c.full.new.self.pager.levels.disk.rest ((core_of c.args.self.now.pager.levels.parts).entries c.args.s.0).name c.full.result c.full.ensures.is

pub returns-in-Ok-clause-damage : goal.returns-in-Ok-clause-damage
returns-in-Ok-clause-damage g c = full-damage c.full-in-Ok.new.self.pager.levels.disk.rest ((core_of c.args.self.now.pager.levels.parts).entries c.args.s.0).name c.full-in-Ok.result c.full-in-Ok.ensures.is
