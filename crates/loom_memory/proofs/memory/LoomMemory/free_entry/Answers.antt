use Rattle.std.proofs.Common.{◌∙◌}
use Rattle.std.proofs.Common.{sym, subst}
use Rattle.core_segment.specs.Segment.{largest_of}
use Rattle.long_names.specs.Heap.{Has}
use Rattle.object_memory.specs.Told.{Told}
use Rattle.leaf_lambda.specs.Parts.{core_of, spare_of}
use Rattle.loom_memory.specs.Memory.{loom_told}
use Rattle.loom_memory.specs.Gentle.{IsQuiet}
use Rattle.loom_memory.specs.Known.{IsNameable}
use Rattle.loom_memory.proofs.AccessLaws.{quiet-ready}
use Rattle.loom_memory.proofs.KnownLaws.{spent-then, bare-by, bare-then, refused-of}
use Rattle.loom_memory.proofs.MindLaws.{minds-step}
use Rattle.loom_memory.proofs.memory.LoomMemory.free_entry.Goals as goal

pub entry_for-requires-clause-named : goal.entry_for-requires-clause-named
entry_for-requires-clause-named g c = λ told. subst (λ (t : Told). IsNameable t.heap c.args.name) (sym c.in-Ok.ensures.pages.quiet.same) (c.requires.named told)

pub returns-in-Some-clause-quiet : goal.returns-in-Some-clause-quiet
returns-in-Some-clause-quiet g c = subst (λ (t : Told). IsQuiet (loom_told g.H.Host c.args.self.now) t) (sym c.entry_for.ensures.enters.told) c.in-Ok.ensures.pages.quiet

pub lack-requires-clause-fit : goal.lack-requires-clause-fit
lack-requires-clause-fit g c = record {
  sound = c.entry_for.ensures.leaves.sound;
  ready = quiet-ready (loom_told g.H.Host c.args.self.now) (loom_told g.H.Host c.entry_for.new.self) (subst (λ (t : Told). IsQuiet (loom_told g.H.Host c.args.self.now) t) (sym c.entry_for.ensures.enters.told) c.in-Ok.ensures.pages.quiet) c.requires.fit.ready;
}

pub lack-requires-clause-has : goal.lack-requires-clause-has
lack-requires-clause-has g c = λ told.
    let quiet = subst (λ (t : Told). IsQuiet (loom_told g.H.Host c.args.self.now) t) (sym c.entry_for.ensures.enters.told) c.in-Ok.ensures.pages.quiet in
    subst (λ (t : Told). Has t.heap c.args.name) (sym quiet.same) (c.requires.named told).0

pub lack-requires-clause-spent : goal.lack-requires-clause-spent
lack-requires-clause-spent g c = spent-then (core_of c.clear.new.self.pager.levels.parts) (core_of c.entry_for.new.self.pager.levels.parts) (spare_of c.clear.new.self.pager.levels.parts) (spare_of c.entry_for.new.self.pager.levels.parts) c.args.name c.in-None.ensures.none c.in-None.ensures.same.0 c.in-None.ensures.same.1

pub lack-requires-clause-bare : goal.lack-requires-clause-bare
lack-requires-clause-bare g c =
    let n = c.clear.new.self in
    bare-then (core_of n.pager.levels.parts) (core_of c.entry_for.new.self.pager.levels.parts) n.pager.pinned c.entry_for.new.self.pager.pinned (bare-by c.in-Ok.enough n.pager.levels.parts n.pager.pinned (largest_of n.pager.levels.parts.segment) c.in-Ok.ensures.room c.in-Ok.ensures.short c.in-None.ensures.none.none) c.in-None.ensures.same.0 c.entry_for.ensures.enters.pins

pub returns-in-None-clause-err : goal.returns-in-None-clause-err
returns-in-None-clause-err g c = refused-of (loom_told g.H.Host c.args.self.now) (loom_told g.H.Host c.entry_for.new.self) (loom_told g.H.Host c.lack.new.self) c.args.name c.lack.result
    (subst (λ (t : Told). IsQuiet (loom_told g.H.Host c.args.self.now) t) (sym c.entry_for.ensures.enters.told) c.in-Ok.ensures.pages.quiet) c.lack.ensures.err

pub returns-in-Err-clause-err : goal.returns-in-Err-clause-err
returns-in-Err-clause-err g c = λ a row silent none. c.in-Err.ensures.faulted.access a silent none

pub returns-in-Some-clause-minds : goal.returns-in-Some-clause-minds
returns-in-Some-clause-minds g c =
    let s = c.entry_for.ensures.enters.steady in
    minds-step g.H.Host c.args.self.now c.clear.new.self c.entry_for.new.self (λ k. ⊥) c.in-Ok.ensures.pages.minds c.clear.new.self.pager.levels.whole.parts.core c.entry_for.new.self.pager.levels.whole.parts.core s.gentle.remains s.none s.gentle.cache

pub returns-in-Some-clause-due : goal.returns-in-Some-clause-due
returns-in-Some-clause-due g c = c.entry_for.ensures.enters.due ∙ c.in-Ok.ensures.pages.due

pub returns-in-Some-clause-flag : goal.returns-in-Some-clause-flag
returns-in-Some-clause-flag g c = c.entry_for.ensures.enters.flag ∙ c.in-Ok.ensures.pages.flag

pub returns-in-Some-clause-regs : goal.returns-in-Some-clause-regs
returns-in-Some-clause-regs g c = c.entry_for.ensures.enters.regs ∙ c.in-Ok.ensures.pages.regs
