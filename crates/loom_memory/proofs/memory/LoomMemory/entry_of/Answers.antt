use Rattle.loom_memory.proofs.FirstRoomLaws.{same-first}
use Rattle.std.proofs.Common.{refl, sym, subst}
use Rattle.std.specs.Result.{OnOk, IfErr}
use Rattle.object_memory.specs.Told.{Told, IsReady}
use Rattle.loom_memory.specs.Memory.{loom_told}
use Rattle.loom_memory.specs.Gentle.{IsQuiet}
use Rattle.loom_memory.specs.Known.{IsNameable, IsRefusedOf}
use Rattle.loom_memory.proofs.KnownLaws.{quiet-still}
use Rattle.leaf_lambda.specs.Parts.{spare_of}
use Rattle.loom_memory.specs.Gentle.{IsSteady}
use Rattle.loom_memory.proofs.GentleLaws.{none-wanting}
use Rattle.loom_memory.proofs.SparedLaws.{unspent-never}
use Rattle.loom_memory.proofs.MindLaws.{minds-steady, steady-then}
use Rattle.loom_memory.proofs.memory.LoomMemory.entry_of.Goals as goal

pub returns-in-Some-clause-quiet : goal.returns-in-Some-clause-quiet
returns-in-Some-clause-quiet g c = quiet-still g.H.Host c.args.self.now c.entry_for.new.self c.entry_for.ensures.enters.told

pub free_entry-requires-clause-fit : goal.free_entry-requires-clause-fit
free_entry-requires-clause-fit g c = record {
  sound = c.entry_for.ensures.leaves.sound;
  ready = subst (λ (t : Told). IsReady t) (sym c.entry_for.ensures.enters.told) c.requires.fit.ready;
}

pub free_entry-requires-clause-named : goal.free_entry-requires-clause-named
free_entry-requires-clause-named g c = λ told. subst (λ (t : Told). IsNameable t.heap c.args.name) (sym c.entry_for.ensures.enters.told) (c.requires.named told)

pub returns-in-None-clause-quiet : goal.returns-in-None-clause-quiet
returns-in-None-clause-quiet g c = subst (λ (t : Told). OnOk c.free_entry.result (IsQuiet t (loom_told g.H.Host c.free_entry.new.self))) c.entry_for.ensures.enters.told c.free_entry.ensures.quiet

pub returns-in-None-clause-err : goal.returns-in-None-clause-err
returns-in-None-clause-err g c = subst (λ (t : Told). IfErr c.free_entry.result (IsRefusedOf t (loom_told g.H.Host c.free_entry.new.self) c.args.name)) c.entry_for.ensures.enters.told c.free_entry.ensures.err

pub returns-in-Some-clause-steady : goal.returns-in-Some-clause-steady
returns-in-Some-clause-steady g c = λ room. c.entry_for.ensures.enters.steady

pub returns-in-None-clause-steady : goal.returns-in-None-clause-steady
returns-in-None-clause-steady g c = none-wanting (IsSteady g.H.Host c.args.self.now c.free_entry.new.self) c.free_entry.result c.args.self.now.pager.levels.parts (spare_of c.args.self.now.pager.levels.parts) refl c.in-None.ensures.none.none

pub returns-in-Some-clause-unspent : goal.returns-in-Some-clause-unspent
returns-in-Some-clause-unspent g c = λ unspent. c.entry_for.ensures.enters.steady

pub returns-in-None-clause-unspent : goal.returns-in-None-clause-unspent
returns-in-None-clause-unspent g c = unspent-never _ c.free_entry.result (λ unspent. unspent c.in-None.ensures.none)

pub returns-in-Some-clause-minds : goal.returns-in-Some-clause-minds
returns-in-Some-clause-minds g c = minds-steady g.H.Host c.args.self.now c.entry_for.new.self (λ k. ⊥) c.requires.fit.sound c.entry_for.new.self.pager.levels.whole.parts.core c.entry_for.ensures.enters.steady

pub returns-in-None-clause-minds : goal.returns-in-None-clause-minds
returns-in-None-clause-minds g c = steady-then c.free_entry.result g.H.Host c.args.self.now c.entry_for.new.self c.free_entry.new.self (λ k. ⊥) c.requires.fit.sound c.entry_for.new.self.pager.levels.whole.parts.core c.entry_for.ensures.enters.steady c.free_entry.ensures.minds

pub returns-in-None-clause-due : goal.returns-in-None-clause-due
returns-in-None-clause-due g c = same-first c.free_entry.result c.args.self.now.due c.entry_for.new.self.due c.free_entry.new.self.due c.entry_for.ensures.enters.due c.free_entry.ensures.due

pub returns-in-None-clause-flag : goal.returns-in-None-clause-flag
returns-in-None-clause-flag g c = same-first c.free_entry.result c.args.self.now.thinned c.entry_for.new.self.thinned c.free_entry.new.self.thinned c.entry_for.ensures.enters.flag c.free_entry.ensures.flag

pub returns-in-None-clause-regs : goal.returns-in-None-clause-regs
returns-in-None-clause-regs g c = same-first c.free_entry.result c.args.self.now.regs c.entry_for.new.self.regs c.free_entry.new.self.regs c.entry_for.ensures.enters.regs c.free_entry.ensures.regs
