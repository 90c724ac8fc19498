use Rattle.std.proofs.Common.{◌≡◌, ℕ, List, sym, ◌∙◌, ap}
use Rattle.core_view.proofs.Core.{placed-used}
use Rattle.leaf_lambda.specs.Parts.{core_of}
use Rattle.loom_memory.specs.Memory.{loom_told, word_in}
use Rattle.loom_memory.proofs.MakingLaws.{quiet-thinned, thinned-ready, thinned-trans}
use Rattle.long_names.specs.State.{name_at}
use Rattle.loom_memory.proofs.GentleLaws.{changed-sparing, refused-change}
use Rattle.loom_memory.proofs.KeepingLaws.{opened-keeps}
use Rattle.loom_memory.specs.Own.{IsBrought}
use Rattle.loom_memory.proofs.MindLaws.{minds-then}
use Rattle.loom_memory.proofs.GentleLaws.{entry-named}
use Rattle.loom_memory.proofs.OneLaws.{brings-then}
use Rattle.loom_memory.proofs.ReachLaws.{freed-open}
use Rattle.loom_memory.proofs.memory.LoomMemory.open.Goals as goal

pub unmark-requires-clause-used : goal.unmark-requires-clause-used
unmark-requires-clause-used g c = placed-used ((core_of c.load.new.self.pager.levels.parts).entries c.in-Ok.s.0).state c.in-Ok.ensures.here.loaded.at c.in-Ok.ensures.here.loaded.place

pub returns-in-Ok-clause-thinned : goal.returns-in-Ok-clause-thinned
returns-in-Ok-clause-thinned g c =
    let t = loom_told g.H.Host c.args.self.now in
    let u = loom_told g.H.Host c.load.new.self in
    let v = loom_told g.H.Host c.unmark.new.self in
    thinned-trans t u v c.in-Ok.ensures.thinned (quiet-thinned u v c.unmark.ensures.quiet (thinned-ready t u c.in-Ok.ensures.thinned c.requires.fit.ready))

pub returns-in-Ok-clause-opened : goal.returns-in-Ok-clause-opened
returns-in-Ok-clause-opened g c = record {
  word = c.in-Ok.ensures.here.word ∙ ap (λ (regs : List ℕ). word_in regs c.args.of) (sym c.unmark.ensures.regs);
  there = (c.in-Ok.ensures.here.loaded.at, c.unmark.ensures.place ∙ c.in-Ok.ensures.here.loaded.place);
  unmarked = c.unmark.ensures.gone;
  core = c.in-Ok.ensures.here.core;
}

pub returns-in-Ok-clause-own : goal.returns-in-Ok-clause-own
returns-in-Ok-clause-own g c = changed-sparing g.H.Host c.args.self.now c.load.new.self c.unmark.new.self (name_at ((loom_told g.H.Host c.args.self.now).regs c.args.of)) c.in-Ok.s _ c.in-Ok.ensures.own c.unmark.ensures.resting c.load.new.self.pager.levels.whole.parts.core c.unmark.new.self.pager.levels.whole.parts.core

pub returns-in-Err-clause-own : goal.returns-in-Err-clause-own
returns-in-Err-clause-own g c = refused-change g.H.Host c.args.self.now c.load.new.self (name_at ((loom_told g.H.Host c.args.self.now).regs c.args.of)) c.in-Err.f c.in-Err.ensures.own

pub returns-in-Ok-clause-cached : goal.returns-in-Ok-clause-cached
returns-in-Ok-clause-cached g c = opened-keeps g.H.Host c.args.self.now c.load.new.self c.unmark.new.self c.args.of c.in-Ok.s.0 c.in-Ok.ensures.leaves.sound c.in-Ok.ensures.thinned c.requires.name c.in-Ok.ensures.here.word c.in-Ok.ensures.own.cached c.unmark.ensures.idle

pub returns-in-Ok-clause-minds : goal.returns-in-Ok-clause-minds
returns-in-Ok-clause-minds g c =
    let m = c.args.self.now in
    let u = c.load.new.self in
    let s = c.in-Ok.s.0 in
    let n = name_at ((loom_told g.H.Host m).regs c.args.of) in
    minds-then g.H.Host m u c.unmark.new.self (IsBrought m u n) (λ k. k ≡ ((core_of u.pager.levels.parts).entries s).name) (λ k. k ≡ n) (λ k is. is.0) (λ k is. is ∙ entry-named g.H.Host m u c.args.of s c.in-Ok.ensures.leaves.sound c.in-Ok.ensures.thinned c.requires.name c.in-Ok.ensures.here.word) c.in-Ok.ensures.own.minds c.unmark.ensures.minds

pub returns-in-Ok-clause-brings : goal.returns-in-Ok-clause-brings
returns-in-Ok-clause-brings g c = brings-then c.args.self.now c.load.new.self c.unmark.new.self _ c.load.ensures.brings c.unmark.ensures.resting.idle.fetches

pub returns-in-Ok-clause-freed : goal.returns-in-Ok-clause-freed
returns-in-Ok-clause-freed g c = freed-open g.H.Host c.args.self.now c.load.new.self c.unmark.new.self (name_at ((loom_told g.H.Host c.args.self.now).regs c.args.of)) c.in-Ok.ensures.gone c.unmark.ensures.quiet c.unmark.ensures.due c.unmark.ensures.flag
