use Rattle.loom_memory.proofs.TimeLaws.{keeps-on}
use Rattle.std.proofs.Common.{Ok, ◌≡◌, [], Some, refl, sym, ◌∙◌, ap}
use Rattle.long_names.specs.declared.value.Value.TheVariants.{Ref}
use Rattle.long_names.specs.Access.{Mark, Nothing}
use Rattle.core_view.specs.Words.{meant}
use Rattle.core_view.proofs.Core.{placed-used}
use Rattle.core_view.proofs.Words.{meant-short}
use Rattle.leaf_lambda.specs.Parts.{core_of}
use Rattle.loom_memory.specs.Memory.{loom_told}
use Rattle.loom_memory.proofs.AccessLaws.{refused-is}
use Rattle.loom_memory.proofs.MakingLaws.{thinned-ready}
use Rattle.loom_memory.proofs.MarkingLaws.{ready-mark, marked-name}
use Rattle.loom_memory.proofs.ReachLaws.{done-by, mark-freed}
use Rattle.long_names.specs.State.{name_at}
use Rattle.loom_memory.proofs.GentleLaws.{changed-sparing, refused-change}
use Rattle.object_memory.specs.Told.{Told, Cache}
use Rattle.object_memory.specs.Contract.{with_mark}
use Rattle.loom_memory.proofs.MindLaws.{minds-mark}
use Rattle.loom_memory.proofs.OneLaws.{brings-then}
use Rattle.loom_memory.proofs.memory.LoomMemory.mark.Goals as goal
use Rattle.loom_memory.proofs.memory.LoomMemory.mark.Given as given

name-of : (g : given.Over) (c : goal.After-note_mark g) → (loom_told g.H.Host c.load.new.self).regs c.args.r ≡ Ref ((core_of c.load.new.self.pager.levels.parts).entries c.in-Ok.s.0).name
unfolding loom_told
name-of g c =
    let n = c.load.new.self in
    ap (meant (core_of n.pager.levels.parts).entries [] 0) (sym c.in-Ok.ensures.here.word)
    ∙ meant-short (core_of n.pager.levels.parts).entries [] 0 c.in-Ok.s.0 (c.load.new.self.pager.levels.whole.parts.core.short c.in-Ok.s.0 (placed-used ((core_of n.pager.levels.parts).entries c.in-Ok.s.0).state c.in-Ok.ensures.here.loaded.at c.in-Ok.ensures.here.loaded.place))

pub note_mark-requires-clause-there : goal.note_mark-requires-clause-there
note_mark-requires-clause-there g c = (c.in-Ok.ensures.here.loaded.at, c.in-Ok.ensures.here.loaded.place)

pub returns-in-Ok-clause-access : goal.returns-in-Ok-clause-access
returns-in-Ok-clause-access g c =
    mark-freed (loom_told g.H.Host c.args.self.now) (loom_told g.H.Host c.load.new.self) (loom_told g.H.Host c.note_mark.new.self) c.args.r ((core_of c.load.new.self.pager.levels.parts).entries c.in-Ok.s.0).name c.in-Ok.ensures.thinned c.note_mark.ensures.marked (name-of g c)
    (c.in-Ok.ensures.here.core (Mark c.args.r) refl refl)

pub returns-in-Ok-clause-marked : goal.returns-in-Ok-clause-marked
returns-in-Ok-clause-marked g c = marked-name (loom_told g.H.Host c.args.self.now) (loom_told g.H.Host c.load.new.self) (loom_told g.H.Host c.note_mark.new.self) c.args.r ((core_of c.load.new.self.pager.levels.parts).entries c.in-Ok.s.0).name c.in-Ok.ensures.thinned c.note_mark.ensures.marked (name-of g c)

pub returns-in-Ok-clause-fit : goal.returns-in-Ok-clause-fit
returns-in-Ok-clause-fit g c = record {
  sound = c.note_mark.ensures.leaves.sound;
  ready = ready-mark (loom_told g.H.Host c.load.new.self) (loom_told g.H.Host c.note_mark.new.self) c.args.r ((core_of c.load.new.self.pager.levels.parts).entries c.in-Ok.s.0).name c.note_mark.ensures.marked (name-of g c)
      (thinned-ready (loom_told g.H.Host c.args.self.now) (loom_told g.H.Host c.load.new.self) c.in-Ok.ensures.thinned c.requires.fit.ready);
  lender = c.note_mark.ensures.leaves.lender ∙ c.in-Ok.ensures.leaves.lender;
  outside = c.note_mark.ensures.leaves.outside ∙ c.in-Ok.ensures.leaves.outside;
}

pub returns-in-Err-clause-access : goal.returns-in-Err-clause-access
returns-in-Err-clause-access g c = refused-is (loom_told g.H.Host c.args.self.now) (loom_told g.H.Host c.load.new.self) (Mark c.args.r) (λ _. Nothing) c.in-Err.f (c.in-Err.ensures.err (Mark c.args.r) refl refl tt)

pub returns-in-Ok-clause-own : goal.returns-in-Ok-clause-own
returns-in-Ok-clause-own g c = changed-sparing g.H.Host c.args.self.now c.load.new.self c.note_mark.new.self (name_at ((loom_told g.H.Host c.args.self.now).regs c.args.r)) c.in-Ok.s _ c.in-Ok.ensures.own c.note_mark.ensures.resting c.load.new.self.pager.levels.whole.parts.core c.note_mark.new.self.pager.levels.whole.parts.core

pub returns-in-Err-clause-own : goal.returns-in-Err-clause-own
returns-in-Err-clause-own g c = refused-change g.H.Host c.args.self.now c.load.new.self (name_at ((loom_told g.H.Host c.args.self.now).regs c.args.r)) c.in-Err.f c.in-Err.ensures.own

pub returns-in-Ok-clause-cached : goal.returns-in-Ok-clause-cached
returns-in-Ok-clause-cached g c = λ place.
    let m = c.args.self.now in
    let s = (core_of c.load.new.self.pager.levels.parts).entries c.in-Ok.s.0 in
    let name : s.name ≡ name_at ((loom_told g.H.Host m).regs c.args.r) = ap name_at (sym (name-of g c)) ∙ ap (λ (z : Told). name_at (z.regs c.args.r)) c.in-Ok.ensures.thinned.same in
    c.note_mark.ensures.cached ∙ ap (λ (z : Cache). with_mark z (Some s.name)) (c.in-Ok.ensures.own.cached place) ∙ ap (λ n. with_mark (loom_told g.H.Host m).cache (Some n)) name

pub returns-in-Ok-clause-minds : goal.returns-in-Ok-clause-minds
returns-in-Ok-clause-minds g c =
    let m = c.args.self.now in
    let u = c.load.new.self in
    let s = (core_of u.pager.levels.parts).entries c.in-Ok.s.0 in
    let n = name_at ((loom_told g.H.Host m).regs c.args.r) in
    let name : s.name ≡ n = ap name_at (sym (name-of g c)) ∙ ap (λ (z : Told). name_at (z.regs c.args.r)) c.in-Ok.ensures.thinned.same in
    minds-mark g.H.Host m u c.note_mark.new.self n c.in-Ok.ensures.own.minds c.load.new.self.pager.levels.whole.parts.core c.note_mark.new.self.pager.levels.whole.parts.core c.note_mark.ensures.resting.remains c.note_mark.ensures.none c.note_mark.ensures.resting.idle.fetches c.in-Ok.ensures.own.reached.there
    (c.note_mark.ensures.cached ∙ ap (λ k. with_mark (loom_told g.H.Host u).cache (Some k)) name)

pub returns-in-Ok-clause-brings : goal.returns-in-Ok-clause-brings
returns-in-Ok-clause-brings g c = brings-then c.args.self.now c.load.new.self c.note_mark.new.self _ c.load.ensures.brings c.note_mark.ensures.resting.idle.fetches

pub returns-in-Ok-clause-gone : goal.returns-in-Ok-clause-gone
returns-in-Ok-clause-gone g c = done-by {T = Unit {0}} (Ok tt) g.H.Host c.args.self.now c.load.new.self c.note_mark.new.self (name_at ((loom_told g.H.Host c.args.self.now).regs c.args.r)) (Mark c.args.r) c.in-Ok.ensures.thinned c.in-Ok.ensures.gone (λ told. ap (λ (t : Told). t.heap) c.note_mark.ensures.marked.same) c.note_mark.ensures.due (keeps-on c.args.self.now c.load.new.self c.note_mark.new.self c.in-Ok.ensures.gone.stays c.note_mark.ensures.flag)
