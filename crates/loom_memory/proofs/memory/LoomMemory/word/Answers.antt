use Rattle.std.proofs.Common.{ℕ, Option, Some, refl, sym, ◌∙◌, ap, IsTrue}
use Rattle.std.specs.List.{slice_get}
use Rattle.std.specs.Option.{option_and_then}
use Rattle.long_names.specs.declared.object.Body.{Body}
use Rattle.long_names.specs.Objects.{words_of}
use Rattle.long_names.specs.Access.{Word, OfNumber, answered}
use Rattle.core_view.specs.Held.{object_at}
use Rattle.core_view.proofs.Core.{placed-used}
use Rattle.disk_objects.specs.Function.{disk_of}
use Rattle.leaf_lambda.specs.Parts.{core_of}
use Rattle.loom_memory.specs.Memory.{loom_told}
use Rattle.loom_memory.proofs.AccessLaws.{refused-is}
use Rattle.loom_memory.proofs.MakingLaws.{thinned-ready}
use Rattle.loom_memory.proofs.FieldLaws.{told-tells}
use Rattle.loom_memory.proofs.BodyLaws.{part-here, element-there}
use Rattle.loom_memory.proofs.ReachLaws.{amiss-freed, part-left, read-freed}
use Rattle.long_names.specs.State.{name_at}
use Rattle.loom_memory.proofs.GentleLaws.{amiss-sparing, sparing-ok, sparing-err}
use Rattle.loom_memory.proofs.DamageLaws.{amiss-damage}
use Rattle.loom_memory.proofs.OneLaws.{brings-then}
use Rattle.loom_memory.proofs.memory.LoomMemory.word.Goals as goal
use Rattle.loom_memory.proofs.memory.LoomMemory.word.Given as given

pub word_at-requires-clause-there : goal.word_at-requires-clause-there
word_at-requires-clause-there g c = (c.in-Ok.ensures.here.loaded.at, c.in-Ok.ensures.here.loaded.place)

pub amiss-requires-clause-used : goal.amiss-requires-clause-used
amiss-requires-clause-used g c = placed-used ((core_of c.load.new.self.pager.levels.parts).entries c.in-Ok.s.0).state c.in-Ok.ensures.here.loaded.at c.in-Ok.ensures.here.loaded.place

pub returns-in-Some-clause-access : goal.returns-in-Some-clause-access
returns-in-Some-clause-access g c =
    let t = loom_told g.H.Host c.args.self.now in
    let n = c.load.new.self in
    let there = c.in-Ok.ensures.here.loaded in
    let o = object_at (core_of n.pager.levels.parts) (disk_of g.H.Host n.pager.levels.disk.host.now n.pager.levels.disk.rest) ((core_of n.pager.levels.parts).entries c.in-Ok.s.0) there.at in
    read-freed t (loom_told g.H.Host n) (Word c.args.of c.args.i) c.args.of OfNumber c.in-Some.w refl refl refl c.in-Ok.ensures.thinned
    (λ told. ap (λ (x : Option ℕ). answered OfNumber x) (part-here (loom_told g.H.Host n) c.args.of o (λ (b : Body). option_and_then (λ xs. slice_get xs c.args.i) (words_of b)) (Some c.in-Some.w) (there.object (told-tells g.H.Host c.args.self.now told))
    (sym (sym c.in-Some.is ∙ c.word_at.ensures (disk_of g.H.Host n.pager.levels.disk.host.now n.pager.levels.disk.rest) there.at there.place))))
    (c.in-Ok.ensures.here.core (Word c.args.of c.args.i) refl refl)

untold : (g : given.Over) (c : goal.After-amiss g) → IsTrue (loom_told g.H.Host c.args.self.now).tells → ⊥
untold g c told =
    let t = loom_told g.H.Host c.args.self.now in
    let n = c.load.new.self in
    let there = c.in-Ok.ensures.here.loaded in
    let o = object_at (core_of n.pager.levels.parts) (disk_of g.H.Host n.pager.levels.disk.host.now n.pager.levels.disk.rest) ((core_of n.pager.levels.parts).entries c.in-Ok.s.0) there.at in
    let can = c.requires.may.heap told in
    element-there (words_of o.body) can.0 c.args.i (part-left t (loom_told g.H.Host n) c.args.of o words_of (Some can.0) c.in-Ok.ensures.thinned told (there.object (told-tells g.H.Host c.args.self.now told)) can.1) can.2
    (sym (c.word_at.ensures (disk_of g.H.Host n.pager.levels.disk.host.now n.pager.levels.disk.rest) there.at there.place) ∙ c.in-None.is)

pub returns-in-None-clause-access : goal.returns-in-None-clause-access
returns-in-None-clause-access g c =
    let t = loom_told g.H.Host c.args.self.now in
    refused-is t (loom_told g.H.Host c.amiss.new.self) (Word c.args.of c.args.i) OfNumber c.amiss.result
    (amiss-freed t (loom_told g.H.Host c.load.new.self) (loom_told g.H.Host c.amiss.new.self) (Word c.args.of c.args.i) c.args.of c.amiss.result refl refl tt c.in-Ok.ensures.thinned c.requires.fit.ready c.amiss.ensures.err (untold g c))

pub returns-in-Err-clause-access : goal.returns-in-Err-clause-access
returns-in-Err-clause-access g c = refused-is (loom_told g.H.Host c.args.self.now) (loom_told g.H.Host c.load.new.self) (Word c.args.of c.args.i) OfNumber c.in-Err.f (c.in-Err.ensures.err (Word c.args.of c.args.i) refl refl tt)

pub returns-in-Some-clause-fit : goal.returns-in-Some-clause-fit
returns-in-Some-clause-fit g c = record {
  sound = c.in-Ok.ensures.leaves.sound;
  ready = thinned-ready (loom_told g.H.Host c.args.self.now) (loom_told g.H.Host c.load.new.self) c.in-Ok.ensures.thinned c.requires.fit.ready;
  lender = c.in-Ok.ensures.leaves.lender;
  outside = c.in-Ok.ensures.leaves.outside;
}

pub returns-in-Some-clause-own : goal.returns-in-Some-clause-own
returns-in-Some-clause-own g c = sparing-ok g.H.Host c.args.self.now c.load.new.self (name_at ((loom_told g.H.Host c.args.self.now).regs c.args.of)) c.in-Ok.s _ c.in-Ok.ensures.own

pub returns-in-None-clause-own : goal.returns-in-None-clause-own
returns-in-None-clause-own g c = amiss-sparing g.H.Host c.args.self.now c.amiss.new.self (name_at ((loom_told g.H.Host c.args.self.now).regs c.args.of)) c.amiss.result (untold g c)

pub returns-in-Err-clause-own : goal.returns-in-Err-clause-own
returns-in-Err-clause-own g c = sparing-err g.H.Host c.args.self.now c.load.new.self (name_at ((loom_told g.H.Host c.args.self.now).regs c.args.of)) c.in-Err.f c.in-Err.ensures.own

pub returns-in-None-clause-damage : goal.returns-in-None-clause-damage
returns-in-None-clause-damage g c = λ room. amiss-damage g.H.Host c.args.self.now c.load.new.self c.args.of c.in-Ok.s.0 c.amiss.new.self.pager.levels.disk.rest c.amiss.result c.in-Ok.ensures.leaves.sound c.in-Ok.ensures.thinned c.requires.may.names c.in-Ok.ensures.here.word c.amiss.ensures.is

pub returns-in-None-clause-brings : goal.returns-in-None-clause-brings
returns-in-None-clause-brings g c = brings-then c.args.self.now c.load.new.self c.amiss.new.self _ c.load.ensures.brings c.amiss.ensures.leaves.fetches
