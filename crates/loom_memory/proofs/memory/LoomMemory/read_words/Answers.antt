use Rattle.std.proofs.Common.{Bool, MatchBool, ℕ, List, Option, Some, length, take, drop, refl, sym, ◌∙◌, ap, subst, IsTrue}
use Rattle.std.specs.Option.{option_and_then}
use Rattle.long_names.specs.Objects.{words_of}
use Rattle.long_names.specs.Access.{ReadWords, OfRun}
use Rattle.core_view.specs.Held.{object_at}
use Rattle.core_view.proofs.Core.{placed-used}
use Rattle.disk_objects.specs.Function.{disk_of}
use Rattle.leaf_lambda.specs.Parts.{core_of}
use Rattle.loom_memory.specs.Memory.{loom_told}
use Rattle.loom_memory.specs.Bodies.{HasRun, LacksRun}
use Rattle.loom_memory.proofs.AccessLaws.{refused-is}
use Rattle.loom_memory.proofs.MakingLaws.{thinned-ready}
use Rattle.loom_memory.proofs.FieldLaws.{told-tells}
use Rattle.loom_memory.proofs.BodyLaws.{part-here}
use Rattle.loom_memory.proofs.ReachLaws.{amiss-freed, part-left, read-freed}
use Rattle.long_names.specs.State.{name_at}
use Rattle.loom_memory.proofs.GentleLaws.{amiss-sparing, sparing-ok, sparing-err}
use Rattle.loom_memory.proofs.DamageLaws.{amiss-damage}
use Rattle.loom_memory.proofs.OneLaws.{brings-then}
use Rattle.loom_memory.proofs.memory.LoomMemory.read_words.Goals as goal
use Rattle.loom_memory.proofs.memory.LoomMemory.read_words.Given as given

pub words_into-requires-clause-there : goal.words_into-requires-clause-there
words_into-requires-clause-there g c = (c.in-Ok.ensures.here.loaded.at, c.in-Ok.ensures.here.loaded.place)

pub amiss-requires-clause-used : goal.amiss-requires-clause-used
amiss-requires-clause-used g c = placed-used ((core_of c.load.new.self.pager.levels.parts).entries c.in-Ok.s.0).state c.in-Ok.ensures.here.loaded.at c.in-Ok.ensures.here.loaded.place

pub returns-then-words_into-clause-access : goal.returns-then-words_into-clause-access
returns-then-words_into-clause-access g c =
    let t = loom_told g.H.Host c.args.self.now in
    let n = c.load.new.self in
    let there = c.in-Ok.ensures.here.loaded in
    let o = object_at (core_of n.pager.levels.parts) (disk_of g.H.Host n.pager.levels.disk.host.now n.pager.levels.disk.rest) ((core_of n.pager.levels.parts).entries c.in-Ok.s.0) there.at in
    let has : HasRun (words_of o.body) c.args.at (length c.args.out.now) c.words_into.new.out = subst (λ (b : Bool). MatchBool b (HasRun (words_of o.body) c.args.at (length c.args.out.now) c.words_into.new.out) (LacksRun (words_of o.body) c.args.at (length c.args.out.now))) c.if-words_into.true (c.words_into.ensures (disk_of g.H.Host n.pager.levels.disk.host.now n.pager.levels.disk.rest) there.at there.place) in
    read-freed {A = Unit {0}} t (loom_told g.H.Host n) (ReadWords c.args.of c.args.at (length c.args.out.now)) c.args.of (λ _. OfRun c.words_into.new.out) tt refl refl refl c.in-Ok.ensures.thinned
    (λ told. ap (λ (x : Option (List ℕ)). option_and_then (λ xs. Some (OfRun (take (length c.args.out.now) (drop c.args.at xs)))) x) (part-here (loom_told g.H.Host n) c.args.of o words_of (Some has.0) (there.object (told-tells g.H.Host c.args.self.now told)) has.1) ∙ ap (λ (r : List ℕ). Some (OfRun r)) (sym has.2))
    (c.in-Ok.ensures.here.core (ReadWords c.args.of c.args.at (length c.args.out.now)) refl refl)

untold : (g : given.Over) (c : goal.After-amiss g) → IsTrue (loom_told g.H.Host c.args.self.now).tells → ⊥
untold g c told =
    let t = loom_told g.H.Host c.args.self.now in
    let n = c.load.new.self in
    let there = c.in-Ok.ensures.here.loaded in
    let o = object_at (core_of n.pager.levels.parts) (disk_of g.H.Host n.pager.levels.disk.host.now n.pager.levels.disk.rest) ((core_of n.pager.levels.parts).entries c.in-Ok.s.0) there.at in
    let lacks : LacksRun (words_of o.body) c.args.at (length c.args.out.now) = subst (λ (b : Bool). MatchBool b (HasRun (words_of o.body) c.args.at (length c.args.out.now) c.words_into.new.out) (LacksRun (words_of o.body) c.args.at (length c.args.out.now))) c.if-words_into.false (c.words_into.ensures (disk_of g.H.Host n.pager.levels.disk.host.now n.pager.levels.disk.rest) there.at there.place) in
    let can = c.requires.may.heap told in
    lacks can.0 (part-left t (loom_told g.H.Host n) c.args.of o words_of (Some can.0) c.in-Ok.ensures.thinned told (there.object (told-tells g.H.Host c.args.self.now told)) can.1) can.2

pub returns-else-words_into-clause-access : goal.returns-else-words_into-clause-access
returns-else-words_into-clause-access g c =
    let t = loom_told g.H.Host c.args.self.now in
    refused-is {A = Unit {0}} t (loom_told g.H.Host c.amiss.new.self) (ReadWords c.args.of c.args.at (length c.args.out.now)) (λ _. OfRun c.words_into.new.out) c.amiss.result
    (amiss-freed t (loom_told g.H.Host c.load.new.self) (loom_told g.H.Host c.amiss.new.self) (ReadWords c.args.of c.args.at (length c.args.out.now)) c.args.of c.amiss.result refl refl tt c.in-Ok.ensures.thinned c.requires.fit.ready c.amiss.ensures.err (untold g c))

pub returns-in-Err-clause-access : goal.returns-in-Err-clause-access
returns-in-Err-clause-access g c = refused-is {A = Unit {0}} (loom_told g.H.Host c.args.self.now) (loom_told g.H.Host c.load.new.self) (ReadWords c.args.of c.args.at (length c.args.out.now)) (λ _. OfRun c.args.out.now) c.in-Err.f (c.in-Err.ensures.err (ReadWords c.args.of c.args.at (length c.args.out.now)) refl refl tt)

pub returns-then-words_into-clause-fit : goal.returns-then-words_into-clause-fit
returns-then-words_into-clause-fit g c = record {
  sound = c.in-Ok.ensures.leaves.sound;
  ready = thinned-ready (loom_told g.H.Host c.args.self.now) (loom_told g.H.Host c.load.new.self) c.in-Ok.ensures.thinned c.requires.fit.ready;
  lender = c.in-Ok.ensures.leaves.lender;
  outside = c.in-Ok.ensures.leaves.outside;
}

pub returns-then-words_into-clause-own : goal.returns-then-words_into-clause-own
returns-then-words_into-clause-own g c = sparing-ok g.H.Host c.args.self.now c.load.new.self (name_at ((loom_told g.H.Host c.args.self.now).regs c.args.of)) c.in-Ok.s _ c.in-Ok.ensures.own

pub returns-else-words_into-clause-own : goal.returns-else-words_into-clause-own
returns-else-words_into-clause-own g c = amiss-sparing g.H.Host c.args.self.now c.amiss.new.self (name_at ((loom_told g.H.Host c.args.self.now).regs c.args.of)) c.amiss.result (untold g c)

pub returns-in-Err-clause-own : goal.returns-in-Err-clause-own
returns-in-Err-clause-own g c = sparing-err g.H.Host c.args.self.now c.load.new.self (name_at ((loom_told g.H.Host c.args.self.now).regs c.args.of)) c.in-Err.f c.in-Err.ensures.own

pub returns-else-words_into-clause-damage : goal.returns-else-words_into-clause-damage
returns-else-words_into-clause-damage g c = λ room. amiss-damage g.H.Host c.args.self.now c.load.new.self c.args.of c.in-Ok.s.0 c.amiss.new.self.pager.levels.disk.rest c.amiss.result c.in-Ok.ensures.leaves.sound c.in-Ok.ensures.thinned c.requires.may.names c.in-Ok.ensures.here.word c.amiss.ensures.is

pub returns-else-words_into-clause-brings : goal.returns-else-words_into-clause-brings
returns-else-words_into-clause-brings g c = brings-then c.args.self.now c.load.new.self c.amiss.new.self _ c.load.ensures.brings c.amiss.ensures.leaves.fetches
