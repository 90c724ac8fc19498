use Rattle.std.proofs.Common.{ℤ, ◌≡◌, Option, Some, None, length, refl, sym, ◌∙◌, ap, subst, IsTrue}
use Rattle.long_names.specs.Words.{literal_count}
use Rattle.long_names.specs.declared.object.Body.{Body}
use Rattle.long_names.specs.Objects.{header_of, fields_of}
use Rattle.long_names.specs.Access.{Header, OfSigned, answered}
use Rattle.core_view.specs.Held.{fields_there, object_at}
use Rattle.core_view.proofs.Core.{placed-used}
use Rattle.disk_objects.specs.Function.{disk_of}
use Rattle.leaf_lambda.specs.Parts.{core_of}
use Rattle.loom_memory.specs.Memory.{loom_told}
use Rattle.loom_memory.proofs.AccessLaws.{refused-is}
use Rattle.loom_memory.proofs.MakingLaws.{thinned-ready}
use Rattle.loom_memory.proofs.FieldLaws.{told-tells}
use Rattle.loom_memory.proofs.BodyLaws.{method-literals, part-here}
use Rattle.loom_memory.proofs.ReachLaws.{amiss-freed, part-first, part-left, read-freed}
use Rattle.long_names.specs.State.{name_at}
use Rattle.loom_memory.proofs.GentleLaws.{amiss-sparing, sparing-ok, sparing-err}
use Rattle.loom_memory.proofs.DamageLaws.{amiss-damage}
use Rattle.loom_memory.proofs.OneLaws.{brings-then}
use Rattle.loom_memory.proofs.memory.LoomMemory.header.Goals as goal
use Rattle.loom_memory.proofs.memory.LoomMemory.header.Given as given
use Rattle.std.proofs.Common.{Ok, IfSome}
use Rattle.std.specs.Int.{w16}
use mir.Val.{to_z, of_z}
use Rattle.long_names.specs.Words.{IsSmallInteger}
use Rattle.object_memory.specs.Contract.{Accessed}
use Rattle.object_memory.proofs.ShapeLaws.{small_number}

number-of : (g : given.Over) (c : goal.In-Some g) → to_z w16 (of_z w16 c.in-Some.header) ≡ c.in-Some.header
number-of g c = small_number c.in-Some.header (subst (λ (o : Option ℤ). IfSome o IsSmallInteger) c.in-Some.is c.header_at.ensures.range)

pub header_at-requires-clause-there : goal.header_at-requires-clause-there
header_at-requires-clause-there g c = (c.in-Ok.ensures.here.loaded.at, c.in-Ok.ensures.here.loaded.place)

pub amiss-requires-clause-used : goal.amiss-requires-clause-used
amiss-requires-clause-used g c = placed-used ((core_of c.load.new.self.pager.levels.parts).entries c.in-Ok.s.0).state c.in-Ok.ensures.here.loaded.at c.in-Ok.ensures.here.loaded.place

pub returns-in-Some-clause-access : goal.returns-in-Some-clause-access
returns-in-Some-clause-access g c =
    let t = loom_told g.H.Host c.args.self.now in
    let n = c.load.new.self in
    let there = c.in-Ok.ensures.here.loaded in
    let o = object_at (core_of n.pager.levels.parts) (disk_of g.H.Host n.pager.levels.disk.host.now n.pager.levels.disk.rest) ((core_of n.pager.levels.parts).entries c.in-Ok.s.0) there.at in
    subst (λ (z : ℤ). Accessed {A = ℤ} t (loom_told g.H.Host n) (Header c.args.of) OfSigned (Ok z)) (sym (number-of g c)) (read-freed t (loom_told g.H.Host n) (Header c.args.of) c.args.of OfSigned c.in-Some.header refl refl refl c.in-Ok.ensures.thinned
    (λ told. ap (λ (x : Option ℤ). answered OfSigned x) (part-here (loom_told g.H.Host n) c.args.of o header_of (Some c.in-Some.header) (there.object (told-tells g.H.Host c.args.self.now told))
    (sym (sym c.in-Some.is ∙ c.header_at.ensures.header (disk_of g.H.Host n.pager.levels.disk.host.now n.pager.levels.disk.rest) there.at there.place))))
    (c.in-Ok.ensures.here.core (Header c.args.of) refl refl))

pub returns-in-Some-clause-literals : goal.returns-in-Some-clause-literals
returns-in-Some-clause-literals g c = λ told.
    let t = loom_told g.H.Host c.args.self.now in
    let n = c.load.new.self in
    let there = c.in-Ok.ensures.here.loaded in
    let o = object_at (core_of n.pager.levels.parts) (disk_of g.H.Host n.pager.levels.disk.host.now n.pager.levels.disk.rest) ((core_of n.pager.levels.parts).entries c.in-Ok.s.0) there.at in
    let e = (core_of n.pager.levels.parts).entries c.in-Ok.s.0 in
    part-first t (loom_told g.H.Host n) c.args.of o (λ (b : Body). Some (length (fields_of b))) (Some (literal_count c.in-Some.header)) c.in-Ok.ensures.thinned told (there.object (told-tells g.H.Host c.args.self.now told))
    (ap Some (method-literals (core_of n.pager.levels.parts).entries (fields_there (disk_of g.H.Host n.pager.levels.disk.host.now n.pager.levels.disk.rest e.name)) ((core_of n.pager.levels.parts).chunks there.at).words e.kind e.len c.in-Some.header (c.load.new.self.pager.levels.whole.parts.core.long c.in-Ok.s.0 there.at there.place)
    (sym (sym c.in-Some.is ∙ c.header_at.ensures.header (disk_of g.H.Host n.pager.levels.disk.host.now n.pager.levels.disk.rest) there.at there.place)))) ∙ ap (λ (z : ℤ). Some (literal_count z)) (sym (number-of g c))

untold : (g : given.Over) (c : goal.After-amiss g) → IsTrue (loom_told g.H.Host c.args.self.now).tells → ⊥
untold g c told =
    let t = loom_told g.H.Host c.args.self.now in
    let n = c.load.new.self in
    let there = c.in-Ok.ensures.here.loaded in
    let o = object_at (core_of n.pager.levels.parts) (disk_of g.H.Host n.pager.levels.disk.host.now n.pager.levels.disk.rest) ((core_of n.pager.levels.parts).entries c.in-Ok.s.0) there.at in
    let can = c.requires.may.heap told in
    let there_ : Some can.0 ≡ None = sym (part-left t (loom_told g.H.Host n) c.args.of o header_of (Some can.0) c.in-Ok.ensures.thinned told (there.object (told-tells g.H.Host c.args.self.now told)) can.1)
    ∙ sym (c.header_at.ensures.header (disk_of g.H.Host n.pager.levels.disk.host.now n.pager.levels.disk.rest) there.at there.place) ∙ c.in-None.is in cc

pub returns-in-None-clause-access : goal.returns-in-None-clause-access
returns-in-None-clause-access g c =
    let t = loom_told g.H.Host c.args.self.now in
    refused-is t (loom_told g.H.Host c.amiss.new.self) (Header c.args.of) OfSigned c.amiss.result
    (amiss-freed t (loom_told g.H.Host c.load.new.self) (loom_told g.H.Host c.amiss.new.self) (Header c.args.of) c.args.of c.amiss.result refl refl tt c.in-Ok.ensures.thinned c.requires.fit.ready c.amiss.ensures.err (untold g c))

pub returns-in-Err-clause-access : goal.returns-in-Err-clause-access
returns-in-Err-clause-access g c = refused-is (loom_told g.H.Host c.args.self.now) (loom_told g.H.Host c.load.new.self) (Header c.args.of) OfSigned c.in-Err.f (c.in-Err.ensures.err (Header c.args.of) refl refl tt)

pub returns-in-Some-clause-fit : goal.returns-in-Some-clause-fit
returns-in-Some-clause-fit g c = record {
  sound = c.in-Ok.ensures.leaves.sound;
  ready = thinned-ready (loom_told g.H.Host c.args.self.now) (loom_told g.H.Host c.load.new.self) c.in-Ok.ensures.thinned c.requires.fit.ready;
  lender = c.in-Ok.ensures.leaves.lender;
  outside = c.in-Ok.ensures.leaves.outside;
}

pub returns-in-Some-clause-own : goal.returns-in-Some-clause-own
returns-in-Some-clause-own g c = sparing-ok g.H.Host c.args.self.now c.load.new.self (name_at ((loom_told g.H.Host c.args.self.now).regs c.args.of)) c.in-Ok.s _ c.in-Ok.ensures.own

pub returns-in-None-clause-own : goal.returns-in-None-clause-own
returns-in-None-clause-own g c = amiss-sparing g.H.Host c.args.self.now c.amiss.new.self (name_at ((loom_told g.H.Host c.args.self.now).regs c.args.of)) c.amiss.result (untold g c)

pub returns-in-Err-clause-own : goal.returns-in-Err-clause-own
returns-in-Err-clause-own g c = sparing-err g.H.Host c.args.self.now c.load.new.self (name_at ((loom_told g.H.Host c.args.self.now).regs c.args.of)) c.in-Err.f c.in-Err.ensures.own

pub returns-in-None-clause-damage : goal.returns-in-None-clause-damage
returns-in-None-clause-damage g c = λ room. amiss-damage g.H.Host c.args.self.now c.load.new.self c.args.of c.in-Ok.s.0 c.amiss.new.self.pager.levels.disk.rest c.amiss.result c.in-Ok.ensures.leaves.sound c.in-Ok.ensures.thinned c.requires.may.names c.in-Ok.ensures.here.word c.amiss.ensures.is

pub returns-in-None-clause-brings : goal.returns-in-None-clause-brings
returns-in-None-clause-brings g c = brings-then c.args.self.now c.load.new.self c.amiss.new.self _ c.load.ensures.brings c.amiss.ensures.leaves.fetches
