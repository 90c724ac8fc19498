use Rattle.loom_memory.proofs.TimeLaws.{speech-due, speech-keeps}
use Rattle.std.proofs.Common.{◌≡◌, Some, None, refl, sym, ◌∙◌, ap}
use Rattle.long_names.specs.Objects.{text_of}
use Rattle.long_names.specs.Access.{Say, KindOf, Nothing}
use Rattle.object_table.specs.declared.entry.Entry.{Entry}
use Rattle.core_view.specs.Held.{fields_there, object_at}
use Rattle.core_view.proofs.Core.{placed-used}
use Rattle.disk_objects.specs.Function.{disk_of}
use Rattle.leaf_lambda.specs.Parts.{core_of}
use Rattle.loom_memory.specs.Memory.{loom_told, IsSound}
use Rattle.loom_memory.specs.Says.{text_at}
use Rattle.loom_memory.proofs.AccessLaws.{refused-is}
use Rattle.loom_memory.proofs.FieldLaws.{told-tells}
use Rattle.loom_memory.proofs.ReachLaws.{amiss-freed, done-by, part-left, quiet-refl, said-freed, said-heap}
use Rattle.loom_memory.proofs.MakingLaws.{thinned-ready}
use Rattle.loom_memory.proofs.SayLaws.{silent-refused}
use Rattle.loom_memory.proofs.TextLaws.{text-loaded, text-none, text-long, said-from, say-ready, keeps-sound}
use Rattle.long_names.specs.State.{name_at}
use Rattle.loom_memory.proofs.GentleLaws.{then-heard}
use Rattle.loom_memory.proofs.DamageLaws.{amiss-damage, undamaged-of}
use Rattle.loom_memory.proofs.OneLaws.{brings-then}
use Rattle.loom_memory.proofs.memory.LoomMemory.say.Goals as goal
use Rattle.loom_memory.proofs.memory.LoomMemory.say.Given as given

pub used_entry-e-requires : goal.used_entry-e-requires
unfolding core_of
used_entry-e-requires g c = placed-used ((core_of c.load.new.self.pager.levels.parts).entries c.in-Ok.s.0).state c.in-Ok.ensures.here.loaded.at c.in-Ok.ensures.here.loaded.place

pub say_text-requires-clause-text : goal.say_text-requires-clause-text
unfolding core_of
say_text-requires-clause-text g c = text-loaded g.H.Host c.load.new.self c.args.of c.in-Ok.s.0 c.in-Ok.ensures.here.loaded (ap (λ (e : Entry). e.kind) (sym c.used_entry-e.ensures) ∙ c.has_text.ensures.has c.if-has_text.true)

pub say_text-requires-clause-len : goal.say_text-requires-clause-len
unfolding core_of
say_text-requires-clause-len g c = ap (λ (e : Entry). e.len) c.used_entry-e.ensures

pub amiss-requires-clause-used : goal.amiss-requires-clause-used
amiss-requires-clause-used g c = placed-used ((core_of c.load.new.self.pager.levels.parts).entries c.in-Ok.s.0).state c.in-Ok.ensures.here.loaded.at c.in-Ok.ensures.here.loaded.place

pub returns-then-has_text-clause-access : goal.returns-then-has_text-clause-access
unfolding core_of
returns-then-has_text-clause-access g c =
    let t = loom_told g.H.Host c.args.self.now in
    let n = c.load.new.self in
    let u = loom_told g.H.Host n in
    let v = loom_told g.H.Host c.say_text.new.self in
    let text = text-loaded g.H.Host n c.args.of c.in-Ok.s.0 c.in-Ok.ensures.here.loaded (ap (λ (e : Entry). e.kind) (sym c.used_entry-e.ensures) ∙ c.has_text.ensures.has c.if-has_text.true) in
    let len : c.used_entry-e.result.len ≡ ((core_of n.pager.levels.parts).entries c.in-Ok.s.0).len = ap (λ (e : Entry). e.len) c.used_entry-e.ensures in
    said-freed c.say_text.result t u v c.args.of c.used_entry-e.result.len (text_at (core_of n.pager.levels.parts) c.in-Ok.s.0 text.at) c.in-Ok.ensures.thinned c.requires.fit.ready c.say_text.ensures.said c.say_text.ensures.err
    (λ told. text.says (told-tells g.H.Host c.args.self.now told)) (text-long (core_of n.pager.levels.parts) c.in-Ok.s.0 text.at c.load.new.self.pager.levels.whole.parts.core text.place text.kind ∙ sym len) (c.in-Ok.ensures.here.core (Say c.args.of) refl refl)

pub returns-then-has_text-clause-fit : goal.returns-then-has_text-clause-fit
returns-then-has_text-clause-fit g c =
    let t = loom_told g.H.Host c.args.self.now in
    let u = loom_told g.H.Host c.load.new.self in
    let v = loom_told g.H.Host c.say_text.new.self in
    record {
      sound = keeps-sound c.say_text.result (IsSound g.H.Host c.say_text.new.self) c.say_text.ensures.leaves.sound;
      ready = say-ready c.say_text.result u v c.args.of c.used_entry-e.result.len (said-from c.say_text.result u u v c.args.of c.used_entry-e.result.len c.say_text.ensures.said (quiet-refl u)) (thinned-ready t u c.in-Ok.ensures.thinned c.requires.fit.ready);
      lender = c.say_text.ensures.leaves.lender ∙ c.in-Ok.ensures.leaves.lender;
      outside = c.say_text.ensures.leaves.outside ∙ c.in-Ok.ensures.leaves.outside;
    }

no-text : (g : given.Over) (c : goal.After-amiss g) → text_of (object_at (core_of c.load.new.self.pager.levels.parts) (disk_of g.H.Host c.load.new.self.pager.levels.disk.host.now c.load.new.self.pager.levels.disk.rest) ((core_of c.load.new.self.pager.levels.parts).entries c.in-Ok.s.0) c.in-Ok.ensures.here.loaded.at).body ≡ None
unfolding core_of
no-text g c =
    let n = c.load.new.self in
    let e = (core_of n.pager.levels.parts).entries c.in-Ok.s.0 in
    text-none (core_of n.pager.levels.parts).entries (fields_there (disk_of g.H.Host n.pager.levels.disk.host.now n.pager.levels.disk.rest e.name)) ((core_of n.pager.levels.parts).chunks c.in-Ok.ensures.here.loaded.at).words e.kind e.len
    (λ is. c.has_text.ensures.lacks c.if-has_text.false (ap (λ (e : Entry). e.kind) c.used_entry-e.ensures ∙ is))

pub returns-else-has_text-clause-access : goal.returns-else-has_text-clause-access
returns-else-has_text-clause-access g c =
    let t = loom_told g.H.Host c.args.self.now in
    let n = c.load.new.self in
    let there = c.in-Ok.ensures.here.loaded in
    let o = object_at (core_of n.pager.levels.parts) (disk_of g.H.Host n.pager.levels.disk.host.now n.pager.levels.disk.rest) ((core_of n.pager.levels.parts).entries c.in-Ok.s.0) there.at in
    refused-is t (loom_told g.H.Host c.amiss.new.self) (Say c.args.of) (λ _. Nothing) c.amiss.result
    (silent-refused t (loom_told g.H.Host c.amiss.new.self) c.args.of c.amiss.result (amiss-freed t (loom_told g.H.Host n) (loom_told g.H.Host c.amiss.new.self) (KindOf c.args.of) c.args.of c.amiss.result refl refl tt c.in-Ok.ensures.thinned c.requires.fit.ready c.amiss.ensures.err
    (λ told. let can = c.requires.may.heap told in
    let both : None ≡ Some can.0 = sym (no-text g c) ∙ part-left t (loom_told g.H.Host n) c.args.of o text_of (Some can.0) c.in-Ok.ensures.thinned told (there.object (told-tells g.H.Host c.args.self.now told)) can.1 in
    absurd (cc))))

pub returns-in-Err-clause-access : goal.returns-in-Err-clause-access
returns-in-Err-clause-access g c = refused-is (loom_told g.H.Host c.args.self.now) (loom_told g.H.Host c.load.new.self) (Say c.args.of) (λ _. Nothing) c.in-Err.f
    (silent-refused (loom_told g.H.Host c.args.self.now) (loom_told g.H.Host c.load.new.self) c.args.of c.in-Err.f (c.in-Err.ensures.err (KindOf c.args.of) refl refl tt))

pub returns-then-has_text-clause-own : goal.returns-then-has_text-clause-own
returns-then-has_text-clause-own g c = then-heard c.say_text.result g.H.Host c.args.self.now c.load.new.self c.say_text.new.self (name_at ((loom_told g.H.Host c.args.self.now).regs c.args.of)) c.in-Ok.s c.in-Ok.ensures.own c.say_text.ensures.speech

pub returns-then-has_text-clause-damage : goal.returns-then-has_text-clause-damage
returns-then-has_text-clause-damage g c = undamaged-of c.say_text.result c.args.self.now c.say_text.new.self (name_at ((loom_told g.H.Host c.args.self.now).regs c.args.of)) c.say_text.ensures.undamaged

pub returns-else-has_text-clause-damage : goal.returns-else-has_text-clause-damage
returns-else-has_text-clause-damage g c = λ room. amiss-damage g.H.Host c.args.self.now c.load.new.self c.args.of c.in-Ok.s.0 c.amiss.new.self.pager.levels.disk.rest c.amiss.result c.in-Ok.ensures.leaves.sound c.in-Ok.ensures.thinned c.requires.may.names c.in-Ok.ensures.here.word c.amiss.ensures.is

pub returns-then-has_text-clause-brings : goal.returns-then-has_text-clause-brings
returns-then-has_text-clause-brings g c = brings-then c.args.self.now c.load.new.self c.say_text.new.self _ c.load.ensures.brings c.say_text.ensures.leaves.fetches

pub returns-else-has_text-clause-brings : goal.returns-else-has_text-clause-brings
returns-else-has_text-clause-brings g c = brings-then c.args.self.now c.load.new.self c.amiss.new.self _ c.load.ensures.brings c.amiss.ensures.leaves.fetches

pub returns-then-has_text-clause-gone : goal.returns-then-has_text-clause-gone
returns-then-has_text-clause-gone g c = done-by c.say_text.result g.H.Host c.args.self.now c.load.new.self c.say_text.new.self (name_at ((loom_told g.H.Host c.args.self.now).regs c.args.of)) (Say c.args.of) c.in-Ok.ensures.thinned c.in-Ok.ensures.gone
    (said-heap c.say_text.result g.H.Host c.load.new.self c.say_text.new.self c.args.of c.used_entry-e.result.len c.say_text.ensures.said)
    (speech-due c.say_text.result g.H.Host c.load.new.self c.say_text.new.self c.say_text.ensures.speech) (speech-keeps c.say_text.result g.H.Host c.args.self.now c.load.new.self c.say_text.new.self c.in-Ok.ensures.gone.stays c.say_text.ensures.speech)
