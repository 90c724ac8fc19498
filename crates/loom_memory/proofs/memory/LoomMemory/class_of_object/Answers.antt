use Rattle.loom_memory.specs.Memory.{word_in}
use Rattle.loom_memory.proofs.TimeLaws.{stays-on, word-same}
use Rattle.std.proofs.Common.{Ok, ◌≡◌, ◌≤◌, ℕ, [], Some, true, IsTrue, refl, sym, ◌∙◌, ap, subst}
use Rattle.long_names.specs.declared.value.Value.{Value}
use Rattle.long_names.specs.declared.value.Value.TheVariants.{Ref}
use Rattle.long_names.specs.State.{set_register, class_at, IsRef}
use Rattle.long_names.specs.Access.{Class, Nothing}
use Rattle.loom_host.specs.declared.outside.Role.TheVariants.{Work}
use Rattle.object_memory.specs.Told.{Told, IsReady}
use Rattle.object_table.specs.declared.entry.Entry.{Entry}
use Rattle.object_table.specs.Entries.{is_short}
use Rattle.core_view.specs.Counts.{uses}
use Rattle.core_view.specs.Held.{object_at}
use Rattle.core_view.proofs.Core.{placed-used, class-used, used-live}
use Rattle.core_view.proofs.Words.{meant-short}
use Rattle.disk_objects.specs.Function.{disk_of}
use Rattle.leaf_lambda.specs.Parts.{core_of}
use Rattle.loom_memory.specs.Memory.{loom_told}
use Rattle.loom_memory.proofs.AccessLaws.{refused-is}
use Rattle.loom_memory.proofs.MakingLaws.{thinned-ready}
use Rattle.loom_memory.proofs.FieldLaws.{told-tells}
use Rattle.loom_memory.proofs.MarkingLaws.{filled}
use Rattle.loom_memory.proofs.ClassLaws.{class-there, ready-class, short-some}
use Rattle.loom_memory.proofs.ReachLaws.{class-freed, done-by}
use Rattle.long_names.specs.State.{name_at}
use Rattle.loom_memory.proofs.GentleLaws.{steady-sparing, sparing-err}
use Rattle.loom_memory.proofs.OneLaws.{brings-then}
use Rattle.loom_memory.proofs.memory.LoomMemory.class_of_object.Goals as goal
use Rattle.loom_memory.proofs.memory.LoomMemory.class_of_object.Given as given

pub used_entry-e-requires : goal.used_entry-e-requires
unfolding core_of
used_entry-e-requires g c = placed-used ((core_of c.load.new.self.pager.levels.parts).entries c.in-Ok.s.0).state c.in-Ok.ensures.here.loaded.at c.in-Ok.ensures.here.loaded.place

class-same : (g : given.Over) (c : goal.After-put_word g) → c.used_entry-e.result.class.0 ≡ ((core_of c.load.new.self.pager.levels.parts).entries c.in-Ok.s.0).class.0
unfolding core_of
class-same g c = ap (λ (e : Entry). e.class.0) c.used_entry-e.ensures

class-short : (g : given.Over) (c : goal.After-put_word g) → is_short c.used_entry-e.result.class.0 ≡ true
class-short g c = subst (λ (w : ℕ). is_short w ≡ true) (sym (class-same g c)) (c.load.new.self.pager.levels.whole.parts.core.classed c.in-Ok.s.0 c.in-Ok.ensures.here.loaded.at c.in-Ok.ensures.here.loaded.place)

pub put_word-requires-clause-used : goal.put_word-requires-clause-used
unfolding core_of
put_word-requires-clause-used g c = λ is.
    let x = core_of c.load.new.self.pager.levels.parts in
    let core = c.load.new.self.pager.levels.whole.parts.core in
    used-live x core c.used_entry-e.result.class.0 (subst (λ (w : ℕ). 1 ≤ uses x w) (sym (ap (λ (e : Entry). e.class.0) c.used_entry-e.ensures)) (class-used x core c.in-Ok.s.0 c.in-Ok.ensures.here.loaded.at c.in-Ok.ensures.here.loaded.place))

pub put_word-requires-clause-some : goal.put_word-requires-clause-some
unfolding core_of
put_word-requires-clause-some g c = short-some c.used_entry-e.result.class.0 (subst (λ (w : ℕ). is_short w ≡ true) (sym (ap (λ (e : Entry). e.class.0) c.used_entry-e.ensures)) (c.load.new.self.pager.levels.whole.parts.core.classed c.in-Ok.s.0 c.in-Ok.ensures.here.loaded.at c.in-Ok.ensures.here.loaded.place))

told-of : (g : given.Over) (c : goal.After-put_word g) → loom_told g.H.Host c.put_word.new.self ≡ record (loom_told g.H.Host c.load.new.self) { regs = set_register (loom_told g.H.Host c.load.new.self).regs c.args.to (Ref ((core_of c.load.new.self.pager.levels.parts).entries ((core_of c.load.new.self.pager.levels.parts).entries c.in-Ok.s.0).class.0).name) }
told-of g c =
    let n = c.load.new.self in
    c.put_word.ensures.told ∙ ap (λ (v : Value). record (loom_told g.H.Host n) { regs = set_register (loom_told g.H.Host n).regs c.args.to v })
    (meant-short (core_of n.pager.levels.parts).entries [] 0 c.used_entry-e.result.class.0 (class-short g c) ∙ ap (λ (w : ℕ). Ref ((core_of n.pager.levels.parts).entries w).name) (class-same g c))

class-of : (g : given.Over) (c : goal.After-put_word g) → IsTrue (g.H.Host.tells Work) → class_at (loom_told g.H.Host c.load.new.self).heap ((loom_told g.H.Host c.load.new.self).regs c.args.of) ≡ Some ((core_of c.load.new.self.pager.levels.parts).entries ((core_of c.load.new.self.pager.levels.parts).entries c.in-Ok.s.0).class.0).name
class-of g c told =
    let n = c.load.new.self in
    class-there (loom_told g.H.Host n).heap ((loom_told g.H.Host n).regs c.args.of) (object_at (core_of n.pager.levels.parts) (disk_of g.H.Host n.pager.levels.disk.host.now n.pager.levels.disk.rest) ((core_of n.pager.levels.parts).entries c.in-Ok.s.0) c.in-Ok.ensures.here.loaded.at) (c.in-Ok.ensures.here.loaded.object told)

pub returns-in-Ok-clause-access : goal.returns-in-Ok-clause-access
returns-in-Ok-clause-access g c =
    let n = c.load.new.self in
    class-freed (loom_told g.H.Host c.args.self.now) (loom_told g.H.Host n) (loom_told g.H.Host c.put_word.new.self) c.args.to c.args.of ((core_of n.pager.levels.parts).entries ((core_of n.pager.levels.parts).entries c.in-Ok.s.0).class.0).name c.in-Ok.ensures.thinned (told-of g c)
    (λ told. class-of g c (told-tells g.H.Host c.args.self.now told)) (c.in-Ok.ensures.here.core (Class c.args.to c.args.of) refl refl)

pub returns-in-Ok-clause-name : goal.returns-in-Ok-clause-name
returns-in-Ok-clause-name g c =
    let n = c.load.new.self in
    let class = ((core_of n.pager.levels.parts).entries ((core_of n.pager.levels.parts).entries c.in-Ok.s.0).class.0).name in
    subst IsRef (sym (ap (λ (t : Told). t.regs c.args.to) (told-of g c) ∙ filled (loom_told g.H.Host n).regs c.args.to (Ref class))) tt

pub returns-in-Ok-clause-fit : goal.returns-in-Ok-clause-fit
returns-in-Ok-clause-fit g c =
    let n = c.load.new.self in
    record {
      sound = c.put_word.ensures.leaves.sound;
      ready = subst (λ (t : Told). IsReady t) (sym (told-of g c)) (ready-class (loom_told g.H.Host n) c.args.to c.args.of (object_at (core_of n.pager.levels.parts) (disk_of g.H.Host n.pager.levels.disk.host.now n.pager.levels.disk.rest) ((core_of n.pager.levels.parts).entries c.in-Ok.s.0) c.in-Ok.ensures.here.loaded.at)
          (thinned-ready (loom_told g.H.Host c.args.self.now) (loom_told g.H.Host n) c.in-Ok.ensures.thinned c.requires.fit.ready) (λ told. c.in-Ok.ensures.here.loaded.object (told-tells g.H.Host n told)));
      lender = c.put_word.ensures.leaves.lender ∙ c.in-Ok.ensures.leaves.lender;
      outside = c.put_word.ensures.leaves.outside ∙ c.in-Ok.ensures.leaves.outside;
    }

pub returns-in-Err-clause-access : goal.returns-in-Err-clause-access
returns-in-Err-clause-access g c = refused-is (loom_told g.H.Host c.args.self.now) (loom_told g.H.Host c.load.new.self) (Class c.args.to c.args.of) (λ _. Nothing) c.in-Err.f (c.in-Err.ensures.err (Class c.args.to c.args.of) refl refl tt)

pub returns-in-Ok-clause-own : goal.returns-in-Ok-clause-own
returns-in-Ok-clause-own g c =
    let m = c.args.self.now in
    steady-sparing g.H.Host m c.load.new.self c.put_word.new.self (name_at ((loom_told g.H.Host m).regs c.args.of)) c.in-Ok.s _ c.in-Ok.ensures.own c.put_word.ensures.steady c.load.new.self.pager.levels.whole.parts.core c.put_word.new.self.pager.levels.whole.parts.core (ap (λ (t : Told). t.bounds) c.put_word.ensures.told)

pub returns-in-Err-clause-own : goal.returns-in-Err-clause-own
returns-in-Err-clause-own g c = sparing-err g.H.Host c.args.self.now c.load.new.self (name_at ((loom_told g.H.Host c.args.self.now).regs c.args.of)) c.in-Err.f c.in-Err.ensures.own

pub returns-in-Ok-clause-brings : goal.returns-in-Ok-clause-brings
returns-in-Ok-clause-brings g c = brings-then c.args.self.now c.load.new.self c.put_word.new.self _ c.load.ensures.brings c.put_word.ensures.steady.idle.fetches

pub returns-in-Ok-clause-gone : goal.returns-in-Ok-clause-gone
returns-in-Ok-clause-gone g c = done-by {T = Unit {0}} (Ok tt) g.H.Host c.args.self.now c.load.new.self c.put_word.new.self (name_at ((loom_told g.H.Host c.args.self.now).regs c.args.of)) (Class c.args.to c.args.of) c.in-Ok.ensures.thinned c.in-Ok.ensures.gone (λ told. ap (λ (t : Told). t.heap) (told-of g c)) c.put_word.ensures.due
    (stays-on c.args.self.now c.load.new.self c.put_word.new.self (word_in c.args.self.now.regs c.args.to) (word_in c.load.new.self.regs c.args.to) c.in-Ok.ensures.gone.stays (word-same c.args.self.now c.load.new.self c.args.to c.in-Ok.ensures.regs) c.put_word.ensures.stays)
