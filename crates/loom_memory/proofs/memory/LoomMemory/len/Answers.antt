use Rattle.std.proofs.Common.{◌≡◌, ℕ, ◌<◌, Option, Some, refl, sym, ◌∙◌, ap, subst}
use Rattle.std.specs.Option.{option_and_then}
use Rattle.long_names.specs.declared.object.Object.{Object}
use Rattle.long_names.specs.Objects.{len_of}
use Rattle.long_names.specs.Access.{Length, OfNumber}
use Rattle.object_table.specs.declared.entry.Entry.{Entry}
use Rattle.core_view.specs.Held.{fields_there}
use Rattle.core_view.proofs.Core.{placed-used}
use Rattle.disk_objects.specs.Function.{disk_of}
use Rattle.leaf_lambda.specs.Parts.{core_of}
use Rattle.loom_memory.specs.Memory.{loom_told}
use Rattle.loom_memory.proofs.AccessLaws.{refused-is}
use Rattle.loom_memory.proofs.MakingLaws.{thinned-ready}
use Rattle.loom_memory.proofs.FieldLaws.{told-tells}
use Rattle.loom_memory.proofs.BodyLaws.{len-is, most-small}
use Rattle.loom_memory.proofs.ReachLaws.{read-freed}
use Rattle.loom_memory.proofs.GentleLaws.{sparing-ok, sparing-err}
use Rattle.long_names.specs.State.{name_at}
use Rattle.loom_memory.proofs.memory.LoomMemory.len.Goals as goal
use Rattle.loom_memory.proofs.memory.LoomMemory.len.Given as given

pub used_entry-requires : goal.used_entry-requires
unfolding core_of
used_entry-requires g c = placed-used ((core_of c.load.new.self.pager.levels.parts).entries c.in-Ok.s.0).state c.in-Ok.ensures.here.loaded.at c.in-Ok.ensures.here.loaded.place

len-same : (g : given.Over) (c : goal.After-used_entry g) → ((core_of c.load.new.self.pager.levels.parts).entries c.in-Ok.s.0).len ≡ c.used_entry.result.len
unfolding core_of
len-same g c = ap (λ (e : Entry). e.len) (sym c.used_entry.ensures)

pub returns-in-Ok-clause-access : goal.returns-in-Ok-clause-access
returns-in-Ok-clause-access g c =
    let n = c.load.new.self in
    let e = (core_of n.pager.levels.parts).entries c.in-Ok.s.0 in
    let there = c.in-Ok.ensures.here.loaded in
    read-freed (loom_told g.H.Host c.args.self.now) (loom_told g.H.Host n) (Length c.args.of) c.args.of OfNumber c.used_entry.result.len refl refl refl c.in-Ok.ensures.thinned
    (λ told. ap (λ (o : Option Object). option_and_then (λ n. Some (OfNumber n)) (option_and_then (λ (o : Object). Some (len_of o.body)) o)) (there.object (told-tells g.H.Host c.args.self.now told))
    ∙ ap (λ (n : ℕ). Some (OfNumber n)) (len-is (core_of n.pager.levels.parts).entries (fields_there (disk_of g.H.Host n.pager.levels.disk.host.now n.pager.levels.disk.rest e.name)) ((core_of n.pager.levels.parts).chunks there.at).words e.kind e.len (c.load.new.self.pager.levels.whole.parts.core.long c.in-Ok.s.0 there.at there.place) ∙ len-same g c))
    (c.in-Ok.ensures.here.core (Length c.args.of) refl refl)

pub returns-in-Ok-clause-bound : goal.returns-in-Ok-clause-bound
returns-in-Ok-clause-bound g c = subst (λ (n : ℕ). n < 65536) (len-same g c) (most-small ((core_of c.load.new.self.pager.levels.parts).entries c.in-Ok.s.0).kind ((core_of c.load.new.self.pager.levels.parts).entries c.in-Ok.s.0).len (c.load.new.self.pager.levels.whole.parts.core.small c.in-Ok.s.0 c.in-Ok.ensures.here.loaded.at c.in-Ok.ensures.here.loaded.place))

pub returns-in-Err-clause-access : goal.returns-in-Err-clause-access
returns-in-Err-clause-access g c = refused-is (loom_told g.H.Host c.args.self.now) (loom_told g.H.Host c.load.new.self) (Length c.args.of) OfNumber c.in-Err.f (c.in-Err.ensures.err (Length c.args.of) refl refl tt)

pub returns-in-Ok-clause-fit : goal.returns-in-Ok-clause-fit
returns-in-Ok-clause-fit g c = record {
  sound = c.in-Ok.ensures.leaves.sound;
  ready = thinned-ready (loom_told g.H.Host c.args.self.now) (loom_told g.H.Host c.load.new.self) c.in-Ok.ensures.thinned c.requires.fit.ready;
  lender = c.in-Ok.ensures.leaves.lender;
  outside = c.in-Ok.ensures.leaves.outside;
}

pub returns-in-Ok-clause-own : goal.returns-in-Ok-clause-own
returns-in-Ok-clause-own g c = sparing-ok g.H.Host c.args.self.now c.load.new.self (name_at ((loom_told g.H.Host c.args.self.now).regs c.args.of)) c.in-Ok.s _ c.in-Ok.ensures.own

pub returns-in-Err-clause-own : goal.returns-in-Err-clause-own
returns-in-Err-clause-own g c = sparing-err g.H.Host c.args.self.now c.load.new.self (name_at ((loom_told g.H.Host c.args.self.now).regs c.args.of)) c.in-Err.f c.in-Err.ensures.own
