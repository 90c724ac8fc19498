use Rattle.loom_host.specs.declared.outside.Role.TheVariants.{Work}
use Rattle.std.proofs.Common.{◌≡◌, refl, inr, ap, sym, subst, ◌∙◌, true, false, Bool, IsTrue}
use Rattle.loom_host.proofs.WorkLaws.{exits}
use Rattle.loom_host.specs.declared.outside.DiskFault.{DiskFault}
use Rattle.object_table.specs.declared.entry.Entry.{Entry}
use Rattle.disk_objects.specs.Function.{disk_of}
use Rattle.core_view.proofs.Core.{placed-used}
use Rattle.core_view.proofs.Fresh.{never-missing}
use Rattle.leaf_lambda.specs.Parts.{core_of}
use Rattle.purger.specs.Purge.{IsReadFault, IsReadDamage}
use Rattle.purger.proofs.EvictLaws.{not-fetched, was-fetched}
use Rattle.purger.proofs.eviction.read_copy.Goals as goal
use Rattle.purger.proofs.eviction.read_copy.Given as given

no-copy : (b : Bool) → b ≡ false → IsTrue b → ⊥
no-copy b off on = let no_ : true ≡ false = sym on ∙ off in cc

yes-is : (b : Bool) → b ≡ true → IsTrue b
yes-is b on = on

pub used_entry-e-requires : goal.used_entry-e-requires
unfolding core_of
used_entry-e-requires g c = placed-used ((core_of c.args.p.now).entries c.args.s.0).state c.args.at.place c.requires.place

pub returns-then-e-clause-copy : goal.returns-then-e-clause-copy
unfolding core_of
returns-then-e-clause-copy g c = λ f. absurd (let no_ : true ≡ false = sym c.if-e.true ∙ ap (λ (e : Entry). e.flags.fresh) c.used_entry-e.ensures ∙ f in cc)

pub returns-then-e-clause-there : goal.returns-then-e-clause-there
unfolding core_of
returns-then-e-clause-there g c = λ told f. absurd (let no_ : true ≡ false = sym c.if-e.true ∙ ap (λ (e : Entry). e.flags.fresh) c.used_entry-e.ensures ∙ f in cc)

fresh-is : (g : given.Over) (c : goal.After-damaged g) → ((core_of c.args.p.now).entries c.args.s.0).flags.fresh ≡ false
unfolding core_of
fresh-is g c = ap (λ (e : Entry). e.flags.fresh) (sym c.used_entry-e.ensures) ∙ c.if-e.false

named : (g : given.Over) (c : goal.After-damaged g) → c.used_entry-e.result.name ≡ ((core_of c.args.p.now).entries c.args.s.0).name
unfolding core_of
named g c = ap (λ (e : Entry). e.name) c.used_entry-e.ensures

pub returns-then-not-branch-clause-fault : goal.returns-then-not-branch-clause-fault
returns-then-not-branch-clause-fault g c = subst (λ (f : DiskFault). IsReadFault (g.H.Host.tells Work) (g.H.Host.faults c.args.disk.now.host.now Work) (g.H.Host.faults c.fetch.new.disk.host.now Work) f) (sym c.damaged.ensures)
    (λ told. never-missing (core_of c.args.p.now) (disk_of g.H.Host c.args.disk.now.host.now c.args.disk.now.rest) c.args.s.0 c.args.at.place (c.requires.backed told) c.requires.place (fresh-is g c)
    (ap (disk_of g.H.Host c.args.disk.now.host.now c.args.disk.now.rest) (sym (named g c)) ∙ not-fetched c.fetch.new.buf (disk_of g.H.Host c.args.disk.now.host.now c.args.disk.now.rest c.used_entry-e.result.name) c.in_ok-fetch.field-0 c.if-not-branch.true (c.in_ok-fetch.ensures.found told)))

pub returns-then-not-branch-clause-damage : goal.returns-then-not-branch-clause-damage
returns-then-not-branch-clause-damage g c = subst (λ (f : DiskFault). IsReadDamage c.args.disk.now.rest ((core_of c.args.p.now).entries c.args.s.0).name f) (sym c.damaged.ensures) (inr refl, named g c)

last-fresh : (g : given.Over) (c : goal.After-damaged-2 g) → ((core_of c.args.p.now).entries c.args.s.0).flags.fresh ≡ false
unfolding core_of
last-fresh g c = ap (λ (e : Entry). e.flags.fresh) (sym c.used_entry-e.ensures) ∙ c.if-e.false

last-named : (g : given.Over) (c : goal.After-damaged-2 g) → c.used_entry-e.result.name ≡ ((core_of c.args.p.now).entries c.args.s.0).name
unfolding core_of
last-named g c = ap (λ (e : Entry). e.name) c.used_entry-e.ensures

pub returns-clause-fault : goal.returns-clause-fault
returns-clause-fault g c = subst (λ (f : DiskFault). IsReadFault (g.H.Host.tells Work) (g.H.Host.faults c.args.disk.now.host.now Work) (g.H.Host.faults c.fetch.new.disk.host.now Work) f) (sym c.damaged-2.ensures)
    (λ told. no-copy c.is_copy.result c.if-is_copy.false
    (c.is_copy.ensures.1 (c.own_record_is_like.ensures (core_of c.args.p.now) (disk_of g.H.Host c.args.disk.now.host.now c.args.disk.now.rest) c.args.s.0 c.args.at.place c.fetch.new.buf c.requires.parts.core (c.requires.backed told) c.requires.place (last-fresh g c)
    (c.in_ok-fetch.ensures.record (yes-is c.in_ok-fetch.field-0 c.if-not-branch.false)).0
    ((c.in_ok-fetch.ensures.record (yes-is c.in_ok-fetch.field-0 c.if-not-branch.false)).1 ∙ last-named g c)
    (ap (disk_of g.H.Host c.args.disk.now.host.now c.args.disk.now.rest) (sym (last-named g c)) ∙ was-fetched c.fetch.new.buf (disk_of g.H.Host c.args.disk.now.host.now c.args.disk.now.rest c.used_entry-e.result.name) c.in_ok-fetch.field-0 c.if-not-branch.false (c.in_ok-fetch.ensures.found told)))))

pub returns-clause-damage : goal.returns-clause-damage
returns-clause-damage g c = subst (λ (f : DiskFault). IsReadDamage c.args.disk.now.rest ((core_of c.args.p.now).entries c.args.s.0).name f) (sym c.damaged-2.ensures) (inr refl, last-named g c)

pub returns-in_err-fetch-clause-damage : goal.returns-in_err-fetch-clause-damage
unfolding core_of
returns-in_err-fetch-clause-damage g c =
    exits c.from_residual.result c.in_err-fetch.field-0.0 (IsReadDamage c.args.disk.now.rest ((core_of c.args.p.now).entries c.args.s.0).name) c.from_residual.ensures.1
    (subst (λ (e : Entry). IsReadDamage c.args.disk.now.rest e.name c.in_err-fetch.field-0.0) c.used_entry-e.ensures c.in_err-fetch.ensures.damage)
