use Rattle.std.proofs.Common.{◌≡◌, true, false, sym, ◌∙◌, ap}
use Rattle.object_table.specs.declared.entry.Entry.{Entry}
use Rattle.core_view.proofs.Core.{placed-used}
use Rattle.leaf_lambda.specs.Parts.{core_of}
use Rattle.leaf_lambda.proofs.merge.ready_copy.Goals as goal

pub used_entry-requires : goal.used_entry-requires
unfolding core_of
used_entry-requires c = placed-used ((core_of c.args.p.now).entries c.args.s.0).state c.args.at.place c.requires.place

pub returns-then-used_entry-clause-same : goal.returns-then-used_entry-clause-same
unfolding core_of
returns-then-used_entry-clause-same c = λ not. let is : ((core_of c.args.p.now).entries c.args.s.0).flags.fresh ≡ true = ap (λ (e : Entry). e.flags.fresh) (sym c.used_entry.ensures) ∙ c.if-used_entry.true in absurd (cc)

pub returns-else-used_entry-clause-copy : goal.returns-else-used_entry-clause-copy
unfolding core_of
returns-else-used_entry-clause-copy c = c.requires.copy (ap (λ (e : Entry). e.flags.fresh) (sym c.used_entry.ensures) ∙ c.if-used_entry.false)

pub returns-else-used_entry-clause-class : goal.returns-else-used_entry-clause-class
unfolding core_of
returns-else-used_entry-clause-class c = λ is. let not : ((core_of c.args.p.now).entries c.args.s.0).flags.fresh ≡ false = ap (λ (e : Entry). e.flags.fresh) (sym c.used_entry.ensures) ∙ c.if-used_entry.false in absurd (cc)
