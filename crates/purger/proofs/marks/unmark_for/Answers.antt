use Rattle.std.proofs.Common.{◌≡◌, true, false, refl, sym, ◌∙◌, ap}
use Rattle.object_table.specs.declared.entry.Entry.{Entry}
use Rattle.core_view.proofs.Steps.{Stays-refl}
use Rattle.leaf_lambda.specs.Parts.{core_of}
use Rattle.purger.proofs.MarkLaws.{Unmarking-refl, Marks-taken, Marks-same, Kept-refl, gone-at}
use Rattle.purger.proofs.marks.unmark_for.Goals as goal

pub used_entry-e-requires : goal.used_entry-e-requires
unfolding core_of
used_entry-e-requires c = c.requires.used

pub returns-then-e-clause-marks : goal.returns-then-e-clause-marks
unfolding core_of
returns-then-e-clause-marks c = Marks-taken (core_of c.args.p.now) (core_of c.unmark_all.new.p) c.args.s.0 c.requires.parts.core c.requires.used (ap (λ (e : Entry). e.flags.marked) (sym c.used_entry-e.ensures) ∙ c.if-e.true) c.unmark_all.ensures.none

pub returns-then-e-clause-gone : goal.returns-then-e-clause-gone
returns-then-e-clause-gone c = gone-at (core_of c.args.p.now) (core_of c.unmark_all.new.p) c.args.s.0 c.unmark_all.ensures.parts.core c.requires.used c.unmark_all.ensures.step c.unmark_all.ensures.none

pub returns-else-e-clause-step : goal.returns-else-e-clause-step
returns-else-e-clause-step c = Unmarking-refl (core_of c.args.p.now)

pub returns-else-e-clause-stays : goal.returns-else-e-clause-stays
returns-else-e-clause-stays c = Stays-refl (core_of c.args.p.now)

pub returns-else-e-clause-marks : goal.returns-else-e-clause-marks
returns-else-e-clause-marks c = Marks-same (core_of c.args.p.now) (core_of c.args.p.now) (Kept-refl (core_of c.args.p.now))

pub returns-else-e-clause-gone : goal.returns-else-e-clause-gone
unfolding core_of
returns-else-e-clause-gone c = ap (λ (e : Entry). e.flags.marked) (sym c.used_entry-e.ensures) ∙ c.if-e.false

pub returns-then-e-clause-idle : goal.returns-then-e-clause-idle
unfolding core_of
returns-then-e-clause-idle c = λ off. absurd (let both : true ≡ false = sym c.if-e.true ∙ ap (λ (e : Entry). e.flags.marked) c.used_entry-e.ensures ∙ off in cc)

pub returns-else-e-clause-idle : goal.returns-else-e-clause-idle
returns-else-e-clause-idle c = λ off. refl
