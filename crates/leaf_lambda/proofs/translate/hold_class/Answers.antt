use Rattle.std.proofs.Common.{◌+◌, ◌∙◌, ap, arith}
use Rattle.object_table.specs.declared.entry.Entry.{Entry}
use Rattle.object_table.specs.Entries.{is_used}
use Rattle.core_view.specs.Core.{Core}
use Rattle.core_view.proofs.Steps.{refs-entry}
use Rattle.leaf_lambda.specs.Parts.{core_of}
use Rattle.leaf_lambda.proofs.TranslateLaws.{leaf-held-on}
use Rattle.leaf_lambda.proofs.translate.hold_class.Goals as goal

pub grip-requires-clause-light : goal.grip-requires-clause-light
grip-requires-clause-light c = let some = c.requires.light c.in-Some.class.0 in let same = c.find_or_leaf.ensures.step.same_outside c.in-Some.class.0 in omega arith

pub returns-clause-held : goal.returns-clause-held
returns-clause-held c = leaf-held-on (core_of c.args.p.now) (core_of c.find_or_leaf.new.p) (core_of c.grip.new.p) c.in-Some.class.0 c.find_or_leaf.ensures.step c.grip.ensures.stays c.grip.ensures.step c.grip.ensures.outside c.grip.ensures.core c.in-Some.ensures.only

pub returns-clause-class : goal.returns-clause-class
returns-clause-class c =
    let entry = refs-entry (core_of c.find_or_leaf.new.p) c.in-Some.class.0 (((core_of c.find_or_leaf.new.p).entries c.in-Some.class.0).refs + 1) c.in-Some.class.0 in (
      ap (λ (d : Core). is_used (d.entries c.in-Some.class.0).state) c.grip.ensures.core ∙ ap (λ (e : Entry). is_used e.state) entry ∙ c.in-Some.ensures.found.0,
      ap (λ (d : Core). (d.entries c.in-Some.class.0).name) c.grip.ensures.core ∙ ap (λ (e : Entry). e.name) entry ∙ c.in-Some.ensures.found.1 ∙ c.class.ensures,
    )
