use Rattle.std.proofs.Common.{◌+◌, ◌≤◌, ◌∙◌, sym, ap, subst, arith}
use Rattle.object_table.specs.declared.entry.Entry.{Entry}
use Rattle.core_view.specs.Core.{Core}
use Rattle.core_view.proofs.Steps.{refs-entry}
use Rattle.core_view.proofs.Words.{one-zero}
use Rattle.leaf_lambda.specs.Parts.{core_of, leaves_for, IsHolding}
use Rattle.leaf_lambda.proofs.TranslateLaws.{none-held, leaf-held-on, leaves-few}
use Rattle.leaf_lambda.proofs.translate.short_for_name.Goals as goal

pub grip-requires-clause-light : goal.grip-requires-clause-light
grip-requires-clause-light c = let some = c.requires.light c.in-Some.s.0 in let same = c.find_or_leaf.ensures.step.same_outside c.in-Some.s.0 in omega arith

pub returns-in-Some-clause-held : goal.returns-in-Some-clause-held
returns-in-Some-clause-held c = leaf-held-on (core_of c.args.p.now) (core_of c.find_or_leaf.new.p) (core_of c.grip.new.p) c.in-Some.s.0 c.find_or_leaf.ensures.step c.grip.ensures.stays c.grip.ensures.step c.grip.ensures.outside c.grip.ensures.core c.in-Some.ensures.only

pub returns-in-Some-clause-short : goal.returns-in-Some-clause-short
returns-in-Some-clause-short c = (
  c.find_or_leaf.ensures.parts.core.short c.in-Some.s.0 c.in-Some.ensures.found.0,
  ap (λ (d : Core). (d.entries c.in-Some.s.0).name) c.grip.ensures.core ∙ ap (λ (e : Entry). e.name) (refs-entry (core_of c.find_or_leaf.new.p) c.in-Some.s.0 (((core_of c.find_or_leaf.new.p).entries c.in-Some.s.0).refs + 1) c.in-Some.s.0) ∙ c.in-Some.ensures.found.1,
)

pub returns-in-Some-clause-sparing : goal.returns-in-Some-clause-sparing
returns-in-Some-clause-sparing c = record {
  few = λ low. ap (λ (d : Core). d.find) c.grip.ensures.core ∙ ap (λ (d : Core). d.find) (c.find_or_leaf.ensures.few low);
  less = let cost = c.find_or_leaf.ensures.cost.0 in let same = c.grip.ensures.spare in omega arith;
  least = let least = c.find_or_leaf.ensures.least in let same = c.grip.ensures.spare in omega arith;
}

pub returns-in-Some-clause-cost : goal.returns-in-Some-clause-cost
returns-in-Some-clause-cost c =
    let cost = c.find_or_leaf.ensures.cost.1 in
    let few : leaves_for ((core_of c.args.p.now).find c.args.name) ≤ 1 = leaves-few ((core_of c.args.p.now).find c.args.name) in
    let same = c.grip.ensures.spare in
    omega arith

pub returns-in-None-clause-held : goal.returns-in-None-clause-held
returns-in-None-clause-held c = let same = c.find_or_leaf.ensures.few c.in-None.ensures.none.1 in subst (λ (d : Core). IsHolding 0 (core_of c.args.p.now) d) (sym same) (none-held (core_of c.args.p.now) 0 one-zero)

pub returns-in-None-clause-sparing : goal.returns-in-None-clause-sparing
returns-in-None-clause-sparing c = record {
  few = λ low. ap (λ (d : Core). d.find) (c.find_or_leaf.ensures.few low);
  less = c.find_or_leaf.ensures.cost.0;
  least = c.find_or_leaf.ensures.least;
}

pub returns-in-None-clause-cost : goal.returns-in-None-clause-cost
returns-in-None-clause-cost c =
    let cost = c.find_or_leaf.ensures.cost.1 in
    let few : leaves_for ((core_of c.args.p.now).find c.args.name) ≤ 1 = leaves-few ((core_of c.args.p.now).find c.args.name) in
    omega arith
