use Rattle.std.proofs.Common.{sym, subst, ap, ◌∙◌}
use Rattle.object_table.specs.Entries.{place_of}
use Rattle.core_view.specs.Counts.{IsLight}
use Rattle.leaf_lambda.specs.declared.parts.Parts.{Parts}
use Rattle.leaf_lambda.specs.Parts.{core_of, IsParts}
use Rattle.core_tests.proofs.objects.merge.Goals as goal

pub returns-clause-parts : goal.returns-clause-parts
returns-clause-parts c = subst IsParts (sym c.merge_out.ensures.same) c.requires.parts

pub returns-clause-light : goal.returns-clause-light
returns-clause-light c = subst (λ (p : Parts). IsLight (core_of p)) (sym c.merge_out.ensures.same) c.requires.light

pub returns-clause-body : goal.returns-clause-body
returns-clause-body c = (c.requires.body.0, ap (λ (p : Parts). place_of ((core_of p).entries c.args.s.0).state) c.merge_out.ensures.same ∙ c.requires.body.1)
