use Rattle.std.proofs.Common.{◌≡◌, Some, sym, ◌∙◌, ap}
use Rattle.object_table.specs.declared.entry.Entry.{Entry}
use Rattle.object_table.specs.Entries.{place_of}
use Rattle.core_view.proofs.Core.{placed-used}
use Rattle.leaf_lambda.specs.Parts.{core_of}
use Rattle.leaf_lambda.proofs.steps.place_of_body.Goals as goal

pub used_entry-requires : goal.used_entry-requires
unfolding core_of
used_entry-requires c = placed-used ((core_of c.args.p.now).entries c.args.s.0).state c.requires.there.0 c.requires.there.1

pub unreachable-requires : goal.unreachable-requires
unfolding core_of
unreachable-requires c = let some : c.place.result ≡ Some c.requires.there.0 = c.place.ensures ∙ ap (λ (e : Entry). place_of e.state) c.used_entry.ensures ∙ c.requires.there.1 in let none = c.in-None.is in cc

pub returns : goal.returns
unfolding core_of
returns c = ap (λ (e : Entry). place_of e.state) (sym c.used_entry.ensures) ∙ sym c.place.ensures ∙ c.in-Some.is
