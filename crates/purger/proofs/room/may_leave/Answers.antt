use Rattle.std.proofs.Common.{◌≡◌, Some, None, sym, ◌∙◌, ap}
use Rattle.object_table.specs.declared.entry.Entry.{Entry}
use Rattle.object_table.specs.Entries.{place_of}
use Rattle.leaf_lambda.specs.Parts.{core_of}
use Rattle.purger.proofs.RoomLaws.{some-of, none-of}
use Rattle.purger.proofs.room.may_leave.Goals as goal

pub returns-clause-body : goal.returns-clause-body
unfolding core_of
returns-clause-body c = λ is. let there = some-of c.place.result c.is_some.result c.is_some.ensures is in (there.0, ap (λ (e : Entry). place_of e.state) (sym c.entry.ensures) ∙ sym c.place.ensures ∙ there.1)

pub returns-clause-stays : goal.returns-clause-stays
unfolding core_of
returns-clause-stays c = λ no_ at place. absurd (let none = none-of c.place.result c.is_some.result c.is_some.ensures no_ in let both : None ≡ Some at = sym none ∙ c.place.ensures ∙ ap (λ (e : Entry). place_of e.state) c.entry.ensures ∙ place in cc)
