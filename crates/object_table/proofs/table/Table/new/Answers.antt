use Rattle.std.proofs.Common.{List, length, refl, ap, arith, ◌∙◌}
use Rattle.object_table.specs.declared.entry.Entry.{Entry}
use Rattle.object_table.specs.Entries.{free_entry}
use Rattle.object_table.specs.Table.{entry_at, entries_of, free_of}
use Rattle.std.specs.List.{count_by}
use Rattle.object_table.specs.Entries.{is_free}
use Rattle.object_table.proofs.ShortLaws.{at_short, at_short-none}
use Rattle.object_table.proofs.table.Table.new.Goals as goal

pub returns-clause-entry : goal.returns-clause-entry
unfolding entry_at
returns-clause-entry c = ap (λ (l : List Entry). at_short free_entry l) c.in_ok-with_capacity.ensures.items ∙ at_short-none free_entry

pub returns-clause-entries : goal.returns-clause-entries
unfolding entries_of
returns-clause-entries c = refl

pub returns-clause-free : goal.returns-clause-free
unfolding free_of
returns-clause-free c =
    let none = ap (λ (l : List Entry). length l) c.in_ok-with_capacity.ensures.items in
    let zero' = ap (λ (l : List Entry). count_by is_free l) c.in_ok-with_capacity.ensures.items in
    omega arith
