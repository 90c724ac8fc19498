use Rattle.std.proofs.Common.{sym, ◌∙◌, arith}
use Rattle.std.proofs.lemmas.List.{get_or_default}
use Rattle.object_table.specs.Entries.{free_entry}
use Rattle.object_table.specs.Table.{entry_at}
use Rattle.object_table.proofs.ShortLaws.{at_short-is, at_short-past}
use Rattle.object_table.proofs.table.Table.entry.Goals as goal

pub returns-then-place-len : goal.returns-then-place-len
unfolding entry_at
returns-then-place-len c =
    let items = c.args.self.now.entries.items in
    let size = c.args.self.now.entries.ok.0 in
    c.index.ensures
    ∙ get_or_default items c.index-place.result c.index.result.now free_entry (omega (arith, c.if-place-len.true, c.len.ensures))
    ∙ sym (at_short-is free_entry items c.args.s.0 c.index-place.result c.index-place.ensures c.requires.short)

pub returns : goal.returns
unfolding entry_at
returns c =
    let items = c.args.self.now.entries.items in
    let size = c.args.self.now.entries.ok.0 in
    c.none.ensures
    ∙ sym (at_short-past free_entry items c.args.s.0 c.index-place.result c.index-place.ensures c.requires.short (omega (arith, c.if-place-len.false, c.len.ensures)))
