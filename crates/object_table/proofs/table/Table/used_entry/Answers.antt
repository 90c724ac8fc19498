use Rattle.std.proofs.Common.{◌<◌, ℕ, sym, subst}
use Rattle.object_table.specs.Table.{entry_at}
use Rattle.object_table.proofs.UsedLaws.{used-short, used-low, used-here}
use Rattle.object_table.proofs.table.Table.used_entry.Goals as goal

pub index-place-requires : goal.index-place-requires
unfolding entry_at
index-place-requires c = used-short c.args.self.now.entries.items c.args.s.0 c.requires

pub index-requires : goal.index-requires
unfolding entry_at
index-requires c =
    subst (λ (z : ℕ). c.index-place.result < z) (sym c.args.self.now.entries.ok.0)
    (used-low c.args.self.now.entries.items c.args.s.0 c.index-place.result c.index-place.ensures c.requires)

pub returns : goal.returns
unfolding entry_at
returns c = used-here c.args.self.now.entries.items c.args.s.0 c.index-place.result c.index.result.now c.index-place.ensures c.requires c.index.ensures
