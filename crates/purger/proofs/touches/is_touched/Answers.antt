use Rattle.std.proofs.Common.{ap}
use Rattle.object_table.specs.declared.entry.Entry.{Entry}
use Rattle.leaf_lambda.specs.Parts.{core_of}
use Rattle.purger.proofs.touches.is_touched.Goals as goal

pub used_entry-requires : goal.used_entry-requires
unfolding core_of
used_entry-requires c = c.requires.used

pub returns : goal.returns
unfolding core_of
returns c = ap (λ (e : Entry). e.flags.touched) c.used_entry.ensures
