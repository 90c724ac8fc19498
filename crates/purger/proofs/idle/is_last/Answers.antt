use Rattle.std.proofs.Common.{sym, ◌∙◌}
use Rattle.leaf_lambda.specs.Parts.{core_of}
use Rattle.purger.proofs.idle.is_last.Goals as goal

pub used_entry-e-requires : goal.used_entry-e-requires
unfolding core_of
used_entry-e-requires c = c.requires.used (sym c.is_name.ensures ∙ c.if-not-is_name.false)
