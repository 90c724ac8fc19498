use Rattle.std.proofs.Common.{vec_len}
use Rattle.st80_decompile.proofs.frames.steps_of.Given as goal

abbrev pub decreases-each : goal.decreases-each
decreases-each l = vec_len l.nodes
