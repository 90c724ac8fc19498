use Rattle.std.proofs.Common.{arith}
use Rattle.work_directory.specs.Directory.{room_of}
use Rattle.work_directory.proofs.directory.Directory.first_slot.Goals as goal

pub overflow_mul-block : goal.overflow_mul-block
unfolding room_of
overflow_mul-block c = let within = c.requires.within in let most = c.args.self.now.most in omega (arith, within, most)
