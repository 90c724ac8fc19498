use Rattle.std.proofs.Common.{arith}
use Rattle.work_directory.specs.Directory.{room_of}
use Rattle.work_directory.proofs.directory.Directory.end.Goals as goal

pub returns-clause-most : goal.returns-clause-most
unfolding room_of
returns-clause-most c =
    let most = c.args.self.now.most in
    let value = c.blocks-2.ensures.value in
    let from = c.from.ensures in
    omega (arith, most, value, from)
