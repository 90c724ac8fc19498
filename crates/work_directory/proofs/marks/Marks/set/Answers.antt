use Rattle.std.proofs.Common.{◌≡◌, length, arith, rules}
use Rattle.work_directory.proofs.MarkLaws.{set-marks}
use Rattle.work_directory.specs.Marks.{has_mark}
use Rattle.work_directory.proofs.marks.Marks.set.Goals as goal

pub returns : goal.returns
unfolding has_mark
returns c =
    let size : length c.args.self.now.words ≡ 193 = search rules in
    let few = c.requires.few in
    set-marks c.args.self.now.words c.args.block (omega (arith, size, few))
