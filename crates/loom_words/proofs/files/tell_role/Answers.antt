-- Nothing is told where the word isn't there.
use Rattle.std.proofs.Common.{◌≤◌, length, arith}
use Rattle.std.proofs.lemmas.Bool.Decides.{nat_tests}
use Rattle.loom_words.proofs.FileLaws.{none-told}
use Rattle.loom_words.proofs.files.tell_role.Goals as goal

pub returns-in_default : goal.returns-in_default
returns-in_default g c =
    let past : length c.args.words.now ≤ c.args.place = let found = c.in_default.ensures.lookup.0 in grind (arith, nat_tests) in
    record { told = λ tells. none-told c.args.listener c.args.words.now c.args.role c.args.place (g.K.KeepsApart.told c.args.keeper.now) past }
