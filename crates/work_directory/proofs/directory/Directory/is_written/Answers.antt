use Rattle.std.proofs.Common.{sym, ◌∙◌, arith}
use Rattle.work_directory.specs.Directory.{room_of, was_written}
use Rattle.work_directory.proofs.EntryLaws.{unwritten-shown}
use Rattle.work_directory.proofs.directory.Directory.is_written.Goals as goal

pub has-requires : goal.has-requires
unfolding room_of
has-requires c = let within = c.requires.within in let most = c.args.self.now.most in omega (arith, within, most)

pub returns-clause-empty : goal.returns-clause-empty
unfolding was_written
returns-clause-empty c = λ none work i is l in_block. unwritten-shown c.args.self.now work i c.args.block is l in_block (sym c.has.ensures ∙ none)
