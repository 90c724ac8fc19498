use Rattle.file_saving.proofs.SavingLaws.{good-around, moves-around, throughout-same}
use Rattle.std.proofs.Common.{string_bytes}
use Rattle.file_saving.proofs.PutLaws.{puts-around}
use Rattle.file_saving.proofs.saving.take_name.Goals as goal

pub returns-in_err-folder-clause-moves : goal.returns-in_err-folder-clause-moves
returns-in_err-folder-clause-moves g c told bytes f = throughout-same _ _ _ (c.in_err-folder.ensures.failed told)

pub returns-clause-moves : goal.returns-clause-moves
returns-clause-moves g c told bytes f = moves-around _ _ _ _ bytes _ _ _ _ f (rw c.as_str.ensures.value at c.in_ok-folder.ensures.opened told) (c.put_name-named.ensures.moves told bytes) (c.close.ensures told)

pub returns-clause-moved : goal.returns-clause-moved
returns-clause-moved g c told bytes f = good-around _ _ _ _ bytes _ _ _ _ c.put_name-named.result f (rw c.as_str.ensures.value at c.in_ok-folder.ensures.opened told) (c.put_name-named.ensures.moved told bytes) (c.close.ensures told)

pub returns-clause-puts : goal.returns-clause-puts
returns-clause-puts g c told bytes f = puts-around _ (g.S.System.entry (string_bytes c.args.saving.now.path)) _ _ bytes _ _ _ _ f (rw c.as_str.ensures.value at c.in_ok-folder.ensures.opened told) (c.put_name-named.ensures.puts told bytes) (c.close.ensures told)
