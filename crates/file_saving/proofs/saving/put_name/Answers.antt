use Rattle.file_saving.proofs.SavingLaws.{can-rename, entry-apart, folder-renamed, moves-named, moves-refused}
use Rattle.file_saving.proofs.PutLaws.{puts-named}
use Rattle.file_saving.proofs.saving.put_name.Goals as goal

pub returns-in_err-rename-clause-moves : goal.returns-in_err-rename-clause-moves
returns-in_err-rename-clause-moves g c told bytes f o =
    let can = can-rename _ _ _ bytes _ (entry-apart g.S.System.entry g.met.S.System.beside _ _ c.args.saving.now.beside) f in
    moves-refused _ _ _ bytes _ _ f ((rw (c.as_str.ensures.value, c.as_str-2.ensures.value) at c.in_err-rename.ensures.failed told) can)

pub returns-clause-moves : goal.returns-clause-moves
returns-clause-moves g c told bytes f o =
    let can = can-rename _ _ _ bytes _ (entry-apart g.S.System.entry g.met.S.System.beside _ _ c.args.saving.now.beside) f in
    let renamed = (rw (c.as_str.ensures.value, c.as_str-2.ensures.value) at c.in_ok-rename.ensures.renamed told) can in
    let still = folder-renamed _ _ _ _ _ _ renamed.does o in
    moves-named _ _ _ bytes _ _ _ c.sync.result f renamed (c.sync.ensures.synced told _ still) (c.sync.ensures.failed told _ still)

pub returns-clause-puts : goal.returns-clause-puts
returns-clause-puts g c told bytes f o =
    let can = can-rename _ _ _ bytes _ (entry-apart g.S.System.entry g.met.S.System.beside _ _ c.args.saving.now.beside) f in
    let renamed = (rw (c.as_str.ensures.value, c.as_str-2.ensures.value) at c.in_ok-rename.ensures.renamed told) can in
    let still = folder-renamed _ _ _ _ _ _ renamed.does o in
    puts-named _ _ _ _ _ _ c.sync.result renamed (c.sync.ensures.synced told _ still) (c.sync.ensures.failed told _ still)
