use Rattle.file_saving.proofs.SavingLaws.{entry-apart, from-ok, good-before, keeps-left, keeps-moves, moves-left}
use Rattle.file_saving.proofs.PutLaws.{puts-then}
use Rattle.file_saving.proofs.saving.finish.Goals as goal

pub returns-then-is_err-clause-moves : goal.returns-then-is_err-clause-moves
returns-then-is_err-clause-moves g c told bytes u =
    let apart = entry-apart g.S.System.entry g.met.S.System.beside _ _ c.args.saving.beside in
    keeps-left _ _ bytes _ _ _ (c.settle.ensures.keeps told bytes u _ apart) (c.discard.ensures.untouched told _ (λ named. apart))

pub returns-then-is_err-2-clause-moves : goal.returns-then-is_err-2-clause-moves
returns-then-is_err-2-clause-moves g c told bytes u =
    let apart = entry-apart g.S.System.entry g.met.S.System.beside _ _ c.args.saving.beside in
    let finished = from-ok c.settle.result _ c.is_err.ensures.value c.if-is_err.false (c.settle.ensures.finished told bytes u) in
    moves-left _ _ bytes _ _ _ (keeps-moves _ _ bytes _ _ _ (c.settle.ensures.keeps told bytes u _ apart) (c.take_name.ensures.moves told bytes finished)) (c.remove_part.ensures.untouched told _ (λ named. apart))

pub returns-clause-moves : goal.returns-clause-moves
returns-clause-moves g c told bytes u =
    let apart = entry-apart g.S.System.entry g.met.S.System.beside _ _ c.args.saving.beside in
    let finished = from-ok c.settle.result _ c.is_err.ensures.value c.if-is_err.false (c.settle.ensures.finished told bytes u) in
    keeps-moves _ _ bytes _ _ _ (c.settle.ensures.keeps told bytes u _ apart) (c.take_name.ensures.moves told bytes finished)

pub returns-clause-moved : goal.returns-clause-moved
returns-clause-moved g c told bytes u =
    let apart = entry-apart g.S.System.entry g.met.S.System.beside _ _ c.args.saving.beside in
    let finished = from-ok c.settle.result _ c.is_err.ensures.value c.if-is_err.false (c.settle.ensures.finished told bytes u) in
    from-ok c.take_name.result _ c.is_err-2.ensures.value c.if-is_err-2.false (good-before _ _ bytes _ _ _ c.take_name.result (c.settle.ensures.keeps told bytes u _ apart) (c.take_name.ensures.moved told bytes finished))

pub returns-then-is_err-2-clause-puts : goal.returns-then-is_err-2-clause-puts
returns-then-is_err-2-clause-puts g c told bytes u =
    let finished = from-ok c.settle.result _ c.is_err.ensures.value c.if-is_err.false (c.settle.ensures.finished told bytes u) in
    puts-then _ _ _ (puts-then _ _ _ (c.settle.ensures.puts told bytes u) (c.take_name.ensures.puts told bytes finished)) (c.remove_part.ensures.puts told)

pub returns-clause-puts : goal.returns-clause-puts
returns-clause-puts g c told bytes u =
    let finished = from-ok c.settle.result _ c.is_err.ensures.value c.if-is_err.false (c.settle.ensures.finished told bytes u) in
    puts-then _ _ _ (c.settle.ensures.puts told bytes u) (c.take_name.ensures.puts told bytes finished)

pub returns-then-is_err-clause-puts : goal.returns-then-is_err-clause-puts
returns-then-is_err-clause-puts g c told bytes u = puts-then _ _ _ (c.settle.ensures.puts told bytes u) (c.discard.ensures.puts told)
