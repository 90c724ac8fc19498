use Rattle.std.proofs.Common.{ap, ◌∙◌, List, ℕ, ◌++◌}
use Rattle.file_system.specs.World.{part_ending}
use Rattle.file_saving.proofs.SavingLaws.{entry-apart, keeps-old, keeps-then, keeps-untouched, moves-new, saved-ok}
use Rattle.file_saving.proofs.saving.save.Goals as goal

pub returns-in_err-saving-clause-old_or_new : goal.returns-in_err-saving-clause-old_or_new
returns-in_err-saving-clause-old_or_new g c told = keeps-old _ _ _ _ (c.in_err-saving.ensures.keeps told)

pub returns-in-Err-clause-old_or_new : goal.returns-in-Err-clause-old_or_new
returns-in-Err-clause-old_or_new g c told =
    let kept = rw c.in_ok-saving.ensures.path at c.write_all.ensures.keeps told _ (c.in_ok-saving.ensures.begun told) in
    let apart = entry-apart g.S.System.entry g.met.S.System.beside c.args.name.now _ (c.in_ok-saving.saving.beside ∙ ap (λ (p : List ℕ). p ++ part_ending) c.in_ok-saving.ensures.path) in
    keeps-old _ _ _ _ (keeps-then _ _ _ _ (c.in_ok-saving.ensures.keeps told) (keeps-then _ _ _ _ kept (keeps-untouched _ _ _ (c.discard.ensures.untouched told _ (λ named. apart)))))

pub returns-clause-old_or_new : goal.returns-clause-old_or_new
returns-clause-old_or_new g c told =
    let begun = c.in_ok-saving.ensures.begun told in
    let kept = rw c.in_ok-saving.ensures.path at c.write_all.ensures.keeps told _ begun in
    let moves = rw c.in_ok-saving.ensures.path at c.finish.ensures.moves told c.args.bytes.now (c.in_default.ensures.put told _ begun) in
    moves-new _ _ c.args.bytes.now _ _ _ (keeps-then _ _ _ _ (c.in_ok-saving.ensures.keeps told) kept) moves

pub returns-clause-saved : goal.returns-clause-saved
returns-clause-saved g c told =
    let begun = c.in_ok-saving.ensures.begun told in
    let moved = rw c.in_ok-saving.ensures.path at c.finish.ensures.moved told c.args.bytes.now (c.in_default.ensures.put told _ begun) in
    saved-ok _ _ c.args.bytes.now _ (g.S.System.moments c.finish.new.system) c.finish.result moved
