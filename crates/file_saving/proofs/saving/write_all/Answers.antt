use Rattle.std.proofs.Common.{rules, refl}
use Rattle.std.proofs.lemmas.List.{take_rest}
use Rattle.file_saving.proofs.SavingLaws.{entry-apart, keeps-same, keeps-then, unfinished-more, unfinished-none}
use Rattle.file_saving.proofs.saving.write_all.Goals as goal

pub loop-done-init : goal.loop-done-init
loop-done-init g c = record {
  within = search rules;
  keeps = λ told bytes u. keeps-same _ _ _ refl;
  put = λ told bytes u. unfinished-none _ _ _ bytes _ u;
}

pub returns-in_err-done-clause-keeps : goal.returns-in_err-done-clause-keeps
returns-in_err-done-clause-keeps g c told bytes u =
    let apart = entry-apart g.S.System.entry g.met.S.System.beside _ _ c.args.saving.now.beside in
    keeps-then _ _ _ _ (c.loop-done.invariant.keeps told bytes u) (c.in_err-done.ensures.keeps told _ (c.loop-done.invariant.put told bytes u) _ apart)

pub loop-done-preserved : goal.loop-done-preserved
loop-done-preserved g c =
    let apart = entry-apart g.S.System.entry g.met.S.System.beside _ _ c.args.saving.now.beside in
    record {
      within = search rules;
      keeps = λ told bytes u. keeps-then _ _ _ _ (c.loop-done.invariant.keeps told bytes u) (c.in_ok-done.ensures.keeps told _ (c.loop-done.invariant.put told bytes u) _ apart);
      put = λ told bytes u. unfinished-more _ _ _ _ _ bytes _ _ _ (take_rest c.args.buf.now c.loop-done.done) (c.in_ok-done.ensures.put told _ (c.loop-done.invariant.put told bytes u));
    }
