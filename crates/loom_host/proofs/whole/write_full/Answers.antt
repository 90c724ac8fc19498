use Rattle.std.proofs.Common.{rules}
use Rattle.std.proofs.lemmas.Result.{err_from_is_err_and}
use Rattle.std.proofs.lemmas.List.{take_rest}
use Rattle.loom_host.proofs.Pieces.{puts_more, PutPrefix-more}
use Rattle.loom_host.proofs.whole.write_full.Goals as goal

pub returns-in_err-done-clause-failed : goal.returns-in_err-done-clause-failed
returns-in_err-done-clause-failed g c told =
    let p = err_from_is_err_and c.from_residual.result c.from_residual.ensures.1 in
    rw p.1 (PutPrefix-more _ _ _ _ _ _ (take_rest c.args.buf.now c.loop-done.done) c.loop-done.invariant.within (c.loop-done.invariant.put told) (c.in_err-done.ensures.failed told))

pub loop-done-preserved : goal.loop-done-preserved
loop-done-preserved g c = record {
  within = search rules;
  none = search rules;
  put = λ told. puts_more _ _ _ _ _ _ _ (take_rest c.args.buf.now c.loop-done.done) (c.loop-done.invariant.put told) (c.in_ok-done.ensures.put told (search rules));
  others = search rules;
  work = search rules;
  other_faults = search rules;
  writes = search rules;
  faults = search rules;
}
