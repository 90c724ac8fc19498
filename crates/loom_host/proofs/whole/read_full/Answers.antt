use Rattle.std.proofs.Common.{rules, length, length-drop, length-take}
use Rattle.std.proofs.lemmas.Result.{err_from_is_err_and}
use Rattle.loom_host.proofs.Pieces.{Took-more, TookSome-more}
use Rattle.loom_host.proofs.whole.read_full.Goals as goal

pub returns-in_err-n-clause-failed : goal.returns-in_err-n-clause-failed
returns-in_err-n-clause-failed g c told =
    let p = err_from_is_err_and c.from_residual.result c.from_residual.ensures.1 in
    rw p.1 (TookSome-more _ _ (length c.args.buf.now) _ _ _ _ (c.loop-done.invariant.took told) (c.in_err-n.ensures.failed told) (search (rules, length-drop, length-take)))

pub loop-done-preserved : goal.loop-done-preserved
loop-done-preserved g c = record {
  within = search rules;
  none = search rules;
  took = λ told. Took-more _ _ _ _ _ _ _ (c.loop-done.invariant.took told) (c.in_ok-n.ensures.took told) c.loop-done.invariant.within (search rules);
  others = search rules;
  work = search rules;
  other_faults = search rules;
  writes = search rules;
  faults = search rules;
}
