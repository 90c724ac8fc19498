use Rattle.std.proofs.Common.{rules, ◌≡◌, ◌+◌, sym, ap, ◌∙◌, arith, false}
use Rattle.contexts.proofs.ServesLaws.{exits}
use Rattle.bitblt.specs.Transfers.{reads_before, done_down}
use Rattle.bitblt.proofs.Order.{never-before, none-down, down-order, down-fresh, down-set, down-others, down-all}
use Rattle.bitblt.proofs.RowSteps.{partly_start, partly_row, partly_stop, partly_end}
use Rattle.bitblt.proofs.RunReads.{none_then}
use Rattle.bitblt.proofs.rows.fill_within.Goals as goal

pub loop-row-init : goal.loop-row-init
loop-row-init g c =
    let t = c.args.t.now in
    record {
      partly = partly_start t c.args.halftone.now (g.M.ObjectMemory.told c.args.m.now) (done_down t t.top) c.requires.fit.ready c.requires.rooms (none-down t c.requires.none);
      sound = c.requires.fit.sound;
      lender = search rules;
      outside = search rules;
    }

pub returns-in_err-fill_run-clause-serves : goal.returns-in_err-fill_run-clause-serves
returns-in_err-fill_run-clause-serves g c = λ cpu.
    let t = c.args.t.now in
    exits _ c.from_residual.ensures.1 (partly_stop t c.args.halftone.now (g.M.ObjectMemory.told c.args.m.now) (g.M.ObjectMemory.told c.loop-row.m) _ cpu (done_down t c.loop-row.row) _ _ c.requires.fit.ready c.requires.rooms c.loop-row.invariant.partly
    (none_then t.has_source _ _ _ c.requires.none (let partly = c.loop-row.invariant.partly in partly.ready) (c.in_err-fill_run.ensures.serves cpu)))

pub returns-clause-serves : goal.returns-clause-serves
returns-clause-serves g c = λ cpu.
    let t = c.args.t.now in
    let end : c.loop-row.row ≡ t.bottom = omega arith in
    partly_end t c.args.halftone.now (g.M.ObjectMemory.told c.args.m.now) (g.M.ObjectMemory.told c.loop-row.m) cpu (done_down t c.loop-row.row) c.requires.fit.ready c.requires.rooms c.requires.fits c.loop-row.invariant.partly
    (λ r. ap (λ n. done_down t n r) end ∙ down-all t r)

pub loop-row-preserved : goal.loop-row-preserved
loop-row-preserved g c =
    let t = c.args.t.now in
    let old = g.M.ObjectMemory.told c.args.m.now in
    let now = g.M.ObjectMemory.told c.loop-row.m in
    let y = c.loop-row.row in
    let later : reads_before t y ≡ false = never-before t y c.requires.none in
    let partly = c.loop-row.invariant.partly in
    let done = c.in_ok-fill_run.ensures in
    record {
      partly = partly_row t c.args.halftone.now old now _ (done_down t y) (done_down t (y + 1)) y c.requires.fit.ready c.requires.rooms c.requires.fits partly
          (omega arith) (omega arith) (down-order t y later) (down-fresh t y later) (down-set t y (omega arith)) (λ r ne. down-others t y r ne)
          done.fit.ready (λ cpu. none_then t.has_source _ _ _ c.requires.none partly.ready (done.serves cpu)) done.written;
      sound = done.fit.sound;
      lender = done.fit.lender ∙ c.loop-row.invariant.lender;
      outside = done.fit.outside ∙ c.loop-row.invariant.outside;
    }
