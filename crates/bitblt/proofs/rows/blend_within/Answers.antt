use Rattle.std.proofs.Common.{rules, ◌≡◌, ◌+◌, ◌-◌, ◌<◌, sym, ap, ◌∙◌, arith, true, false}
use Rattle.contexts.proofs.ServesLaws.{exits}
use Rattle.bitblt.specs.Transfers.{reads_before, done_up, done_down}
use Rattle.bitblt.proofs.Order.{up-order, up-fresh, up-set, up-others, up-skip, up-none, down-none, down-order, down-fresh, down-set, down-others, down-skip, down-all}
use Rattle.bitblt.proofs.RowSteps.{partly_start, partly_same, partly_row, partly_stop, partly_end}
use Rattle.bitblt.proofs.rows.blend_within.Goals as goal
use Rattle.bitblt.proofs.rows.blend_within.Goals.{then-reads_before+in_ok-blend_one, else-reads_before, then-not-reads_before+in_ok-blend_one-2, else-not-reads_before}

pub loop-i-init : goal.loop-i-init
loop-i-init g c = record {
  partly = partly_start c.args.t.now c.args.halftone.now (g.M.ObjectMemory.told c.args.m.now) (done_up c.args.t.now 0) c.requires.fit.ready c.requires.rooms (up-none c.args.t.now);
  sound = c.requires.fit.sound;
  lender = search rules;
  outside = search rules;
}

pub returns-in_err-blend_one-clause-serves : goal.returns-in_err-blend_one-clause-serves
returns-in_err-blend_one-clause-serves g c = λ cpu.
    exits _ c.from_residual.ensures.1 (partly_stop c.args.t.now c.args.halftone.now (g.M.ObjectMemory.told c.args.m.now) (g.M.ObjectMemory.told c.loop-i.m) _ cpu (done_up c.args.t.now c.loop-i.i) _ _ c.requires.fit.ready c.requires.rooms c.loop-i.invariant.partly (c.in_err-blend_one.ensures.serves cpu))

pub loop-y-init : goal.loop-y-init
loop-y-init g c =
    let t = c.args.t.now in
    let all : c.loop-i.i ≡ t.bottom - t.top = omega arith in
    record {
      partly = partly_same t c.args.halftone.now (g.M.ObjectMemory.told c.args.m.now) (g.M.ObjectMemory.told c.loop-i.m) (done_up t c.loop-i.i) (done_down t t.top) c.loop-i.invariant.partly
          (λ r. down-none t r c.requires.fits.rows ∙ ap (λ i. done_up t i r) (sym all));
      sound = c.loop-i.invariant.sound;
      lender = c.loop-i.invariant.lender;
      outside = c.loop-i.invariant.outside;
    }

pub returns-in_err-blend_one-2-clause-serves : goal.returns-in_err-blend_one-2-clause-serves
returns-in_err-blend_one-2-clause-serves g c = λ cpu.
    exits _ c.from_residual-in_err-blend_one-2.ensures.1 (partly_stop c.args.t.now c.args.halftone.now (g.M.ObjectMemory.told c.args.m.now) (g.M.ObjectMemory.told c.loop-y.m) _ cpu (done_down c.args.t.now c.loop-y.y) _ _ c.requires.fit.ready c.requires.rooms c.loop-y.invariant.partly (c.in_err-blend_one-2.ensures.serves cpu))

pub returns-clause-serves : goal.returns-clause-serves
returns-clause-serves g c = λ cpu.
    let t = c.args.t.now in
    let end : c.loop-y.y ≡ t.bottom = omega arith in
    partly_end t c.args.halftone.now (g.M.ObjectMemory.told c.args.m.now) (g.M.ObjectMemory.told c.loop-y.m) cpu (done_down t c.loop-y.y) c.requires.fit.ready c.requires.rooms c.requires.fits c.loop-y.invariant.partly
    (λ r. ap (λ n. done_down t n r) end ∙ down-all t r)

pub loop-i-preserved : goal.loop-i-preserved
loop-i-preserved g c =
    let t = c.args.t.now in
    let old = g.M.ObjectMemory.told c.args.m.now in
    let now = g.M.ObjectMemory.told c.loop-i.m in
    let y = t.bottom - 1 - c.loop-i.i in
    let more : c.loop-i.i < t.bottom - t.top = omega arith in
    elim c.if-reads_before.branch [
      | then-reads_before+in_ok-blend_one w ↦
          (let first : reads_before t y ≡ true = sym c.reads_before.ensures ∙ w.if-reads_before.true in
          let done = w.in_ok-blend_one.ensures in
          rw w.m-is
          record {
            partly = partly_row t c.args.halftone.now old now _ (done_up t c.loop-i.i) (done_up t (c.loop-i.i + 1)) y c.requires.fit.ready c.requires.rooms c.requires.fits c.loop-i.invariant.partly
                (omega arith) (omega arith) (up-order t c.loop-i.i more) (up-fresh t c.loop-i.i more) (up-set t c.loop-i.i more first) (λ r ne. up-others t c.loop-i.i r more ne)
                done.fit.ready done.serves done.written;
            sound = done.fit.sound;
            lender = done.fit.lender ∙ c.loop-i.invariant.lender;
            outside = done.fit.outside ∙ c.loop-i.invariant.outside;
          })
      | else-reads_before w ↦
          (let later : reads_before t y ≡ false = sym c.reads_before.ensures ∙ w.if-reads_before.false in
          rw w.m-is
          record {
            partly = partly_same t c.args.halftone.now old now (done_up t c.loop-i.i) (done_up t (c.loop-i.i + 1)) c.loop-i.invariant.partly (λ r. up-skip t c.loop-i.i r more later);
            sound = c.loop-i.invariant.sound;
            lender = c.loop-i.invariant.lender;
            outside = c.loop-i.invariant.outside;
          })
    ]

pub loop-y-preserved : goal.loop-y-preserved
loop-y-preserved g c =
    let t = c.args.t.now in
    let old = g.M.ObjectMemory.told c.args.m.now in
    let now = g.M.ObjectMemory.told c.loop-y.m in
    let y = c.loop-y.y in
    elim c.if-not-reads_before.branch [
      | then-not-reads_before+in_ok-blend_one-2 w ↦
          (let later : reads_before t y ≡ false = sym c.reads_before-in-loop-y.ensures ∙ w.if-not-reads_before.true in
          let done = w.in_ok-blend_one-2.ensures in
          rw w.m-is
          record {
            partly = partly_row t c.args.halftone.now old now _ (done_down t y) (done_down t (y + 1)) y c.requires.fit.ready c.requires.rooms c.requires.fits c.loop-y.invariant.partly
                (omega arith) (omega arith) (down-order t y later) (down-fresh t y later) (down-set t y (omega arith)) (λ r ne. down-others t y r ne)
                done.fit.ready done.serves done.written;
            sound = done.fit.sound;
            lender = done.fit.lender ∙ c.loop-y.invariant.lender;
            outside = done.fit.outside ∙ c.loop-y.invariant.outside;
          })
      | else-not-reads_before w ↦
          (let first : reads_before t y ≡ true = sym c.reads_before-in-loop-y.ensures ∙ w.if-not-reads_before.false in
          rw w.m-is
          record {
            partly = partly_same t c.args.halftone.now old now (done_down t y) (done_down t (y + 1)) c.loop-y.invariant.partly (λ r. down-skip t y r (omega arith) (omega arith) first);
            sound = c.loop-y.invariant.sound;
            lender = c.loop-y.invariant.lender;
            outside = c.loop-y.invariant.outside;
          })
    ]
