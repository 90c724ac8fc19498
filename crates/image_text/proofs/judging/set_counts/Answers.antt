use Rattle.std.proofs.Common.{refl, ◌∙◌, arith}
use Rattle.loom_host.proofs.WorkLaws.{work-again, work-itself}
use Rattle.image_reader.specs.Frames.{IsDiskFault}
use Rattle.image_reader.proofs.Frames.{leaves, work_loading}
use Rattle.image_text.specs.Judged.{words_of}
use Rattle.image_text.proofs.JudgeTexts.{disk_later, sets_more, sets_none, still_none}
use Rattle.image_text.proofs.judging.set_counts.Goals as goal

pub loop-i-init : goal.loop-i-init
loop-i-init g c = record {
  sets = λ told. sets_none g.H.Host c.args.disk.now.host.now c.args.disk.now.rest (words_of c.args.tally.now) (c.requires.none told);
  held = refl;
  room = refl;
  work = work-itself g.H.Host c.args.disk.now.host.now;
  same_host = refl;
}

pub set_count-requires : goal.set_count-requires
set_count-requires g c =
    let inv = c.loop-i.invariant in
    record {
      none = λ told. (inv.sets told).none;
      uncounted = λ told. still_none g.H.Host c.args.disk.now.host.now c.loop-i.disk.host.now c.args.disk.now.rest c.loop-i.disk.rest (words_of c.args.tally.now) c.args.tally.now.names c.loop-i.i c.name-name.result c.requires.rising c.name-name.ensures (c.requires.uncounted told) (inv.sets told);
      small = λ told. let low = c.requires.small told c.name-name.result in omega (arith, low, c.words_of-count.ensures);
    }

pub returns-in_err-set_count-clause-fault : goal.returns-in_err-set_count-clause-fault
returns-in_err-set_count-clause-fault g c =
    leaves (IsDiskFault g.H.Host c.args.disk.now.host.now c.set_count.new.disk.host.now) c.from_residual.result c.in_err-set_count.field-0.0 c.from_residual.ensures.1
    (disk_later g.H.Host c.args.disk.now.host.now c.loop-i.disk.host.now c.set_count.new.disk.host.now c.in_err-set_count.field-0.0 (work_loading g.H.Host c.args.disk.now.host.now c.loop-i.disk.host.now c.loop-i.invariant.work) c.in_err-set_count.ensures.fault)

pub loop-i-preserved : goal.loop-i-preserved
loop-i-preserved g c =
    let inv = c.loop-i.invariant in
    record {
      sets = λ told.
          sets_more g.H.Host c.args.disk.now.host.now c.loop-i.disk.host.now c.set_count.new.disk.host.now c.args.disk.now.rest c.loop-i.disk.rest c.set_count.new.disk.rest (words_of c.args.tally.now) c.args.tally.now.names c.loop-i.i c.name-name.result c.words_of-count.result c.name-name.ensures (inv.sets told)
          c.words_of-count.ensures (c.in_ok-set_count.ensures.sets told);
      held = c.set_count.ensures.held ∙ inv.held;
      room = c.set_count.ensures.room ∙ inv.room;
      work = work-again g.H.Host c.args.disk.now.host.now c.loop-i.disk.host.now c.set_count.new.disk.host.now inv.work c.set_count.ensures.work;
      same_host = c.set_count.ensures.same_host ∙ inv.same_host;
    }
