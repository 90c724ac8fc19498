use Rattle.std.proofs.Common.{List, ℕ, sym, subst}
use Rattle.std.proofs.lemmas.Result.{on_ok_weaker, IfErr-weaker}
use Rattle.std.specs.FinMap as map
use Rattle.work_directory.specs.declared.directory.Found.TheVariants.{Vacant}
use Rattle.work_directory.specs.Directory.{slots_of, entries_of, AnswersSearch, IsIn, IsChanged}
use Rattle.work_directory.specs.Table.{entry_of}
use Rattle.work_directory.specs.Work.{IsCause}
use Rattle.loom_host.specs.Work.{work_of}
use Rattle.work_directory.proofs.CauseLaws.{damaged-cause, cause-later}
use Rattle.work_directory.proofs.ChangeLaws.{found-held, some-absent}
use Rattle.loom_host.proofs.WorkLaws.{work-same}
use Rattle.work_directory.proofs.directory.Directory.add.Goals as goal

-- the name isn't held, so the search meets no slot of it
pub returns-in-Held-clause-cause : goal.returns-in-Held-clause-cause
returns-in-Held-clause-cause g c = λ room.
    let h = g.H.Host in
    let d = c.args.self.now in
    let of = rw c.in-Held.is at c.in_ok-at.ensures.name in
    damaged-cause h c.args.host.now c.search.new.host (slots_of d) c.in-Held.at c.args.slot.name c.damaged.result c.damaged.ensures of.0
    (λ told.
    let here = rw c.in-Held.is at (c.in_ok-at.ensures.found told) in
    some-absent _ _ (found-held d (work_of h c.args.host.now) c.args.slot.name c.in-Held.at c.in-Held.slot (c.requires.stands told) of
    here) (c.requires.absent told))

pub add_at-requires-clause-stands : goal.add_at-requires-clause-stands
add_at-requires-clause-stands g c told =
    subst (IsIn c.args.self.now) (sym (work-same g.H.Host c.args.host.now c.search.new.host c.in_ok-at.ensures.read)) (c.requires.stands told)

pub add_at-requires-clause-vacant : goal.add_at-requires-clause-vacant
add_at-requires-clause-vacant g c = (
  (rw c.in-Vacant.is at c.in_ok-at.ensures.name),
  λ told. subst (λ (w : List ℕ). AnswersSearch w (slots_of c.args.self.now) c.args.slot.name (Vacant c.in-Vacant.at))
      (sym (work-same g.H.Host c.args.host.now c.search.new.host c.in_ok-at.ensures.read)) (rw c.in-Vacant.is at (c.in_ok-at.ensures.found told)),
)

pub returns-in-Vacant-clause-added : goal.returns-in-Vacant-clause-added
returns-in-Vacant-clause-added g c =
    let h = g.H.Host in
    let d = c.args.self.now in
    on_ok_weaker c.add_at.result (λ changed told.
    subst (λ (v : List ℕ). IsChanged c.add_at.new.self (map.insert (entries_of d v) c.args.slot.name (entry_of c.args.slot)) v (work_of h c.add_at.new.host))
    (work-same h c.args.host.now c.search.new.host c.in_ok-at.ensures.read) (changed told)) c.add_at.ensures.added

pub returns-in-Vacant-clause-written : goal.returns-in-Vacant-clause-written
returns-in-Vacant-clause-written g c =
    let h = g.H.Host in
    on_ok_weaker c.add_at.result (λ block. record {
      at = c.in-Vacant.at;
      ends = ((rw c.in-Vacant.is at c.in_ok-at.ensures.name), λ told. rw c.in-Vacant.is at (c.in_ok-at.ensures.found told));
      block = block;
    }) c.add_at.ensures.written

pub returns-in-Vacant-clause-cause : goal.returns-in-Vacant-clause-cause
returns-in-Vacant-clause-cause g c = λ room.
    let h = g.H.Host in
    let end = slots_of c.args.self.now in
    IfErr-weaker c.add_at.result (IsCause h c.search.new.host c.add_at.new.host end c.args.slot.name)
    (IsCause h c.args.host.now c.add_at.new.host end c.args.slot.name)
    (λ fault. cause-later h c.args.host.now c.search.new.host c.add_at.new.host end c.args.slot.name fault c.in_ok-at.ensures.read.later) c.add_at.ensures.cause
