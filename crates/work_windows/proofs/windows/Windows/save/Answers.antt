use Rattle.std.proofs.Common.{◌<◌, ◌∙◌, length, subst, sym, ap}
use Rattle.loom_host.specs.Work.{work_of}
use Rattle.work_windows.specs.declared.window.Window.{Window}
use Rattle.work_windows.proofs.BlankLaws.{saved-went_blank}
use Rattle.work_windows.proofs.KeptLaws.{same-default}
use Rattle.work_windows.proofs.OverLaws.{saved-went}
use Rattle.work_windows.proofs.windows.Windows.save.Goals as goal

pub returns-clause-over : goal.returns-clause-over
returns-clause-over g c = λ told all over.
    let ws = c.args.self.now.written.items.items in
    let below : c.index_of-index.result < length ws = subst (λ i. i < length ws) (sym c.index_of-index.ensures) c.requires.there in
    saved-went c.save.result (work_of g.H.Host c.args.host.now) (work_of g.H.Host c.save.new.host) all ws c.args.self.now.limit c.index_of-index.result c.index_mut.result.now c.save.new.self over below c.index_mut.ensures.value c.save.ensures.place (c.save.ensures.work told)

pub returns-clause-blank : goal.returns-clause-blank
returns-clause-blank g c = λ told was.
    let ws = c.args.self.now.written.items.items in
    let i = c.index_of-index.result in
    let below : i < length ws = subst (λ i. i < length ws) (sym c.index_of-index.ensures) c.requires.there in
    let one = same-default ws i c.index.result.now c.index_mut.result.now below c.index.ensures ∙ sym c.index_mut.ensures.value in
    saved-went_blank c.save.result (work_of g.H.Host c.args.host.now) (work_of g.H.Host c.save.new.host) c.args.self.now.limit c.index_mut.result.now c.args.self.now.blanks c.note_shown.new.self c.note_shown.ensures.kept
    (λ own k at. c.note_shown.ensures.noted own k (ap (λ (w : Window). w.place) one ∙ at)) was (c.save.ensures.work told)
