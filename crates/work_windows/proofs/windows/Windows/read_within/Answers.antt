use Rattle.std.proofs.Common.{◌≡◌, ◌∙◌, ap, sym, length, replicate, rules}
use Rattle.std.proofs.lemmas.Bool.{iff_false}
use Rattle.loom_host.specs.Bytes.{window}
use Rattle.loom_host.specs.Work.{work_of}
use Rattle.loom_host.proofs.WorkLaws.{work-same}
use Rattle.loom_host.specs.Outside.{RoleState}
use Rattle.loom_host.specs.declared.outside.Role.TheVariants.{Work}
use Rattle.work_windows.proofs.RowLaws.{stands-same}
use Rattle.work_windows.proofs.BlankLaws.{blank-piece}
use Rattle.work_windows.proofs.OverLaws.{away-inside, ok-as}
use Rattle.work_windows.proofs.windows.Windows.read_within.Goals as goal

pub returns-clause-bytes : goal.returns-clause-bytes
returns-clause-bytes g c = λ told all st.
    let w = c.args.self.now in
    let n = length c.args.buf.now in
    let away = iff_false c.has.ensures c.if-has.false in
    ok-as c.read_at.result _ _ _ (ap (λ work. window work c.args.place n) (work-same g.H.Host _ _ c.in_ok-shows.ensures.read) ∙ away-inside (work_of g.H.Host c.args.host.now) all w.written.items.items w.limit c.args.place n st.over away c.requires) (c.read_at.ensures.bytes told)

pub returns-clause-stands : goal.returns-clause-stands
returns-clause-stands g c = λ told all st. stands-same (work_of g.H.Host c.shows.new.host) _ all c.shows.new.self (c.in_ok-shows.ensures.stands told all st) (ap (λ (s : RoleState). s.contents) (c.read_at.ensures.roles Work))

pub returns-then-has-3-clause-bytes : goal.returns-then-has-3-clause-bytes
returns-then-has-3-clause-bytes g c = λ told all st.
    let w = c.args.self.now in
    let n = length c.args.buf.now in
    let away = iff_false c.has.ensures c.if-has.false in
    let filled : c.fill.new.self ≡ replicate n 0 = search rules in
    let zeros = blank-piece (work_of g.H.Host c.args.host.now) w.blanks c.args.place n st.blank (sym c.has-3.ensures ∙ c.if-has-3.true) c.requires in
    filled ∙ zeros ∙ away-inside (work_of g.H.Host c.args.host.now) all w.written.items.items w.limit c.args.place n st.over away c.requires
