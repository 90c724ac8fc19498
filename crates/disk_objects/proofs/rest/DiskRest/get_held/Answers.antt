use Rattle.std.proofs.Common.{inr, ℕ, List, Option, sym, subst, ap}
use Rattle.std.specs.Option.{option_map}
use Rattle.work_directory.specs.Table.{Entry, entry_of}
use Rattle.loom_host.specs.declared.outside.Role.TheVariants.{Work}
use Rattle.loom_host.specs.Work.{work_of}
use Rattle.disk_objects.specs.Calls.{IsFault}
use Rattle.disk_objects.specs.Disk.{IsLaid}
use Rattle.disk_objects.specs.Places.{IsReadPlace}
use Rattle.loom_host.proofs.WorkLaws.{work-same, exits}
use Rattle.disk_objects.proofs.FoundLaws.{record-sound, stored-there, got-there}
use Rattle.disk_objects.proofs.rest.DiskRest.get_held.Goals as goal

pub returns-in_err-read_record-clause-fault : goal.returns-in_err-read_record-clause-fault
returns-in_err-read_record-clause-fault g c =
    let h = g.H.Host in
    let slot = c.in_ok-held.held.slot in
    let fault = c.in_err-read_record.field-0.0 in
    exits c.from_residual-in_err-read_record.result fault
    (IsFault (h.tells Work) (h.faults c.args.host.now Work) (h.faults c.read_record.new.host Work) (IsReadPlace c.args.self.now) c.args.name)
    c.from_residual-in_err-read_record.ensures.1
    (record-sound (h.tells Work) (h.faults c.args.host.now Work) (h.faults c.find_held.new.host Work) (h.faults c.read_record.new.host Work) slot.place c.args.name (IsReadPlace c.args.self.now) fault (inr c.in_ok-held.ensures.place)
    (λ told.
    let v : List ℕ = work_of h c.args.host.now in
    let s = c.requires.stands told in
    let found = c.in_ok-held.ensures.found told in
    let st = stored-there c.args.self.now v s.0 s.1 s.2 c.args.name (entry_of slot) found in
    let link : ℕ = s.2.link c.args.name in
    c.in_err-read_record.ensures.told told st.0.raw link st.2.raw st.2.named
    (subst (λ (w : List ℕ). IsLaid w slot.place st.0.raw link) (sym (work-same h c.args.host.now c.find_held.new.host c.in_ok-held.ensures.read)) st.2.laid))
    c.in_ok-held.ensures.read.later c.in_err-read_record.ensures.fault)

pub returns-clause-got : goal.returns-clause-got
returns-clause-got g c told objects pending k =
    let h = g.H.Host in
    let slot = c.in_ok-held.held.slot in
    let v : List ℕ = work_of h c.args.host.now in
    let found = c.in_ok-held.ensures.found told in
    let st = stored-there c.args.self.now v objects pending k c.args.name (entry_of slot) found in
    let link : ℕ = k.link c.args.name in
    got-there _ _ st.0 st.1 c.in_ok-read_record.ensures.record.0
    (c.in_ok-read_record.ensures.told told st.0.raw link st.2.raw st.2.named
    (subst (λ (w : List ℕ). IsLaid w slot.place st.0.raw link) (sym (work-same h c.args.host.now c.find_held.new.host c.in_ok-held.ensures.read)) st.2.laid))
    st.2.uncounted

pub returns-clause-place : goal.returns-clause-place
returns-clause-place g c = c.in_ok-held.ensures.place

pub returns-clause-at : goal.returns-clause-at
returns-clause-at g c told = ap (λ (o : Option Entry). option_map (λ (e : Entry). e.place) o) (c.in_ok-held.ensures.found told)
