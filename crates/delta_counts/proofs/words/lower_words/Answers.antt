use Rattle.std.proofs.Common.{map, ◌∙◌}
use Rattle.loom_host.proofs.WorkLaws.{work-again, exits}
use Rattle.delta_counts.proofs.PartLaws.{counting-trans, counting-names}
use Rattle.delta_counts.proofs.LowerLaws.{ok-map}
use Rattle.delta_counts.proofs.WordLaws.{reached-then, class-some, fields-some}
use Rattle.delta_counts.proofs.FaultLaws.{err-map, fault-words, words-again}
use Rattle.loom_host.specs.declared.outside.Role.TheVariants.{Work}
use Rattle.object_record.specs.Buffer.{raw_of}
use Rattle.object_record.specs.Objects.{object_in, value_in}
use Rattle.object_record.specs.Raw.{longs_of}
use Rattle.core_view.specs.Counted.{words_of}
use Rattle.delta_counts.specs.Faults.{IsWordsFault}
use Rattle.delta_counts.proofs.words.lower_words.Goals as goal

pub lower_fields-requires-clause-names : goal.lower_fields-requires-clause-names
lower_fields-requires-clause-names g c = counting-names c.args.p.now c.lower_class.new.p c.lower_class.ensures.counting c.requires.names

pub lower_fields-requires-clause-sound : goal.lower_fields-requires-clause-sound
lower_fields-requires-clause-sound g c = λ told.
    let x = c.requires.sound told in
    let r = c.in_ok-lower_class.ensures.lowered told x.0 x.1 x.2 x.3 in
    (x.0, r.levels, r.at, r.sound)

pub returns-clause-lowered : goal.returns-clause-lowered
returns-clause-lowered g c = λ told chunks t at x.
    let r = c.in_ok-lower_class.ensures.lowered told chunks t at x in
    ok-map c.lower_fields.result (λ now. reached-then g.H.Host chunks c.lower_fields.new.p c.lower_fields.new.disk.host.now c.lower_fields.new.disk.rest t r.levels _ r.heap now)
    (c.lower_fields.ensures.lowered told chunks r.levels r.at r.sound)

pub returns-clause-counting : goal.returns-clause-counting
returns-clause-counting g c = counting-trans c.args.p.now c.lower_class.new.p c.lower_fields.new.p c.lower_class.ensures.counting c.lower_fields.ensures.counting

pub returns-clause-held : goal.returns-clause-held
returns-clause-held g c = c.lower_fields.ensures.held ∙ c.lower_class.ensures.held

pub returns-clause-room : goal.returns-clause-room
returns-clause-room g c = c.lower_fields.ensures.room ∙ c.lower_class.ensures.room

pub returns-clause-same_host : goal.returns-clause-same_host
returns-clause-same_host g c = c.lower_fields.ensures.same_host ∙ c.lower_class.ensures.same_host

pub returns-clause-work : goal.returns-clause-work
returns-clause-work g c = work-again g.H.Host c.args.disk.now.host.now c.lower_class.new.disk.host.now c.lower_fields.new.disk.host.now c.lower_class.ensures.work c.lower_fields.ensures.work

pub returns-in_err-lower_class-clause-fault : goal.returns-in_err-lower_class-clause-fault
returns-in_err-lower_class-clause-fault g c =
    let h = g.H.Host in
    exits c.from_residual.result c.in_err-lower_class.field-0.0
    (IsWordsFault (h.tells Work) (h.faults c.args.disk.now.host.now Work) (h.faults c.lower_class.new.disk.host.now Work) c.args.disk.now.rest (words_of (object_in (raw_of c.args.buf.now))) c.args.place (raw_of c.args.buf.now).name)
    c.from_residual.ensures.1
    (fault-words _ _ _ c.args.disk.now.rest (words_of (object_in (raw_of c.args.buf.now))) c.args.place (raw_of c.args.buf.now).name (raw_of c.args.buf.now).class c.in_err-lower_class.field-0.0 (class-some (raw_of c.args.buf.now)) c.in_err-lower_class.ensures.fault)

pub returns-clause-fault : goal.returns-clause-fault
returns-clause-fault g c = err-map c.lower_fields.result
    (λ f x. words-again _ _ _ _ c.args.disk.now.rest c.lower_class.new.disk.rest (map value_in (longs_of (raw_of c.args.buf.now).body)) (words_of (object_in (raw_of c.args.buf.now))) c.args.place (raw_of c.args.buf.now).name f c.lower_class.ensures.work.later c.lower_class.ensures.room (fields-some (raw_of c.args.buf.now)) x) c.lower_fields.ensures.fault
