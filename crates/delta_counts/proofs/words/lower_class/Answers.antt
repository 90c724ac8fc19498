use Rattle.std.proofs.Common.{map, refl, arith}
use Rattle.object_record.specs.Raw.{longs_of}
use Rattle.object_record.specs.Buffer.{raw_of}
use Rattle.object_record.specs.Objects.{value_in}
use Rattle.delta_counts.proofs.LowerLaws.{ok-map}
use Rattle.delta_counts.proofs.WordLaws.{sound-can, class-can, class-sound, reached-class}
use Rattle.delta_counts.proofs.FaultLaws.{err-map, fault-again}
use Rattle.delta_counts.proofs.words.lower_class.Goals as goal

pub lower-requires-clause-can : goal.lower-requires-clause-can
lower-requires-clause-can g c = class-can g.H.Host c.args.p.now c.args.disk.now.host.now c.args.disk.now.rest (raw_of c.args.buf.now) c.class.result c.class.ensures c.requires.sound

pub returns-clause-lowered : goal.returns-clause-lowered
returns-clause-lowered g c = λ told chunks t at x.
    let y = class-sound t (raw_of c.args.buf.now) c.class.result c.class.ensures x in
    ok-map c.lower.result (λ now. reached-class g.H.Host chunks c.lower.new.p c.lower.new.disk.host.now c.lower.new.disk.rest t c.class.result (map value_in (longs_of (raw_of c.args.buf.now).body)) y now)
    (c.lower.ensures.lowered told chunks t at (sound-can t c.class.result (map value_in (longs_of (raw_of c.args.buf.now).body)) y))

pub returns-clause-fault : goal.returns-clause-fault
returns-clause-fault g c = err-map c.lower.result
    (λ f x. fault-again _ _ _ _ c.args.disk.now.rest c.args.disk.now.rest c.class.result _ f (omega arith) refl c.class.ensures x) c.lower.ensures.fault
